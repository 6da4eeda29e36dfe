use Rattle.std.proofs.Common.{◌≡◌, drop}
use Rattle.laws.specs.Choice.{also}
use Rattle.laws.specs.Fold.{every}
use Rattle.range.specs.Form.{ok_length}
use Rattle.lengths.proofs.walk.every_length_ok.Given as goal

abbrev pub invariant-loop-length : goal.invariant-loop-length
invariant-loop-length l = also l.ok (every (ok_length l.most) (drop l.length-index l.lens)) ≡ every (ok_length l.most) l.lens
