use Rattle.std.proofs.Common.{◌≡◌, ◌≤◌, ◌+◌, ◌*◌, drop}
use Rattle.laws.specs.Fold.{sum}
use Rattle.reader.proofs.walk.total_in.Given as goal

abbrev pub invariant-loop-length : goal.invariant-loop-length
invariant-loop-length l = (l.bytes ≤ 255 * l.length-index) × (l.bytes + sum (drop l.length-index l.lengths) ≡ sum l.lengths)
