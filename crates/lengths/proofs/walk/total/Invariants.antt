use Rattle.std.proofs.Common.{◌≡◌, ◌≤◌, ◌+◌, ◌*◌, drop}
use Rattle.laws.specs.Fold.{sum}
use Rattle.lengths.proofs.walk.total.Given as goal

abbrev pub invariant-loop-length : goal.invariant-loop-length
invariant-loop-length l = (l.bytes ≤ 65535 * l.length-index) × (l.bytes + sum (drop l.length-index l.lens) ≡ sum l.lens)
