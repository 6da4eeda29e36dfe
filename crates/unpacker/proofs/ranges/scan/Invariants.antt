use Prim.Native.Nat.{◌-◌}
use lib.ListN.{length}
use Rattle.unpacker.specs.Walked.{Walked}
use Rattle.unpacker.proofs.ranges.scan.Given as goal

abbrev pub invariant-loop-at : goal.invariant-loop-at
invariant-loop-at l = Walked l.s l.at l.entries l.bytes

abbrev pub decreases-loop-at : goal.decreases-loop-at
decreases-loop-at l = length l.s - l.at
