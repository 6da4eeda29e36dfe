use Prim.Native.Nat.{◌-◌}
use lib.ListN.{length}
use Rattle.unpacker.specs.Unpack.{Unpacked}
use Rattle.unpacker.proofs.replay.unpack_all.Given as goal

abbrev pub invariant-loop-at : goal.invariant-loop-at
invariant-loop-at l = Unpacked l.s l.at l.n l.t l.initial.bytes l.bytes l.initial.lens l.lens

abbrev pub decreases-loop-at : goal.decreases-loop-at
decreases-loop-at l = length l.s - l.at
