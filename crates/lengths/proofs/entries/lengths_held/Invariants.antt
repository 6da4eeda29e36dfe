use Rattle.std.proofs.Common.{◌≡◌}
use Rattle.std.specs.Slice.Iter.{chunks_rest, chunks_size}
use Rattle.lengths.specs.Held.{PartsHeld}
use Rattle.lengths.proofs.entries.lengths_held.Given as goal

abbrev pub invariant-loop-part : goal.invariant-loop-part
invariant-loop-part l = (chunks_size l.part-iterator ≡ 4096) × PartsHeld l.most l.room l.lens (chunks_rest l.part-iterator) l.sum
