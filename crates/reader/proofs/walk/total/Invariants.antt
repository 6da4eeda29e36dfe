use Rattle.std.proofs.Common.{◌≡◌, ◌≤◌, ◌+◌, ◌-◌, ◌*◌, ◌%◌, length, drop}
use Rattle.std.specs.Slice.Iter.{chunks_exact_rest, chunks_exact_size}
use Rattle.laws.specs.Fold.{sum}
use Rattle.reader.proofs.walk.total.Given as goal

abbrev pub invariant-loop-part : goal.invariant-loop-part
invariant-loop-part l =
    let rest = chunks_exact_rest l.part-iterator in
    (chunks_exact_size l.part-iterator ≡ 64)
    × (length rest ≤ length l.lengths)
    × ((length l.lengths - length rest) % 64 ≡ 0)
    × (rest ≡ drop (length l.lengths - length rest) l.lengths)
    × (l.bytes + 255 * length rest ≤ 255 * length l.lengths)
    × (l.bytes + sum rest ≡ sum l.lengths)
