use Rattle.std.proofs.Common.{◌≡◌, ◌≤◌, ◌-◌, ◌%◌, length, drop}
use Rattle.std.specs.Slice.Iter.{chunks_exact_rest, chunks_exact_size}
use Rattle.laws.specs.Choice.{also}
use Rattle.laws.specs.Fold.{every}
use Rattle.laws.specs.Bytes.{is_zero}
use Rattle.runs.proofs.blank.zeros.Given as goal

abbrev pub invariant-loop-part : goal.invariant-loop-part
invariant-loop-part l =
    let rest = chunks_exact_rest l.part-iterator in
    (chunks_exact_size l.part-iterator ≡ 1024)
    × (length rest ≤ length l.s)
    × ((length l.s - length rest) % 1024 ≡ 0)
    × (rest ≡ drop (length l.s - length rest) l.s)
    × (also l.ok (every is_zero rest) ≡ every is_zero l.s)
