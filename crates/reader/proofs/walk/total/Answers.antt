use Rattle.std.specs.Slice.Iter.{chunks_exact_rest, chunks_exact_size}
use Rattle.std.proofs.Common.{arith, ◌≡◌, ◌+◌, ◌-◌, ◌%◌, ◌∙◌, ap, length, length-append}
use Rattle.laws.specs.Fold.{sum, sum_append}
use Rattle.runs.specs.Ends.{further, all_rest, same_rest}
use Rattle.reader.proofs.walk.total.Goals as goal

pub loop-part-init : goal.loop-part-init
loop-part-init c =
    let gives = c.into_iter-part-iterator.ensures.into_iter_gives in
    let xs = c.args.lengths.now in
    let r : chunks_exact_rest c.into_iter-part-iterator.result ≡ xs = ap chunks_exact_rest gives ∙ c.chunks_exact-parts.ensures.rest in
    let l : length (chunks_exact_rest c.into_iter-part-iterator.result) ≡ length xs = ap length r in (
      ap chunks_exact_size gives ∙ c.chunks_exact-parts.ensures.size,
      omega (arith, l),
      omega (arith, l),
      all_rest xs (chunks_exact_rest c.into_iter-part-iterator.result) r,
      omega (arith, l),
      omega (arith, ap sum r),
    )

pub loop-part-preserved : goal.loop-part-preserved
loop-part-preserved c =
    let s = c.in-Some.ensures.steps in
    let i = c.loop-part.invariant in
    let xs = c.args.lengths.now in
    let here = chunks_exact_rest c.loop-part.part-iterator in
    let rest = chunks_exact_rest c.next.new.self in
    let l : length here ≡ length c.in-Some.part.now + length rest = ap length s.1.0 ∙ length-append c.in-Some.part.now rest in
    let n : sum here ≡ sum c.in-Some.part.now + sum rest = ap sum s.1.0 ∙ sum_append c.in-Some.part.now rest in (
      s.0 ∙ i.0,
      omega (arith, l, i.1),
      omega (arith, l, i.0, i.1, i.2, s.1.1),
      further xs here c.in-Some.part.now rest s.1.0 i.3 i.1,
      omega (arith, l, c.total_in-bytes.ensures.1, i.4),
      omega (arith, n, c.total_in-bytes.ensures.0, i.5),
    )

pub returns : goal.returns
returns c =
    let i = c.loop-part.invariant in
    let xs = c.args.lengths.now in
    let here = chunks_exact_rest c.loop-part.part-iterator in
    let few : length here ≡ length xs % 64 = omega (arith, c.in-None.ensures.steps.1.0, i.0, i.1, i.2) in
    let same : here ≡ c.remainder-rest.result.now =
    same_rest xs here c.remainder-rest.result.now (length xs % 64) i.3 few (c.remainder-rest.ensures ∙ c.chunks_exact-parts.ensures.remainder) in
    (omega (arith, ap sum same, i.5, c.total_in.ensures.0), omega (arith, ap length same, i.4, c.total_in.ensures.1))
