use Rattle.std.specs.Slice.Iter.{chunks_exact_rest, chunks_exact_size}
use Rattle.std.specs.Prelude.{Bool}
use Rattle.std.proofs.Common.{arith, sym, ◌≡◌, ◌+◌, ◌-◌, ◌%◌, ◌∙◌, ap, length, length-append}
use Rattle.laws.specs.Choice.{also, also_assoc, and_also}
use Rattle.laws.specs.Fold.{every, every_append}
use Rattle.laws.specs.Bytes.{is_zero}
use Rattle.runs.specs.Ends.{further, all_rest, same_rest}
use Rattle.runs.proofs.blank.zeros.Goals as goal

pub loop-part-init : goal.loop-part-init
unfolding also
loop-part-init c =
    let gives = c.into_iter-part-iterator.ensures.into_iter_gives in
    let xs = c.args.s.now in
    let r : chunks_exact_rest c.into_iter-part-iterator.result ≡ xs = ap chunks_exact_rest gives ∙ c.chunks_exact-parts.ensures.rest in
    let l : length (chunks_exact_rest c.into_iter-part-iterator.result) ≡ length xs = ap length r in (
      ap chunks_exact_size gives ∙ c.chunks_exact-parts.ensures.size,
      omega (arith, l),
      omega (arith, l),
      all_rest xs (chunks_exact_rest c.into_iter-part-iterator.result) r,
      ap (every is_zero) r,
    )

pub loop-part-preserved : goal.loop-part-preserved
loop-part-preserved c =
    let s = c.in-Some.ensures.steps in
    let i = c.loop-part.invariant in
    let xs = c.args.s.now in
    let part = c.in-Some.part.now in
    let here = chunks_exact_rest c.loop-part.part-iterator in
    let rest = chunks_exact_rest c.next.new.self in
    let l : length here ≡ length part + length rest = ap length s.1.0 ∙ length-append part rest in (
      s.0 ∙ i.0,
      omega (arith, l, i.1),
      omega (arith, l, i.0, i.1, i.2, s.1.1),
      further xs here part rest s.1.0 i.3 i.1,
      ap (λ (b : Bool). also b (every is_zero rest)) (and_also c.loop-part.ok c.zeros_in-ok.result)
          ∙ also_assoc c.loop-part.ok c.zeros_in-ok.result (every is_zero rest)
          ∙ ap (also c.loop-part.ok)
          (ap (λ (b : Bool). also b (every is_zero rest)) c.zeros_in-ok.ensures
          ∙ sym (every_append is_zero part rest)
          ∙ ap (every is_zero) (sym s.1.0))
          ∙ i.4,
    )

pub returns : goal.returns
returns c =
    let i = c.loop-part.invariant in
    let xs = c.args.s.now in
    let here = chunks_exact_rest c.loop-part.part-iterator in
    let few : length here ≡ length xs % 1024 = omega (arith, c.in-None.ensures.steps.1.0, i.0, i.1, i.2) in
    let same : here ≡ c.remainder-rest.result.now =
    same_rest xs here c.remainder-rest.result.now (length xs % 1024) i.3 few (c.remainder-rest.ensures ∙ c.chunks_exact-parts.ensures.remainder) in
    and_also c.loop-part.ok c.zeros_in.result ∙ ap (also c.loop-part.ok) (c.zeros_in.ensures ∙ ap (every is_zero) (sym same)) ∙ i.4
