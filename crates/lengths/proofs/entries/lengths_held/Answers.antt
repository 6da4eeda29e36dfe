use Rattle.std.proofs.Common.{rules, arith, ℕ, ◌≡◌, ◌+◌, ◌∙◌, sym, subst, List}
use Rattle.std.specs.Slice.Iter.{chunks_rest}
use Rattle.lengths.specs.Held.{PartsHeld, parts_none, parts_no, parts_next, parts_all}
use Rattle.lengths.proofs.entries.lengths_held.Goals as goal
use Rattle.lengths.proofs.entries.lengths_held.Goals.{In_ok-sum}

next : (c : In_ok-sum)
    → PartsHeld c.args.most c.args.room c.args.lens.now (chunks_rest c.next.new.self) (c.loop-part.sum + c.in_ok-sum.field-0)
next c = parts_next _ _ _ _ _ c.loop-part.invariant.1 _ _ c.in-Some.ensures.steps.1.0 _ c.in_ok-sum.ensures

pub loop-part-init : goal.loop-part-init
loop-part-init c =
    let e : chunks_rest c.into_iter-part-iterator.result ≡ c.args.lens.now = search rules in
    (search rules, subst (λ (xs : List ℕ). PartsHeld c.args.most c.args.room c.args.lens.now xs 0) (sym e) (parts_none _ _ _))

pub part_held-requires : goal.part_held-requires
part_held-requires c = omega (arith, c.in-Some.ensures.steps.1.1, c.loop-part.invariant.0)

pub returns-in_err-sum : goal.returns-in_err-sum
returns-in_err-sum c =
    c.from_residual.ensures ∙ parts_no _ _ _ _ _ c.loop-part.invariant.1 _ _ c.in-Some.ensures.steps.1.0 c.in_err-sum.ensures

pub overflow_add-sum : goal.overflow_add-sum
overflow_add-sum c = let n = next (goal.at.overflow_add-sum c).In_ok-sum in omega (arith, n.fit)

pub loop-part-preserved : goal.loop-part-preserved
loop-part-preserved c = (c.in-Some.ensures.steps.0 ∙ c.loop-part.invariant.0, next (goal.at.loop-part-preserved c).In_ok-sum)

pub returns : goal.returns
returns c = parts_all _ _ _ _ _ c.loop-part.invariant.1 c.in-None.ensures.steps.1.0
