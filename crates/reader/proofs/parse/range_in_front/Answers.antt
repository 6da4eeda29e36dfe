use mathlib.Core.Path.{sym, ◌∙◌}
use native.Mathlib.Omega.{arith}
use Rattle.laws.specs.Bytes.{bytes_all}
use Rattle.reader.specs.Front.{front_small, front_past, front_counts, front_counted, front_holds, front_bad_length, front_nonzero, front_yes}
use Rattle.reader.specs.Range.{Small, Said}
use Rattle.reader.proofs.parse.range_in_front.Goals as goal
use Rattle.reader.proofs.parse.range_in_front.Goals.{After-contents-c, Then-counts_ok}

small : (c : After-contents-c) → Small c.contents-c.result
small c =
    front_small _ _ c.contents-c.ensures
    (bytes_all c.args.s.now (λ i h. omega (arith, c.shared_slice_known-1.given i)))

said : (c : Then-counts_ok) → Said c.args.s.now c.contents-c.result
said c = front_counted _ _ c.contents-c.ensures (omega arith) (sym c.counts_ok.ensures ∙ c.if-counts_ok.true)

pub overflow_mul-size : goal.overflow_mul-size
overflow_mul-size c = let s = small (goal.at.overflow_mul-size c).After-contents-c in omega arith

pub returns-then-s-size : goal.returns-then-s-size
returns-then-s-size c = front_past _ _ c.contents-c.ensures (omega arith)

pub overflow_add-bodies : goal.overflow_add-bodies
overflow_add-bodies c = let s = small (goal.at.overflow_add-bodies c).After-contents-c in omega arith

pub overflow_add-end : goal.overflow_add-end
overflow_add-end c = let s = small (goal.at.overflow_add-end c).After-contents-c in omega arith

pub slice_bounds-lengths_ok-end : goal.slice_bounds-lengths_ok-end
slice_bounds-lengths_ok-end c = let s = said (goal.at.slice_bounds-lengths_ok-end c).Then-counts_ok in omega arith

pub slice_bounds-zeros-count : goal.slice_bounds-zeros-count
slice_bounds-zeros-count c =
    let q = c in
    omega (arith, front_holds _ _ c.contents-c.ensures (omega arith) (sym c.counts_ok.ensures ∙ c.if-counts_ok.true))

pub slice_bounds-zeros-start : goal.slice_bounds-zeros-start
slice_bounds-zeros-start c =
    let q = c in
    omega (arith, front_holds _ _ c.contents-c.ensures (omega arith) (sym c.counts_ok.ensures ∙ c.if-counts_ok.true))

pub returns-then-zeros : goal.returns-then-zeros
returns-then-zeros c =
    let q = c in
    front_yes _ _ c.contents-c.ensures (omega arith) (sym c.counts_ok.ensures ∙ c.if-counts_ok.true) _ c.lengths_ok.ensures _ c.zeros.ensures
    c.if-lengths_ok.true c.if-zeros.true

pub returns-else-zeros : goal.returns-else-zeros
returns-else-zeros c =
    let q = c in
    front_nonzero _ _ c.contents-c.ensures (omega arith) (sym c.counts_ok.ensures ∙ c.if-counts_ok.true) _ c.lengths_ok.ensures _ c.zeros.ensures c.if-zeros.false

pub returns-else-lengths_ok : goal.returns-else-lengths_ok
returns-else-lengths_ok c =
    let q = c in
    front_bad_length _ _ c.contents-c.ensures (omega arith) (sym c.counts_ok.ensures ∙ c.if-counts_ok.true) _ c.lengths_ok.ensures c.if-lengths_ok.false

pub returns-else-counts_ok : goal.returns-else-counts_ok
returns-else-counts_ok c = front_counts _ _ c.contents-c.ensures (sym c.counts_ok.ensures ∙ c.if-counts_ok.false)
