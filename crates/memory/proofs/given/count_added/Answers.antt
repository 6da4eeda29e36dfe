use Rattle.std.specs.Prelude.{ℕ, Ok}
use Rattle.std.proofs.Common.{sym, ◌∙◌, ap, length-take-le}
use Rattle.laws.specs.Choice.{and_then_done, ask_fails}
use Rattle.range.specs.Memory.{view}
use Rattle.refusal.specs.Refusal.{yes, yes_value, ok_unless, unless_ok}
use Rattle.memory.specs.Given.{memory, count_of, given_asked, ask_added, asked_added}
use Rattle.memory.proofs.given.count_added.Goals as goal

pub slice_bounds-none_blank-end : goal.slice_bounds-none_blank-end
slice_bounds-none_blank-end c = sym (length-take-le _ _ (given_asked _ (yes _ _ _ c.in_ok-given.ensures)).held.there)

pub none_blank-requires : goal.none_blank-requires
none_blank-requires c = (given_asked _ (yes _ _ _ c.in_ok-given.ensures)).held.fit

pub returns-then-none_blank : goal.returns-then-none_blank
unfolding view
returns-then-none_blank c =
    ap Ok (yes_value _ _ _ c.in_ok-given.ensures)
    ∙ sym (unless_ok _ _ (asked_added _ (yes _ _ _ c.in_ok-given.ensures) (sym c.none_blank.ensures ∙ c.if-none_blank.true)))

pub returns : goal.returns
unfolding ask_added view
returns c =
    ap (λ (q : ℕ). ok_unless q (count_of (memory c.args.bodies.now c.args.sizes.now c.args.k))) (sym (and_then_done _ _ (yes _ _ _ c.in_ok-given.ensures) ∙ ask_fails 13 _ (sym c.none_blank.ensures ∙ c.if-none_blank.false)))
