use Rattle.std.proofs.Common.{rules, ℕ, drop, length, ap, arith, sym, ◌∙◌, eqb-true}
use Rattle.laws.specs.Choice.{and_then_right, ask_yes, unless_done}
use Rattle.laws.specs.LowFirst.{each_from_low}
use Rattle.refusal.specs.Refusal.{yes}
use Rattle.sector.specs.Sector.{number_count, bodies_start, numbers_in}
use Rattle.linked.proofs.sectors.wokujani_read_sector.Goals as goal

pub returns-clause-numbers_after : goal.returns-clause-numbers_after
unfolding numbers_in
returns-clause-numbers_after c =
    let a = c.args in
    let p = yes _ _ _ c.in_default.ensures in
    let h = eqb-true (length a.numbers.now) number_count (ask_yes 1 _ (omega arith) (and_then_right _ _ p)) in
    c.read_numbers.ensures ∙ ap (λ (k : ℕ). each_from_low 8 k (drop bodies_start a.sector.now)) h ∙ sym (unless_done _ a.numbers.now _ p)
