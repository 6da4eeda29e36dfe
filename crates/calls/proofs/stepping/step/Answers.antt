use Rattle.std.proofs.Common.{refl, sym, ◌∙◌}
use Rattle.store.specs.Lent.{lent_of, lent_in}
use Rattle.calls.specs.Given.{given_in}
use Rattle.calls.specs.Laws.Asked.{no_step, step_taken}
use Rattle.calls.proofs.stepping.step.Goals as goal

pub returns-in-Err : goal.returns-in-Err
returns-in-Err c =
    let a = c.args in
    let all = no_step a.g (lent_in a.lent.now) (given_in a.given) a.s a.x (lent_of c.shared.result) c.shared.ensures _ _ (sym c.ask.ensures ∙ c.in-Err.is) c.refused.ensures in
    record { value = all.0; lent_after = all.1; same_slices = record { bytes = refl; lens = refl; pieces = refl; rbytes = refl; rlens = refl; blocks = refl; marks = refl } }

pub returns-in-Ok : goal.returns-in-Ok
returns-in-Ok c =
    let a = c.args in
    let e = c.step_asked.ensures in
    let all = step_taken a.g (lent_in a.lent.now) (given_in a.given) a.s a.x (lent_of c.shared.result) c.shared.ensures _ _ _ (sym c.ask.ensures ∙ c.in-Ok.is) e.value e.lent_after in
    record { value = all.0; lent_after = all.1; same_slices = e.same_slices }
