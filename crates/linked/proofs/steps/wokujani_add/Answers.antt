use Rattle.std.proofs.Common.{◌∙◌}
use Rattle.refusal.specs.Refusal.{yes}
use Rattle.linked.specs.Laws.{numbers_no, add_no, add_refused, add_done}
use Rattle.linked.proofs.steps.wokujani_add.Goals as goal

pub returns-in-Err-clause-value : goal.returns-in-Err-clause-value
returns-in-Err-clause-value c = let w = numbers_no _ _ c.in-Err.ensures in c.number.ensures ∙ (add_no _ _ _ _ _ _ w.0 w.1).0

pub returns-in-Err-clause-state_after : goal.returns-in-Err-clause-state_after
returns-in-Err-clause-state_after c = let w = numbers_no _ _ c.in-Err.ensures in (add_no _ _ _ _ _ _ w.0 w.1).1

pub returns-in-Err-answer-clause-value : goal.returns-in-Err-answer-clause-value
returns-in-Err-answer-clause-value c =
    c.number-in-Err-answer.ensures ∙ (add_refused _ _ _ _ _ _ _ _ (yes _ _ _ c.in_default.ensures) c.geometry_at-g.ensures c.machine_of-m.ensures c.advance-r.ensures.value _ c.in-Err-answer.is).0

pub returns-in-Err-answer-clause-state_after : goal.returns-in-Err-answer-clause-state_after
returns-in-Err-answer-clause-state_after c = (add_refused _ _ _ _ _ _ _ _ (yes _ _ _ c.in_default.ensures) c.geometry_at-g.ensures c.machine_of-m.ensures c.advance-r.ensures.value _ c.in-Err-answer.is).1

pub returns-in-Ok-clause-value : goal.returns-in-Ok-clause-value
returns-in-Ok-clause-value c = (add_done _ _ _ _ _ _ _ _ (yes _ _ _ c.in_default.ensures) c.geometry_at-g.ensures c.machine_of-m.ensures c.advance-r.ensures.value _ c.in-Ok.is).0

pub returns-in-Ok-clause-state_after : goal.returns-in-Ok-clause-state_after
returns-in-Ok-clause-state_after c = (add_done _ _ _ _ _ _ _ _ (yes _ _ _ c.in_default.ensures) c.geometry_at-g.ensures c.machine_of-m.ensures c.advance-r.ensures.value _ c.in-Ok.is).1
