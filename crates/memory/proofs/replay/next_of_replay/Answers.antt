use Rattle.std.proofs.Common.{◌∙◌, arith}
use Rattle.refusal.specs.Refusal.{handed_on}
use Rattle.memory.specs.ReplayLaws.{next_unheld, next_ungiven, next_sums, next_no, next_yes}
use Rattle.memory.proofs.replay.next_of_replay.Goals as goal

pub returns-in_err-left : goal.returns-in_err-left
returns-in_err-left c = handed_on _ _ c.from_residual.ensures.1 ∙ next_unheld _ _ _ _ _ c.in_err-left.ensures

pub returns-in_err-new : goal.returns-in_err-new
returns-in_err-new c = handed_on _ _ c.from_residual-in_err-new.ensures.1 ∙ next_ungiven _ _ _ _ _ c.in_ok-left.ensures _ c.in_err-new.ensures

pub overflow_add-result : goal.overflow_add-result
overflow_add-result c = let s = next_sums _ _ _ _ _ c.in_ok-left.ensures _ c.in_ok-new.ensures in omega arith

pub overflow_add-result-then-is_next : goal.overflow_add-result-then-is_next
overflow_add-result-then-is_next c = let s = next_sums _ _ _ _ _ c.in_ok-left.ensures _ c.in_ok-new.ensures in omega arith

pub returns-then-is_next : goal.returns-then-is_next
returns-then-is_next c = next_yes _ _ _ _ _ c.in_ok-left.ensures _ c.in_ok-new.ensures _ c.is_next.ensures c.if-is_next.true

pub returns : goal.returns
returns c = next_no _ _ _ _ _ c.in_ok-left.ensures _ c.in_ok-new.ensures _ c.is_next.ensures c.if-is_next.false
