use Rattle.std.proofs.Common.{◌∙◌, arith}
use Rattle.refusal.specs.Refusal.{handed_on}
use Rattle.memory.specs.PendingLaws.{front_unheld, front_past, front_less, front_done}
use Rattle.memory.proofs.pending.take_front.Goals as goal

pub returns-in_err-pending-clause-value : goal.returns-in_err-pending-clause-value
returns-in_err-pending-clause-value c = handed_on _ _ c.from_residual.ensures.1 ∙ (front_unheld _ _ _ _ (omega arith) _ c.in_err-pending.ensures).0

pub returns-in_err-pending-clause-bytes_after : goal.returns-in_err-pending-clause-bytes_after
returns-in_err-pending-clause-bytes_after c = (front_unheld _ _ _ _ (omega arith) _ c.in_err-pending.ensures).1.0

pub returns-in_err-pending-clause-lens_after : goal.returns-in_err-pending-clause-lens_after
returns-in_err-pending-clause-lens_after c = (front_unheld _ _ _ _ (omega arith) _ c.in_err-pending.ensures).1.1

pub returns-then-n-k-clause-value : goal.returns-then-n-k-clause-value
returns-then-n-k-clause-value c = (front_past _ _ _ _ (omega arith) _ c.in_ok-pending.ensures c.if-n-k.true).0

pub returns-then-n-k-clause-bytes_after : goal.returns-then-n-k-clause-bytes_after
returns-then-n-k-clause-bytes_after c = (front_past _ _ _ _ (omega arith) _ c.in_ok-pending.ensures c.if-n-k.true).1.0

pub returns-then-n-k-clause-lens_after : goal.returns-then-n-k-clause-lens_after
returns-then-n-k-clause-lens_after c = (front_past _ _ _ _ (omega arith) _ c.in_ok-pending.ensures c.if-n-k.true).1.1

pub overflow_sub-rest : goal.overflow_sub-rest
overflow_sub-rest c = let s = front_less _ _ c.args.k _ (omega arith) _ c.in_ok-pending.ensures in omega arith

pub overflow_sub-rest-2 : goal.overflow_sub-rest-2
overflow_sub-rest-2 c = let s = front_less _ _ c.args.k _ (omega arith) _ c.in_ok-pending.ensures in omega arith

pub returns-clause-value : goal.returns-clause-value
returns-clause-value c = (front_done _ _ _ _ (omega arith) _ c.in_ok-pending.ensures _ _ (omega arith) c.move_front.ensures.bytes_after c.move_front.ensures.lens_after).0

pub returns-clause-bytes_after : goal.returns-clause-bytes_after
returns-clause-bytes_after c = (front_done _ _ _ _ (omega arith) _ c.in_ok-pending.ensures _ _ (omega arith) c.move_front.ensures.bytes_after c.move_front.ensures.lens_after).1.0

pub returns-clause-lens_after : goal.returns-clause-lens_after
returns-clause-lens_after c = (front_done _ _ _ _ (omega arith) _ c.in_ok-pending.ensures _ _ (omega arith) c.move_front.ensures.bytes_after c.move_front.ensures.lens_after).1.1
