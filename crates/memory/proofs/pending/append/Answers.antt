use Rattle.std.proofs.Common.{◌∙◌, arith}
use Rattle.refusal.specs.Refusal.{handed_on}
use Rattle.memory.specs.PendingLaws.{append_pending, append_given, append_sums, append_full, append_done}
use Rattle.memory.proofs.pending.append.Goals as goal

pub returns-in_err-pending-clause-value : goal.returns-in_err-pending-clause-value
returns-in_err-pending-clause-value c = handed_on _ _ c.from_residual.ensures.1 ∙ (append_pending _ _ _ _ c.in_err-pending.ensures).0

pub returns-in_err-pending-clause-bytes_after : goal.returns-in_err-pending-clause-bytes_after
returns-in_err-pending-clause-bytes_after c = (append_pending _ _ _ _ c.in_err-pending.ensures).1.0

pub returns-in_err-pending-clause-lens_after : goal.returns-in_err-pending-clause-lens_after
returns-in_err-pending-clause-lens_after c = (append_pending _ _ _ _ c.in_err-pending.ensures).1.1

pub returns-in_err-new-clause-value : goal.returns-in_err-new-clause-value
returns-in_err-new-clause-value c = handed_on _ _ c.from_residual-in_err-new.ensures.1 ∙ (append_given _ _ _ _ c.in_ok-pending.ensures _ c.in_err-new.ensures).0

pub returns-in_err-new-clause-bytes_after : goal.returns-in_err-new-clause-bytes_after
returns-in_err-new-clause-bytes_after c = (append_given _ _ _ _ c.in_ok-pending.ensures _ c.in_err-new.ensures).1.0

pub returns-in_err-new-clause-lens_after : goal.returns-in_err-new-clause-lens_after
returns-in_err-new-clause-lens_after c = (append_given _ _ _ _ c.in_ok-pending.ensures _ c.in_err-new.ensures).1.1

pub overflow_add-after : goal.overflow_add-after
overflow_add-after c = let s = append_sums _ _ _ _ c.in_ok-pending.ensures _ c.in_ok-new.ensures in omega arith

pub overflow_add-after-2 : goal.overflow_add-after-2
overflow_add-after-2 c = let s = append_sums _ _ _ _ c.in_ok-pending.ensures _ c.in_ok-new.ensures in omega arith

pub returns-in_err-ask_room-clause-value : goal.returns-in_err-ask_room-clause-value
returns-in_err-ask_room-clause-value c = handed_on _ _ c.from_residual-in_err-ask_room.ensures.1 ∙ (append_full _ _ _ _ c.in_ok-pending.ensures _ c.in_ok-new.ensures _ c.in_err-ask_room.ensures).0

pub returns-in_err-ask_room-clause-bytes_after : goal.returns-in_err-ask_room-clause-bytes_after
returns-in_err-ask_room-clause-bytes_after c = (append_full _ _ _ _ c.in_ok-pending.ensures _ c.in_ok-new.ensures _ c.in_err-ask_room.ensures).1.0

pub returns-in_err-ask_room-clause-lens_after : goal.returns-in_err-ask_room-clause-lens_after
returns-in_err-ask_room-clause-lens_after c = (append_full _ _ _ _ c.in_ok-pending.ensures _ c.in_ok-new.ensures _ c.in_err-ask_room.ensures).1.1

pub returns-clause-value : goal.returns-clause-value
returns-clause-value c = (append_done _ _ _ _ c.in_ok-pending.ensures _ c.in_ok-new.ensures _ _ _ c.in_ok-ask_room.ensures c.append_entries.ensures.bytes_after c.append_entries.ensures.lens_after).0

pub returns-clause-bytes_after : goal.returns-clause-bytes_after
returns-clause-bytes_after c = (append_done _ _ _ _ c.in_ok-pending.ensures _ c.in_ok-new.ensures _ _ _ c.in_ok-ask_room.ensures c.append_entries.ensures.bytes_after c.append_entries.ensures.lens_after).1.0

pub returns-clause-lens_after : goal.returns-clause-lens_after
returns-clause-lens_after c = (append_done _ _ _ _ c.in_ok-pending.ensures _ c.in_ok-new.ensures _ _ _ c.in_ok-ask_room.ensures c.append_entries.ensures.bytes_after c.append_entries.ensures.lens_after).1.1
