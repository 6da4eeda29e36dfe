use Rattle.std.specs.Prelude.{Err}
use Rattle.std.proofs.Common.{◌∙◌, ap, arith}
use Rattle.refusal.specs.Refusal.{yes, handed_on, some_of, none_of}
use Rattle.lengths.specs.Entries.{entries_bytes}
use Rattle.memory.specs.ReplayLaws.{left_past, left_no, left_yes}
use Rattle.memory.proofs.replay.count_left.Goals as goal

pub returns-then-size-taken : goal.returns-then-size-taken
returns-then-size-taken c = left_past _ _ _ (yes _ _ _ c.in_ok-ask_replay_lent.ensures) c.if-size-taken.true

pub returns-in_err-left : goal.returns-in_err-left
returns-in_err-left c =
    let n = none_of _ _ _ c.in_err-left.ensures.value in
    handed_on _ _ c.from_residual-in_err-left.ensures.1 ∙ ap Err n.1 ∙ left_no _ _ _ (yes _ _ _ c.in_ok-ask_replay_lent.ensures) (n.0 ∙ c.entries_held.ensures)

pub overflow_sub-result : goal.overflow_sub-result
overflow_sub-result c =
    let f = (entries_bytes _ _ _ _ _ (some_of _ _ _ c.in_ok-left.ensures.value ∙ c.entries_held.ensures)).0 in
    let order = f.order in
    omega arith

pub returns : goal.returns
returns c = left_yes _ _ _ (yes _ _ _ c.in_ok-ask_replay_lent.ensures) _ (omega arith) (some_of _ _ _ c.in_ok-left.ensures.value ∙ c.entries_held.ensures)
