use Rattle.store.specs.Laws.Answers.{both_is}
use Rattle.store.specs.Laws.Memory.{write_refused, write_taken}
use mathlib.Core.Path.{refl, ◌∙◌, ap}
use Rattle.store.specs.Steps.{both_by}
use Rattle.store.proofs.Store.write_back_journal_req_asked.Goals as goal

pub returns-in-Err : goal.returns-in-Err
returns-in-Err c =
    let all = write_refused _ _ _ _ _ _ (c.both-r.ensures ∙ ap (both_by _ _) c.write_back_journal_req_asked-stepped.ensures ∙ both_is _ _ _ _ _ _) _ _ _ _ _ c.in-Err.is in record { value = all.0; bytes_after = all.1.0; lens_after = all.1.1.0; blocks_after = all.1.1.1.0; marks_after = all.1.1.1.1 }

pub returns-in-Ok : goal.returns-in-Ok
returns-in-Ok c =
    let all = let w = c.write_range.ensures in write_taken _ _ _ _ _ _ (c.both-r.ensures ∙ ap (both_by _ _) c.write_back_journal_req_asked-stepped.ensures ∙ both_is _ _ _ _ _ _) _ _ _ _ _ _ _ _ _ _ _ _ c.in-Ok.is c.sent-sent.ensures c.left-left.ensures refl c.write_range.ensures.blocks_after c.write_range.ensures.marks_after c.write_range.ensures.bytes_after c.write_range.ensures.lens_after in record { value = all.0; bytes_after = all.1.0; lens_after = all.1.1.0; blocks_after = all.1.1.1.0; marks_after = all.1.1.1.1 }
