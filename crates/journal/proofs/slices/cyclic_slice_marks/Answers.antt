use mathlib.Core.Path.{sym, ◌∙◌}
use Rattle.laws.specs.Choice.{unless_done}
use Rattle.refusal.specs.Refusal.{yes}
use Rattle.journal.specs.Asked.{slice_marks_asked}
use Rattle.journal.specs.Laws.{copied_marks}
use Rattle.journal.specs.Memory.{slice_marks}
use Rattle.journal.proofs.slices.cyclic_slice_marks.Goals as goal

pub returns-clause-out_after : goal.returns-clause-out_after
unfolding slice_marks
returns-clause-out_after c =
    let e = yes _ _ _ c.in_ok-ask_slice_marks.ensures in
    c.copy_around.ensures ∙ copied_marks _ _ _ _ (slice_marks_asked _ _ _ _ e) ∙ sym (unless_done _ _ _ e)
