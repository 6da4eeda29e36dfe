use mathlib.Core.Path.{sym, ◌∙◌}
use native.Mathlib.Omega.{arith}
use Rattle.laws.specs.Choice.{unless_done}
use Rattle.refusal.specs.Refusal.{yes}
use Rattle.journal.specs.Asked.{slice_bytes_asked}
use Rattle.journal.specs.Laws.{copied_bytes}
use Rattle.journal.specs.Memory.{slice_bytes}
use Rattle.journal.proofs.slices.cyclic_slice_bytes.Goals as goal

pub overflow_mul-at : goal.overflow_mul-at
overflow_mul-at c = let v = slice_bytes_asked _ _ _ _ (yes _ _ _ c.in_ok-ask_slice_bytes.ensures) in omega arith

pub overflow_mul-n : goal.overflow_mul-n
overflow_mul-n c = let v = slice_bytes_asked _ _ _ _ (yes _ _ _ c.in_ok-ask_slice_bytes.ensures) in omega arith

pub returns-clause-out_after : goal.returns-clause-out_after
unfolding slice_bytes
returns-clause-out_after c =
    let e = yes _ _ _ c.in_ok-ask_slice_bytes.ensures in
    c.copy_around.ensures ∙ copied_bytes _ _ _ _ (slice_bytes_asked _ _ _ _ e) ∙ sym (unless_done _ _ _ e)
