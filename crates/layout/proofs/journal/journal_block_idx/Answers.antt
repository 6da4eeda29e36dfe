use native.Mathlib.Omega.{arith}
use Rattle.refusal.specs.Refusal.{yes}
use Rattle.layout.specs.Laws.{journal_location_asked}
use Rattle.layout.proofs.journal.journal_block_idx.Goals as goal

pub overflow_sub-result : goal.overflow_sub-result
overflow_sub-result c = let v = journal_location_asked _ _ (yes _ _ _ c.in_ok-ask_journal_location.ensures) in omega arith
