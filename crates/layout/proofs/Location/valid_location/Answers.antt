use Rattle.laws.specs.Choice.{either}
use Rattle.refusal.specs.Refusal.{said}
use Rattle.layout.specs.Location.{valid_location}
use Rattle.layout.proofs.Location.valid_location.Goals as goal

pub returns : goal.returns
unfolding valid_location either
returns c = said _ _ _ _ _ c.in_ok-ask.ensures (search (← c.valid_table-table.ensures, ← c.in_journal-journal.ensures, ← c.valid_superblock2_location-second.ensures, ← c.valid_superblock1_location-first.ensures))
