-- The questions and the effect of Freeze and of ReceiveFrozenLoc.
use Rattle.std.specs.Prelude.{None, Some}
use Rattle.std.specs.Prelude.{ℕ, true, not}
use Rattle.laws.specs.Choice.{also, and_then, ask}
use Rattle.layout.specs.declared.Geometry.{Geometry}
use Rattle.layout.specs.declared.Location.{Location}
use Rattle.layout.specs.Location.{valid_indirection_table_location}
use Rattle.ready.specs.declared.Ready.{Ready}
use Rattle.ready.specs.State.{is_received, is_location, no_commit, replayed, frozen_at, counts, with_frozen, with_entries}

-- Freeze: question 6
unfoldable pub ask_freeze : Ready → ℕ
ask_freeze r =
    ask 6
    (also (also (no_commit r.commit)
    (not (is_location r.frozen.frozenLoc r.superblock.indirectionTableLoc)))
    (replayed r.entries))

-- in_memory_journal_frozen + in_memory_journal are all that is pending
unfoldable pub freeze_next : Ready → Ready
freeze_next r =
    with_frozen (with_entries r (counts r.entries.pending r.entries.pending r.entries.replay r.entries.taken))
    (frozen_at true r.writtenJournalLen None)

-- ReceiveFrozenLoc: questions 4 and 6
unfoldable pub ask_receive_frozen_loc : Geometry → Ready → Location → ℕ
ask_receive_frozen_loc g r loc =
    and_then (ask 4 (valid_indirection_table_location g loc))
    (ask 6
    (also r.frozen.isFrozen
    (not (is_received r.frozen.frozenLoc))))

unfoldable pub receive_frozen_loc_next : Ready → Location → Ready
receive_frozen_loc_next r loc = with_frozen r (frozen_at r.frozen.isFrozen r.frozen.frozenJournalPosition (Some loc))
