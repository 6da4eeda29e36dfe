-- Question 2's test of the record: 000's InvReady, a clause a line and in its order; then what the record adds. Met by the type of `commit`:
-- superblock_write.Some? <==> new_superblock.Some?, superblock_write.None? <==> commit_status.CommitNone?, and that a commit has its new
-- superblock and one of the two kinds.
use Rattle.layout.specs.declared.Location.{Location}
use Rattle.std.specs.Prelude.{None, Some}
use Rattle.std.specs.declared.option.Option as code
use Rattle.std.specs.Prelude.{ℕ, ◌+◌, ◌-◌, Bool, true, not, leb, eqb}
use Rattle.laws.specs.Choice.{also, either}
use Rattle.layout.specs.declared.Geometry.{Geometry}
use Rattle.layout.specs.Geometry.{num_journal_blocks}
use Rattle.layout.specs.Location.{valid_indirection_table_location, same_location}
use Rattle.layout.specs.Journal.{journal_pos_add}
use Rattle.superblock.specs.declared.Superblock.{Superblock}
use Rattle.superblock.specs.Superblock.{increment_superblock_counter, wf_superblock}
use Rattle.tables.specs.Rows.{counted}
use Rattle.ready.specs.declared.Frozen.{Frozen}
use Rattle.ready.specs.declared.Commit.{Commit}
use Rattle.ready.specs.declared.Commit.TheVariants.{CommitNone, CommitAdvanceLog, CommitAdvanceLocation}
use Rattle.ready.specs.declared.Entries.{Entries}
use Rattle.ready.specs.declared.Ready.{Ready}
use Rattle.ready.specs.State.{is_received, is_location, none_frozen, none_outstanding}

-- the most outstanding journal writes
abbrev pub most_writes : ℕ
most_writes = 16

-- whichSuperblock is 0 or 1; writtenJournalLen; journalLen
unfoldable pub extent_ok : Geometry → (which written len : ℕ) → Bool
extent_ok g which written len =
    also (also (leb which 1)
    (leb written (num_journal_blocks g)))
    (leb len written)

-- isFrozen ==> ..
unfoldable pub frozen_ok : Geometry → (written len : ℕ) → Frozen → Bool
frozen_ok g written len f =
    either (not f.isFrozen)
    (also (also (leb f.frozenJournalPosition (num_journal_blocks g))
    (leb len written))
    (leb f.frozenJournalPosition written))

-- frozenLoc.Some? ==> ..
abbrev pub location_ok : Geometry → Bool → code.Option Location → Bool
location_ok g isFrozen None = true
location_ok g isFrozen (Some loc) =
    also (valid_indirection_table_location g loc)
    isFrozen

unfoldable pub received_ok : Geometry → Frozen → Bool
received_ok g f = location_ok g f.isFrozen f.frozenLoc

-- commit_status.CommitAdvanceLog? ==> ..
unfoldable pub advance_log_ok : ℕ → Superblock → Superblock → Bool
advance_log_ok written superblock new =
    also (also (same_location new.indirectionTableLoc superblock.indirectionTableLoc)
    (eqb new.journalStart superblock.journalStart))
    (eqb new.journalLen written)

-- commit_status.CommitAdvanceLocation? ==> ..
unfoldable pub advance_location_ok : Geometry → ℕ → Frozen → Superblock → Superblock → Bool
advance_location_ok g written f superblock new =
    also (also (also (also f.isFrozen
    (is_received f.frozenLoc))
    (eqb new.journalStart (journal_pos_add g superblock.journalStart f.frozenJournalPosition)))
    (eqb new.journalLen (written - f.frozenJournalPosition)))
    (leb (f.frozenJournalPosition + new.journalLen) written)

-- new_superblock.Some? ==> ..
unfoldable pub new_location_ok : Frozen → Superblock → Superblock → Bool
new_location_ok f superblock new =
    either (same_location new.indirectionTableLoc superblock.indirectionTableLoc)
    (is_location f.frozenLoc new.indirectionTableLoc)

unfoldable pub new_ok : Geometry → Ready → Superblock → Bool
new_ok g r new =
    also (also (also (also (none_outstanding r)
    (new_location_ok r.frozen r.superblock new))
    (wf_superblock g new))
    (eqb new.counter (increment_superblock_counter r.superblock.counter)))
    (none_frozen r.entries)

abbrev pub in_flight_ok : Geometry → Ready → Commit → Bool
in_flight_ok g r CommitNone = true
in_flight_ok g r (CommitAdvanceLog id new) =
    also (advance_log_ok r.writtenJournalLen r.superblock new)
    (new_ok g r new)
in_flight_ok g r (CommitAdvanceLocation id new) =
    also (advance_location_ok g r.writtenJournalLen r.frozen r.superblock new)
    (new_ok g r new)

unfoldable pub commit_ok : Geometry → Ready → Bool
commit_ok g r = in_flight_ok g r r.commit

-- in_memory_journal_frozen != [] ==> ..
unfoldable pub some_frozen_ok : (written position : ℕ) → Bool → Entries → Bool
some_frozen_ok written position isFrozen e =
    either (none_frozen e)
    (also (eqb position written)
    isFrozen)

unfoldable pub inv_ok : Geometry → Ready → Bool
inv_ok g r =
    also (also (also (also (also (extent_ok g r.whichSuperblock r.writtenJournalLen r.superblock.journalLen)
    (frozen_ok g r.writtenJournalLen r.superblock.journalLen r.frozen))
    (received_ok g r.frozen))
    (wf_superblock g r.superblock))
    (commit_ok g r))
    (some_frozen_ok r.writtenJournalLen r.frozen.frozenJournalPosition r.frozen.isFrozen r.entries)

-- what the record adds: frozen within pending, taken within replay; the outstanding writes are a table
unfoldable pub entries_ok : Entries → Bool
entries_ok e =
    also (leb e.frozen e.pending)
    (leb e.taken.entries e.replay)

unfoldable pub ready_ok : Geometry → Ready → Bool
ready_ok g r =
    also (also (inv_ok g r)
    (entries_ok r.entries))
    (counted most_writes r.writes.count r.writes.ids)
