-- The record of a machine at work, read and set: what its enums and counts say, in source 000's names.
use Rattle.std.specs.Prelude.{None, Some}
use Rattle.std.specs.declared.option.Option as code
use Rattle.std.specs.Prelude.{ℕ, ◌-◌, Bool, true, false, cond, leb, eqb}
use Rattle.layout.specs.declared.Location.{Location}
use Rattle.layout.specs.Location.{same_location}
use Rattle.superblock.specs.declared.Superblock.{Superblock}
use Rattle.tables.specs.declared.IdTable.{IdTable}
use Rattle.tables.specs.IdTable.{no_ids}
use Rattle.range.specs.declared.Count.{Count}
use Rattle.ready.specs.declared.Frozen.{Frozen}
use Rattle.ready.specs.declared.Commit.{Commit}
use Rattle.ready.specs.declared.Commit.TheVariants.{CommitNone, CommitAdvanceLog, CommitAdvanceLocation}
use Rattle.ready.specs.declared.Entries.{Entries}
use Rattle.ready.specs.declared.Bodies.{Bodies}
use Rattle.ready.specs.declared.Ready.{Ready}

-- frozenLoc.Some?, frozenLoc == Some(loc)
abbrev pub is_received : code.Option Location → Bool
is_received None = false
is_received (Some loc) = true

abbrev pub is_location : code.Option Location → Location → Bool
is_location None loc = false
is_location (Some received) loc = same_location received loc

-- superblock_write.None? and commit_status.CommitNone?, superblock_write == Some(id)
abbrev pub no_commit : Commit → Bool
no_commit CommitNone = true
no_commit (CommitAdvanceLog id new) = false
no_commit (CommitAdvanceLocation id new) = false

abbrev pub awaits_id : Commit → ℕ → Bool
awaits_id CommitNone id = false
awaits_id (CommitAdvanceLog k new) id = eqb k id
awaits_id (CommitAdvanceLocation k new) id = eqb k id

-- in_memory_journal_frozen == [], in_memory_journal == [] (all that is pending is frozen), replay_journal == []
abbrev pub none_frozen : Entries → Bool
none_frozen e = eqb e.frozen 0

abbrev pub none_in_memory : Entries → Bool
none_in_memory e = leb e.pending e.frozen

abbrev pub replayed : Entries → Bool
replayed e = leb e.replay e.taken.entries

-- |replay_journal|
abbrev pub replay_left : Entries → ℕ
replay_left e = e.replay - e.taken.entries

-- outstanding_journal_writes == {}
abbrev pub none_outstanding : Ready → Bool
none_outstanding r = eqb r.writes.count 0

-- if whichSuperblock == 0 then 1 else 0
abbrev pub commit_slot : Ready → ℕ
commit_slot r = cond (eqb r.whichSuperblock 0) 1 0

abbrev pub count : ℕ → ℕ → Count
count entries bytes = record { entries = entries; bytes = bytes }

-- what a journal write sends (the frozen entries, or if there are none those in memory), and what it leaves
unfoldable pub sent : Entries → Bodies → Count
sent e b = cond (none_frozen e) (count e.pending b.pending) (count e.frozen b.frozen)

unfoldable pub left : Entries → Bodies → Count
left e b = count (e.pending - (sent e b).entries) (b.pending - (sent e b).bytes)

-- s.(f := x)
abbrev pub with_frozen : Ready → Frozen → Ready
with_frozen r x = record { superblock = r.superblock; whichSuperblock = r.whichSuperblock; writtenJournalLen = r.writtenJournalLen; frozen = x; commit = r.commit; entries = r.entries; writes = r.writes }

abbrev pub with_commit : Ready → Commit → Ready
with_commit r x = record { superblock = r.superblock; whichSuperblock = r.whichSuperblock; writtenJournalLen = r.writtenJournalLen; frozen = r.frozen; commit = x; entries = r.entries; writes = r.writes }

abbrev pub with_entries : Ready → Entries → Ready
with_entries r x = record { superblock = r.superblock; whichSuperblock = r.whichSuperblock; writtenJournalLen = r.writtenJournalLen; frozen = r.frozen; commit = r.commit; entries = x; writes = r.writes }

abbrev pub with_writes : Ready → IdTable → Ready
with_writes r x = record { superblock = r.superblock; whichSuperblock = r.whichSuperblock; writtenJournalLen = r.writtenJournalLen; frozen = r.frozen; commit = r.commit; entries = r.entries; writes = x }

abbrev pub frozen_at : Bool → ℕ → code.Option Location → Frozen
frozen_at isFrozen position loc = record { isFrozen = isFrozen; frozenJournalPosition = position; frozenLoc = loc }

abbrev pub not_frozen : Frozen
not_frozen = frozen_at false 0 None

abbrev pub counts : ℕ → ℕ → ℕ → Count → Entries
counts pending frozen replay taken = record { pending = pending; frozen = frozen; replay = replay; taken = taken }

-- what FinishLoadingOtherPhase makes of the superblock, its slot and the number of replay entries
unfoldable pub loaded : Superblock → ℕ → ℕ → Ready
loaded superblock which replay =
    record {
      superblock = superblock;
      whichSuperblock = which;
      writtenJournalLen = superblock.journalLen;
      frozen = not_frozen;
      commit = CommitNone;
      entries = counts 0 0 replay (count 0 0);
      writes = no_ids;
    }
