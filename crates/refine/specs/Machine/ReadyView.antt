-- The view of a machine at work: its record, with what lies in lent memory beside it, as 000's `Ready`. Frozen entries come first in pending
-- memory; of replay memory the view begins behind what is taken. The sync requests are an argument: their table stands outside the record.
use Rattle.std.specs.Prelude.{ℕ, ◌-◌, List, drop}
use Rattle.std.proofs.Math.Option.{Option, none, some}
use Rattle.laws.specs.Sets.{Map}
use Rattle.laws.specs.Optional.{option_of}
use Rattle.superblock.specs.declared.Superblock.{Superblock}
use Rattle.tables.specs.IdTable.{id_set}
use Rattle.range.specs.Memory.{view}
use Rattle.loading.specs.Which.{is_second}
use Rattle.ready.specs.declared.Commit.{Commit}
use Rattle.ready.specs.declared.Commit.TheVariants as commit
use Rattle.ready.specs.declared.Entries.{Entries}
use Rattle.ready.specs.declared.Ready.{Ready}
use Rattle.codec.specs.Codec.{JournalEntry}
use Rattle.source.specs.JournalDisk.{ReqId}
use Rattle.source.specs.JournalCache.{SyncReqStatus, CommitStatus, CommitNone, CommitAdvanceLog, CommitAdvanceLocation, ReadyVariables}

-- the memory beside the record: pending bytes and lengths, replay bytes and lengths
pub record ReadyLent : Type 0 where
  pub bytes : List ℕ
  pub lens : List ℕ
  pub rbytes : List ℕ
  pub rlens : List ℕ

-- superblock_write, commit_status and new_superblock of the commit in flight
abbrev pub write_of : Commit → Option ReqId
write_of commit.CommitNone = none
write_of (commit.CommitAdvanceLog id new) = some id
write_of (commit.CommitAdvanceLocation id new) = some id

abbrev pub status_of : Commit → CommitStatus
status_of commit.CommitNone = CommitNone
status_of (commit.CommitAdvanceLog id new) = CommitAdvanceLog
status_of (commit.CommitAdvanceLocation id new) = CommitAdvanceLocation

abbrev pub new_of : Commit → Option Superblock
new_of commit.CommitNone = none
new_of (commit.CommitAdvanceLog id new) = some new
new_of (commit.CommitAdvanceLocation id new) = some new

-- in_memory_journal_frozen, in_memory_journal, replay_journal
abbrev pub frozen_of : ReadyLent → Entries → List JournalEntry
frozen_of l e = view l.bytes l.lens e.frozen

abbrev pub memory_of : ReadyLent → Entries → List JournalEntry
memory_of l e = drop e.frozen (view l.bytes l.lens e.pending)

abbrev pub replay_of : ReadyLent → Entries → List JournalEntry
replay_of l e = view (drop e.taken.bytes l.rbytes) (drop e.taken.entries l.rlens) (e.replay - e.taken.entries)

abbrev pub ready_of : ReadyLent → Map SyncReqStatus → Ready → ReadyVariables
ready_of l sync_reqs r =
    record {
      frozenLoc = option_of r.frozen.frozenLoc;
      isFrozen = r.frozen.isFrozen;
      frozenJournalPosition = r.frozen.frozenJournalPosition;
      superblock_write = write_of r.commit;
      in_memory_journal_frozen = frozen_of l r.entries;
      in_memory_journal = memory_of l r.entries;
      outstanding_journal_writes = id_set r.writes;
      writtenJournalLen = r.writtenJournalLen;
      replay_journal = replay_of l r.entries;
      superblock = r.superblock;
      whichSuperblock = is_second r.whichSuperblock;
      commit_status = status_of r.commit;
      new_superblock = new_of r.commit;
      sync_reqs = sync_reqs;
    }
