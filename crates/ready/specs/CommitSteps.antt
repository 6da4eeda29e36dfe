-- Commits: the questions and the effect of both requests and of the answer.
use Rattle.std.specs.Prelude.{None, Some, Err, Result}
use Rattle.std.specs.declared.option.Option as code
use Rattle.std.specs.Prelude.{ℕ, ◌-◌, Bool, cond, leb, ltb, eqb}
use Rattle.laws.specs.Choice.{also, ask}
use Rattle.layout.specs.declared.Geometry.{Geometry}
use Rattle.layout.specs.declared.Location.{Location}
use Rattle.layout.specs.Geometry.{num_journal_blocks}
use Rattle.layout.specs.Journal.{journal_pos_add}
use Rattle.superblock.specs.declared.Superblock.{Superblock}
use Rattle.superblock.specs.Superblock.{increment_superblock_counter}
use Rattle.ready.specs.declared.Commit.{Commit}
use Rattle.ready.specs.declared.Commit.TheVariants.{CommitNone, CommitAdvanceLog, CommitAdvanceLocation}
use Rattle.ready.specs.declared.Ready.{Ready}
use Rattle.refusal.specs.declared.Refusal.{Refusal}
use Rattle.refusal.specs.declared.Refusal.TheVariants as no
use Rattle.refusal.specs.Refusal.{ok_unless}
use Rattle.ready.specs.State.{is_received, no_commit, none_frozen, none_outstanding, commit_slot, with_commit, not_frozen}

-- the clauses that both requests have
unfoldable pub may_commit : Ready → Bool
may_commit r =
    also (also (no_commit r.commit)
    (none_outstanding r))
    (none_frozen r.entries)

-- WriteBackSuperblockReq_AdvanceLog: question 6, and `new_superblock`, the superblock that is sent
unfoldable pub ask_advance_log : Geometry → Ready → ℕ
ask_advance_log g r =
    ask 6
    (also (may_commit r)
    (leb r.writtenJournalLen (num_journal_blocks g)))

unfoldable pub advanced_log : Ready → Superblock
advanced_log r =
    record {
      counter = increment_superblock_counter r.superblock.counter;
      journalStart = r.superblock.journalStart;
      journalLen = r.writtenJournalLen;
      indirectionTableLoc = r.superblock.indirectionTableLoc;
    }

unfoldable pub advance_log : Geometry → Ready → Result Superblock Refusal
advance_log g r = ok_unless (ask_advance_log g r) (advanced_log r)

abbrev pub advance_log_next : Ready → ℕ → Superblock → Ready
advance_log_next r id new = with_commit r (CommitAdvanceLog id new)

-- WriteBackSuperblockReq_AdvanceLocation: question 6, and `new_superblock`
unfoldable pub ask_advance_location : Geometry → Ready → ℕ
ask_advance_location g r =
    ask 6
    (also (also (also (also (is_received r.frozen.frozenLoc)
    (may_commit r))
    (ltb r.superblock.journalStart (num_journal_blocks g)))
    (leb r.frozen.frozenJournalPosition r.writtenJournalLen))
    (leb r.writtenJournalLen (num_journal_blocks g)))

unfoldable pub advanced_location : Geometry → Ready → Location → Superblock
advanced_location g r loc =
    record {
      counter = increment_superblock_counter r.superblock.counter;
      journalStart = journal_pos_add g r.superblock.journalStart r.frozen.frozenJournalPosition;
      journalLen = r.writtenJournalLen - r.frozen.frozenJournalPosition;
      indirectionTableLoc = loc;
    }

abbrev pub to_location : Geometry → Ready → code.Option Location → Result Superblock Refusal
to_location g r None = Err no.Condition
to_location g r (Some loc) = ok_unless (ask_advance_location g r) (advanced_location g r loc)

unfoldable pub advance_location : Geometry → Ready → Result Superblock Refusal
advance_location g r = to_location g r r.frozen.frozenLoc

abbrev pub advance_location_next : Ready → ℕ → Superblock → Ready
advance_location_next r id new = with_commit r (CommitAdvanceLocation id new)

-- WriteBackSuperblockResp: what a commit leaves that is on disk
unfoldable pub log_committed : Ready → Superblock → Ready
log_committed r new =
    record {
      superblock = new;
      whichSuperblock = commit_slot r;
      writtenJournalLen = r.writtenJournalLen;
      frozen = r.frozen;
      commit = CommitNone;
      entries = r.entries;
      writes = r.writes;
    }

unfoldable pub location_committed : Ready → Superblock → Ready
location_committed r new =
    record {
      superblock = new;
      whichSuperblock = commit_slot r;
      writtenJournalLen = r.writtenJournalLen - r.frozen.frozenJournalPosition;
      frozen = not_frozen;
      commit = CommitNone;
      entries = r.entries;
      writes = r.writes;
    }

-- by the commit in flight: the one under this id is done, and an answer that nobody awaits alters nothing
abbrev pub answered : Ready → ℕ → Commit → Ready
answered r id CommitNone = r
answered r id (CommitAdvanceLog k new) = cond (eqb k id) (log_committed r new) r
answered r id (CommitAdvanceLocation k new) = cond (eqb k id) (location_committed r new) r

unfoldable pub write_back_superblock_resp_next : Ready → ℕ → Ready
write_back_superblock_resp_next r id = answered r id r.commit
