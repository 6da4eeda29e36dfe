-- Two loaded machines are equal, said of the code's own records and lent memory: every field of a machine at work, tables by content, entries by
-- bytes. That is what equality of the views says.
use Rattle.std.specs.Prelude.{ℕ, ◌≤◌, ◌≡◌, refl}
use Rattle.std.proofs.Common.{sym, ◌∙◌, ap, arith, eq-eqb, eqb-true}
use Rattle.std.proofs.Math.Option.{some-injective}
use Rattle.laws.specs.Choice.{split_eq, ruin}
use Rattle.laws.specs.Sets.{Map}
use Rattle.laws.specs.Optional.{option_of, option_same}
use Rattle.tables.specs.IdTable.{id_set}
use Rattle.loading.specs.Which.{is_second}
use Rattle.ready.specs.declared.Commit.{Commit}
use Rattle.ready.specs.declared.Commit.TheVariants as commit
use Rattle.ready.specs.declared.Ready.{Ready}
use Rattle.source.specs.JournalCache.{ReadyVariables, SyncReqStatus}
use Rattle.refine.specs.Machine.ReadyView.{ReadyLent, write_of, status_of, new_of, frozen_of, memory_of, replay_of, ready_of}

-- the machines' records with their memories and sync requests
pub record SameReady (l : ReadyLent) (y : Map SyncReqStatus) (r : Ready) (k : ReadyLent) (x : Map SyncReqStatus) (q : Ready) : Type 0 where
  pub superblock : r.superblock ≡ q.superblock
  pub whichSuperblock : r.whichSuperblock ≡ q.whichSuperblock
  pub writtenJournalLen : r.writtenJournalLen ≡ q.writtenJournalLen
  pub frozen : r.frozen ≡ q.frozen
  pub commit : r.commit ≡ q.commit
  pub outstanding_journal_writes : id_set r.writes ≡ id_set q.writes
  pub in_memory_journal_frozen : frozen_of l r.entries ≡ frozen_of k q.entries
  pub in_memory_journal : memory_of l r.entries ≡ memory_of k q.entries
  pub replay_journal : replay_of l r.entries ≡ replay_of k q.entries
  pub sync_reqs : y ≡ x

same_commit : (a b : Commit) → write_of a ≡ write_of b → status_of a ≡ status_of b → new_of a ≡ new_of b → a ≡ b
same_commit commit.CommitNone commit.CommitNone w t n = refl
same_commit commit.CommitNone (commit.CommitAdvanceLog id new) w t n = ruin (cc)
same_commit commit.CommitNone (commit.CommitAdvanceLocation id new) w t n = ruin (cc)
same_commit (commit.CommitAdvanceLog id new) commit.CommitNone w t n = ruin (cc)
same_commit (commit.CommitAdvanceLog id new) (commit.CommitAdvanceLog i m) w t n =
    λ j. commit.CommitAdvanceLog (some-injective id i w j) (some-injective new m n j)
same_commit (commit.CommitAdvanceLog id new) (commit.CommitAdvanceLocation i m) w t n = ruin (cc)
same_commit (commit.CommitAdvanceLocation id new) commit.CommitNone w t n = ruin (cc)
same_commit (commit.CommitAdvanceLocation id new) (commit.CommitAdvanceLog i m) w t n = ruin (cc)
same_commit (commit.CommitAdvanceLocation id new) (commit.CommitAdvanceLocation i m) w t n =
    λ j. commit.CommitAdvanceLocation (some-injective id i w j) (some-injective new m n j)

-- of numbers that question 2 lets through the slot is the number
same_slot : (a b : ℕ) → a ≤ 1 → b ≤ 1 → is_second a ≡ is_second b → a ≡ b
same_slot a b ha hb e =
    split_eq a 1
    (λ h. h ∙ sym (eqb-true b 1 (sym e ∙ eq-eqb a 1 h)))
    (λ f. split_eq b 1 (λ h. absurd (f (eqb-true a 1 (e ∙ eq-eqb b 1 h)))) (λ k. omega arith))

module _ (l : ReadyLent) (y : Map SyncReqStatus) (r : Ready) (k : ReadyLent) (x : Map SyncReqStatus) (q : Ready) where
  pub same_seen : SameReady l y r k x q → ready_of l y r ≡ ready_of k x q
  same_seen s =
      λ i.
      record {
        frozenLoc = option_of (s.frozen i).frozenLoc;
        isFrozen = (s.frozen i).isFrozen;
        frozenJournalPosition = (s.frozen i).frozenJournalPosition;
        superblock_write = write_of (s.commit i);
        in_memory_journal_frozen = s.in_memory_journal_frozen i;
        in_memory_journal = s.in_memory_journal i;
        outstanding_journal_writes = s.outstanding_journal_writes i;
        writtenJournalLen = s.writtenJournalLen i;
        replay_journal = s.replay_journal i;
        superblock = s.superblock i;
        whichSuperblock = is_second (s.whichSuperblock i);
        commit_status = status_of (s.commit i);
        new_superblock = new_of (s.commit i);
        sync_reqs = s.sync_reqs i;
      }

  pub seen_same : r.whichSuperblock ≤ 1 → q.whichSuperblock ≤ 1 → ready_of l y r ≡ ready_of k x q → SameReady l y r k x q
  seen_same a b e =
      let loc = option_same r.frozen.frozenLoc q.frozen.frozenLoc (ap (λ (v : ReadyVariables). v.frozenLoc) e) in
      record {
        superblock = ap (λ (v : ReadyVariables). v.superblock) e;
        whichSuperblock = same_slot r.whichSuperblock q.whichSuperblock a b (ap (λ (v : ReadyVariables). v.whichSuperblock) e);
        writtenJournalLen = ap (λ (v : ReadyVariables). v.writtenJournalLen) e;
        frozen = λ i. record { isFrozen = (e i).isFrozen; frozenJournalPosition = (e i).frozenJournalPosition; frozenLoc = loc i };
        commit =
            same_commit r.commit q.commit (ap (λ (v : ReadyVariables). v.superblock_write) e) (ap (λ (v : ReadyVariables). v.commit_status) e)
            (ap (λ (v : ReadyVariables). v.new_superblock) e);
        outstanding_journal_writes = ap (λ (v : ReadyVariables). v.outstanding_journal_writes) e;
        in_memory_journal_frozen = ap (λ (v : ReadyVariables). v.in_memory_journal_frozen) e;
        in_memory_journal = ap (λ (v : ReadyVariables). v.in_memory_journal) e;
        replay_journal = ap (λ (v : ReadyVariables). v.replay_journal) e;
        sync_reqs = ap (λ (v : ReadyVariables). v.sync_reqs) e;
      }
