-- The first half of a load: from a disk at rest each slot is asked for and answered whole. Every state on the way meets question 2.
use Rattle.std.specs.Prelude.{ℕ, ◌≤◌, Bool, true, false, cond, not, ◌≡◌, List, ◌⊎◌, length}
use Rattle.std.proofs.Math.Path.{refl}
use Rattle.std.proofs.Common.{sym, ◌∙◌, ap, subst, inr, ⊎_elim, arith}
use Rattle.std.proofs.Math.Option.{Option, none, some}
use Rattle.laws.specs.Choice.{ruin}
use Rattle.layout.specs.declared.Geometry.{Geometry}
use Rattle.interval.specs.declared.JournalInterval.{JournalInterval}
use Rattle.interval.specs.Facts.{ContiguousJournalInterval}
use Rattle.interval.specs.Journal.{JournalBlock}
use Rattle.superblock.specs.declared.Superblock.{Superblock}
use Rattle.superblock.specs.Laws.{WFSuperblock, facts_superblock}
use Rattle.laws.specs.Sets.{Ids, empty_ids, join, leave, Map, no_keys, keys, AtMost, none_few, Two, both, at, put, none_some, at_both, at_put, join_here}
use Rattle.laws.specs.Maps.{Values, join_leave, one_few, none_if}
use Rattle.codec.specs.Codec.{Sized, Codec}
use Rattle.source.specs.JournalDisk as D
use Rattle.source.specs.JournalDisk.{ReqId, ReqReadSuperblockOp, RespReadSuperblockOp}
use Rattle.source.specs.JournalCache as M
use Rattle.source.specs.JournalCache.{SuperblockReadResult, SuperblockSuccess, SuperblockUnfinished, SuperblockCorruption, PageInSuperblockReqStep, PageInSuperblockRespStep}
use Rattle.source.specs.Limits.{Limits, limits}
use Rattle.source.specs.Meets.{DiskMeets, Joined, MachineMeets, awaited_superblock_reads, awaited_journal_reads, awaited_superblock_writes, awaited_journal_writes}
use Rattle.source.specs.Departures.{Source, MachineStep}
use Rattle.history.specs.Ledger.{read_superblock, superblock_read}
use Rattle.history.proofs.Journal.Slots.{Slots}
use Rattle.history.specs.Statement.{tied_read, tied_superblock, Takes, loads}
use Rattle.history.proofs.Loads.Comes.{slot_calls, Comes, here, by}

-- a disk that awaits some reads and no write
abbrev pub reading : Two Ids → Map JournalInterval → Two (Option Superblock) → List (Option JournalBlock) → D.Variables
reading reads pages slots j =
    record { req_read_superblocks = reads; req_read_journals = pages; req_write_superblocks = both none; req_write_journals = no_keys; superblocks = slots; journal = j }

abbrev pub resting : Two (Option Superblock) → List (Option JournalBlock) → D.Variables
resting slots j = reading (both empty_ids) no_keys slots j

-- one read at a time is within the limits
pub record Room (L : Limits) : Type 0 where
  pub superblock_read_op : 1 ≤ L.superblockReads
  pub journal_read_is : 1 ≤ L.journalReads

pub limits_room : Room limits
limits_room = record { superblock_read_op = omega arith; journal_read_is = omega arith }

module _ (g : Geometry) (L : Limits) (slots : Two (Option Superblock)) (j : List (Option JournalBlock)) (w : Bool) (v : Superblock) (selected : Slots g slots w v)
    (size : length j ≡ g.blocks) (sized : Sized j) where
  -- question 2 of the disk, and of both together
  pub disk_meets : (reads : Two Ids) (pages : Map JournalInterval) → ((which : Bool) → AtMost L.superblockReads (at reads which)) → AtMost L.journalReads (keys pages)
      → Values (ContiguousJournalInterval g) pages → DiskMeets g L (reading reads pages slots j)
  disk_meets reads pages few pages-few contiguous =
      record {
        counts = record { superblock_reads_few = few; journal_reads_few = pages-few; journal_writes_few = none_few L.journalWrites };
        shape = record { reads_contiguous = contiguous; writes_contiguous = λ id u e. none_some refl e; size = size; block_size = sized };
      }

  pub joined : (reads : Two Ids) (pages : Map JournalInterval) (m : M.Variables) → reads ≡ awaited_superblock_reads m → pages ≡ awaited_journal_reads g m
      → both none ≡ awaited_superblock_writes m → empty_ids ≡ awaited_journal_writes m → Joined g (record { machine = m; disk = reading reads pages slots j })
  joined reads pages m p q r s =
      record {
        wf =
            record {
              first = record { value = selected.values.first; holds = selected.holds false; wf = selected.wf false };
              second = record { value = selected.values.second; holds = selected.holds true; wf = selected.wf true };
            };
        superblock_reads_is = p;
        journal_reads_is = q;
        superblock_writes = r;
        journal_writes_is = s;
        writes_apart = λ id1 id2 u1 u2 a b c. none_some refl a;
        writes_clear_is = λ id u a. none_some refl a;
      }

-- a slot's result: not asked for yet, or what the slot holds
abbrev pub Read : Two SuperblockReadResult → Two Superblock → Type 0
Read results values = (b : Bool) → (at results b ≡ SuperblockUnfinished) ⊎ (at results b ≡ SuperblockSuccess (at values b))

pub read_put : (results : Two SuperblockReadResult) (values : Two Superblock) (which : Bool) → Read results values → Read (put results which (SuperblockSuccess (at values which))) values
read_put results values true h true = inr refl
read_put results values true h false = h false
read_put results values false h true = h true
read_put results values false h false = inr refl

abbrev pub superblocks_at : Two (Option ReqId) → Two SuperblockReadResult → M.Variables
superblocks_at reads results = M.Variables.LoadingSuperblock (record { outstanding_superblock_reads = reads; superblocks = results; sync_reqs = no_keys })

-- one read asked for
abbrev pub one : Bool → Two (Option ReqId)
one which = put (both none) which (some 1)

pub one_only : (which b : Bool) (id : ReqId) → at (one which) b ≡ some id → b ≡ which
one_only true true id e = refl
one_only true false id e = none_some refl e
one_only false true id e = none_some refl e
one_only false false id e = refl

pub one_differs : (which : Bool) (id : ReqId) → at (one which) false ≡ some id → at (one which) true ≡ some id → ⊥
one_differs true id p q = none_some refl p
one_differs false id p q = none_some refl q

pub one_answered : (which : Bool) → both none ≡ put (one which) which none
one_answered true = refl
one_answered false = refl

abbrev pub one_ids : Bool → Two Ids
one_ids which = put (both empty_ids) which (join empty_ids 1)

pub ones_few : (n : ℕ) (which b : Bool) → 1 ≤ n → AtMost n (at (one_ids which) b)
ones_few n true true h = one_few n 1 h
ones_few n true false h = none_few n
ones_few n false true h = none_few n
ones_few n false false h = one_few n 1 h

ones_awaited : (which : Bool) (results : Two SuperblockReadResult) → one_ids which ≡ awaited_superblock_reads (superblocks_at (one which) results)
ones_awaited true results = refl
ones_awaited false results = refl

pub ones_waiting : (which : Bool) → at (one_ids which) which 1 ≡ true
ones_waiting true = join_here empty_ids 1
ones_waiting false = join_here empty_ids 1

pub ones_answered : (which : Bool) → both empty_ids ≡ put (one_ids which) which (leave (at (one_ids which) which) 1)
ones_answered true = λ i. record { first = empty_ids; second = sym (join_leave 1) i }
ones_answered false = λ i. record { first = sym (join_leave 1) i; second = empty_ids }

module _ (g : Geometry) (C : Codec) (L : Limits) (room : Room L) (slots : Two (Option Superblock)) (j : List (Option JournalBlock)) (w : Bool) (v : Superblock)
    (selected : Slots g slots w v) (size : length j ≡ g.blocks) (sized : Sized j) where
  pub machine_superblocks : (reads : Two (Option ReqId)) (results : Two SuperblockReadResult) → Read results selected.values
      → ((b : Bool) (id : ReqId) → at reads b ≡ some id → at results b ≡ SuperblockUnfinished)
      → ((id : ReqId) → at reads false ≡ some id → at reads true ≡ some id → ⊥)
      → MachineMeets g L (superblocks_at reads results)
  machine_superblocks reads results read unread differ =
      record {
        inv =
            record {
              success_read = λ b x e. none_if (at reads b) (λ id q. let z = unread b id q in ruin (cc));
              success_wf_is = λ b x e. ⊎_elim (λ q. ruin (cc)) (λ q. let z : at selected.values b ≡ x = cc in subst (WFSuperblock g) z (selected.wf b)) (read b);
              corruption_read = λ b e. ⊎_elim (λ q. ruin (cc)) (λ q. ruin (cc)) (read b);
            };
        counts = record { sync_few = none_few L.sync_reqs };
        shape = record { reads_differ = differ };
      }

  -- a slot is asked for
  pub slot_ask : (which : Bool) (results : Two SuperblockReadResult) → Read results selected.values → at results which ≡ SuperblockUnfinished
      → Takes g C L (record { machine = superblocks_at (both none) results; disk = resting slots j }) (record { machine = superblocks_at (one which) results; disk = reading (one_ids which) no_keys slots j }) (read_superblock which 1)
  slot_ask which results read unread =
      record {
        event = MachineStep (ReqReadSuperblockOp 1 which) (Source (PageInSuperblockReqStep which));
        tied = tied_read;
        allowed =
            record {
              meets =
                  record {
                    machine = machine_superblocks (both none) results read (λ b id e. none_some (at_both none b) e) (λ id p q. none_some refl p);
                    disk = disk_meets g L slots j w v selected size sized (both empty_ids) no_keys
                        (λ b. subst (AtMost L.superblockReads) (sym (at_both empty_ids b)) (none_few L.superblockReads)) (none_few L.journalReads) (λ id u e. none_some refl e);
                    joined = joined g L slots j w v selected size sized (both empty_ids) no_keys (superblocks_at (both none) results) refl refl refl refl;
                  };
              step =
                  record {
                    machine =
                        record {
                          source = record { id = 1; op = refl; no_read = at_both none which; unfinished = unread; next = refl };
                          other_slot_is = λ o. none_some (at_both none (not which)) o.2;
                        };
                    disk = record { new1 = refl; new2 = refl; next = λ i. reading (put (both empty_ids) which (join (sym (at_both empty_ids which) i) 1)) no_keys slots j };
                  };
            };
      }

  -- and answered whole
  pub slot_answer : (which : Bool) (results : Two SuperblockReadResult) → Read results selected.values → at results which ≡ SuperblockUnfinished
      → Takes g C L (record { machine = superblocks_at (one which) results; disk = reading (one_ids which) no_keys slots j })
      (record { machine = superblocks_at (both none) (put results which (SuperblockSuccess (at selected.values which))); disk = resting slots j }) (superblock_read which 1 true)
  slot_answer which results read unread =
      record {
        event = MachineStep (RespReadSuperblockOp 1 which (some x)) (Source (PageInSuperblockRespStep which));
        tied = tied_superblock;
        allowed =
            record {
              meets =
                  record {
                    machine =
                        machine_superblocks (one which) results read (λ b id e. ap (at results) (one_only which b id e) ∙ unread) (one_differs which);
                    disk = disk_meets g L slots j w v selected size sized (one_ids which) no_keys
                        (λ b. ones_few L.superblockReads which b room.superblock_read_op) (none_few L.journalReads) (λ id u e. none_some refl e);
                    joined = joined g L slots j w v selected size sized (one_ids which) no_keys (superblocks_at (one which) results) (ones_awaited which results) refl refl refl;
                  };
              step =
                  record {
                    machine =
                        record {
                          id = 1;
                          superblock = some x;
                          op = refl;
                          waiting = at_put (both none) which (some 1);
                          next = λ i. superblocks_at (one_answered which i) (put results which (sym whole_read i));
                        };
                    disk =
                        record {
                          waiting = ones_waiting which;
                          whole = λ y e. sym (selected.holds which);
                          next = λ i. reading (ones_answered which i) no_keys slots j;
                        };
                  };
            };
      }
    where
      x : Superblock
      x = at selected.values which

      whole_read : M.superblock_read g (some x) ≡ SuperblockSuccess x
      whole_read = ap (λ (b : Bool). cond b (SuperblockSuccess x) SuperblockCorruption) (facts_superblock g x (selected.wf which))

  pub slot_read : (which : Bool) (results : Two SuperblockReadResult) → Read results selected.values → at results which ≡ SuperblockUnfinished
      → Comes g C L (record { machine = superblocks_at (both none) results; disk = resting slots j }) (slot_calls which)
      (record { machine = superblocks_at (both none) (put results which (SuperblockSuccess (at selected.values which))); disk = resting slots j })
  unfolding loads
  slot_read which results read unread = by (slot_ask which results read unread) refl (by (slot_answer which results read unread) refl here)
