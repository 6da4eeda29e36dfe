-- Document 01's question 2 of a machine, of a disk and of a system. Beside 000's `Inv` it asks the counts (Limits) and the shape of a state:
-- what every step keeps by itself, so that it turns away no state that a store comes to by its own steps.
use Rattle.std.specs.Prelude.{◌*◌, ◌≤◌, Bool, true, false, not, ◌≡◌, List, length}
use Rattle.std.proofs.Math.Option.{Option, none, some}
use Rattle.laws.specs.Fold.{sum}
use Rattle.laws.specs.Cut.{lengths}
use Rattle.laws.specs.Sets.{Ids, empty_ids, join, Map, no_keys, bind, keys, Two, both, at, put}
use Rattle.layout.specs.declared.Geometry.{Geometry}
use Rattle.layout.specs.Geometry.{num_journal_blocks}
use Rattle.interval.specs.declared.JournalInterval.{JournalInterval}
use Rattle.interval.specs.Facts.{ContiguousJournalInterval}
use Rattle.interval.specs.Overlap.{journal_interval_overlap, journal_cyclic_interval_overlap}
use Rattle.superblock.specs.declared.Superblock.{Superblock}
use Rattle.codec.specs.Codec.{block_size, JournalEntry, JournalRange, SizedBlocks, Sized, EntriesFit}
use Rattle.source.specs.JournalDisk as D
use Rattle.source.specs.JournalDisk.{ReqId, ReqWriteSuperblockId}
use Rattle.source.specs.JournalCache as M
use Rattle.source.specs.JournalCache.{journal_interval_of_superblock}
use Rattle.source.specs.JournalSystem as Y
use Rattle.source.specs.JournalSystem.{WFDisk, persistent_interval}
use Rattle.source.specs.Limits.{Limits, MachineCounts, DiskCounts}

-- replay entries, which lie in memory of N blocks and as many lengths: no step is refused for them, since what parses is no more than what was
-- read
pub record ReplayShape (g : Geometry) (L : Limits) (es : List JournalEntry) : Type 0 where
  pub few : length es ≤ num_journal_blocks g * block_size
  pub small : sum (lengths es) ≤ num_journal_blocks g * block_size
  pub fit : EntriesFit L.entry_bytes es

-- a machine's shape: entries have an allowed length; the two reads of a pair differ; no read is awaited for a piece that is in; a piece is
-- its interval's blocks
pub record ReadyShape (g : Geometry) (L : Limits) (s : M.ReadyVariables) : Type 0 where
  pub frozen_fit : EntriesFit L.entry_bytes s.in_memory_journal_frozen
  pub memory_fit : EntriesFit L.entry_bytes s.in_memory_journal
  pub replay : ReplayShape g L s.replay_journal

pub record LoadingOtherShape (g : Geometry) (s : M.LoadingOtherVariables) : Type 0 where
  pub reads_differ : (id : ReqId) → at s.journalReads false ≡ some id → at s.journalReads true ≡ some id → ⊥
  pub read_or_in : (which : Bool) (id : ReqId) (jr : JournalRange) → at s.journalReads which ≡ some id → at s.journal_pieces which ≡ some jr → ⊥
  pub piece_size : (which : Bool) (jr : JournalRange) (v : JournalInterval) → at s.journal_pieces which ≡ some jr
      → journal_interval_of_superblock g which s.superblock ≡ some v → SizedBlocks v.len jr

pub record LoadingSuperblockShape (s : M.LoadingSuperblockVariables) : Type 0 where
  pub reads_differ : (id : ReqId) → at s.outstanding_superblock_reads false ≡ some id → at s.outstanding_superblock_reads true ≡ some id → ⊥

abbrev pub MachineShape : Geometry → Limits → M.Variables → Type 0
MachineShape g L (M.Variables.Ready s) = ReadyShape g L s
MachineShape g L (M.Variables.LoadingOther s) = LoadingOtherShape g s
MachineShape g L (M.Variables.LoadingSuperblock s) = LoadingSuperblockShape s

-- a disk's shape: every interval is valid, journal pieces contiguous; N blocks of 4,096 bytes
pub record DiskShape (g : Geometry) (d : D.Variables) : Type 0 where
  pub reads_contiguous : (id : ReqId) (v : JournalInterval) → d.req_read_journals id ≡ some v → ContiguousJournalInterval g v
  pub writes_contiguous : (id : ReqId) (v : JournalInterval) → d.req_write_journals id ≡ some v → ContiguousJournalInterval g v
  pub size : length d.journal ≡ num_journal_blocks g
  pub block_size : Sized d.journal

-- what the machine awaits, in the form in which the disk holds it
abbrev pub one_id : Option ReqId → Ids
one_id none = empty_ids
one_id (some id) = join empty_ids id

abbrev pub awaited_superblock_reads : M.Variables → Two Ids
awaited_superblock_reads (M.Variables.Ready s) = both empty_ids
awaited_superblock_reads (M.Variables.LoadingOther s) = both empty_ids
awaited_superblock_reads (M.Variables.LoadingSuperblock s) =
    record { first = one_id (at s.outstanding_superblock_reads false); second = one_id (at s.outstanding_superblock_reads true) }

abbrev pub bind_read : Option ReqId → Option JournalInterval → Map JournalInterval → Map JournalInterval
bind_read none v m = m
bind_read (some id) none m = m
bind_read (some id) (some v) m = bind m id v

abbrev pub awaited_journal_reads : Geometry → M.Variables → Map JournalInterval
awaited_journal_reads g (M.Variables.Ready s) = no_keys
awaited_journal_reads g (M.Variables.LoadingOther s) =
    bind_read (at s.journalReads false) (journal_interval_of_superblock g false s.superblock)
    (bind_read (at s.journalReads true) (journal_interval_of_superblock g true s.superblock) no_keys)
awaited_journal_reads g (M.Variables.LoadingSuperblock s) = no_keys

abbrev pub new_write : Option ReqId → Option Superblock → Option ReqWriteSuperblockId
new_write none new = none
new_write (some id) none = none
new_write (some id) (some new) = some (record { id = id; req = record { superblock = new } })

-- a commit writes the slot that the machine does not stand on
abbrev pub awaited_superblock_writes : M.Variables → Two (Option ReqWriteSuperblockId)
awaited_superblock_writes (M.Variables.Ready s) = put (both none) (not s.whichSuperblock) (new_write s.superblock_write s.new_superblock)
awaited_superblock_writes (M.Variables.LoadingOther s) = both none
awaited_superblock_writes (M.Variables.LoadingSuperblock s) = both none

abbrev pub awaited_journal_writes : M.Variables → Ids
awaited_journal_writes (M.Variables.Ready s) = s.outstanding_journal_writes
awaited_journal_writes (M.Variables.LoadingOther s) = empty_ids
awaited_journal_writes (M.Variables.LoadingSuperblock s) = empty_ids

-- machine and disk: both slots well formed; the machine awaits exactly the ids that the disk holds, with the same slot, interval or new
-- superblock; journal writes in flight overlap neither each other nor the selected interval, by a plain and a cyclic test of overlap
pub record JoinedBy (plain : JournalInterval → JournalInterval → Bool) (cyclic : Geometry → JournalInterval → JournalInterval → Bool) (g : Geometry) (s : Y.Variables) : Type 0 where
  pub wf : WFDisk g s.disk
  pub superblock_reads_is : s.disk.req_read_superblocks ≡ awaited_superblock_reads s.machine
  pub journal_reads_is : s.disk.req_read_journals ≡ awaited_journal_reads g s.machine
  pub superblock_writes : s.disk.req_write_superblocks ≡ awaited_superblock_writes s.machine
  pub journal_writes_is : keys s.disk.req_write_journals ≡ awaited_journal_writes s.machine
  pub writes_apart : (id1 id2 : ReqId) (v1 v2 : JournalInterval) → s.disk.req_write_journals id1 ≡ some v1 → s.disk.req_write_journals id2 ≡ some v2
      → plain v1 v2 ≡ true → id1 ≡ id2
  pub writes_clear_is : (id : ReqId) (v : JournalInterval) → s.disk.req_write_journals id ≡ some v
      → cyclic g v (persistent_interval g s.disk wf) ≡ false

-- the tests are those in which an empty interval overlaps nothing (request S-3); before it they were the source's (Before)
abbrev pub Joined : Geometry → Y.Variables → Type 0
Joined = JoinedBy journal_interval_overlap journal_cyclic_interval_overlap

-- question 2, of a machine, of a disk and of a system
pub record MachineMeets (g : Geometry) (L : Limits) (m : M.Variables) : Type 0 where
  pub inv : M.Inv g m
  pub counts : MachineCounts L m
  pub shape : MachineShape g L m

pub record DiskMeets (g : Geometry) (L : Limits) (d : D.Variables) : Type 0 where
  pub counts : DiskCounts L d
  pub shape : DiskShape g d

pub record SystemMeets (g : Geometry) (L : Limits) (s : Y.Variables) : Type 0 where
  pub machine : MachineMeets g L s.machine
  pub disk : DiskMeets g L s.disk
  pub joined : Joined g s
