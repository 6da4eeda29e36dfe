-- Source 001, JournalDisk: what the disk is asked and answers, its state, and its steps as relations, in the source's order and names. A
-- predicate is a record with a named clause a line. An operation's parts are arguments where the source writes `dop.id`, so that
-- `dop.ReqReadSuperblockOp?` is met by `Next`'s clauses; the two clauses for `which` 0 and 1 are one, over the Bool.
use Rattle.std.specs.Prelude.{ℕ, ◌+◌, ◌-◌, ◌≤◌, ◌<◌, Bool, true, false, ◌≡◌, List, length, get_or}
use Rattle.std.proofs.Math.Option.{Option, none, some}
use Rattle.layout.specs.declared.Geometry.{Geometry}
use Rattle.layout.specs.Geometry.{num_journal_blocks}
use Rattle.interval.specs.declared.JournalInterval.{JournalInterval}
use Rattle.interval.specs.Interval.{interval}
use Rattle.interval.specs.Facts.{ContiguousJournalInterval, InCyclicRange}
use Rattle.interval.specs.Journal.{JournalBlock, JournalUpdate}
use Rattle.superblock.specs.declared.Superblock.{Superblock}
use Rattle.laws.specs.Sets.{Ids, empty_ids, join, leave, Map, no_keys, bind, unbind, Two, both, at, put}
use Rattle.codec.specs.Codec.{JournalRange, Disk-HasJournalRange, disk_journal_range}

abbrev pub ReqId : Type 0
ReqId = ℕ

pub record ReqWriteSuperblock : Type 0 where
  pub superblock : Superblock

pub record ReqWriteJournal : Type 0 where
  pub start : ℕ
  pub journal : JournalRange

pub record ReqWriteSuperblockId : Type 0 where
  pub id : ReqId
  pub req : ReqWriteSuperblock

pub data DiskOp : Type 0 where
  ReqReadSuperblockOp : (id : ReqId) (which : Bool) → DiskOp
  ReqReadJournalOp : (id : ReqId) (interval : JournalInterval) → DiskOp
  ReqWriteSuperblockOp : (id : ReqId) (which : Bool) (req : ReqWriteSuperblock) → DiskOp
  ReqWriteJournalOp : (id1 : ReqId) (id2 : Option ReqId) (req : ReqWriteJournal) → DiskOp
  RespReadSuperblockOp : (id : ReqId) (which : Bool) (superblock : Option Superblock) → DiskOp
  RespReadJournalOp : (id : ReqId) (journal : Option JournalRange) → DiskOp
  RespWriteSuperblockOp : (id : ReqId) (which : Bool) → DiskOp
  RespWriteJournalOp : (id : ReqId) → DiskOp
  NoDiskOp : DiskOp

-- reqReadSuperblock1 and 2, reqWriteSuperblock1 and 2, superblock1 and 2 are a pair each
pub record Variables : Type 0 where
  pub req_read_superblocks : Two Ids
  pub req_read_journals : Map JournalInterval
  pub req_write_superblocks : Two (Option ReqWriteSuperblockId)
  pub req_write_journals : Map JournalInterval
  pub superblocks : Two (Option Superblock)
  pub journal : List (Option JournalBlock)

-- s.(f := x) is `to-f x s`
abbrev pub to_req_read_superblocks : Two Ids → Variables → Variables
to_req_read_superblocks x s = record { req_read_superblocks = x; req_read_journals = s.req_read_journals; req_write_superblocks = s.req_write_superblocks; req_write_journals = s.req_write_journals; superblocks = s.superblocks; journal = s.journal }

abbrev pub to_req_read_journals : Map JournalInterval → Variables → Variables
to_req_read_journals x s = record { req_read_superblocks = s.req_read_superblocks; req_read_journals = x; req_write_superblocks = s.req_write_superblocks; req_write_journals = s.req_write_journals; superblocks = s.superblocks; journal = s.journal }

abbrev pub to_req_write_superblocks : Two (Option ReqWriteSuperblockId) → Variables → Variables
to_req_write_superblocks x s = record { req_read_superblocks = s.req_read_superblocks; req_read_journals = s.req_read_journals; req_write_superblocks = x; req_write_journals = s.req_write_journals; superblocks = s.superblocks; journal = s.journal }

abbrev pub to_req_write_journals : Map JournalInterval → Variables → Variables
to_req_write_journals x s = record { req_read_superblocks = s.req_read_superblocks; req_read_journals = s.req_read_journals; req_write_superblocks = s.req_write_superblocks; req_write_journals = x; superblocks = s.superblocks; journal = s.journal }

abbrev pub to_superblocks : Two (Option Superblock) → Variables → Variables
to_superblocks x s = record { req_read_superblocks = s.req_read_superblocks; req_read_journals = s.req_read_journals; req_write_superblocks = s.req_write_superblocks; req_write_journals = s.req_write_journals; superblocks = x; journal = s.journal }

abbrev pub to_journal : List (Option JournalBlock) → Variables → Variables
to_journal x s = record { req_read_superblocks = s.req_read_superblocks; req_read_journals = s.req_read_journals; req_write_superblocks = s.req_write_superblocks; req_write_journals = s.req_write_journals; superblocks = s.superblocks; journal = x }

pub record Init (g : Geometry) (s : Variables) : Type 0 where
  pub no_superblock_reads : s.req_read_superblocks ≡ both empty_ids
  pub no_journal_reads : s.req_read_journals ≡ no_keys
  pub no_superblock_writes : s.req_write_superblocks ≡ both none
  pub no_journal_writes : s.req_write_journals ≡ no_keys
  pub size : length s.journal ≡ num_journal_blocks g

-- RecvRead

pub record RecvReadSuperblock (s s' : Variables) (id : ReqId) (which : Bool) : Type 0 where
  pub new1 : at s.req_read_superblocks false id ≡ false
  pub new2 : at s.req_read_superblocks true id ≡ false
  pub next : s' ≡ to_req_read_superblocks (put s.req_read_superblocks which (join (at s.req_read_superblocks which) id)) s

pub record RecvReadJournal (g : Geometry) (s s' : Variables) (id : ReqId) (v : JournalInterval) : Type 0 where
  pub new : s.req_read_journals id ≡ none
  pub contiguous : ContiguousJournalInterval g v
  pub next : s' ≡ to_req_read_journals (bind s.req_read_journals id v) s

-- RecvWrite

pub record RecvWriteSuperblock (s s' : Variables) (id : ReqId) (which : Bool) (req : ReqWriteSuperblock) : Type 0 where
  pub new1 : (w : ReqWriteSuperblockId) → at s.req_write_superblocks false ≡ some w → w.id ≡ id → ⊥
  pub new2 : (w : ReqWriteSuperblockId) → at s.req_write_superblocks true ≡ some w → w.id ≡ id → ⊥
  pub next : s' ≡ to_req_write_superblocks (put s.req_write_superblocks which (some (record { id = id; req = req }))) s

-- `interval`, `interval1` and `interval2` of the next predicate
abbrev pub written : ReqWriteJournal → JournalInterval
written req = interval req.start (length req.journal)

abbrev pub written1 : Geometry → ReqWriteJournal → JournalInterval
written1 g req = interval req.start (num_journal_blocks g - req.start)

abbrev pub written2 : Geometry → ReqWriteJournal → JournalInterval
written2 g req = interval 0 (length req.journal - (num_journal_blocks g - req.start))

pub record WriteStraight (s s' : Variables) (id1 : ReqId) (id2 : Option ReqId) (req : ReqWriteJournal) : Type 0 where
  pub one_id_is : id2 ≡ none
  pub next : s' ≡ to_journal s'.journal (to_req_write_journals (bind s.req_write_journals id1 (written req)) s)

pub record WriteWrapped (g : Geometry) (s s' : Variables) (id1 : ReqId) (id2 : Option ReqId) (req : ReqWriteJournal) : Type 0 where
  pub id : ReqId
  pub two_ids : id2 ≡ some id
  pub differ : id ≡ id1 → ⊥
  pub next : s' ≡ to_journal s'.journal (to_req_write_journals (bind (bind s.req_write_journals id1 (written1 g req)) id (written2 g req)) s)

pub record RecvWriteJournal (g : Geometry) (s s' : Variables) (id1 : ReqId) (id2 : Option ReqId) (req : ReqWriteJournal) : Type 0 where
  pub new1 : s.req_write_journals id1 ≡ none
  pub new2 : (id : ReqId) → id2 ≡ some id → s.req_write_journals id ≡ none
  pub update : JournalUpdate g s.journal s'.journal (written req) req.journal
  pub straight : req.start + length req.journal ≤ num_journal_blocks g → WriteStraight s s' id1 id2 req
  pub wrapped : num_journal_blocks g < req.start + length req.journal → WriteWrapped g s s' id1 id2 req

-- AckRead

pub record AckReadSuperblock (s s' : Variables) (id : ReqId) (which : Bool) (superblock : Option Superblock) : Type 0 where
  pub waiting : at s.req_read_superblocks which id ≡ true
  pub whole : (v : Superblock) → superblock ≡ some v → superblock ≡ at s.superblocks which
  pub next : s' ≡ to_req_read_superblocks (put s.req_read_superblocks which (leave (at s.req_read_superblocks which) id)) s

pub record AckReadJournal (g : Geometry) (s s' : Variables) (id : ReqId) (journal : Option JournalRange) : Type 0 where
  pub ind : JournalInterval
  pub waiting : s.req_read_journals id ≡ some ind
  pub end_in : ind.start + ind.len ≤ num_journal_blocks g
  pub start_in : ind.start < num_journal_blocks g
  pub readable : (jr : JournalRange) → journal ≡ some jr → Disk-HasJournalRange g s.journal ind
  pub whole : (jr : JournalRange) → journal ≡ some jr → jr ≡ disk_journal_range g s.journal ind
  pub next : s' ≡ to_req_read_journals (unbind s.req_read_journals id) s

-- AckWrite

pub record AckWriteSuperblock (s s' : Variables) (id : ReqId) (which : Bool) : Type 0 where
  pub write : ReqWriteSuperblockId
  pub waiting : at s.req_write_superblocks which ≡ some write
  pub id_is : id ≡ write.id
  pub landed : some write.req.superblock ≡ at s.superblocks which
  pub next : s' ≡ to_req_write_superblocks (put s.req_write_superblocks which none) s

pub record AckWriteJournal (s s' : Variables) (id : ReqId) : Type 0 where
  pub ind : JournalInterval
  pub waiting : s.req_write_journals id ≡ some ind
  pub next : s' ≡ to_req_write_journals (unbind s.req_write_journals id) s

-- Stutter

pub record Stutter (s s' : Variables) : Type 0 where
  pub next : s' ≡ s

abbrev pub Next : Geometry → Variables → Variables → DiskOp → Type 0
Next g s s' (ReqReadSuperblockOp id which) = RecvReadSuperblock s s' id which
Next g s s' (ReqReadJournalOp id v) = RecvReadJournal g s s' id v
Next g s s' (ReqWriteSuperblockOp id which req) = RecvWriteSuperblock s s' id which req
Next g s s' (ReqWriteJournalOp id1 id2 req) = RecvWriteJournal g s s' id1 id2 req
Next g s s' (RespReadSuperblockOp id which superblock) = AckReadSuperblock s s' id which superblock
Next g s s' (RespReadJournalOp id journal) = AckReadJournal g s s' id journal
Next g s s' (RespWriteSuperblockOp id which) = AckWriteSuperblock s s' id which
Next g s s' (RespWriteJournalOp id) = AckWriteJournal s s' id
Next g s s' NoDiskOp = Stutter s s'

pub data InternalStep : Type 0 where
  ProcessWriteSuperblockStep : (which : Bool) → InternalStep

pub record ProcessWriteSuperblock (s s' : Variables) (which : Bool) : Type 0 where
  pub write : ReqWriteSuperblockId
  pub waiting : at s.req_write_superblocks which ≡ some write
  pub next : s' ≡ to_superblocks (put s.superblocks which (some write.req.superblock)) s

abbrev pub NextInternalStep : Variables → Variables → InternalStep → Type 0
NextInternalStep s s' (ProcessWriteSuperblockStep which) = ProcessWriteSuperblock s s' which

abbrev pub NextInternal : Variables → Variables → Type 0
NextInternal s s' = (step : InternalStep) × NextInternalStep s s' step

abbrev pub JournalUntouched : Geometry → ℕ → Map JournalInterval → Type 0
JournalUntouched g i req_write_journals = (id : ReqId) (v : JournalInterval) → req_write_journals id ≡ some v → InCyclicRange g i v → ⊥

pub record havocJournal (g : Geometry) (journal journal' : List (Option JournalBlock)) (req_write_journals : Map JournalInterval) : Type 0 where
  pub size : length journal' ≡ length journal
  pub kept : (i : ℕ) → i < length journal → JournalUntouched g i req_write_journals → get_or journal i none ≡ get_or journal' i none

pub record Crash (g : Geometry) (s s' : Variables) : Type 0 where
  pub no_superblock_reads : s'.req_read_superblocks ≡ both empty_ids
  pub no_journal_reads : s'.req_read_journals ≡ no_keys
  pub no_superblock_writes : s'.req_write_superblocks ≡ both none
  pub no_journal_writes : s'.req_write_journals ≡ no_keys
  pub superblocks_kept : s'.superblocks ≡ s.superblocks
  pub journal_kept : havocJournal g s.journal s'.journal s.req_write_journals
