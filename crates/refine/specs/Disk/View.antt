-- The view: the disk's record and its lent blocks and marks as source 001's state. What the record and the memory add to it, which a set or a
-- map cannot say, stands in records of its own.
use Rattle.std.specs.Prelude.{ℕ, ◌≤◌, List, length, take, None, Some}
use Rattle.std.specs.declared.option.Option as code
use Rattle.std.proofs.Math.Option.{Option, none, some}
use Rattle.laws.specs.Sets.{Distinct, each_of}
use Rattle.laws.specs.Optional.{option_of}
use Rattle.layout.specs.declared.Geometry.{Geometry}
use Rattle.journal.specs.Asked.{Blocks, Marks}
use Rattle.journal.specs.Cells.{cells}
use Rattle.tables.specs.IdTable.{id_set, SizedIds}
use Rattle.tables.specs.IntervalTable.{interval_map, SizedIntervals}
use Rattle.source.specs.JournalDisk as D
use Rattle.source.specs.JournalDisk.{ReqWriteSuperblockId}
use Rattle.requests.specs.declared.SuperblockWrite.{SuperblockWrite}
use Rattle.disk.specs.declared.Disk.{Disk}
use Rattle.requests.specs.Laws.Pairs.{slot_pair}

-- a write in flight
abbrev pub write_in : code.Option SuperblockWrite → Option ReqWriteSuperblockId
write_in (Some w) = some (record { id = w.id; req = record { superblock = w.superblock } })
write_in None = none

abbrev pub disk_of : Geometry → List ℕ → List ℕ → Disk → D.Variables
disk_of g blocks marks d =
    record {
      req_read_superblocks = each_of id_set (slot_pair d.superblockReads);
      req_read_journals = interval_map d.journalReads;
      req_write_superblocks = each_of write_in (slot_pair d.superblockWrites);
      req_write_journals = interval_map d.journalWrites;
      superblocks = each_of option_of (slot_pair d.slots);
      journal = cells g blocks marks;
    }

-- what the code's types promise: the length of each array
pub record SizedDisk (d : Disk) : Type 0 where
  pub reads1 : SizedIds d.superblockReads.first
  pub reads2 : SizedIds d.superblockReads.second
  pub journal_reads_is : SizedIntervals d.journalReads
  pub journal_writes_is : SizedIntervals d.journalWrites

-- what a table adds to its set: the count lies within the array, and the ids in use differ
pub record Table (count : ℕ) (ids : List ℕ) : Type 0 where
  pub in_array : count ≤ length ids
  pub differ : Distinct (take count ids)

pub record DiskTables (d : Disk) : Type 0 where
  pub reads1 : Table d.superblockReads.first.count d.superblockReads.first.ids
  pub reads2 : Table d.superblockReads.second.count d.superblockReads.second.ids
  pub journal_reads_is : Table d.journalReads.count d.journalReads.ids
  pub journal_writes_is : Table d.journalWrites.count d.journalWrites.ids

-- what lent memory adds: N blocks of 4,096 bytes, N marks of 0 or 1, of a valid geometry
pub record Lent (g : Geometry) (blocks marks : List ℕ) : Type 0 where
  pub blocks_right : Blocks g blocks
  pub marks_right : Marks g marks
