-- The disk's record: a disk without requests, its parts put in place of others, and what a call answers.
use Rattle.std.specs.declared.option.Option as code
use Rattle.std.specs.Prelude.{ℕ, ⊤, cond, eqb, None, Ok, Err}
use Rattle.refusal.specs.declared.Refusal.{Refusal}
use Rattle.refusal.specs.Refusal.{refusal}
use Rattle.interval.specs.declared.JournalInterval.{JournalInterval}
use Rattle.superblock.specs.declared.Superblock.{Superblock}
use Rattle.tables.specs.declared.IntervalTable.{IntervalTable}
use Rattle.tables.specs.IdTable.{no_ids}
use Rattle.tables.specs.IntervalTable.{no_intervals}
use Rattle.requests.specs.Slots.{Slots, SuperblockReads, SuperblockWrites}
use Rattle.disk.specs.declared.Disk.{Disk}
use Rattle.disk.specs.declared.Stepped.{Stepped}

-- no requests
abbrev pub idle_disk : Slots → Disk
idle_disk slots =
    record {
      slots = slots;
      superblockReads = record { first = no_ids; second = no_ids };
      superblockWrites = record { first = None; second = None };
      journalReads = no_intervals;
      journalWrites = no_intervals;
    }

-- d.(slots := x), and so for each part
abbrev pub with_slots : Disk → Slots → Disk
with_slots d x = record { slots = x; superblockReads = d.superblockReads; superblockWrites = d.superblockWrites; journalReads = d.journalReads; journalWrites = d.journalWrites }

abbrev pub with_superblock_reads : Disk → SuperblockReads → Disk
with_superblock_reads d x = record { slots = d.slots; superblockReads = x; superblockWrites = d.superblockWrites; journalReads = d.journalReads; journalWrites = d.journalWrites }

abbrev pub with_superblock_writes : Disk → SuperblockWrites → Disk
with_superblock_writes d x = record { slots = d.slots; superblockReads = d.superblockReads; superblockWrites = x; journalReads = d.journalReads; journalWrites = d.journalWrites }

abbrev pub with_journal_reads : Disk → IntervalTable → Disk
with_journal_reads d x = record { slots = d.slots; superblockReads = d.superblockReads; superblockWrites = d.superblockWrites; journalReads = x; journalWrites = d.journalWrites }

abbrev pub with_journal_writes : Disk → IntervalTable → Disk
with_journal_writes d x = record { slots = d.slots; superblockReads = d.superblockReads; superblockWrites = d.superblockWrites; journalReads = d.journalReads; journalWrites = x }

-- what a call answers beside the disk: no value, a superblock or damaged, the interval that was read
abbrev pub DiskStepped : Type 0
DiskStepped = Stepped ⊤ Refusal

abbrev pub SuperblockAcked : Type 0
SuperblockAcked = Stepped (code.Option Superblock) Refusal

abbrev pub JournalAcked : Type 0
JournalAcked = Stepped JournalInterval Refusal

-- one number decides: 0 is done, with the value and the next disk; another is a refusal, with the disk as it was
abbrev pub refused : {A E : Type 0} → Disk → E → Stepped A E
refused d why = record { answer = Err why; disk = d }

abbrev pub done : {A E : Type 0} → A → Disk → Stepped A E
done x d = record { answer = Ok x; disk = d }

unfoldable pub answered_with : {A : Type 0} → ℕ → A → Disk → Disk → Stepped A Refusal
answered_with q x next d = cond (eqb q 0) (done x next) (refused d (refusal q))

-- the same where there is no value
abbrev pub answered : ℕ → Disk → Disk → DiskStepped
answered q next d = answered_with q record {} next d
