-- Questions 1 and 2 of a disk. 1: the geometry, N lent blocks, N lent marks of 0 or 1, and a lent buffer of N blocks where there is one. 2:
-- every count within its limit, ids within one table that differ, every interval valid and contiguous.
use Rattle.std.specs.Prelude.{ℕ, Bool, List}
use Rattle.laws.specs.Choice.{also, ask, and_then}
use Rattle.layout.specs.declared.Geometry.{Geometry}
use Rattle.journal.specs.Memory.{ask_blocks, ask_journal}
use Rattle.tables.specs.declared.IntervalTable.{IntervalTable}
use Rattle.tables.specs.Rows.{counted}
use Rattle.tables.specs.IntervalTable.{valid_intervals}
use Rattle.requests.specs.Slots.{SuperblockReads}
use Rattle.disk.specs.declared.Disk.{Disk}
use Rattle.requests.specs.Limits.{most_superblock_reads, most_journal_reads, most_journal_writes}

unfoldable pub reads_ok : SuperblockReads → Bool
reads_ok r =
    also (counted most_superblock_reads r.first.count r.first.ids)
    (counted most_superblock_reads r.second.count r.second.ids)

unfoldable pub intervals_ok : Geometry → ℕ → IntervalTable → Bool
intervals_ok g most t =
    also (counted most t.count t.ids)
    (valid_intervals g t)

unfoldable pub disk_ok : Geometry → Disk → Bool
disk_ok g d =
    also (reads_ok d.superblockReads)
    (also (intervals_ok g most_journal_reads d.journalReads)
    (intervals_ok g most_journal_writes d.journalWrites))

-- question 2
unfoldable pub ask_state : Geometry → Disk → ℕ
ask_state g d = ask 2 (disk_ok g d)

-- questions 1 and 2, without and with a buffer
unfoldable pub ask_disk : Geometry → Disk → List ℕ → List ℕ → ℕ
ask_disk g d blocks marks = and_then (ask_journal g blocks marks) (ask_state g d)

unfoldable pub ask_disk_out : Geometry → Disk → List ℕ → List ℕ → List ℕ → ℕ
ask_disk_out g d blocks marks out = and_then (ask_journal g blocks marks) (and_then (ask_blocks g out) (ask_state g d))
