-- Question 2 of a system, beside that of its machine and of its disk: both slots well formed; the machine awaits exactly the ids that the
-- disk holds, with the same slot, interval or new superblock; journal writes in flight overlap neither each other nor the selected interval.
-- A clause a line, in the order of `JoinedBy` (source, Meets).
use Rattle.std.specs.Prelude.{Bool, take}
use Rattle.laws.specs.Choice.{also}
use Rattle.layout.specs.declared.Geometry.{Geometry}
use Rattle.tables.specs.Rows.{same_ids}
use Rattle.machine.specs.declared.Machine.{Machine}
use Rattle.disk.specs.declared.Disk.{Disk}
use Rattle.joined.specs.declared.Awaited.{Awaited}
use Rattle.joined.specs.Awaited.{awaited_by}
use Rattle.joined.specs.Held.{same_reads, same_journal_reads, same_writes}
use Rattle.joined.specs.Apart.{slots_wf, writes_apart, writes_clear}

-- the disk holds what is awaited, and its writes are free
unfoldable pub joined_by : Geometry → Awaited → Disk → Bool
joined_by g a d =
    also (slots_wf g d.slots)
    (also (same_reads a.superblockReads d.superblockReads)
    (also (same_journal_reads a.journalReads d.journalReads)
    (also (same_writes a.superblockWrites d.superblockWrites)
    (also (same_ids (take a.journalWrites.count a.journalWrites.ids) (take d.journalWrites.count d.journalWrites.ids))
    (also (writes_apart d.journalWrites)
    (writes_clear g d.slots d.journalWrites))))))

unfoldable pub joined_ok : Geometry → Machine → Disk → Bool
joined_ok g m d = joined_by g (awaited_by g m) d
