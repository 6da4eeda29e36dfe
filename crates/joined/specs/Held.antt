-- The disk holds exactly what is awaited: the same ids, each with its slot, interval or new superblock.
use Rattle.std.specs.Prelude.{None, Some}
use Rattle.std.specs.declared.option.Option as code
use Rattle.std.specs.Prelude.{Bool, true, false, eqb, take}
use Rattle.laws.specs.Choice.{also}
use Rattle.interval.specs.declared.JournalInterval.{JournalInterval}
use Rattle.superblock.specs.Superblock.{same_superblock}
use Rattle.tables.specs.declared.IdTable.{IdTable}
use Rattle.tables.specs.declared.IntervalTable.{IntervalTable}
use Rattle.tables.specs.Rows.{same_ids}
use Rattle.tables.specs.IdTable.{no_ids, added_id}
use Rattle.laws.specs.Optional.{optional}
use Rattle.tables.specs.IntervalTable.{interval_map}
use Rattle.requests.specs.Slots.{SuperblockReads, SuperblockWrites}
use Rattle.requests.specs.declared.SuperblockWrite.{SuperblockWrite}
use Rattle.joined.specs.declared.AwaitedRead.{AwaitedRead}
use Rattle.joined.specs.declared.AwaitedReads.{AwaitedReads}

-- superblock reads, slot by slot
unfoldable pub same_tables : IdTable → IdTable → Bool
same_tables a b = same_ids (take a.count a.ids) (take b.count b.ids)

unfoldable pub same_reads : SuperblockReads → SuperblockReads → Bool
same_reads awaited held =
    also (same_tables awaited.first held.first)
    (same_tables awaited.second held.second)

-- journal reads: the same ids, and each awaited id has its interval
unfoldable pub same_interval : JournalInterval → JournalInterval → Bool
same_interval v w =
    also (eqb v.start w.start)
    (eqb v.len w.len)

abbrev pub read_is : code.Option JournalInterval → JournalInterval → Bool
read_is (Some w) v = same_interval v w
read_is None v = false

abbrev pub read_held : IntervalTable → code.Option AwaitedRead → Bool
read_held t (Some r) = read_is (optional (interval_map t r.id)) r.interval
read_held t None = true

abbrev pub read_added : IdTable → code.Option AwaitedRead → IdTable
read_added ids (Some r) = added_id ids r.id
read_added ids None = ids

unfoldable pub read_ids : AwaitedReads → IdTable
read_ids reads = read_added (read_added no_ids reads.front) reads.back

unfoldable pub same_journal_reads : AwaitedReads → IntervalTable → Bool
same_journal_reads awaited t =
    also (same_ids (take (read_ids awaited).count (read_ids awaited).ids) (take t.count t.ids))
    (also (read_held t awaited.front)
    (read_held t awaited.back))

-- superblock writes, slot by slot: none, or the same id and superblock
abbrev pub same_write : code.Option SuperblockWrite → code.Option SuperblockWrite → Bool
same_write (Some a) (Some b) = also (eqb a.id b.id) (same_superblock a.superblock b.superblock)
same_write (Some a) None = false
same_write None (Some b) = false
same_write None None = true

unfoldable pub same_writes : SuperblockWrites → SuperblockWrites → Bool
same_writes awaited held =
    also (same_write awaited.first held.first)
    (same_write awaited.second held.second)
