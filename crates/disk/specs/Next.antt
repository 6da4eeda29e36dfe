-- The disk after each operation.
use Rattle.std.specs.declared.option.Option as code
use Rattle.std.specs.Prelude.{ℕ, None}
use Rattle.layout.specs.declared.Geometry.{Geometry}
use Rattle.interval.specs.declared.JournalInterval.{JournalInterval}
use Rattle.superblock.specs.declared.Superblock.{Superblock}
use Rattle.tables.specs.IntervalTable.{added_interval}
use Rattle.disk.specs.declared.Disk.{Disk}
use Rattle.disk.specs.Disk.{with_superblock_reads, with_superblock_writes, with_journal_reads, with_journal_writes, with_slots}
use Rattle.requests.specs.Slots.{put_slot, writing}
use Rattle.requests.specs.Receive.{read_received, write_received}
use Rattle.requests.specs.Acknowledge.{read_acked, interval_left}
use Rattle.requests.specs.Landing.{slots_landed}

unfoldable pub recv_read_superblock_next : Disk → ℕ → ℕ → Disk
recv_read_superblock_next d which id = with_superblock_reads d (read_received d.superblockReads which id)

unfoldable pub recv_read_journal_next : Disk → ℕ → JournalInterval → Disk
recv_read_journal_next d id v = with_journal_reads d (added_interval d.journalReads id v)

unfoldable pub recv_write_superblock_next : Disk → ℕ → ℕ → Superblock → Disk
recv_write_superblock_next d which id superblock = with_superblock_writes d (put_slot d.superblockWrites which (writing id superblock))

unfoldable pub recv_write_journal_next : Geometry → Disk → ℕ → code.Option ℕ → JournalInterval → Disk
recv_write_journal_next g d id1 id2 v = with_journal_writes d (write_received g d.journalWrites id1 id2 v)

unfoldable pub ack_read_superblock_next : Disk → ℕ → ℕ → Disk
ack_read_superblock_next d which id = with_superblock_reads d (read_acked d.superblockReads which id)

unfoldable pub ack_read_journal_next : Disk → ℕ → Disk
ack_read_journal_next d id = with_journal_reads d (interval_left d.journalReads id)

unfoldable pub ack_write_superblock_next : Disk → ℕ → Disk
ack_write_superblock_next d which = with_superblock_writes d (put_slot d.superblockWrites which None)

unfoldable pub ack_write_journal_next : Disk → ℕ → Disk
ack_write_journal_next d id = with_journal_writes d (interval_left d.journalWrites id)

unfoldable pub land_next : Disk → ℕ → Disk
land_next d which = with_slots d (slots_landed d.slots d.superblockWrites which)
