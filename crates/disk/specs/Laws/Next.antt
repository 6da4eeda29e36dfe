-- The disk after each operation, part by part.
use Rattle.std.specs.declared.option.Option as code
use Rattle.std.specs.Prelude.{ℕ, ◌≡◌, refl, take, None}
use Rattle.std.proofs.Common.{ap}
use Rattle.layout.specs.declared.Geometry.{Geometry}
use Rattle.interval.specs.declared.JournalInterval.{JournalInterval}
use Rattle.superblock.specs.declared.Superblock.{Superblock}
use Rattle.tables.specs.Rows.{place_of}
use Rattle.tables.specs.IdTable.{added_id, removed_id}
use Rattle.tables.specs.IntervalTable.{added_interval, removed_interval}
use Rattle.disk.specs.declared.Disk.{Disk}
use Rattle.disk.specs.Disk.{with_superblock_reads, with_superblock_writes, with_journal_reads, with_journal_writes, with_slots}
use Rattle.requests.specs.Slots.{slot_at, put_slot, writing}
use Rattle.requests.specs.Receive.{write_received}
use Rattle.disk.specs.Next.{recv_read_superblock_next, recv_read_journal_next, recv_write_superblock_next, recv_write_journal_next, ack_read_superblock_next, ack_read_journal_next, ack_write_superblock_next, ack_write_journal_next, land_next}
use Rattle.requests.specs.Landing.{landing_on}
use Rattle.requests.specs.Laws.Receive.{read_received_is}
use Rattle.requests.specs.Laws.Acknowledge.{read_acked_is, interval_left_is}
use Rattle.requests.specs.Laws.Landing.{slots_landed_is}

pub recv_read_superblock_next_is : (d : Disk) (which id : ℕ)
    → recv_read_superblock_next d which id ≡ with_superblock_reads d (put_slot d.superblockReads which (added_id (slot_at d.superblockReads which) id))
unfolding recv_read_superblock_next
recv_read_superblock_next_is d which id = ap (with_superblock_reads d) (read_received_is d.superblockReads which id)

pub recv_read_journal_next_is : (d : Disk) (id : ℕ) (v : JournalInterval) → recv_read_journal_next d id v ≡ with_journal_reads d (added_interval d.journalReads id v)
unfolding recv_read_journal_next
recv_read_journal_next_is d id v = refl

pub recv_write_superblock_next_is : (d : Disk) (which id : ℕ) (s : Superblock)
    → recv_write_superblock_next d which id s ≡ with_superblock_writes d (put_slot d.superblockWrites which (writing id s))
unfolding recv_write_superblock_next
recv_write_superblock_next_is d which id s = refl

pub recv_write_journal_next_is : (g : Geometry) (d : Disk) (id1 : ℕ) (id2 : code.Option ℕ) (v : JournalInterval)
    → recv_write_journal_next g d id1 id2 v ≡ with_journal_writes d (write_received g d.journalWrites id1 id2 v)
unfolding recv_write_journal_next
recv_write_journal_next_is g d id1 id2 v = refl

pub ack_read_superblock_next_is : (d : Disk) (which id : ℕ)
    → ack_read_superblock_next d which id
    ≡ with_superblock_reads d
    (put_slot d.superblockReads which
    (removed_id (slot_at d.superblockReads which) (place_of id (take (slot_at d.superblockReads which).count (slot_at d.superblockReads which).ids))))
unfolding ack_read_superblock_next
ack_read_superblock_next_is d which id = ap (with_superblock_reads d) (read_acked_is d.superblockReads which id)

pub ack_read_journal_next_is : (d : Disk) (id : ℕ)
    → ack_read_journal_next d id ≡ with_journal_reads d (removed_interval d.journalReads (place_of id (take d.journalReads.count d.journalReads.ids)))
unfolding ack_read_journal_next
ack_read_journal_next_is d id = ap (with_journal_reads d) (interval_left_is d.journalReads id)

pub ack_write_superblock_next_is : (d : Disk) (which : ℕ) → ack_write_superblock_next d which ≡ with_superblock_writes d (put_slot d.superblockWrites which None)
unfolding ack_write_superblock_next
ack_write_superblock_next_is d which = refl

pub ack_write_journal_next_is : (d : Disk) (id : ℕ)
    → ack_write_journal_next d id ≡ with_journal_writes d (removed_interval d.journalWrites (place_of id (take d.journalWrites.count d.journalWrites.ids)))
unfolding ack_write_journal_next
ack_write_journal_next_is d id = ap (with_journal_writes d) (interval_left_is d.journalWrites id)

pub land_next_is : (d : Disk) (which : ℕ)
    → land_next d which ≡ with_slots d (put_slot d.slots which (landing_on (slot_at d.slots which) (slot_at d.superblockWrites which)))
unfolding land_next
land_next_is d which = ap (with_slots d) (slots_landed_is d.slots d.superblockWrites which)
