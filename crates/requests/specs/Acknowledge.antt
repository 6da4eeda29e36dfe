-- What the disk asks when it answers a request, after questions 1 and 2, and the disk after it: 001's AckRead and AckWrite.
use Rattle.superblock.specs.declared.Superblock.{Superblock}
use Rattle.std.specs.Prelude.{None, Some}
use Rattle.std.specs.declared.option.Option as code
use Rattle.std.specs.Prelude.{ℕ, Bool, true, false, not, cond, List, take}
use Rattle.laws.specs.Choice.{ask, and_then}
use Rattle.laws.specs.Sets.{ids_of}
use Rattle.interval.specs.declared.JournalInterval.{JournalInterval}
use Rattle.interval.specs.Interval.{interval}
use Rattle.superblock.specs.Superblock.{same_superblock}
use Rattle.journal.specs.Memory.{ask_readable}
use Rattle.tables.specs.declared.IntervalTable.{IntervalTable}
use Rattle.tables.specs.Rows.{place_of}
use Rattle.tables.specs.IdTable.{id_set, removed_id}
use Rattle.laws.specs.Optional.{optional}
use Rattle.tables.specs.IntervalTable.{interval_map, removed_interval}
use Rattle.requests.specs.declared.SuperblockWrite.{SuperblockWrite}
use Rattle.requests.specs.Slots.{Slots, SuperblockReads, SuperblockWrites, ask_which, slot_at, put_slot, is_write}

-- AckReadSuperblock: `which`; an id that waits in that slot's reads; whole only where the slot holds a superblock

unfoldable pub ask_waiting : SuperblockReads → ℕ → ℕ → ℕ
ask_waiting r which id = and_then (ask_which which) (ask 5 (id_set (slot_at r which) id))

unfoldable pub may_read : Bool → code.Option Superblock → Bool
may_read whole (Some s) = true
may_read whole None = not whole

unfoldable pub ask_ack_read_superblock : Slots → SuperblockReads → ℕ → ℕ → Bool → ℕ
ask_ack_read_superblock s r which id whole =
    and_then (ask_waiting r which id)
    (ask 6 (may_read whole (slot_at s which)))

-- what is read: the slot's own superblock, or damaged
unfoldable pub read_from : Bool → code.Option Superblock → code.Option Superblock
read_from whole x = cond whole x None

unfoldable pub read_acked : SuperblockReads → ℕ → ℕ → SuperblockReads
read_acked r which id = put_slot r which (removed_id (slot_at r which) (place_of id (take (slot_at r which).count (slot_at r which).ids)))

-- an answer that comes with what was read: damaged, or whole with exactly what the slot holds
unfoldable pub holds_read : code.Option Superblock → code.Option Superblock → Bool
holds_read x None = true
holds_read (Some t) (Some s) = same_superblock t s
holds_read None (Some s) = false

unfoldable pub ask_read_superblock_as : Slots → SuperblockReads → ℕ → ℕ → code.Option Superblock → ℕ
ask_read_superblock_as s r which id x =
    and_then (ask_waiting r which id)
    (ask 6 (holds_read (slot_at s which) x))

-- AckReadJournal: an id that waits; whole only where every block of its interval is readable

abbrev pub or_empty : code.Option JournalInterval → JournalInterval
or_empty (Some v) = v
or_empty None = interval 0 0

unfoldable pub held_interval : IntervalTable → ℕ → JournalInterval
held_interval t id = or_empty (optional (interval_map t id))

unfoldable pub ask_ack_read_journal : IntervalTable → ℕ → Bool → List ℕ → ℕ
ask_ack_read_journal t id whole marks =
    and_then (ask 5 (ids_of (take t.count t.ids) id))
    (cond whole (ask_readable (held_interval t id) marks) 0)

unfoldable pub interval_left : IntervalTable → ℕ → IntervalTable
interval_left t id = removed_interval t (place_of id (take t.count t.ids))

-- AckWriteSuperblock: `which`; that slot's write has this id; it has landed: the slot holds exactly its superblock

unfoldable pub landed : code.Option Superblock → code.Option SuperblockWrite → Bool
landed x None = false
landed (Some t) (Some w) = same_superblock t w.superblock
landed None (Some w) = false

unfoldable pub ask_ack_write_superblock : Slots → SuperblockWrites → ℕ → ℕ → ℕ
ask_ack_write_superblock s w which id =
    and_then (ask_which which)
    (and_then (ask 5 (is_write (slot_at w which) id))
    (ask 6 (landed (slot_at s which) (slot_at w which))))

-- AckWriteJournal: an id that waits

unfoldable pub ask_ack_write_journal : IntervalTable → ℕ → ℕ
ask_ack_write_journal t id = ask 5 (ids_of (take t.count t.ids) id)
