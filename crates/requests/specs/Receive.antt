-- What the disk asks of a request that it receives, after questions 1 and 2, and the disk after it: 001's RecvRead and RecvWrite.
use Rattle.std.specs.Prelude.{None, Some}
use Rattle.std.specs.declared.option.Option as code
use Rattle.std.specs.Prelude.{ℕ, Bool, true, not, cond, eqb, take}
use Rattle.laws.specs.Choice.{also, either, ask, and_then}
use Rattle.laws.specs.Sets.{ids_of}
use Rattle.layout.specs.declared.Geometry.{Geometry}
use Rattle.interval.specs.declared.JournalInterval.{JournalInterval}
use Rattle.laws.specs.Optional.{optional}
use Rattle.interval.specs.Interval.{valid_journal_interval, contiguous_journal_interval, journal_front_interval, journal_back_interval}
use Rattle.tables.specs.declared.IntervalTable.{IntervalTable}
use Rattle.tables.specs.Rows.{has_room, ask_add}
use Rattle.tables.specs.IdTable.{id_set, added_id}
use Rattle.tables.specs.IntervalTable.{added_interval}
use Rattle.requests.specs.Limits.{most_superblock_reads, most_journal_reads, most_journal_writes}
use Rattle.requests.specs.Slots.{SuperblockReads, SuperblockWrites, ask_which, slot_at, put_slot, is_write}

-- RecvReadSuperblock: `which`; an id in neither slot's reads; room

unfoldable pub ask_recv_read_superblock : SuperblockReads → ℕ → ℕ → ℕ
ask_recv_read_superblock r which id =
    and_then (ask_which which)
    (and_then (ask 5 (not (either (id_set r.first id) (id_set r.second id))))
    (ask 8 (has_room most_superblock_reads (slot_at r which).count 1 (slot_at r which).ids)))

unfoldable pub read_received : SuperblockReads → ℕ → ℕ → SuperblockReads
read_received r which id = put_slot r which (added_id (slot_at r which) id)

-- RecvReadJournal: a contiguous interval; a new id; room

unfoldable pub ask_recv_read_journal : Geometry → IntervalTable → ℕ → JournalInterval → ℕ
ask_recv_read_journal g t id v =
    and_then (ask 4 (contiguous_journal_interval g v))
    (ask_add most_journal_reads t.count t.ids id)

-- RecvWriteSuperblock: `which`; an id unlike both writes in flight. A newer write takes the place of the older

unfoldable pub ask_recv_write_superblock : SuperblockWrites → ℕ → ℕ → ℕ
ask_recv_write_superblock w which id =
    and_then (ask_which which)
    (ask 5 (not (either (is_write w.first id) (is_write w.second id))))

-- RecvWriteJournal: a valid interval; new ids; room for its rows, one where it runs straight and two where it passes the ring's end; a
-- second id exactly where it passes the end, and unlike the first

unfoldable pub is_new : IntervalTable → code.Option ℕ → Bool
is_new t (Some id) = not (ids_of (take t.count t.ids) id)
is_new t None = true

unfoldable pub ask_new_ids : IntervalTable → ℕ → code.Option ℕ → ℕ
ask_new_ids t id1 id2 = ask 5 (also (not (ids_of (take t.count t.ids) id1)) (is_new t id2))

unfoldable pub rows_for : Bool → ℕ
rows_for straight = cond straight 1 2

unfoldable pub second_fits : Bool → ℕ → code.Option ℕ → Bool
second_fits straight id1 (Some id) = also (not straight) (not (eqb id id1))
second_fits straight id1 None = straight

unfoldable pub ask_rows : IntervalTable → Bool → ℕ → code.Option ℕ → ℕ
ask_rows t straight id1 id2 =
    and_then (ask 8 (has_room most_journal_writes t.count (rows_for straight) t.ids))
    (ask 9 (second_fits straight id1 id2))

unfoldable pub ask_recv_write_journal : Geometry → IntervalTable → ℕ → code.Option ℕ → JournalInterval → ℕ
ask_recv_write_journal g t id1 id2 v =
    and_then (ask 4 (valid_journal_interval g v))
    (and_then (ask_new_ids t id1 id2)
    (ask_rows t (contiguous_journal_interval g v) id1 id2))

-- the rows: the interval, or its front and its back
unfoldable pub added_part : IntervalTable → ℕ → code.Option JournalInterval → IntervalTable
added_part t id (Some v) = added_interval t id v
added_part t id None = t

unfoldable pub write_received : Geometry → IntervalTable → ℕ → code.Option ℕ → JournalInterval → IntervalTable
write_received g t id1 (Some id) v =
    added_part (added_part t id1 (optional (journal_front_interval g v.start v.len))) id
    (optional (journal_back_interval g v.start v.len))
write_received g t id1 None v = added_interval t id1 v
