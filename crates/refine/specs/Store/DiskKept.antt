-- A disk operation that is taken keeps the disk's tables: counts within array and limit, and ids that differ.
use Rattle.std.specs.Prelude.{ℕ, Bool, cond, ◌≡◌, List, eqb, take, None, Some}
use Rattle.std.specs.declared.option.Option as code
use Rattle.std.proofs.Math.Bool.{true, false}
use Rattle.std.proofs.Common.{sym, ◌∙◌, arith}
use Rattle.std.proofs.Math.Path.{ap}
use Rattle.laws.specs.Choice.{ruin}
use Rattle.laws.specs.Sets.{ids_of, AtMost, at}
use Rattle.layout.specs.declared.Geometry.{Geometry}
use Rattle.interval.specs.declared.JournalInterval.{JournalInterval}
use Rattle.laws.specs.Optional.{optional}
use Rattle.interval.specs.Interval.{interval, contiguous_journal_interval, journal_front_interval, journal_back_interval}
use Rattle.superblock.specs.declared.DiskOp.{DiskOp}
use Rattle.superblock.specs.declared.DiskOp.TheVariants as op
use Rattle.tables.specs.declared.IdTable.{IdTable}
use Rattle.tables.specs.declared.IntervalTable.{IntervalTable}
use Rattle.tables.specs.Rows.{place_of, Counted, has_room}
use Rattle.tables.specs.IdTable.{id_set, added_id, removed_id}
use Rattle.tables.specs.IntervalTable.{interval_rows, added_interval}
use Rattle.tables.proofs.Laws.Counts.{Addable, addable, add_asked, room_limit, room_array, count_few}
use Rattle.tables.proofs.Laws.IdTables.{ids_added_ok, ids_removed_ok}
use Rattle.tables.proofs.Laws.RowTables.{rows_second, rows_few}
use Rattle.tables.proofs.Laws.IntervalTables.{intervals_added_ok, intervals_removed_ok, level_intervals}
use Rattle.source.specs.Limits.{limits, DiskCounts}
use Rattle.requests.specs.Slots.{Slots, SuperblockReads, slot_at, put_slot}
use Rattle.disk.specs.declared.Disk.{Disk}
use Rattle.disk.specs.Disk.{idle_disk}
use Rattle.requests.specs.Receive.{read_received, added_part, write_received, rows_for, second_fits}
use Rattle.disk.specs.Next.{recv_read_superblock_next, recv_read_journal_next, recv_write_superblock_next, recv_write_journal_next}
use Rattle.requests.specs.Acknowledge.{read_acked, interval_left}
use Rattle.disk.specs.Next.{ack_read_superblock_next, ack_read_journal_next, ack_write_superblock_next, ack_write_journal_next}
use Rattle.disk.specs.Operation.{ask_decision, operation_next}
use Rattle.disk.specs.Next.{land_next}
use Rattle.disk.specs.Laws.Questions.{DiskOk}
use Rattle.requests.specs.Laws.Receive.{recv_read_superblock_asked, recv_read_journal_asked, RecvWriteJournalAsked, recv_write_journal_asked, second_new, straight_one, wrapped_two, rows_straight, rows_wrapped}
use Rattle.crash.specs.Laws.Whole.{idle_ok}
use Rattle.refine.specs.Store.PartsSized.{put_first, put_second}
use Rattle.refine.specs.Disk.View.{disk_of, SizedDisk, DiskTables}

-- question 2 of the tables
pub record Tabled (d : Disk) : Type 0 where
  pub reads1 : Counted 8 d.superblockReads.first.count d.superblockReads.first.ids
  pub reads2 : Counted 8 d.superblockReads.second.count d.superblockReads.second.ids
  pub journal_reads_is : Counted 8 d.journalReads.count d.journalReads.ids
  pub journal_writes_is : Counted 16 d.journalWrites.count d.journalWrites.ids

pub ok_tabled : (g : Geometry) (d : Disk) → DiskOk g d → Tabled d
ok_tabled g d f = record { reads1 = f.reads1; reads2 = f.reads2; journal_reads_is = f.journal_reads_is; journal_writes_is = f.journal_writes_is }

-- what it says of the record, and of the view
pub tabled_tables : (d : Disk) → Tabled d → DiskTables d
tabled_tables d t =
    record {
      reads1 = record { in_array = t.reads1.in_array; differ = t.reads1.differ };
      reads2 = record { in_array = t.reads2.in_array; differ = t.reads2.differ };
      journal_reads_is = record { in_array = t.journal_reads_is.in_array; differ = t.journal_reads_is.differ };
      journal_writes_is = record { in_array = t.journal_writes_is.in_array; differ = t.journal_writes_is.differ };
    }

pub tabled_counts : (g : Geometry) (blocks marks : List ℕ) (d : Disk) → SizedDisk d → Tabled d → DiskCounts limits (disk_of g blocks marks d)
tabled_counts g blocks marks d z t =
    record {
      superblock_reads_few = slots;
      journal_reads_few = rows_few (interval_rows d.journalReads) (level_intervals d.journalReads z.journal_reads_is) 8 t.journal_reads_is 8 t.journal_reads_is.few;
      journal_writes_few = rows_few (interval_rows d.journalWrites) (level_intervals d.journalWrites z.journal_writes_is) 16 t.journal_writes_is 16 t.journal_writes_is.few;
    }
  where
    slots : (which : Bool) → AtMost 8 (at (disk_of g blocks marks d).req_read_superblocks which)
    slots false = count_few 8 d.superblockReads.first.count d.superblockReads.first.ids t.reads1 8 t.reads1.few
    slots true = count_few 8 d.superblockReads.second.count d.superblockReads.second.ids t.reads2 8 t.reads2.few

-- one slot's table
abbrev InTable : IdTable → Type 0
InTable t = Counted 8 t.count t.ids

module _ (r : SuperblockReads) (which : ℕ) (a : InTable r.first) (b : InTable r.second) where
  at_kept : InTable (slot_at r which)
  unfolding slot_at
  at_kept = go (eqb which 0)
    where
      go : (t : Bool) → InTable (cond {A = IdTable} t r.first r.second)
      go true = a
      go false = b

-- an id that is in neither slot's table isn't in the one
new_at : (r : SuperblockReads) (which id : ℕ) → id_set r.first id ≡ false → id_set r.second id ≡ false → id_set (slot_at r which) id ≡ false
unfolding slot_at
new_at r which id a b = go (eqb which 0)
  where
    go : (t : Bool) → id_set (cond {A = IdTable} t r.first r.second) id ≡ false
    go true = a
    go false = b

-- a write's rows: one, or two
abbrev InRows : IntervalTable → Type 0
InRows t = Counted 16 t.count t.ids

part_kept : (t : IntervalTable) (id : ℕ) (p : code.Option JournalInterval) → InRows t → Addable 16 t.count t.ids id → InRows (added_part t id p)
unfolding added_part
part_kept t id (Some v) c a = intervals_added_ok t 16 c id v a
part_kept t id None c a = c

part_second : (t : IntervalTable) (id1 id : ℕ) (p : code.Option JournalInterval) → has_room 16 t.count 2 t.ids ≡ true → ids_of (take t.count t.ids) id ≡ false → (id ≡ id1 → ⊥)
    → Addable 16 (added_part t id1 p).count (added_part t id1 p).ids id
unfolding added_part added_interval
part_second t id1 id (Some v) e n o = rows_second (interval_rows t) 16 id1 id v e n o
part_second t id1 id None e n o =
    record { new = n; below = omega (arith, room_limit 16 t.count t.ids 2 e); free = omega (arith, room_array 16 t.count t.ids 2 e) }

module _ (g : Geometry) (t : IntervalTable) (id1 : ℕ) (v : JournalInterval) (c : InRows t) where
  first_addable : (id2 : code.Option ℕ) → RecvWriteJournalAsked g t id1 id2 v → Addable 16 t.count t.ids id1
  first_addable id2 a =
      let room : (b : Bool) → has_room 16 t.count (rows_for b) t.ids ≡ true → Addable 16 t.count t.ids id1 = by_rows a.new1 in
      room (contiguous_journal_interval g v) a.room
    where
      by_rows : ids_of (take t.count t.ids) id1 ≡ false → (b : Bool) → has_room 16 t.count (rows_for b) t.ids ≡ true → Addable 16 t.count t.ids id1
      by_rows n true e =
          let k = ap (λ (i : ℕ). has_room 16 t.count i t.ids) (sym rows_straight) ∙ e in
          record { new = n; below = omega (arith, room_limit 16 t.count t.ids 1 k); free = omega (arith, room_array 16 t.count t.ids 1 k) }
      by_rows n false e =
          let k = ap (λ (i : ℕ). has_room 16 t.count i t.ids) (sym rows_wrapped) ∙ e in
          record { new = n; below = omega (arith, room_limit 16 t.count t.ids 2 k); free = omega (arith, room_array 16 t.count t.ids 2 k) }

  write_kept : (id2 : code.Option ℕ) → RecvWriteJournalAsked g t id1 id2 v → InRows (write_received g t id1 id2 v)
  unfolding write_received
  write_kept None a = intervals_added_ok t 16 c id1 v (first_addable None a)
  write_kept (Some id) a = by_straight (contiguous_journal_interval g v) a.room a.second
    where
      by_straight : (b : Bool) → has_room 16 t.count (rows_for b) t.ids ≡ true → second_fits b id1 (Some id) ≡ true
          → InRows (added_part (added_part t id1 (optional (journal_front_interval g v.start v.len))) id (optional (journal_back_interval g v.start v.len)))
      by_straight true e f = let h = straight_one id1 (Some id) f in ruin (cc)
      by_straight false e f =
          let w = wrapped_two id1 (Some id) f in
          let same : w.0 ≡ id = let h = w.1 in cc in
          let k = ap (λ (i : ℕ). has_room 16 t.count i t.ids) (sym rows_wrapped) ∙ e in
          let front : (code.Option JournalInterval) = optional (journal_front_interval g v.start v.len) in
          part_kept (added_part t id1 front) id (optional (journal_back_interval g v.start v.len))
          (part_kept t id1 front c (first_addable (Some id) a))
          (part_second t id1 id front k (second_new t id a.new2) (λ h. w.2 (same ∙ h)))

pub idle_tabled : (g : Geometry) (slots : Slots) → Tabled (idle_disk slots)
idle_tabled g slots = ok_tabled g (idle_disk slots) (idle_ok g slots)

module _ (d : Disk) (t : Tabled d) where
  pub land_tabled : (which : ℕ) → Tabled (land_next d which)
  unfolding land_next
  land_tabled which = record { reads1 = t.reads1; reads2 = t.reads2; journal_reads_is = t.journal_reads_is; journal_writes_is = t.journal_writes_is }

  pub read_left_tabled : (id : ℕ) → Tabled (ack_read_journal_next d id)
  unfolding ack_read_journal_next interval_left
  read_left_tabled id =
      record {
        reads1 = t.reads1;
        reads2 = t.reads2;
        journal_reads_is = intervals_removed_ok d.journalReads 8 t.journal_reads_is (place_of id (take d.journalReads.count d.journalReads.ids));
        journal_writes_is = t.journal_writes_is;
      }

  reads_put_tabled : (which : ℕ) (x : IdTable) → InTable x
      → Tabled (record { slots = d.slots; superblockReads = put_slot d.superblockReads which x; superblockWrites = d.superblockWrites; journalReads = d.journalReads; journalWrites = d.journalWrites })
  reads_put_tabled which x c =
      record {
        reads1 = put_first InTable d.superblockReads which x t.reads1 t.reads2 c;
        reads2 = put_second InTable d.superblockReads which x t.reads1 t.reads2 c;
        journal_reads_is = t.journal_reads_is;
        journal_writes_is = t.journal_writes_is;
      }

  pub operation_tabled : (g : Geometry) (o : DiskOp) → ask_decision g d o ≡ 0 → Tabled (operation_next g d o)
  unfolding recv_read_superblock_next recv_read_journal_next recv_write_superblock_next recv_write_journal_next ack_read_superblock_next ack_write_superblock_next ack_write_journal_next read_received read_acked interval_left
  operation_tabled g (op.ReqReadSuperblock id which) e =
      let a = recv_read_superblock_asked d.superblockReads which id e in
      let u : IdTable = slot_at d.superblockReads which in
      reads_put_tabled which (added_id u id)
      (ids_added_ok u 8 (at_kept d.superblockReads which t.reads1 t.reads2) id
      (addable 8 u.count u.ids id (new_at d.superblockReads which id a.new1 a.new2) a.room))
  operation_tabled g (op.ReqReadJournal id v) e =
      record {
        reads1 = t.reads1;
        reads2 = t.reads2;
        journal_reads_is =
            intervals_added_ok d.journalReads 8 t.journal_reads_is id v
            (add_asked 8 d.journalReads.count d.journalReads.ids id (recv_read_journal_asked g d.journalReads id v e).add);
        journal_writes_is = t.journal_writes_is;
      }
  operation_tabled g (op.ReqWriteSuperblock id which superblock) e =
      record { reads1 = t.reads1; reads2 = t.reads2; journal_reads_is = t.journal_reads_is; journal_writes_is = t.journal_writes_is }
  operation_tabled g (op.ReqWriteJournal id1 id2 start count) e =
      record {
        reads1 = t.reads1;
        reads2 = t.reads2;
        journal_reads_is = t.journal_reads_is;
        journal_writes_is =
            write_kept g d.journalWrites id1 (interval start count) t.journal_writes_is id2
            (recv_write_journal_asked g d.journalWrites id1 id2 (interval start count) e);
      }
  operation_tabled g (op.RespReadSuperblock id which superblock) e =
      let u : IdTable = slot_at d.superblockReads which in
      reads_put_tabled which (removed_id u (place_of id (take u.count u.ids)))
      (ids_removed_ok u 8 (at_kept d.superblockReads which t.reads1 t.reads2) (place_of id (take u.count u.ids)))
  operation_tabled g (op.RespReadJournal id journal) e = read_left_tabled id
  operation_tabled g (op.RespWriteSuperblock id which) e =
      record { reads1 = t.reads1; reads2 = t.reads2; journal_reads_is = t.journal_reads_is; journal_writes_is = t.journal_writes_is }
  operation_tabled g (op.RespWriteJournal id) e =
      record {
        reads1 = t.reads1;
        reads2 = t.reads2;
        journal_reads_is = t.journal_reads_is;
        journal_writes_is = intervals_removed_ok d.journalWrites 16 t.journal_writes_is (place_of id (take d.journalWrites.count d.journalWrites.ids));
      }
  operation_tabled g op.NoDiskOp e = t
