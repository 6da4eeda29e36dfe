-- Every limit of the disk is met exactly: the eighth read waits and the ninth is an 8, the sixteenth journal write waits and the seventeenth is
-- an 8, also where a write takes two places.
use Rattle.std.specs.Prelude.{ℕ, ◌+◌, ◌*◌, ◌/◌, ◌≤◌, ◌<◌, Bool, ◌≡◌, List, length, take, None, Some, Ok, Err}
use Rattle.std.proofs.Math.Bool.{true, false}
use Rattle.std.proofs.Common.{◌∙◌, arith}
use Rattle.std.proofs.Math.Path.{ap}
use Rattle.std.proofs.Math.Option.{none}
use Rattle.laws.specs.Choice.{not_so}
use Rattle.laws.specs.Sets.{ids_of}
use Rattle.refusal.specs.declared.Refusal.TheVariants as no
use Rattle.layout.specs.declared.Geometry.{Geometry}
use Rattle.interval.specs.declared.JournalInterval.{JournalInterval}
use Rattle.interval.specs.Interval.{contiguous_journal_interval}
use Rattle.interval.specs.Facts.{ValidJournalInterval, ContiguousJournalInterval, facts_interval, contiguous_facts, facts_contiguous}
use Rattle.tables.specs.Rows.{has_room}
use Rattle.tables.specs.IdTable.{id_set}
use Rattle.tables.specs.IntervalTable.{interval_rows, interval_map}
use Rattle.tables.proofs.Laws.Counts.{asks_add, has_room_is, no_room}
use Rattle.tables.proofs.Laws.RowTables.{rows_new}
use Rattle.tables.proofs.Laws.IntervalTables.{level_intervals}
use Rattle.source.specs.Limits.{limits}
use Rattle.source.specs.Meets.{DiskMeets}
use Rattle.disk.specs.declared.Disk.{Disk}
use Rattle.requests.specs.Slots.{slot_at}
use Rattle.requests.specs.Receive.{ask_recv_read_superblock, ask_recv_read_journal, rows_for, second_fits}
use Rattle.disk.specs.Next.{recv_read_superblock_next, recv_read_journal_next, recv_write_journal_next}
use Rattle.disk.specs.Memory.{new_interval, ask_new_blocks}
use Rattle.disk.specs.Whole.{recv_read_superblock, recv_read_journal, recv_write_journal}
use Rattle.requests.specs.Laws.Receive.{recv_read_superblock_full, asks_recv_read_superblock, asks_recv_read_journal, recv_read_journal_full, asks_recv_write_journal, recv_write_journal_full, new_second, new_none, one_straight, two_wrapped, rows_straight, rows_wrapped}
use Rattle.disk.specs.Laws.Memory.{asks_new_blocks, new_blocks_full}
use Rattle.refine.specs.Disk.View.{disk_of, SizedDisk, DiskTables, Lent}
use Rattle.refine.specs.Disk.Calls.{done_by, refused_by}
use Rattle.refine.specs.Disk.SuperblockReads.{reads_sized}

module _ (g : Geometry) (blocks marks : List ℕ) (d : Disk) (z : SizedDisk d) (t : DiskTables d) (l : Lent g blocks marks) (m : DiskMeets g limits (disk_of g blocks marks d)) where
  -- superblock reads of a slot
  module _ (which id : ℕ) (h : which ≤ 1) (n1 : id_set d.superblockReads.first id ≡ false) (n2 : id_set d.superblockReads.second id ≡ false) where
    pub recv_read_superblock_eighth : (slot_at d.superblockReads which).count ≡ 7 → (recv_read_superblock g d which id blocks marks).answer ≡ Ok record {}
    recv_read_superblock_eighth c =
        let size = (reads_sized d.superblockReads which z.reads1 z.reads2).ids_long in
        done_by g blocks marks d z (ask_recv_read_superblock d.superblockReads which id) (recv_read_superblock_next d which id) t l m
        (asks_recv_read_superblock d.superblockReads which id
        (record {
          which_in = h;
          new1 = n1;
          new2 = n2;
          room = has_room_is 8 (slot_at d.superblockReads which).count (slot_at d.superblockReads which).ids 1 (omega arith) (omega arith);
        }))

    pub recv_read_superblock_ninth : (slot_at d.superblockReads which).count ≡ 8 → (recv_read_superblock g d which id blocks marks).answer ≡ Err no.Room
    recv_read_superblock_ninth c =
        refused_by g blocks marks d z (ask_recv_read_superblock d.superblockReads which id) (recv_read_superblock_next d which id) t l m 8
        (recv_read_superblock_full d.superblockReads which id h n1 n2 (omega arith)) (omega arith)

  -- journal reads
  module _ (id : ℕ) (v : JournalInterval) (f : ContiguousJournalInterval g v) (n : interval_map d.journalReads id ≡ none) where
    pub recv_read_journal_eighth : d.journalReads.count ≡ 7 → (recv_read_journal g d id v blocks marks).answer ≡ Ok record {}
    recv_read_journal_eighth c =
        let size = z.journal_reads_is.ids_long in
        done_by g blocks marks d z (ask_recv_read_journal g d.journalReads id v) (recv_read_journal_next d id v) t l m
        (asks_recv_read_journal g d.journalReads id v
        (record {
          contiguous = facts_contiguous g v f;
          add =
              asks_add 8 d.journalReads.count d.journalReads.ids id
              (record { new = rows_new (interval_rows d.journalReads) (level_intervals d.journalReads z.journal_reads_is) id n; below = omega arith; free = omega arith });
        }))

    pub recv_read_journal_ninth : d.journalReads.count ≡ 8 → (recv_read_journal g d id v blocks marks).answer ≡ Err no.Room
    recv_read_journal_ninth c =
        refused_by g blocks marks d z (ask_recv_read_journal g d.journalReads id v) (recv_read_journal_next d id v) t l m 8
        (recv_read_journal_full g d.journalReads id v (facts_contiguous g v f)
        (rows_new (interval_rows d.journalReads) (level_intervals d.journalReads z.journal_reads_is) id n) (omega arith))
        (omega arith)

  -- journal writes
  module _ (id1 start : ℕ) (new : List ℕ) (w : length new ≡ length new / 4096 * 4096) (f : ValidJournalInterval g (new_interval start new)) (n1 : interval_map d.journalWrites id1 ≡ none) where
    v : JournalInterval
    v = new_interval start new

    out : (id : ℕ) → interval_map d.journalWrites id ≡ none → ids_of (take d.journalWrites.count d.journalWrites.ids) id ≡ false
    out id n = rows_new (interval_rows d.journalWrites) (level_intervals d.journalWrites z.journal_writes_is) id n

    -- one place
    module _ (s : start + length new / 4096 ≤ g.blocks) where
      straight : contiguous_journal_interval g (new_interval start new) ≡ true
      straight = facts_contiguous g (new_interval start new) (record { valid = f; end_in = s })

      one : (b : Bool) → has_room 16 d.journalWrites.count 1 d.journalWrites.ids ≡ b
          → has_room 16 d.journalWrites.count (rows_for (contiguous_journal_interval g (new_interval start new))) d.journalWrites.ids ≡ b
      one b e = (λ i. has_room 16 d.journalWrites.count ((ap rows_for straight ∙ rows_straight) i) d.journalWrites.ids) ∙ e

      pub recv_write_journal_sixteenth : d.journalWrites.count ≡ 15 → (recv_write_journal g d id1 None start new blocks marks).answer ≡ Ok record {}
      unfolding v
      recv_write_journal_sixteenth c =
          let size = z.journal_writes_is.ids_long in
          done_by g blocks marks d z (ask_new_blocks g d.journalWrites id1 None v new) (recv_write_journal_next g d id1 None v) t l m
          (asks_new_blocks g d.journalWrites id1 None v new w
          (asks_recv_write_journal g d.journalWrites id1 None v
          (record {
            valid = facts_interval g v f;
            new1 = out id1 n1;
            new2 = new_none d.journalWrites;
            room = one true (has_room_is 16 d.journalWrites.count d.journalWrites.ids 1 (omega arith) (omega arith));
            second = ap (λ (b : Bool). second_fits b id1 None) straight ∙ one_straight id1;
          })))

      pub recv_write_journal_seventeenth : d.journalWrites.count ≡ 16 → (recv_write_journal g d id1 None start new blocks marks).answer ≡ Err no.Room
      unfolding v
      recv_write_journal_seventeenth c =
          refused_by g blocks marks d z (ask_new_blocks g d.journalWrites id1 None v new) (recv_write_journal_next g d id1 None v) t l m 8
          (new_blocks_full g d.journalWrites id1 None v new w
          (recv_write_journal_full g d.journalWrites id1 None v (facts_interval g v f) (out id1 n1) (new_none d.journalWrites)
          (one false (no_room 16 d.journalWrites.count d.journalWrites.ids 1 (omega arith)))))
          (omega arith)

    -- two places
    module _ (id2 : ℕ) (n2 : interval_map d.journalWrites id2 ≡ none) (o : id2 ≡ id1 → ⊥) (s : g.blocks < start + length new / 4096) where
      wrapped : contiguous_journal_interval g (new_interval start new) ≡ false
      wrapped = not_so (contiguous_journal_interval g (new_interval start new)) (λ e. let k = contiguous_facts g (new_interval start new) e in omega arith)

      two : (b : Bool) → has_room 16 d.journalWrites.count 2 d.journalWrites.ids ≡ b
          → has_room 16 d.journalWrites.count (rows_for (contiguous_journal_interval g (new_interval start new))) d.journalWrites.ids ≡ b
      two b e = (λ i. has_room 16 d.journalWrites.count ((ap rows_for wrapped ∙ rows_wrapped) i) d.journalWrites.ids) ∙ e

      pub recv_write_journal_last_two : d.journalWrites.count ≡ 14 → (recv_write_journal g d id1 (Some id2) start new blocks marks).answer ≡ Ok record {}
      unfolding v
      recv_write_journal_last_two c =
          let size = z.journal_writes_is.ids_long in
          done_by g blocks marks d z (ask_new_blocks g d.journalWrites id1 (Some id2) v new) (recv_write_journal_next g d id1 (Some id2) v) t l m
          (asks_new_blocks g d.journalWrites id1 (Some id2) v new w
          (asks_recv_write_journal g d.journalWrites id1 (Some id2) v
          (record {
            valid = facts_interval g v f;
            new1 = out id1 n1;
            new2 = new_second d.journalWrites id2 (out id2 n2);
            room = two true (has_room_is 16 d.journalWrites.count d.journalWrites.ids 2 (omega arith) (omega arith));
            second = ap (λ (b : Bool). second_fits b id1 (Some id2)) wrapped ∙ two_wrapped id1 id2 o;
          })))

      pub recv_write_journal_one_left : d.journalWrites.count ≡ 15 → (recv_write_journal g d id1 (Some id2) start new blocks marks).answer ≡ Err no.Room
      unfolding v
      recv_write_journal_one_left c =
          refused_by g blocks marks d z (ask_new_blocks g d.journalWrites id1 (Some id2) v new) (recv_write_journal_next g d id1 (Some id2) v) t l m 8
          (new_blocks_full g d.journalWrites id1 (Some id2) v new w
          (recv_write_journal_full g d.journalWrites id1 (Some id2) v (facts_interval g v f) (out id1 n1) (new_second d.journalWrites id2 (out id2 n2))
          (two false (no_room 16 d.journalWrites.count d.journalWrites.ids 2 (omega arith)))))
          (omega arith)
