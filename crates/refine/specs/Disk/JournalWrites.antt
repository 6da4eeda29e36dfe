-- Journal writes, received and answered, against 001's RecvWriteJournal and AckWriteJournal. The blocks change when the write is received.
use Rattle.std.specs.Prelude.{ℕ, ◌+◌, ◌-◌, ◌*◌, ◌/◌, ◌≤◌, ◌<◌, Bool, true, false, ◌≡◌, refl, List, length, take, None, Some, Ok, Err}
use Rattle.std.specs.declared.option.Option as code
use Rattle.std.proofs.Common.{sym, ◌∙◌, ap, subst, arith}
use Rattle.std.proofs.Math.Option.{none, some}
use Rattle.laws.specs.Choice.{and_then, and_then_right, unless_done, unless_kept, not_so, split_le}
use Rattle.laws.specs.Sets.{ids_of, bind, unbind, keys, AtMost, none_some}
use Rattle.laws.specs.Maps.{map_of_none}
use Rattle.laws.specs.Optional.{option_of, option_same}
use Rattle.refusal.specs.declared.Refusal.{Refusal}
use Rattle.layout.specs.declared.Geometry.{Geometry}
use Rattle.interval.specs.declared.JournalInterval.{JournalInterval}
use Rattle.interval.specs.Interval.{interval, contiguous_journal_interval}
use Rattle.interval.specs.Facts.{ValidJournalInterval, interval_facts, facts_interval, contiguous_facts, facts_contiguous}
use Rattle.interval.specs.Journal.{JournalUpdate}
use Rattle.journal.specs.Memory.{update_bytes, update_marks}
use Rattle.journal.specs.Asked.{Update}
use Rattle.journal.specs.Cells.{blocks_in, cells}
use Rattle.journal.specs.Blocks.{length_blocks}
use Rattle.journal.specs.Update.{update_cells}
use Rattle.tables.specs.declared.IntervalTable.{IntervalTable}
use Rattle.tables.specs.Rows.{Counted, has_room}
use Rattle.tables.specs.IntervalTable.{interval_rows, interval_map, SizedIntervals}
use Rattle.tables.proofs.Laws.Counts.{add_asked, has_room_is, room_array}
use Rattle.tables.proofs.Laws.RowTables.{few_rows_add, few_rows_two, rows_new, rows_known}
use Rattle.tables.proofs.Laws.IntervalTables.{level_intervals, intervals_added, intervals_added_two, intervals_left}
use Rattle.source.specs.JournalDisk as D
use Rattle.source.specs.JournalDisk.{ReqWriteJournal, ReqWriteJournalOp, RespWriteJournalOp, written, written1, written2}
use Rattle.source.specs.Limits.{limits}
use Rattle.source.specs.Within.{Operation, DiskAllowed, DiskWithin}
use Rattle.source.proofs.Laws.Unique.{recv_write_journal_one}
use Rattle.disk.specs.declared.Disk.{Disk}
use Rattle.disk.specs.Disk.{DiskStepped}
use Rattle.disk.specs.Disk.{with_journal_writes}
use Rattle.disk.specs.Questions.{ask_disk}
use Rattle.requests.specs.Receive.{is_new, rows_for, second_fits, write_received}
use Rattle.disk.specs.Next.{recv_write_journal_next}
use Rattle.requests.specs.Acknowledge.{ask_ack_write_journal}
use Rattle.disk.specs.Next.{ack_write_journal_next}
use Rattle.disk.specs.Memory.{new_interval, ask_new_blocks}
use Rattle.disk.specs.Whole.{ask_write_journal, recv_write_journal, recv_write_journal_blocks, recv_write_journal_marks, ack_write_journal}
use Rattle.disk.specs.Laws.Answers.{done_asked, asked_done, refused_same, refused_asked}
use Rattle.requests.specs.Laws.Receive.{RecvWriteJournalAsked, recv_write_journal_asked, asks_recv_write_journal, second_new, new_second, new_none, straight_one, one_straight, wrapped_two, two_wrapped, rows_straight, rows_wrapped, write_straight, write_wrapped}
use Rattle.disk.specs.Laws.Next.{recv_write_journal_next_is}
use Rattle.requests.specs.Laws.Acknowledge.{ack_write_journal_waiting, asks_ack_write_journal}
use Rattle.disk.specs.Laws.Next.{ack_write_journal_next_is}
use Rattle.disk.specs.Laws.Memory.{new_blocks_size, new_blocks_rows, asks_new_blocks}
use Rattle.refine.specs.Disk.View.{disk_of, SizedDisk, DiskTables, Lent}
use Rattle.refine.specs.Disk.Meets.{Met, counted_own}
use Rattle.refine.specs.Disk.Calls.{asks_met, met_asks, sound_by, complete_by}
use Rattle.refine.specs.Disk.JournalReads.{waiting_some}

-- the write of the blocks of `new` from an interval's start on
abbrev pub write_of : JournalInterval → List ℕ → ReqWriteJournal
write_of v new = record { start = v.start; journal = blocks_in v.len new }

-- RecvWriteJournal

module _ (g : Geometry) (d : Disk) (id1 : ℕ) (id2 : code.Option ℕ) (v : JournalInterval) (new blocks marks : List ℕ) where
  -- the interval that the source makes of the request
  written_is : v ≡ written (write_of v new)
  written_is = λ i. interval v.start (sym (length_blocks v.len new) i)

  straight_is : ValidJournalInterval g v → v.start + v.len ≤ g.blocks → contiguous_journal_interval g v ≡ true
  straight_is f h = facts_contiguous g v (record { valid = f; end_in = h })

  wrapped_is : g.blocks < v.start + v.len → contiguous_journal_interval g v ≡ false
  wrapped_is h = not_so (contiguous_journal_interval g v) (λ e. let f = contiguous_facts g v e in omega arith)

  -- the view of the next disk: one row, and two
  one_row : SizedIntervals d.journalWrites → has_room 16 d.journalWrites.count 1 d.journalWrites.ids ≡ true → interval_map d.journalWrites id1 ≡ none → id2 ≡ None
      → disk_of g (update_bytes blocks v new) (update_marks marks v) (recv_write_journal_next g d id1 id2 v)
      ≡ D.to_journal (cells g (update_bytes blocks v new) (update_marks marks v))
      (D.to_req_write_journals (bind (interval_map d.journalWrites) id1 (written (write_of v new))) (disk_of g blocks marks d))
  one_row l r n e =
      let k = room_array 16 d.journalWrites.count d.journalWrites.ids 1 r in
      ap (disk_of g (update_bytes blocks v new) (update_marks marks v))
      (recv_write_journal_next_is g d id1 id2 v
      ∙ ap (with_journal_writes d) (ap (λ (x : code.Option ℕ). write_received g d.journalWrites id1 x v) e ∙ write_straight g d.journalWrites id1 v))
      ∙ (λ i.
      D.to_journal (cells g (update_bytes blocks v new) (update_marks marks v))
      (D.to_req_write_journals
      ((intervals_added d.journalWrites l id1 v (omega arith) n ∙ ap (bind (interval_map d.journalWrites) id1) written_is) i)
      (disk_of g blocks marks d)))

  two_rows : SizedIntervals d.journalWrites → has_room 16 d.journalWrites.count 2 d.journalWrites.ids ≡ true → (id : ℕ) → interval_map d.journalWrites id1 ≡ none
      → interval_map d.journalWrites id ≡ none → id2 ≡ Some id → (id ≡ id1 → ⊥) → g.blocks - v.start < v.len
      → disk_of g (update_bytes blocks v new) (update_marks marks v) (recv_write_journal_next g d id1 id2 v)
      ≡ D.to_journal (cells g (update_bytes blocks v new) (update_marks marks v))
      (D.to_req_write_journals (bind (bind (interval_map d.journalWrites) id1 (written1 g (write_of v new))) id (written2 g (write_of v new))) (disk_of g blocks marks d))
  two_rows l r id n1 n2 e o h =
      ap (disk_of g (update_bytes blocks v new) (update_marks marks v))
      (recv_write_journal_next_is g d id1 id2 v
      ∙ ap (with_journal_writes d) (ap (λ (x : code.Option ℕ). write_received g d.journalWrites id1 x v) e ∙ write_wrapped g d.journalWrites id1 id v h))
      ∙ (λ i.
      D.to_journal (cells g (update_bytes blocks v new) (update_marks marks v))
      (D.to_req_write_journals
      ((intervals_added_two d.journalWrites l 16 id1 id (interval v.start (g.blocks - v.start)) (interval 0 (v.len - (g.blocks - v.start))) r n1 n2 o
      ∙ ap (λ (n : ℕ). bind (bind (interval_map d.journalWrites) id1 (written1 g (write_of v new))) id (interval 0 (n - (g.blocks - v.start)))) (sym (length_blocks v.len new)))
      i)
      (disk_of g blocks marks d)))

  -- the source's clauses, of a yes
  pub write_clauses : (z : SizedDisk d) → Met g blocks marks d z → ask_new_blocks g d.journalWrites id1 id2 v new ≡ 0
      → D.RecvWriteJournal g (disk_of g blocks marks d) (disk_of g (update_bytes blocks v new) (update_marks marks v) (recv_write_journal_next g d id1 id2 v)) id1 (option_of id2) (write_of v new)
  write_clauses z m e =
      let t : IntervalTable = d.journalWrites in
      let a = recv_write_journal_asked g t id1 id2 v (new_blocks_rows g t id1 id2 v new e) in
      let f = interval_facts g v a.valid in
      let long = length_blocks v.len new in
      let u : Update g v new blocks marks =
      record { blocks_size = m.lent.blocks_right; marks_size = m.lent.marks_right; valid = f; new_size = new_blocks_size g t id1 id2 v new e }
      in
      record {
        new1 = out id1 a.new1;
        new2 = second_out id2 a.new2;
        update =
            subst (λ (x : JournalInterval). JournalUpdate g (cells g blocks marks) (cells g (update_bytes blocks v new) (update_marks marks v)) x (blocks_in v.len new)) written_is
            (update_cells g v new blocks marks u);
        straight = λ h.
            let c : contiguous_journal_interval g v ≡ true = straight_is f (omega arith) in
            let e2 = straight_one id1 id2 (ap (λ (b : Bool). second_fits b id1 id2) (sym c) ∙ a.second) in
            let r : has_room 16 t.count 1 t.ids ≡ true = (λ i. has_room 16 t.count (sym (ap rows_for c ∙ rows_straight) i) t.ids) ∙ a.room in
            record { one_id_is = ap option_of e2; next = one_row z.journal_writes_is r (out id1 a.new1) e2 };
        wrapped = λ h.
            let c : contiguous_journal_interval g v ≡ false = wrapped_is (omega arith) in
            let k = wrapped_two id1 id2 (ap (λ (b : Bool). second_fits b id1 id2) (sym c) ∙ a.second) in
            let r : has_room 16 t.count 2 t.ids ≡ true = (λ i. has_room 16 t.count (sym (ap rows_for c ∙ rows_wrapped) i) t.ids) ∙ a.room in
            record {
              id = k.0;
              two_ids = ap option_of k.1;
              differ = k.2;
              next = two_rows z.journal_writes_is r k.0 (out id1 a.new1) (second_out id2 a.new2 k.0 (ap option_of k.1)) k.1 k.2 (omega arith);
            };
      }
    where
      out : (id : ℕ) → ids_of (take d.journalWrites.count d.journalWrites.ids) id ≡ false → interval_map d.journalWrites id ≡ none
      out id n = map_of_none (take d.journalWrites.count d.journalWrites.ids) (take d.journalWrites.count d.journalWrites.intervals) id n

      second_out : (x : code.Option ℕ) → is_new d.journalWrites x ≡ true → (id : ℕ) → option_of x ≡ some id → interval_map d.journalWrites id ≡ none
      second_out (Some k) n id p = let q : k ≡ id = cc in ap (interval_map d.journalWrites) (sym q) ∙ out k (second_new d.journalWrites k n)
      second_out None n id p = none_some refl p

  -- and back: the questions of a write that the source allows within the limit
  pub clauses_write : SizedDisk d → DiskTables d → length new ≡ v.len * 4096 → (s' : D.Variables) → D.RecvWriteJournal g (disk_of g blocks marks d) s' id1 (option_of id2) (write_of v new)
      → AtMost 16 (keys s'.req_write_journals) → ask_new_blocks g d.journalWrites id1 id2 v new ≡ 0
  clauses_write z t h s' a w =
      asks_new_blocks g d.journalWrites id1 id2 v new h
      (asks_recv_write_journal g d.journalWrites id1 id2 v
      (split_le (v.start + v.len) g.blocks
      (λ l.
      let k = a.straight (omega (arith, l, long)) in
      let c = straight_is f l in
      let e2 = option_same id2 None k.one_id_is in
      let few : AtMost 16 (keys (bind (interval_map d.journalWrites) id1 (written (write_of v new)))) =
      subst (λ (x : D.Variables). AtMost 16 (keys x.req_write_journals)) k.next w
      in
      let q =
      add_asked 16 d.journalWrites.count d.journalWrites.ids id1
      (few_rows_add (interval_rows d.journalWrites) level d.journalWrites.count counted 16 id1 (written (write_of v new)) (omega arith) a.new1 few)
      in
      asked
      ((λ i. has_room 16 d.journalWrites.count ((ap rows_for c ∙ rows_straight) i) d.journalWrites.ids)
      ∙ has_room_is 16 d.journalWrites.count d.journalWrites.ids 1 (omega (arith, q.below)) (omega (arith, q.free)))
      ((λ i. second_fits (c i) id1 (e2 i)) ∙ one_straight id1))
      (λ l.
      let k = a.wrapped (omega (arith, l, long)) in
      let c = wrapped_is l in
      let e2 = option_same id2 (Some k.id) k.two_ids in
      let few : AtMost 16 (keys (bind (bind (interval_map d.journalWrites) id1 (written1 g (write_of v new))) k.id (written2 g (write_of v new)))) =
      subst (λ (x : D.Variables). AtMost 16 (keys x.req_write_journals)) k.next w
      in
      asked
      ((λ i. has_room 16 d.journalWrites.count ((ap rows_for c ∙ rows_wrapped) i) d.journalWrites.ids)
      ∙ few_rows_two (interval_rows d.journalWrites) level d.journalWrites.count counted 16 id1 k.id (written1 g (write_of v new)) (written2 g (write_of v new)) (omega arith)
      a.new1 (a.new2 k.id k.two_ids) k.differ few)
      ((λ i. second_fits (c i) id1 (e2 i)) ∙ two_wrapped id1 k.id k.differ))))
    where
      long : length (blocks_in v.len new) ≡ v.len
      long = length_blocks v.len new

      size : length d.journalWrites.ids ≡ 16
      size = z.journal_writes_is.ids_long

      level : length d.journalWrites.ids ≡ length d.journalWrites.intervals
      level = level_intervals d.journalWrites z.journal_writes_is

      counted : Counted d.journalWrites.count d.journalWrites.count d.journalWrites.ids
      counted = counted_own d.journalWrites.count d.journalWrites.ids t.journal_writes_is

      f : ValidJournalInterval g v
      f = subst (ValidJournalInterval g) (sym written_is) a.update.interval_valid

      new_id : (x : code.Option ℕ) → ((id : ℕ) → option_of x ≡ some id → interval_map d.journalWrites id ≡ none) → is_new d.journalWrites x ≡ true
      new_id (Some id) n = new_second d.journalWrites id (rows_new (interval_rows d.journalWrites) level id (n id refl))
      new_id None n = new_none d.journalWrites

      asked : has_room 16 d.journalWrites.count (rows_for (contiguous_journal_interval g v)) d.journalWrites.ids ≡ true → second_fits (contiguous_journal_interval g v) id1 id2 ≡ true
          → RecvWriteJournalAsked g d.journalWrites id1 id2 v
      asked r s =
          record {
            valid = facts_interval g v f;
            new1 = rows_new (interval_rows d.journalWrites) level id1 a.new1;
            new2 = new_id id2 a.new2;
            room = r;
            second = s;
          }

module _ (g : Geometry) (d : Disk) (id1 : ℕ) (id2 : code.Option ℕ) (start : ℕ) (new blocks marks : List ℕ) where
  -- the blocks and the marks after a write that is done
  written_memory : ask_write_journal g d id1 id2 start new blocks marks ≡ 0
      → disk_of g (recv_write_journal_blocks g d id1 id2 start new blocks marks) (recv_write_journal_marks g d id1 id2 start new blocks marks) (recv_write_journal g d id1 id2 start new blocks marks).disk
      ≡ disk_of g (update_bytes blocks (new_interval start new) new) (update_marks marks (new_interval start new)) (recv_write_journal_next g d id1 id2 (new_interval start new))
  written_memory e =
      let q : ℕ = ask_write_journal g d id1 id2 start new blocks marks in
      λ i.
      disk_of g (unless_done q blocks (update_bytes blocks (new_interval start new) new) e i) (unless_done q marks (update_marks marks (new_interval start new)) e i)
      (asked_done q (recv_write_journal_next g d id1 id2 (new_interval start new)) d e i).disk

  pub recv_write_journal_sound : SizedDisk d → (recv_write_journal g d id1 id2 start new blocks marks).answer ≡ Ok record {}
      → DiskAllowed g limits (disk_of g blocks marks d)
      (disk_of g (recv_write_journal_blocks g d id1 id2 start new blocks marks) (recv_write_journal_marks g d id1 id2 start new blocks marks) (recv_write_journal g d id1 id2 start new blocks marks).disk)
      (Operation (ReqWriteJournalOp id1 (option_of id2) (write_of (new_interval start new) new)))
  recv_write_journal_sound z e =
      let r : ℕ = ask_new_blocks g d.journalWrites id1 id2 (new_interval start new) new in
      let e0 = done_asked (ask_write_journal g d id1 id2 start new blocks marks) (recv_write_journal_next g d id1 id2 (new_interval start new)) d e in
      let m = asks_met g blocks marks d z r e0 in
      record {
        meets = m.meets;
        step =
            subst (λ (x : D.Variables). D.RecvWriteJournal g (disk_of g blocks marks d) x id1 (option_of id2) (write_of (new_interval start new) new)) (sym (written_memory e0))
            (write_clauses g d id1 id2 (new_interval start new) new blocks marks z m (and_then_right (ask_disk g d blocks marks) r e0));
      }

  pub recv_write_journal_complete : SizedDisk d → DiskTables d → Lent g blocks marks → length new ≡ length new / 4096 * 4096 → (s' : D.Variables)
      → DiskAllowed g limits (disk_of g blocks marks d) s' (Operation (ReqWriteJournalOp id1 (option_of id2) (write_of (new_interval start new) new)))
      → DiskWithin g limits s' (Operation (ReqWriteJournalOp id1 (option_of id2) (write_of (new_interval start new) new)))
      → ((recv_write_journal g d id1 id2 start new blocks marks).answer ≡ Ok record {})
      × (disk_of g (recv_write_journal_blocks g d id1 id2 start new blocks marks) (recv_write_journal_marks g d id1 id2 start new blocks marks) (recv_write_journal g d id1 id2 start new blocks marks).disk
      ≡ s')
  recv_write_journal_complete z t l h s' a w =
      let v : JournalInterval = new_interval start new in
      let r : ℕ = ask_new_blocks g d.journalWrites id1 id2 v new in
      let e : r ≡ 0 = clauses_write g d id1 id2 v new blocks marks z t h s' a.step w.counts.journal_writes_few in
      let e0 : ask_write_journal g d id1 id2 start new blocks marks ≡ 0 = met_asks g blocks marks d z r t l a.meets e in (
        ap (λ (x : DiskStepped). x.answer) (asked_done (ask_write_journal g d id1 id2 start new blocks marks) (recv_write_journal_next g d id1 id2 v) d e0),
        written_memory e0
            ∙ recv_write_journal_one g (disk_of g blocks marks d) (disk_of g (update_bytes blocks v new) (update_marks marks v) (recv_write_journal_next g d id1 id2 v)) s' id1 (option_of id2) (write_of v new)
            (write_clauses g d id1 id2 v new blocks marks z (asks_met g blocks marks d z r e0) e) a.step,
      )

  pub recv_write_journal_refused : (n : Refusal) → (recv_write_journal g d id1 id2 start new blocks marks).answer ≡ Err n
      → ((recv_write_journal g d id1 id2 start new blocks marks).disk ≡ d) × (recv_write_journal_blocks g d id1 id2 start new blocks marks ≡ blocks)
      × (recv_write_journal_marks g d id1 id2 start new blocks marks ≡ marks)
  recv_write_journal_refused n e =
      let q : ℕ = ask_write_journal g d id1 id2 start new blocks marks in
      let next : Disk = recv_write_journal_next g d id1 id2 (new_interval start new) in
      let h = refused_asked q next d n e in (
        refused_same q next d n e,
        unless_kept q blocks (update_bytes blocks (new_interval start new) new) h,
        unless_kept q marks (update_marks marks (new_interval start new)) h,
      )

-- AckWriteJournal

module _ (g : Geometry) (d : Disk) (id : ℕ) (blocks marks : List ℕ) where
  write_answered : SizedIntervals d.journalWrites → DiskTables d
      → disk_of g blocks marks (ack_write_journal_next d id) ≡ D.to_req_write_journals (unbind (interval_map d.journalWrites) id) (disk_of g blocks marks d)
  write_answered l t =
      let r : IntervalTable = d.journalWrites in
      ap (disk_of g blocks marks) (ack_write_journal_next_is d id)
      ∙ (λ i. D.to_req_write_journals (intervals_left r l r.count (counted_own r.count r.ids t.journal_writes_is) id i) (disk_of g blocks marks d))

  -- the source's clauses, of a yes, and back
  pub ack_write_clauses : SizedDisk d → DiskTables d → ask_ack_write_journal d.journalWrites id ≡ 0
      → D.AckWriteJournal (disk_of g blocks marks d) (disk_of g blocks marks (ack_write_journal_next d id)) id
  ack_write_clauses z t e =
      let k = waiting_some d.journalWrites z.journal_writes_is id (ack_write_journal_waiting d.journalWrites id e) in
      record { ind = k.0; waiting = k.1; next = write_answered z.journal_writes_is t }

  pub clauses_ack_write : SizedDisk d → (s' : D.Variables) → D.AckWriteJournal (disk_of g blocks marks d) s' id → ask_ack_write_journal d.journalWrites id ≡ 0
  clauses_ack_write z s' a =
      asks_ack_write_journal d.journalWrites id
      (rows_known (interval_rows d.journalWrites) (level_intervals d.journalWrites z.journal_writes_is) id a.ind a.waiting)

  pub ack_write_journal_sound : SizedDisk d → (ack_write_journal g d id blocks marks).answer ≡ Ok record {}
      → DiskAllowed g limits (disk_of g blocks marks d) (disk_of g blocks marks (ack_write_journal g d id blocks marks).disk) (Operation (RespWriteJournalOp id))
  ack_write_journal_sound z e =
      sound_by g blocks marks d z (ask_ack_write_journal d.journalWrites id) (ack_write_journal_next d id) (Operation (RespWriteJournalOp id)) e (λ e0 m. ack_write_clauses z m.tables e0)

  pub ack_write_journal_complete : SizedDisk d → DiskTables d → Lent g blocks marks → (s' : D.Variables) → DiskAllowed g limits (disk_of g blocks marks d) s' (Operation (RespWriteJournalOp id))
      → ((ack_write_journal g d id blocks marks).answer ≡ Ok record {}) × (disk_of g blocks marks (ack_write_journal g d id blocks marks).disk ≡ s')
  ack_write_journal_complete z t l s' a =
      complete_by g blocks marks d z (ask_ack_write_journal d.journalWrites id) (ack_write_journal_next d id) s' t l a.meets (clauses_ack_write z s' a.step)
      (write_answered z.journal_writes_is t ∙ sym a.step.next)

  pub ack_write_journal_refused : (n : Refusal) → (ack_write_journal g d id blocks marks).answer ≡ Err n → (ack_write_journal g d id blocks marks).disk ≡ d
  ack_write_journal_refused n e = refused_same (and_then (ask_disk g d blocks marks) (ask_ack_write_journal d.journalWrites id)) (ack_write_journal_next d id) d n e
