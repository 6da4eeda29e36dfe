-- Journal reads, received and answered, against 001's RecvReadJournal and AckReadJournal.
use Rattle.std.specs.Prelude.{ℕ, ◌*◌, ◌<◌, Bool, true, false, cond, ◌≡◌, refl, List, length, take, Ok, Err}
use Rattle.std.proofs.Common.{sym, ◌∙◌, ap, subst, arith}
use Rattle.std.proofs.Math.Option.{Option, none, some}
use Rattle.laws.specs.Choice.{and_then, and_then_left, and_then_right, and_then_both, unless_done, unless_kept, false_true}
use Rattle.laws.specs.Sets.{Ids, ids_of, bind, unbind, is_key, keys, AtMost, none_some}
use Rattle.refusal.specs.declared.Refusal.{Refusal}
use Rattle.layout.specs.declared.Geometry.{Geometry}
use Rattle.interval.specs.declared.JournalInterval.{JournalInterval}
use Rattle.interval.specs.Facts.{ContiguousJournalInterval, contiguous_facts, facts_contiguous}
use Rattle.journal.specs.Memory.{slice_bytes, full_marks}
use Rattle.journal.specs.Asked.{blocks_asked, asked_blocks}
use Rattle.journal.specs.Laws.{copied_slice}
use Rattle.journal.specs.Cells.{blocks_in, cells, length_cells, length_bytes, full_marks_is, slice_full}
use Rattle.journal.specs.Blocks.{blocks_front}
use Rattle.codec.specs.Codec.{JournalRange, Disk-HasJournalRange, disk_journal_range, concat_fold}
use Rattle.codec.specs.Ranges.{whole_read}
use Rattle.tables.specs.declared.IntervalTable.{IntervalTable}
use Rattle.tables.specs.IntervalTable.{interval_rows, interval_map, SizedIntervals}
use Rattle.tables.proofs.Laws.Counts.{add_asked}
use Rattle.tables.proofs.Laws.RowTables.{rows_addable, few_rows_add, rows_keys, rows_known}
use Rattle.tables.proofs.Laws.IntervalTables.{level_intervals, intervals_added, intervals_left}
use Rattle.source.specs.JournalDisk as D
use Rattle.source.specs.JournalDisk.{ReqReadJournalOp, RespReadJournalOp}
use Rattle.source.specs.Limits.{limits}
use Rattle.source.specs.Meets.{DiskMeets}
use Rattle.source.specs.Within.{Operation, DiskAllowed, DiskWithin}
use Rattle.disk.specs.declared.Disk.{Disk}
use Rattle.disk.specs.Disk.{JournalAcked}
use Rattle.disk.specs.Questions.{ask_disk, ask_disk_out}
use Rattle.requests.specs.Receive.{ask_recv_read_journal}
use Rattle.disk.specs.Next.{recv_read_journal_next}
use Rattle.requests.specs.Acknowledge.{held_interval, ask_ack_read_journal}
use Rattle.disk.specs.Next.{ack_read_journal_next}
use Rattle.disk.specs.Memory.{read_out}
use Rattle.disk.specs.Whole.{recv_read_journal, ask_read_journal, ack_read_journal, ack_read_journal_out}
use Rattle.disk.specs.Laws.Answers.{refused_same, journal_read_is, journal_refused_is, asked_read, read_same}
use Rattle.disk.specs.Laws.Questions.{out_disk, out_blocks, asks_out}
use Rattle.requests.specs.Laws.Receive.{recv_read_journal_asked, asks_recv_read_journal}
use Rattle.disk.specs.Laws.Next.{recv_read_journal_next_is}
use Rattle.requests.specs.Laws.Acknowledge.{held_is, ack_read_journal_waiting, ack_read_journal_full, asks_ack_read_journal}
use Rattle.disk.specs.Laws.Next.{ack_read_journal_next_is}
use Rattle.disk.specs.Laws.Memory.{out_whole}
use Rattle.refine.specs.Disk.View.{disk_of, SizedDisk, DiskTables, Lent}
use Rattle.refine.specs.Disk.Meets.{Met, disk_met, met_disk, counted_own}
use Rattle.refine.specs.Disk.Calls.{sound_by, complete_by}

-- RecvReadJournal

module _ (g : Geometry) (d : Disk) (id : ℕ) (v : JournalInterval) (blocks marks : List ℕ) where
  received : SizedIntervals d.journalReads → d.journalReads.count < length d.journalReads.ids → interval_map d.journalReads id ≡ none
      → disk_of g blocks marks (recv_read_journal_next d id v) ≡ D.to_req_read_journals (bind (interval_map d.journalReads) id v) (disk_of g blocks marks d)
  received l h n =
      ap (disk_of g blocks marks) (recv_read_journal_next_is d id v)
      ∙ (λ i. D.to_req_read_journals (intervals_added d.journalReads l id v h n i) (disk_of g blocks marks d))

  -- the source's clauses, of a yes, and back
  pub recv_read_clauses : (z : SizedDisk d) → ask_recv_read_journal g d.journalReads id v ≡ 0
      → D.RecvReadJournal g (disk_of g blocks marks d) (disk_of g blocks marks (recv_read_journal_next d id v)) id v
  recv_read_clauses z e =
      let a = recv_read_journal_asked g d.journalReads id v e in
      let f = add_asked 8 d.journalReads.count d.journalReads.ids id a.add in
      let n = rows_addable (interval_rows d.journalReads) 8 id f in
      record { new = n; contiguous = contiguous_facts g v a.contiguous; next = received z.journal_reads_is f.free n }

  pub clauses_recv_read : SizedDisk d → DiskTables d → (s' : D.Variables) → D.RecvReadJournal g (disk_of g blocks marks d) s' id v → AtMost 8 (keys s'.req_read_journals)
      → ask_recv_read_journal g d.journalReads id v ≡ 0
  clauses_recv_read z t s' a w =
      let r : IntervalTable = d.journalReads in
      let size = z.journal_reads_is.ids_long in
      let few : AtMost 8 (keys (bind (interval_map r) id v)) = subst (λ (x : D.Variables). AtMost 8 (keys x.req_read_journals)) a.next w in
      asks_recv_read_journal g r id v
      (record {
        contiguous = facts_contiguous g v a.contiguous;
        add =
            few_rows_add (interval_rows r) (level_intervals r z.journal_reads_is) r.count (counted_own r.count r.ids t.journal_reads_is) 8 id v (omega arith) a.new few;
      })

  pub recv_read_journal_sound : SizedDisk d → (recv_read_journal g d id v blocks marks).answer ≡ Ok record {}
      → DiskAllowed g limits (disk_of g blocks marks d) (disk_of g blocks marks (recv_read_journal g d id v blocks marks).disk) (Operation (ReqReadJournalOp id v))
  recv_read_journal_sound z e =
      sound_by g blocks marks d z (ask_recv_read_journal g d.journalReads id v) (recv_read_journal_next d id v) (Operation (ReqReadJournalOp id v)) e (λ e0 m. recv_read_clauses z e0)

  pub recv_read_journal_complete : SizedDisk d → DiskTables d → Lent g blocks marks → (s' : D.Variables) → DiskAllowed g limits (disk_of g blocks marks d) s' (Operation (ReqReadJournalOp id v))
      → DiskWithin g limits s' (Operation (ReqReadJournalOp id v))
      → ((recv_read_journal g d id v blocks marks).answer ≡ Ok record {}) × (disk_of g blocks marks (recv_read_journal g d id v blocks marks).disk ≡ s')
  recv_read_journal_complete z t l s' a w =
      let e = clauses_recv_read z t s' a.step w.counts.journal_reads_few in
      complete_by g blocks marks d z (ask_recv_read_journal g d.journalReads id v) (recv_read_journal_next d id v) s' t l a.meets e ((recv_read_clauses z e).next ∙ sym a.step.next)

  pub recv_read_journal_refused : (n : Refusal) → (recv_read_journal g d id v blocks marks).answer ≡ Err n → (recv_read_journal g d id v blocks marks).disk ≡ d
  recv_read_journal_refused n e = refused_same (and_then (ask_disk g d blocks marks) (ask_recv_read_journal g d.journalReads id v)) (recv_read_journal_next d id v) d n e

-- AckReadJournal

-- what was read, as the source has it: the blocks at the front of the buffer, or nothing
abbrev pub blocks_read : Bool → JournalInterval → List ℕ → Option JournalRange
blocks_read whole v out = cond whole (some (blocks_in v.len out)) none

-- an id that waits has an interval
some_of : {A : Type 0} (o : Option A) → is_key o ≡ true → (a : A) × (o ≡ some a)
some_of none e = false_true e
some_of (some a) e = (a, refl)

pub waiting_some : (t : IntervalTable) → SizedIntervals t → (id : ℕ) → ids_of (take t.count t.ids) id ≡ true → (v : JournalInterval) × (interval_map t id ≡ some v)
waiting_some t l id e = some_of (interval_map t id) (ap (λ (x : Ids). x id) (rows_keys (interval_rows t) (level_intervals t l)) ∙ e)

-- the buffer's front is the source's range
module _ (g : Geometry) (blocks marks : List ℕ) (l : Lent g blocks marks) (v : JournalInterval) (f : ContiguousJournalInterval g v) where
  pub range_there : full_marks marks v ≡ true → Disk-HasJournalRange g (cells g blocks marks) v
  range_there e =
      record {
        size = length_cells g.blocks blocks marks;
        full = full_marks_is g v f.valid blocks l.blocks_right.size marks l.marks_right.size ∙ e;
      }

  pub there_range : Disk-HasJournalRange g (cells g blocks marks) v → full_marks marks v ≡ true
  there_range h = sym (full_marks_is g v f.valid blocks l.blocks_right.size marks l.marks_right.size) ∙ h.full

  pub range_read : (out : List ℕ) → length out ≡ g.blocks * 4096 → full_marks marks v ≡ true
      → blocks_in v.len (read_out true v blocks out) ≡ disk_journal_range g (cells g blocks marks) v
  range_read out h e =
      ap (blocks_in v.len) (out_whole v blocks out ∙ copied_slice g v blocks out 0 l.blocks_right f (omega arith))
      ∙ blocks_front v.len (slice_bytes blocks v) out (length_bytes g v f.valid blocks l.blocks_right.size) (omega arith)
      ∙ sym (whole_read (blocks_in v.len (slice_bytes blocks v)))
      ∙ ap concat_fold (sym (slice_full g v f.valid blocks l.blocks_right.size marks l.marks_right.size e))

module _ (g : Geometry) (d : Disk) (id : ℕ) (blocks marks out : List ℕ) where
  pub journal_answered_is : SizedIntervals d.journalReads → DiskTables d
      → disk_of g blocks marks (ack_read_journal_next d id) ≡ D.to_req_read_journals (unbind (interval_map d.journalReads) id) (disk_of g blocks marks d)
  journal_answered_is l t =
      let r : IntervalTable = d.journalReads in
      ap (disk_of g blocks marks) (ack_read_journal_next_is d id)
      ∙ (λ i. D.to_req_read_journals (intervals_left r l r.count (counted_own r.count r.ids t.journal_reads_is) id i) (disk_of g blocks marks d))

  -- the source's clauses, of a yes
  pub read_clauses : (z : SizedDisk d) → Met g blocks marks d z → length out ≡ g.blocks * 4096 → (whole : Bool) → ask_ack_read_journal d.journalReads id whole marks ≡ 0
      → D.AckReadJournal g (disk_of g blocks marks d) (disk_of g blocks marks (ack_read_journal_next d id)) id
      (blocks_read whole (held_interval d.journalReads id) (read_out whole (held_interval d.journalReads id) blocks out))
  read_clauses z m h whole e =
      let t : IntervalTable = d.journalReads in
      let k = waiting_some t z.journal_reads_is id (ack_read_journal_waiting t id whole marks e) in
      let u : held_interval t id ≡ k.0 = held_is t id k.0 k.1 in
      let f = m.meets.shape.reads_contiguous id k.0 k.1 in
      let full : whole ≡ true → full_marks marks k.0 ≡ true = λ w. ap (full_marks marks) (sym u) ∙ ack_read_journal_full t id whole marks e w in
      record {
        ind = k.0;
        waiting = k.1;
        end_in = f.end_in;
        start_in = f.valid.start_in;
        readable = λ jr p. range_there g blocks marks m.lent k.0 f (full (is_whole whole (held_interval t id) (read_out whole (held_interval t id) blocks out) jr p));
        whole = λ jr p. content whole (held_interval t id) k.0 u jr p (λ w. range_read g blocks marks m.lent k.0 f out h (full w));
        next = journal_answered_is z.journal_reads_is m.tables;
      }
    where
      is_whole : (w : Bool) (v : JournalInterval) (x : List ℕ) (jr : JournalRange) → blocks_read w v x ≡ some jr → w ≡ true
      is_whole true v x jr p = refl
      is_whole false v x jr p = none_some refl p

      content : (w : Bool) (v u : JournalInterval) → v ≡ u → (jr : JournalRange) → blocks_read w v (read_out w v blocks out) ≡ some jr
          → (w ≡ true → blocks_in u.len (read_out true u blocks out) ≡ disk_journal_range g (cells g blocks marks) u) → jr ≡ disk_journal_range g (cells g blocks marks) u
      content true v u e jr p y = let q : blocks_in v.len (read_out true v blocks out) ≡ jr = cc in sym q ∙ (λ i. blocks_in (e i).len (read_out true (e i) blocks out)) ∙ y refl
      content false v u e jr p y = none_some refl p

  pub ack_read_journal_sound : SizedDisk d → (whole : Bool) (v : JournalInterval) → (ack_read_journal g d id whole blocks marks out).answer ≡ Ok v
      → DiskAllowed g limits (disk_of g blocks marks d) (disk_of g blocks marks (ack_read_journal g d id whole blocks marks out).disk)
      (Operation (RespReadJournalOp id (blocks_read whole v (ack_read_journal_out g d id whole blocks marks out))))
  ack_read_journal_sound z whole v e =
      let q : ℕ = ask_read_journal g d id whole blocks marks out in
      let u : JournalInterval = held_interval d.journalReads id in
      let k = journal_read_is q u (ack_read_journal_next d id) d (ack_read_journal g d id whole blocks marks out) refl v e in
      let a : ask_disk_out g d blocks marks out ≡ 0 = and_then_left (ask_disk_out g d blocks marks out) (ask_ack_read_journal d.journalReads id whole marks) k.0 in
      let m = disk_met g blocks marks d z (out_disk g d blocks marks out a) in
      let c =
      read_clauses z m (blocks_asked g out (out_blocks g d blocks marks out a)).size whole
      (and_then_right (ask_disk_out g d blocks marks out) (ask_ack_read_journal d.journalReads id whole marks) k.0)
      in
      let done = asked_read q u (ack_read_journal_next d id) d k.0 in
      let left = unless_done q out (read_out whole u blocks out) k.0 in
      record {
        meets = m.meets;
        step = subst (λ (x : D.Variables × Option JournalRange). D.AckReadJournal g (disk_of g blocks marks d) x.0 id x.1)
            (λ i. (disk_of g blocks marks (sym done i).disk, blocks_read whole (sym k.1 i) (sym left i))) c;
      }

  -- and back: the questions of an answer that the source allows, and the buffer's front after it
  module _ (z : SizedDisk d) (l : Lent g blocks marks) (m : DiskMeets g limits (disk_of g blocks marks d)) (journal : Option JournalRange) (s' : D.Variables)
      (a : D.AckReadJournal g (disk_of g blocks marks d) s' id journal) where
    is_held : held_interval d.journalReads id ≡ a.ind
    is_held = held_is d.journalReads id a.ind a.waiting

    contiguous : ContiguousJournalInterval g a.ind
    contiguous = m.shape.reads_contiguous id a.ind a.waiting

    pub clauses_read : ask_ack_read_journal d.journalReads id (is_key journal) marks ≡ 0
    clauses_read =
        asks_ack_read_journal d.journalReads id (is_key journal) marks
        (rows_known (interval_rows d.journalReads) (level_intervals d.journalReads z.journal_reads_is) id a.ind a.waiting)
        (λ w. ap (full_marks marks) is_held ∙ full journal w a.readable)
      where
        full : (j : Option JournalRange) → is_key j ≡ true → ((jr : JournalRange) → j ≡ some jr → Disk-HasJournalRange g (cells g blocks marks) a.ind) → full_marks marks a.ind ≡ true
        full none w y = false_true w
        full (some jr) w y = there_range g blocks marks l a.ind contiguous (y jr refl)

    pub content_read : length out ≡ g.blocks * 4096
        → blocks_read (is_key journal) (held_interval d.journalReads id) (read_out (is_key journal) (held_interval d.journalReads id) blocks out) ≡ journal
    content_read h =
        (λ i. blocks_read (is_key journal) (is_held i) (read_out (is_key journal) (is_held i) blocks out)) ∙ content journal a.readable a.whole
      where
        content : (j : Option JournalRange) → ((jr : JournalRange) → j ≡ some jr → Disk-HasJournalRange g (cells g blocks marks) a.ind)
            → ((jr : JournalRange) → j ≡ some jr → jr ≡ disk_journal_range g (cells g blocks marks) a.ind) → blocks_read (is_key j) a.ind (read_out (is_key j) a.ind blocks out) ≡ j
        content none y x = refl
        content (some jr) y x = ap some (range_read g blocks marks l a.ind contiguous out h (there_range g blocks marks l a.ind contiguous (y jr refl)) ∙ sym (x jr refl))

  pub ack_read_journal_complete : SizedDisk d → DiskTables d → Lent g blocks marks → length out ≡ g.blocks * 4096 → (journal : Option JournalRange) (s' : D.Variables)
      → DiskAllowed g limits (disk_of g blocks marks d) s' (Operation (RespReadJournalOp id journal))
      → ((ack_read_journal g d id (is_key journal) blocks marks out).answer ≡ Ok (held_interval d.journalReads id))
      × (disk_of g blocks marks (ack_read_journal g d id (is_key journal) blocks marks out).disk ≡ s')
      × (blocks_read (is_key journal) (held_interval d.journalReads id) (ack_read_journal_out g d id (is_key journal) blocks marks out) ≡ journal)
  ack_read_journal_complete z t l h journal s' a =
      let v : JournalInterval = held_interval d.journalReads id in
      let b : ask_disk_out g d blocks marks out ≡ 0 =
      asks_out g d blocks marks out (met_disk g blocks marks d z (record { lent = l; tables = t; meets = a.meets }))
      (asked_blocks g out (record { geometry = l.blocks_right.geometry; size = h }))
      in
      let q : ℕ = ask_read_journal g d id (is_key journal) blocks marks out in
      let e0 : q ≡ 0 =
      and_then_both (ask_disk_out g d blocks marks out) (ask_ack_read_journal d.journalReads id (is_key journal) marks) b (clauses_read z l a.meets journal s' a.step)
      in
      let done = asked_read q v (ack_read_journal_next d id) d e0 in (
        ap (λ (x : JournalAcked). x.answer) done,
        ap (λ (x : JournalAcked). disk_of g blocks marks x.disk) done ∙ journal_answered_is z.journal_reads_is t ∙ sym a.step.next,
        ap (blocks_read (is_key journal) v) (unless_done q out (read_out (is_key journal) v blocks out) e0) ∙ content_read z l a.meets journal s' a.step h,
      )

  pub ack_read_journal_refused : (whole : Bool) (n : Refusal) → (ack_read_journal g d id whole blocks marks out).answer ≡ Err n
      → ((ack_read_journal g d id whole blocks marks out).disk ≡ d) × (ack_read_journal_out g d id whole blocks marks out ≡ out)
  ack_read_journal_refused whole n e =
      let q : ℕ = ask_read_journal g d id whole blocks marks out in
      let u : JournalInterval = held_interval d.journalReads id in (
        read_same q u (ack_read_journal_next d id) d n e,
        unless_kept q out (read_out whole u blocks out) (journal_refused_is q u (ack_read_journal_next d id) d (ack_read_journal g d id whole blocks marks out) refl n e),
      )
