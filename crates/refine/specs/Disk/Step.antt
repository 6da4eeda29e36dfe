-- One step over the whole disk operation type, against 001's Next. Every step that is taken is allowed; every operation that is allowed from a
-- disk that meets question 2, within the limits, is taken by the call that says it, and the view of the next disk is its next state; a refusal
-- leaves the disk and lent memory.
use Rattle.std.specs.Prelude.{ℕ, ◌*◌, Bool, ◌≡◌, refl, length, Ok, Err}
use Rattle.std.proofs.Math.Path.{sym, subst}
use Rattle.std.proofs.Common.{◌∙◌, ap}
use mathlib.Core.List.{List, []}
use Rattle.std.proofs.Math.Option.{Option, none, some}
use Rattle.laws.specs.Choice.{and_then_left, and_then_right, and_then_both, unless_done, unless_kept}
use Rattle.laws.specs.Cut.{flat}
use Rattle.laws.specs.Sets.{is_key}
use Rattle.laws.specs.Optional.{optional, option_of, option_of_optional}
use Rattle.refusal.specs.declared.Refusal.{Refusal}
use Rattle.layout.specs.declared.Geometry.{Geometry}
use Rattle.interval.specs.Interval.{interval}
use Rattle.superblock.specs.declared.DiskOp.{DiskOp}
use Rattle.superblock.specs.declared.DiskOp.TheVariants as op
use Rattle.superblock.specs.declared.JournalRead.{JournalRead}
use Rattle.superblock.specs.declared.JournalRead.TheVariants as journal_read
use Rattle.journal.specs.Asked.{blocks_asked, asked_blocks}
use Rattle.journal.specs.Blocks.{flat_size, blocks_flat}
use Rattle.codec.specs.Codec.{JournalRange}
use Rattle.source.specs.JournalDisk as D
use Rattle.source.specs.JournalDisk.{ReqWriteJournal, ReqReadSuperblockOp, ReqReadJournalOp, ReqWriteSuperblockOp, ReqWriteJournalOp, RespReadSuperblockOp, RespReadJournalOp, RespWriteSuperblockOp, RespWriteJournalOp, NoDiskOp}
use Rattle.source.specs.Limits.{limits, DiskCounts}
use Rattle.source.specs.Meets.{DiskMeets}
use Rattle.source.specs.Within.{Operation, DiskAllowed, DiskWithin, WholeBlocks}
use Rattle.source.proofs.Laws.Unique.{disk_next_one}
use Rattle.disk.specs.declared.Disk.{Disk}
use Rattle.disk.specs.Disk.{DiskStepped}
use Rattle.disk.specs.Questions.{ask_disk_out}
use Rattle.requests.specs.Acknowledge.{held_interval, ask_ack_read_journal}
use Rattle.disk.specs.Memory.{read_out}
use Rattle.disk.specs.Operation.{is_whole, ask_operation, operation_next, operation_blocks, operation_marks, operation_out}
use Rattle.disk.specs.Whole.{ask_step, step, step_blocks, step_marks, step_out}
use Rattle.disk.specs.Laws.Answers.{done_asked, asked_done, refused_asked, refused_same}
use Rattle.requests.specs.Laws.Pairs.{bit_of, which_of, which_in, bit_which}
use Rattle.disk.specs.Laws.Operation.{whole_is, damaged_is}
use Rattle.disk.specs.Laws.Questions.{out_disk, out_blocks, asks_out}
use Rattle.refine.specs.Disk.View.{disk_of, SizedDisk, DiskTables, Lent}
use Rattle.refine.specs.Disk.Meets.{Met, disk_met, met_disk}
use Rattle.refine.specs.Disk.SuperblockReads as SuperblockReads
use Rattle.refine.specs.Disk.JournalReads as JournalReads
use Rattle.refine.specs.Disk.JournalReads.{blocks_read}
use Rattle.refine.specs.Disk.SuperblockWrites as SuperblockWrites
use Rattle.refine.specs.Disk.SuperblockWrites.{request_of}
use Rattle.refine.specs.Disk.JournalWrites as JournalWrites
use Rattle.refine.specs.Disk.JournalWrites.{write_of}

-- an operation as the source has it: `new` has a write's blocks, and `out`, as the step leaves it, a read's
abbrev pub operation_of : Disk → DiskOp → List ℕ → List ℕ → D.DiskOp
operation_of d (op.ReqReadSuperblock id which) new out = ReqReadSuperblockOp id (bit_of which)
operation_of d (op.ReqReadJournal id v) new out = ReqReadJournalOp id v
operation_of d (op.ReqWriteSuperblock id which superblock) new out = ReqWriteSuperblockOp id (bit_of which) (request_of superblock)
operation_of d (op.ReqWriteJournal id1 id2 start count) new out = ReqWriteJournalOp id1 (option_of id2) (write_of (interval start count) new)
operation_of d (op.RespReadSuperblock id which superblock) new out = RespReadSuperblockOp id (bit_of which) (option_of superblock)
operation_of d (op.RespReadJournal id journal) new out = RespReadJournalOp id (blocks_read (is_whole journal) (held_interval d.journalReads id) out)
operation_of d (op.RespWriteSuperblock id which) new out = RespWriteSuperblockOp id (bit_of which)
operation_of d (op.RespWriteJournal id) new out = RespWriteJournalOp id
operation_of d op.NoDiskOp new out = NoDiskOp

-- and the call that says what the source has: the operation, and a write's blocks as bytes
abbrev pub journal_read_of : Option JournalRange → JournalRead
journal_read_of (some jr) = journal_read.Whole
journal_read_of none = journal_read.Damaged

abbrev pub call_of : D.DiskOp → DiskOp
call_of (ReqReadSuperblockOp id which) = op.ReqReadSuperblock id (which_of which)
call_of (ReqReadJournalOp id v) = op.ReqReadJournal id v
call_of (ReqWriteSuperblockOp id which req) = op.ReqWriteSuperblock id (which_of which) req.superblock
call_of (ReqWriteJournalOp id1 id2 req) = op.ReqWriteJournal id1 (optional id2) req.start (length req.journal)
call_of (RespReadSuperblockOp id which superblock) = op.RespReadSuperblock id (which_of which) (optional superblock)
call_of (RespReadJournalOp id journal) = op.RespReadJournal id (journal_read_of journal)
call_of (RespWriteSuperblockOp id which) = op.RespWriteSuperblock id (which_of which)
call_of (RespWriteJournalOp id) = op.RespWriteJournal id
call_of NoDiskOp = op.NoDiskOp

abbrev pub new_of : D.DiskOp → List ℕ
new_of (ReqWriteJournalOp id1 id2 req) = flat req.journal
new_of (ReqReadSuperblockOp id which) = []
new_of (ReqReadJournalOp id v) = []
new_of (ReqWriteSuperblockOp id which req) = []
new_of (RespReadSuperblockOp id which superblock) = []
new_of (RespReadJournalOp id journal) = []
new_of (RespWriteSuperblockOp id which) = []
new_of (RespWriteJournalOp id) = []
new_of NoDiskOp = []

whole_there : (o : Option JournalRange) → is_whole (journal_read_of o) ≡ is_key o
whole_there (some jr) = whole_is
whole_there none = damaged_is

module _ (g : Geometry) (blocks marks out : List ℕ) (d : Disk) where
  -- the source's clauses, of a yes
  operation_clauses : (z : SizedDisk d) → Met g blocks marks d z → length out ≡ g.blocks * 4096 → (o : DiskOp) (new : List ℕ) → ask_operation g d o new marks ≡ 0
      → D.Next g (disk_of g blocks marks d) (disk_of g (operation_blocks o new blocks) (operation_marks o marks) (operation_next g d o)) (operation_of d o new (operation_out d o blocks out))
  operation_clauses z m h (op.ReqReadSuperblock id which) new e = SuperblockReads.recv_read_clauses g d which id blocks marks z e
  operation_clauses z m h (op.ReqReadJournal id v) new e = JournalReads.recv_read_clauses g d id v blocks marks z e
  operation_clauses z m h (op.ReqWriteSuperblock id which superblock) new e = SuperblockWrites.recv_write_clauses g d which blocks marks id superblock e
  operation_clauses z m h (op.ReqWriteJournal id1 id2 start count) new e = JournalWrites.write_clauses g d id1 id2 (interval start count) new blocks marks z m e
  operation_clauses z m h (op.RespReadSuperblock id which superblock) new e = SuperblockReads.read_as_clauses g d which id blocks marks m.tables superblock e
  operation_clauses z m h (op.RespReadJournal id journal) new e = JournalReads.read_clauses g d id blocks marks out z m h (is_whole journal) e
  operation_clauses z m h (op.RespWriteSuperblock id which) new e = SuperblockWrites.ack_write_clauses g d which blocks marks id e
  operation_clauses z m h (op.RespWriteJournal id) new e = JournalWrites.ack_write_clauses g d id blocks marks z m.tables e
  operation_clauses z m h op.NoDiskOp new e = record { next = refl }

  -- and back: the questions of an operation that the source allows within the limits
  asks_by : (which : Bool) (P : Bool → Type 0) → P which → P (bit_of (which_of which))
  asks_by which P x = subst P (sym (bit_which which)) x

  clauses_operation : SizedDisk d → DiskTables d → Lent g blocks marks → DiskMeets g limits (disk_of g blocks marks d) → (s' : D.Variables) (o : D.DiskOp) → D.Next g (disk_of g blocks marks d) s' o
      → WholeBlocks o → DiskCounts limits s' → ask_operation g d (call_of o) (new_of o) marks ≡ 0
  clauses_operation z t l m s' (ReqReadSuperblockOp id which) a b w =
      SuperblockReads.clauses_recv_read g d (which_of which) id blocks marks z t (which_in which) s' (asks_by which (D.RecvReadSuperblock (disk_of g blocks marks d) s' id) a)
      (w.superblock_reads_few (bit_of (which_of which)))
  clauses_operation z t l m s' (ReqReadJournalOp id v) a b w = JournalReads.clauses_recv_read g d id v blocks marks z t s' a w.journal_reads_few
  clauses_operation z t l m s' (ReqWriteSuperblockOp id which req) a b w =
      SuperblockWrites.clauses_recv_write g d (which_of which) blocks marks id req.superblock (which_in which) s'
      (asks_by which (λ (x : Bool). D.RecvWriteSuperblock (disk_of g blocks marks d) s' id x req) a)
  clauses_operation z t l m s' (ReqWriteJournalOp id1 id2 req) a b w =
      JournalWrites.clauses_write g d id1 (optional id2) (interval req.start (length req.journal)) (flat req.journal) blocks marks z t
      (flat_size (length req.journal) req.journal b) s'
      (subst (λ (x : Option ℕ × JournalRange). D.RecvWriteJournal g (disk_of g blocks marks d) s' id1 x.0 (record { start = req.start; journal = x.1 }))
      (λ i. (sym (option_of_optional id2) i, sym (blocks_flat (length req.journal) req.journal b) i)) a)
      w.journal_writes_few
  clauses_operation z t l m s' (RespReadSuperblockOp id which superblock) a b w =
      SuperblockReads.clauses_read_as g d (which_of which) id blocks marks (which_in which) superblock s'
      (asks_by which (λ (x : Bool). D.AckReadSuperblock (disk_of g blocks marks d) s' id x superblock) a)
  clauses_operation z t l m s' (RespReadJournalOp id journal) a b w =
      ap (λ (x : Bool). ask_ack_read_journal d.journalReads id x marks) (whole_there journal) ∙ JournalReads.clauses_read g d id blocks marks out z l m journal s' a
  clauses_operation z t l m s' (RespWriteSuperblockOp id which) a b w =
      SuperblockWrites.clauses_ack_write g d (which_of which) blocks marks id (which_in which) s' (asks_by which (D.AckWriteSuperblock (disk_of g blocks marks d) s' id) a)
  clauses_operation z t l m s' (RespWriteJournalOp id) a b w = JournalWrites.clauses_ack_write g d id blocks marks z s' a
  clauses_operation z t l m s' NoDiskOp a b w = refl

  -- the call says the operation, and a read's blocks lie in the buffer
  said : SizedDisk d → Lent g blocks marks → DiskMeets g limits (disk_of g blocks marks d) → length out ≡ g.blocks * 4096 → (s' : D.Variables) (o : D.DiskOp)
      → D.Next g (disk_of g blocks marks d) s' o → WholeBlocks o → operation_of d (call_of o) (new_of o) (operation_out d (call_of o) blocks out) ≡ o
  said z l m h s' (ReqReadSuperblockOp id which) a b = ap (ReqReadSuperblockOp id) (bit_which which)
  said z l m h s' (ReqReadJournalOp id v) a b = refl
  said z l m h s' (ReqWriteSuperblockOp id which req) a b = ap (λ (x : Bool). ReqWriteSuperblockOp id x req) (bit_which which)
  said z l m h s' (ReqWriteJournalOp id1 id2 req) a b =
      λ i. ReqWriteJournalOp id1 (option_of_optional id2 i) (record { start = req.start; journal = blocks_flat (length req.journal) req.journal b i })
  said z l m h s' (RespReadSuperblockOp id which superblock) a b = λ i. RespReadSuperblockOp id (bit_which which i) (option_of_optional superblock i)
  said z l m h s' (RespReadJournalOp id journal) a b =
      ap (λ (x : Bool). RespReadJournalOp id (blocks_read x (held_interval d.journalReads id) (read_out x (held_interval d.journalReads id) blocks out))) (whole_there journal)
      ∙ ap (RespReadJournalOp id) (JournalReads.content_read g d id blocks marks out z l m journal s' a h)
  said z l m h s' (RespWriteSuperblockOp id which) a b = ap (RespWriteSuperblockOp id) (bit_which which)
  said z l m h s' (RespWriteJournalOp id) a b = refl
  said z l m h s' NoDiskOp a b = refl

  module _ (o : DiskOp) (new : List ℕ) where
    q : ℕ
    q = ask_step g d o new blocks marks out

    -- the disk and lent memory after a step that is done
    stepped : ask_step g d o new blocks marks out ≡ 0
        → disk_of g (step_blocks g d o new blocks marks out) (step_marks g d o new blocks marks out) (step g d o new blocks marks out).disk
        ≡ disk_of g (operation_blocks o new blocks) (operation_marks o marks) (operation_next g d o)
    unfolding q
    stepped e =
        λ i. disk_of g (unless_done q blocks (operation_blocks o new blocks) e i) (unless_done q marks (operation_marks o marks) e i) (asked_done q (operation_next g d o) d e i).disk

    pub step_sound : SizedDisk d → (step g d o new blocks marks out).answer ≡ Ok record {}
        → DiskAllowed g limits (disk_of g blocks marks d)
        (disk_of g (step_blocks g d o new blocks marks out) (step_marks g d o new blocks marks out) (step g d o new blocks marks out).disk)
        (Operation (operation_of d o new (step_out g d o new blocks marks out)))
    unfolding q
    step_sound z e =
        let e0 : q ≡ 0 = done_asked q (operation_next g d o) d e in
        let a : ask_disk_out g d blocks marks out ≡ 0 = and_then_left (ask_disk_out g d blocks marks out) (ask_operation g d o new marks) e0 in
        let m = disk_met g blocks marks d z (out_disk g d blocks marks out a) in
        let c =
        operation_clauses z m (blocks_asked g out (out_blocks g d blocks marks out a)).size o new
        (and_then_right (ask_disk_out g d blocks marks out) (ask_operation g d o new marks) e0)
        in
        record {
          meets = m.meets;
          step =
              subst (λ (x : D.Variables × List ℕ). D.Next g (disk_of g blocks marks d) x.0 (operation_of d o new x.1))
              (λ i. (sym (stepped e0) i, sym (unless_done q out (operation_out d o blocks out) e0) i)) c;
        }

    pub step_refused : (n : Refusal) → (step g d o new blocks marks out).answer ≡ Err n
        → ((step g d o new blocks marks out).disk ≡ d) × (step_blocks g d o new blocks marks out ≡ blocks) × (step_marks g d o new blocks marks out ≡ marks)
        × (step_out g d o new blocks marks out ≡ out)
    unfolding q
    step_refused n e =
        let h = refused_asked q (operation_next g d o) d n e in (
          refused_same q (operation_next g d o) d n e,
          unless_kept q blocks (operation_blocks o new blocks) h,
          unless_kept q marks (operation_marks o marks) h,
          unless_kept q out (operation_out d o blocks out) h,
        )

  pub step_complete : SizedDisk d → DiskTables d → Lent g blocks marks → length out ≡ g.blocks * 4096 → (o : D.DiskOp) (s' : D.Variables)
      → DiskAllowed g limits (disk_of g blocks marks d) s' (Operation o) → DiskWithin g limits s' (Operation o)
      → ((step g d (call_of o) (new_of o) blocks marks out).answer ≡ Ok record {})
      × (disk_of g (step_blocks g d (call_of o) (new_of o) blocks marks out) (step_marks g d (call_of o) (new_of o) blocks marks out) (step g d (call_of o) (new_of o) blocks marks out).disk ≡ s')
      × (operation_of d (call_of o) (new_of o) (step_out g d (call_of o) (new_of o) blocks marks out) ≡ o)
  step_complete z t l h o s' a w =
      let m : Met g blocks marks d z = record { lent = l; tables = t; meets = a.meets } in
      let e : ask_operation g d (call_of o) (new_of o) marks ≡ 0 = clauses_operation z t l a.meets s' o a.step w.arguments w.counts in
      let b : ask_disk_out g d blocks marks out ≡ 0 =
      asks_out g d blocks marks out (met_disk g blocks marks d z m) (asked_blocks g out (record { geometry = l.blocks_right.geometry; size = h }))
      in
      let e0 : ask_step g d (call_of o) (new_of o) blocks marks out ≡ 0 = and_then_both (ask_disk_out g d blocks marks out) (ask_operation g d (call_of o) (new_of o) marks) b e in
      let p = said z l a.meets h s' o a.step w.arguments in
      let next : D.Variables = disk_of g (operation_blocks (call_of o) (new_of o) blocks) (operation_marks (call_of o) marks) (operation_next g d (call_of o)) in (
        ap (λ (x : DiskStepped). x.answer) (asked_done (ask_step g d (call_of o) (new_of o) blocks marks out) (operation_next g d (call_of o)) d e0),
        stepped (call_of o) (new_of o) e0
            ∙ disk_next_one g (disk_of g blocks marks d) next s' o
            (subst (D.Next g (disk_of g blocks marks d) next) p (operation_clauses z m h (call_of o) (new_of o) e)) a.step,
        ap (operation_of d (call_of o) (new_of o)) (unless_done (ask_step g d (call_of o) (new_of o) blocks marks out) out (operation_out d (call_of o) blocks out) e0) ∙ p,
      )
