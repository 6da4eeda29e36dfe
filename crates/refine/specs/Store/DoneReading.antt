-- The answer of a journal read, as the source takes it, is taken: the disk's own blocks of the interval that it holds are the answer's, and lie in
-- lent memory as the machine's half has them.
use Rattle.std.specs.Prelude.{ℕ, ◌*◌, Bool, true, false, ◌≡◌, length, drop, replicate}
use Rattle.std.proofs.Math.Path.{refl, ap}
use Rattle.std.proofs.Common.{sym, ◌∙◌, subst, arith, take_all}
use mathlib.Core.List.{List, []}
use Rattle.std.proofs.Math.Option.{Option, none, some}
use Rattle.laws.specs.Choice.{unless_done}
use Rattle.laws.specs.Cut.{flat, lengths}
use Rattle.laws.specs.Sets.{is_key, same_value}
use Rattle.layout.specs.declared.Geometry.{Geometry}
use Rattle.interval.specs.declared.JournalInterval.{JournalInterval}
use Rattle.interval.specs.Facts.{ContiguousJournalInterval}
use Rattle.superblock.specs.declared.JournalRead.TheVariants as read
use Rattle.journal.specs.Cells as cells
use Rattle.codec.specs.Codec.{JournalRange}
use Rattle.codec.specs.Format.{format}
use Rattle.loading.specs.declared.Paged.{Paged}
use Rattle.source.specs.JournalDisk as D
use Rattle.source.specs.JournalCache.{PageInJournalRespStep, NoOpStep}
use Rattle.source.specs.JournalSystem as Y
use Rattle.source.specs.Limits.{limits}
use Rattle.source.specs.Meets.{SystemMeets}
use Rattle.source.specs.Departures.{Step⁺, Source, DamagedJournalStep, MachineStep, Allowed}
use Rattle.source.specs.Within.{AwaitedPiece, Within}
use Rattle.history.specs.Ledger as ledger
use Rattle.history.specs.Statement.{Tied, tied_paged, tied_damaged, unawaited_paged, unawaited_damaged}
use Rattle.machine.specs.Loading.{paged_in, page_in_journal_resp_op, page_in_journal_resp_machine, paged_pieces}
use Rattle.requests.specs.Acknowledge.{held_interval, ask_ack_read_journal}
use Rattle.disk.specs.Next.{ack_read_journal_next}
use Rattle.disk.specs.Memory.{read_out}
use Rattle.requests.specs.Laws.Acknowledge.{held_is}
use Rattle.store.specs.declared.Store.{Store}
use Rattle.store.specs.Store.{store}
use Rattle.store.specs.Lent.{Lent, machine_lent, with_pieces}
use Rattle.store.specs.Steps.{read_of, ask_journal_read, read_pieces}
use Rattle.calls.specs.declared.calls.Step.TheVariants as step
use Rattle.calls.specs.Given.{given}
use Rattle.calls.specs.Step.{step_answer_with, step_lent_with, ask_picture}
use Rattle.refine.specs.Disk.JournalReads.{journal_answered_is, clauses_read, content_read}
use Rattle.refine.specs.Machine.LoadingView.{blocks_in}
use Rattle.refine.specs.Machine.LoadedBlocks.{flat_blocks, blocks_sized}
use Rattle.refine.specs.Machine.MachineView.{machine_of}
use Rattle.refine.specs.Machine.MachineJournalAnswers.{seen_after, clauses_unawaited, clauses_whole, clauses_damaged}
use Rattle.refine.specs.Store.Seen.{seen, SizedStore}
use Rattle.refine.specs.Store.Taken.{machine_asked}
use Rattle.refine.specs.Store.Awaiting.{paged_len}
use Rattle.refine.specs.Store.Reading.{held, held_length, blocks_held, out_held, piece_takes, nothing_taken}
use Rattle.refine.specs.Store.Done.{StoreForm, form_asks, Done}
use Rattle.refine.specs.Store.DoneBy.{done_asked}

module _ (g : Geometry) (l : Lent) (s : Store) (z : SizedStore s) (f : StoreForm g l s) where
  -- lent memory after an answer, and the store
  module _ (id : ℕ) where
    abbrev after : Bool → Lent
    after whole = with_pieces l (read_pieces g s id whole l.blocks l.pieces)

    abbrev next : Bool → Store
    next whole = store (page_in_journal_resp_machine s.machine id (read_of whole)) (ack_read_journal_next s.disk id)

    disk_after : (d : D.Variables) (journal : Option JournalRange) → D.AckReadJournal g (seen g l s).disk d id journal → (whole : Bool) → (seen g (after whole) (next whole)).disk ≡ d
    disk_after d journal a whole = journal_answered_is g s.disk id l.blocks l.marks l.pieces z.disk.journal_reads_is f.tables ∙ sym a.next

    -- blocks that go nowhere: it doesn't matter which
    abbrev there : List ℕ
    there = drop ((held_interval s.disk.journalReads id).start * 4096) l.blocks

    elsewhere : (whole : Bool) → seen_after g (machine_lent l) s.machine id (read_of whole) there ≡ (seen g (after whole) (next whole)).machine
    elsewhere whole =
        ap (λ (ps : List ℕ). machine_of g (machine_lent (with_pieces l ps)) (next whole).machine)
        (nothing_taken (paged_in g s.machine id (read_of whole)) (held_interval s.disk.journalReads id) l.blocks l.pieces)

  -- what an answer of the source brings
  module _ (meets : SystemMeets g limits (seen g l s)) (id : ℕ) (d : D.Variables) where
    module _ (jr : JournalRange) (a : D.AckReadJournal g (seen g l s).disk d id (some jr)) where
      contiguous : ContiguousJournalInterval g a.ind
      contiguous = meets.disk.shape.reads_contiguous id a.ind a.waiting

      is_held : held_interval s.disk.journalReads id ≡ a.ind
      is_held = held_is s.disk.journalReads id a.ind a.waiting

      held_size : length (held g a.ind l.blocks) ≡ a.ind.len * 4096
      held_size = held_length g a.ind l.blocks f.disk_lent.blocks_right contiguous

      -- its blocks, and their bytes
      held_range : jr ≡ blocks_in a.ind.len (held g a.ind l.blocks)
      held_range =
          let size = f.machine_lent_is.pieces_lent in
          let u : JournalInterval = held_interval s.disk.journalReads id in
          let e : some (cells.blocks_in u.len (read_out true u l.blocks l.pieces)) ≡ some jr =
          content_read g s.disk id l.blocks l.marks l.pieces z.disk f.disk_lent meets.disk (some jr) d a size in
          let k : cells.blocks_in u.len (read_out true u l.blocks l.pieces) ≡ jr = same_value {o = some (cells.blocks_in u.len (read_out true u l.blocks l.pieces))} refl e in
          sym k
          ∙ (λ i. cells.blocks_in (is_held i).len (read_out true (is_held i) l.blocks l.pieces))
          ∙ out_held g a.ind l.blocks f.disk_lent.blocks_right contiguous l.pieces size
          ∙ blocks_held g a.ind l.blocks f.disk_lent.blocks_right contiguous

      flat_range : flat jr ≡ held g a.ind l.blocks
      flat_range =
          ap flat held_range
          ∙ flat_blocks a.ind.len (held g a.ind l.blocks)
          ∙ take_all (a.ind.len * 4096) (held g a.ind l.blocks) (omega (arith, held_size))

      sized_range : lengths jr ≡ replicate a.ind.len 4096
      sized_range = ap lengths held_range ∙ blocks_sized a.ind.len (held g a.ind l.blocks) (omega (arith, held_size))

  awaited_piece : SystemMeets g limits (seen g l s) → (d : D.Variables) (dop : D.DiskOp) → D.Next g (seen g l s).disk d dop → AwaitedPiece g (seen g l s).machine dop
  awaited_piece meets d dop h id jr v e q =
      let a : D.AckReadJournal g (seen g l s).disk d id (some jr) = subst (D.Next g (seen g l s).disk d) e h in
      let same : a.ind ≡ v = same_value a.waiting (ap (λ (m : ℕ → Option JournalInterval). m id) meets.joined.journal_reads_is ∙ q) in
      subst (λ (u : JournalInterval). lengths jr ≡ replicate u.len 4096) same (sized_range meets id d jr a)

  -- the call of an answer whose machine's half is seen
  module _ (meets : SystemMeets g limits (seen g l s)) (t : Y.Variables) (id : ℕ) where
    answer_done : (whole : Bool) (dop : D.DiskOp) (y : Step⁺) (journal : Option JournalRange) → is_key journal ≡ whole → D.AckReadJournal g (seen g l s).disk t.disk id journal
        → (seen g (after id whole) (next id whole)).machine ≡ t.machine
        → Tied (ledger.journal_read id whole) (MachineStep dop y)
        → Done g l s t (MachineStep dop y)
    unfolding ask_picture step_answer_with step_lent_with ask_journal_read
    answer_done whole dop y journal w a machine tied =
        let q : ask_journal_read s id whole l.marks ≡ 0 =
        ap (λ (x : Bool). ask_ack_read_journal s.disk.journalReads id x l.marks) (sym w)
        ∙ clauses_read g s.disk id l.blocks l.marks l.pieces z.disk f.disk_lent meets.disk journal t.disk a in
        let disk : (seen g (after id whole) (next id whole)).disk ≡ t.disk = disk_after id t.disk journal a whole in
        done_asked g l s z f meets t (MachineStep dop y) (step.PageInJournalResp id whole) (given [] [] [] []) (page_in_journal_resp_op id (read_of whole))
        (next id whole) (after id whole) tied
        refl (ask_journal_read s id whole l.marks) q refl
        (ap (with_pieces l) (unless_done (ask_journal_read s id whole l.marks) l.pieces (read_pieces g s id whole l.blocks l.pieces) q))
        (λ i. record { machine = machine i; disk = disk i })

  -- awaited and whole
  pub paged_done : (t : Y.Variables) (dop : D.DiskOp) (which : Bool)
      → Allowed g format limits (seen g l s) t (MachineStep dop (Source (PageInJournalRespStep which))) → Within g limits t (MachineStep dop (Source (PageInJournalRespStep which)))
      → Done g l s t (MachineStep dop (Source (PageInJournalRespStep which)))
  paged_done t dop which a w =
      let meets = a.meets in
      let c =
      clauses_whole g (machine_lent l) s.machine f.machine_lent_is f.machine.kind meets.machine t.machine dop a.step.machine
      (awaited_piece meets t.disk dop a.step.disk) in
      let id : ℕ = c.0 in
      let jr : JournalRange = c.1 in
      let k : D.AckReadJournal g (seen g l s).disk t.disk id (some jr) = subst (D.Next g (seen g l s).disk t.disk) c.5 a.step.disk in
      let p : Paged = paged_in g s.machine id read.Whole in
      let long : p.len ≡ k.ind.len =
      paged_len g (machine_lent l) s.machine id k.ind (machine_asked g l s (form_asks g l s z f meets))
      (sym (ap (λ (m : ℕ → Option JournalInterval). m id) meets.joined.journal_reads_is) ∙ k.waiting) in
      let taken : paged_pieces p (flat jr) l.pieces ≡ (after id true).pieces =
      ap (λ (bytes : List ℕ). paged_pieces p bytes l.pieces) (flat_range meets id t.disk jr k)
      ∙ piece_takes g k.ind l.blocks f.disk_lent.blocks_right (contiguous meets id t.disk jr k) p (held_interval s.disk.journalReads id) l.pieces long
      (is_held meets id t.disk jr k) in
      let machine : (seen g (after id true) (next id true)).machine ≡ t.machine =
      sym (ap (λ (ps : List ℕ). machine_of g (machine_lent (with_pieces l ps)) (next id true).machine) taken) ∙ c.4 in
      answer_done meets t id true dop (Source (PageInJournalRespStep which)) (some jr) refl k machine
      (subst (λ (o : D.DiskOp). Tied (ledger.journal_read id true) (MachineStep o (Source (PageInJournalRespStep which)))) (sym c.5) tied_paged)

  -- awaited and damaged
  pub damaged_done : (t : Y.Variables) (dop : D.DiskOp)
      → Allowed g format limits (seen g l s) t (MachineStep dop DamagedJournalStep) → Within g limits t (MachineStep dop DamagedJournalStep) → Done g l s t (MachineStep dop DamagedJournalStep)
  damaged_done t dop a w =
      let meets = a.meets in
      let c = clauses_damaged g (machine_lent l) s.machine f.machine.kind meets.machine t.machine dop a.step.machine in
      let id : ℕ = c.0 in
      let k : D.AckReadJournal g (seen g l s).disk t.disk id none = subst (D.Next g (seen g l s).disk t.disk) c.1 a.step.disk in
      answer_done meets t id false dop DamagedJournalStep none refl k
      (sym (elsewhere id false) ∙ (c.2 (there id)).1)
      (subst (λ (o : D.DiskOp). Tied (ledger.journal_read id false) (MachineStep o DamagedJournalStep)) (sym c.1) tied_damaged)

  -- nobody awaits it
  pub unawaited_done : (t : Y.Variables) (id : ℕ) (journal : Option JournalRange)
      → Allowed g format limits (seen g l s) t (MachineStep (D.RespReadJournalOp id journal) (Source NoOpStep)) → Within g limits t (MachineStep (D.RespReadJournalOp id journal) (Source NoOpStep))
      → Done g l s t (MachineStep (D.RespReadJournalOp id journal) (Source NoOpStep))
  unawaited_done t id journal a w =
      answer_done a.meets t id (is_key journal) (D.RespReadJournalOp id journal) (Source NoOpStep) journal refl a.step.disk
      (sym (elsewhere id (is_key journal)) ∙ (clauses_unawaited g (machine_lent l) s.machine id (there id) (read_of (is_key journal)) journal t.machine a.step.machine).1)
      (tied journal)
    where
      tied : (x : Option JournalRange) → Tied (ledger.journal_read id (is_key x)) (MachineStep (D.RespReadJournalOp id x) (Source NoOpStep))
      tied (some jr) = unawaited_paged
      tied none = unawaited_damaged
