-- PageInJournalResp: the answer is the disk's own. Whole, the blocks of the interval that it holds go to the place of the piece that awaits them, which
-- is as long.
use Prim.Native.Nat.{ℕ, ◌*◌, ◌/◌}
use Rattle.std.specs.Prelude.{Bool, ◌≡◌, refl, Ok}
use Rattle.std.proofs.Math.Bool.{true, false}
use Rattle.std.proofs.Math.Path.{sym, ap, subst}
use Rattle.std.proofs.Common.{◌∙◌, arith, take_all}
use mathlib.Core.List.{List}
use Rattle.std.proofs.Math.Option.{Option, none, some}
use Rattle.std.proofs.Math.Logic.{⊎_elim}
use Rattle.std.proofs.Math.ListN.{length, take, drop}
use Rattle.laws.specs.Choice.{unless, unless_done}
use Rattle.laws.specs.Cut.{cut_even}
use Rattle.laws.specs.Around.{around_straight}
use Rattle.laws.specs.Part.{length_part}
use Rattle.laws.specs.Splice.{clipped}
use Rattle.layout.specs.declared.Geometry.{Geometry}
use Rattle.interval.specs.declared.JournalInterval.{JournalInterval}
use Rattle.interval.specs.Facts.{ContiguousJournalInterval}
use Rattle.superblock.specs.declared.DiskOp.{DiskOp}
use Rattle.superblock.specs.declared.JournalRead.TheVariants as read
use Rattle.journal.specs.Memory.{slice_bytes, copy_blocks}
use Rattle.journal.specs.Asked.{Blocks}
use Rattle.journal.specs.Laws.{copied_slice}
use Rattle.journal.specs.Cells as cells
use Rattle.journal.specs.Blocks.{blocks_front}
use Rattle.codec.specs.Codec.{JournalRange}
use Rattle.codec.specs.Format.{format}
use Rattle.source.specs.JournalDisk as D
use Rattle.source.specs.JournalCache as M
use Rattle.source.specs.JournalCache.{PageInJournalRespStep, NoOpStep}
use Rattle.source.specs.Limits.{limits}
use Rattle.source.specs.Departures.{Source, DamagedJournalStep, PageInJournalResp⁺, DamagedJournal, NoOp⁺}
use Rattle.history.specs.Statement.{Takes, tied_paged, tied_damaged, unawaited_paged, unawaited_damaged}
use Rattle.loading.specs.declared.Paged.{Paged}
use Rattle.machine.specs.Questions.{ask_machine}
use Rattle.machine.specs.Loading.{paged_in, page_in_journal_resp_op, page_in_journal_resp_machine, paged_pieces}
use Rattle.requests.specs.Acknowledge.{held_interval}
use Rattle.disk.specs.Next.{ack_read_journal_next}
use Rattle.disk.specs.Memory.{read_out}
use Rattle.requests.specs.Laws.Acknowledge.{held_is, ack_read_journal_waiting}
use Rattle.disk.specs.Laws.Memory.{out_whole}
use Rattle.store.specs.declared.Store.{Store}
use Rattle.store.specs.Store.{store}
use Rattle.store.specs.Lent.{Lent, machine_lent, ask_store, with_pieces}
use Rattle.store.specs.Steps.{read_of, ask_journal_read, journal_read, copied_pieces, read_pieces}
use Rattle.calls.specs.declared.calls.Step.TheVariants as step
use Rattle.calls.specs.Given.{Given}
use Rattle.refine.specs.Disk.JournalReads.{waiting_some, read_clauses}
use Rattle.refine.specs.Machine.LoadingView.{blocks_in}
use Rattle.refine.specs.Machine.LoadingPaged.{asked_piece, blocks_all_is}
use Rattle.refine.specs.Machine.MachineView.{machine_of}
use Rattle.refine.specs.Machine.MachineJournalAnswers.{seen_after, whole_clauses, damaged_clauses}
use Rattle.refine.specs.Store.Seen.{seen, SizedStore, StoreMet, store_met, call_of}
use Rattle.refine.specs.Store.Taken.{answered_takes, machine_takes, machine_asked}
use Rattle.refine.specs.Store.Awaiting.{paged_len}

-- the bytes of an interval that doesn't go round: those that the piece takes, and those that the disk hands out through any buffer
module _ (g : Geometry) (v : JournalInterval) (blocks : List ℕ) where
  abbrev pub held : List ℕ
  held = take (v.len * 4096) (drop (v.start * 4096) blocks)

  module _ (b : Blocks g blocks) (f : ContiguousJournalInterval g v) where
    pub held_length : length held ≡ v.len * 4096
    held_length = length_part blocks (v.start * 4096) (v.len * 4096) (omega (arith, b.size, f.end_in))

    held_slice : slice_bytes blocks v ≡ held
    unfolding slice_bytes
    held_slice = around_straight blocks (v.start * 4096) (v.len * 4096) (omega (arith, b.size, f.end_in))

    -- of n blocks
    pub blocks_held : blocks_in (length held / 4096) held ≡ blocks_in v.len held
    blocks_held = blocks_all_is v.len held held_length

    pub out_held : (out : List ℕ) → length out ≡ g.blocks * 4096 → cells.blocks_in v.len (read_out true v blocks out) ≡ blocks_in (length held / 4096) held
    unfolding cells.blocks_in
    out_held out h =
        ap (cells.blocks_in v.len) (out_whole v blocks out ∙ copied_slice g v blocks out 0 b f (omega (arith, f.end_in)))
        ∙ blocks_front v.len (slice_bytes blocks v) out (ap (λ (xs : List ℕ). length xs) held_slice ∙ held_length) (omega (arith, f.end_in))
        ∙ ap (cells.blocks_in v.len) held_slice
        ∙ sym (cut_even v.len 4096 held)
        ∙ sym blocks_held

    pub piece_takes : (p : Paged) (u : JournalInterval) (pieces : List ℕ) → p.len ≡ v.len → u ≡ v → paged_pieces p held pieces ≡ copied_pieces p u blocks pieces
    unfolding paged_pieces copy_blocks
    piece_takes p u pieces e k =
        ap (clipped pieces (p.place * 4096))
        (take_all (p.len * 4096) held (omega (arith, e, held_length)) ∙ (λ i. take (sym e i * 4096) (drop ((sym k i).start * 4096) blocks)))

-- a damaged answer goes nowhere
pub nothing_taken : (p : Paged) (u : JournalInterval) (blocks pieces : List ℕ) → paged_pieces p (drop (u.start * 4096) blocks) pieces ≡ copied_pieces p u blocks pieces
unfolding paged_pieces copy_blocks
nothing_taken p u blocks pieces = refl

module _ (g : Geometry) (l : Lent) (v : Given) (s : Store) (id : ℕ) where
  -- lent memory after an answer that is taken, and the store
  abbrev after : Bool → Lent
  after whole = with_pieces l (read_pieces g s id whole l.blocks l.pieces)

  abbrev next : Bool → Store
  next whole = store (page_in_journal_resp_machine s.machine id (read_of whole)) (ack_read_journal_next s.disk id)

  module _ (z : SizedStore s) (e : ask_store g l s ≡ 0) where
    abbrev met : StoreMet g l s z
    met = store_met g l s z e

    abbrev asked : ask_machine g (machine_lent l) s.machine ≡ 0
    asked = machine_asked g l s e

    whole_takes : ask_journal_read s id true l.marks ≡ 0 → Takes g format limits (seen g l s) (seen g (after true) (next true)) (call_of v (step.PageInJournalResp id true))
    unfolding ask_journal_read
    whole_takes q =
        let k = waiting_some s.disk.journalReads z.disk.journal_reads_is id (ack_read_journal_waiting s.disk.journalReads id true l.marks q) in
        let u : held_interval s.disk.journalReads id ≡ k.0 = held_is s.disk.journalReads id k.0 k.1 in
        let f = met.disk.meets.shape.reads_contiguous id k.0 k.1 in
        let b = met.disk.lent.blocks_right in
        let p : Paged = paged_in g s.machine id read.Whole in
        let long : p.len ≡ k.0.len =
        paged_len g (machine_lent l) s.machine id k.0 asked (sym (ap (λ (m : ℕ → Option JournalInterval). m id) met.joined.journal_reads_is) ∙ k.1) in
        let new : List ℕ = held g k.0 l.blocks in
        let dop : D.DiskOp = D.RespReadJournalOp id (some (blocks_in (length new / 4096) new)) in
        let there : paged_pieces p new l.pieces ≡ (after true).pieces =
        piece_takes g k.0 l.blocks b f p (held_interval s.disk.journalReads id) l.pieces long u in
        let same : seen_after g (machine_lent l) s.machine id read.Whole new ≡ (seen g (after true) (next true)).machine =
        ap (λ (ps : List ℕ). machine_of g (machine_lent (with_pieces l ps)) (next true).machine) there in
        let disk : D.Next g (seen g l s).disk (seen g (after true) (next true)).disk dop =
        subst (λ (o : Option JournalRange). D.Next g (seen g l s).disk (seen g (after true) (next true)).disk (D.RespReadJournalOp id o))
        ((λ i. some (cells.blocks_in (u i).len (read_out true (u i) l.blocks l.pieces))) ∙ ap some (out_held g k.0 l.blocks b f l.pieces met.machine.lent.pieces_lent))
        (read_clauses g s.disk id l.blocks l.marks l.pieces z.disk met.disk met.machine.lent.pieces_lent true q) in
        ⊎_elim
        (λ h.
        machine_takes g l s z met (seen g (after true) (next true)) (call_of v (step.PageInJournalResp id true)) dop (Source (PageInJournalRespStep false)) tied_paged
        (subst (λ (y : M.Variables). PageInJournalResp⁺ (seen g l s).machine y dop) same h) disk)
        (λ h.
        machine_takes g l s z met (seen g (after true) (next true)) (call_of v (step.PageInJournalResp id true)) dop (Source NoOpStep) unawaited_paged
        (subst (λ (y : M.Variables). NoOp⁺ (seen g l s).machine y dop) same h) disk)
        (whole_clauses g (machine_lent l) s.machine id new asked (asked_piece p new (held_length g k.0 l.blocks b f ∙ ap (λ (n : ℕ). n * 4096) (sym long))))

    damaged_takes : ask_journal_read s id false l.marks ≡ 0 → Takes g format limits (seen g l s) (seen g (after false) (next false)) (call_of v (step.PageInJournalResp id false))
    unfolding ask_journal_read
    damaged_takes q =
        let new : List ℕ = drop ((held_interval s.disk.journalReads id).start * 4096) l.blocks in
        let dop : D.DiskOp = D.RespReadJournalOp id none in
        let same : seen_after g (machine_lent l) s.machine id read.Damaged new ≡ (seen g (after false) (next false)).machine =
        ap (λ (ps : List ℕ). machine_of g (machine_lent (with_pieces l ps)) (next false).machine)
        (nothing_taken (paged_in g s.machine id read.Damaged) (held_interval s.disk.journalReads id) l.blocks l.pieces) in
        let disk : D.Next g (seen g l s).disk (seen g (after false) (next false)).disk dop =
        read_clauses g s.disk id l.blocks l.marks l.pieces z.disk met.disk met.machine.lent.pieces_lent false q in
        ⊎_elim
        (λ h.
        machine_takes g l s z met (seen g (after false) (next false)) (call_of v (step.PageInJournalResp id false)) dop DamagedJournalStep tied_damaged
        (subst (λ (y : M.Variables). DamagedJournal (seen g l s).machine y dop) same h) disk)
        (λ h.
        machine_takes g l s z met (seen g (after false) (next false)) (call_of v (step.PageInJournalResp id false)) dop (Source NoOpStep) unawaited_damaged
        (subst (λ (y : M.Variables). NoOp⁺ (seen g l s).machine y dop) same h) disk)
        (damaged_clauses g (machine_lent l) s.machine id new asked)

    either_takes : (whole : Bool) → ask_journal_read s id whole l.marks ≡ 0
        → Takes g format limits (seen g l s) (seen g (after whole) (next whole)) (call_of v (step.PageInJournalResp id whole))
    either_takes true q = whole_takes q
    either_takes false q = damaged_takes q

    pub journal_read_takes : (whole : Bool) (o : DiskOp) → (journal_read s id whole l.marks).answer ≡ Ok o
        → Takes g format limits (seen g l s)
        (seen g (with_pieces l (unless (ask_journal_read s id whole l.marks) l.pieces (read_pieces g s id whole l.blocks l.pieces))) (journal_read s id whole l.marks).store)
        (call_of v (step.PageInJournalResp id whole))
    journal_read_takes whole o a =
        answered_takes g l s (ask_journal_read s id whole l.marks) (page_in_journal_resp_op id (read_of whole)) (next whole)
        (with_pieces l (unless (ask_journal_read s id whole l.marks) l.pieces (read_pieces g s id whole l.blocks l.pieces))) (after whole)
        (call_of v (step.PageInJournalResp id whole)) o a
        (λ q. ap (with_pieces l) (unless_done (ask_journal_read s id whole l.marks) l.pieces (read_pieces g s id whole l.blocks l.pieces) q))
        (either_takes whole)
