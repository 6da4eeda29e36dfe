-- WriteBackJournalReq of a whole machine: the range goes to the front of a lent buffer of N blocks, and what is left of pending memory moves to
-- the front.
use Rattle.std.specs.Prelude.{ℕ, ◌+◌, ◌*◌, Bool, true, false, cond, ◌≡◌, refl, List, [], length, Ok}
use Rattle.std.specs.declared.option.Option as code
use Rattle.std.proofs.Math.Path.{sym, ap, subst}
use Rattle.std.proofs.Common.{◌∙◌}
use Rattle.laws.specs.Choice.{and_then_left, and_then_right, and_then_both, unless_done}
use Rattle.laws.specs.Sets.{Map}
use Rattle.laws.specs.Optional.{optional}
use Rattle.layout.specs.declared.Geometry.{Geometry}
use Rattle.layout.specs.Geometry.{num_journal_blocks}
use Rattle.superblock.specs.declared.DiskOp.{DiskOp}
use Rattle.superblock.specs.declared.DiskOp.TheVariants as op
use Rattle.journal.specs.Asked.{blocks_asked, asked_blocks}
use Rattle.journal.specs.Cells.{blocks_in}
use Rattle.tables.specs.declared.SyncTable.{SyncTable}
use Rattle.tables.specs.SyncTable.{sync_map}
use Rattle.range.specs.Form.{block_size}
use Rattle.ready.specs.declared.Bodies.{Bodies}
use Rattle.ready.specs.State.{none_frozen, sent, left}
use Rattle.ready.specs.JournalSteps.{sent_blocks, write_back_journal_req_next}
use Rattle.ready.specs.Laws.Asked.{write_asked}
use Rattle.codec.specs.Codec.{JournalRange}
use Rattle.codec.specs.Format.{format}
use Rattle.source.specs.JournalDisk as D
use Rattle.source.specs.JournalCache.{Variables, SyncReqStatus, sync_reqs3to2, to_write, WriteBackJournalReqStep, WriteBackJournalReqClauses}
use Rattle.source.specs.Limits.{limits, MachineCounts}
use Rattle.source.specs.Meets.{MachineMeets}
use Rattle.source.specs.Departures.{OneRange, WriteBackJournalReq⁺, Source}
use Rattle.source.specs.Within.{MachineAllowed, MachineWithin}
use Rattle.source.proofs.Laws.Format.{limits_fit}
use Rattle.machine.specs.declared.Kind.TheVariants as kind
use Rattle.machine.specs.declared.Machine.{Machine}
use Rattle.machine.specs.Lent.{Lent}
use Rattle.machine.specs.Questions.{bodies_of}
use Rattle.machine.specs.Working.{sent_sync, ask_write_back_journal_req_step, write_back_journal_req_op, written_machine, write_back_journal_req_machine, sent_range, moved_bytes, moved_lens}
use Rattle.machine.specs.Whole.{ask_machine_out, ask_write, write_back_journal_req, written_out, written_bytes, written_lens}
use Rattle.machine.specs.Laws.Answers.{next_asked}
use Rattle.refine.specs.Machine.ReadyView.{ready_of}
use Rattle.refine.specs.Machine.ReadyJournal as R
use Rattle.refine.specs.Machine.ReadyJournal.{moved_lent, written_sync}
use Rattle.refine.specs.Machine.MachineView.{ready_lent, state_of, syncs_of, machine_of, operation_of, SizedMachine, MachineLent, MachineForm, MachineMet}
use Rattle.refine.specs.Machine.MachineMeets.{machine_met, met_machine}
use Rattle.refine.specs.Machine.MachineCalls.{taken_by, answered_by_is}
use Rattle.refine.specs.Machine.MachineWork.{bodies_found, work_of, work_asked, asks_work, work_seen, work_form, work_in, work_out, work_step, syncs_3to2}
use Rattle.refine.specs.Machine.MachineRange.{range_sent}

-- the blocks of a write, at the front of the buffer
abbrev pub sent_in : DiskOp → List ℕ → JournalRange
sent_in (op.ReqWriteJournal id1 id2 start count) out = blocks_in count out
sent_in (op.ReqReadSuperblock id which) out = []
sent_in (op.ReqReadJournal id v) out = []
sent_in (op.ReqWriteSuperblock id which superblock) out = []
sent_in (op.RespReadSuperblock id which superblock) out = []
sent_in (op.RespReadJournal id read) out = []
sent_in (op.RespWriteSuperblock id which) out = []
sent_in (op.RespWriteJournal id) out = []
sent_in op.NoDiskOp out = []

-- sync requests move where what is sent moves them
pub sent_syncs : (moves : Bool) (t : SyncTable) → sync_map state_of (sent_sync moves t) ≡ cond moves (sync_reqs3to2 (sync_map state_of t)) (sync_map state_of t)
unfolding sent_sync
sent_syncs true t = syncs_3to2 t
sent_syncs false t = refl

module _ (g : Geometry) (l : Lent) (m : Machine) where
  -- what was looked up of pending memory
  abbrev held : Bodies
  held = bodies_of l.lens m

  -- pending memory with what is left
  abbrev moved : Lent
  moved = record { bytes = moved_bytes m held l.bytes; lens = moved_lens m held l.lens; pieces = l.pieces; rbytes = l.rbytes; rlens = l.rlens }

  module _ (id1 : ℕ) (id2 : code.Option ℕ) where
    abbrev next : Machine
    next = write_back_journal_req_machine m id1 id2 held

    next_kind : m.kind ≡ kind.Ready → next.kind ≡ kind.Ready
    unfolding written_machine
    next_kind e = e

    written_view : Variables.Ready
        (ready_of (moved_lent (ready_lent l) (sent m.ready.entries held) (left m.ready.entries held)) (written_sync m.ready.entries (syncs_of m))
        (write_back_journal_req_next m.ready id1 id2 (m.ready.writtenJournalLen + sent_blocks m.ready held)))
        ≡ Variables.Ready (work_of moved next)
    unfolding written_machine
    written_view =
        ap
        (λ (sync : Map SyncReqStatus).
        Variables.Ready
        (ready_of (ready_lent moved) sync (write_back_journal_req_next m.ready id1 id2 (m.ready.writtenJournalLen + sent_blocks m.ready held))))
        (sym (sent_syncs (none_frozen m.ready.entries) m.sync))

    pub write_clauses : MachineMet g l m → (out : List ℕ) → length out ≡ num_journal_blocks g * block_size → ask_write_back_journal_req_step g m id1 id2 held ≡ 0
        → WriteBackJournalReq⁺ g format (machine_of g l m) (machine_of g moved next)
        (operation_of (write_back_journal_req_op g m id1 id2 held) (blocks_in (sent_blocks m.ready held) (sent_range m held l.bytes l.lens out 0)))
        (blocks_in (sent_blocks m.ready held) (sent_range m held l.bytes l.lens out 0))
    unfolding ask_write_back_journal_req_step
    write_clauses met out size a =
        let e = work_asked m (and_then_left _ _ a) in
        let q = and_then_right _ _ a in
        let f = work_form g l m e met.form in
        let w = R.write_sound (ready_lent l) (syncs_of m) m.ready held f (bodies_found l m e) g limits limits_fit (subst (MachineMeets g limits) (work_seen g l m e) met.meets) id1 id2 q in
        subst
        (λ (jr : JournalRange). WriteBackJournalReq⁺ g format (machine_of g l m) (machine_of g moved next) (operation_of (write_back_journal_req_op g m id1 id2 held) jr) jr)
        (sym (range_sent g l m e met.form met.meets id1 id2 out (write_asked g m.ready id1 id2 held q) size))
        (record {
          source =
              work_step g l moved m next
              (λ s s'. WriteBackJournalReqClauses g format s s' (operation_of (write_back_journal_req_op g m id1 id2 held) (R.sent_range (work_of l m))) (R.sent_range (work_of l m)))
              e (next_kind e)
              (subst
              (λ (s' : Variables).
              WriteBackJournalReqClauses g format (work_of l m) s' (operation_of (write_back_journal_req_op g m id1 id2 held) (R.sent_range (work_of l m))) (R.sent_range (work_of l m)))
              written_view
              w.0);
          one_range = work_in g l m (λ s. OneRange format (to_write s) (R.sent_range (work_of l m))) e w.1;
        })

  pub clauses_write : SizedMachine m → MachineForm l m → MachineMeets g limits (machine_of g l m) → (out : List ℕ) → length out ≡ num_journal_blocks g * block_size
      → (s' : Variables) (dop : D.DiskOp) (jr : JournalRange) → WriteBackJournalReq⁺ g format (machine_of g l m) s' dop jr → MachineCounts limits s'
      → (id1 : ℕ) × (id2 : code.Option ℕ)
      × (ask_write_back_journal_req_step g m id1 id2 held ≡ 0)
      × (machine_of g moved (write_back_journal_req_machine m id1 id2 held) ≡ s')
      × (dop ≡ operation_of (write_back_journal_req_op g m id1 id2 held) jr)
      × (jr ≡ blocks_in (sent_blocks m.ready held) (sent_range m held l.bytes l.lens out 0))
  unfolding ask_write_back_journal_req_step
  clauses_write z form meets out size s' dop jr h counts =
      let w = work_out g l m (λ s. WriteBackJournalReqClauses g format s s' dop jr) h.source in
      let one = (work_out g l m (λ s. OneRange format (to_write s) jr) h.one_range).1 in
      let f = work_form g l m w.0 form in
      let id1 = w.1.id1 in
      let id2 = optional w.1.id2 in
      let few = (subst (MachineCounts limits) w.1.next counts).writes_few in
      let c = R.write_complete (ready_lent l) (syncs_of m) m.ready held f (bodies_found l m w.0) g z.writes s' dop jr w.1 one few in
      let may = write_asked g m.ready id1 id2 held c.0 in (
        id1,
        id2,
        and_then_both _ _ (asks_work m w.0) c.0,
        work_seen g moved (next id1 id2) (next_kind id1 id2 w.0) ∙ sym (written_view id1 id2) ∙ c.1,
        c.2 ∙ ap (operation_of (write_back_journal_req_op g m id1 id2 held)) (sym one.range_is),
        one.range_is ∙ sym (range_sent g l m w.0 form meets id1 id2 out may size),
      )

-- the whole step: what it leaves of pending memory, and the buffer
module _ (g : Geometry) (l : Lent) (m : Machine) (z : SizedMachine m) (out : List ℕ) where
  module _ (id1 : ℕ) (id2 : code.Option ℕ) where
    abbrev pub written_lent : Lent
    written_lent = record { bytes = written_bytes g l m id1 id2 out; lens = written_lens g l m id1 id2 out; pieces = l.pieces; rbytes = l.rbytes; rlens = l.rlens }

    lent_written : ask_write g l m id1 id2 out ≡ 0 → written_lent ≡ moved g l m
    lent_written q =
        λ i.
        record {
          bytes = unless_done (ask_write g l m id1 id2 out) l.bytes (moved g l m).bytes q i;
          lens = unless_done (ask_write g l m id1 id2 out) l.lens (moved g l m).lens q i;
          pieces = l.pieces;
          rbytes = l.rbytes;
          rlens = l.rlens;
        }

    -- the range that was sent
    abbrev pub written_range : JournalRange
    written_range = blocks_in (sent_blocks m.ready (bodies_of l.lens m)) (written_out g l m id1 id2 out)

    range_written : ask_write g l m id1 id2 out ≡ 0
        → written_range ≡ blocks_in (sent_blocks m.ready (bodies_of l.lens m)) (sent_range m (bodies_of l.lens m) l.bytes l.lens out 0)
    range_written q =
        ap (blocks_in (sent_blocks m.ready (bodies_of l.lens m)))
        (unless_done (ask_write g l m id1 id2 out) out (sent_range m (bodies_of l.lens m) l.bytes l.lens out 0) q)

    clauses_taken : ask_write g l m id1 id2 out ≡ 0
        → MachineMet g l m
        × WriteBackJournalReq⁺ g format (machine_of g l m) (machine_of g (moved g l m) (next g l m id1 id2)) (operation_of (write_back_journal_req_op g m id1 id2 (bodies_of l.lens m)) written_range) written_range
    unfolding ask_write ask_machine_out
    clauses_taken q =
        let a = and_then_left _ _ q in
        let met = machine_met g l m z (and_then_right _ _ a) in (
          met,
          subst
              (λ (jr : JournalRange).
              WriteBackJournalReq⁺ g format (machine_of g l m) (machine_of g (moved g l m) (next g l m id1 id2)) (operation_of (write_back_journal_req_op g m id1 id2 (bodies_of l.lens m)) jr) jr)
              (sym (range_written q))
              (write_clauses g l m id1 id2 met out (blocks_asked g out (and_then_left _ _ a)).size (and_then_right _ _ q)),
        )

    pub write_sound : (o : DiskOp) → (write_back_journal_req g l m id1 id2 out).answer ≡ Ok o
        → MachineAllowed g format limits (machine_of g l m) (machine_of g written_lent (write_back_journal_req g l m id1 id2 out).machine)
        (operation_of o (sent_in o (written_out g l m id1 id2 out))) (Source (WriteBackJournalReqStep (sent_in o (written_out g l m id1 id2 out))))
    write_sound o e =
        let same = (next_asked (ask_write g l m id1 id2 out) (write_back_journal_req_op g m id1 id2 (bodies_of l.lens m)) (next g l m id1 id2) m o e).1 in
        subst
        (λ (x : DiskOp).
        MachineAllowed g format limits (machine_of g l m) (machine_of g written_lent (write_back_journal_req g l m id1 id2 out).machine)
        (operation_of o (sent_in x (written_out g l m id1 id2 out))) (Source (WriteBackJournalReqStep (sent_in x (written_out g l m id1 id2 out)))))
        (sym same)
        (taken_by g l m (ask_write g l m id1 id2 out) (write_back_journal_req_op g m id1 id2 (bodies_of l.lens m)) (next g l m id1 id2) written_lent (moved g l m) lent_written written_range
        (Source (WriteBackJournalReqStep written_range)) o e clauses_taken)

  pub write_complete : MachineLent g l → MachineForm l m → length out ≡ num_journal_blocks g * block_size → (s' : Variables) (dop : D.DiskOp) (jr : JournalRange)
      → MachineAllowed g format limits (machine_of g l m) s' dop (Source (WriteBackJournalReqStep jr))
      → MachineWithin g limits (machine_of g l m) s' dop (Source (WriteBackJournalReqStep jr))
      → (id1 : ℕ) × (id2 : code.Option ℕ)
      × ((write_back_journal_req g l m id1 id2 out).answer ≡ Ok (write_back_journal_req_op g m id1 id2 (bodies_of l.lens m)))
      × (dop ≡ operation_of (write_back_journal_req_op g m id1 id2 (bodies_of l.lens m)) (written_range id1 id2))
      × (jr ≡ written_range id1 id2)
      × (machine_of g (written_lent id1 id2) (write_back_journal_req g l m id1 id2 out).machine ≡ s')
  unfolding ask_write ask_machine_out
  write_complete t form size s' dop jr a within =
      let c = clauses_write g l m z form a.meets out size s' dop jr a.step within.counts in
      let id1 = c.0 in
      let id2 = c.1 in
      let q : ask_write g l m id1 id2 out ≡ 0 =
      and_then_both _ _
      (and_then_both _ _ (asked_blocks g out (record { geometry = t.geometry; size = size })) (met_machine g l m z (record { lent = t; form = form; meets = a.meets })))
      c.2 in
      let r =
      answered_by_is g l m (ask_write g l m id1 id2 out) (write_back_journal_req_op g m id1 id2 (bodies_of l.lens m)) (next g l m id1 id2) (written_lent id1 id2) (moved g l m) (lent_written id1 id2)
      s' q c.3 in
      let range = c.5 ∙ sym (range_written id1 id2 q) in
      (id1, id2, r.0, c.4 ∙ ap (operation_of (write_back_journal_req_op g m id1 id2 (bodies_of l.lens m))) range, range, r.1)
