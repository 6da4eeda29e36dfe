-- Both commit requests of a whole machine.
use Rattle.std.specs.Prelude.{ℕ, ◌-◌, true, cond, ◌≡◌, refl, List, [], ◌∷◌, leb, length, None, Some, Ok}
use Rattle.std.specs.declared.option.Option as code
use Rattle.std.proofs.Math.Path.{sym, ap}
use Rattle.std.proofs.Common.{◌∙◌, arith}
use Rattle.laws.specs.Choice.{and_then_left, and_then_right, and_then_both, by_leb, ruin}
use Rattle.laws.specs.Sets.{Map}
use Rattle.layout.specs.declared.Geometry.{Geometry}
use Rattle.layout.specs.declared.Location.{Location}
use Rattle.superblock.specs.declared.DiskOp.{DiskOp}
use Rattle.tables.specs.SyncTable.{sync_map}
use Rattle.codec.specs.Codec.{JournalEntry}
use Rattle.codec.specs.Format.{format}
use Rattle.ready.specs.declared.Ready.{Ready}
use Rattle.ready.specs.State.{is_received, none_in_memory}
use Rattle.ready.specs.CommitSteps.{ask_advance_log, advanced_log, advance_log_next, ask_advance_location, advanced_location, advance_location_next}
use Rattle.ready.specs.Laws.Asked.{location_asked}
use Rattle.source.specs.JournalDisk as D
use Rattle.source.specs.JournalCache as M
use Rattle.source.specs.JournalCache.{Variables, SyncReqStatus, with_sync_reqs, sync_reqs3to2, if_none, WriteBackSuperblockReq-AdvanceLog-Step, WriteBackSuperblockReq-AdvanceLocation-Step, WriteBackSuperblockReq-AdvanceLogClauses, WriteBackSuperblockReq-AdvanceLocationClauses}
use Rattle.source.specs.Limits.{limits}
use Rattle.source.specs.Departures.{idle_sync, CommitReq⁺, Source}
use Rattle.source.specs.Within.{MachineAllowed, MachineWithin}
use Rattle.machine.specs.declared.Machine.{Machine}
use Rattle.machine.specs.declared.Kind.TheVariants as kind
use Rattle.machine.specs.Machine.{ask_ready, with_ready}
use Rattle.machine.specs.Lent.{Lent}
use Rattle.machine.specs.Working.{sent_sync, ask_advance_log_step, advance_log_op, advance_log_machine, ask_advance_location_step, received_or, new_location, advance_location_op, advance_location_machine, commit_requested}
use Rattle.machine.specs.Whole.{advance_log, advance_location}
use Rattle.refine.specs.Machine.ReadyView.{memory_of, ready_of}
use Rattle.refine.specs.Machine.ReadyForm.{length_memory}
use Rattle.refine.specs.Machine.ReadyCommit as R
use Rattle.refine.specs.Machine.MachineView.{ready_lent, state_of, syncs_of, machine_of, operation_of, SizedMachine, MachineLent, MachineForm}
use Rattle.refine.specs.Machine.MachineCalls.{sound_same, complete_same}
use Rattle.refine.specs.Machine.MachineWriting.{sent_syncs}
use Rattle.refine.specs.Machine.MachineWork.{work_asked, asks_work, work_seen, work_form, work_out, work_step}

-- the location that was received
new_location_is : (q : code.Option Location) (old : Location) → is_received q ≡ true → q ≡ Some (received_or q old)
new_location_is None old e = ruin (cc)
new_location_is (Some loc) old e = refl

-- none in memory, as a test of the counts and of the list
by_empty : {A : Type 0} (es : List JournalEntry) (n k : ℕ) (x y : A) → length es ≡ n - k → if_none es x y ≡ cond (leb n k) x y
by_empty [] n k x y e = by_leb (λ (a : _). x ≡ a) n k x y (λ h. refl) (λ h. absurd (omega (arith, e)))
by_empty (z ∷ zs) n k x y e = by_leb (λ (a : _). y ≡ a) n k x y (λ h. absurd (omega (arith, e))) (λ h. refl)

module _ (g : Geometry) (l : Lent) (m : Machine) where
  -- the machine as the source's request leaves it, and what is then done to the sync requests
  module _ (k : m.kind ≡ kind.Ready) (form : MachineForm l m) (ready : Ready) where
    commit_synced : machine_of g l (commit_requested m ready) ≡ with_sync_reqs (idle_sync (machine_of g l m)) (machine_of g l (with_ready m ready))
    unfolding commit_requested
    commit_synced =
        work_seen g l (commit_requested m ready) k
        ∙ ap (λ (x : Map SyncReqStatus). Variables.Ready (ready_of (ready_lent l) x ready)) moved
        ∙ (λ i. with_sync_reqs (idle_sync (sym (work_seen g l m k) i)) (sym (work_seen g l (with_ready m ready) k) i))
      where
        moved : sync_map state_of (sent_sync (none_in_memory m.ready.entries) m.sync) ≡ if_none (memory_of (ready_lent l) m.ready.entries) (sync_reqs3to2 (syncs_of m)) (syncs_of m)
        moved =
            sent_syncs (none_in_memory m.ready.entries) m.sync
            ∙ sym (by_empty (memory_of (ready_lent l) m.ready.entries) m.ready.entries.pending m.ready.entries.frozen (sync_reqs3to2 (syncs_of m)) (syncs_of m)
            (length_memory (ready_lent l) m.ready.entries (work_form g l m k form).pending))

  -- a log commit
  pub log_clauses : MachineForm l m → (id : ℕ) → ask_advance_log_step g m ≡ 0
      → CommitReq⁺ (M.WriteBackSuperblockReqAdvanceLog g) (machine_of g l m) (machine_of g l (advance_log_machine m id)) (operation_of (advance_log_op m id) [])
  unfolding ask_advance_log_step advance_log_machine
  log_clauses form id e =
      let k = work_asked m (and_then_left (ask_ready m) (ask_advance_log g m.ready) e) in
      let next = advance_log_next m.ready id (advanced_log m.ready) in
      record {
        asked = machine_of g l (with_ready m next);
        source =
            work_step g l l m (with_ready m next) (λ s s'. WriteBackSuperblockReq-AdvanceLogClauses g s s' (operation_of (advance_log_op m id) [])) k k
            (R.log_sound g (ready_lent l) (syncs_of m) m.ready (work_form g l m k form) id (and_then_right (ask_ready m) (ask_advance_log g m.ready) e));
        next = commit_synced k form next;
      }

  pub clauses_log : MachineForm l m → (s' : Variables) (dop : D.DiskOp) → CommitReq⁺ (M.WriteBackSuperblockReqAdvanceLog g) (machine_of g l m) s' dop
      → (id : ℕ) × (ask_advance_log_step g m ≡ 0) × (machine_of g l (advance_log_machine m id) ≡ s') × (dop ≡ operation_of (advance_log_op m id) [])
  unfolding ask_advance_log_step advance_log_machine
  clauses_log form s' dop h =
      let k = work_out g l m (λ s. WriteBackSuperblockReq-AdvanceLogClauses g s h.asked dop) h.source in
      let c = R.log_complete g (ready_lent l) (syncs_of m) m.ready (work_form g l m k.0 form) h.asked dop k.1 in
      let next = advance_log_next m.ready k.1.id (advanced_log m.ready) in (
        k.1.id,
        and_then_both (ask_ready m) (ask_advance_log g m.ready) (asks_work m k.0) c.0,
        commit_synced k.0 form next ∙ ap (with_sync_reqs (idle_sync (machine_of g l m))) (work_seen g l (with_ready m next) k.0 ∙ c.1) ∙ sym h.next,
        c.2,
      )

  -- a location commit
  pub location_clauses : MachineForm l m → (id : ℕ) → ask_advance_location_step g m ≡ 0
      → CommitReq⁺ (M.WriteBackSuperblockReqAdvanceLocation g) (machine_of g l m) (machine_of g l (advance_location_machine g m id)) (operation_of (advance_location_op g m id) [])
  unfolding ask_advance_location_step advance_location_machine
  location_clauses form id e =
      let k = work_asked m (and_then_left (ask_ready m) (ask_advance_location g m.ready) e) in
      let q = and_then_right (ask_ready m) (ask_advance_location g m.ready) e in
      let next = advance_location_next m.ready id (advanced_location g m.ready (new_location m)) in
      record {
        asked = machine_of g l (with_ready m next);
        source =
            work_step g l l m (with_ready m next) (λ s s'. WriteBackSuperblockReq-AdvanceLocationClauses g s s' (operation_of (advance_location_op g m id) [])) k k
            (R.location_sound g (ready_lent l) (syncs_of m) m.ready (work_form g l m k form) id (new_location m)
            (new_location_is m.ready.frozen.frozenLoc m.ready.superblock.indirectionTableLoc (location_asked g m.ready q).received)
            q);
        next = commit_synced k form next;
      }

  pub clauses_location : MachineForm l m → (s' : Variables) (dop : D.DiskOp) → CommitReq⁺ (M.WriteBackSuperblockReqAdvanceLocation g) (machine_of g l m) s' dop
      → (id : ℕ) × (ask_advance_location_step g m ≡ 0) × (machine_of g l (advance_location_machine g m id) ≡ s') × (dop ≡ operation_of (advance_location_op g m id) [])
  unfolding ask_advance_location_step advance_location_machine
  clauses_location form s' dop h =
      let k = work_out g l m (λ s. WriteBackSuperblockReq-AdvanceLocationClauses g s h.asked dop) h.source in
      let c = R.location_complete g (ready_lent l) (syncs_of m) m.ready (work_form g l m k.0 form) h.asked dop k.1 in
      let next = advance_location_next m.ready k.1.id (advanced_location g m.ready (new_location m)) in
      let same : new_location m ≡ k.1.loc = ap (λ (q : code.Option Location). received_or q m.ready.superblock.indirectionTableLoc) c.0 in (
        k.1.id,
        and_then_both (ask_ready m) (ask_advance_location g m.ready) (asks_work m k.0) c.1,
        commit_synced k.0 form next
            ∙ ap (with_sync_reqs (idle_sync (machine_of g l m)))
            (work_seen g l (with_ready m next) k.0
            ∙ ap (λ (loc : Location). Variables.Ready (ready_of (ready_lent l) (syncs_of m) (advance_location_next m.ready k.1.id (advanced_location g m.ready loc)))) same
            ∙ c.2)
            ∙ sym h.next,
        c.3 ∙ ap (λ (loc : Location). R.commit_op m.ready k.1.id (advanced_location g m.ready loc)) (sym same),
      )

-- the whole steps
module _ (g : Geometry) (l : Lent) (m : Machine) (z : SizedMachine m) where
  pub log_sound : (id : ℕ) (o : DiskOp) → (advance_log g l m id).answer ≡ Ok o
      → MachineAllowed g format limits (machine_of g l m) (machine_of g l (advance_log g l m id).machine) (operation_of o []) (Source WriteBackSuperblockReq-AdvanceLog-Step)
  log_sound id o e =
      sound_same g l m z (ask_advance_log_step g m) (advance_log_op m id) (advance_log_machine m id) [] (Source WriteBackSuperblockReq-AdvanceLog-Step) o e
      (λ q r met. log_clauses g l m met.form id r)

  pub log_complete : MachineLent g l → MachineForm l m → (s' : Variables) (dop : D.DiskOp)
      → MachineAllowed g format limits (machine_of g l m) s' dop (Source WriteBackSuperblockReq-AdvanceLog-Step)
      → MachineWithin g limits (machine_of g l m) s' dop (Source WriteBackSuperblockReq-AdvanceLog-Step)
      → (id : ℕ)
      × ((advance_log g l m id).answer ≡ Ok (advance_log_op m id))
      × (dop ≡ operation_of (advance_log_op m id) [])
      × (machine_of g l (advance_log g l m id).machine ≡ s')
  log_complete t form s' dop a within =
      let c = clauses_log g l m form s' dop a.step in
      let k = complete_same g l m z (ask_advance_log_step g m) (advance_log_op m c.0) (advance_log_machine m c.0) s' t form a.meets c.1 c.2 in
      (c.0, k.0, c.3, k.1)

  pub location_sound : (id : ℕ) (o : DiskOp) → (advance_location g l m id).answer ≡ Ok o
      → MachineAllowed g format limits (machine_of g l m) (machine_of g l (advance_location g l m id).machine) (operation_of o []) (Source WriteBackSuperblockReq-AdvanceLocation-Step)
  location_sound id o e =
      sound_same g l m z (ask_advance_location_step g m) (advance_location_op g m id) (advance_location_machine g m id) [] (Source WriteBackSuperblockReq-AdvanceLocation-Step) o e
      (λ q r met. location_clauses g l m met.form id r)

  pub location_complete : MachineLent g l → MachineForm l m → (s' : Variables) (dop : D.DiskOp)
      → MachineAllowed g format limits (machine_of g l m) s' dop (Source WriteBackSuperblockReq-AdvanceLocation-Step)
      → MachineWithin g limits (machine_of g l m) s' dop (Source WriteBackSuperblockReq-AdvanceLocation-Step)
      → (id : ℕ)
      × ((advance_location g l m id).answer ≡ Ok (advance_location_op g m id))
      × (dop ≡ operation_of (advance_location_op g m id) [])
      × (machine_of g l (advance_location g l m id).machine ≡ s')
  location_complete t form s' dop a within =
      let c = clauses_location g l m form s' dop a.step in
      let k = complete_same g l m z (ask_advance_location_step g m) (advance_location_op g m c.0) (advance_location_machine g m c.0) s' t form a.meets c.1 c.2 in
      (c.0, k.0, c.3, k.1)
