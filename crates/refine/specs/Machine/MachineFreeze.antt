-- Freeze and ReceiveFrozenLoc of a whole machine.
use Rattle.std.specs.Prelude.{◌≡◌, [], Ok}
use Rattle.std.proofs.Math.Path.{sym, ap}
use Rattle.std.proofs.Common.{◌∙◌, subst}
use Rattle.laws.specs.Choice.{and_then_left, and_then_right, and_then_both}
use Rattle.laws.specs.Sets.{Map}
use Rattle.layout.specs.declared.Geometry.{Geometry}
use Rattle.layout.specs.declared.Location.{Location}
use Rattle.superblock.specs.declared.DiskOp.{DiskOp}
use Rattle.superblock.specs.declared.DiskOp.TheVariants as op
use Rattle.codec.specs.Format.{format}
use Rattle.ready.specs.FreezeSteps.{ask_freeze, freeze_next, ask_receive_frozen_loc}
use Rattle.source.specs.JournalDisk as D
use Rattle.source.specs.JournalCache as M
use Rattle.source.specs.JournalCache.{Variables, SyncReqStatus, FreezeStep, ReceiveFrozenLocStep, FreezeClauses, ReceiveFrozenLocClauses}
use Rattle.source.specs.Limits.{limits}
use Rattle.source.specs.Departures.{Source}
use Rattle.source.specs.Within.{MachineAllowed, MachineWithin}
use Rattle.machine.specs.declared.Kind.TheVariants as kind
use Rattle.machine.specs.declared.Machine.{Machine}
use Rattle.machine.specs.Machine.{ask_ready}
use Rattle.machine.specs.Lent.{Lent}
use Rattle.machine.specs.Working.{ask_freeze_step, freeze_machine, ask_receive_frozen_loc_step, receive_frozen_loc_machine}
use Rattle.machine.specs.Whole.{freeze, receive_frozen_loc}
use Rattle.refine.specs.Machine.ReadyView.{ready_of}
use Rattle.refine.specs.Machine.ReadyFreeze as R
use Rattle.refine.specs.Machine.MachineView.{ready_lent, syncs_of, machine_of, operation_of, SizedMachine, MachineLent, MachineForm}
use Rattle.refine.specs.Machine.MachineCalls.{sound_same, complete_same}
use Rattle.refine.specs.Machine.MachineWork.{work_of, work_asked, asks_work, work_seen, work_form, work_out, work_step, syncs_3to2}

module _ (g : Geometry) (l : Lent) (m : Machine) where
  -- the view of the next machine, with the requests moved on in the view
  freeze_view : Variables.Ready (ready_of (ready_lent l) (M.sync_reqs3to2 (syncs_of m)) (freeze_next m.ready)) ≡ Variables.Ready (work_of l (freeze_machine m))
  unfolding freeze_machine
  freeze_view = ap (λ (sync : Map SyncReqStatus). Variables.Ready (ready_of (ready_lent l) sync (freeze_next m.ready))) (sym (syncs_3to2 m.sync))

  freeze_kind : m.kind ≡ kind.Ready → (freeze_machine m).kind ≡ kind.Ready
  unfolding freeze_machine
  freeze_kind e = e

  pub freeze_clauses : MachineForm l m → ask_freeze_step m ≡ 0 → M.Freeze (machine_of g l m) (machine_of g l (freeze_machine m)) D.NoDiskOp
  unfolding ask_freeze_step
  freeze_clauses form e =
      let k = work_asked m (and_then_left (ask_ready m) (ask_freeze m.ready) e) in
      let f = work_form g l m k form in
      work_step g l l m (freeze_machine m) (λ s s'. FreezeClauses s s' D.NoDiskOp) k (freeze_kind k)
      (subst (λ (s' : Variables). FreezeClauses (work_of l m) s' D.NoDiskOp) freeze_view
      (R.freeze_sound (ready_lent l) (syncs_of m) m.ready f.pending f.replay (and_then_right (ask_ready m) (ask_freeze m.ready) e)))

  pub clauses_freeze : MachineForm l m → (s' : Variables) (dop : D.DiskOp) → M.Freeze (machine_of g l m) s' dop
      → (ask_freeze_step m ≡ 0) × (machine_of g l (freeze_machine m) ≡ s') × (dop ≡ D.NoDiskOp)
  unfolding ask_freeze_step
  clauses_freeze form s' dop h =
      let k = work_out g l m (λ s. FreezeClauses s s' dop) h in
      let f = work_form g l m k.0 form in
      let c = R.freeze_complete (ready_lent l) (syncs_of m) m.ready f.pending f.replay s' dop k.1 in (
        and_then_both (ask_ready m) (ask_freeze m.ready) (asks_work m k.0) c.0,
        work_seen g l (freeze_machine m) (freeze_kind k.0) ∙ sym freeze_view ∙ c.1,
        c.2,
      )

  module _ (loc : Location) where
    receive_kind : m.kind ≡ kind.Ready → (receive_frozen_loc_machine m loc).kind ≡ kind.Ready
    unfolding receive_frozen_loc_machine
    receive_kind e = e

    pub receive_clauses : ask_receive_frozen_loc_step g m loc ≡ 0 → M.ReceiveFrozenLoc g (machine_of g l m) (machine_of g l (receive_frozen_loc_machine m loc)) D.NoDiskOp loc
    unfolding ask_receive_frozen_loc_step receive_frozen_loc_machine
    receive_clauses e =
        let k = work_asked m (and_then_left (ask_ready m) (ask_receive_frozen_loc g m.ready loc) e) in
        work_step g l l m (receive_frozen_loc_machine m loc) (λ s s'. ReceiveFrozenLocClauses g s s' D.NoDiskOp loc) k k
        (R.receive_sound (ready_lent l) (syncs_of m) m.ready g loc (and_then_right (ask_ready m) (ask_receive_frozen_loc g m.ready loc) e))

    pub clauses_receive : (s' : Variables) (dop : D.DiskOp) → M.ReceiveFrozenLoc g (machine_of g l m) s' dop loc
        → (ask_receive_frozen_loc_step g m loc ≡ 0) × (machine_of g l (receive_frozen_loc_machine m loc) ≡ s') × (dop ≡ D.NoDiskOp)
    unfolding ask_receive_frozen_loc_step receive_frozen_loc_machine
    clauses_receive s' dop h =
        let k = work_out g l m (λ s. ReceiveFrozenLocClauses g s s' dop loc) h in
        let c = R.receive_complete (ready_lent l) (syncs_of m) m.ready g loc s' dop k.1 in (
          and_then_both (ask_ready m) (ask_receive_frozen_loc g m.ready loc) (asks_work m k.0) c.0,
          work_seen g l (receive_frozen_loc_machine m loc) k.0 ∙ c.1,
          c.2,
        )

-- the whole steps
module _ (g : Geometry) (l : Lent) (m : Machine) (z : SizedMachine m) where
  pub freeze_sound : (o : DiskOp) → (freeze g l m).answer ≡ Ok o
      → MachineAllowed g format limits (machine_of g l m) (machine_of g l (freeze g l m).machine) (operation_of o []) (Source FreezeStep)
  freeze_sound o e =
      sound_same g l m z (ask_freeze_step m) op.NoDiskOp (freeze_machine m) [] (Source FreezeStep) o e
      (λ q r met. freeze_clauses g l m met.form r)

  pub freeze_complete : MachineLent g l → MachineForm l m → (s' : Variables) (dop : D.DiskOp)
      → MachineAllowed g format limits (machine_of g l m) s' dop (Source FreezeStep) → MachineWithin g limits (machine_of g l m) s' dop (Source FreezeStep)
      → ((freeze g l m).answer ≡ Ok op.NoDiskOp) × (dop ≡ operation_of op.NoDiskOp []) × (machine_of g l (freeze g l m).machine ≡ s')
  freeze_complete t form s' dop a within =
      let c = clauses_freeze g l m form s' dop a.step in
      let k = complete_same g l m z (ask_freeze_step m) op.NoDiskOp (freeze_machine m) s' t form a.meets c.0 c.1 in
      (k.0, c.2, k.1)

  pub receive_sound : (loc : Location) (o : DiskOp) → (receive_frozen_loc g l m loc).answer ≡ Ok o
      → MachineAllowed g format limits (machine_of g l m) (machine_of g l (receive_frozen_loc g l m loc).machine) (operation_of o []) (Source (ReceiveFrozenLocStep loc))
  receive_sound loc o e =
      sound_same g l m z (ask_receive_frozen_loc_step g m loc) op.NoDiskOp (receive_frozen_loc_machine m loc) [] (Source (ReceiveFrozenLocStep loc)) o e
      (λ q r met. receive_clauses g l m loc r)

  pub receive_complete : MachineLent g l → MachineForm l m → (loc : Location) (s' : Variables) (dop : D.DiskOp)
      → MachineAllowed g format limits (machine_of g l m) s' dop (Source (ReceiveFrozenLocStep loc))
      → MachineWithin g limits (machine_of g l m) s' dop (Source (ReceiveFrozenLocStep loc))
      → ((receive_frozen_loc g l m loc).answer ≡ Ok op.NoDiskOp) × (dop ≡ operation_of op.NoDiskOp []) × (machine_of g l (receive_frozen_loc g l m loc).machine ≡ s')
  receive_complete t form loc s' dop a within =
      let c = clauses_receive g l m loc s' dop a.step in
      let k = complete_same g l m z (ask_receive_frozen_loc_step g m loc) op.NoDiskOp (receive_frozen_loc_machine m loc) s' t form a.meets c.0 c.1 in
      (k.0, c.2, k.1)
