-- Completeness of the steps that a store takes in every kind: sync requests, NoOp without an operation, and the landing of a superblock write.
use Prim.Native.Nat.{ℕ}
use Rattle.std.specs.Prelude.{Bool}
use Rattle.std.proofs.Math.Path.{refl}
use Rattle.std.proofs.Common.{sym, subst}
use Rattle.layout.specs.declared.Geometry.{Geometry}
use Rattle.superblock.specs.declared.DiskOp.TheVariants as op
use Rattle.codec.specs.Format.{format}
use Rattle.source.specs.JournalDisk as D
use Rattle.source.specs.JournalCache.{PushSyncReqStep, PopSyncReqStep, NoOpStep}
use Rattle.source.specs.JournalSystem as Y
use Rattle.source.specs.Limits.{limits}
use Rattle.source.specs.Departures.{Source, MachineStep, DiskInternalStep, Allowed}
use Rattle.source.specs.Within.{Within}
use Rattle.history.specs.Ledger as ledger
use Rattle.history.specs.Statement.{Tied}
use Rattle.machine.specs.Sync.{ask_push_sync_req, push_sync_req_machine, ask_pop_sync_req, pop_sync_req_machine}
use Rattle.requests.specs.Landing.{ask_land}
use Rattle.disk.specs.Next.{land_next}
use Rattle.requests.specs.Laws.Pairs.{which_of, which_in, bit_which}
use Rattle.store.specs.declared.Store.{Store}
use Rattle.store.specs.Store.{store}
use Rattle.store.specs.Lent.{Lent, machine_lent}
use Rattle.store.specs.Laws.Answers.{asked_next}
use Rattle.calls.specs.declared.calls.Step.TheVariants as step
use Rattle.calls.specs.Step.{step_answer_with, step_lent_with, ask_picture}
use Rattle.refine.specs.Disk.SuperblockWrites.{clauses_land}
use Rattle.refine.specs.Machine.MachineSync.{clauses_push, clauses_pop}
use Rattle.refine.specs.Store.Seen.{seen, SizedStore}
use Rattle.refine.specs.Store.Done.{StoreForm, Done}
use Rattle.refine.specs.Store.DoneBy.{done_by}
use Rattle.refine.specs.Store.Doing.{nothing, tied_named, tied_op, both_done}

module _ (g : Geometry) (l : Lent) (s : Store) (z : SizedStore s) (f : StoreForm g l s) (t : Y.Variables) where
  -- PushSyncReq, PopSyncReq
  pub push_done : (dop : D.DiskOp) (id : ℕ) → Allowed g format limits (seen g l s) t (MachineStep dop (Source (PushSyncReqStep id)))
      → Within g limits t (MachineStep dop (Source (PushSyncReqStep id)))
      → Done g l s t (MachineStep dop (Source (PushSyncReqStep id)))
  unfolding step_answer_with step_lent_with ask_picture
  push_done dop id a w =
      let c = clauses_push g (machine_lent l) s.machine z.machine.syncs f.machine.sync id t.machine dop a.step.machine w.machine in
      both_done g l s z f t dop (Source (PushSyncReqStep id)) a w (step.PushSyncReq id) nothing (ask_push_sync_req s.machine.sync id) op.NoDiskOp (push_sync_req_machine s.machine id)
      (record { answers = refl; keeps = refl; brings = refl }) tt tt
      (tied_op dop (Source (PushSyncReqStep id)) D.NoDiskOp c.2 Tied.tied_push)
      c.0 c.1 c.2

  pub pop_done : (dop : D.DiskOp) (id : ℕ) → Allowed g format limits (seen g l s) t (MachineStep dop (Source (PopSyncReqStep id)))
      → Within g limits t (MachineStep dop (Source (PopSyncReqStep id)))
      → Done g l s t (MachineStep dop (Source (PopSyncReqStep id)))
  unfolding step_answer_with step_lent_with ask_picture
  pop_done dop id a w =
      let c = clauses_pop g (machine_lent l) s.machine z.machine.syncs f.machine.sync id t.machine dop a.step.machine in
      both_done g l s z f t dop (Source (PopSyncReqStep id)) a w (step.PopSyncReq id) nothing (ask_pop_sync_req s.machine.sync id) op.NoDiskOp (pop_sync_req_machine s.machine id)
      (record { answers = refl; keeps = refl; brings = refl }) tt tt
      (tied_op dop (Source (PopSyncReqStep id)) D.NoDiskOp c.2 Tied.tied_pop)
      c.0 c.1 c.2

  -- NoOp without an operation
  pub quiet_done : Allowed g format limits (seen g l s) t (MachineStep D.NoDiskOp (Source NoOpStep)) → Within g limits t (MachineStep D.NoDiskOp (Source NoOpStep))
      → Done g l s t (MachineStep D.NoDiskOp (Source NoOpStep))
  unfolding step_answer_with step_lent_with ask_picture
  quiet_done a w =
      both_done g l s z f t D.NoDiskOp (Source NoOpStep) a w step.NoOp nothing 0 op.NoDiskOp s.machine
      (record { answers = refl; keeps = refl; brings = refl }) tt tt Tied.tied_no_op
      refl (sym a.step.machine.source.next) refl

  -- a landing
  pub land_done : (which : Bool) → Allowed g format limits (seen g l s) t (DiskInternalStep (D.ProcessWriteSuperblockStep which))
      → Within g limits t (DiskInternalStep (D.ProcessWriteSuperblockStep which))
      → Done g l s t (DiskInternalStep (D.ProcessWriteSuperblockStep which))
  unfolding step_answer_with step_lent_with ask_picture
  land_done which a w =
      let n : ℕ = which_of which in
      let d : D.ProcessWriteSuperblock (seen g l s).disk t.disk which = a.step.disk in
      let e = clauses_land g s.disk n l.blocks l.marks (which_in which) t.disk
      (subst (D.ProcessWriteSuperblock (seen g l s).disk t.disk) (sym (bit_which which)) d) in
      let after : Store = store s.machine (land_next s.disk n) in
      done_by g l s z f a.meets t (DiskInternalStep (D.ProcessWriteSuperblockStep which)) (step.Land n) nothing op.NoDiskOp after l
      (tied_named which ledger.land (DiskInternalStep (D.ProcessWriteSuperblockStep which)) Tied.tied_land)
      refl
      (asked_next (ask_land s.disk.superblockWrites n) op.NoDiskOp after s e.0)
      refl
      (λ i. record { machine = a.step.machine i; disk = e.1 i })
