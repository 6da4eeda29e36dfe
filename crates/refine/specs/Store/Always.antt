-- Calls that a store takes in every kind: sync requests, NoOp, and the landing of a superblock write, of which the machine sees nothing.
use Rattle.std.specs.Prelude.{ℕ, ◌≡◌, refl, Ok}
use Rattle.std.proofs.Common.{sym, subst}
use Rattle.layout.specs.declared.Geometry.{Geometry}
use Rattle.superblock.specs.declared.DiskOp.{DiskOp}
use Rattle.superblock.specs.declared.DiskOp.TheVariants as op
use Rattle.codec.specs.Format.{format}
use Rattle.source.specs.JournalDisk as D
use Rattle.source.specs.JournalCache as M
use Rattle.source.specs.JournalCache.{PushSyncReqStep, PopSyncReqStep, NoOpStep}
use Rattle.source.specs.Limits.{limits}
use Rattle.source.specs.Departures.{Source, DiskInternalStep}
use Rattle.history.specs.Ledger as ledger
use Rattle.history.specs.Ledger.{Call}
use Rattle.history.specs.Statement.{Tied, Takes}
use Rattle.loading.specs.Which.{is_second}
use Rattle.machine.specs.Sync.{ask_push_sync_req, push_sync_req_machine, ask_pop_sync_req, pop_sync_req_machine}
use Rattle.requests.specs.Landing.{ask_land}
use Rattle.disk.specs.Next.{land_next}
use Rattle.requests.specs.Laws.Landing.{land_asked}
use Rattle.store.specs.declared.Store.{Store}
use Rattle.store.specs.Store.{StoreStepped}
use Rattle.store.specs.Store.{store}
use Rattle.store.specs.Lent.{Lent, machine_lent, ask_store}
use Rattle.store.specs.Steps.{push_sync, pop_sync, no_op, land}
use Rattle.store.specs.Laws.Answers.{asked_next, next_asked}
use Rattle.calls.specs.declared.calls.Step.TheVariants as step
use Rattle.calls.specs.Given.{Given}
use Rattle.refine.specs.Disk.View.{disk_of}
use Rattle.refine.specs.Disk.SuperblockWrites.{land_clauses}
use Rattle.refine.specs.Machine.MachineSync.{push_clauses, pop_clauses}
use Rattle.refine.specs.Store.Seen.{seen, SizedStore, store_met, met_system, call_of}
use Rattle.refine.specs.Store.Operations.{slot_same}
use Rattle.refine.specs.Store.Plain.{both_takes, named_is}

module _ (g : Geometry) (l : Lent) (v : Given) (s : Store) (z : SizedStore s) (e : ask_store g l s ≡ 0) where
  -- PushSyncReq, PopSyncReq
  pub push_takes : (id : ℕ) (o : DiskOp) → (push_sync g s id).answer ≡ Ok o
      → Takes g format limits (seen g l s) (seen g l (push_sync g s id).store) (call_of v (step.PushSyncReq id))
  push_takes id o h =
      both_takes g l s z e (ask_push_sync_req s.machine.sync id) op.NoDiskOp (push_sync_req_machine s.machine id) (ledger.push_sync id) o h tt
      (λ m q d.
      record {
        step = Source (PushSyncReqStep id);
        moves = push_clauses g (machine_lent l) s.machine z.machine.syncs m.machine.form.sync id q;
        tied = Tied.tied_push;
      })

  pub pop_takes : (id : ℕ) (o : DiskOp) → (pop_sync g s id).answer ≡ Ok o
      → Takes g format limits (seen g l s) (seen g l (pop_sync g s id).store) (call_of v (step.PopSyncReq id))
  pop_takes id o h =
      both_takes g l s z e (ask_pop_sync_req s.machine.sync id) op.NoDiskOp (pop_sync_req_machine s.machine id) (ledger.pop_sync id) o h tt
      (λ m q d.
      record {
        step = Source (PopSyncReqStep id);
        moves = pop_clauses g (machine_lent l) s.machine z.machine.syncs m.machine.form.sync id q;
        tied = Tied.tied_pop;
      })

  -- NoOp
  pub no_op_takes : (o : DiskOp) → (no_op g s).answer ≡ Ok o → Takes g format limits (seen g l s) (seen g l (no_op g s).store) (call_of v step.NoOp)
  no_op_takes o h =
      both_takes g l s z e 0 op.NoDiskOp s.machine ledger.no_op o h tt
      (λ m q d.
      record {
        step = Source NoOpStep;
        moves = record { source = record { op = M.NoOpOp.no_op_is refl; next = refl }; unawaited = λ w. w };
        tied = Tied.tied_no_op;
      })

  -- a landing
  pub land_takes : (which : ℕ) (o : DiskOp) → (land s which).answer ≡ Ok o
      → Takes g format limits (seen g l s) (seen g l (land s which).store) (call_of v (step.Land which))
  land_takes which o h =
      let after : Store = store s.machine (land_next s.disk which) in
      let k = next_asked (ask_land s.disk.superblockWrites which) op.NoDiskOp after s o h in
      let w = (land_asked s.disk.superblockWrites which k.0).which_in in
      subst (λ (r : StoreStepped). Takes g format limits (seen g l s) (seen g l r.store) (call_of v (step.Land which)))
      (sym (asked_next (ask_land s.disk.superblockWrites which) op.NoDiskOp after s k.0))
      (record {
        event = DiskInternalStep (D.ProcessWriteSuperblockStep (is_second which));
        tied = subst (λ (x : Call). Tied x (DiskInternalStep (D.ProcessWriteSuperblockStep (is_second which)))) (sym (named_is which ledger.land w)) Tied.tied_land;
        allowed =
            record {
              meets = met_system g l s z (store_met g l s z e);
              step =
                  record {
                    machine = refl;
                    disk =
                        subst (D.ProcessWriteSuperblock (disk_of g l.blocks l.marks s.disk) (disk_of g l.blocks l.marks (land_next s.disk which)))
                        (slot_same which w)
                        (land_clauses g s.disk which l.blocks l.marks k.0);
                  };
            };
      })
