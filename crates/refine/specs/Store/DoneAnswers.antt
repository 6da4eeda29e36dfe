-- Completeness of a superblock write's answer, and of NoOp with any operation: in a joined store no answer comes that nobody awaits.
use Prim.Native.Nat.{ℕ, ◌≤◌}
use Rattle.std.proofs.Math.Bool.{Bool}
use Rattle.std.specs.Prelude.{◌≡◌}
use Rattle.std.proofs.Math.Path.{refl, ap, subst}
use Rattle.std.proofs.Common.{sym, ◌∙◌}
use mathlib.Core.List.{[]}
use Rattle.layout.specs.declared.Geometry.{Geometry}
use Rattle.codec.specs.Format.{format}
use Rattle.loading.specs.Laws.Which.{asked_which}
use Rattle.loading.specs.Which.{is_second}
use Rattle.source.specs.JournalDisk as D
use Rattle.source.specs.JournalCache as M
use Rattle.source.specs.JournalCache.{WriteBackSuperblockRespStep, NoOpStep}
use Rattle.source.specs.JournalSystem as Y
use Rattle.source.specs.Limits.{limits}
use Rattle.source.specs.Departures.{Awaited, Source, MachineStep, Allowed}
use Rattle.source.specs.Within.{Within}
use Rattle.history.specs.Statement.{Tied}
use Rattle.machine.specs.Working.{ask_write_back_superblock_resp_step, write_back_superblock_resp_op, write_back_superblock_resp_machine}
use Rattle.requests.specs.Slots as disk
use Rattle.requests.specs.Laws.Pairs.{which_of, which_in}
use Rattle.store.specs.declared.Store.{Store}
use Rattle.store.specs.Lent.{Lent, machine_lent}
use Rattle.calls.specs.declared.calls.Step.TheVariants as step
use Rattle.calls.specs.Step.{step_answer_with, step_lent_with, ask_picture}
use Rattle.refine.specs.Machine.MachineView.{operation_of}
use Rattle.refine.specs.Machine.MachineCommitted.{superblock_resp_said, clauses_superblock_resp}
use Rattle.refine.specs.Store.Seen.{seen, SizedStore}
use Rattle.refine.specs.Store.Done.{StoreForm, Done}
use Rattle.refine.specs.Store.Doing.{nothing, slot_which, tied_op, both_done}
use Rattle.refine.specs.Store.Waiting.{read_superblock_awaited, read_journal_awaited, write_superblock_awaited, write_journal_awaited, other_idle, slot_found}
use Rattle.refine.specs.Store.DoneAlways.{quiet_done}

module _ (g : Geometry) (l : Lent) (s : Store) (z : SizedStore s) (f : StoreForm g l s) (t : Y.Variables) (dop : D.DiskOp) where
  -- WriteBackSuperblockResp: the call finds the slot by the id
  pub superblock_written_done : Allowed g format limits (seen g l s) t (MachineStep dop (Source WriteBackSuperblockRespStep))
      → Within g limits t (MachineStep dop (Source WriteBackSuperblockRespStep))
      → Done g l s t (MachineStep dop (Source WriteBackSuperblockRespStep))
  unfolding step_answer_with step_lent_with ask_picture
  superblock_written_done a w =
      let k = superblock_resp_said (seen g l s).machine t.machine dop a.step.machine in
      let id : ℕ = k.1 in
      let b : Bool = is_second k.0 in
      let d : D.AckWriteSuperblock (seen g l s).disk t.disk id b = subst (D.Next g (seen g l s).disk t.disk) k.3 a.step.disk in
      let n : ℕ = disk.slot_of s.disk.superblockWrites id in
      let same : n ≡ which_of b =
      slot_found s.disk.superblockWrites b id d.write d.waiting d.id_is
      (λ e. other_idle g (seen g l s) a.meets.joined t.disk id (subst (D.AckWriteSuperblock (seen g l s).disk t.disk id) e d)) in
      let n-in : n ≤ 1 = subst (λ (x : ℕ). x ≤ 1) (sym same) (which_in b) in
      let o : dop ≡ operation_of (write_back_superblock_resp_op n id) [] =
      k.3 ∙ ap (D.RespWriteSuperblockOp id) (sym (slot_which b) ∙ ap is_second (sym same)) in
      both_done g l s z f t dop (Source WriteBackSuperblockRespStep) a w (step.WriteBackSuperblockResp id) nothing (ask_write_back_superblock_resp_step n)
      (write_back_superblock_resp_op n id) (write_back_superblock_resp_machine s.machine id)
      (record { answers = refl; keeps = refl; brings = refl }) tt n-in
      (tied_op dop (Source WriteBackSuperblockRespStep) (operation_of (write_back_superblock_resp_op n id) []) o Tied.tied_committed)
      (asked_which n n-in)
      (clauses_superblock_resp g (machine_lent l) s.machine id n f.machine t.machine (subst (M.WriteBackSuperblockResp (seen g l s).machine t.machine) o a.step.machine))
      o

  -- NoOp
  pub no_op_done : Allowed g format limits (seen g l s) t (MachineStep dop (Source NoOpStep)) → Within g limits t (MachineStep dop (Source NoOpStep))
      → Done g l s t (MachineStep dop (Source NoOpStep))
  no_op_done a w = go a.step.machine.source.op
    where
      -- the disk's half under the name of the operation
      half : (o : D.DiskOp) → dop ≡ o → D.Next g (seen g l s).disk t.disk o
      half o e = subst (D.Next g (seen g l s).disk t.disk) e a.step.disk

      unawaited : (o : D.DiskOp) → dop ≡ o → Awaited (seen g l s).machine o → ⊥
      unawaited o e = subst (λ (x : D.DiskOp). Awaited (seen g l s).machine x → ⊥) e a.step.machine.unawaited

      go : M.NoOpOp (seen g l s).machine dop → Done g l s t (MachineStep dop (Source NoOpStep))
      go (M.NoOpOp.no_op_is e) =
          subst
          (λ (x : D.DiskOp).
          Allowed g format limits (seen g l s) t (MachineStep x (Source NoOpStep)) → Within g limits t (MachineStep x (Source NoOpStep)) → Done g l s t (MachineStep x (Source NoOpStep)))
          (sym e) (quiet_done g l s z f t) a w
      go (M.NoOpOp.superblock_read_op id which o e) =
          absurd (unawaited (D.RespReadSuperblockOp id which o) e (read_superblock_awaited g (seen g l s) a.meets.joined t.disk id which o (half (D.RespReadSuperblockOp id which o) e)))
      go (M.NoOpOp.journal_read_is id o e) =
          absurd (unawaited (D.RespReadJournalOp id o) e (read_journal_awaited g (seen g l s) a.meets.joined t.disk id o (half (D.RespReadJournalOp id o) e)))
      go (M.NoOpOp.superblock_written_is id which e n) =
          absurd (unawaited (D.RespWriteSuperblockOp id which) e (write_superblock_awaited g (seen g l s) a.meets.joined t.disk id which (half (D.RespWriteSuperblockOp id which) e)))
      go (M.NoOpOp.journal_written_is id e n) =
          absurd (unawaited (D.RespWriteJournalOp id) e (write_journal_awaited g (seen g l s) a.meets.joined t.disk id (half (D.RespWriteJournalOp id) e)))
