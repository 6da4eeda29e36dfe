-- Completeness of a store at work: freeze, a location, both commits, replay, and the answer of a journal write.
use Rattle.std.specs.Prelude.{ℕ, ◌≤◌, Bool, true, false, cond, ◌≡◌, List, [], eqb, length}
use Rattle.std.proofs.Math.Path.{refl}
use Rattle.std.proofs.Common.{sym, subst, arith}
use Rattle.layout.specs.declared.Geometry.{Geometry}
use Rattle.layout.specs.declared.Location.{Location}
use Rattle.superblock.specs.declared.DiskOp.TheVariants as op
use Rattle.range.specs.Memory.{view}
use Rattle.memory.specs.Given.{memory, count_of}
use Rattle.codec.specs.Codec.{JournalEntry}
use Rattle.codec.specs.Format.{format}
use Rattle.ready.specs.declared.Ready.{Ready}
use Rattle.ready.specs.State.{commit_slot}
use Rattle.source.specs.JournalDisk as D
use Rattle.source.specs.JournalCache as M
use Rattle.source.specs.JournalCache.{WriteBackJournalRespStep, WriteBackSuperblockReq-AdvanceLog-Step, WriteBackSuperblockReq-AdvanceLocation-Step, FreezeStep, ReceiveFrozenLocStep, ReplayStep}
use Rattle.source.specs.JournalSystem as Y
use Rattle.source.specs.Limits.{limits}
use Rattle.source.specs.Departures.{Source, MachineStep, Allowed}
use Rattle.source.specs.Within.{Within}
use Rattle.history.specs.Ledger as ledger
use Rattle.history.specs.Statement.{Tied}
use Rattle.machine.specs.Working.{write_back_journal_resp_op, write_back_journal_resp_machine, ask_advance_log_step, advance_log_op, advance_log_machine, ask_advance_location_step, advance_location_op, advance_location_machine, ask_freeze_step, freeze_machine, ask_receive_frozen_loc_step, receive_frozen_loc_machine, ask_replay_step, replay_machine}
use Rattle.store.specs.declared.Store.{Store}
use Rattle.store.specs.Lent.{Lent, machine_lent}
use Rattle.calls.specs.declared.calls.Step.TheVariants as step
use Rattle.calls.specs.Given.{Given}
use Rattle.calls.specs.Step.{step_answer_with, step_lent_with, ask_picture}
use Rattle.refine.specs.Machine.ReadyForm as form
use Rattle.refine.specs.Machine.MachineView.{operation_of}
use Rattle.refine.specs.Machine.MachineEntries.{brought_view, brought_given}
use Rattle.refine.specs.Machine.MachineWritten.{journal_resp_said, clauses_journal_resp}
use Rattle.refine.specs.Machine.MachineCommit.{clauses_log, clauses_location}
use Rattle.refine.specs.Machine.MachineFreeze.{clauses_freeze, clauses_receive}
use Rattle.refine.specs.Machine.MachineReplay.{clauses_replay}
use Rattle.refine.specs.Store.Seen.{seen, SizedStore}
use Rattle.refine.specs.Store.Done.{StoreForm, TakenTo, Done}
use Rattle.refine.specs.Store.Doing.{nothing, bringing, tied_op, tied_bringing, both_taken, both_done}

-- the slot of a commit is there
commit_in : (r : Ready) → commit_slot r ≤ 1
commit_in r = go (eqb r.whichSuperblock 0)
  where
    go : (b : Bool) → cond b 1 0 ≤ 1
    go true = omega arith
    go false = omega arith

module _ (g : Geometry) (l : Lent) (s : Store) (z : SizedStore s) (f : StoreForm g l s) (t : Y.Variables) (dop : D.DiskOp) where
  -- Freeze, ReceiveFrozenLoc
  pub freeze_done : Allowed g format limits (seen g l s) t (MachineStep dop (Source FreezeStep)) → Within g limits t (MachineStep dop (Source FreezeStep))
      → Done g l s t (MachineStep dop (Source FreezeStep))
  unfolding step_answer_with step_lent_with ask_picture
  freeze_done a w =
      let c = clauses_freeze g (machine_lent l) s.machine f.machine t.machine dop a.step.machine in
      both_done g l s z f t dop (Source FreezeStep) a w step.Freeze nothing (ask_freeze_step s.machine) op.NoDiskOp (freeze_machine s.machine)
      (record { answers = refl; keeps = refl; brings = refl }) tt tt (tied_op dop (Source FreezeStep) D.NoDiskOp c.2 Tied.tied_freeze)
      c.0 c.1 c.2

  pub receive_done : (loc : Location) → Allowed g format limits (seen g l s) t (MachineStep dop (Source (ReceiveFrozenLocStep loc)))
      → Within g limits t (MachineStep dop (Source (ReceiveFrozenLocStep loc)))
      → Done g l s t (MachineStep dop (Source (ReceiveFrozenLocStep loc)))
  unfolding step_answer_with step_lent_with ask_picture
  receive_done loc a w =
      let c = clauses_receive g (machine_lent l) s.machine loc t.machine dop a.step.machine in
      both_done g l s z f t dop (Source (ReceiveFrozenLocStep loc)) a w (step.ReceiveFrozenLoc loc) nothing (ask_receive_frozen_loc_step g s.machine loc) op.NoDiskOp
      (receive_frozen_loc_machine s.machine loc)
      (record { answers = refl; keeps = refl; brings = refl }) tt tt (tied_op dop (Source (ReceiveFrozenLocStep loc)) D.NoDiskOp c.2 Tied.tied_receive)
      c.0 c.1 c.2

  -- WriteBackSuperblockReq_AdvanceLog, WriteBackSuperblockReq_AdvanceLocation
  pub commit_log_done : Allowed g format limits (seen g l s) t (MachineStep dop (Source WriteBackSuperblockReq-AdvanceLog-Step))
      → Within g limits t (MachineStep dop (Source WriteBackSuperblockReq-AdvanceLog-Step))
      → Done g l s t (MachineStep dop (Source WriteBackSuperblockReq-AdvanceLog-Step))
  unfolding step_answer_with step_lent_with ask_picture
  commit_log_done a w =
      let c = clauses_log g (machine_lent l) s.machine f.machine t.machine dop a.step.machine in
      both_done g l s z f t dop (Source WriteBackSuperblockReq-AdvanceLog-Step) a w (step.AdvanceLog c.0) nothing (ask_advance_log_step g s.machine)
      (advance_log_op s.machine c.0) (advance_log_machine s.machine c.0)
      (record { answers = refl; keeps = refl; brings = refl }) tt (commit_in s.machine.ready)
      (tied_op dop (Source WriteBackSuperblockReq-AdvanceLog-Step) (operation_of (advance_log_op s.machine c.0) []) c.3 Tied.tied_log)
      c.1 c.2 c.3

  pub commit_location_done : Allowed g format limits (seen g l s) t (MachineStep dop (Source WriteBackSuperblockReq-AdvanceLocation-Step))
      → Within g limits t (MachineStep dop (Source WriteBackSuperblockReq-AdvanceLocation-Step))
      → Done g l s t (MachineStep dop (Source WriteBackSuperblockReq-AdvanceLocation-Step))
  unfolding step_answer_with step_lent_with ask_picture
  commit_location_done a w =
      let c = clauses_location g (machine_lent l) s.machine f.machine t.machine dop a.step.machine in
      both_done g l s z f t dop (Source WriteBackSuperblockReq-AdvanceLocation-Step) a w (step.AdvanceLocation c.0) nothing (ask_advance_location_step g s.machine)
      (advance_location_op g s.machine c.0) (advance_location_machine g s.machine c.0)
      (record { answers = refl; keeps = refl; brings = refl }) tt (commit_in s.machine.ready)
      (tied_op dop (Source WriteBackSuperblockReq-AdvanceLocation-Step) (operation_of (advance_location_op g s.machine c.0) []) c.3 Tied.tied_location)
      c.1 c.2 c.3

  -- WriteBackJournalResp
  pub journal_written_done : Allowed g format limits (seen g l s) t (MachineStep dop (Source WriteBackJournalRespStep))
      → Within g limits t (MachineStep dop (Source WriteBackJournalRespStep))
      → Done g l s t (MachineStep dop (Source WriteBackJournalRespStep))
  unfolding step_answer_with step_lent_with ask_picture
  journal_written_done a w =
      let n = journal_resp_said (seen g l s).machine t.machine dop a.step.machine in
      both_done g l s z f t dop (Source WriteBackJournalRespStep) a w (step.WriteBackJournalResp n.0) nothing 0 (write_back_journal_resp_op n.0)
      (write_back_journal_resp_machine s.machine n.0)
      (record { answers = refl; keeps = refl; brings = refl }) tt tt
      (tied_op dop (Source WriteBackJournalRespStep) (operation_of (write_back_journal_resp_op n.0) []) n.1 Tied.tied_written)
      refl
      (clauses_journal_resp g (machine_lent l) s.machine f.machine n.0 t.machine (subst (M.WriteBackJournalResp (seen g l s).machine t.machine) n.1 a.step.machine))
      n.1

  -- Replay: the call brings the entries
  pub replay_taken : (v : Given) (k : ℕ) → form.Given v.brought v.sizes k → Allowed g format limits (seen g l s) t (MachineStep dop (Source (ReplayStep (view v.brought v.sizes k))))
      → Within g limits t (MachineStep dop (Source (ReplayStep (view v.brought v.sizes k))))
      → TakenTo g l v s (step.Replay k) t × (dop ≡ D.NoDiskOp)
  unfolding step_answer_with step_lent_with ask_picture
  replay_taken v k h a w =
      let c = clauses_replay g (machine_lent l) s.machine v.brought v.sizes k f.machine a.meets.machine h w.arguments t.machine dop a.step.machine in (
        both_taken g l s z f t dop (Source (ReplayStep (view v.brought v.sizes k))) a w (step.Replay k) v
            (ask_replay_step s.machine l.rbytes l.rlens v.brought v.sizes k) op.NoDiskOp (replay_machine s.machine (count_of (memory v.brought v.sizes k)))
            (record { answers = refl; keeps = refl; brings = refl }) tt tt
            c.0 c.1 c.2,
        c.2,
      )

  pub replay_done : (es : List JournalEntry) → Allowed g format limits (seen g l s) t (MachineStep dop (Source (ReplayStep es)))
      → Within g limits t (MachineStep dop (Source (ReplayStep es)))
      → Done g l s t (MachineStep dop (Source (ReplayStep es)))
  replay_done es a w =
      let c =
      replay_taken (bringing es) (length es) (brought_given es)
      (subst (λ (x : List JournalEntry). Allowed g format limits (seen g l s) t (MachineStep dop (Source (ReplayStep x)))) (sym (brought_view es)) a)
      (subst (λ (x : List JournalEntry). Within g limits t (MachineStep dop (Source (ReplayStep x)))) (sym (brought_view es)) w) in
      record {
        call = step.Replay (length es);
        given = bringing es;
        tied = tied_op dop (Source (ReplayStep es)) D.NoDiskOp c.1 (tied_bringing es ledger.replay (MachineStep D.NoDiskOp (Source (ReplayStep es))) Tied.tied_replay);
        to = c.0;
      }
