-- Calls of a store at work that leave lent memory alone: the answer of a journal write, both commits and their answer, freeze, a location, and replay.
use Rattle.std.specs.Prelude.{ℕ, ◌≡◌, List, Ok}
use Rattle.std.proofs.Common.{sym, subst, ⊎_elim}
use Rattle.laws.specs.Choice.{and_then_left, and_then_right}
use Rattle.layout.specs.declared.Geometry.{Geometry}
use Rattle.layout.specs.declared.Location.{Location}
use Rattle.superblock.specs.declared.DiskOp.{DiskOp}
use Rattle.superblock.specs.declared.DiskOp.TheVariants as op
use Rattle.range.specs.Memory.{view}
use Rattle.memory.specs.Given.{memory, count_of, ask_given}
use Rattle.codec.specs.Format.{format}
use Rattle.source.specs.JournalDisk as D
use Rattle.source.specs.JournalCache.{WriteBackJournalRespStep, WriteBackSuperblockReq-AdvanceLog-Step, WriteBackSuperblockReq-AdvanceLocation-Step, WriteBackSuperblockRespStep, FreezeStep, ReceiveFrozenLocStep, ReplayStep, NoOpStep}
use Rattle.source.specs.Limits.{limits}
use Rattle.source.specs.Departures.{Source, MachineStep}
use Rattle.history.specs.Ledger as ledger
use Rattle.history.specs.Ledger.{Call}
use Rattle.history.specs.Statement.{Tied, Takes}
use Rattle.machine.specs.declared.Machine.{Machine}
use Rattle.machine.specs.Working.{write_back_journal_resp_op, write_back_journal_resp_machine, ask_advance_log_step, advance_log_op, advance_log_machine, ask_advance_location_step, advance_location_op, advance_location_machine, ask_write_back_superblock_resp_step, write_back_superblock_resp_op, write_back_superblock_resp_machine, ask_freeze_step, freeze_machine, ask_receive_frozen_loc_step, receive_frozen_loc_machine, ask_replay_given, ask_replay_step, replay_machine}
use Rattle.requests.specs.Slots.{slot_of}
use Rattle.store.specs.declared.Store.{Store}
use Rattle.store.specs.Lent.{Lent, machine_lent, ask_store}
use Rattle.store.specs.Steps.{journal_written, commit_log, commit_location, superblock_written, freeze, receive, replay}
use Rattle.calls.specs.declared.calls.Step.TheVariants as step
use Rattle.calls.specs.Given.{Given}
use Rattle.refine.specs.Machine.ReadyForm as R
use Rattle.refine.specs.Machine.MachineEntries.{asked_entries}
use Rattle.refine.specs.Machine.MachineWritten.{journal_resp_clauses}
use Rattle.refine.specs.Machine.MachineCommit.{log_clauses, location_clauses}
use Rattle.refine.specs.Machine.MachineCommitted.{superblock_resp_clauses}
use Rattle.refine.specs.Machine.MachineFreeze.{freeze_clauses, receive_clauses}
use Rattle.refine.specs.Machine.MachineReplay.{replay_clauses}
use Rattle.refine.specs.Store.Seen.{seen, SizedStore, call_of}
use Rattle.refine.specs.Store.Plain.{both_takes, entries_is}

-- the entries of a replay are there
replay_given_is : (m : Machine) (rbytes rlens brought sizes : List ℕ) (k : ℕ) → ask_replay_step m rbytes rlens brought sizes k ≡ 0 → R.Given brought sizes k
unfolding ask_replay_step ask_replay_given
replay_given_is m rbytes rlens brought sizes k e =
    let q : ask_given (memory brought sizes k) ≡ 0 = and_then_left _ _ (and_then_right _ _ e) in
    asked_entries brought sizes k q

module _ (g : Geometry) (l : Lent) (v : Given) (s : Store) (z : SizedStore s) (e : ask_store g l s ≡ 0) where
  -- WriteBackJournalResp: the machine awaits it, or nobody does
  pub journal_written_takes : (id : ℕ) (o : DiskOp) → (journal_written g s id).answer ≡ Ok o
      → Takes g format limits (seen g l s) (seen g l (journal_written g s id).store) (call_of v (step.WriteBackJournalResp id))
  journal_written_takes id o h =
      both_takes g l s z e 0 (write_back_journal_resp_op id) (write_back_journal_resp_machine s.machine id) (ledger.journal_written id) o h tt
      (λ m q d.
      ⊎_elim
      (λ c. record { step = Source WriteBackJournalRespStep; moves = c; tied = Tied.tied_written })
      (λ c. record { step = Source NoOpStep; moves = c; tied = Tied.unawaited_written })
      (journal_resp_clauses g (machine_lent l) s.machine m.machine.form id))

  -- WriteBackSuperblockReq_AdvanceLog, WriteBackSuperblockReq_AdvanceLocation
  pub commit_log_takes : (id : ℕ) (o : DiskOp) → (commit_log g s id).answer ≡ Ok o
      → Takes g format limits (seen g l s) (seen g l (commit_log g s id).store) (call_of v (step.AdvanceLog id))
  commit_log_takes id o h =
      both_takes g l s z e (ask_advance_log_step g s.machine) (advance_log_op s.machine id) (advance_log_machine s.machine id) (ledger.commit_log id) o h tt
      (λ m q d.
      record {
        step = Source WriteBackSuperblockReq-AdvanceLog-Step;
        moves = log_clauses g (machine_lent l) s.machine m.machine.form id q;
        tied = Tied.tied_log;
      })

  pub commit_location_takes : (id : ℕ) (o : DiskOp) → (commit_location g s id).answer ≡ Ok o
      → Takes g format limits (seen g l s) (seen g l (commit_location g s id).store) (call_of v (step.AdvanceLocation id))
  commit_location_takes id o h =
      both_takes g l s z e (ask_advance_location_step g s.machine) (advance_location_op g s.machine id) (advance_location_machine g s.machine id) (ledger.commit_location id) o h tt
      (λ m q d.
      record {
        step = Source WriteBackSuperblockReq-AdvanceLocation-Step;
        moves = location_clauses g (machine_lent l) s.machine m.machine.form id q;
        tied = Tied.tied_location;
      })

  -- WriteBackSuperblockResp: a commit awaits it, or nobody does
  pub superblock_written_takes : (id : ℕ) (o : DiskOp) → (superblock_written g s id).answer ≡ Ok o
      → Takes g format limits (seen g l s) (seen g l (superblock_written g s id).store) (call_of v (step.WriteBackSuperblockResp id))
  superblock_written_takes id o h =
      let which : ℕ = slot_of s.disk.superblockWrites id in
      both_takes g l s z e (ask_write_back_superblock_resp_step which) (write_back_superblock_resp_op which id) (write_back_superblock_resp_machine s.machine id) (ledger.superblock_written id) o h tt
      (λ m q d.
      ⊎_elim
      (λ c. record { step = Source WriteBackSuperblockRespStep; moves = c; tied = Tied.tied_committed })
      (λ c. record { step = Source NoOpStep; moves = c; tied = Tied.unawaited_committed })
      (superblock_resp_clauses g (machine_lent l) s.machine id which m.machine.form))

  -- Freeze, ReceiveFrozenLoc
  pub freeze_takes : (o : DiskOp) → (freeze g s).answer ≡ Ok o → Takes g format limits (seen g l s) (seen g l (freeze g s).store) (call_of v step.Freeze)
  freeze_takes o h =
      both_takes g l s z e (ask_freeze_step s.machine) op.NoDiskOp (freeze_machine s.machine) ledger.freeze o h tt
      (λ m q d. record { step = Source FreezeStep; moves = freeze_clauses g (machine_lent l) s.machine m.machine.form q; tied = Tied.tied_freeze })

  pub receive_takes : (loc : Location) (o : DiskOp) → (receive g s loc).answer ≡ Ok o
      → Takes g format limits (seen g l s) (seen g l (receive g s loc).store) (call_of v (step.ReceiveFrozenLoc loc))
  receive_takes loc o h =
      both_takes g l s z e (ask_receive_frozen_loc_step g s.machine loc) op.NoDiskOp (receive_frozen_loc_machine s.machine loc) (ledger.receive loc) o h tt
      (λ m q d. record { step = Source (ReceiveFrozenLocStep loc); moves = receive_clauses g (machine_lent l) s.machine loc q; tied = Tied.tied_receive })

  -- Replay: the entries that the call brings are there
  pub replay_takes : (k : ℕ) (o : DiskOp) → (replay g s l.rbytes l.rlens v.brought v.sizes k).answer ≡ Ok o
      → Takes g format limits (seen g l s) (seen g l (replay g s l.rbytes l.rlens v.brought v.sizes k).store) (call_of v (step.Replay k))
  replay_takes k o h =
      both_takes g l s z e (ask_replay_step s.machine l.rbytes l.rlens v.brought v.sizes k) op.NoDiskOp
      (replay_machine s.machine (count_of (memory v.brought v.sizes k))) (call_of v (step.Replay k)) o h tt
      (λ m q d.
      record {
        step = Source (ReplayStep (view v.brought v.sizes k));
        moves = replay_clauses g (machine_lent l) s.machine v.brought v.sizes k m.machine q;
        tied =
            subst (λ (x : Call). Tied x (MachineStep D.NoDiskOp (Source (ReplayStep (view v.brought v.sizes k)))))
            (sym (entries_is v.brought v.sizes k (ledger.replay (view v.brought v.sizes k)) (replay_given_is s.machine l.rbytes l.rlens v.brought v.sizes k q)))
            Tied.tied_replay;
      })
