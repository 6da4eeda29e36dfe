-- Every step keeps the lengths of the arrays that stand in the store's record, taken or refused.
use Rattle.std.specs.Prelude.{ℕ, Bool, cond, eqb}
use Rattle.std.proofs.Math.Bool.{true, false}
use Rattle.refusal.specs.Refusal.{refusal}
use Rattle.layout.specs.declared.Geometry.{Geometry}
use Rattle.superblock.specs.declared.DiskOp.{DiskOp}
use Rattle.ready.specs.declared.Bodies.{Bodies}
use Rattle.machine.specs.declared.Machine.{Machine}
use Rattle.machine.specs.Questions.{bodies_of}
use Rattle.disk.specs.Operation.{operation_next}
use Rattle.store.specs.declared.Store.{Store}
use Rattle.store.specs.Store.{StoreStepped}
use Rattle.store.specs.Whole.{asked}
use Rattle.store.specs.Store as S
use Rattle.store.specs.Store.{store}
use Rattle.store.specs.Lent.{Lent}
use Rattle.store.specs.Steps.{ask_both, both, read_of, crashed}
use Rattle.calls.specs.declared.calls.Step.{Step}
use Rattle.calls.specs.declared.calls.Step.TheVariants as step
use Rattle.calls.specs.Given.{Given}
use Rattle.calls.specs.Step.{step_answer_with, ask_step, stepped}
use Rattle.refine.specs.Machine.MachineView.{SizedMachine}
use Rattle.refine.specs.Machine.MachineInitial.{initial_sized}
use Rattle.refine.specs.Store.Seen.{SizedStore}
use Rattle.refine.specs.Store.PartsSized.{idle_sized, land_sized, read_left_sized, operation_sized, write_sized, journal_written_sized, commit_log_sized, commit_location_sized, superblock_written_sized, read_journal_sized, journal_read_sized, read_superblock_sized, superblock_read_sized, superblocks_done_sized, loaded_sized, freeze_sized, receive_sized, add_sized, replay_sized, push_sized, pop_sized, ask_again_sized}

answered_sized : (q : ℕ) (o : DiskOp) (next s : Store) → SizedStore next → SizedStore s → SizedStore (S.answered q o next s).store
unfolding S.answered
answered_sized q o next s a b = go (eqb q 0)
  where
    go : (t : Bool) → SizedStore (cond {A = StoreStepped} t (S.accepted o next) (S.refused s (refusal q))).store
    go true = a
    go false = b

both_sized : (g : Geometry) (s : Store) (z : SizedStore s) (q : ℕ) (o : DiskOp) (next : Machine) → SizedMachine next → SizedStore (both g s q o next).store
unfolding both
both_sized g s z q o next a =
    answered_sized (ask_both g s q o) o (store next (operation_next g s.disk o)) s (record { machine = a; disk = operation_sized s.disk z.disk g o }) z

pub crashed_sized : (s : Store) → SizedStore (crashed s)
crashed_sized s = record { machine = initial_sized; disk = idle_sized s.disk.slots }

module _ (g : Geometry) (l : Lent) (v : Given) (s : Store) (z : SizedStore s) where
  answer_sized : (x : Step) (b : Bodies) → SizedStore (step_answer_with g l v s x b).store
  unfolding step_answer_with
  answer_sized (step.WriteBackJournalReq id1 id2) b = both_sized g s z _ _ _ (write_sized s.machine z.machine id1 id2 _)
  answer_sized (step.WriteBackJournalResp id) b = both_sized g s z _ _ _ (journal_written_sized s.machine z.machine id)
  answer_sized (step.AdvanceLog id) b = both_sized g s z _ _ _ (commit_log_sized s.machine z.machine id)
  answer_sized (step.AdvanceLocation id) b = both_sized g s z _ _ _ (commit_location_sized s.machine z.machine g id)
  answer_sized (step.WriteBackSuperblockResp id) b = both_sized g s z _ _ _ (superblock_written_sized s.machine z.machine id)
  answer_sized (step.PageInJournalReq which id) b = both_sized g s z _ _ _ (read_journal_sized s.machine z.machine which id)
  answer_sized (step.PageInJournalResp id whole) b =
      answered_sized _ _ _ s (record { machine = journal_read_sized s.machine z.machine id (read_of whole); disk = read_left_sized s.disk z.disk id }) z
  answer_sized (step.PageInSuperblockReq which id) b = both_sized g s z _ _ _ (read_superblock_sized s.machine z.machine which id)
  answer_sized (step.PageInSuperblockResp which id whole) b = both_sized g s z _ _ _ (superblock_read_sized s.machine z.machine g which id _)
  answer_sized step.FinishLoadingSuperblockPhase b = both_sized g s z _ _ _ (superblocks_done_sized s.machine z.machine)
  answer_sized step.FinishLoadingOtherPhase b = both_sized g s z _ _ _ (loaded_sized s.machine z.machine _)
  answer_sized step.Freeze b = both_sized g s z _ _ _ (freeze_sized s.machine z.machine)
  answer_sized (step.ReceiveFrozenLoc loc) b = both_sized g s z _ _ _ (receive_sized s.machine z.machine loc)
  answer_sized (step.Advance entries) b = both_sized g s z _ _ _ (add_sized s.machine z.machine b _)
  answer_sized (step.Replay entries) b = both_sized g s z _ _ _ (replay_sized s.machine z.machine _)
  answer_sized (step.PushSyncReq id) b = both_sized g s z _ _ _ (push_sized s.machine z.machine id)
  answer_sized (step.PopSyncReq id) b = both_sized g s z _ _ _ (pop_sized s.machine z.machine id)
  answer_sized step.NoOp b = both_sized g s z _ _ _ z.machine
  answer_sized (step.AskAgain which) b = both_sized g s z _ _ _ (ask_again_sized s.machine z.machine which)
  answer_sized (step.Land which) b = answered_sized _ _ _ s (record { machine = z.machine; disk = land_sized s.disk z.disk which }) z
  answer_sized step.Crash b = crashed_sized s
  answer_sized step.CrashInPlace b = crashed_sized s

  pub sized_step : (x : Step) → SizedStore (stepped g l v s x).store
  unfolding stepped asked
  sized_step x = go (eqb (ask_step g l v s x) 0)
    where
      go : (t : Bool) → SizedStore (cond {A = StoreStepped} t (step_answer_with g l v s x (bodies_of l.lens s.machine)) (S.refused s (refusal (ask_step g l v s x)))).store
      go true = answer_sized x (bodies_of l.lens s.machine)
      go false = z
