-- Demand 2 of the store, the other way: every step that the sources and departures allow, within the limits, is taken by a call that is tied to
-- it, and the view of the next store is its next state. For all events at once.
use Rattle.layout.specs.declared.Geometry.{Geometry}
use Rattle.codec.specs.Format.{format}
use Rattle.source.specs.JournalDisk as D
use Rattle.source.specs.JournalCache as M
use Rattle.source.specs.JournalSystem as Y
use Rattle.source.specs.Limits.{limits}
use Rattle.source.specs.Departures.{Event, MachineStep, DiskInternalStep, CrashStep, Source, DamagedJournalStep, AskAgainStep, Allowed}
use Rattle.source.specs.Within.{Within}
use Rattle.store.specs.declared.Store.{Store}
use Rattle.store.specs.Lent.{Lent}
use Rattle.refine.specs.Store.Seen.{seen, SizedStore}
use Rattle.refine.specs.Store.Done.{StoreForm, Done}
use Rattle.refine.specs.Store.DoneAlways.{push_done, pop_done, land_done}
use Rattle.refine.specs.Store.DoneWorking.{freeze_done, receive_done, commit_log_done, commit_location_done, journal_written_done, replay_done}
use Rattle.refine.specs.Store.DoneLoading.{finish_superblocks_done, read_journal_done, read_superblock_done, superblock_read_done, ask_again_done}
use Rattle.refine.specs.Store.DoneAnswers.{superblock_written_done, no_op_done}
use Rattle.refine.specs.Store.DoneCrash.{crash_done}
use Rattle.refine.specs.Store.DoneAdding.{add_done}
use Rattle.refine.specs.Store.DoneFinishing.{finish_other_done}
use Rattle.refine.specs.Store.DoneReading.{paged_done, damaged_done}
use Rattle.refine.specs.Store.DoneWriting.{write_done}

module _ (g : Geometry) (l : Lent) (s : Store) (z : SizedStore s) (f : StoreForm g l s) (t : Y.Variables) where
  step_done : (dop : D.DiskOp) (step : M.Step) → Allowed g format limits (seen g l s) t (MachineStep dop (Source step)) → Within g limits t (MachineStep dop (Source step))
      → Done g l s t (MachineStep dop (Source step))
  step_done dop (M.Step.WriteBackJournalReqStep jr) a w = write_done g l s z f t dop jr a w
  step_done dop M.Step.WriteBackJournalRespStep a w = journal_written_done g l s z f t dop a w
  step_done dop M.Step.WriteBackSuperblockReq-AdvanceLog-Step a w = commit_log_done g l s z f t dop a w
  step_done dop M.Step.WriteBackSuperblockReq-AdvanceLocation-Step a w = commit_location_done g l s z f t dop a w
  step_done dop M.Step.WriteBackSuperblockRespStep a w = superblock_written_done g l s z f t dop a w
  step_done dop (M.Step.PageInJournalReqStep which) a w = read_journal_done g l s z f t dop which a w
  step_done dop (M.Step.PageInJournalRespStep which) a w = paged_done g l s z f t dop which a w
  step_done dop (M.Step.PageInSuperblockReqStep which) a w = read_superblock_done g l s z f t dop which a w
  step_done dop (M.Step.PageInSuperblockRespStep which) a w = superblock_read_done g l s z f t dop which a w
  step_done dop M.Step.FinishLoadingSuperblockPhaseStep a w = finish_superblocks_done g l s z f t dop a w
  step_done dop M.Step.FinishLoadingOtherPhaseStep a w = finish_other_done g l s z f t dop a w
  step_done dop M.Step.FreezeStep a w = freeze_done g l s z f t dop a w
  step_done dop (M.Step.ReceiveFrozenLocStep loc) a w = receive_done g l s z f t dop loc a w
  step_done dop (M.Step.AdvanceStep es) a w = add_done g l s z f t dop es a w
  step_done dop (M.Step.ReplayStep es) a w = replay_done g l s z f t dop es a w
  step_done dop (M.Step.PushSyncReqStep id) a w = push_done g l s z f t dop id a w
  step_done dop (M.Step.PopSyncReqStep id) a w = pop_done g l s z f t dop id a w
  step_done dop M.Step.NoOpStep a w = no_op_done g l s z f t dop a w

  pub store_complete : (event : Event) → Allowed g format limits (seen g l s) t event → Within g limits t event → Done g l s t event
  store_complete (MachineStep dop (Source step)) a w = step_done dop step a w
  store_complete (MachineStep dop DamagedJournalStep) a w = damaged_done g l s z f t dop a w
  store_complete (MachineStep dop (AskAgainStep which)) a w = ask_again_done g l s z f t dop which a w
  store_complete (DiskInternalStep (D.ProcessWriteSuperblockStep which)) a w = land_done g l s z f t which a w
  store_complete (CrashStep picture) a w = crash_done g l s z f t picture a w
