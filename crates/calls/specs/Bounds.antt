-- Questions 1 and 2 of a call have the numbers of refusals. Assumes nothing.
use Rattle.std.specs.Prelude.{ℕ, ◌≤◌, List}
use Rattle.std.proofs.Common.{arith}
use Rattle.refusal.specs.Refusal.{small_then}
use Rattle.layout.specs.declared.Geometry.{Geometry}
use Rattle.journal.specs.Bounds.{small_journal}
use Rattle.store.specs.declared.Store.{Store}
use Rattle.store.specs.Lent.{Lent}
use Rattle.store.proofs.Bounds.{small_store}
use Rattle.calls.specs.declared.calls.Step.{Step}
use Rattle.calls.specs.declared.calls.Step.TheVariants as step
use Rattle.calls.specs.Given.{Given}
use Rattle.calls.specs.Step.{ask_picture, ask_step}

pub small_picture : (g : Geometry) (picture pictured : List ℕ) (x : Step) → ask_picture g picture pictured x ≤ 13
unfolding ask_picture
small_picture g picture pictured (step.WriteBackJournalReq id1 id2) = omega arith
small_picture g picture pictured (step.WriteBackJournalResp id) = omega arith
small_picture g picture pictured (step.AdvanceLog id) = omega arith
small_picture g picture pictured (step.AdvanceLocation id) = omega arith
small_picture g picture pictured (step.WriteBackSuperblockResp id) = omega arith
small_picture g picture pictured (step.PageInJournalReq which id) = omega arith
small_picture g picture pictured (step.PageInJournalResp id whole) = omega arith
small_picture g picture pictured (step.PageInSuperblockReq which id) = omega arith
small_picture g picture pictured (step.PageInSuperblockResp which id whole) = omega arith
small_picture g picture pictured step.FinishLoadingSuperblockPhase = omega arith
small_picture g picture pictured step.FinishLoadingOtherPhase = omega arith
small_picture g picture pictured step.Freeze = omega arith
small_picture g picture pictured (step.ReceiveFrozenLoc loc) = omega arith
small_picture g picture pictured (step.Advance entries) = omega arith
small_picture g picture pictured (step.Replay entries) = omega arith
small_picture g picture pictured (step.PushSyncReq id) = omega arith
small_picture g picture pictured (step.PopSyncReq id) = omega arith
small_picture g picture pictured step.NoOp = omega arith
small_picture g picture pictured (step.AskAgain which) = omega arith
small_picture g picture pictured (step.Land which) = omega arith
small_picture g picture pictured step.Crash = small_journal _ _ _
small_picture g picture pictured step.CrashInPlace = omega arith

pub small_step : (g : Geometry) (l : Lent) (v : Given) (s : Store) (x : Step) → ask_step g l v s x ≤ 13
unfolding ask_step
small_step g l v s x = small_then _ _ (small_picture _ _ _ x) (small_store _ _ _)
