-- A step of its own name is the step over all calls: the same answer, and the same lent memory after it, whatever else a call brings. So what is
-- shown of the step over all calls holds of each method of the store.
use Rattle.std.specs.declared.option.Option as code
use Rattle.std.specs.Prelude.{ℕ, Bool, ◌≡◌, refl}
use Rattle.laws.specs.Choice.{and_then, unless, unless_same}
use Rattle.layout.specs.declared.Geometry.{Geometry}
use Rattle.layout.specs.declared.Location.{Location}
use Rattle.store.specs.declared.Store.{Store}
use Rattle.store.specs.Store.{StoreStepped}
use Rattle.store.specs.Lent.{Lent, ask_store}
use Rattle.store.specs.Whole as method
use Rattle.calls.specs.declared.calls.Step.{Step}
use Rattle.calls.specs.declared.calls.Step.TheVariants as step
use Rattle.calls.specs.Given.{Given}
use Rattle.calls.specs.Step.{ask_picture, ask_step, step_answer_with, step_lent_with, stepped, stepped_lent}

-- what the method of a step answers, and the lent memory after it
unfoldable pub named : Geometry → Lent → Given → Store → Step → StoreStepped
named g l v s (step.WriteBackJournalReq id1 id2) = method.write_back_journal_req g l s id1 id2
named g l v s (step.WriteBackJournalResp id) = method.write_back_journal_resp g l s id
named g l v s (step.AdvanceLog id) = method.advance_log g l s id
named g l v s (step.AdvanceLocation id) = method.advance_location g l s id
named g l v s (step.WriteBackSuperblockResp id) = method.write_back_superblock_resp g l s id
named g l v s (step.PageInJournalReq which id) = method.page_in_journal_req g l s which id
named g l v s (step.PageInJournalResp id whole) = method.page_in_journal_resp g l s id whole
named g l v s (step.PageInSuperblockReq which id) = method.page_in_superblock_req g l s which id
named g l v s (step.PageInSuperblockResp which id whole) = method.page_in_superblock_resp g l s which id whole
named g l v s step.FinishLoadingSuperblockPhase = method.finish_loading_superblock_phase g l s
named g l v s step.FinishLoadingOtherPhase = method.finish_loading_other_phase g l s
named g l v s step.Freeze = method.freeze g l s
named g l v s (step.ReceiveFrozenLoc loc) = method.receive_frozen_loc g l s loc
named g l v s (step.Advance k) = method.advance g l s v.brought v.sizes k
named g l v s (step.Replay k) = method.replay g l s v.brought v.sizes k
named g l v s (step.PushSyncReq id) = method.push_sync_req g l s id
named g l v s (step.PopSyncReq id) = method.pop_sync_req g l s id
named g l v s step.NoOp = method.no_op g l s
named g l v s (step.AskAgain which) = method.ask_again g l s which
named g l v s (step.Land which) = method.land g l s which
named g l v s step.Crash = method.crash g l s v.picture v.pictured
named g l v s step.CrashInPlace = method.crash_in_place g l s

unfoldable pub named_lent : Geometry → Lent → Given → Store → Step → Lent
named_lent g l v s (step.WriteBackJournalReq id1 id2) = method.write_back_journal_req_lent g l s id1 id2
named_lent g l v s (step.WriteBackJournalResp id) = l
named_lent g l v s (step.AdvanceLog id) = l
named_lent g l v s (step.AdvanceLocation id) = l
named_lent g l v s (step.WriteBackSuperblockResp id) = l
named_lent g l v s (step.PageInJournalReq which id) = l
named_lent g l v s (step.PageInJournalResp id whole) = method.page_in_journal_resp_lent g l s id whole
named_lent g l v s (step.PageInSuperblockReq which id) = l
named_lent g l v s (step.PageInSuperblockResp which id whole) = l
named_lent g l v s step.FinishLoadingSuperblockPhase = l
named_lent g l v s step.FinishLoadingOtherPhase = method.finish_loading_other_phase_lent g l s
named_lent g l v s step.Freeze = l
named_lent g l v s (step.ReceiveFrozenLoc loc) = l
named_lent g l v s (step.Advance k) = method.advance_lent g l s v.brought v.sizes k
named_lent g l v s (step.Replay k) = l
named_lent g l v s (step.PushSyncReq id) = l
named_lent g l v s (step.PopSyncReq id) = l
named_lent g l v s step.NoOp = l
named_lent g l v s (step.AskAgain which) = l
named_lent g l v s (step.Land which) = l
named_lent g l v s step.Crash = method.crash_lent g l s v.picture v.pictured
named_lent g l v s step.CrashInPlace = l

pub named_stepped : (g : Geometry) (l : Lent) (v : Given) (s : Store) (x : Step) → named g l v s x ≡ stepped g l v s x
unfolding named stepped ask_step ask_picture step_answer_with and_then method.ask_crash
named_stepped g l v s (step.WriteBackJournalReq id1 id2) = refl
named_stepped g l v s (step.WriteBackJournalResp id) = refl
named_stepped g l v s (step.AdvanceLog id) = refl
named_stepped g l v s (step.AdvanceLocation id) = refl
named_stepped g l v s (step.WriteBackSuperblockResp id) = refl
named_stepped g l v s (step.PageInJournalReq which id) = refl
named_stepped g l v s (step.PageInJournalResp id whole) = refl
named_stepped g l v s (step.PageInSuperblockReq which id) = refl
named_stepped g l v s (step.PageInSuperblockResp which id whole) = refl
named_stepped g l v s step.FinishLoadingSuperblockPhase = refl
named_stepped g l v s step.FinishLoadingOtherPhase = refl
named_stepped g l v s step.Freeze = refl
named_stepped g l v s (step.ReceiveFrozenLoc loc) = refl
named_stepped g l v s (step.Advance k) = refl
named_stepped g l v s (step.Replay k) = refl
named_stepped g l v s (step.PushSyncReq id) = refl
named_stepped g l v s (step.PopSyncReq id) = refl
named_stepped g l v s step.NoOp = refl
named_stepped g l v s (step.AskAgain which) = refl
named_stepped g l v s (step.Land which) = refl
named_stepped g l v s step.Crash = refl
named_stepped g l v s step.CrashInPlace = refl

pub named_lent_is : (g : Geometry) (l : Lent) (v : Given) (s : Store) (x : Step) → named_lent g l v s x ≡ stepped_lent g l v s x
unfolding named_lent stepped_lent ask_step ask_picture step_lent_with and_then method.ask_crash
named_lent_is g l v s (step.WriteBackJournalReq id1 id2) = refl
named_lent_is g l v s (step.WriteBackJournalResp id) = unless_same (ask_store g l s) l
named_lent_is g l v s (step.AdvanceLog id) = unless_same (ask_store g l s) l
named_lent_is g l v s (step.AdvanceLocation id) = unless_same (ask_store g l s) l
named_lent_is g l v s (step.WriteBackSuperblockResp id) = unless_same (ask_store g l s) l
named_lent_is g l v s (step.PageInJournalReq which id) = unless_same (ask_store g l s) l
named_lent_is g l v s (step.PageInJournalResp id whole) = refl
named_lent_is g l v s (step.PageInSuperblockReq which id) = unless_same (ask_store g l s) l
named_lent_is g l v s (step.PageInSuperblockResp which id whole) = unless_same (ask_store g l s) l
named_lent_is g l v s step.FinishLoadingSuperblockPhase = unless_same (ask_store g l s) l
named_lent_is g l v s step.FinishLoadingOtherPhase = refl
named_lent_is g l v s step.Freeze = unless_same (ask_store g l s) l
named_lent_is g l v s (step.ReceiveFrozenLoc loc) = unless_same (ask_store g l s) l
named_lent_is g l v s (step.Advance k) = refl
named_lent_is g l v s (step.Replay k) = unless_same (ask_store g l s) l
named_lent_is g l v s (step.PushSyncReq id) = unless_same (ask_store g l s) l
named_lent_is g l v s (step.PopSyncReq id) = unless_same (ask_store g l s) l
named_lent_is g l v s step.NoOp = unless_same (ask_store g l s) l
named_lent_is g l v s (step.AskAgain which) = unless_same (ask_store g l s) l
named_lent_is g l v s (step.Land which) = unless_same (ask_store g l s) l
named_lent_is g l v s step.Crash = refl
named_lent_is g l v s step.CrashInPlace = unless_same (ask_store g l s) l
