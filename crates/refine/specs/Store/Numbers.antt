-- The number that a call's no has is that of the question which was answered so: of a crash's picture, then of questions 1 and 2, then of the
-- step, the machine's before the disk's. For all calls at once, and whatever is handed. Assumes nothing.
use Rattle.std.specs.Prelude.{ℕ, ◌≡◌, ◌≤◌, Result, Err}
use Rattle.std.proofs.Common.{sym, ap, ◌∙◌, arith}
use Rattle.laws.specs.Choice.{and_then, and_then_first, and_then_done, asked_yes, asked_no, split_eq, ruin}
use Rattle.refusal.specs.declared.Refusal.{Refusal}
use Rattle.refusal.specs.Refusal.{number, refusal, number_refusal}
use Rattle.layout.specs.declared.Geometry.{Geometry}
use Rattle.superblock.specs.declared.DiskOp.{DiskOp}
use Rattle.superblock.specs.declared.DiskOp.TheVariants as op
use Rattle.ready.specs.declared.Bodies.{Bodies}
use Rattle.machine.specs.Questions.{bodies_of}
use Rattle.machine.specs.Loading.{ask_page_in_journal_req_step, page_in_journal_req_op, ask_page_in_superblock_req_step, page_in_superblock_req_op, ask_page_in_superblock_resp_step, page_in_superblock_resp_op, ask_finish_loading_superblock_phase_step, ask_loaded, ask_ask_again_step}
use Rattle.machine.specs.Working.{write_back_journal_resp_op, ask_advance_log_step, advance_log_op, ask_advance_location_step, advance_location_op, ask_write_back_superblock_resp_step, write_back_superblock_resp_op, ask_freeze_step, ask_receive_frozen_loc_step, given_of, ask_advance_step, ask_replay_step}
use Rattle.machine.specs.Sync.{ask_push_sync_req, ask_pop_sync_req}
use Rattle.machine.specs.Bounds as machine
use Rattle.requests.specs.Slots.{slot_of}
use Rattle.requests.specs.Landing.{ask_land}
use Rattle.requests.specs.Bounds.{small_land}
use Rattle.store.specs.declared.Store.{Store}
use Rattle.store.specs.Store.{StoreStepped, refused}
use Rattle.store.specs.Lent.{Lent}
use Rattle.store.specs.Steps as one
use Rattle.store.specs.Whole.{asked}
use Rattle.store.proofs.Bounds as store
use Rattle.store.proofs.Bounds.{answer_number}
use Rattle.calls.specs.declared.calls.Step.{Step}
use Rattle.calls.specs.declared.calls.Step.TheVariants as step
use Rattle.calls.specs.Given.{Given}
use Rattle.calls.specs.Step.{ask_step, step_answer_with, step_answer, stepped}
use Rattle.calls.specs.Bounds.{small_step}

-- what decides a step after questions 1 and 2; a crash asks nothing more
unfoldable pub question : Geometry → Lent → Given → Store → Step → Bodies → ℕ
question g l v s (step.WriteBackJournalReq id1 id2) b = one.ask_write_journal g s id1 id2 b
question g l v s (step.WriteBackJournalResp id) b = one.ask_both g s 0 (write_back_journal_resp_op id)
question g l v s (step.AdvanceLog id) b = one.ask_both g s (ask_advance_log_step g s.machine) (advance_log_op s.machine id)
question g l v s (step.AdvanceLocation id) b = one.ask_both g s (ask_advance_location_step g s.machine) (advance_location_op g s.machine id)
question g l v s (step.WriteBackSuperblockResp id) b = one.ask_both g s (ask_write_back_superblock_resp_step (slot_of s.disk.superblockWrites id)) (write_back_superblock_resp_op (slot_of s.disk.superblockWrites id) id)
question g l v s (step.PageInJournalReq which id) b = one.ask_both g s (ask_page_in_journal_req_step g s.machine which) (page_in_journal_req_op g s.machine which id)
question g l v s (step.PageInJournalResp id whole) b = one.ask_journal_read s id whole l.marks
question g l v s (step.PageInSuperblockReq which id) b = one.ask_both g s (ask_page_in_superblock_req_step s.machine which id) (page_in_superblock_req_op which id)
question g l v s (step.PageInSuperblockResp which id whole) b = one.ask_both g s (ask_page_in_superblock_resp_step which) (page_in_superblock_resp_op which id (one.content_of s which whole))
question g l v s step.FinishLoadingSuperblockPhase b = one.ask_both g s (ask_finish_loading_superblock_phase_step s.machine) op.NoDiskOp
question g l v s step.FinishLoadingOtherPhase b = one.ask_both g s (ask_loaded g s.machine l.pieces l.rbytes l.rlens) op.NoDiskOp
question g l v s step.Freeze b = one.ask_both g s (ask_freeze_step s.machine) op.NoDiskOp
question g l v s (step.ReceiveFrozenLoc loc) b = one.ask_both g s (ask_receive_frozen_loc_step g s.machine loc) op.NoDiskOp
question g l v s (step.Advance entries) b = one.ask_both g s (ask_advance_step s.machine b (given_of v.brought v.sizes entries)) op.NoDiskOp
question g l v s (step.Replay entries) b = one.ask_both g s (ask_replay_step s.machine l.rbytes l.rlens v.brought v.sizes entries) op.NoDiskOp
question g l v s (step.PushSyncReq id) b = one.ask_both g s (ask_push_sync_req s.machine.sync id) op.NoDiskOp
question g l v s (step.PopSyncReq id) b = one.ask_both g s (ask_pop_sync_req s.machine.sync id) op.NoDiskOp
question g l v s step.NoOp b = one.ask_both g s 0 op.NoDiskOp
question g l v s (step.AskAgain which) b = one.ask_both g s (ask_ask_again_step s.machine which) op.NoDiskOp
question g l v s (step.Land which) b = ask_land s.disk.superblockWrites which
question g l v s step.Crash b = 0
question g l v s step.CrashInPlace b = 0

small_question : (g : Geometry) (l : Lent) (v : Given) (s : Store) (x : Step) (b : Bodies) → question g l v s x b ≤ 13
unfolding question
small_question g l v s (step.WriteBackJournalReq id1 id2) b = store.small_write_journal g s id1 id2 b
small_question g l v s (step.WriteBackJournalResp id) b = store.small_both g s _ _ (omega arith)
small_question g l v s (step.AdvanceLog id) b = store.small_both g s _ _ (machine.small_advance_log _ _)
small_question g l v s (step.AdvanceLocation id) b = store.small_both g s _ _ (machine.small_advance_location _ _)
small_question g l v s (step.WriteBackSuperblockResp id) b = store.small_both g s _ _ (machine.small_write_back_superblock_resp _)
small_question g l v s (step.PageInJournalReq which id) b = store.small_both g s _ _ (machine.small_page_in_journal_req _ _ _)
small_question g l v s (step.PageInJournalResp id whole) b = store.small_journal_read s id whole l.marks
small_question g l v s (step.PageInSuperblockReq which id) b = store.small_both g s _ _ (machine.small_page_in_superblock_req _ _ _)
small_question g l v s (step.PageInSuperblockResp which id whole) b = store.small_both g s _ _ (machine.small_page_in_superblock_resp _)
small_question g l v s step.FinishLoadingSuperblockPhase b = store.small_both g s _ _ (machine.small_finish_loading_superblock_phase _)
small_question g l v s step.FinishLoadingOtherPhase b = store.small_both g s _ _ (machine.small_loaded _ _ _ _ _)
small_question g l v s step.Freeze b = store.small_both g s _ _ (machine.small_freeze _)
small_question g l v s (step.ReceiveFrozenLoc loc) b = store.small_both g s _ _ (machine.small_receive_frozen_loc _ _ _)
small_question g l v s (step.Advance entries) b = store.small_both g s _ _ (machine.small_advance _ _ _)
small_question g l v s (step.Replay entries) b = store.small_both g s _ _ (machine.small_replay_step _ _ _ _ _ _)
small_question g l v s (step.PushSyncReq id) b = store.small_both g s _ _ (machine.small_push_sync_req _ _)
small_question g l v s (step.PopSyncReq id) b = store.small_both g s _ _ (machine.small_pop_sync_req _ _)
small_question g l v s step.NoOp b = store.small_both g s _ _ (omega arith)
small_question g l v s (step.AskAgain which) b = store.small_both g s _ _ (machine.small_ask_again _ _)
small_question g l v s (step.Land which) b = small_land _ _
small_question g l v s step.Crash b = omega arith
small_question g l v s step.CrashInPlace b = omega arith

-- what decides a call
abbrev pub decides : Geometry → Lent → Given → Store → Step → ℕ
decides g l v s x = and_then (ask_step g l v s x) (question g l v s x (bodies_of l.lens s.machine))

module _ (g : Geometry) (l : Lent) (v : Given) (s : Store) (b : Bodies) where
  own_number : (x : Step) (n : Refusal) → (step_answer_with g l v s x b).answer ≡ Err n → number n ≡ question g l v s x b
  unfolding step_answer_with question one.both one.ask_write_journal
  own_number (step.WriteBackJournalReq id1 id2) n e = answer_number _ _ _ s n (small_question g l v s (step.WriteBackJournalReq id1 id2) b) e
  own_number (step.WriteBackJournalResp id) n e = answer_number _ _ _ s n (small_question g l v s (step.WriteBackJournalResp id) b) e
  own_number (step.AdvanceLog id) n e = answer_number _ _ _ s n (small_question g l v s (step.AdvanceLog id) b) e
  own_number (step.AdvanceLocation id) n e = answer_number _ _ _ s n (small_question g l v s (step.AdvanceLocation id) b) e
  own_number (step.WriteBackSuperblockResp id) n e = answer_number _ _ _ s n (small_question g l v s (step.WriteBackSuperblockResp id) b) e
  own_number (step.PageInJournalReq which id) n e = answer_number _ _ _ s n (small_question g l v s (step.PageInJournalReq which id) b) e
  own_number (step.PageInJournalResp id whole) n e = answer_number _ _ _ s n (small_question g l v s (step.PageInJournalResp id whole) b) e
  own_number (step.PageInSuperblockReq which id) n e = answer_number _ _ _ s n (small_question g l v s (step.PageInSuperblockReq which id) b) e
  own_number (step.PageInSuperblockResp which id whole) n e = answer_number _ _ _ s n (small_question g l v s (step.PageInSuperblockResp which id whole) b) e
  own_number step.FinishLoadingSuperblockPhase n e = answer_number _ _ _ s n (small_question g l v s step.FinishLoadingSuperblockPhase b) e
  own_number step.FinishLoadingOtherPhase n e = answer_number _ _ _ s n (small_question g l v s step.FinishLoadingOtherPhase b) e
  own_number step.Freeze n e = answer_number _ _ _ s n (small_question g l v s step.Freeze b) e
  own_number (step.ReceiveFrozenLoc loc) n e = answer_number _ _ _ s n (small_question g l v s (step.ReceiveFrozenLoc loc) b) e
  own_number (step.Advance entries) n e = answer_number _ _ _ s n (small_question g l v s (step.Advance entries) b) e
  own_number (step.Replay entries) n e = answer_number _ _ _ s n (small_question g l v s (step.Replay entries) b) e
  own_number (step.PushSyncReq id) n e = answer_number _ _ _ s n (small_question g l v s (step.PushSyncReq id) b) e
  own_number (step.PopSyncReq id) n e = answer_number _ _ _ s n (small_question g l v s (step.PopSyncReq id) b) e
  own_number step.NoOp n e = answer_number _ _ _ s n (small_question g l v s step.NoOp b) e
  own_number (step.AskAgain which) n e = answer_number _ _ _ s n (small_question g l v s (step.AskAgain which) b) e
  own_number (step.Land which) n e = answer_number _ _ _ s n (small_question g l v s (step.Land which) b) e
  own_number step.Crash n e = ruin (cc)
  own_number step.CrashInPlace n e = ruin (cc)

pub call_number : (g : Geometry) (l : Lent) (v : Given) (s : Store) (x : Step) (n : Refusal) → (stepped g l v s x).answer ≡ Err n → number n ≡ decides g l v s x
unfolding stepped asked
call_number g l v s x n h =
    split_eq asks 0
    (λ q.
    let a = asked_yes asks (step_answer g l v s x) (refused s (refusal asks)) q in
    own_number g l v s (bodies_of l.lens s.machine) x n (ap (λ (y : StoreStepped). y.answer) (sym a) ∙ h) ∙ sym (and_then_done asks _ q))
    (λ f.
    let a = asked_no asks (step_answer g l v s x) (refused s (refusal asks)) f in
    ap number (told (stepped g l v s x).answer h (ap (λ (y : StoreStepped). y.answer) a)) ∙ number_refusal asks (omega (arith, f)) (small_step g l v s x) ∙ sym (and_then_first asks _ f))
  where
    asks : ℕ
    asks = ask_step g l v s x

    told : (y : Result DiskOp Refusal) → y ≡ Err n → y ≡ Err (refusal asks) → n ≡ refusal asks
    told y a b = cc
