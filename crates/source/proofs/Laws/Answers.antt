-- An answer of the disk has one next state, whichever step takes it: where it is awaited one predicate takes it, and else only NoOp does.
use Rattle.std.specs.Prelude.{Bool, ◌≡◌, ◌⊎◌}
use Rattle.std.proofs.Common.{sym, ◌∙◌, subst, inl, inr}
use Rattle.std.proofs.Math.Option.{none, some}
use Rattle.layout.specs.declared.Geometry.{Geometry}
use Rattle.codec.specs.Codec.{Codec}
use Rattle.source.specs.JournalDisk.{DiskOp, ReqReadSuperblockOp, ReqReadJournalOp, ReqWriteSuperblockOp, ReqWriteJournalOp, RespReadSuperblockOp, RespReadJournalOp, RespWriteSuperblockOp, RespWriteJournalOp, NoDiskOp}
use Rattle.source.specs.JournalCache as M
use Rattle.source.specs.JournalCache.{Variables, Ready, LoadingOther, LoadingSuperblock, ReadyVariables, LoadingOtherVariables, LoadingSuperblockVariables, IsReady}
use Rattle.source.specs.JournalCache.{WriteBackJournalReqStep, WriteBackJournalRespStep, WriteBackSuperblockReq-AdvanceLog-Step, WriteBackSuperblockReq-AdvanceLocation-Step, WriteBackSuperblockRespStep, PageInJournalReqStep, PageInJournalRespStep, PageInSuperblockReqStep, PageInSuperblockRespStep, FinishLoadingSuperblockPhaseStep, FinishLoadingOtherPhaseStep, FreezeStep, ReceiveFrozenLocStep, AdvanceStep, ReplayStep, PushSyncReqStep, PopSyncReqStep, NoOpStep}
use Rattle.source.specs.Limits.{Limits}
use Rattle.source.specs.Meets.{MachineMeets}
use Rattle.source.specs.Departures.{Awaited, NoOp⁺, PageInJournalResp⁺, DamagedJournalClauses, DamagedJournal, Step⁺, Source, DamagedJournalStep, AskAgainStep, NextStep⁺}
use Rattle.source.proofs.Laws.Unique.{write_back_journal_resp_one, write_back_superblock_resp_one, page_in_journal_resp_one, damaged_journal_one, page_in_superblock_resp_one}

abbrev pub Answer : DiskOp → Type 0
Answer (RespReadSuperblockOp id which superblock) = Unit {0}
Answer (RespReadJournalOp id journal) = Unit {0}
Answer (RespWriteSuperblockOp id which) = Unit {0}
Answer (RespWriteJournalOp id) = Unit {0}
Answer (ReqReadSuperblockOp id which) = ⊥
Answer (ReqReadJournalOp id interval) = ⊥
Answer (ReqWriteSuperblockOp id which req) = ⊥
Answer (ReqWriteJournalOp id1 id2 req) = ⊥
Answer NoDiskOp = ⊥

-- the one predicate that takes it where it is awaited
abbrev pub Taken : Geometry → Variables → Variables → DiskOp → Type 0
Taken g s s' (RespReadSuperblockOp id which superblock) = M.PageInSuperblockResp g s s' (RespReadSuperblockOp id which superblock) which
Taken g s s' (RespReadJournalOp id none) = DamagedJournal s s' (RespReadJournalOp id none)
Taken g s s' (RespReadJournalOp id (some jr)) = PageInJournalResp⁺ s s' (RespReadJournalOp id (some jr))
Taken g s s' (RespWriteSuperblockOp id which) = M.WriteBackSuperblockResp s s' (RespWriteSuperblockOp id which)
Taken g s s' (RespWriteJournalOp id) = M.WriteBackJournalResp s s' (RespWriteJournalOp id)
Taken g s s' (ReqReadSuperblockOp id which) = ⊥
Taken g s s' (ReqReadJournalOp id interval) = ⊥
Taken g s s' (ReqWriteSuperblockOp id which req) = ⊥
Taken g s s' (ReqWriteJournalOp id1 id2 req) = ⊥
Taken g s s' NoDiskOp = ⊥

taken_awaited : (g : Geometry) (s s' : Variables) (dop : DiskOp) → Taken g s s' dop → Awaited s dop
taken_awaited g (LoadingSuperblock s) s' (RespReadSuperblockOp id which superblock) h = cc
taken_awaited g (Ready s) s' (RespReadSuperblockOp id which superblock) h = absurd h
taken_awaited g (LoadingOther s) s' (RespReadSuperblockOp id which superblock) h = absurd h
taken_awaited g (LoadingOther s) s' (RespReadJournalOp id none) h = (h.which, cc)
taken_awaited g (Ready s) s' (RespReadJournalOp id none) h = absurd h
taken_awaited g (LoadingSuperblock s) s' (RespReadJournalOp id none) h = absurd h
taken_awaited g (LoadingOther s) s' (RespReadJournalOp id (some jr)) h = (h.0, cc)
taken_awaited g (Ready s) s' (RespReadJournalOp id (some jr)) h = absurd h.1
taken_awaited g (LoadingSuperblock s) s' (RespReadJournalOp id (some jr)) h = absurd h.1
taken_awaited g (Ready s) s' (RespWriteSuperblockOp id which) h = cc
taken_awaited g (LoadingOther s) s' (RespWriteSuperblockOp id which) h = absurd h
taken_awaited g (LoadingSuperblock s) s' (RespWriteSuperblockOp id which) h = absurd h
taken_awaited g (Ready s) s' (RespWriteJournalOp id) h = cc
taken_awaited g (LoadingOther s) s' (RespWriteJournalOp id) h = absurd h
taken_awaited g (LoadingSuperblock s) s' (RespWriteJournalOp id) h = absurd h
taken_awaited g s s' (ReqReadSuperblockOp id which) h = absurd h
taken_awaited g s s' (ReqReadJournalOp id interval) h = absurd h
taken_awaited g s s' (ReqWriteSuperblockOp id which req) h = absurd h
taken_awaited g s s' (ReqWriteJournalOp id1 id2 req) h = absurd h
taken_awaited g s s' NoDiskOp h = absurd h

module _ (g : Geometry) (L : Limits) (s s' s'' : Variables) where
  taken_one : (C : Codec) (dop : DiskOp) → MachineMeets g L s → Taken g s s' dop → Taken g s s'' dop → s' ≡ s''
  taken_one C (RespReadSuperblockOp id which superblock) m h k = page_in_superblock_resp_one g C s s' s'' (RespReadSuperblockOp id which superblock) which h k
  taken_one C (RespReadJournalOp id none) m h k = damaged_journal_one g L s s' s'' (RespReadJournalOp id none) m h k
  taken_one C (RespReadJournalOp id (some jr)) m h k = page_in_journal_resp_one g L s s' s'' (RespReadJournalOp id (some jr)) m h k
  taken_one C (RespWriteSuperblockOp id which) m h k = write_back_superblock_resp_one g s s' s'' (RespWriteSuperblockOp id which) m.inv h k
  taken_one C (RespWriteJournalOp id) m h k = write_back_journal_resp_one g C s s' s'' (RespWriteJournalOp id) h k
  taken_one C (ReqReadSuperblockOp id which) m h k = absurd h
  taken_one C (ReqReadJournalOp id interval) m h k = absurd h
  taken_one C (ReqWriteSuperblockOp id which req) m h k = absurd h
  taken_one C (ReqWriteJournalOp id1 id2 req) m h k = absurd h
  taken_one C NoDiskOp m h k = absurd h

-- an operation that is no answer
no_answer : {G : Type 0} (dop d : DiskOp) → dop ≡ d → (Answer d → ⊥) → Answer dop → G
no_answer dop d e f a = absurd (f (subst Answer e a))

-- each step that takes an answer is the one that is meant, or NoOp
module _ (g : Geometry) (C : Codec) (s' : Variables) (dop : DiskOp) where
  by_superblock : (s : LoadingSuperblockVariables) (which : Bool) → M.PageInSuperblockRespClauses g s s' dop which → Taken g (LoadingSuperblock s) s' dop
  by_superblock s which h = subst (Taken g (LoadingSuperblock s) s') (sym h.op) (subst (λ (d : DiskOp). M.PageInSuperblockRespClauses g s s' d which) h.op h)

  by_piece : (s : LoadingOtherVariables) (which : Bool) → M.PageInJournalRespClauses s s' dop which → Taken g (LoadingOther s) s' dop
  by_piece s which h = subst (Taken g (LoadingOther s) s') (sym h.op) (which, subst (λ (d : DiskOp). M.PageInJournalRespClauses s s' d which) h.op h)

  by_damage : (s : LoadingOtherVariables) → DamagedJournalClauses s s' dop → Taken g (LoadingOther s) s' dop
  by_damage s h = subst (Taken g (LoadingOther s) s') (sym h.op) (subst (λ (d : DiskOp). DamagedJournalClauses s s' d) h.op h)

  by_commit : (s : ReadyVariables) → M.WriteBackSuperblockRespClauses s s' dop → Taken g (Ready s) s' dop
  by_commit s h = subst (Taken g (Ready s) s') (sym h.op) (subst (λ (d : DiskOp). M.WriteBackSuperblockRespClauses s s' d) h.op h)

  by_write : (s : ReadyVariables) → M.WriteBackJournalRespClauses s s' dop → Taken g (Ready s) s' dop
  by_write s h = subst (Taken g (Ready s) s') (sym h.op) (subst (λ (d : DiskOp). M.WriteBackJournalRespClauses s s' d) h.op h)

  ready_taken : (s : ReadyVariables) (step : Step⁺) → Answer dop → NextStep⁺ g C (Ready s) s' dop step → NoOp⁺ (Ready s) s' dop ⊎ Taken g (Ready s) s' dop
  ready_taken s (Source (WriteBackJournalReqStep jr)) a h =
      no_answer dop (ReqWriteJournalOp h.source.id1 h.source.id2 h.source.req) h.source.op (λ x. x) a
  ready_taken s (Source WriteBackJournalRespStep) a h = inr (by_write s h)
  ready_taken s (Source WriteBackSuperblockReq-AdvanceLog-Step) a h = no_answer dop (ReqWriteSuperblockOp h.source.id h.source.which h.source.req) h.source.op (λ x. x) a
  ready_taken s (Source WriteBackSuperblockReq-AdvanceLocation-Step) a h = no_answer dop (ReqWriteSuperblockOp h.source.id h.source.which h.source.req) h.source.op (λ x. x) a
  ready_taken s (Source WriteBackSuperblockRespStep) a h = inr (by_commit s h)
  ready_taken s (Source (PageInJournalReqStep which)) a h = absurd h
  ready_taken s (Source (PageInJournalRespStep which)) a h = absurd h.1
  ready_taken s (Source (PageInSuperblockReqStep which)) a h = absurd h.source
  ready_taken s (Source (PageInSuperblockRespStep which)) a h = absurd h
  ready_taken s (Source FinishLoadingSuperblockPhaseStep) a h = absurd h
  ready_taken s (Source FinishLoadingOtherPhaseStep) a h = absurd h.source
  ready_taken s (Source FreezeStep) a h = no_answer dop NoDiskOp h.op (λ x. x) a
  ready_taken s (Source (ReceiveFrozenLocStep loc)) a h = no_answer dop NoDiskOp h.op (λ x. x) a
  ready_taken s (Source (AdvanceStep new-je)) a h = no_answer dop NoDiskOp h.source.op (λ x. x) a
  ready_taken s (Source (ReplayStep replayed-je)) a h = go s' h
    where
      go : {G : Type 0} (t : Variables) → IsReady t (λ t. M.ReplayClauses s t dop replayed-je) → G
      go (Ready t) k = no_answer dop NoDiskOp k.op (λ x. x) a
      go (LoadingOther t) k = absurd k
      go (LoadingSuperblock t) k = absurd k
  ready_taken s (Source (PushSyncReqStep id)) a h = no_answer dop NoDiskOp h.op (λ x. x) a
  ready_taken s (Source (PopSyncReqStep id)) a h = no_answer dop NoDiskOp h.op (λ x. x) a
  ready_taken s (Source NoOpStep) a h = inl h
  ready_taken s DamagedJournalStep a h = absurd h
  ready_taken s (AskAgainStep which) a h = absurd h

  other_taken : (s : LoadingOtherVariables) (step : Step⁺) → Answer dop → NextStep⁺ g C (LoadingOther s) s' dop step
      → NoOp⁺ (LoadingOther s) s' dop ⊎ Taken g (LoadingOther s) s' dop
  other_taken s (Source (WriteBackJournalReqStep jr)) a h = absurd h.source
  other_taken s (Source WriteBackJournalRespStep) a h = absurd h
  other_taken s (Source WriteBackSuperblockReq-AdvanceLog-Step) a h = absurd h.source
  other_taken s (Source WriteBackSuperblockReq-AdvanceLocation-Step) a h = absurd h.source
  other_taken s (Source WriteBackSuperblockRespStep) a h = absurd h
  other_taken s (Source (PageInJournalReqStep which)) a h = no_answer dop (ReqReadJournalOp h.id h.interval) h.op (λ x. x) a
  other_taken s (Source (PageInJournalRespStep which)) a h = inr (by_piece s h.0 h.1)
  other_taken s (Source (PageInSuperblockReqStep which)) a h = absurd h.source
  other_taken s (Source (PageInSuperblockRespStep which)) a h = absurd h
  other_taken s (Source FinishLoadingSuperblockPhaseStep) a h = absurd h
  other_taken s (Source FinishLoadingOtherPhaseStep) a h = go s' h.source
    where
      go : {G : Type 0} (t : Variables) → IsReady t (λ t. M.FinishLoadingOtherPhaseClauses g C s t dop) → G
      go (Ready t) k = no_answer dop NoDiskOp k.op (λ x. x) a
      go (LoadingOther t) k = absurd k
      go (LoadingSuperblock t) k = absurd k
  other_taken s (Source FreezeStep) a h = absurd h
  other_taken s (Source (ReceiveFrozenLocStep loc)) a h = absurd h
  other_taken s (Source (AdvanceStep new-je)) a h = absurd h.source
  other_taken s (Source (ReplayStep replayed-je)) a h = absurd h
  other_taken s (Source (PushSyncReqStep id)) a h = no_answer dop NoDiskOp h.op (λ x. x) a
  other_taken s (Source (PopSyncReqStep id)) a h = no_answer dop NoDiskOp h.op (λ x. x) a
  other_taken s (Source NoOpStep) a h = inl h
  other_taken s DamagedJournalStep a h = inr (by_damage s h)
  other_taken s (AskAgainStep which) a h = absurd h

  superblock_taken : (s : LoadingSuperblockVariables) (step : Step⁺) → Answer dop → NextStep⁺ g C (LoadingSuperblock s) s' dop step
      → NoOp⁺ (LoadingSuperblock s) s' dop ⊎ Taken g (LoadingSuperblock s) s' dop
  superblock_taken s (Source (WriteBackJournalReqStep jr)) a h = absurd h.source
  superblock_taken s (Source WriteBackJournalRespStep) a h = absurd h
  superblock_taken s (Source WriteBackSuperblockReq-AdvanceLog-Step) a h = absurd h.source
  superblock_taken s (Source WriteBackSuperblockReq-AdvanceLocation-Step) a h = absurd h.source
  superblock_taken s (Source WriteBackSuperblockRespStep) a h = absurd h
  superblock_taken s (Source (PageInJournalReqStep which)) a h = absurd h
  superblock_taken s (Source (PageInJournalRespStep which)) a h = absurd h.1
  superblock_taken s (Source (PageInSuperblockReqStep which)) a h = no_answer dop (ReqReadSuperblockOp h.source.id which) h.source.op (λ x. x) a
  superblock_taken s (Source (PageInSuperblockRespStep which)) a h = inr (by_superblock s which h)
  superblock_taken s (Source FinishLoadingSuperblockPhaseStep) a h = no_answer dop NoDiskOp h.op (λ x. x) a
  superblock_taken s (Source FinishLoadingOtherPhaseStep) a h = absurd h.source
  superblock_taken s (Source FreezeStep) a h = absurd h
  superblock_taken s (Source (ReceiveFrozenLocStep loc)) a h = absurd h
  superblock_taken s (Source (AdvanceStep new-je)) a h = absurd h.source
  superblock_taken s (Source (ReplayStep replayed-je)) a h = absurd h
  superblock_taken s (Source (PushSyncReqStep id)) a h = no_answer dop NoDiskOp h.op (λ x. x) a
  superblock_taken s (Source (PopSyncReqStep id)) a h = no_answer dop NoDiskOp h.op (λ x. x) a
  superblock_taken s (Source NoOpStep) a h = inl h
  superblock_taken s DamagedJournalStep a h = absurd h
  superblock_taken s (AskAgainStep which) a h = no_answer dop NoDiskOp h.op (λ x. x) a

  pub answer_taken : (s : Variables) (step : Step⁺) → Answer dop → NextStep⁺ g C s s' dop step → NoOp⁺ s s' dop ⊎ Taken g s s' dop
  answer_taken (Ready s) step a h = ready_taken s step a h
  answer_taken (LoadingOther s) step a h = other_taken s step a h
  answer_taken (LoadingSuperblock s) step a h = superblock_taken s step a h

pub answer_one : (g : Geometry) (C : Codec) (L : Limits) (s s' s'' : Variables) (dop : DiskOp) (x y : Step⁺) → Answer dop → MachineMeets g L s
    → NextStep⁺ g C s s' dop x → NextStep⁺ g C s s'' dop y → s' ≡ s''
answer_one g C L s s' s'' dop x y a m h k = go (answer_taken g C s' dop s x a h) (answer_taken g C s'' dop s y a k)
  where
    go : NoOp⁺ s s' dop ⊎ Taken g s s' dop → NoOp⁺ s s'' dop ⊎ Taken g s s'' dop → s' ≡ s''
    go (inl p) (inl q) = p.source.next ∙ sym q.source.next
    go (inl p) (inr q) = absurd (p.unawaited (taken_awaited g s s'' dop q))
    go (inr p) (inl q) = absurd (q.unawaited (taken_awaited g s s' dop p))
    go (inr p) (inr q) = taken_one g L s s' s'' C dop m p q
