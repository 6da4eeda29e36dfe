-- One next state: two next states of the same step with the same arguments are equal, for every predicate of the disk and of the machine,
-- amended where document 01 closes it, and for `Allowed`. Only two predicates need more than their own clauses: `WriteBackSuperblockResp`
-- 000's `Inv`, and a journal answer that the two reads differ; question 2 has both.
use Rattle.std.specs.Prelude.{ℕ, ◌+◌, ◌<◌, Bool, true, false, ◌≡◌, refl, length, get_or}
use Rattle.std.proofs.Common.{sym, ◌∙◌, ap, arith, ext_get_or}
use mathlib.Core.List.{List, List-discrete, append_cancel_left}
use Rattle.std.proofs.Math.Option.{Option, none, some}
use Rattle.std.proofs.Math.Option
use mathlib.Core.HLevel.{dec→stable}
use Rattle.std.proofs.Math.Decide.{ℕ_discrete}
use Rattle.laws.specs.Choice.{split_le}
use Rattle.layout.specs.declared.Geometry.{Geometry}
use Rattle.layout.specs.declared.Location.{Location}
use Rattle.layout.specs.Geometry.{num_journal_blocks}
use Rattle.interval.specs.declared.JournalInterval.{JournalInterval}
use Rattle.interval.specs.Journal.{JournalBlock, JournalUpdate}
use Rattle.laws.specs.Sets.{at, bind, same_value, none_some}
use Rattle.codec.specs.Codec.{JournalEntry, JournalRange, Codec}
use Rattle.source.specs.JournalDisk as D
use Rattle.source.specs.JournalDisk.{ReqId, ReqWriteJournal, DiskOp, ReqReadSuperblockOp, ReqReadJournalOp, ReqWriteSuperblockOp, ReqWriteJournalOp, RespReadSuperblockOp, RespReadJournalOp, RespWriteSuperblockOp, RespWriteJournalOp, NoDiskOp, JournalUntouched, written, written1, written2}
use Rattle.source.specs.JournalCache as M
use Rattle.source.specs.JournalCache.{Variables, Ready, LoadingOther, LoadingSuperblock, ReadyVariables, LoadingOtherVariables, LoadingSuperblockVariables, IsReady, IsLoadingOther, IsLoadingSuperblock, with_sync_reqs, CommitStatus, CommitNone, CommitAdvanceLog, CommitAdvanceLocation, InvReady}
use Rattle.source.specs.JournalCache.{Step, WriteBackJournalReqStep, WriteBackJournalRespStep, WriteBackSuperblockReq-AdvanceLog-Step, WriteBackSuperblockReq-AdvanceLocation-Step, WriteBackSuperblockRespStep, PageInJournalReqStep, PageInJournalRespStep, PageInSuperblockReqStep, PageInSuperblockRespStep, FinishLoadingSuperblockPhaseStep, FinishLoadingOtherPhaseStep, FreezeStep, ReceiveFrozenLocStep, AdvanceStep, ReplayStep, PushSyncReqStep, PopSyncReqStep, NoOpStep}
use Rattle.source.specs.JournalSystem as Y
use Rattle.source.specs.Limits.{Limits}
use Rattle.source.specs.Meets.{LoadingOtherShape, MachineMeets}
use Rattle.source.specs.Departures.{FinishLoadingOtherPhase⁺, idle_sync, PageInJournalResp⁺, DamagedJournalClauses, DamagedJournal, AskAgainClauses, AskAgain, SourceStep⁺, Step⁺, Source, DamagedJournalStep, AskAgainStep, NextStep⁺, DiskCrash⁺, Event, MachineStep, DiskInternalStep, CrashStep, Allowed}
use Rattle.source.specs.Within.{DiskEvent, Operation, Internal, Crashed, DiskStep⁺}

-- The disk

module _ (g : Geometry) (s s' s'' : D.Variables) where
  update_one : (v : JournalInterval) (new : List JournalBlock) → JournalUpdate g s.journal s'.journal v new → JournalUpdate g s.journal s''.journal v new
      → s'.journal ≡ s''.journal
  update_one v new h k =
      ext_get_or none s'.journal s''.journal (h.after_valid ∙ sym k.after_valid)
      (λ i l.
      let m : i < length s.journal = omega (arith, h.before_valid, h.after_valid, l) in
      h.each i m ∙ sym (k.each i m))

  pub recv_write_journal_one : (id1 : ReqId) (id2 : Option ReqId) (req : ReqWriteJournal)
      → D.RecvWriteJournal g s s' id1 id2 req → D.RecvWriteJournal g s s'' id1 id2 req → s' ≡ s''
  recv_write_journal_one id1 id2 req h k =
      split_le (req.start + length req.journal) (num_journal_blocks g)
      (λ l. (h.straight l).next ∙ (λ i. D.to_journal (same i) (D.to_req_write_journals (bind s.req_write_journals id1 (written req)) s)) ∙ sym (k.straight l).next)
      (λ l.
      (h.wrapped l).next
      ∙ (λ i.
      D.to_journal (same i)
      (D.to_req_write_journals (bind (bind s.req_write_journals id1 (written1 g req)) (same_value (h.wrapped l).two_ids (k.wrapped l).two_ids i) (written2 g req)) s))
      ∙ sym (k.wrapped l).next)
    where
      same : s'.journal ≡ s''.journal
      same = update_one (written req) req.journal h.update k.update

  pub disk_next_one : (dop : DiskOp) → D.Next g s s' dop → D.Next g s s'' dop → s' ≡ s''
  disk_next_one (ReqReadSuperblockOp id which) h k = h.next ∙ sym k.next
  disk_next_one (ReqReadJournalOp id interval) h k = h.next ∙ sym k.next
  disk_next_one (ReqWriteSuperblockOp id which req) h k = h.next ∙ sym k.next
  disk_next_one (ReqWriteJournalOp id1 id2 req) h k = recv_write_journal_one id1 id2 req h k
  disk_next_one (RespReadSuperblockOp id which superblock) h k = h.next ∙ sym k.next
  disk_next_one (RespReadJournalOp id journal) h k = h.next ∙ sym k.next
  disk_next_one (RespWriteSuperblockOp id which) h k = h.next ∙ sym k.next
  disk_next_one (RespWriteJournalOp id) h k = h.next ∙ sym k.next
  disk_next_one NoDiskOp h k = h.next ∙ sym k.next

  pub process_write_superblock_one : (which : Bool) → D.ProcessWriteSuperblock s s' which → D.ProcessWriteSuperblock s s'' which → s' ≡ s''
  process_write_superblock_one which h k = cc

  pub next_internal_one : (step : D.InternalStep) → D.NextInternalStep s s' step → D.NextInternalStep s s'' step → s' ≡ s''
  next_internal_one (D.InternalStep.ProcessWriteSuperblockStep which) h k = process_write_superblock_one which h k

  -- a block that was untouched is the old one, and one that was not is the picture's; equality of blocks is decided
  havoc_one : (picture : List (Option JournalBlock)) → DiskCrash⁺ g s s' picture → DiskCrash⁺ g s s'' picture
      → (i : ℕ) → i < length s.journal → get_or s'.journal i none ≡ get_or s''.journal i none
  havoc_one picture h k i l =
      dec→stable (Option.discrete (List-discrete ℕ_discrete) (get_or s'.journal i none) (get_or s''.journal i none))
      (λ n.
      let touched : JournalUntouched g i s.req_write_journals → ⊥ = λ u. n (sym (h.source.journal_kept.kept i l u) ∙ k.source.journal_kept.kept i l u) in
      n (h.from_picture i l touched ∙ sym (k.from_picture i l touched)))

  pub disk_crash_one : (picture : List (Option JournalBlock)) → DiskCrash⁺ g s s' picture → DiskCrash⁺ g s s'' picture → s' ≡ s''
  disk_crash_one picture h k =
      λ i.
      record {
        req_read_superblocks = (h.source.no_superblock_reads ∙ sym k.source.no_superblock_reads) i;
        req_read_journals = (h.source.no_journal_reads ∙ sym k.source.no_journal_reads) i;
        req_write_superblocks = (h.source.no_superblock_writes ∙ sym k.source.no_superblock_writes) i;
        req_write_journals = (h.source.no_journal_writes ∙ sym k.source.no_journal_writes) i;
        superblocks = (h.source.superblocks_kept ∙ sym k.source.superblocks_kept) i;
        journal = same i;
      }
    where
      same : s'.journal ≡ s''.journal
      same =
          ext_get_or none s'.journal s''.journal (h.source.journal_kept.size ∙ sym k.source.journal_kept.size)
          (λ i l. havoc_one picture h k i (omega (arith, h.source.journal_kept.size, l)))

  pub disk_step_one : (event : DiskEvent) → DiskStep⁺ g s s' event → DiskStep⁺ g s s'' event → s' ≡ s''
  disk_step_one (Operation dop) h k = disk_next_one dop h k
  disk_step_one (Internal step) h k = next_internal_one step h k
  disk_step_one (Crashed picture) h k = disk_crash_one picture h k

-- The machine. Two facts of one case, put together

on_ready_is : {G : Type 0} (s : Variables) (P Q : ReadyVariables → Type 0) → ((r : ReadyVariables) → P r → Q r → G) → IsReady s P → IsReady s Q → G
on_ready_is (Ready s) P Q f h k = f s h k
on_ready_is (LoadingOther s) P Q f h k = absurd h
on_ready_is (LoadingSuperblock s) P Q f h k = absurd h

on_other : {G : Type 0} (s : Variables) (P Q : LoadingOtherVariables → Type 0) → ((r : LoadingOtherVariables) → P r → Q r → G) → IsLoadingOther s P → IsLoadingOther s Q → G
on_other (Ready s) P Q f h k = absurd h
on_other (LoadingOther s) P Q f h k = f s h k
on_other (LoadingSuperblock s) P Q f h k = absurd h

on_superblock : {G : Type 0} (s : Variables) (P Q : LoadingSuperblockVariables → Type 0) → ((r : LoadingSuperblockVariables) → P r → Q r → G)
    → IsLoadingSuperblock s P → IsLoadingSuperblock s Q → G
on_superblock (Ready s) P Q f h k = absurd h
on_superblock (LoadingOther s) P Q f h k = absurd h
on_superblock (LoadingSuperblock s) P Q f h k = f s h k

module _ (g : Geometry) (C : Codec) (s s' s'' : Variables) (dop : DiskOp) where
  pub write_back_journal_req_one : (jr : JournalRange) → M.WriteBackJournalReq g C s s' dop jr → M.WriteBackJournalReq g C s s'' dop jr → s' ≡ s''
  write_back_journal_req_one jr =
      on_ready_is s (λ s. M.WriteBackJournalReqClauses g C s s' dop jr) (λ s. M.WriteBackJournalReqClauses g C s s'' dop jr)
      (λ s h k. cc)

  pub write_back_journal_resp_one : M.WriteBackJournalResp s s' dop → M.WriteBackJournalResp s s'' dop → s' ≡ s''
  write_back_journal_resp_one =
      on_ready_is s (λ s. M.WriteBackJournalRespClauses s s' dop) (λ s. M.WriteBackJournalRespClauses s s'' dop)
      (λ s h k. cc)

  pub advance_log_one : M.WriteBackSuperblockReqAdvanceLog g s s' dop → M.WriteBackSuperblockReqAdvanceLog g s s'' dop → s' ≡ s''
  advance_log_one =
      on_ready_is s (λ s. M.WriteBackSuperblockReq-AdvanceLogClauses g s s' dop) (λ s. M.WriteBackSuperblockReq-AdvanceLogClauses g s s'' dop)
      (λ s h k. cc)

  pub advance_location_one : M.WriteBackSuperblockReqAdvanceLocation g s s' dop → M.WriteBackSuperblockReqAdvanceLocation g s s'' dop → s' ≡ s''
  advance_location_one =
      on_ready_is s (λ s. M.WriteBackSuperblockReq-AdvanceLocationClauses g s s' dop) (λ s. M.WriteBackSuperblockReq-AdvanceLocationClauses g s s'' dop)
      (λ s h k. cc)

  pub page_in_journal_req_one : (which : Bool) → M.PageInJournalReq g s s' dop which → M.PageInJournalReq g s s'' dop which → s' ≡ s''
  page_in_journal_req_one which =
      on_other s (λ s. M.PageInJournalReqClauses g s s' dop which) (λ s. M.PageInJournalReqClauses g s s'' dop which)
      (λ s h k. cc)

  pub page_in_superblock_req_one : (which : Bool) → M.PageInSuperblockReq s s' dop which → M.PageInSuperblockReq s s'' dop which → s' ≡ s''
  page_in_superblock_req_one which =
      on_superblock s (λ s. M.PageInSuperblockReqClauses s s' dop which) (λ s. M.PageInSuperblockReqClauses s s'' dop which)
      (λ s h k. cc)

  pub page_in_superblock_resp_one : (which : Bool) → M.PageInSuperblockResp g s s' dop which → M.PageInSuperblockResp g s s'' dop which → s' ≡ s''
  page_in_superblock_resp_one which =
      on_superblock s (λ s. M.PageInSuperblockRespClauses g s s' dop which) (λ s. M.PageInSuperblockRespClauses g s s'' dop which)
      (λ s h k. cc)

  pub finish_loading_superblock_phase_one : M.FinishLoadingSuperblockPhase s s' dop → M.FinishLoadingSuperblockPhase s s'' dop → s' ≡ s''
  finish_loading_superblock_phase_one =
      on_superblock s (λ s. M.FinishLoadingSuperblockPhaseClauses s s' dop) (λ s. M.FinishLoadingSuperblockPhaseClauses s s'' dop)
      (λ s h k. cc)

  pub freeze_one : M.Freeze s s' dop → M.Freeze s s'' dop → s' ≡ s''
  freeze_one = on_ready_is s (λ s. M.FreezeClauses s s' dop) (λ s. M.FreezeClauses s s'' dop) (λ s h k. h.next ∙ sym k.next)

  pub receive_frozen_loc_one : (loc : Location) → M.ReceiveFrozenLoc g s s' dop loc → M.ReceiveFrozenLoc g s s'' dop loc → s' ≡ s''
  receive_frozen_loc_one loc = on_ready_is s (λ s. M.ReceiveFrozenLocClauses g s s' dop loc) (λ s. M.ReceiveFrozenLocClauses g s s'' dop loc) (λ s h k. h.next ∙ sym k.next)

  pub advance_one : (new-je : List JournalEntry) → M.Advance s s' dop new-je → M.Advance s s'' dop new-je → s' ≡ s''
  advance_one new-je = on_ready_is s (λ s. M.AdvanceClauses s s' dop new-je) (λ s. M.AdvanceClauses s s'' dop new-je) (λ s h k. h.next ∙ sym k.next)

  pub ask_again_one : (which : Bool) → AskAgain s s' dop which → AskAgain s s'' dop which → s' ≡ s''
  ask_again_one which = on_superblock s (λ s. AskAgainClauses s s' dop which) (λ s. AskAgainClauses s s'' dop which) (λ s h k. h.next ∙ sym k.next)

-- a commit is in flight, so the next state is said
resp_one : (g : Geometry) (s : ReadyVariables) (s' s'' : Variables) (dop : DiskOp) → InvReady g s
    → M.WriteBackSuperblockRespClauses s s' dop → M.WriteBackSuperblockRespClauses s s'' dop → s' ≡ s''
resp_one g s s' s'' dop inv h k = go s.commit_status refl
  where
    go : (c : CommitStatus) → s.commit_status ≡ c → s' ≡ s''
    go CommitNone e = none_some (inv.write_commit.1 e) (sym h.waiting)
    go CommitAdvanceLog e = cc (h.advance_log_is e, k.advance_log_is e)
    go CommitAdvanceLocation e = cc (h.advance_location_is e, k.advance_location_is e)

pub write_back_superblock_resp_one : (g : Geometry) (s s' s'' : Variables) (dop : DiskOp) → M.Inv g s
    → M.WriteBackSuperblockResp s s' dop → M.WriteBackSuperblockResp s s'' dop → s' ≡ s''
write_back_superblock_resp_one g (Ready s) s' s'' dop inv h k = resp_one g s s' s'' dop inv h k
write_back_superblock_resp_one g (LoadingOther s) s' s'' dop inv h k = absurd h
write_back_superblock_resp_one g (LoadingSuperblock s) s' s'' dop inv h k = absurd h

-- the two reads differ, so one piece has the answer's id
same_piece : (g : Geometry) (s : LoadingOtherVariables) → LoadingOtherShape g s → (id : ReqId) (v w : Bool)
    → at s.journalReads v ≡ some id → at s.journalReads w ≡ some id → v ≡ w
same_piece g s l id true true p q = refl
same_piece g s l id true false p q = absurd (l.reads_differ id q p)
same_piece g s l id false true p q = absurd (l.reads_differ id p q)
same_piece g s l id false false p q = refl

piece_one : (g : Geometry) (s : LoadingOtherVariables) (s' s'' : Variables) (dop : DiskOp) (v w : Bool) → LoadingOtherShape g s
    → M.PageInJournalRespClauses s s' dop v → M.PageInJournalRespClauses s s'' dop w → s' ≡ s''
piece_one g s s' s'' dop v w l h k =
    let i : h.id ≡ k.id = cc in
    let p : v ≡ w = same_piece g s l k.id v w (h.waiting ∙ (λ n. some (i n))) k.waiting in
    cc

pub page_in_journal_resp_one : (g : Geometry) (L : Limits) (s s' s'' : Variables) (dop : DiskOp) → MachineMeets g L s
    → PageInJournalResp⁺ s s' dop → PageInJournalResp⁺ s s'' dop → s' ≡ s''
page_in_journal_resp_one g L (Ready s) s' s'' dop m h k = absurd h.1
page_in_journal_resp_one g L (LoadingOther s) s' s'' dop m h k = piece_one g s s' s'' dop h.0 k.0 m.shape h.1 k.1
page_in_journal_resp_one g L (LoadingSuperblock s) s' s'' dop m h k = absurd h.1

damaged_one : (g : Geometry) (s : LoadingOtherVariables) (s' s'' : Variables) (dop : DiskOp) → LoadingOtherShape g s
    → DamagedJournalClauses s s' dop → DamagedJournalClauses s s'' dop → s' ≡ s''
damaged_one g s s' s'' dop l h k =
    let i : h.id ≡ k.id = cc in
    let p : h.which ≡ k.which = same_piece g s l k.id h.which k.which (h.waiting ∙ (λ n. some (i n))) k.waiting in
    cc

pub damaged_journal_one : (g : Geometry) (L : Limits) (s s' s'' : Variables) (dop : DiskOp) → MachineMeets g L s
    → DamagedJournal s s' dop → DamagedJournal s s'' dop → s' ≡ s''
damaged_journal_one g L (Ready s) s' s'' dop m h k = absurd h
damaged_journal_one g L (LoadingOther s) s' s'' dop m h k = damaged_one g s s' s'' dop m.shape h k
damaged_journal_one g L (LoadingSuperblock s) s' s'' dop m h k = absurd h

-- every field of the machine at Ready is said
finish_one : (g : Geometry) (C : Codec) (s : LoadingOtherVariables) (s' s'' : ReadyVariables) (dop : DiskOp)
    → M.FinishLoadingOtherPhaseClauses g C s s' dop → s'.frozenJournalPosition ≡ 0
    → M.FinishLoadingOtherPhaseClauses g C s s'' dop → s''.frozenJournalPosition ≡ 0 → s' ≡ s''
finish_one g C s s' s'' dop h p k q =
    λ i.
    record {
      frozenLoc = (h.frozen_loc_is ∙ sym k.frozen_loc_is) i;
      isFrozen = (h.is_frozen_is ∙ sym k.is_frozen_is) i;
      frozenJournalPosition = (p ∙ sym q) i;
      superblock_write = (h.superblock_write_is ∙ sym k.superblock_write_is) i;
      in_memory_journal_frozen = (h.in_memory_journal_frozen_is ∙ sym k.in_memory_journal_frozen_is) i;
      in_memory_journal = (h.in_memory_journal_is ∙ sym k.in_memory_journal_is) i;
      outstanding_journal_writes = (h.outstanding_journal_writes_is ∙ sym k.outstanding_journal_writes_is) i;
      writtenJournalLen = (h.written_journal_len_is ∙ sym k.written_journal_len_is) i;
      replay_journal = same_value h.parses k.parses i;
      superblock = (h.superblock_is ∙ sym k.superblock_is) i;
      whichSuperblock = (h.which_superblock_is ∙ sym k.which_superblock_is) i;
      commit_status = (h.commit_status_is ∙ sym k.commit_status_is) i;
      new_superblock = (h.new_superblock_is ∙ sym k.new_superblock_is) i;
      sync_reqs = (h.sync_reqs_is ∙ sym k.sync_reqs_is) i;
    }

pub finish_loading_other_phase_one : (g : Geometry) (C : Codec) (s s' s'' : Variables) (dop : DiskOp)
    → FinishLoadingOtherPhase⁺ g C s s' dop → FinishLoadingOtherPhase⁺ g C s s'' dop → s' ≡ s''
finish_loading_other_phase_one g C (LoadingOther s) (Ready s') (Ready s'') dop h k =
    ap (λ (r : ReadyVariables). Ready r) (finish_one g C s s' s'' dop h.source h.position_is k.source k.position_is)
finish_loading_other_phase_one g C (LoadingOther s) (Ready s') (LoadingOther s'') dop h k = absurd k.source
finish_loading_other_phase_one g C (LoadingOther s) (Ready s') (LoadingSuperblock s'') dop h k = absurd k.source
finish_loading_other_phase_one g C (LoadingOther s) (LoadingOther s') s'' dop h k = absurd h.source
finish_loading_other_phase_one g C (LoadingOther s) (LoadingSuperblock s') s'' dop h k = absurd h.source
finish_loading_other_phase_one g C (Ready s) s' s'' dop h k = absurd h.source
finish_loading_other_phase_one g C (LoadingSuperblock s) s' s'' dop h k = absurd h.source

-- what is left to replay follows from what was replayed
replayed_one : (s s' s'' : ReadyVariables) (dop : DiskOp) (je : List JournalEntry) → M.ReplayClauses s s' dop je → M.ReplayClauses s s'' dop je → s' ≡ s''
replayed_one s s' s'' dop je h k =
    let e : s'.replay_journal ≡ s''.replay_journal = append_cancel_left je s'.replay_journal s''.replay_journal (sym h.prefix ∙ k.prefix) in
    h.next ∙ (λ i. M.to_replay_journal (e i) s) ∙ sym k.next

pub replay_one : (s s' s'' : Variables) (dop : DiskOp) (replayed-je : List JournalEntry) → M.Replay s s' dop replayed-je → M.Replay s s'' dop replayed-je → s' ≡ s''
replay_one (Ready s) (Ready s') (Ready s'') dop je h k = ap (λ (r : ReadyVariables). Ready r) (replayed_one s s' s'' dop je h k)
replay_one (Ready s) (Ready s') (LoadingOther s'') dop je h k = absurd k
replay_one (Ready s) (Ready s') (LoadingSuperblock s'') dop je h k = absurd k
replay_one (Ready s) (LoadingOther s') s'' dop je h k = absurd h
replay_one (Ready s) (LoadingSuperblock s') s'' dop je h k = absurd h
replay_one (LoadingOther s) s' s'' dop je h k = absurd h
replay_one (LoadingSuperblock s) s' s'' dop je h k = absurd h

module _ (g : Geometry) (C : Codec) (L : Limits) (s s' s'' : Variables) (dop : DiskOp) where
  pub source_step_one : (step : Step) → MachineMeets g L s → SourceStep⁺ g C s s' dop step → SourceStep⁺ g C s s'' dop step → s' ≡ s''
  source_step_one (WriteBackJournalReqStep jr) m h k = write_back_journal_req_one g C s s' s'' dop jr h.source k.source
  source_step_one WriteBackJournalRespStep m h k = write_back_journal_resp_one g C s s' s'' dop h k
  source_step_one WriteBackSuperblockReq-AdvanceLog-Step m h k = h.next ∙ ap (with_sync_reqs (idle_sync s)) (advance_log_one g C s h.asked k.asked dop h.source k.source) ∙ sym k.next
  source_step_one WriteBackSuperblockReq-AdvanceLocation-Step m h k = h.next ∙ ap (with_sync_reqs (idle_sync s)) (advance_location_one g C s h.asked k.asked dop h.source k.source) ∙ sym k.next
  source_step_one WriteBackSuperblockRespStep m h k = write_back_superblock_resp_one g s s' s'' dop m.inv h k
  source_step_one (PageInJournalReqStep which) m h k = page_in_journal_req_one g C s s' s'' dop which h k
  source_step_one (PageInJournalRespStep which) m h k = page_in_journal_resp_one g L s s' s'' dop m h k
  source_step_one (PageInSuperblockReqStep which) m h k = page_in_superblock_req_one g C s s' s'' dop which h.source k.source
  source_step_one (PageInSuperblockRespStep which) m h k = page_in_superblock_resp_one g C s s' s'' dop which h k
  source_step_one FinishLoadingSuperblockPhaseStep m h k = finish_loading_superblock_phase_one g C s s' s'' dop h k
  source_step_one FinishLoadingOtherPhaseStep m h k = finish_loading_other_phase_one g C s s' s'' dop h k
  source_step_one FreezeStep m h k = freeze_one g C s s' s'' dop h k
  source_step_one (ReceiveFrozenLocStep loc) m h k = receive_frozen_loc_one g C s s' s'' dop loc h k
  source_step_one (AdvanceStep new-je) m h k = advance_one g C s s' s'' dop new-je h.source k.source
  source_step_one (ReplayStep replayed-je) m h k = replay_one s s' s'' dop replayed-je h k
  source_step_one (PushSyncReqStep id) m h k = h.next ∙ sym k.next
  source_step_one (PopSyncReqStep id) m h k = h.next ∙ sym k.next
  source_step_one NoOpStep m h k = h.source.next ∙ sym k.source.next

  pub next_step_one : (step : Step⁺) → MachineMeets g L s → NextStep⁺ g C s s' dop step → NextStep⁺ g C s s'' dop step → s' ≡ s''
  next_step_one (Source step) m h k = source_step_one step m h k
  next_step_one DamagedJournalStep m h k = damaged_journal_one g L s s' s'' dop m h k
  next_step_one (AskAgainStep which) m h k = ask_again_one g C s s' s'' dop which h k

-- The system

pub allowed_one : (g : Geometry) (C : Codec) (L : Limits) (s s' s'' : Y.Variables) (event : Event) → Allowed g C L s s' event → Allowed g C L s s'' event → s' ≡ s''
allowed_one g C L s s' s'' (MachineStep dop machineStep) h k =
    λ i.
    record {
      machine = next_step_one g C L s.machine s'.machine s''.machine dop machineStep h.meets.machine h.step.machine k.step.machine i;
      disk = disk_step_one g s.disk s'.disk s''.disk (Operation dop) h.step.disk k.step.disk i;
    }
allowed_one g C L s s' s'' (DiskInternalStep step) h k =
    λ i.
    record {
      machine = (sym h.step.machine ∙ k.step.machine) i;
      disk = disk_step_one g s.disk s'.disk s''.disk (Internal step) h.step.disk k.step.disk i;
    }
allowed_one g C L s s' s'' (CrashStep picture) h k =
    λ i.
    record {
      machine = (h.step.machine ∙ sym k.step.machine) i;
      disk = disk_step_one g s.disk s'.disk s''.disk (Crashed picture) h.step.disk k.step.disk i;
    }
