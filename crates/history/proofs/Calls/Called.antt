-- Calls against events: every allowed event is a call's, and of one call only; nonsense has none, and so is never taken.
use Rattle.std.specs.Prelude.{Bool, true, false, ◌≡◌, refl}
use Rattle.std.proofs.Common.{sym, ◌∙◌, subst}
use Rattle.std.proofs.Math.Option.{Option, none, some}
use Rattle.layout.specs.declared.Geometry.{Geometry}
use Rattle.superblock.specs.declared.Superblock.{Superblock}
use Rattle.codec.specs.Codec.{JournalRange, Codec}
use Rattle.source.specs.JournalDisk.{ReqId, DiskOp, NoDiskOp, ReqReadSuperblockOp, ReqReadJournalOp, ReqWriteSuperblockOp, ReqWriteJournalOp, RespReadSuperblockOp, RespReadJournalOp, RespWriteSuperblockOp, RespWriteJournalOp, ProcessWriteSuperblockStep}
use Rattle.source.specs.JournalCache as M
use Rattle.source.specs.JournalCache.{WriteBackJournalReqStep, WriteBackJournalRespStep, WriteBackSuperblockReq-AdvanceLog-Step, WriteBackSuperblockReq-AdvanceLocation-Step, WriteBackSuperblockRespStep, PageInJournalReqStep, PageInJournalRespStep, PageInSuperblockReqStep, PageInSuperblockRespStep, FinishLoadingSuperblockPhaseStep, FinishLoadingOtherPhaseStep, FreezeStep, ReceiveFrozenLocStep, AdvanceStep, ReplayStep, PushSyncReqStep, PopSyncReqStep, NoOpStep}
use Rattle.source.specs.JournalSystem as Y
use Rattle.source.specs.Limits.{Limits}
use Rattle.source.specs.Departures.{Step⁺, Source, DamagedJournalStep, AskAgainStep, Event, MachineStep, DiskInternalStep, CrashStep, DamagedJournalClauses, AskAgainClauses, NextStep⁺, Allowed}
use Rattle.source.proofs.Laws.Cases.{by_ready, by_other, by_superblock}
use Rattle.history.specs.Statement.{Tied, tied_write, tied_written, unawaited_written, tied_log, tied_location, tied_committed, unawaited_committed, tied_page, tied_paged, tied_damaged, unawaited_paged, unawaited_damaged, tied_read, tied_superblock, tied_corrupt, unawaited_superblock, unawaited_corrupt, tied_finish_superblocks, tied_finish_other, tied_freeze, tied_receive, tied_add, tied_replay, tied_push, tied_pop, tied_no_op, tied_again, tied_land, tied_crash, Takes}
use Rattle.history.specs.Ledger.{nonsense, Call, write_journal, journal_written, commit_log, commit_location, superblock_written, read_journal, journal_read, read_superblock, superblock_read, finish_superblocks, finish_other, freeze, receive, add, replay, push_sync, pop_sync, no_op, ask_again, land, crash}

-- the parts of a predicate that names a kind of machine
ready_of : (m : M.Variables) (P : M.ReadyVariables → Type 0) → M.IsReady m P → (s : M.ReadyVariables) × P s
ready_of m P h = by_ready (λ (x : M.Variables). (s : M.ReadyVariables) × P s) m P (λ s k. (s, k)) h

other_of : (m : M.Variables) (P : M.LoadingOtherVariables → Type 0) → M.IsLoadingOther m P → (s : M.LoadingOtherVariables) × P s
other_of m P h = by_other (λ (x : M.Variables). (s : M.LoadingOtherVariables) × P s) m P (λ s k. (s, k)) h

superblock_of_is : (m : M.Variables) (P : M.LoadingSuperblockVariables → Type 0) → M.IsLoadingSuperblock m P → (s : M.LoadingSuperblockVariables) × P s
superblock_of_is m P h = by_superblock (λ (x : M.Variables). (s : M.LoadingSuperblockVariables) × P s) m P (λ s k. (s, k)) h

abbrev Called : Event → Type 0
Called e = (x : Call) × Tied x e

by_op : (step : Step⁺) {dop o : DiskOp} → dop ≡ o → Called (MachineStep o step) → Called (MachineStep dop step)
by_op step e c = subst (λ (o : DiskOp). Called (MachineStep o step)) (sym e) c

superblock_called : (id : ReqId) (which : Bool) (o : Option Superblock) → Called (MachineStep (RespReadSuperblockOp id which o) (Source (PageInSuperblockRespStep which)))
superblock_called id which none = (superblock_read which id false, tied_corrupt)
superblock_called id which (some v) = (superblock_read which id true, tied_superblock)

no_op_called : (m : M.Variables) (dop : DiskOp) → M.NoOpOp m dop → Called (MachineStep dop (Source NoOpStep))
no_op_called m dop (M.NoOpOp.no_op_is e) = by_op (Source NoOpStep) e (no_op, tied_no_op)
no_op_called m dop (M.NoOpOp.superblock_read_op id which superblock e) = by_op (Source NoOpStep) e (go superblock)
  where
    go : (o : Option Superblock) → Called (MachineStep (RespReadSuperblockOp id which o) (Source NoOpStep))
    go none = (superblock_read which id false, unawaited_corrupt)
    go (some v) = (superblock_read which id true, unawaited_superblock)
no_op_called m dop (M.NoOpOp.journal_read_is id journal e) = by_op (Source NoOpStep) e (go journal)
  where
    go : (o : Option JournalRange) → Called (MachineStep (RespReadJournalOp id o) (Source NoOpStep))
    go none = (journal_read id false, unawaited_damaged)
    go (some jr) = (journal_read id true, unawaited_paged)
no_op_called m dop (M.NoOpOp.superblock_written_is id which e f) = by_op (Source NoOpStep) e (superblock_written id, unawaited_committed)
no_op_called m dop (M.NoOpOp.journal_written_is id e f) = by_op (Source NoOpStep) e (journal_written id, unawaited_written)

step_called : (g : Geometry) (C : Codec) (m m' : M.Variables) (dop : DiskOp) (step : Step⁺) → NextStep⁺ g C m m' dop step → Called (MachineStep dop step)
step_called g C m m' dop (Source (WriteBackJournalReqStep jr)) h =
    let k = (ready_of m (λ s. M.WriteBackJournalReqClauses g C s m' dop jr) h.source).1 in
    by_op (Source (WriteBackJournalReqStep jr)) k.op (write_journal k.id1 k.id2, tied_write)
step_called g C m m' dop (Source WriteBackJournalRespStep) h =
    let k = (ready_of m (λ s. M.WriteBackJournalRespClauses s m' dop) h).1 in by_op (Source WriteBackJournalRespStep) k.op (journal_written k.id, tied_written)
step_called g C m m' dop (Source WriteBackSuperblockReq-AdvanceLog-Step) h =
    let k = (ready_of m (λ s. M.WriteBackSuperblockReq-AdvanceLogClauses g s h.asked dop) h.source).1 in by_op (Source WriteBackSuperblockReq-AdvanceLog-Step) k.op (commit_log k.id, tied_log)
step_called g C m m' dop (Source WriteBackSuperblockReq-AdvanceLocation-Step) h =
    let k = (ready_of m (λ s. M.WriteBackSuperblockReq-AdvanceLocationClauses g s h.asked dop) h.source).1 in by_op (Source WriteBackSuperblockReq-AdvanceLocation-Step) k.op (commit_location k.id, tied_location)
step_called g C m m' dop (Source WriteBackSuperblockRespStep) h =
    let k = (ready_of m (λ s. M.WriteBackSuperblockRespClauses s m' dop) h).1 in by_op (Source WriteBackSuperblockRespStep) k.op (superblock_written k.id, tied_committed)
step_called g C m m' dop (Source (PageInJournalReqStep which)) h =
    let k = (other_of m (λ s. M.PageInJournalReqClauses g s m' dop which) h).1 in by_op (Source (PageInJournalReqStep which)) k.op (read_journal which k.id, tied_page)
step_called g C m m' dop (Source (PageInJournalRespStep which)) h =
    let k = (other_of m (λ s. M.PageInJournalRespClauses s m' dop h.0) h.1).1 in by_op (Source (PageInJournalRespStep which)) k.op (journal_read k.id true, tied_paged)
step_called g C m m' dop (Source (PageInSuperblockReqStep which)) h =
    let k = (superblock_of_is m (λ s. M.PageInSuperblockReqClauses s m' dop which) h.source).1 in by_op (Source (PageInSuperblockReqStep which)) k.op (read_superblock which k.id, tied_read)
step_called g C m m' dop (Source (PageInSuperblockRespStep which)) h =
    let k = (superblock_of_is m (λ s. M.PageInSuperblockRespClauses g s m' dop which) h).1 in by_op (Source (PageInSuperblockRespStep which)) k.op (superblock_called k.id which k.superblock)
step_called g C m m' dop (Source FinishLoadingSuperblockPhaseStep) h =
    let k = (superblock_of_is m (λ s. M.FinishLoadingSuperblockPhaseClauses s m' dop) h).1 in by_op (Source FinishLoadingSuperblockPhaseStep) k.op (finish_superblocks, tied_finish_superblocks)
step_called g C m m' dop (Source FinishLoadingOtherPhaseStep) h =
    let j = other_of m (λ s. M.IsReady m' (λ s'. M.FinishLoadingOtherPhaseClauses g C s s' dop)) h.source in
    let k = (ready_of m' (λ s'. M.FinishLoadingOtherPhaseClauses g C j.0 s' dop) j.1).1 in
    by_op (Source FinishLoadingOtherPhaseStep) k.op (finish_other, tied_finish_other)
step_called g C m m' dop (Source FreezeStep) h = let k = (ready_of m (λ s. M.FreezeClauses s m' dop) h).1 in by_op (Source FreezeStep) k.op (freeze, tied_freeze)
step_called g C m m' dop (Source (ReceiveFrozenLocStep loc)) h =
    let k = (ready_of m (λ s. M.ReceiveFrozenLocClauses g s m' dop loc) h).1 in by_op (Source (ReceiveFrozenLocStep loc)) k.op (receive loc, tied_receive)
step_called g C m m' dop (Source (AdvanceStep es)) h = let k = (ready_of m (λ s. M.AdvanceClauses s m' dop es) h.source).1 in by_op (Source (AdvanceStep es)) k.op (add es, tied_add)
step_called g C m m' dop (Source (ReplayStep es)) h =
    let j = ready_of m (λ s. M.IsReady m' (λ s'. M.ReplayClauses s s' dop es)) h in
    let k = (ready_of m' (λ s'. M.ReplayClauses j.0 s' dop es) j.1).1 in
    by_op (Source (ReplayStep es)) k.op (replay es, tied_replay)
step_called g C m m' dop (Source (PushSyncReqStep id)) h = by_op (Source (PushSyncReqStep id)) h.op (push_sync id, tied_push)
step_called g C m m' dop (Source (PopSyncReqStep id)) h = by_op (Source (PopSyncReqStep id)) h.op (pop_sync id, tied_pop)
step_called g C m m' dop (Source NoOpStep) h = no_op_called m dop h.source.op
step_called g C m m' dop DamagedJournalStep h =
    let k = (other_of m (λ s. DamagedJournalClauses s m' dop) h).1 in by_op DamagedJournalStep k.op (journal_read k.id false, tied_damaged)
step_called g C m m' dop (AskAgainStep which) h =
    let k = (superblock_of_is m (λ s. AskAgainClauses s m' dop which) h).1 in by_op (AskAgainStep which) k.op (ask_again which, tied_again)

-- every allowed event is a call's
pub called : (g : Geometry) (C : Codec) (L : Limits) (s t : Y.Variables) (e : Event) → Allowed g C L s t e → (x : Call) × Tied x e
called g C L s t (MachineStep dop step) a = step_called g C s.machine t.machine dop step a.step.machine
called g C L s t (DiskInternalStep (ProcessWriteSuperblockStep which)) a = (land which, tied_land)
called g C L s t (CrashStep picture) a = (crash, tied_crash)

-- the call that an event stands for, where it stands for one
abbrev call_of : Event → Call
call_of (MachineStep (ReqWriteJournalOp id1 id2 req) s) = write_journal id1 id2
call_of (MachineStep (RespWriteJournalOp id) s) = journal_written id
call_of (MachineStep (ReqWriteSuperblockOp id which req) (Source WriteBackSuperblockReq-AdvanceLog-Step)) = commit_log id
call_of (MachineStep (ReqWriteSuperblockOp id which req) s) = commit_location id
call_of (MachineStep (RespWriteSuperblockOp id which) s) = superblock_written id
call_of (MachineStep (ReqReadJournalOp id v) (Source (PageInJournalReqStep which))) = read_journal which id
call_of (MachineStep (ReqReadJournalOp id v) s) = no_op
call_of (MachineStep (RespReadJournalOp id (some jr)) s) = journal_read id true
call_of (MachineStep (RespReadJournalOp id none) s) = journal_read id false
call_of (MachineStep (ReqReadSuperblockOp id which) s) = read_superblock which id
call_of (MachineStep (RespReadSuperblockOp id which (some v)) s) = superblock_read which id true
call_of (MachineStep (RespReadSuperblockOp id which none) s) = superblock_read which id false
call_of (MachineStep NoDiskOp (Source FinishLoadingSuperblockPhaseStep)) = finish_superblocks
call_of (MachineStep NoDiskOp (Source FinishLoadingOtherPhaseStep)) = finish_other
call_of (MachineStep NoDiskOp (Source FreezeStep)) = freeze
call_of (MachineStep NoDiskOp (Source (ReceiveFrozenLocStep loc))) = receive loc
call_of (MachineStep NoDiskOp (Source (AdvanceStep es))) = add es
call_of (MachineStep NoDiskOp (Source (ReplayStep es))) = replay es
call_of (MachineStep NoDiskOp (Source (PushSyncReqStep id))) = push_sync id
call_of (MachineStep NoDiskOp (Source (PopSyncReqStep id))) = pop_sync id
call_of (MachineStep NoDiskOp (AskAgainStep which)) = ask_again which
call_of (MachineStep NoDiskOp s) = no_op
call_of (DiskInternalStep (ProcessWriteSuperblockStep which)) = land which
call_of (CrashStep picture) = crash

tied_call : (x : Call) (e : Event) → Tied x e → x ≡ call_of e
tied_call x e tied_write = refl
tied_call x e tied_written = refl
tied_call x e unawaited_written = refl
tied_call x e tied_log = refl
tied_call x e tied_location = refl
tied_call x e tied_committed = refl
tied_call x e unawaited_committed = refl
tied_call x e tied_page = refl
tied_call x e tied_paged = refl
tied_call x e tied_damaged = refl
tied_call x e unawaited_paged = refl
tied_call x e unawaited_damaged = refl
tied_call x e tied_read = refl
tied_call x e tied_superblock = refl
tied_call x e tied_corrupt = refl
tied_call x e unawaited_superblock = refl
tied_call x e unawaited_corrupt = refl
tied_call x e tied_finish_superblocks = refl
tied_call x e tied_finish_other = refl
tied_call x e tied_freeze = refl
tied_call x e tied_receive = refl
tied_call x e tied_add = refl
tied_call x e tied_replay = refl
tied_call x e tied_push = refl
tied_call x e tied_pop = refl
tied_call x e tied_no_op = refl
tied_call x e tied_again = refl
tied_call x e tied_land = refl
tied_call x e tied_crash = refl

-- and of one call only
pub called_once : (x y : Call) (e : Event) → Tied x e → Tied y e → x ≡ y
called_once x y e h k = tied_call x e h ∙ sym (tied_call y e k)

-- nonsense comes to no event, and is never taken
untied : (e : Event) → Tied nonsense e → ⊥
untied e h = elim h [ ]

pub nonsense_refused : (g : Geometry) (C : Codec) (L : Limits) (s t : Y.Variables) → Takes g C L s t nonsense → ⊥
nonsense_refused g C L s t h = untied h.event h.tied
