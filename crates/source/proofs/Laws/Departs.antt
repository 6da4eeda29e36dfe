-- The departures take away what their named predicates say, and nothing else: a step of the source is an amended one or is taken away, never
-- both; an amended step is a step of the source; and so for the system's events but the new ones (`New`).
use Rattle.std.specs.Prelude.{ℕ, Bool, true, false, not, ◌≡◌, refl, ◌⊎◌}
use Rattle.std.proofs.Math.Bool.{Bool-discrete}
use Rattle.std.proofs.Common.{sym, ◌∙◌, ap, subst, inl, inr, ⊎_elim}
use mathlib.Core.List.{List, List-discrete}
use Rattle.std.proofs.Math.Option.{Option, some}
use Rattle.std.proofs.Math.Option
use mathlib.Core.HLevel.{Discrete}
use Rattle.std.proofs.Math.Decide.{ℕ_discrete}
use Rattle.layout.specs.declared.Geometry.{Geometry}
use Rattle.laws.specs.Choice.{split_bool, true_false}
use Rattle.laws.specs.Sets.{keys, AtMost, Two, at}
use Rattle.range.specs.Blank.{none_blank, SomeBlank, some_blank, blank_some}
use Rattle.codec.specs.Codec.{JournalEntry, JournalRange, Codec}
use Rattle.source.specs.JournalDisk as D
use Rattle.source.specs.JournalDisk.{ReqId, DiskOp, ReqReadSuperblockOp, ReqReadJournalOp, ReqWriteSuperblockOp, ReqWriteJournalOp, RespReadSuperblockOp, RespReadJournalOp, RespWriteSuperblockOp, RespWriteJournalOp, NoDiskOp}
use Rattle.source.specs.JournalCache as M
use Rattle.source.specs.JournalCache.{Variables, Ready, LoadingOther, LoadingSuperblock, ReadyVariables, LoadingOtherVariables, LoadingSuperblockVariables, IsReady, IsLoadingOther, IsLoadingSuperblock, sync_reqs_of, to_write, WriteBackJournalReq, PageInSuperblockReq, FinishLoadingOtherPhase, NoOp}
use Rattle.source.specs.JournalCache.{Step, WriteBackJournalReqStep, WriteBackJournalRespStep, WriteBackSuperblockReq-AdvanceLog-Step, WriteBackSuperblockReq-AdvanceLocation-Step, WriteBackSuperblockRespStep, PageInJournalReqStep, PageInJournalRespStep, PageInSuperblockReqStep, PageInSuperblockRespStep, FinishLoadingSuperblockPhaseStep, FinishLoadingOtherPhaseStep, FreezeStep, ReceiveFrozenLocStep, AdvanceStep, ReplayStep, PushSyncReqStep, PopSyncReqStep, NoOpStep}
use Rattle.source.specs.JournalSystem as Y
use Rattle.source.specs.Limits.{Limits}
use Rattle.source.specs.Meets.{SystemMeets}
use Rattle.source.specs.Departures.{OneRange, WriteBackJournalReq⁺, OtherRange, FinishLoadingOtherPhase⁺, OtherPosition, Awaited, NoOp⁺, OtherSlotWaits, PageInSuperblockReq⁺, idle_sync, CommitReq⁺, WaitsIdle, Advance⁺, Source, DamagedJournalStep, AskAgainStep, SourceStep⁺, TakenAway, DiskCrash⁺, Event, MachineStep, DiskInternalStep, CrashStep, Allowed, SystemTakenAway}
use Rattle.source.proofs.Laws.Cases.{by_ready}
use Rattle.source.proofs.Laws.Idle.{sync_with, sync_counted, waits_moved, commit_departs, commit_source}

range_discrete : Discrete JournalRange
range_discrete = List-discrete (List-discrete ℕ_discrete)

one_range? : (C : Codec) (es : List JournalEntry) (jr : JournalRange) → Dec (OneRange C es jr)
one_range? C es jr = go (Bool-discrete (C.good es) true) (range_discrete jr (C.encode es))
  where
    go : Dec (C.good es ≡ true) → Dec (jr ≡ C.encode es) → Dec (OneRange C es jr)
    go (yes p) (yes q) = yes (record { good = p; range_is = q })
    go (yes p) (no q) = no (λ o. q o.range_is)
    go (no p) q = no (λ o. p o.good)

pub write_back_journal_req_departs : (g : Geometry) (C : Codec) (s s' : Variables) (dop : DiskOp) (jr : JournalRange)
    → WriteBackJournalReq g C s s' dop jr → WriteBackJournalReq⁺ g C s s' dop jr ⊎ OtherRange C s jr
write_back_journal_req_departs g C (Ready s) s' dop jr h = go (one_range? C (to_write s) jr)
  where
    go : Dec (OneRange C (to_write s) jr) → WriteBackJournalReq⁺ g C (Ready s) s' dop jr ⊎ (OneRange C (to_write s) jr → ⊥)
    go (yes p) = inl (record { source = h; one_range = p })
    go (no p) = inr p
write_back_journal_req_departs g C (LoadingOther s) s' dop jr h = absurd h
write_back_journal_req_departs g C (LoadingSuperblock s) s' dop jr h = absurd h

pub finish_loading_other_phase_departs : (g : Geometry) (C : Codec) (s s' : Variables) (dop : DiskOp)
    → FinishLoadingOtherPhase g C s s' dop → FinishLoadingOtherPhase⁺ g C s s' dop ⊎ OtherPosition s'
finish_loading_other_phase_departs g C (LoadingOther s) (Ready s') dop h = go (ℕ_discrete s'.frozenJournalPosition 0)
  where
    go : Dec (s'.frozenJournalPosition ≡ 0) → FinishLoadingOtherPhase⁺ g C (LoadingOther s) (Ready s') dop ⊎ (s'.frozenJournalPosition ≡ 0 → ⊥)
    go (yes p) = inl (record { source = h; position_is = p })
    go (no p) = inr p
finish_loading_other_phase_departs g C (LoadingOther s) (LoadingOther s') dop h = absurd h
finish_loading_other_phase_departs g C (LoadingOther s) (LoadingSuperblock s') dop h = absurd h
finish_loading_other_phase_departs g C (Ready s) s' dop h = absurd h
finish_loading_other_phase_departs g C (LoadingSuperblock s) s' dop h = absurd h

on_ready_is : (s : Variables) (P : ReadyVariables → Type 0) → ((r : ReadyVariables) → Dec (P r)) → Dec (IsReady s P)
on_ready_is (Ready s) P f = f s
on_ready_is (LoadingOther s) P f = no (λ x. x)
on_ready_is (LoadingSuperblock s) P f = no (λ x. x)

on_other : (s : Variables) (P : LoadingOtherVariables → Type 0) → ((r : LoadingOtherVariables) → Dec (P r)) → Dec (IsLoadingOther s P)
on_other (Ready s) P f = no (λ x. x)
on_other (LoadingOther s) P f = f s
on_other (LoadingSuperblock s) P f = no (λ x. x)

on_superblock : (s : Variables) (P : LoadingSuperblockVariables → Type 0) → ((r : LoadingSuperblockVariables) → Dec (P r)) → Dec (IsLoadingSuperblock s P)
on_superblock (Ready s) P f = no (λ x. x)
on_superblock (LoadingOther s) P f = no (λ x. x)
on_superblock (LoadingSuperblock s) P f = f s

id? : (o : Option ReqId) (id : ReqId) → Dec (o ≡ some id)
id? o id = Option.discrete ℕ_discrete o (some id)

-- which place of a pair holds the id
place? : (t : Two (Option ReqId)) (id : ReqId) → Dec ((which : Bool) × (at t which ≡ some id))
place? t id = go (id? t.first id) (id? t.second id)
  where
    neither : (t.first ≡ some id → ⊥) → (t.second ≡ some id → ⊥) → (which : Bool) → at t which ≡ some id → ⊥
    neither p q false = p
    neither p q true = q

    go : Dec (t.first ≡ some id) → Dec (t.second ≡ some id) → Dec ((which : Bool) × (at t which ≡ some id))
    go (yes p) q = yes (false, p)
    go (no p) (yes q) = yes (true, q)
    go (no p) (no q) = no (λ h. neither p q h.0 h.1)

pub awaited? : (s : Variables) (dop : DiskOp) → Dec (Awaited s dop)
awaited? s (RespReadSuperblockOp id which superblock) =
    on_superblock s (λ s. at s.outstanding_superblock_reads which ≡ some id) (λ s. id? (at s.outstanding_superblock_reads which) id)
awaited? s (RespReadJournalOp id journal) =
    on_other s (λ s. (which : Bool) × (at s.journalReads which ≡ some id)) (λ s. place? s.journalReads id)
awaited? s (RespWriteSuperblockOp id which) = on_ready_is s (λ s. s.superblock_write ≡ some id) (λ s. id? s.superblock_write id)
awaited? s (RespWriteJournalOp id) =
    on_ready_is s (λ s. s.outstanding_journal_writes id ≡ true) (λ s. Bool-discrete (s.outstanding_journal_writes id) true)
awaited? s (ReqReadSuperblockOp id which) = no (λ x. x)
awaited? s (ReqReadJournalOp id interval) = no (λ x. x)
awaited? s (ReqWriteSuperblockOp id which req) = no (λ x. x)
awaited? s (ReqWriteJournalOp id1 id2 req) = no (λ x. x)
awaited? s NoDiskOp = no (λ x. x)

pub advance_departs : (s s' : Variables) (dop : DiskOp) (es : List JournalEntry) → M.Advance s s' dop es → Advance⁺ s s' dop es ⊎ SomeBlank es
advance_departs s s' dop es h = split_bool (none_blank es) (λ e. inl (record { source = h; none_blank_is = e })) (λ e. inr (some_blank es e))

pub no_op_departs : (s s' : Variables) (dop : DiskOp) → NoOp s s' dop → NoOp⁺ s s' dop ⊎ Awaited s dop
no_op_departs s s' dop h = go (awaited? s dop)
  where
    go : Dec (Awaited s dop) → NoOp⁺ s s' dop ⊎ Awaited s dop
    go (yes p) = inr p
    go (no p) = inl (record { source = h; unawaited = p })

pub page_in_superblock_req_departs : (s s' : Variables) (dop : DiskOp) (which : Bool)
    → PageInSuperblockReq s s' dop which → PageInSuperblockReq⁺ s s' dop which ⊎ OtherSlotWaits s dop which
page_in_superblock_req_departs (LoadingSuperblock s) s' dop which h = go (id? (at s.outstanding_superblock_reads (not which)) h.id)
  where
    same_id : (a b : ReqId) → ReqReadSuperblockOp a which ≡ ReqReadSuperblockOp b which → a ≡ b
    same_id a b e = cc

    go : Dec (at s.outstanding_superblock_reads (not which) ≡ some h.id)
        → PageInSuperblockReq⁺ (LoadingSuperblock s) s' dop which ⊎ OtherSlotWaits (LoadingSuperblock s) dop which
    go (yes p) = inr (h.id, h.op, p)
    go (no p) =
        inl
        (record {
          source = h;
          other_slot_is = λ w. p (w.2 ∙ (λ i. some (same_id w.0 h.id (sym w.1 ∙ h.op) i)));
        })
page_in_superblock_req_departs (Ready s) s' dop which h = absurd h
page_in_superblock_req_departs (LoadingOther s) s' dop which h = absurd h

-- the commit requests; in the source they leave the sync requests
abbrev pub IsCommit : Step → Type 0
IsCommit step = (step ≡ WriteBackSuperblockReq-AdvanceLog-Step) ⊎ (step ≡ WriteBackSuperblockReq-AdvanceLocation-Step)

commit_leaves : (g : Geometry) (C : Codec) (s : Variables) (dop : DiskOp) (step : Step) → IsCommit step → (s' : Variables) → M.NextStep g C s s' dop step → sync_reqs_of s' ≡ sync_reqs_of s
commit_leaves g C s dop step (inl e) s' h =
    by_ready (λ t. sync_reqs_of s' ≡ sync_reqs_of t) s (λ r. M.WriteBackSuperblockReq-AdvanceLogClauses g r s' dop) (λ r k. ap sync_reqs_of k.next) (subst (M.NextStep g C s s' dop) e h)
commit_leaves g C s dop step (inr e) s' h =
    by_ready (λ t. sync_reqs_of s' ≡ sync_reqs_of t) s (λ r. M.WriteBackSuperblockReq-AdvanceLocationClauses g r s' dop) (λ r k. ap sync_reqs_of k.next) (subst (M.NextStep g C s s' dop) e h)

-- an amended commit request, over the source's step
abbrev pub Amended : Geometry → Codec → Variables → Variables → DiskOp → Step → Type 0
Amended g C s s' dop step = CommitReq⁺ (λ s s' dop. M.NextStep g C s s' dop step) s s' dop

-- every amended step is the source's, but for a commit request
pub source_next : (g : Geometry) (C : Codec) (s s' : Variables) (dop : DiskOp) (step : Step) → SourceStep⁺ g C s s' dop step → M.Next g C s s' dop ⊎ (IsCommit step × Amended g C s s' dop step)
source_next g C s s' dop (WriteBackJournalReqStep jr) h = inl (WriteBackJournalReqStep jr, h.source)
source_next g C s s' dop WriteBackJournalRespStep h = inl (WriteBackJournalRespStep, h)
source_next g C s s' dop WriteBackSuperblockReq-AdvanceLog-Step h = inr (inl refl, h)
source_next g C s s' dop WriteBackSuperblockReq-AdvanceLocation-Step h = inr (inr refl, h)
source_next g C s s' dop WriteBackSuperblockRespStep h = inl (WriteBackSuperblockRespStep, h)
source_next g C s s' dop (PageInJournalReqStep which) h = inl (PageInJournalReqStep which, h)
source_next g C s s' dop (PageInJournalRespStep which) h = inl (PageInJournalRespStep h.0, h.1)
source_next g C s s' dop (PageInSuperblockReqStep which) h = inl (PageInSuperblockReqStep which, h.source)
source_next g C s s' dop (PageInSuperblockRespStep which) h = inl (PageInSuperblockRespStep which, h)
source_next g C s s' dop FinishLoadingSuperblockPhaseStep h = inl (FinishLoadingSuperblockPhaseStep, h)
source_next g C s s' dop FinishLoadingOtherPhaseStep h = inl (FinishLoadingOtherPhaseStep, h.source)
source_next g C s s' dop FreezeStep h = inl (FreezeStep, h)
source_next g C s s' dop (ReceiveFrozenLocStep loc) h = inl (ReceiveFrozenLocStep loc, h)
source_next g C s s' dop (AdvanceStep new-je) h = inl (AdvanceStep new-je, h.source)
source_next g C s s' dop (ReplayStep replayed-je) h = inl (ReplayStep replayed-je, h)
source_next g C s s' dop (PushSyncReqStep id) h = inl (PushSyncReqStep id, h)
source_next g C s s' dop (PopSyncReqStep id) h = inl (PopSyncReqStep id, h)
source_next g C s s' dop NoOpStep h = inl (NoOpStep, h.source)

pub next_step_departs : (g : Geometry) (C : Codec) (s s' : Variables) (dop : DiskOp) (step : Step) (n : ℕ) → AtMost n (keys (sync_reqs_of s))
    → M.NextStep g C s s' dop step → SourceStep⁺ g C s s' dop step ⊎ TakenAway C s s' dop step
next_step_departs g C s s' dop (WriteBackJournalReqStep jr) n f h = write_back_journal_req_departs g C s s' dop jr h
next_step_departs g C s s' dop WriteBackJournalRespStep n f h = inl h
next_step_departs g C s s' dop WriteBackSuperblockReq-AdvanceLog-Step n f h =
    commit_departs n s s' dop (M.WriteBackSuperblockReqAdvanceLog g) f (commit_leaves g C s dop WriteBackSuperblockReq-AdvanceLog-Step (inl refl)) h
next_step_departs g C s s' dop WriteBackSuperblockReq-AdvanceLocation-Step n f h =
    commit_departs n s s' dop (M.WriteBackSuperblockReqAdvanceLocation g) f (commit_leaves g C s dop WriteBackSuperblockReq-AdvanceLocation-Step (inr refl)) h
next_step_departs g C s s' dop WriteBackSuperblockRespStep n f h = inl h
next_step_departs g C s s' dop (PageInJournalReqStep which) n f h = inl h
next_step_departs g C s s' dop (PageInJournalRespStep which) n f h = inl (which, h)
next_step_departs g C s s' dop (PageInSuperblockReqStep which) n f h = page_in_superblock_req_departs s s' dop which h
next_step_departs g C s s' dop (PageInSuperblockRespStep which) n f h = inl h
next_step_departs g C s s' dop FinishLoadingSuperblockPhaseStep n f h = inl h
next_step_departs g C s s' dop FinishLoadingOtherPhaseStep n f h = finish_loading_other_phase_departs g C s s' dop h
next_step_departs g C s s' dop FreezeStep n f h = inl h
next_step_departs g C s s' dop (ReceiveFrozenLocStep loc) n f h = inl h
next_step_departs g C s s' dop (AdvanceStep new-je) n f h = advance_departs s s' dop new-je h
next_step_departs g C s s' dop (ReplayStep replayed-je) n f h = inl h
next_step_departs g C s s' dop (PushSyncReqStep id) n f h = inl h
next_step_departs g C s s' dop (PopSyncReqStep id) n f h = inl h
next_step_departs g C s s' dop NoOpStep n f h = no_op_departs s s' dop h

-- and what is taken away is no step any more
pub taken_apart : (g : Geometry) (C : Codec) (s s' : Variables) (dop : DiskOp) (step : Step) → SourceStep⁺ g C s s' dop step → TakenAway C s s' dop step → ⊥
taken_apart g C (Ready s) s' dop (WriteBackJournalReqStep jr) h t = t h.one_range
taken_apart g C (LoadingOther s) s' dop (WriteBackJournalReqStep jr) h t = t
taken_apart g C (LoadingSuperblock s) s' dop (WriteBackJournalReqStep jr) h t = t
taken_apart g C s s' dop WriteBackJournalRespStep h t = t
taken_apart g C s s' dop WriteBackSuperblockReq-AdvanceLog-Step h t = waits_moved s t.0 (sym (ap sync_reqs_of h.next ∙ sync_with (idle_sync s) h.asked) ∙ t.1)
taken_apart g C s s' dop WriteBackSuperblockReq-AdvanceLocation-Step h t = waits_moved s t.0 (sym (ap sync_reqs_of h.next ∙ sync_with (idle_sync s) h.asked) ∙ t.1)
taken_apart g C s s' dop WriteBackSuperblockRespStep h t = t
taken_apart g C s s' dop (PageInJournalReqStep which) h t = t
taken_apart g C s s' dop (PageInJournalRespStep which) h t = t
taken_apart g C s s' dop (PageInSuperblockReqStep which) h t = h.other_slot_is t
taken_apart g C s s' dop (PageInSuperblockRespStep which) h t = t
taken_apart g C s s' dop FinishLoadingSuperblockPhaseStep h t = t
taken_apart g C s (Ready s') dop FinishLoadingOtherPhaseStep h t = t h.position_is
taken_apart g C s (LoadingOther s') dop FinishLoadingOtherPhaseStep h t = t
taken_apart g C s (LoadingSuperblock s') dop FinishLoadingOtherPhaseStep h t = t
taken_apart g C s s' dop FreezeStep h t = t
taken_apart g C s s' dop (ReceiveFrozenLocStep loc) h t = t
taken_apart g C s s' dop (AdvanceStep new-je) h t = true_false (sym h.none_blank_is ∙ blank_some new-je t)
taken_apart g C s s' dop (ReplayStep replayed-je) h t = t
taken_apart g C s s' dop (PushSyncReqStep id) h t = t
taken_apart g C s s' dop (PopSyncReqStep id) h t = t
taken_apart g C s s' dop NoOpStep h t = h.unawaited t

pub disk_crash_pictured : (g : Geometry) (s s' : D.Variables) → D.Crash g s s' → DiskCrash⁺ g s s' s'.journal
disk_crash_pictured g s s' h = record { source = h; from_picture = λ i l t. refl }

-- the events that are new: a damaged journal answer, ask again, and a commit request that moves a sync request
abbrev pub New : Y.Variables → Event → Type 0
New s (MachineStep dop (Source step)) = IsCommit step × WaitsIdle s.machine
New s (MachineStep dop DamagedJournalStep) = Unit {0}
New s (MachineStep dop (AskAgainStep which)) = Unit {0}
New s (DiskInternalStep step) = ⊥
New s (CrashStep picture) = ⊥

-- every event that is not new is a step of the source
pub allowed_next : (g : Geometry) (C : Codec) (L : Limits) (s s' : Y.Variables) (event : Event) → Allowed g C L s s' event → New s event ⊎ Y.Next g C s s'
allowed_next g C L s s' (MachineStep dop (Source step)) h =
    ⊎_elim
    (λ n. inr (Y.Step.MachineStep dop n.0, record { machine = n.1; disk = h.step.disk }))
    (λ n. commit n.0 n.1)
    (source_next g C s.machine s'.machine dop step h.step.machine)
  where
    commit : IsCommit step → Amended g C s.machine s'.machine dop step → New s (MachineStep dop (Source step)) ⊎ Y.Next g C s s'
    commit c a =
        ⊎_elim
        (λ m. inr (Y.Step.MachineStep dop step, record { machine = m; disk = h.step.disk }))
        (λ w. inl (c, w))
        (commit_source L.sync_reqs s.machine s'.machine dop (λ s s' dop. M.NextStep g C s s' dop step) (sync_counted L s.machine h.meets.machine.counts)
        (commit_leaves g C s.machine dop step c) a)
allowed_next g C L s s' (MachineStep dop DamagedJournalStep) h = inl tt
allowed_next g C L s s' (MachineStep dop (AskAgainStep which)) h = inl tt
allowed_next g C L s s' (DiskInternalStep step) h = inr (Y.Step.DiskInternalStep step, h.step)
allowed_next g C L s s' (CrashStep picture) h = inr (Y.Step.CrashStep, record { machine = h.step.machine; disk = h.step.disk.source })

-- the event of a step of the source; a crash has its own journal for the picture
abbrev pub event_of : Y.Variables → Y.Step → Event
event_of s' (Y.Step.MachineStep dop machineStep) = MachineStep dop (Source machineStep)
event_of s' (Y.Step.DiskInternalStep step) = DiskInternalStep step
event_of s' Y.Step.CrashStep = CrashStep s'.disk.journal

-- every step of the source from a state that meets question 2 is allowed, but for what is taken away
pub next_allowed : (g : Geometry) (C : Codec) (L : Limits) (s s' : Y.Variables) (step : Y.Step) → SystemMeets g L s → Y.NextStep g C s s' step
    → Allowed g C L s s' (event_of s' step) ⊎ SystemTakenAway C s s' step
next_allowed g C L s s' (Y.Step.MachineStep dop machineStep) m h = go (next_step_departs g C s.machine s'.machine dop machineStep L.sync_reqs (sync_counted L s.machine m.machine.counts) h.machine)
  where
    go : SourceStep⁺ g C s.machine s'.machine dop machineStep ⊎ TakenAway C s.machine s'.machine dop machineStep
        → Allowed g C L s s' (MachineStep dop (Source machineStep)) ⊎ TakenAway C s.machine s'.machine dop machineStep
    go (inl x) = inl (record { meets = m; step = record { machine = x; disk = h.disk } })
    go (inr x) = inr x
next_allowed g C L s s' (Y.Step.DiskInternalStep step) m h = inl (record { meets = m; step = h })
next_allowed g C L s s' Y.Step.CrashStep m h =
    inl (record { meets = m; step = record { machine = h.machine; disk = disk_crash_pictured g s.disk s'.disk h.disk } })
