-- The departures from the sources, of document 01 and of document 02's requests. An amended predicate `Foo⁺` stands for the source's `Foo` with
-- one clause more, or, of a commit request, with another next state; the source's own is its field `source`; a named predicate says what is
-- taken away, and Laws/Departs shows that this is all. Ask again and a damaged journal answer are new. A journal answer carries no `which`.
-- There is no fallback to a single superblock to take away: it is a comment in 000. A crash takes what it leaves open from a picture. `Allowed`
-- at the end is the relation that demand 2 speaks of.
use Rattle.std.specs.Prelude.{ℕ, ◌<◌, Bool, true, not, ◌≡◌, List, [], length, get_or}
use Rattle.std.proofs.Math.Option.{Option, none, some}
use Rattle.std.proofs.Math.Option
use Rattle.layout.specs.declared.Geometry.{Geometry}
use Rattle.interval.specs.Journal.{JournalBlock}
use Rattle.laws.specs.Sets.{Map, at, put}
use Rattle.range.specs.Blank.{none_blank, SomeBlank}
use Rattle.codec.specs.Codec.{JournalEntry, JournalRange, Codec}
use Rattle.source.specs.JournalDisk as D
use Rattle.source.specs.JournalDisk.{ReqId, DiskOp, ReqReadSuperblockOp, ReqReadJournalOp, ReqWriteSuperblockOp, ReqWriteJournalOp, RespReadSuperblockOp, RespReadJournalOp, RespWriteSuperblockOp, RespWriteJournalOp, NoDiskOp, JournalUntouched}
use Rattle.source.specs.JournalCache as M
use Rattle.source.specs.JournalCache.{Variables, LoadingOther, LoadingSuperblock, LoadingOtherVariables, LoadingSuperblockVariables, IsReady, IsLoadingOther, IsLoadingSuperblock, SuperblockUnfinished, SuperblockCorruption, SyncReqStatus, State3, sync_reqs_of, with_sync_reqs, sync_reqs3to2, if_none, to_journal_reads, to_superblocks, to_write, WriteBackJournalReq, PageInJournalResp, PageInSuperblockReq, FinishLoadingOtherPhase, NoOp}
use Rattle.source.specs.JournalCache.{Step, WriteBackJournalReqStep, WriteBackJournalRespStep, WriteBackSuperblockReq-AdvanceLog-Step, WriteBackSuperblockReq-AdvanceLocation-Step, WriteBackSuperblockRespStep, PageInJournalReqStep, PageInJournalRespStep, PageInSuperblockReqStep, PageInSuperblockRespStep, FinishLoadingSuperblockPhaseStep, FinishLoadingOtherPhaseStep, FreezeStep, ReceiveFrozenLocStep, AdvanceStep, ReplayStep, PushSyncReqStep, PopSyncReqStep, NoOpStep}
use Rattle.source.specs.JournalSystem as Y
use Rattle.source.specs.Limits.{Limits}
use Rattle.source.specs.Meets.{SystemMeets}

-- "A journal write sends the one range of the frozen entries if there are any, else of those in memory."

pub record OneRange (C : Codec) (es : List JournalEntry) (jr : JournalRange) : Type 0 where
  pub good : C.good es ≡ true
  pub range_is : jr ≡ C.encode es

pub record WriteBackJournalReq⁺ (g : Geometry) (C : Codec) (s s' : Variables) (dop : DiskOp) (jr : JournalRange) : Type 0 where
  pub source : WriteBackJournalReq g C s s' dop jr
  pub one_range : IsReady s (λ s. OneRange C (to_write s) jr)

abbrev pub OtherRange : Codec → Variables → JournalRange → Type 0
OtherRange C s jr = IsReady s (λ s. OneRange C (to_write s) jr → ⊥)

-- "After FinishLoadingOtherPhase frozenJournalPosition is 0."

pub record FinishLoadingOtherPhase⁺ (g : Geometry) (C : Codec) (s s' : Variables) (dop : DiskOp) : Type 0 where
  pub source : FinishLoadingOtherPhase g C s s' dop
  pub position_is : IsReady s' (λ s'. s'.frozenJournalPosition ≡ 0)

abbrev pub OtherPosition : Variables → Type 0
OtherPosition s' = IsReady s' (λ s'. s'.frozenJournalPosition ≡ 0 → ⊥)

-- "An awaited answer is always taken. An answer nobody awaits, in any kind of state, is accepted and alters nothing (NoOp)." The source
-- lets NoOp take any answer but an awaited write's; so what is taken away is that NoOp takes an awaited read's.

abbrev pub Awaited : Variables → DiskOp → Type 0
Awaited s (RespReadSuperblockOp id which superblock) = IsLoadingSuperblock s (λ s. at s.outstanding_superblock_reads which ≡ some id)
Awaited s (RespReadJournalOp id journal) = IsLoadingOther s (λ s. (which : Bool) × (at s.journalReads which ≡ some id))
Awaited s (RespWriteSuperblockOp id which) = IsReady s (λ s. s.superblock_write ≡ some id)
Awaited s (RespWriteJournalOp id) = IsReady s (λ s. s.outstanding_journal_writes id ≡ true)
Awaited s (ReqReadSuperblockOp id which) = ⊥
Awaited s (ReqReadJournalOp id interval) = ⊥
Awaited s (ReqWriteSuperblockOp id which req) = ⊥
Awaited s (ReqWriteJournalOp id1 id2 req) = ⊥
Awaited s NoDiskOp = ⊥

pub record NoOp⁺ (s s' : Variables) (dop : DiskOp) : Type 0 where
  pub source : NoOp s s' dop
  pub unawaited : Awaited s dop → ⊥

-- "The machine too refuses (5) a superblock read under the other slot's waiting id."

abbrev pub OtherSlotWaits : Variables → DiskOp → Bool → Type 0
OtherSlotWaits s dop which =
    IsLoadingSuperblock s (λ s. (id : ReqId) × (dop ≡ ReqReadSuperblockOp id which) × (at s.outstanding_superblock_reads (not which) ≡ some id))

pub record PageInSuperblockReq⁺ (s s' : Variables) (dop : DiskOp) (which : Bool) : Type 0 where
  pub source : PageInSuperblockReq s s' dop which
  pub other_slot_is : OtherSlotWaits s dop which → ⊥

-- "A journal answer carries no which: the piece whose read has its id takes it." Nothing is taken away.

abbrev pub PageInJournalResp⁺ : Variables → Variables → DiskOp → Type 0
PageInJournalResp⁺ s s' dop = (which : Bool) × PageInJournalResp s s' dop which

-- "A damaged journal answer clears that read, so that it can be asked for again." In the source only NoOp takes such an answer.

pub record DamagedJournalClauses (s : LoadingOtherVariables) (s' : Variables) (dop : DiskOp) : Type 0 where
  pub id : ReqId
  pub op : dop ≡ RespReadJournalOp id none
  pub which : Bool
  pub waiting : at s.journalReads which ≡ some id
  pub next : s' ≡ LoadingOther (to_journal_reads (put s.journalReads which none) s)

abbrev pub DamagedJournal : Variables → Variables → DiskOp → Type 0
DamagedJournal s s' dop = IsLoadingOther s (λ s. DamagedJournalClauses s s' dop)

-- "A new step, ask again, turns a corrupt slot back into SuperblockUnfinished; it is for LoadingSuperblock only."

pub record AskAgainClauses (s : LoadingSuperblockVariables) (s' : Variables) (dop : DiskOp) (which : Bool) : Type 0 where
  pub op : dop ≡ NoDiskOp
  pub corrupt : at s.superblocks which ≡ SuperblockCorruption
  pub next : s' ≡ LoadingSuperblock (to_superblocks (put s.superblocks which SuperblockUnfinished) s)

abbrev pub AskAgain : Variables → Variables → DiskOp → Bool → Type 0
AskAgain s s' dop which = IsLoadingSuperblock s (λ s. AskAgainClauses s s' dop which)

-- "When either commit is requested and no entry is in memory, sync requests at State3 go to State2 with that request" (document 02, S-2). The
-- source's request leaves them as they are: the amended one is the source's, to a state `asked`, and then that state with the sync requests moved.

-- the sync requests after a commit request
abbrev pub idle_sync : Variables → Map SyncReqStatus
idle_sync s = Y.on_ready s (λ r. if_none r.in_memory_journal (sync_reqs3to2 r.sync_reqs) r.sync_reqs) (sync_reqs_of s)

pub record CommitReq⁺ (R : Variables → Variables → DiskOp → Type 0) (s s' : Variables) (dop : DiskOp) : Type 0 where
  pub asked : Variables
  pub source : R s asked dop
  pub next : s' ≡ with_sync_reqs (idle_sync s) asked

-- a sync request waits at State3, and no entry is in memory
abbrev pub WaitsIdle : Variables → Type 0
WaitsIdle s = IsReady s (λ s. (s.in_memory_journal ≡ []) × ((id : ℕ) × (s.sync_reqs id ≡ some State3)))

-- what is taken away: that it goes on waiting there
abbrev pub SyncStays : Variables → Variables → Type 0
SyncStays s s' = WaitsIdle s × (sync_reqs_of s' ≡ sync_reqs_of s)

-- "It refuses an add with any entry of zeros only" (document 02, S-6); what is taken away is `SomeBlank`. Such entries that are pending, stored or to be
-- replayed are as all others: no other step asks for it.

pub record Advance⁺ (s s' : Variables) (dop : DiskOp) (new-je : List JournalEntry) : Type 0 where
  pub source : M.Advance s s' dop new-je
  pub none_blank_is : none_blank new-je ≡ true

-- The machine's steps with all this: `which` of a journal answer is not looked at.

pub data Step⁺ : Type 0 where
  Source : (step : Step) → Step⁺
  DamagedJournalStep : Step⁺
  AskAgainStep : (which : Bool) → Step⁺

abbrev pub SourceStep⁺ : Geometry → Codec → Variables → Variables → DiskOp → Step → Type 0
SourceStep⁺ g C s s' dop (WriteBackJournalReqStep jr) = WriteBackJournalReq⁺ g C s s' dop jr
SourceStep⁺ g C s s' dop WriteBackJournalRespStep = M.WriteBackJournalResp s s' dop
SourceStep⁺ g C s s' dop WriteBackSuperblockReq-AdvanceLog-Step = CommitReq⁺ (M.WriteBackSuperblockReqAdvanceLog g) s s' dop
SourceStep⁺ g C s s' dop WriteBackSuperblockReq-AdvanceLocation-Step = CommitReq⁺ (M.WriteBackSuperblockReqAdvanceLocation g) s s' dop
SourceStep⁺ g C s s' dop WriteBackSuperblockRespStep = M.WriteBackSuperblockResp s s' dop
SourceStep⁺ g C s s' dop (PageInJournalReqStep which) = M.PageInJournalReq g s s' dop which
SourceStep⁺ g C s s' dop (PageInJournalRespStep which) = PageInJournalResp⁺ s s' dop
SourceStep⁺ g C s s' dop (PageInSuperblockReqStep which) = PageInSuperblockReq⁺ s s' dop which
SourceStep⁺ g C s s' dop (PageInSuperblockRespStep which) = M.PageInSuperblockResp g s s' dop which
SourceStep⁺ g C s s' dop FinishLoadingSuperblockPhaseStep = M.FinishLoadingSuperblockPhase s s' dop
SourceStep⁺ g C s s' dop FinishLoadingOtherPhaseStep = FinishLoadingOtherPhase⁺ g C s s' dop
SourceStep⁺ g C s s' dop FreezeStep = M.Freeze s s' dop
SourceStep⁺ g C s s' dop (ReceiveFrozenLocStep loc) = M.ReceiveFrozenLoc g s s' dop loc
SourceStep⁺ g C s s' dop (AdvanceStep new-je) = Advance⁺ s s' dop new-je
SourceStep⁺ g C s s' dop (ReplayStep replayed-je) = M.Replay s s' dop replayed-je
SourceStep⁺ g C s s' dop (PushSyncReqStep id) = M.PushSyncReq s s' dop id
SourceStep⁺ g C s s' dop (PopSyncReqStep id) = M.PopSyncReq s s' dop id
SourceStep⁺ g C s s' dop NoOpStep = NoOp⁺ s s' dop

abbrev pub NextStep⁺ : Geometry → Codec → Variables → Variables → DiskOp → Step⁺ → Type 0
NextStep⁺ g C s s' dop (Source step) = SourceStep⁺ g C s s' dop step
NextStep⁺ g C s s' dop DamagedJournalStep = DamagedJournal s s' dop
NextStep⁺ g C s s' dop (AskAgainStep which) = AskAgain s s' dop which

-- what the departures take away of the machine's steps, step by step; of every other step nothing
abbrev pub TakenAway : Codec → Variables → Variables → DiskOp → Step → Type 0
TakenAway C s s' dop (WriteBackJournalReqStep jr) = OtherRange C s jr
TakenAway C s s' dop WriteBackJournalRespStep = ⊥
TakenAway C s s' dop WriteBackSuperblockReq-AdvanceLog-Step = SyncStays s s'
TakenAway C s s' dop WriteBackSuperblockReq-AdvanceLocation-Step = SyncStays s s'
TakenAway C s s' dop WriteBackSuperblockRespStep = ⊥
TakenAway C s s' dop (PageInJournalReqStep which) = ⊥
TakenAway C s s' dop (PageInJournalRespStep which) = ⊥
TakenAway C s s' dop (PageInSuperblockReqStep which) = OtherSlotWaits s dop which
TakenAway C s s' dop (PageInSuperblockRespStep which) = ⊥
TakenAway C s s' dop FinishLoadingSuperblockPhaseStep = ⊥
TakenAway C s s' dop FinishLoadingOtherPhaseStep = OtherPosition s'
TakenAway C s s' dop FreezeStep = ⊥
TakenAway C s s' dop (ReceiveFrozenLocStep loc) = ⊥
TakenAway C s s' dop (AdvanceStep new-je) = SomeBlank new-je
TakenAway C s s' dop (ReplayStep replayed-je) = ⊥
TakenAway C s s' dop (PushSyncReqStep id) = ⊥
TakenAway C s s' dop (PopSyncReqStep id) = ⊥
TakenAway C s s' dop NoOpStep = Awaited s dop

-- "Blocks and marks covered by a journal write in flight are then taken from a lent picture, the others kept." Nothing is taken away: the
-- journal that a crash of the source leaves can be the picture.

pub record DiskCrash⁺ (g : Geometry) (s s' : D.Variables) (picture : List (Option JournalBlock)) : Type 0 where
  pub source : D.Crash g s s'
  pub from_picture : (i : ℕ) → i < length s.journal → (JournalUntouched g i s.req_write_journals → ⊥)
      → get_or s'.journal i none ≡ get_or picture i none

-- The system's steps

pub data Event : Type 0 where
  MachineStep : (dop : DiskOp) (machineStep : Step⁺) → Event
  DiskInternalStep : (step : D.InternalStep) → Event
  CrashStep : (picture : List (Option JournalBlock)) → Event

pub record Machine⁺ (g : Geometry) (C : Codec) (s s' : Y.Variables) (dop : DiskOp) (machineStep : Step⁺) : Type 0 where
  pub machine : NextStep⁺ g C s.machine s'.machine dop machineStep
  pub disk : D.Next g s.disk s'.disk dop

pub record Crash⁺ (g : Geometry) (s s' : Y.Variables) (picture : List (Option JournalBlock)) : Type 0 where
  pub machine : M.Init s'.machine
  pub disk : DiskCrash⁺ g s.disk s'.disk picture

abbrev pub SystemStep⁺ : Geometry → Codec → Y.Variables → Y.Variables → Event → Type 0
SystemStep⁺ g C s s' (MachineStep dop machineStep) = Machine⁺ g C s s' dop machineStep
SystemStep⁺ g C s s' (DiskInternalStep step) = Y.DiskInternal s s' step
SystemStep⁺ g C s s' (CrashStep picture) = Crash⁺ g s s' picture

-- "A state that question 2 turns away takes no step, whatever the files allow from it."
pub record Allowed (g : Geometry) (C : Codec) (L : Limits) (s s' : Y.Variables) (event : Event) : Type 0 where
  pub meets : SystemMeets g L s
  pub step : SystemStep⁺ g C s s' event

-- what the departures take away of the system's steps
abbrev pub SystemTakenAway : Codec → Y.Variables → Y.Variables → Y.Step → Type 0
SystemTakenAway C s s' (Y.Step.MachineStep dop machineStep) = TakenAway C s.machine s'.machine dop machineStep
SystemTakenAway C s s' (Y.Step.DiskInternalStep step) = ⊥
SystemTakenAway C s s' Y.Step.CrashStep = ⊥
