-- The statement of demand 3: all that a reader has to believe beside the ledger, and nothing else. Which events of the source a call can come
-- to; lists of calls with their answers; a load; what a loaded machine shows; and last, any store whose calls are seen so.
use Rattle.std.specs.Prelude.{ℕ, ◌%◌, Bool, true, false, cond, not, ◌≡◌, List, [], ◌∷◌, ◌++◌, map, ◌↔◌, eqb}
use Rattle.std.proofs.Math.Option.{Option, none, some}
use Rattle.laws.specs.Sets.{empty_ids, no_keys}
use Rattle.layout.specs.declared.Geometry.{Geometry}
use Rattle.layout.specs.declared.Location.{Location}
use Rattle.interval.specs.declared.JournalInterval.{JournalInterval}
use Rattle.interval.specs.Journal.{JournalBlock}
use Rattle.superblock.specs.declared.Superblock.{Superblock}
use Rattle.codec.specs.Codec.{JournalEntry, JournalRange, Codec}
use Rattle.source.specs.JournalDisk.{ReqId, ReqWriteSuperblock, ReqWriteJournal, ReqReadSuperblockOp, ReqReadJournalOp, ReqWriteSuperblockOp, ReqWriteJournalOp, RespReadSuperblockOp, RespReadJournalOp, RespWriteSuperblockOp, RespWriteJournalOp, NoDiskOp, ProcessWriteSuperblockStep}
use Rattle.source.specs.JournalCache as M
use Rattle.source.specs.JournalCache.{CommitNone, selected_second, WriteBackJournalReqStep, WriteBackJournalRespStep, WriteBackSuperblockReq-AdvanceLog-Step, WriteBackSuperblockReq-AdvanceLocation-Step, WriteBackSuperblockRespStep, PageInJournalReqStep, PageInJournalRespStep, PageInSuperblockReqStep, PageInSuperblockRespStep, FinishLoadingSuperblockPhaseStep, FinishLoadingOtherPhaseStep, FreezeStep, ReceiveFrozenLocStep, AdvanceStep, ReplayStep, PushSyncReqStep, PopSyncReqStep, NoOpStep}
use Rattle.source.specs.JournalSystem as Y
use Rattle.source.specs.JournalSystem.{superblock_of_disk}
use Rattle.source.specs.Limits.{Limits}
use Rattle.source.specs.Departures.{Source, DamagedJournalStep, AskAgainStep, Event, MachineStep, DiskInternalStep, CrashStep, Allowed}
use Rattle.history.specs.Ledger.{Call, write_journal, journal_written, commit_log, commit_location, superblock_written, read_journal, journal_read, read_superblock, superblock_read, finish_superblocks, finish_other, freeze, receive, add, replay, push_sync, pop_sync, no_op, ask_again, land, crash, nonsense, Ledger, begin, books, Shown}

-- Calls and events. An event of the source has in it what the store found itself: the range, the interval, the superblock, the slot of a
-- commit. An answer comes to its own step where it is awaited, to NoOp where nobody awaits it. Nonsense comes to no event.
pub data Tied : Call → Event → Type 0 where
  tied_write : {id1 : ReqId} {id2 : Option ReqId} {req : ReqWriteJournal} {jr : JournalRange} → Tied (write_journal id1 id2) (MachineStep (ReqWriteJournalOp id1 id2 req) (Source (WriteBackJournalReqStep jr)))
  tied_written : {id : ReqId} → Tied (journal_written id) (MachineStep (RespWriteJournalOp id) (Source WriteBackJournalRespStep))
  unawaited_written : {id : ReqId} → Tied (journal_written id) (MachineStep (RespWriteJournalOp id) (Source NoOpStep))
  tied_log : {id : ReqId} {which : Bool} {req : ReqWriteSuperblock} → Tied (commit_log id) (MachineStep (ReqWriteSuperblockOp id which req) (Source WriteBackSuperblockReq-AdvanceLog-Step))
  tied_location : {id : ReqId} {which : Bool} {req : ReqWriteSuperblock} → Tied (commit_location id) (MachineStep (ReqWriteSuperblockOp id which req) (Source WriteBackSuperblockReq-AdvanceLocation-Step))
  tied_committed : {id : ReqId} {which : Bool} → Tied (superblock_written id) (MachineStep (RespWriteSuperblockOp id which) (Source WriteBackSuperblockRespStep))
  unawaited_committed : {id : ReqId} {which : Bool} → Tied (superblock_written id) (MachineStep (RespWriteSuperblockOp id which) (Source NoOpStep))
  tied_page : {which : Bool} {id : ReqId} {v : JournalInterval} → Tied (read_journal which id) (MachineStep (ReqReadJournalOp id v) (Source (PageInJournalReqStep which)))
  tied_paged : {id : ReqId} {which : Bool} {jr : JournalRange} → Tied (journal_read id true) (MachineStep (RespReadJournalOp id (some jr)) (Source (PageInJournalRespStep which)))
  tied_damaged : {id : ReqId} → Tied (journal_read id false) (MachineStep (RespReadJournalOp id none) DamagedJournalStep)
  unawaited_paged : {id : ReqId} {jr : JournalRange} → Tied (journal_read id true) (MachineStep (RespReadJournalOp id (some jr)) (Source NoOpStep))
  unawaited_damaged : {id : ReqId} → Tied (journal_read id false) (MachineStep (RespReadJournalOp id none) (Source NoOpStep))
  tied_read : {which : Bool} {id : ReqId} → Tied (read_superblock which id) (MachineStep (ReqReadSuperblockOp id which) (Source (PageInSuperblockReqStep which)))
  tied_superblock : {which : Bool} {id : ReqId} {v : Superblock} → Tied (superblock_read which id true) (MachineStep (RespReadSuperblockOp id which (some v)) (Source (PageInSuperblockRespStep which)))
  tied_corrupt : {which : Bool} {id : ReqId} → Tied (superblock_read which id false) (MachineStep (RespReadSuperblockOp id which none) (Source (PageInSuperblockRespStep which)))
  unawaited_superblock : {which : Bool} {id : ReqId} {v : Superblock} → Tied (superblock_read which id true) (MachineStep (RespReadSuperblockOp id which (some v)) (Source NoOpStep))
  unawaited_corrupt : {which : Bool} {id : ReqId} → Tied (superblock_read which id false) (MachineStep (RespReadSuperblockOp id which none) (Source NoOpStep))
  tied_finish_superblocks : Tied finish_superblocks (MachineStep NoDiskOp (Source FinishLoadingSuperblockPhaseStep))
  tied_finish_other : Tied finish_other (MachineStep NoDiskOp (Source FinishLoadingOtherPhaseStep))
  tied_freeze : Tied freeze (MachineStep NoDiskOp (Source FreezeStep))
  tied_receive : {loc : Location} → Tied (receive loc) (MachineStep NoDiskOp (Source (ReceiveFrozenLocStep loc)))
  tied_add : {es : List JournalEntry} → Tied (add es) (MachineStep NoDiskOp (Source (AdvanceStep es)))
  tied_replay : {es : List JournalEntry} → Tied (replay es) (MachineStep NoDiskOp (Source (ReplayStep es)))
  tied_push : {id : ℕ} → Tied (push_sync id) (MachineStep NoDiskOp (Source (PushSyncReqStep id)))
  tied_pop : {id : ℕ} → Tied (pop_sync id) (MachineStep NoDiskOp (Source (PopSyncReqStep id)))
  tied_no_op : Tied no_op (MachineStep NoDiskOp (Source NoOpStep))
  tied_again : {which : Bool} → Tied (ask_again which) (MachineStep NoDiskOp (AskAgainStep which))
  tied_land : {which : Bool} → Tied (land which) (DiskInternalStep (ProcessWriteSuperblockStep which))
  tied_crash : {picture : List (Option JournalBlock)} → Tied crash (CrashStep picture)

-- a call is taken: some event of its own is allowed
pub record Takes (g : Geometry) (C : Codec) (L : Limits) (s t : Y.Variables) (x : Call) : Type 0 where
  pub event : Event
  pub tied : Tied x event
  pub allowed : Allowed g C L s t event

-- an accepted call is a step, by what `takes` says of it; a refused one leaves the state as it is
abbrev pub Goes : {S X : Type 0} → (S → S → X → Type 0) → S → X → Bool → S → Type 0
Goes takes s x true t = takes s t x
Goes takes s x false t = t ≡ s

-- each call gets the state as the last one left it
abbrev pub Runs : {S X : Type 0} → (S → X → Bool → S → Type 0) → S → List X → List Bool → S → Type 0
Runs goes s [] [] t = t ≡ s
Runs goes s [] (b ∷ bs) t = ⊥
Runs goes s (x ∷ xs) [] t = ⊥
Runs {S} goes s (x ∷ xs) (b ∷ bs) t = (u : S) × goes s x b u × Runs goes u xs bs t

-- a list of calls with their answers
abbrev pub Trace : Geometry → Codec → Limits → Y.Variables → List Call → List Bool → Y.Variables → Type 0
Trace g C L = Runs (Goes (Takes g C L))

-- reads and their whole answers, and the two finishing steps
unfoldable pub loads : Call → Bool
loads (write_journal id1 id2) = false
loads (journal_written id) = false
loads (commit_log id) = false
loads (commit_location id) = false
loads (superblock_written id) = false
loads (read_journal which id) = true
loads (journal_read id whole) = whole
loads (read_superblock which id) = true
loads (superblock_read which id whole) = whole
loads finish_superblocks = true
loads finish_other = true
loads freeze = false
loads (receive loc) = false
loads (add es) = false
loads (replay es) = false
loads (push_sync id) = false
loads (pop_sync id) = false
loads no_op = false
loads (ask_again which) = false
loads (land which) = false
loads crash = false
loads nonsense = false

-- no step is taken but those of a load; refused ones may stand between
abbrev pub OnlyLoads : List Call → List Bool → Type 0
OnlyLoads [] bs = Unit {0}
OnlyLoads (x ∷ xs) [] = Unit {0}
OnlyLoads (x ∷ xs) (b ∷ bs) = (b ≡ true → loads x ≡ true) × OnlyLoads xs bs

-- a store that was given a list and then a crash, which it took, and was then loaded to Ready
pub record Loaded (g : Geometry) (C : Codec) (L : Limits) (first : Y.Variables) (calls : List Call) (answers : List Bool) (loading : List Call) (loaded : List Bool) (r : M.ReadyVariables) : Type 0 where
  pub before : Y.Variables
  pub ran : Trace g C L first calls answers before
  pub after : Y.Variables
  pub crashed : Takes g C L before after crash
  pub end : Y.Variables
  pub load : Trace g C L after loading loaded end
  pub only_loads : OnlyLoads loading loaded
  pub ready : end.machine ≡ M.Variables.Ready r

-- its ledger: from the first disk, the calls, and which were refused, alone
abbrev pub ledger_of : (g : Geometry) (C : Codec) (first : Y.Variables) (loc : Location) → Y.Init g first loc → List Call → List Bool → List Call → List Bool → Ledger
ledger_of g C first loc i calls answers loading loaded =
    books g C (begin (superblock_of_disk g first.disk i.wf)) (calls ++ crash ∷ loading) (answers ++ true ∷ loaded)

-- what a machine at Ready shows of a ledger: the replay entries are the ledger's
abbrev pub shows : M.ReadyVariables → Shown
shows r =
    record {
      counter = r.superblock.counter;
      start = r.superblock.journalStart;
      loc = r.superblock.indirectionTableLoc;
      blocks = r.superblock.journalLen;
      entries = r.replay_journal;
    }

-- what two loaded stores have to do with their ledgers
pub record Tells (r q : M.ReadyVariables) (v u : Shown) : Type 0 where
  pub equal : (r ≡ q) ↔ (v ≡ u)
  pub first_shows : shows r ≡ v
  pub second_shows : shows q ≡ u

-- the machine at Ready that shows so much, in slot w
abbrev pub ready_by : Shown → Bool → M.ReadyVariables
ready_by v w =
    record {
      frozenLoc = none;
      isFrozen = false;
      frozenJournalPosition = 0;
      superblock_write = none;
      in_memory_journal_frozen = [];
      in_memory_journal = [];
      outstanding_journal_writes = empty_ids;
      writtenJournalLen = v.blocks;
      replay_journal = v.entries;
      superblock = record { counter = v.counter; journalStart = v.start; journalLen = v.blocks; indirectionTableLoc = v.loc };
      whichSuperblock = w;
      commit_status = CommitNone;
      new_superblock = none;
      sync_reqs = no_keys;
    }

-- each commit steps the counter and takes the other slot, so that the slot goes with the counter, from the first disk's on
abbrev pub slot_by : (g : Geometry) (first : Y.Variables) (loc : Location) → Y.Init g first loc → ℕ → Bool
slot_by g first loc i counter =
    let slot = selected_second i.wf.first.value i.wf.second.value in
    cond (eqb (counter % 2) ((superblock_of_disk g first.disk i.wf).counter % 2)) slot (not slot)

-- Any store: its states, its calls as they are made, with what is lent to them, and what a call promises, with true where it was accepted.
-- Seen through `view` and `call`, an accepted call is an allowed step, and a refused one leaves the state as it is.
pub record Store (g : Geometry) (C : Codec) (L : Limits) : Type 1 where
  pub State : Type 0
  pub Made : Type 0
  pub Promise : State → Made → Bool → State → Type 0
  pub view : State → Y.Variables
  pub call : Made → Call
  pub sound : (s : State) (x : Made) (t : State) → Promise s x true t → Takes g C L (view s) (view t) (call x)
  pub refused : (s : State) (x : Made) (t : State) → Promise s x false t → view t ≡ view s

-- a list of its calls with their answers
abbrev pub Ran : {g : Geometry} {C : Codec} {L : Limits} (S : Store g C L) → S.State → List S.Made → List Bool → S.State → Type 0
Ran S = Runs S.Promise

-- as `Loaded`, of a store whose first state is seen as `first`, and whose machine at the end is seen as `r`
pub record LoadedStore {g : Geometry} {C : Codec} {L : Limits} (S : Store g C L) (first : Y.Variables) (s : S.State) (calls : List S.Made) (answers : List Bool) (crashing : S.Made) (loading : List S.Made) (loaded : List Bool) (r : M.ReadyVariables) : Type 0 where
  pub begins : S.view s ≡ first
  pub before : S.State
  pub ran : Ran S s calls answers before
  pub after : S.State
  pub crash_is : S.call crashing ≡ crash
  pub crashed : S.Promise before crashing true after
  pub end : S.State
  pub load : Ran S after loading loaded end
  pub only_loads : OnlyLoads (map S.call loading) loaded
  pub ready : (S.view end).machine ≡ M.Variables.Ready r
