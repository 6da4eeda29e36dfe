-- Source 000, JournalCache: the machine's steps as relations, in the source's order and names (its datatypes are in MachineState, counters and
-- selection in the crate superblock). A predicate is a record with a named clause a line; `s.Ready? && ..` is `IsReady s (λ s. ..)`.
-- `dop.id` is a field `id` beside `op`, the equation that gives the operation's case. The clauses for front and back, slot 1 and slot 2 are
-- one each, over a Bool `which` (Sets). `VOp` is not in the text: the entries or the location are the step's argument. `JournalStep` is left
-- out. Clauses `0 <= ..` are met by the type.
use Rattle.std.specs.Prelude.{ℕ, ◌+◌, ◌-◌, ◌≤◌, ◌<◌, Bool, true, false, cond, not, ◌≡◌, List, [], ◌∷◌, ◌++◌, ◌⊎◌, ◌↔◌, eqb}
use Rattle.std.proofs.Math.Option.{Option, none, some, get_or}
use Rattle.layout.specs.declared.Geometry.{Geometry}
use Rattle.layout.specs.declared.Location.{Location}
use Rattle.layout.specs.Geometry.{num_journal_blocks}
use Rattle.layout.specs.Journal.{journal_pos_add}
use Rattle.layout.specs.Laws.{ValidIndirectionTableLocation}
use Rattle.interval.specs.declared.JournalInterval.{JournalInterval}
use Rattle.superblock.specs.declared.Superblock.{Superblock}
use Rattle.superblock.specs.Superblock.{increment_superblock_counter, select_superblock_index, select_superblock, journal_front_interval_of_superblock, journal_back_interval_of_superblock, wf_superblock}
use Rattle.superblock.specs.Laws.{WFSuperblock}
use Rattle.laws.specs.Sets.{Ids, empty_ids, join, leave, Map, no_keys, bind, unbind, each, both, at, put}
use Rattle.codec.specs.Codec.{JournalEntry, JournalRange, journal_range_len, journal_range_concat, journal_range_empty, Codec, JournalRangeParses}
use Rattle.source.specs.JournalDisk.{ReqId, ReqWriteSuperblock, ReqWriteJournal, DiskOp, ReqReadSuperblockOp, ReqReadJournalOp, ReqWriteSuperblockOp, ReqWriteJournalOp, RespReadSuperblockOp, RespReadJournalOp, RespWriteSuperblockOp, RespWriteJournalOp, NoDiskOp}
pub use Rattle.source.specs.MachineState.{SyncReqStatus, State1, State2, State3, SuperblockReadResult, SuperblockSuccess, SuperblockUnfinished, SuperblockCorruption, CommitStatus, CommitNone, CommitAdvanceLog, CommitAdvanceLocation}
pub use Rattle.source.specs.MachineState.{Variables, Ready, LoadingOther, LoadingSuperblock, ReadyVariables, LoadingOtherVariables, LoadingSuperblockVariables, IsReady, IsLoadingOther, IsLoadingSuperblock, sync_reqs_of, with_sync_reqs}
pub use Rattle.source.specs.MachineState.{to_frozen_loc, to_is_frozen, to_frozen_journal_position, to_superblock_write, to_in_memory_journal_frozen, to_in_memory_journal, to_outstanding_journal_writes, to_written_journal_len, to_replay_journal, to_superblock, to_which_superblock, to_commit_status, to_new_superblock, to_sync_reqs, to_journal_reads, to_journal_pieces, to_outstanding_superblock_reads, to_superblocks}

-- select_superblock_index, as a Bool
abbrev pub selected_second : Superblock → Superblock → Bool
selected_second superblock1 superblock2 = eqb (select_superblock_index superblock1 superblock2) 1

abbrev pub status3to2 : SyncReqStatus → SyncReqStatus
status3to2 State1 = State1
status3to2 State2 = State2
status3to2 State3 = State2

abbrev pub status2to1 : SyncReqStatus → SyncReqStatus
status2to1 State1 = State1
status2to1 State2 = State1
status2to1 State3 = State3

abbrev pub sync_reqs3to2 : Map SyncReqStatus → Map SyncReqStatus
sync_reqs3to2 sync_reqs = each status3to2 sync_reqs

abbrev pub sync_reqs2to1 : Map SyncReqStatus → Map SyncReqStatus
sync_reqs2to1 sync_reqs = each status2to1 sync_reqs

-- journal_front_interval_of_superblock, journal_back_interval_of_superblock
abbrev pub journal_interval_of_superblock : Geometry → Bool → Superblock → Option JournalInterval
journal_interval_of_superblock g false superblock = journal_front_interval_of_superblock g superblock
journal_interval_of_superblock g true superblock = journal_back_interval_of_superblock g superblock

pub data Step : Type 0 where
  WriteBackJournalReqStep : (jr : JournalRange) → Step
  WriteBackJournalRespStep : Step
  WriteBackSuperblockReq-AdvanceLog-Step : Step
  WriteBackSuperblockReq-AdvanceLocation-Step : Step
  WriteBackSuperblockRespStep : Step
  PageInJournalReqStep : (which : Bool) → Step
  PageInJournalRespStep : (which : Bool) → Step
  PageInSuperblockReqStep : (which : Bool) → Step
  PageInSuperblockRespStep : (which : Bool) → Step
  FinishLoadingSuperblockPhaseStep : Step
  FinishLoadingOtherPhaseStep : Step
  FreezeStep : Step
  ReceiveFrozenLocStep : (loc : Location) → Step
  AdvanceStep : (new-je : List JournalEntry) → Step
  ReplayStep : (replayed-je : List JournalEntry) → Step
  PushSyncReqStep : (id : ℕ) → Step
  PopSyncReqStep : (id : ℕ) → Step
  NoOpStep : Step

-- if s.in_memory_journal_frozen == [] then x else y
abbrev pub if_none : {A : Type 0} → List JournalEntry → A → A → A
if_none [] x y = x
if_none (e ∷ es) x y = y

-- `j` of the next predicate: the frozen entries, or if there are none those in memory
abbrev pub to_write : ReadyVariables → List JournalEntry
to_write s = if_none s.in_memory_journal_frozen s.in_memory_journal s.in_memory_journal_frozen

-- s + (if id2.Some? then {id1, id2.value} else {id1})
abbrev pub join_ids : Ids → ReqId → Option ReqId → Ids
join_ids s id1 none = join s id1
join_ids s id1 (some id2) = join (join s id1) id2

pub record WriteBackJournalReqClauses (g : Geometry) (C : Codec) (s : ReadyVariables) (s' : Variables) (dop : DiskOp) (jr : JournalRange) : Type 0 where
  pub parses : JournalRangeParses C jr (to_write s)
  pub fits : journal_range_len jr + s.writtenJournalLen ≤ num_journal_blocks g
  pub some_block : 0 < journal_range_len jr
  pub no_write : s.superblock_write ≡ none
  pub start_in : s.superblock.journalStart < num_journal_blocks g
  pub written_in : s.writtenJournalLen ≤ num_journal_blocks g
  pub id1 : ReqId
  pub id2 : Option ReqId
  pub req : ReqWriteJournal
  pub op : dop ≡ ReqWriteJournalOp id1 id2 req
  pub journal_is : req.journal ≡ jr
  pub start_is : req.start ≡ journal_pos_add g s.superblock.journalStart s.writtenJournalLen
  pub next : s' ≡ Ready
      (to_outstanding_journal_writes (join_ids s.outstanding_journal_writes id1 id2)
      (to_written_journal_len (s.writtenJournalLen + journal_range_len jr)
      (to_frozen_journal_position (if_none s.in_memory_journal_frozen s.frozenJournalPosition (s.writtenJournalLen + journal_range_len jr))
      (to_in_memory_journal (if_none s.in_memory_journal_frozen [] s.in_memory_journal)
      (to_in_memory_journal_frozen []
      (to_sync_reqs (if_none s.in_memory_journal_frozen (sync_reqs3to2 s.sync_reqs) s.sync_reqs) s))))))

abbrev pub WriteBackJournalReq : Geometry → Codec → Variables → Variables → DiskOp → JournalRange → Type 0
WriteBackJournalReq g C s s' dop jr = IsReady s (λ s. WriteBackJournalReqClauses g C s s' dop jr)

pub record WriteBackJournalRespClauses (s : ReadyVariables) (s' : Variables) (dop : DiskOp) : Type 0 where
  pub id : ReqId
  pub op : dop ≡ RespWriteJournalOp id
  pub waiting : s.outstanding_journal_writes id ≡ true
  pub next : s' ≡ Ready (to_outstanding_journal_writes (leave s.outstanding_journal_writes id) s)

abbrev pub WriteBackJournalResp : Variables → Variables → DiskOp → Type 0
WriteBackJournalResp s s' dop = IsReady s (λ s. WriteBackJournalRespClauses s s' dop)

-- what both commits have: which slot is written, that no journal write is outstanding, and what they set
abbrev pub commit_slot : ReadyVariables → Bool
commit_slot s = not s.whichSuperblock

abbrev pub NoneOutstanding : ReadyVariables → Type 0
NoneOutstanding s = s.outstanding_journal_writes ≡ empty_ids

abbrev pub committing : CommitStatus → ReqId → Superblock → ReadyVariables → ReadyVariables
committing status id new s = to_new_superblock (some new) (to_superblock_write (some id) (to_commit_status status s))

-- `new_superblock` of the next predicate
abbrev pub advanced_log : ReadyVariables → Superblock
advanced_log s =
    record {
      counter = increment_superblock_counter s.superblock.counter;
      journalStart = s.superblock.journalStart;
      journalLen = s.writtenJournalLen;
      indirectionTableLoc = s.superblock.indirectionTableLoc;
    }

pub record WriteBackSuperblockReq-AdvanceLogClauses (g : Geometry) (s : ReadyVariables) (s' : Variables) (dop : DiskOp) : Type 0 where
  pub id : ReqId
  pub which : Bool
  pub req : ReqWriteSuperblock
  pub op : dop ≡ ReqWriteSuperblockOp id which req
  pub no_commit_is : s.commit_status ≡ CommitNone
  pub all_written : NoneOutstanding s
  pub none_frozen_is : s.in_memory_journal_frozen ≡ []
  pub which_is : which ≡ commit_slot s
  pub written_in : s.writtenJournalLen ≤ num_journal_blocks g
  pub superblock_is : req.superblock ≡ advanced_log s
  pub next : s' ≡ Ready (committing CommitAdvanceLog id (advanced_log s) s)

abbrev pub WriteBackSuperblockReqAdvanceLog : Geometry → Variables → Variables → DiskOp → Type 0
WriteBackSuperblockReqAdvanceLog g s s' dop = IsReady s (λ s. WriteBackSuperblockReq-AdvanceLogClauses g s s' dop)

-- `new_superblock` of the next predicate
abbrev pub advanced_location : Geometry → ReadyVariables → Location → Superblock
advanced_location g s loc =
    record {
      counter = increment_superblock_counter s.superblock.counter;
      journalStart = journal_pos_add g s.superblock.journalStart s.frozenJournalPosition;
      journalLen = s.writtenJournalLen - s.frozenJournalPosition;
      indirectionTableLoc = loc;
    }

pub record WriteBackSuperblockReq-AdvanceLocationClauses (g : Geometry) (s : ReadyVariables) (s' : Variables) (dop : DiskOp) : Type 0 where
  pub id : ReqId
  pub which : Bool
  pub req : ReqWriteSuperblock
  pub op : dop ≡ ReqWriteSuperblockOp id which req
  pub loc : Location
  pub received : s.frozenLoc ≡ some loc
  pub no_commit_is : s.commit_status ≡ CommitNone
  pub all_written : NoneOutstanding s
  pub none_frozen_is : s.in_memory_journal_frozen ≡ []
  pub which_is : which ≡ commit_slot s
  pub start_in : s.superblock.journalStart < num_journal_blocks g
  pub position_in : s.frozenJournalPosition ≤ s.writtenJournalLen
  pub written_in : s.writtenJournalLen ≤ num_journal_blocks g
  pub superblock_is : req.superblock ≡ advanced_location g s loc
  pub next : s' ≡ Ready (committing CommitAdvanceLocation id (advanced_location g s loc) s)

abbrev pub WriteBackSuperblockReqAdvanceLocation : Geometry → Variables → Variables → DiskOp → Type 0
WriteBackSuperblockReqAdvanceLocation g s s' dop = IsReady s (λ s. WriteBackSuperblockReq-AdvanceLocationClauses g s s' dop)

pub record WriteBackSuperblockRespClauses (s : ReadyVariables) (s' : Variables) (dop : DiskOp) : Type 0 where
  pub id : ReqId
  pub which : Bool
  pub op : dop ≡ RespWriteSuperblockOp id which
  pub waiting : some id ≡ s.superblock_write
  pub new : Superblock
  pub new_is : s.new_superblock ≡ some new
  pub still_ready : IsReady s' (λ s'. Unit {0})
  pub advance_location_is : s.commit_status ≡ CommitAdvanceLocation → s' ≡ Ready
      (to_superblock_write none
      (to_superblock new
      (to_new_superblock none
      (to_which_superblock (not s.whichSuperblock)
      (to_sync_reqs (sync_reqs2to1 s.sync_reqs)
      (to_written_journal_len (s.writtenJournalLen - s.frozenJournalPosition)
      (to_frozen_journal_position 0
      (to_frozen_loc none
      (to_is_frozen false
      (to_commit_status CommitNone s))))))))))
  pub advance_log_is : s.commit_status ≡ CommitAdvanceLog → s' ≡ Ready
      (to_superblock_write none
      (to_superblock new
      (to_new_superblock none
      (to_which_superblock (not s.whichSuperblock)
      (to_sync_reqs (sync_reqs2to1 s.sync_reqs)
      (to_commit_status CommitNone s))))))

abbrev pub WriteBackSuperblockResp : Variables → Variables → DiskOp → Type 0
WriteBackSuperblockResp s s' dop = IsReady s (λ s. WriteBackSuperblockRespClauses s s' dop)

-- if o == Some(id) then None else o
abbrev pub unless_is : Option ReqId → ReqId → Option ReqId
unless_is none id = none
unless_is (some k) id = cond (eqb k id) none (some k)

pub record PageInJournalReqClauses (g : Geometry) (s : LoadingOtherVariables) (s' : Variables) (dop : DiskOp) (which : Bool) : Type 0 where
  pub id : ReqId
  pub interval : JournalInterval
  pub op : dop ≡ ReqReadJournalOp id interval
  pub start_in : s.superblock.journalStart < num_journal_blocks g
  pub len_in : s.superblock.journalLen ≤ num_journal_blocks g
  pub interval_is : journal_interval_of_superblock g which s.superblock ≡ some interval
  pub no_read : at s.journalReads which ≡ none
  pub no_piece : at s.journal_pieces which ≡ none
  pub next : s' ≡ LoadingOther
      (to_journal_reads (put (put s.journalReads which (some id)) (not which) (unless_is (at s.journalReads (not which)) id)) s)

abbrev pub PageInJournalReq : Geometry → Variables → Variables → DiskOp → Bool → Type 0
PageInJournalReq g s s' dop which = IsLoadingOther s (λ s. PageInJournalReqClauses g s s' dop which)

pub record PageInJournalRespClauses (s : LoadingOtherVariables) (s' : Variables) (dop : DiskOp) (which : Bool) : Type 0 where
  pub id : ReqId
  pub jr : JournalRange
  pub op : dop ≡ RespReadJournalOp id (some jr)
  pub waiting : at s.journalReads which ≡ some id
  pub next : s' ≡ LoadingOther
      (to_journal_reads (put s.journalReads which none)
      (to_journal_pieces (put s.journal_pieces which (some jr)) s))

abbrev pub PageInJournalResp : Variables → Variables → DiskOp → Bool → Type 0
PageInJournalResp s s' dop which = IsLoadingOther s (λ s. PageInJournalRespClauses s s' dop which)

pub record PageInSuperblockReqClauses (s : LoadingSuperblockVariables) (s' : Variables) (dop : DiskOp) (which : Bool) : Type 0 where
  pub id : ReqId
  pub op : dop ≡ ReqReadSuperblockOp id which
  pub no_read : at s.outstanding_superblock_reads which ≡ none
  pub unfinished : at s.superblocks which ≡ SuperblockUnfinished
  pub next : s' ≡ LoadingSuperblock
      (to_outstanding_superblock_reads (put s.outstanding_superblock_reads which (some id)) s)

abbrev pub PageInSuperblockReq : Variables → Variables → DiskOp → Bool → Type 0
PageInSuperblockReq s s' dop which = IsLoadingSuperblock s (λ s. PageInSuperblockReqClauses s s' dop which)

-- `sup` of the next predicate
abbrev pub superblock_read : Geometry → Option Superblock → SuperblockReadResult
superblock_read g none = SuperblockCorruption
superblock_read g (some superblock) = cond (wf_superblock g superblock) (SuperblockSuccess superblock) SuperblockCorruption

pub record PageInSuperblockRespClauses (g : Geometry) (s : LoadingSuperblockVariables) (s' : Variables) (dop : DiskOp) (which : Bool) : Type 0 where
  pub id : ReqId
  pub superblock : Option Superblock
  pub op : dop ≡ RespReadSuperblockOp id which superblock
  pub waiting : at s.outstanding_superblock_reads which ≡ some id
  pub next : s' ≡ LoadingSuperblock
      (to_outstanding_superblock_reads (put s.outstanding_superblock_reads which none)
      (to_superblocks (put s.superblocks which (superblock_read g superblock)) s))

abbrev pub PageInSuperblockResp : Geometry → Variables → Variables → DiskOp → Bool → Type 0
PageInSuperblockResp g s s' dop which = IsLoadingSuperblock s (λ s. PageInSuperblockRespClauses g s s' dop which)

-- the fallback to a single superblock is a comment in the source
pub record FinishLoadingSuperblockPhaseClauses (s : LoadingSuperblockVariables) (s' : Variables) (dop : DiskOp) : Type 0 where
  pub op : dop ≡ NoDiskOp
  pub superblock1 : Superblock
  pub success1 : at s.superblocks false ≡ SuperblockSuccess superblock1
  pub superblock2 : Superblock
  pub success2 : at s.superblocks true ≡ SuperblockSuccess superblock2
  pub one_success : (at s.superblocks false ≡ SuperblockSuccess superblock1) ⊎ (at s.superblocks true ≡ SuperblockSuccess superblock2)
  pub next : s' ≡ LoadingOther
      (record {
        superblock = select_superblock superblock1 superblock2;
        whichSuperblock = selected_second superblock1 superblock2;
        journalReads = both none;
        journal_pieces = both none;
        sync_reqs = s.sync_reqs;
      })
  -- vop.loc, which goes up
  pub loc : Location
  pub loc_is : loc ≡ (select_superblock superblock1 superblock2).indirectionTableLoc

abbrev pub FinishLoadingSuperblockPhase : Variables → Variables → DiskOp → Type 0
FinishLoadingSuperblockPhase s s' dop = IsLoadingSuperblock s (λ s. FinishLoadingSuperblockPhaseClauses s s' dop)

-- `full_range` of the next predicate: by the back and the front interval, of the front and the back piece
abbrev pub loaded_range : Option JournalInterval → Option JournalInterval → JournalRange → JournalRange → JournalRange
loaded_range (some back) front journalFront journalBack = journal_range_concat journalFront journalBack
loaded_range none (some front) journalFront journalBack = journalFront
loaded_range none none journalFront journalBack = journal_range_empty

abbrev pub loaded : Geometry → LoadingOtherVariables → JournalRange
loaded g s =
    loaded_range (journal_back_interval_of_superblock g s.superblock) (journal_front_interval_of_superblock g s.superblock)
    (get_or (at s.journal_pieces false) []) (get_or (at s.journal_pieces true) [])

-- frozenJournalPosition is left open
pub record FinishLoadingOtherPhaseClauses (g : Geometry) (C : Codec) (s : LoadingOtherVariables) (s' : ReadyVariables) (dop : DiskOp) : Type 0 where
  pub op : dop ≡ NoDiskOp
  pub start_in : s.superblock.journalStart < num_journal_blocks g
  pub len_in : s.superblock.journalLen ≤ num_journal_blocks g
  pub front_in_is : (v : JournalInterval) → journal_front_interval_of_superblock g s.superblock ≡ some v → (jr : JournalRange) × (at s.journal_pieces false ≡ some jr)
  pub back_in_is : (v : JournalInterval) → journal_back_interval_of_superblock g s.superblock ≡ some v → (jr : JournalRange) × (at s.journal_pieces true ≡ some jr)
  pub superblock_write_is : s'.superblock_write ≡ none
  pub in_memory_journal_frozen_is : s'.in_memory_journal_frozen ≡ []
  pub in_memory_journal_is : s'.in_memory_journal ≡ []
  pub outstanding_journal_writes_is : s'.outstanding_journal_writes ≡ empty_ids
  pub written_journal_len_is : s'.writtenJournalLen ≡ s.superblock.journalLen
  pub parses : JournalRangeParses C (loaded g s) s'.replay_journal
  pub superblock_is : s'.superblock ≡ s.superblock
  pub which_superblock_is : s'.whichSuperblock ≡ s.whichSuperblock
  pub new_superblock_is : s'.new_superblock ≡ none
  pub sync_reqs_is : s'.sync_reqs ≡ s.sync_reqs
  pub is_frozen_is : s'.isFrozen ≡ false
  pub frozen_loc_is : s'.frozenLoc ≡ none
  pub commit_status_is : s'.commit_status ≡ CommitNone

abbrev pub FinishLoadingOtherPhase : Geometry → Codec → Variables → Variables → DiskOp → Type 0
FinishLoadingOtherPhase g C s s' dop = IsLoadingOther s (λ s. IsReady s' (λ s'. FinishLoadingOtherPhaseClauses g C s s' dop))

pub record FreezeClauses (s : ReadyVariables) (s' : Variables) (dop : DiskOp) : Type 0 where
  pub op : dop ≡ NoDiskOp
  pub no_write : s.superblock_write ≡ none
  pub other_loc : s.frozenLoc ≡ some s.superblock.indirectionTableLoc → ⊥
  pub replayed : s.replay_journal ≡ []
  pub next : s' ≡ Ready
      (to_frozen_loc none
      (to_in_memory_journal_frozen (s.in_memory_journal_frozen ++ s.in_memory_journal)
      (to_in_memory_journal []
      (to_frozen_journal_position s.writtenJournalLen
      (to_sync_reqs (sync_reqs3to2 s.sync_reqs)
      (to_is_frozen true s))))))

abbrev pub Freeze : Variables → Variables → DiskOp → Type 0
Freeze s s' dop = IsReady s (λ s. FreezeClauses s s' dop)

pub record ReceiveFrozenLocClauses (g : Geometry) (s : ReadyVariables) (s' : Variables) (dop : DiskOp) (loc : Location) : Type 0 where
  pub op : dop ≡ NoDiskOp
  pub frozen : s.isFrozen ≡ true
  pub none_received : s.frozenLoc ≡ none
  pub loc_valid : ValidIndirectionTableLocation g loc
  pub next : s' ≡ Ready (to_frozen_loc (some loc) s)

abbrev pub ReceiveFrozenLoc : Geometry → Variables → Variables → DiskOp → Location → Type 0
ReceiveFrozenLoc g s s' dop loc = IsReady s (λ s. ReceiveFrozenLocClauses g s s' dop loc)

pub record AdvanceClauses (s : ReadyVariables) (s' : Variables) (dop : DiskOp) (new-je : List JournalEntry) : Type 0 where
  pub op : dop ≡ NoDiskOp
  pub replayed : s.replay_journal ≡ []
  pub next : s' ≡ Ready (to_in_memory_journal (s.in_memory_journal ++ new-je) s)

abbrev pub Advance : Variables → Variables → DiskOp → List JournalEntry → Type 0
Advance s s' dop new-je = IsReady s (λ s. AdvanceClauses s s' dop new-je)

pub record ReplayClauses (s s' : ReadyVariables) (dop : DiskOp) (replayed-je : List JournalEntry) : Type 0 where
  pub op : dop ≡ NoDiskOp
  pub next : s' ≡ to_replay_journal s'.replay_journal s
  pub prefix : s.replay_journal ≡ replayed-je ++ s'.replay_journal

abbrev pub Replay : Variables → Variables → DiskOp → List JournalEntry → Type 0
Replay s s' dop replayed-je = IsReady s (λ s. IsReady s' (λ s'. ReplayClauses s s' dop replayed-je))

pub record PushSyncReq (s s' : Variables) (dop : DiskOp) (id : ℕ) : Type 0 where
  pub op : dop ≡ NoDiskOp
  pub new : sync_reqs_of s id ≡ none
  pub next : s' ≡ with_sync_reqs (bind (sync_reqs_of s) id State3) s

pub record PopSyncReq (s s' : Variables) (dop : DiskOp) (id : ℕ) : Type 0 where
  pub op : dop ≡ NoDiskOp
  pub done : sync_reqs_of s id ≡ some State1
  pub next : s' ≡ with_sync_reqs (unbind (sync_reqs_of s) id) s

-- the operations of the next predicate, a constructor each
pub data NoOpOp (s : Variables) (dop : DiskOp) : Type 0 where
  no_op_is : dop ≡ NoDiskOp → NoOpOp s dop
  superblock_read_op : (id : ReqId) (which : Bool) (superblock : Option Superblock) → dop ≡ RespReadSuperblockOp id which superblock → NoOpOp s dop
  journal_read_is : (id : ReqId) (journal : Option JournalRange) → dop ≡ RespReadJournalOp id journal → NoOpOp s dop
  superblock_written_is : (id : ReqId) (which : Bool) → dop ≡ RespWriteSuperblockOp id which
      → (IsReady s (λ s. s.superblock_write ≡ some id) → ⊥) → NoOpOp s dop
  journal_written_is : (id : ReqId) → dop ≡ RespWriteJournalOp id
      → (IsReady s (λ s. s.outstanding_journal_writes id ≡ true) → ⊥) → NoOpOp s dop

pub record NoOp (s s' : Variables) (dop : DiskOp) : Type 0 where
  pub op : NoOpOp s dop
  pub next : s' ≡ s

abbrev pub initial : LoadingSuperblockVariables
initial = record { outstanding_superblock_reads = both none; superblocks = both SuperblockUnfinished; sync_reqs = no_keys }

abbrev pub Init : Variables → Type 0
Init s = s ≡ LoadingSuperblock initial

abbrev pub NextStep : Geometry → Codec → Variables → Variables → DiskOp → Step → Type 0
NextStep g C s s' dop (WriteBackJournalReqStep jr) = WriteBackJournalReq g C s s' dop jr
NextStep g C s s' dop WriteBackJournalRespStep = WriteBackJournalResp s s' dop
NextStep g C s s' dop WriteBackSuperblockReq-AdvanceLog-Step = WriteBackSuperblockReqAdvanceLog g s s' dop
NextStep g C s s' dop WriteBackSuperblockReq-AdvanceLocation-Step = WriteBackSuperblockReqAdvanceLocation g s s' dop
NextStep g C s s' dop WriteBackSuperblockRespStep = WriteBackSuperblockResp s s' dop
NextStep g C s s' dop (PageInJournalReqStep which) = PageInJournalReq g s s' dop which
NextStep g C s s' dop (PageInJournalRespStep which) = PageInJournalResp s s' dop which
NextStep g C s s' dop (PageInSuperblockReqStep which) = PageInSuperblockReq s s' dop which
NextStep g C s s' dop (PageInSuperblockRespStep which) = PageInSuperblockResp g s s' dop which
NextStep g C s s' dop FinishLoadingSuperblockPhaseStep = FinishLoadingSuperblockPhase s s' dop
NextStep g C s s' dop FinishLoadingOtherPhaseStep = FinishLoadingOtherPhase g C s s' dop
NextStep g C s s' dop FreezeStep = Freeze s s' dop
NextStep g C s s' dop (ReceiveFrozenLocStep loc) = ReceiveFrozenLoc g s s' dop loc
NextStep g C s s' dop (AdvanceStep new-je) = Advance s s' dop new-je
NextStep g C s s' dop (ReplayStep replayed-je) = Replay s s' dop replayed-je
NextStep g C s s' dop (PushSyncReqStep id) = PushSyncReq s s' dop id
NextStep g C s s' dop (PopSyncReqStep id) = PopSyncReq s s' dop id
NextStep g C s s' dop NoOpStep = NoOp s s' dop

abbrev pub Next : Geometry → Codec → Variables → Variables → DiskOp → Type 0
Next g C s s' dop = (step : Step) × NextStep g C s s' dop step

pub record InvLoadingSuperblock (g : Geometry) (s : LoadingSuperblockVariables) : Type 0 where
  pub success_read : (which : Bool) (superblock : Superblock) → at s.superblocks which ≡ SuperblockSuccess superblock → at s.outstanding_superblock_reads which ≡ none
  pub success_wf_is : (which : Bool) (superblock : Superblock) → at s.superblocks which ≡ SuperblockSuccess superblock → WFSuperblock g superblock
  pub corruption_read : (which : Bool) → at s.superblocks which ≡ SuperblockCorruption → at s.outstanding_superblock_reads which ≡ none

pub record InvLoadingOther (g : Geometry) (s : LoadingOtherVariables) : Type 0 where
  pub superblock_wf : WFSuperblock g s.superblock
  pub read_interval : (which : Bool) (id : ReqId) → at s.journalReads which ≡ some id → (v : JournalInterval) × (journal_interval_of_superblock g which s.superblock ≡ some v)
  pub piece_interval_is : (which : Bool) (jr : JournalRange) → at s.journal_pieces which ≡ some jr → (v : JournalInterval) × (journal_interval_of_superblock g which s.superblock ≡ some v)

-- o.Some?
abbrev pub Some : {A : Type 0} → Option A → Type 0
Some {A} o = (a : A) × (o ≡ some a)

pub record InvFrozen (g : Geometry) (s : ReadyVariables) : Type 0 where
  pub position_in : s.frozenJournalPosition ≤ num_journal_blocks g
  pub len_written : s.superblock.journalLen ≤ s.writtenJournalLen
  pub position_written : s.frozenJournalPosition ≤ s.writtenJournalLen

pub record InvReceived (g : Geometry) (s : ReadyVariables) (loc : Location) : Type 0 where
  pub loc_valid : ValidIndirectionTableLocation g loc
  pub frozen : s.isFrozen ≡ true

pub record InvAdvanceLog (s : ReadyVariables) : Type 0 where
  pub new : Superblock
  pub new_is : s.new_superblock ≡ some new
  pub new_loc : new.indirectionTableLoc ≡ s.superblock.indirectionTableLoc
  pub new_start : new.journalStart ≡ s.superblock.journalStart
  pub new_len : new.journalLen ≡ s.writtenJournalLen

pub record InvAdvanceLocation (g : Geometry) (s : ReadyVariables) : Type 0 where
  pub frozen : s.isFrozen ≡ true
  pub received : Some s.frozenLoc
  pub new : Superblock
  pub new_is : s.new_superblock ≡ some new
  pub new_start : new.journalStart ≡ journal_pos_add g s.superblock.journalStart s.frozenJournalPosition
  pub new_len : new.journalLen ≡ s.writtenJournalLen - s.frozenJournalPosition
  pub new_end : s.frozenJournalPosition + new.journalLen ≤ s.writtenJournalLen

pub record InvNewSuperblock (g : Geometry) (s : ReadyVariables) (new : Superblock) : Type 0 where
  pub all_written : s.outstanding_journal_writes ≡ empty_ids
  pub new_loc : (new.indirectionTableLoc ≡ s.superblock.indirectionTableLoc) ⊎ (s.frozenLoc ≡ some new.indirectionTableLoc)
  pub commit : (s.commit_status ≡ CommitAdvanceLog) ⊎ (s.commit_status ≡ CommitAdvanceLocation)
  pub new_wf : WFSuperblock g new
  pub new_counter : new.counter ≡ increment_superblock_counter s.superblock.counter
  pub none_frozen_is : s.in_memory_journal_frozen ≡ []

pub record InvSomeFrozen (s : ReadyVariables) : Type 0 where
  pub position_is : s.frozenJournalPosition ≡ s.writtenJournalLen
  pub frozen : s.isFrozen ≡ true

pub record InvReady (g : Geometry) (s : ReadyVariables) : Type 0 where
  pub write_new : Some s.superblock_write ↔ Some s.new_superblock
  pub write_commit : (s.superblock_write ≡ none) ↔ (s.commit_status ≡ CommitNone)
  pub written_in : s.writtenJournalLen ≤ num_journal_blocks g
  pub len_written : s.superblock.journalLen ≤ s.writtenJournalLen
  pub if_frozen : s.isFrozen ≡ true → InvFrozen g s
  pub if_received : (loc : Location) → s.frozenLoc ≡ some loc → InvReceived g s loc
  pub superblock_wf : WFSuperblock g s.superblock
  pub if_advance_log : s.commit_status ≡ CommitAdvanceLog → InvAdvanceLog s
  pub if_advance_location : s.commit_status ≡ CommitAdvanceLocation → InvAdvanceLocation g s
  pub if_new : (new : Superblock) → s.new_superblock ≡ some new → InvNewSuperblock g s new
  pub if_some_frozen : (s.in_memory_journal_frozen ≡ [] → ⊥) → InvSomeFrozen s

abbrev pub Inv : Geometry → Variables → Type 0
Inv g (Ready s) = InvReady g s
Inv g (LoadingOther s) = InvLoadingOther g s
Inv g (LoadingSuperblock s) = InvLoadingSuperblock g s
