-- Source 000's datatypes, and its `s.(f := x)`, which is `to-f x s`. The pairs for front and back, slot 1 and slot 2 are one each (Sets).
use Rattle.std.specs.Prelude.{ℕ, Bool, List}
use Rattle.std.proofs.Math.Option.{Option}
use Rattle.layout.specs.declared.Location.{Location}
use Rattle.superblock.specs.declared.Superblock.{Superblock}
use Rattle.laws.specs.Sets.{Ids, Map, Two}
use Rattle.codec.specs.Codec.{JournalEntry, JournalRange}
use Rattle.source.specs.JournalDisk.{ReqId}

pub data SyncReqStatus : Type 0 where
  State1 State2 State3 : SyncReqStatus

pub data SuperblockReadResult : Type 0 where
  SuperblockSuccess : (value : Superblock) → SuperblockReadResult
  SuperblockUnfinished SuperblockCorruption : SuperblockReadResult

pub data CommitStatus : Type 0 where
  CommitNone CommitAdvanceLog CommitAdvanceLocation : CommitStatus

pub record ReadyVariables : Type 0 where
  pub frozenLoc : Option Location
  pub isFrozen : Bool
  pub frozenJournalPosition : ℕ
  pub superblock_write : Option ReqId
  pub in_memory_journal_frozen : List JournalEntry
  pub in_memory_journal : List JournalEntry
  pub outstanding_journal_writes : Ids
  pub writtenJournalLen : ℕ
  pub replay_journal : List JournalEntry
  pub superblock : Superblock
  pub whichSuperblock : Bool
  pub commit_status : CommitStatus
  pub new_superblock : Option Superblock
  pub sync_reqs : Map SyncReqStatus

-- journalFrontRead and journalBackRead, journalFront and journalBack are a pair each: the front is the first
pub record LoadingOtherVariables : Type 0 where
  pub superblock : Superblock
  pub whichSuperblock : Bool
  pub journalReads : Two (Option ReqId)
  pub journal_pieces : Two (Option JournalRange)
  pub sync_reqs : Map SyncReqStatus

-- outstandingSuperblock1Read and 2Read, superblock1 and superblock2 are a pair each
pub record LoadingSuperblockVariables : Type 0 where
  pub outstanding_superblock_reads : Two (Option ReqId)
  pub superblocks : Two SuperblockReadResult
  pub sync_reqs : Map SyncReqStatus

pub data Variables : Type 0 where
  Ready : ReadyVariables → Variables
  LoadingOther : LoadingOtherVariables → Variables
  LoadingSuperblock : LoadingSuperblockVariables → Variables

-- s.Ready? and what follows of it, and so for the other cases
abbrev pub IsReady : Variables → (ReadyVariables → Type 0) → Type 0
IsReady (Ready s) P = P s
IsReady (LoadingOther s) P = ⊥
IsReady (LoadingSuperblock s) P = ⊥

abbrev pub IsLoadingOther : Variables → (LoadingOtherVariables → Type 0) → Type 0
IsLoadingOther (Ready s) P = ⊥
IsLoadingOther (LoadingOther s) P = P s
IsLoadingOther (LoadingSuperblock s) P = ⊥

abbrev pub IsLoadingSuperblock : Variables → (LoadingSuperblockVariables → Type 0) → Type 0
IsLoadingSuperblock (Ready s) P = ⊥
IsLoadingSuperblock (LoadingOther s) P = ⊥
IsLoadingSuperblock (LoadingSuperblock s) P = P s

-- the setters
abbrev pub to_frozen_loc : Option Location → ReadyVariables → ReadyVariables
to_frozen_loc x s = record { frozenLoc = x; isFrozen = s.isFrozen; frozenJournalPosition = s.frozenJournalPosition; superblock_write = s.superblock_write; in_memory_journal_frozen = s.in_memory_journal_frozen; in_memory_journal = s.in_memory_journal; outstanding_journal_writes = s.outstanding_journal_writes; writtenJournalLen = s.writtenJournalLen; replay_journal = s.replay_journal; superblock = s.superblock; whichSuperblock = s.whichSuperblock; commit_status = s.commit_status; new_superblock = s.new_superblock; sync_reqs = s.sync_reqs }

abbrev pub to_is_frozen : Bool → ReadyVariables → ReadyVariables
to_is_frozen x s = record { frozenLoc = s.frozenLoc; isFrozen = x; frozenJournalPosition = s.frozenJournalPosition; superblock_write = s.superblock_write; in_memory_journal_frozen = s.in_memory_journal_frozen; in_memory_journal = s.in_memory_journal; outstanding_journal_writes = s.outstanding_journal_writes; writtenJournalLen = s.writtenJournalLen; replay_journal = s.replay_journal; superblock = s.superblock; whichSuperblock = s.whichSuperblock; commit_status = s.commit_status; new_superblock = s.new_superblock; sync_reqs = s.sync_reqs }

abbrev pub to_frozen_journal_position : ℕ → ReadyVariables → ReadyVariables
to_frozen_journal_position x s = record { frozenLoc = s.frozenLoc; isFrozen = s.isFrozen; frozenJournalPosition = x; superblock_write = s.superblock_write; in_memory_journal_frozen = s.in_memory_journal_frozen; in_memory_journal = s.in_memory_journal; outstanding_journal_writes = s.outstanding_journal_writes; writtenJournalLen = s.writtenJournalLen; replay_journal = s.replay_journal; superblock = s.superblock; whichSuperblock = s.whichSuperblock; commit_status = s.commit_status; new_superblock = s.new_superblock; sync_reqs = s.sync_reqs }

abbrev pub to_superblock_write : Option ReqId → ReadyVariables → ReadyVariables
to_superblock_write x s = record { frozenLoc = s.frozenLoc; isFrozen = s.isFrozen; frozenJournalPosition = s.frozenJournalPosition; superblock_write = x; in_memory_journal_frozen = s.in_memory_journal_frozen; in_memory_journal = s.in_memory_journal; outstanding_journal_writes = s.outstanding_journal_writes; writtenJournalLen = s.writtenJournalLen; replay_journal = s.replay_journal; superblock = s.superblock; whichSuperblock = s.whichSuperblock; commit_status = s.commit_status; new_superblock = s.new_superblock; sync_reqs = s.sync_reqs }

abbrev pub to_in_memory_journal_frozen : List JournalEntry → ReadyVariables → ReadyVariables
to_in_memory_journal_frozen x s = record { frozenLoc = s.frozenLoc; isFrozen = s.isFrozen; frozenJournalPosition = s.frozenJournalPosition; superblock_write = s.superblock_write; in_memory_journal_frozen = x; in_memory_journal = s.in_memory_journal; outstanding_journal_writes = s.outstanding_journal_writes; writtenJournalLen = s.writtenJournalLen; replay_journal = s.replay_journal; superblock = s.superblock; whichSuperblock = s.whichSuperblock; commit_status = s.commit_status; new_superblock = s.new_superblock; sync_reqs = s.sync_reqs }

abbrev pub to_in_memory_journal : List JournalEntry → ReadyVariables → ReadyVariables
to_in_memory_journal x s = record { frozenLoc = s.frozenLoc; isFrozen = s.isFrozen; frozenJournalPosition = s.frozenJournalPosition; superblock_write = s.superblock_write; in_memory_journal_frozen = s.in_memory_journal_frozen; in_memory_journal = x; outstanding_journal_writes = s.outstanding_journal_writes; writtenJournalLen = s.writtenJournalLen; replay_journal = s.replay_journal; superblock = s.superblock; whichSuperblock = s.whichSuperblock; commit_status = s.commit_status; new_superblock = s.new_superblock; sync_reqs = s.sync_reqs }

abbrev pub to_outstanding_journal_writes : Ids → ReadyVariables → ReadyVariables
to_outstanding_journal_writes x s = record { frozenLoc = s.frozenLoc; isFrozen = s.isFrozen; frozenJournalPosition = s.frozenJournalPosition; superblock_write = s.superblock_write; in_memory_journal_frozen = s.in_memory_journal_frozen; in_memory_journal = s.in_memory_journal; outstanding_journal_writes = x; writtenJournalLen = s.writtenJournalLen; replay_journal = s.replay_journal; superblock = s.superblock; whichSuperblock = s.whichSuperblock; commit_status = s.commit_status; new_superblock = s.new_superblock; sync_reqs = s.sync_reqs }

abbrev pub to_written_journal_len : ℕ → ReadyVariables → ReadyVariables
to_written_journal_len x s = record { frozenLoc = s.frozenLoc; isFrozen = s.isFrozen; frozenJournalPosition = s.frozenJournalPosition; superblock_write = s.superblock_write; in_memory_journal_frozen = s.in_memory_journal_frozen; in_memory_journal = s.in_memory_journal; outstanding_journal_writes = s.outstanding_journal_writes; writtenJournalLen = x; replay_journal = s.replay_journal; superblock = s.superblock; whichSuperblock = s.whichSuperblock; commit_status = s.commit_status; new_superblock = s.new_superblock; sync_reqs = s.sync_reqs }

abbrev pub to_replay_journal : List JournalEntry → ReadyVariables → ReadyVariables
to_replay_journal x s = record { frozenLoc = s.frozenLoc; isFrozen = s.isFrozen; frozenJournalPosition = s.frozenJournalPosition; superblock_write = s.superblock_write; in_memory_journal_frozen = s.in_memory_journal_frozen; in_memory_journal = s.in_memory_journal; outstanding_journal_writes = s.outstanding_journal_writes; writtenJournalLen = s.writtenJournalLen; replay_journal = x; superblock = s.superblock; whichSuperblock = s.whichSuperblock; commit_status = s.commit_status; new_superblock = s.new_superblock; sync_reqs = s.sync_reqs }

abbrev pub to_superblock : Superblock → ReadyVariables → ReadyVariables
to_superblock x s = record { frozenLoc = s.frozenLoc; isFrozen = s.isFrozen; frozenJournalPosition = s.frozenJournalPosition; superblock_write = s.superblock_write; in_memory_journal_frozen = s.in_memory_journal_frozen; in_memory_journal = s.in_memory_journal; outstanding_journal_writes = s.outstanding_journal_writes; writtenJournalLen = s.writtenJournalLen; replay_journal = s.replay_journal; superblock = x; whichSuperblock = s.whichSuperblock; commit_status = s.commit_status; new_superblock = s.new_superblock; sync_reqs = s.sync_reqs }

abbrev pub to_which_superblock : Bool → ReadyVariables → ReadyVariables
to_which_superblock x s = record { frozenLoc = s.frozenLoc; isFrozen = s.isFrozen; frozenJournalPosition = s.frozenJournalPosition; superblock_write = s.superblock_write; in_memory_journal_frozen = s.in_memory_journal_frozen; in_memory_journal = s.in_memory_journal; outstanding_journal_writes = s.outstanding_journal_writes; writtenJournalLen = s.writtenJournalLen; replay_journal = s.replay_journal; superblock = s.superblock; whichSuperblock = x; commit_status = s.commit_status; new_superblock = s.new_superblock; sync_reqs = s.sync_reqs }

abbrev pub to_commit_status : CommitStatus → ReadyVariables → ReadyVariables
to_commit_status x s = record { frozenLoc = s.frozenLoc; isFrozen = s.isFrozen; frozenJournalPosition = s.frozenJournalPosition; superblock_write = s.superblock_write; in_memory_journal_frozen = s.in_memory_journal_frozen; in_memory_journal = s.in_memory_journal; outstanding_journal_writes = s.outstanding_journal_writes; writtenJournalLen = s.writtenJournalLen; replay_journal = s.replay_journal; superblock = s.superblock; whichSuperblock = s.whichSuperblock; commit_status = x; new_superblock = s.new_superblock; sync_reqs = s.sync_reqs }

abbrev pub to_new_superblock : Option Superblock → ReadyVariables → ReadyVariables
to_new_superblock x s = record { frozenLoc = s.frozenLoc; isFrozen = s.isFrozen; frozenJournalPosition = s.frozenJournalPosition; superblock_write = s.superblock_write; in_memory_journal_frozen = s.in_memory_journal_frozen; in_memory_journal = s.in_memory_journal; outstanding_journal_writes = s.outstanding_journal_writes; writtenJournalLen = s.writtenJournalLen; replay_journal = s.replay_journal; superblock = s.superblock; whichSuperblock = s.whichSuperblock; commit_status = s.commit_status; new_superblock = x; sync_reqs = s.sync_reqs }

abbrev pub to_sync_reqs : Map SyncReqStatus → ReadyVariables → ReadyVariables
to_sync_reqs x s = record { frozenLoc = s.frozenLoc; isFrozen = s.isFrozen; frozenJournalPosition = s.frozenJournalPosition; superblock_write = s.superblock_write; in_memory_journal_frozen = s.in_memory_journal_frozen; in_memory_journal = s.in_memory_journal; outstanding_journal_writes = s.outstanding_journal_writes; writtenJournalLen = s.writtenJournalLen; replay_journal = s.replay_journal; superblock = s.superblock; whichSuperblock = s.whichSuperblock; commit_status = s.commit_status; new_superblock = s.new_superblock; sync_reqs = x }

abbrev pub to_journal_reads : Two (Option ReqId) → LoadingOtherVariables → LoadingOtherVariables
to_journal_reads x s = record { superblock = s.superblock; whichSuperblock = s.whichSuperblock; journalReads = x; journal_pieces = s.journal_pieces; sync_reqs = s.sync_reqs }

abbrev pub to_journal_pieces : Two (Option JournalRange) → LoadingOtherVariables → LoadingOtherVariables
to_journal_pieces x s = record { superblock = s.superblock; whichSuperblock = s.whichSuperblock; journalReads = s.journalReads; journal_pieces = x; sync_reqs = s.sync_reqs }

abbrev pub to_outstanding_superblock_reads : Two (Option ReqId) → LoadingSuperblockVariables → LoadingSuperblockVariables
to_outstanding_superblock_reads x s = record { outstanding_superblock_reads = x; superblocks = s.superblocks; sync_reqs = s.sync_reqs }

abbrev pub to_superblocks : Two SuperblockReadResult → LoadingSuperblockVariables → LoadingSuperblockVariables
to_superblocks x s = record { outstanding_superblock_reads = s.outstanding_superblock_reads; superblocks = x; sync_reqs = s.sync_reqs }

-- the sync requests of any case
abbrev pub sync_reqs_of : Variables → Map SyncReqStatus
sync_reqs_of (Ready s) = s.sync_reqs
sync_reqs_of (LoadingOther s) = s.sync_reqs
sync_reqs_of (LoadingSuperblock s) = s.sync_reqs

abbrev pub with_sync_reqs : Map SyncReqStatus → Variables → Variables
with_sync_reqs x (Ready s) = Ready (to_sync_reqs x s)
with_sync_reqs x (LoadingOther s) = LoadingOther (record { superblock = s.superblock; whichSuperblock = s.whichSuperblock; journalReads = s.journalReads; journal_pieces = s.journal_pieces; sync_reqs = x })
with_sync_reqs x (LoadingSuperblock s) = LoadingSuperblock (record { outstanding_superblock_reads = s.outstanding_superblock_reads; superblocks = s.superblocks; sync_reqs = x })
