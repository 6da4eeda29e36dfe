-- What machine and disk have to do with the ledger. Small pieces over the fields that they read, so that a step that leaves the fields
-- leaves the piece. `w` is the slot that the disk selects: a landing changes it, and the machine follows with the answer.
use Rattle.std.specs.Prelude.{ℕ, ◌+◌, ◌≤◌, Bool, not, ◌≡◌, List, [], ◌++◌, length}
use Rattle.std.proofs.Math.Option.{Option, none, some}
use Rattle.laws.specs.Fold.{Each}
use Rattle.layout.specs.declared.Geometry.{Geometry}
use Rattle.layout.specs.declared.Location.{Location}
use Rattle.layout.specs.Laws.{ValidIndirectionTableLocation}
use Rattle.interval.specs.declared.JournalInterval.{JournalInterval}
use Rattle.interval.specs.Interval.{interval}
use Rattle.interval.specs.Journal.{JournalBlock, cyclic_slice}
use Rattle.superblock.specs.declared.Superblock.{Superblock}
use Rattle.superblock.specs.Laws.{WFSuperblock}
use Rattle.laws.specs.Sets.{Ids, Map, no_keys, keys, Two, both, at, put}
use Rattle.codec.specs.Codec.{JournalEntry, JournalRange, Codec}
use Rattle.source.specs.JournalDisk as D
use Rattle.source.specs.JournalDisk.{ReqId, ReqWriteSuperblockId}
use Rattle.source.specs.JournalCache as M
use Rattle.source.specs.JournalCache.{CommitStatus, CommitNone, CommitAdvanceLog, CommitAdvanceLocation, SuperblockReadResult, SuperblockSuccess, journal_interval_of_superblock}
use Rattle.history.specs.Ledger.{Range, blocks, Kept, Draft, Commit, log, location, Request, Ledger, fresh, kept_by}
use Rattle.codec.specs.Ranges.{Good, codes, whole}
use Rattle.history.proofs.Journal.Holds.{Holds, Apart}
use Rattle.history.proofs.Journal.Slots.{parity, Slots}

-- the superblock of what is kept
abbrev pub super_of : Codec → Kept → Superblock
super_of C k = record { counter = k.counter; journalStart = k.start; journalLen = blocks C k.ranges; indirectionTableLoc = k.loc }

abbrev pub kept_interval : Codec → Kept → JournalInterval
kept_interval C k = interval k.start (blocks C k.ranges)

-- the disk: the selected superblock is the kept one, its interval holds the kept ranges, and no write in flight touches them
pub record OnDisk (g : Geometry) (C : Codec) (p : ℕ) (slots : Two (Option Superblock)) (writes : Map JournalInterval) (j : List (Option JournalBlock)) (k : Kept) (w : Bool) : Type 0 where
  pub selected : Slots g slots w (super_of C k)
  pub parity_is : parity k.counter w ≡ p
  pub size : length j ≡ g.blocks
  pub holds : Holds g j k.start (codes C k.ranges)
  pub good : Each (Good C) k.ranges
  pub clear : (id : ReqId) (v : JournalInterval) → writes id ≡ some v → Apart g v (kept_interval C k)

-- a machine at Ready with no commit in flight, or with one that has not landed: it stands on what is kept, and has written the draft
pub record Standing (g : Geometry) (C : Codec) (superblock : Superblock) (which : Bool) (len position : ℕ) (j : List (Option JournalBlock)) (k : Kept) (before after : List Range) (w : Bool) : Type 0 where
  pub superblock_is : superblock ≡ super_of C k
  pub which_is : which ≡ w
  pub len_is : len ≡ blocks C (before ++ after)
  pub position_is : position ≡ blocks C before
  pub longer : blocks C k.ranges ≤ len
  pub len_in : len ≤ g.blocks
  pub holds : Holds g j k.start (codes C (before ++ after))
  pub good : Each (Good C) (before ++ after)

-- the three fields of a commit
pub record Flight : Type 0 where
  pub superblock_write : Option ReqId
  pub commit_status : CommitStatus
  pub new_superblock : Option Superblock

abbrev pub idle : Flight
idle = record { superblock_write = none; commit_status = CommitNone; new_superblock = none }

abbrev pub status_of : Commit → CommitStatus
status_of log = CommitAdvanceLog
status_of location = CommitAdvanceLocation

abbrev pub busy : Commit → ReqId → Superblock → Flight
busy c id new = record { superblock_write = some id; commit_status = status_of c; new_superblock = some new }

-- one superblock write in flight, to slot w
abbrev pub to_slot : Bool → ReqId → Superblock → Two (Option ReqWriteSuperblockId)
to_slot w id new = put (both none) w (some (record { id = id; req = record { superblock = new } }))

-- what the machine has yet to hear of a commit that landed
abbrev pub Owes : Codec → Commit → ℕ → ℕ → List Range → List Range → Type 0
Owes C log len position before after = (len ≡ blocks C (before ++ after)) × (position ≡ blocks C before)
Owes C location len position before after = (len ≡ position + blocks C after) × (before ≡ [])

pub record Quiet (f : Flight) (superblockWrites : Two (Option ReqWriteSuperblockId)) (request : Option Request) : Type 0 where
  pub flight_is : f ≡ idle
  pub writes_are : superblockWrites ≡ both none
  pub request_is : request ≡ none

-- a commit asked for: the ledger remembers it with the draft's ranges as they still are, and the write in flight is what will be kept
pub record Asked (g : Geometry) (C : Codec) (f : Flight) (superblockWrites : Two (Option ReqWriteSuperblockId)) (writes : Map JournalInterval) (request : Option Request) (k : Kept) (before after : List Range) (w : Bool) : Type 0 where
  pub commit : Commit
  pub id : ReqId
  pub new : Superblock
  pub draft : Draft
  pub flight_is : f ≡ busy commit id new
  pub writes_are : superblockWrites ≡ to_slot (not w) id new
  pub none_writing : writes ≡ no_keys
  pub request_is : request ≡ some (record { commit = commit; draft = draft })
  pub before_is : draft.before ≡ before
  pub after_is : draft.after ≡ after
  pub new_is : new ≡ super_of C (kept_by g C commit draft k)
  pub new_wf : WFSuperblock g new

-- a commit that landed and is not answered: the write in flight is the kept superblock, in the slot that the disk selects
pub record Done (C : Codec) (f : Flight) (superblockWrites : Two (Option ReqWriteSuperblockId)) (writes : Map JournalInterval) (which : Bool) (len position : ℕ) (request : Option Request) (k : Kept) (before after : List Range) (w : Bool) : Type 0 where
  pub commit : Commit
  pub id : ReqId
  pub new : Superblock
  pub flight_is : f ≡ busy commit id new
  pub writes_are : superblockWrites ≡ to_slot w id new
  pub none_writing : writes ≡ no_keys
  pub request_is : request ≡ none
  pub new_is : new ≡ super_of C k
  pub which_is : which ≡ not w
  pub kept_is : k.ranges ≡ before ++ after
  pub owes : Owes C commit len position before after

pub data Phase (g : Geometry) (C : Codec) (f : Flight) (superblock : Superblock) (which : Bool) (len position : ℕ) (superblockWrites : Two (Option ReqWriteSuperblockId)) (writes : Map JournalInterval) (j : List (Option JournalBlock)) (request : Option Request) (k : Kept) (before after : List Range) (w : Bool) : Type 0 where
  quiet : Quiet f superblockWrites request → Standing g C superblock which len position j k before after w → Phase g C f superblock which len position superblockWrites writes j request k before after w
  waits : Asked g C f superblockWrites writes request k before after w → Standing g C superblock which len position j k before after w → Phase g C f superblock which len position superblockWrites writes j request k before after w
  done : Done C f superblockWrites writes which len position request k before after w → Phase g C f superblock which len position superblockWrites writes j request k before after w

-- a machine at Ready: pending entries are the ledger's, a location received is the ledger's, the outstanding writes are the disk's
pub record Live (g : Geometry) (C : Codec) (f : Flight) (superblock : Superblock) (which : Bool) (len position : ℕ) (frozen memory : List JournalEntry) (loc : Option Location) (outstanding : Ids) (superblockWrites : Two (Option ReqWriteSuperblockId)) (writes : Map JournalInterval) (j : List (Option JournalBlock)) (l : Ledger) (w : Bool) : Type 0 where
  pub frozen_is : frozen ≡ l.draft.frozen
  pub memory_is : memory ≡ l.draft.memory
  pub received : (x : Location) → loc ≡ some x → l.draft.received ≡ some x
  pub received_valid : (x : Location) → loc ≡ some x → ValidIndirectionTableLocation g x
  pub ids : keys writes ≡ outstanding
  pub phase : Phase g C f superblock which len position superblockWrites writes j l.request l.kept l.draft.before l.draft.after w

-- a loading machine: nothing is written, and the ledger is as a crash left it
pub record Resting (superblockWrites : Two (Option ReqWriteSuperblockId)) (writes : Map JournalInterval) (l : Ledger) : Type 0 where
  pub writes_are : superblockWrites ≡ both none
  pub none_writing : writes ≡ no_keys
  pub ledger_is : l ≡ fresh l.kept

-- what was read of a slot is what it holds
abbrev pub Told : Two SuperblockReadResult → Two (Option Superblock) → Type 0
Told results slots = (which : Bool) (v : Superblock) → at results which ≡ SuperblockSuccess v → at slots which ≡ some v

-- what was read of a piece is what it holds
abbrev pub Pieces : Geometry → Superblock → Two (Option JournalRange) → List (Option JournalBlock) → Type 0
Pieces g superblock pieces j =
    (piece : Bool) (jr : JournalRange) (v : JournalInterval) → at pieces piece ≡ some jr → journal_interval_of_superblock g piece superblock ≡ some v
    → whole jr ≡ cyclic_slice g j v

pub record Paged (g : Geometry) (C : Codec) (superblock : Superblock) (which : Bool) (pieces : Two (Option JournalRange)) (j : List (Option JournalBlock)) (k : Kept) (w : Bool) : Type 0 where
  pub superblock_is : superblock ≡ super_of C k
  pub which_is : which ≡ w
  pub pieces_are : Pieces g superblock pieces j

-- an awaited journal read stands at the disk under its own interval
abbrev pub ReadsStand : Geometry → M.Variables → D.Variables → Type 0
ReadsStand g (M.Variables.Ready s) d = Unit {0}
ReadsStand g (M.Variables.LoadingOther s) d =
    (which : Bool) (id : ReqId) (v : JournalInterval) → at s.journalReads which ≡ some id → journal_interval_of_superblock g which s.superblock ≡ some v
    → d.req_read_journals id ≡ some v
ReadsStand g (M.Variables.LoadingSuperblock s) d = Unit {0}

abbrev pub flight_of : M.ReadyVariables → Flight
flight_of s = record { superblock_write = s.superblock_write; commit_status = s.commit_status; new_superblock = s.new_superblock }

abbrev pub Runs : Geometry → Codec → M.Variables → D.Variables → Ledger → Bool → Type 0
Runs g C (M.Variables.Ready s) d l w =
    Live g C (flight_of s) s.superblock s.whichSuperblock s.writtenJournalLen s.frozenJournalPosition s.in_memory_journal_frozen s.in_memory_journal s.frozenLoc
    s.outstanding_journal_writes d.req_write_superblocks d.req_write_journals d.journal l w
Runs g C (M.Variables.LoadingOther s) d l w =
    Resting d.req_write_superblocks d.req_write_journals l
    × Paged g C s.superblock s.whichSuperblock s.journal_pieces d.journal l.kept w
Runs g C (M.Variables.LoadingSuperblock s) d l w =
    Resting d.req_write_superblocks d.req_write_journals l
    × Told s.superblocks d.superblocks

-- p is the parity of counter and slot, which the first disk has and every step keeps
pub record Sim (g : Geometry) (C : Codec) (p : ℕ) (m : M.Variables) (d : D.Variables) (l : Ledger) : Type 0 where
  pub slot : Bool
  pub disk : OnDisk g C p d.superblocks d.req_write_journals d.journal l.kept slot
  pub runs : Runs g C m d l slot
