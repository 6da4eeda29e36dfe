-- Document 01's ledger: what a load is to show, worked out from the first disk, the calls with their arguments, and which of them were
-- refused. A call is what a caller hands in; the disk operation that the store makes of it depends on the state and is no part of it. The
-- ledger has no slot and no block index: a range is its list of entries, and of a range it asks only how many blocks hold it.
use Rattle.std.specs.Prelude.{ℕ, ◌+◌, ◌%◌, Bool, true, false, List, [], ◌∷◌, ◌++◌, length, drop}
use Rattle.std.proofs.Math.Option.{Option, none, some, get_or}
use Rattle.laws.specs.Cut.{flat}
use Rattle.layout.specs.declared.Geometry.{Geometry}
use Rattle.layout.specs.declared.Location.{Location}
use Rattle.layout.specs.Geometry.{num_journal_blocks}
use Rattle.superblock.specs.declared.Superblock.{Superblock}
use Rattle.superblock.specs.Superblock.{increment_superblock_counter}
use Rattle.codec.specs.Codec.{JournalEntry, Codec}
pub use Rattle.codec.specs.Ranges.{Range}
unfoldable pub use Rattle.codec.specs.Ranges.{blocks}
use Rattle.source.specs.JournalDisk.{ReqId}

-- the machine's steps in the order of the source's `Step`, ask again, landings, and crash. An answer to a read says whether it is whole.
-- Nonsense is a call with an argument that there is not: a third slot, an entry longer than its bytes. It is never taken.
pub data Call : Type 0 where
  write_journal : (id1 : ReqId) (id2 : Option ReqId) → Call
  journal_written : (id : ReqId) → Call
  commit_log : (id : ReqId) → Call
  commit_location : (id : ReqId) → Call
  superblock_written : (id : ReqId) → Call
  read_journal : (which : Bool) (id : ReqId) → Call
  journal_read : (id : ReqId) (whole : Bool) → Call
  read_superblock : (which : Bool) (id : ReqId) → Call
  superblock_read : (which : Bool) (id : ReqId) (whole : Bool) → Call
  finish_superblocks : Call
  finish_other : Call
  freeze : Call
  receive : (loc : Location) → Call
  add : (es : List JournalEntry) → Call
  replay : (es : List JournalEntry) → Call
  push_sync : (id : ℕ) → Call
  pop_sync : (id : ℕ) → Call
  no_op : Call
  ask_again : (which : Bool) → Call
  land : (which : Bool) → Call
  crash : Call
  nonsense : Call

pub record Kept : Type 0 where
  pub counter : ℕ
  pub start : ℕ
  pub loc : Location
  pub ranges : List Range

-- the ranges so far, cut at the mark (where there is no mark, none stand before it); entries not yet written, frozen and in memory; the
-- location last received
pub record Draft : Type 0 where
  pub before : List Range
  pub after : List Range
  pub frozen : List JournalEntry
  pub memory : List JournalEntry
  pub received : Option Location

pub data Commit : Type 0 where
  log location : Commit

-- a commit request that has not landed, with the draft as it was
pub record Request : Type 0 where
  pub commit : Commit
  pub draft : Draft

pub record Ledger : Type 0 where
  pub kept : Kept
  pub draft : Draft
  pub request : Option Request

-- the draft is what is kept, the rest is gone
abbrev pub fresh : Kept → Ledger
fresh k =
    record {
      kept = k;
      draft = record { before = []; after = k.ranges; frozen = []; memory = []; received = none };
      request = none;
    }

-- the selected superblock of the first disk, and no blocks
abbrev pub begin : Superblock → Ledger
begin s = fresh (record { counter = s.counter; start = s.journalStart; loc = s.indirectionTableLoc; ranges = [] })

abbrev pub on_draft : (Draft → Draft) → Ledger → Ledger
on_draft f l = record { kept = l.kept; draft = f l.draft; request = l.request }

-- add: entries join those in memory
abbrev pub added : List JournalEntry → Draft → Draft
added es d = record { before = d.before; after = d.after; frozen = d.frozen; memory = d.memory ++ es; received = d.received }

-- freeze: those in memory join the frozen ones, and the mark goes to the end
abbrev pub frozen : Draft → Draft
frozen d = record { before = d.before ++ d.after; after = []; frozen = d.frozen ++ d.memory; memory = []; received = d.received }

-- write: the frozen, else those in memory, become one range at the end; if they were frozen, the mark goes after it
abbrev pub written_of : List JournalEntry → Draft → Draft
written_of [] d = record { before = d.before; after = d.after ++ (d.memory ∷ []); frozen = []; memory = []; received = d.received }
written_of (e ∷ es) d = record { before = d.before ++ d.after ++ ((e ∷ es) ∷ []); after = []; frozen = []; memory = d.memory; received = d.received }

abbrev pub written : Draft → Draft
written d = written_of d.frozen d

-- a received location is remembered
abbrev pub received_at : Location → Draft → Draft
received_at loc d = record { before = d.before; after = d.after; frozen = d.frozen; memory = d.memory; received = some loc }

-- a commit request is remembered with the draft as it is
abbrev pub asked : Commit → Ledger → Ledger
asked c l = record { kept = l.kept; draft = l.draft; request = some (record { commit = c; draft = l.draft }) }

-- the first landing, by the draft of the request: what is kept, and what is left of the present draft
abbrev pub kept_by : Geometry → Codec → Commit → Draft → Kept → Kept
kept_by g C log d k =
    record {
      counter = increment_superblock_counter k.counter;
      start = k.start;
      loc = k.loc;
      ranges = d.before ++ d.after;
    }
kept_by g C location d k =
    record {
      counter = increment_superblock_counter k.counter;
      start = (k.start + blocks C d.before) % num_journal_blocks g;
      loc = get_or d.received k.loc;
      ranges = d.after;
    }

abbrev pub left_by : Commit → Draft → Draft → Draft
left_by log d p = p
left_by location d p =
    record { before = []; after = drop (length d.before) (p.before ++ p.after); frozen = p.frozen; memory = p.memory; received = p.received }

abbrev pub landed : Geometry → Codec → Option Request → Ledger → Ledger
landed g C none l = l
landed g C (some q) l =
    record { kept = kept_by g C q.commit q.draft l.kept; draft = left_by q.commit q.draft l.draft; request = none }

-- what an accepted call does to the ledger
unfoldable pub tell : Geometry → Codec → Call → Ledger → Ledger
tell g C (write_journal id1 id2) l = on_draft written l
tell g C (journal_written id) l = l
tell g C (commit_log id) l = asked log l
tell g C (commit_location id) l = asked location l
tell g C (superblock_written id) l = l
tell g C (read_journal which id) l = l
tell g C (journal_read id whole) l = l
tell g C (read_superblock which id) l = l
tell g C (superblock_read which id whole) l = l
tell g C finish_superblocks l = l
tell g C finish_other l = l
tell g C freeze l = on_draft frozen l
tell g C (receive loc) l = on_draft (received_at loc) l
tell g C (add es) l = on_draft (added es) l
tell g C (replay es) l = l
tell g C (push_sync id) l = l
tell g C (pop_sync id) l = l
tell g C no_op l = l
tell g C (ask_again which) l = l
tell g C (land which) l = landed g C l.request l
tell g C crash l = fresh l.kept
tell g C nonsense l = l

-- an accepted call and a refused one
abbrev pub heard : Geometry → Codec → Bool → Call → Ledger → Ledger
heard g C true x l = tell g C x l
heard g C false x l = l

-- a list of calls with their answers: true where the call was accepted, false where it was refused
unfoldable pub books : Geometry → Codec → Ledger → List Call → List Bool → Ledger
books g C l [] bs = l
books g C l (x ∷ xs) [] = l
books g C l (x ∷ xs) (b ∷ bs) = books g C (heard g C b x l) xs bs

-- the fields that demand 3 names: entries in order, however ranges divide them
pub record Shown : Type 0 where
  pub counter : ℕ
  pub start : ℕ
  pub loc : Location
  pub blocks : ℕ
  pub entries : List JournalEntry

abbrev pub shown : Codec → Ledger → Shown
shown C l =
    record {
      counter = l.kept.counter;
      start = l.kept.start;
      loc = l.kept.loc;
      blocks = blocks C l.kept.ranges;
      entries = flat l.kept.ranges;
    }
