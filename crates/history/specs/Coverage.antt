-- Sync requests and the ledger: all that a reader has to believe of the statement that a request reaches State1 only after a landing that covered
-- every entry added before its push since the last crash, whether kept or dropped by a location commit. Beside the ledger an account is kept of
-- the entries since the last crash; both are worked out from the first disk, the calls, and which of them were refused, alone.
use Rattle.std.specs.Prelude.{ℕ, Bool, true, false, not, ◌≡◌, List, [], ◌∷◌, ◌++◌, eqb}
use Rattle.std.proofs.Math.Option.{Option, none, some}
use Rattle.laws.specs.Cut.{flat}
use Rattle.laws.specs.Fold.{Each}
use Rattle.laws.specs.Sets.{empty_ids}
use Rattle.layout.specs.declared.Geometry.{Geometry}
use Rattle.codec.specs.Codec.{JournalEntry, Codec}
use Rattle.source.specs.JournalDisk.{ReqId}
use Rattle.source.specs.JournalCache as M
use Rattle.source.specs.JournalCache.{SyncReqStatus, State1, sync_reqs_of}
use Rattle.source.specs.JournalSystem as Y
use Rattle.source.specs.Limits.{Limits}
use Rattle.source.specs.Meets.{SystemMeets}
use Rattle.history.specs.Statement.{Trace}
use Rattle.history.specs.Ledger.{Call, write_journal, journal_written, commit_log, commit_location, superblock_written, read_journal, journal_read, read_superblock, superblock_read, finish_superblocks, finish_other, freeze, receive, add, replay, push_sync, pop_sync, no_op, ask_again, land, crash, nonsense, Kept, Draft, Commit, log, location, Request, Ledger, heard}

-- a call and whether it was accepted
pub record Said : Type 0 where
  pub call : Call
  pub accepted : Bool

abbrev pub yes : Call → Said
yes x = record { call = x; accepted = true }

-- a list of calls with their answers, one by one
abbrev pub said : List Call → List Bool → List Said
said [] bs = []
said (x ∷ xs) [] = []
said (x ∷ xs) (b ∷ bs) = record { call = x; accepted = b } ∷ said xs bs

-- Entries since the last crash, each in the order of its adding: those that were kept then, those added since, and those that landings of
-- location commits have dropped since.
pub record Account : Type 0 where
  pub loaded : List JournalEntry
  pub added : List JournalEntry
  pub dropped : List JournalEntry

abbrev pub opened : Kept → Account
opened k = record { loaded = flat k.ranges; added = []; dropped = [] }

-- a location commit drops the ranges before the mark
abbrev pub drops : Commit → Draft → List JournalEntry
drops log d = []
drops location d = flat d.before

-- the first landing, by the draft of the request
abbrev pub settled : Option Request → Account → Account
settled none a = a
settled (some q) a = record { loaded = a.loaded; added = a.added; dropped = a.dropped ++ drops q.commit q.draft }

-- an accepted call, by the ledger before it
unfoldable pub enter : Call → Ledger → Account → Account
enter (write_journal id1 id2) l a = a
enter (journal_written id) l a = a
enter (commit_log id) l a = a
enter (commit_location id) l a = a
enter (superblock_written id) l a = a
enter (read_journal which id) l a = a
enter (journal_read id whole) l a = a
enter (read_superblock which id) l a = a
enter (superblock_read which id whole) l a = a
enter finish_superblocks l a = a
enter finish_other l a = a
enter freeze l a = a
enter (receive loc) l a = a
enter (add es) l a = record { loaded = a.loaded; added = a.added ++ es; dropped = a.dropped }
enter (replay es) l a = a
enter (push_sync id) l a = a
enter (pop_sync id) l a = a
enter no_op l a = a
enter (ask_again which) l a = a
enter (land which) l a = settled l.request a
enter crash l a = opened l.kept
enter nonsense l a = a

abbrev pub entered : Bool → Call → Ledger → Account → Account
entered true x l a = enter x l a
entered false x l a = a

-- ledger and account side by side
pub record Page : Type 0 where
  pub ledger : Ledger
  pub account : Account

abbrev pub first_page : Ledger → Page
first_page l = record { ledger = l; account = opened l.kept }

abbrev pub turn : Geometry → Codec → Said → Page → Page
turn g C x p =
    record { ledger = heard g C x.accepted x.call p.ledger; account = entered x.accepted x.call p.ledger p.account }

unfoldable pub pages : Geometry → Codec → Page → List Said → Page
pages g C p [] = p
pages g C p (x ∷ xs) = pages g C (turn g C x p) xs

-- the entries added before, since the last crash, behind those that were kept then
abbrev pub before_here : Page → List JournalEntry
before_here p = p.account.loaded ++ p.account.added

-- kept, or dropped by a location commit since the last crash
abbrev pub covered_here : Page → List JournalEntry
covered_here p = p.account.dropped ++ flat p.ledger.kept.ranges

-- a call that leaves the request `id` what it is: not its push or pop, and no crash
unfoldable pub leaves : ℕ → Call → Bool
leaves id (write_journal id1 id2) = true
leaves id (journal_written k) = true
leaves id (commit_log k) = true
leaves id (commit_location k) = true
leaves id (superblock_written k) = true
leaves id (read_journal which k) = true
leaves id (journal_read k whole) = true
leaves id (read_superblock which k) = true
leaves id (superblock_read which k whole) = true
leaves id finish_superblocks = true
leaves id finish_other = true
leaves id freeze = true
leaves id (receive loc) = true
leaves id (add es) = true
leaves id (replay es) = true
leaves id (push_sync k) = not (eqb k id)
leaves id (pop_sync k) = not (eqb k id)
leaves id no_op = true
leaves id (ask_again which) = true
leaves id (land which) = true
leaves id crash = false
leaves id nonsense = true

abbrev pub Leaves : ℕ → Said → Type 0
Leaves id x = x.accepted ≡ true → leaves id x.call ≡ true

-- The list is cut at the request's push and at a later landing. The push is its last, with neither its pop nor a crash since; the landing is the
-- first of a commit request, and with it every entry that was added before the push since the last crash is kept or dropped.
pub record Covered (g : Geometry) (C : Codec) (p : Page) (xs : List Said) (id : ℕ) : Type 0 where
  pub before : List Said
  pub between : List Said
  pub which : Bool
  pub after : List Said
  pub list_is : xs ≡ before ++ yes (push_sync id) ∷ (between ++ yes (land which) ∷ after)
  pub its_push : Each (Leaves id) (between ++ yes (land which) ∷ after)
  pub request : Request
  pub first_landing : (pages g C p (before ++ yes (push_sync id) ∷ between)).ledger.request ≡ some request
  pub rest : List JournalEntry
  pub covers : covered_here (pages g C p (before ++ yes (push_sync id) ∷ (between ++ yes (land which) ∷ []))) ≡ before_here (pages g C p before) ++ rest

-- A save with nothing new entered. A store at work is idle with no entry in memory or frozen, no journal write outstanding and no commit in flight.
pub record Idle (r : M.ReadyVariables) : Type 0 where
  pub none_in_memory_is : r.in_memory_journal ≡ []
  pub none_frozen_is : r.in_memory_journal_frozen ≡ []
  pub none_outstanding_is : r.outstanding_journal_writes ≡ empty_ids
  pub no_commit_is : r.superblock_write ≡ none

-- a log commit under any id, its landing and its answer
abbrev pub saving : ReqId → Bool → List Call
saving k which = commit_log k ∷ land which ∷ superblock_written k ∷ []

-- all three are taken, to a store that question 2 passes, and every sync request that was there is at State1
pub record Saved (g : Geometry) (C : Codec) (L : Limits) (s : Y.Variables) (k : ReqId) (which : Bool) : Type 0 where
  pub end : Y.Variables
  pub taken : Trace g C L s (saving k which) (true ∷ true ∷ true ∷ []) end
  pub meets : SystemMeets g L end
  pub done : (id : ℕ) (v : SyncReqStatus) → sync_reqs_of s.machine id ≡ some v → sync_reqs_of end.machine id ≡ some State1
