-- Histories that earlier releases began: before request S-6 an add could bring entries of zeros only, before S-2 a commit request left the sync requests
-- as they were. (Before S-3 question 2 turned away more states: whatever met it meets it now, source's `before_meets`.) Every other step was as it is now.
use Rattle.std.specs.Prelude.{Bool, refl, List, [], ◌++◌, ◌⊎◌}
use Rattle.layout.specs.declared.Geometry.{Geometry}
use Rattle.layout.specs.declared.Location.{Location}
use Rattle.codec.specs.Codec.{JournalEntry, Codec}
use Rattle.source.specs.JournalDisk as D
use Rattle.source.specs.JournalDisk.{ReqId, ReqWriteSuperblock, ReqWriteSuperblockOp, NoDiskOp}
use Rattle.source.specs.JournalCache as M
use Rattle.source.specs.JournalSystem as Y
use Rattle.source.specs.Limits.{Limits}
use Rattle.source.specs.Meets.{SystemMeets}
use Rattle.history.specs.Ledger.{Call, add, commit_log, commit_location, Ledger}
use Rattle.history.specs.Statement.{Takes, Goes, Runs, ledger_of}

-- the steps that were others: each the source's own
pub data EarlierStep (g : Geometry) (s t : Y.Variables) : Call → Type 0 where
  earlier_add : {es : List JournalEntry} → M.Advance s.machine t.machine NoDiskOp es → D.Next g s.disk t.disk NoDiskOp → EarlierStep g s t (add es)
  earlier_log : {id : ReqId} {which : Bool} {req : ReqWriteSuperblock} → M.WriteBackSuperblockReqAdvanceLog g s.machine t.machine (ReqWriteSuperblockOp id which req)
      → D.Next g s.disk t.disk (ReqWriteSuperblockOp id which req) → EarlierStep g s t (commit_log id)
  earlier_location : {id : ReqId} {which : Bool} {req : ReqWriteSuperblock} → M.WriteBackSuperblockReqAdvanceLocation g s.machine t.machine (ReqWriteSuperblockOp id which req)
      → D.Next g s.disk t.disk (ReqWriteSuperblockOp id which req) → EarlierStep g s t (commit_location id)

pub record Earlier (g : Geometry) (L : Limits) (s t : Y.Variables) (x : Call) : Type 0 where
  pub meets : SystemMeets g L s
  pub step : EarlierStep g s t x

-- a call was taken by this release or by an earlier one; and lists of such calls with their answers
abbrev pub TakesEver : Geometry → Codec → Limits → Y.Variables → Y.Variables → Call → Type 0
TakesEver g C L s t x = Takes g C L s t x ⊎ Earlier g L s t x

abbrev pub TraceEver : Geometry → Codec → Limits → Y.Variables → List Call → List Bool → Y.Variables → Type 0
TraceEver g C L = Runs (Goes (TakesEver g C L))

-- what came before: such a list from the first disk on, and the state that it left
pub record Past (g : Geometry) (C : Codec) (L : Limits) (first : Y.Variables) : Type 0 where
  pub calls : List Call
  pub answers : List Bool
  pub left : Y.Variables
  pub ever : TraceEver g C L first calls answers left

-- the ledger of the whole history: what came before, then the calls of this release, a crash and a load
abbrev pub ledger_since : (g : Geometry) (C : Codec) (L : Limits) (first : Y.Variables) (loc : Location) → Y.Init g first loc → Past g C L first
    → List Call → List Bool → List Call → List Bool → Ledger
ledger_since g C L first loc i past calls answers loading loaded = ledger_of g C first loc i (past.calls ++ calls) (past.answers ++ answers) loading loaded

-- nothing came before
abbrev pub no_past : (g : Geometry) (C : Codec) (L : Limits) (first : Y.Variables) → Past g C L first
no_past g C L first = record { calls = []; answers = []; left = first; ever = refl }
