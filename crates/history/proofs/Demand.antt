-- Demand 3, at document 01's range format and limits, for every N and T. Two stores begin from one disk that meets `Init`; each is given its
-- list of calls, and then a crash that it takes, and is then loaded by reads answered whole and the two finishing steps, with no other step
-- taken between. The two machines at Ready, with their replay entries, are equal exactly when the two ledgers are, and each machine shows
-- its own ledger.
use Rattle.std.specs.Prelude.{Bool, true, ◌≡◌, List, map}
use Rattle.layout.specs.declared.Geometry.{Geometry}
use Rattle.layout.specs.declared.Location.{Location}
use Rattle.range.specs.Blank.{none_blank}
use Rattle.codec.specs.Format.{format}
use Rattle.source.specs.JournalCache as M
use Rattle.source.specs.JournalSystem as Y
use Rattle.source.specs.Limits.{limits}
use Rattle.history.specs.Ledger.{Call, shown}
use Rattle.history.specs.Statement.{Loaded, ledger_of, Tells, ready_by, slot_by, Store, LoadedStore}
use Rattle.history.proofs.Whole.History
use Rattle.history.proofs.Whole.History.{whole_history}
use Rattle.history.specs.Earlier.{Past, ledger_since, no_past}
use Rattle.history.proofs.Whole.Ever.{since_tells, stores_since_tell}
use Rattle.history.proofs.Whole.Added.{loaded_none_blank}

pub demand_3 : (g : Geometry) (first : Y.Variables) (loc : Location) (i : Y.Init g first loc)
    (calls : List Call) (answers : List Bool) (loading : List Call) (loaded : List Bool) (r : M.ReadyVariables)
    (calls' : List Call) (answers' : List Bool) (loading' : List Call) (loaded' : List Bool) (q : M.ReadyVariables)
    → Loaded g format limits first calls answers loading loaded r
    → Loaded g format limits first calls' answers' loading' loaded' q
    → Tells r q
    (shown format (ledger_of g format first loc i calls answers loading loaded))
    (shown format (ledger_of g format first loc i calls' answers' loading' loaded'))
demand_3 g first loc i = whole_history g format limits first loc i

-- every field of a loaded machine is told by its ledger; the slot, which the ledger has not, by the counter and the first disk's slot
pub loaded_tells : (g : Geometry) (first : Y.Variables) (loc : Location) (i : Y.Init g first loc)
    (calls : List Call) (answers : List Bool) (loading : List Call) (loaded : List Bool) (r : M.ReadyVariables)
    → Loaded g format limits first calls answers loading loaded r
    → let v = shown format (ledger_of g format first loc i calls answers loading loaded) in
    r ≡ ready_by v (slot_by g first loc i v.counter)
loaded_tells g first loc i = History.loaded_tells g format limits first loc i

-- "From now on such an entry isn't taken into the journal" (document 02, S-6): from `Init`, nothing that is loaded is of zeros only
pub none_blank_loaded : (g : Geometry) (first : Y.Variables) (loc : Location) (i : Y.Init g first loc)
    (calls : List Call) (answers : List Bool) (loading : List Call) (loaded : List Bool) (r : M.ReadyVariables)
    → Loaded g format limits first calls answers loading loaded r
    → none_blank r.replay_journal ≡ true
none_blank_loaded g = loaded_none_blank g format limits

-- A disk from before. What came before (`Past`) was taken by this release or by earlier ones, adds of entries of zeros only among it. Every field of a machine
-- that is loaded behind it is told by the ledger of the whole history, such entries included: they are written, loaded and replayed as they are.
pub earlier_tells : (g : Geometry) (first : Y.Variables) (loc : Location) (i : Y.Init g first loc) (past : Past g format limits first)
    (calls : List Call) (answers : List Bool) (loading : List Call) (loaded : List Bool) (r : M.ReadyVariables)
    → Loaded g format limits past.left calls answers loading loaded r
    → let v = shown format (ledger_since g format limits first loc i past calls answers loading loaded) in
    r ≡ ready_by v (slot_by g first loc i v.counter)
earlier_tells g first loc i = since_tells g format limits first loc i

-- Demand 3 of any two stores, each with its own states and calls (two suppliers), that are handed what came before, each its own
pub earlier_two_stores : (g : Geometry) (first : Y.Variables) (loc : Location) (i : Y.Init g first loc) (past past' : Past g format limits first) (S S' : Store g format limits)
    (s : S.State) (calls : List S.Made) (answers : List Bool) (crashing : S.Made) (loading : List S.Made) (loaded : List Bool) (r : M.ReadyVariables)
    (s' : S'.State) (calls' : List S'.Made) (answers' : List Bool) (crashing' : S'.Made) (loading' : List S'.Made) (loaded' : List Bool) (q : M.ReadyVariables)
    → LoadedStore S past.left s calls answers crashing loading loaded r
    → LoadedStore S' past'.left s' calls' answers' crashing' loading' loaded' q
    → Tells r q
    (shown format (ledger_since g format limits first loc i past (map S.call calls) answers (map S.call loading) loaded))
    (shown format (ledger_since g format limits first loc i past' (map S'.call calls') answers' (map S'.call loading') loaded'))
earlier_two_stores g first loc i = stores_since_tell g format limits first loc i

-- the same where nothing came before: their first states are seen as one state that meets `Init`
pub two_stores : (g : Geometry) (S S' : Store g format limits) (first : Y.Variables) (loc : Location) (i : Y.Init g first loc)
    (s : S.State) (calls : List S.Made) (answers : List Bool) (crashing : S.Made) (loading : List S.Made) (loaded : List Bool) (r : M.ReadyVariables)
    (s' : S'.State) (calls' : List S'.Made) (answers' : List Bool) (crashing' : S'.Made) (loading' : List S'.Made) (loaded' : List Bool) (q : M.ReadyVariables)
    → LoadedStore S first s calls answers crashing loading loaded r
    → LoadedStore S' first s' calls' answers' crashing' loading' loaded' q
    → Tells r q
    (shown format (ledger_of g format first loc i (map S.call calls) answers (map S.call loading) loaded))
    (shown format (ledger_of g format first loc i (map S'.call calls') answers' (map S'.call loading') loaded'))
two_stores g S S' first loc i = earlier_two_stores g first loc i (no_past g format limits first) (no_past g format limits first) S S'
