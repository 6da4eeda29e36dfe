-- Request S-2, at document 01's range format and limits, for every N and T: what State1 means, and that a save with nothing new entered is done.
use Rattle.std.specs.Prelude.{ℕ, Bool, true, not, ◌≡◌, List, [], ◌∷◌, map}
use Rattle.std.proofs.Math.Option.{some}
use Rattle.layout.specs.declared.Geometry.{Geometry}
use Rattle.layout.specs.declared.Location.{Location}
use Rattle.layout.specs.Geometry.{ValidGeometry}
use Rattle.codec.specs.Format.{format}
use Rattle.source.specs.JournalDisk.{ReqId}
use Rattle.source.specs.JournalCache as M
use Rattle.source.specs.JournalCache.{State1, sync_reqs_of}
use Rattle.source.specs.JournalSystem as Y
use Rattle.source.specs.JournalSystem.{superblock_of_disk}
use Rattle.source.specs.Limits.{limits}
use Rattle.source.specs.Meets.{SystemMeets}
use Rattle.source.proofs.Laws.Format.{limits_fit}
use Rattle.history.specs.Ledger.{Call, push_sync, begin}
use Rattle.history.specs.Statement.{Trace, Store, Ran}
use Rattle.history.specs.Coverage.{first_page, said, Covered, Idle, saving, Saved}
use Rattle.history.proofs.Covering
use Rattle.history.proofs.Covering.Whole
use Rattle.history.proofs.Covering.Save

-- A sync request reaches State1 only after a landing that covered every entry added before its push since the last crash, whether kept or dropped by
-- a location commit. `calls` with `answers` is any list that demand 3 speaks of, refused calls included.
pub sync_covered : (g : Geometry) (first : Y.Variables) (loc : Location) (i : Y.Init g first loc) (calls : List Call) (answers : List Bool) (end : Y.Variables)
    → Trace g format limits first calls answers end → (id : ℕ) → sync_reqs_of end.machine id ≡ some State1
    → Covered g format (first_page (begin (superblock_of_disk g first.disk i.wf))) (said calls answers) id
sync_covered g first loc i = Covering.Whole.sync_covered g format limits first loc i

-- the same of any store whose calls are seen so, a second supplier's included
pub store_sync_covered : (g : Geometry) (S : Store g format limits) (first : Y.Variables) (loc : Location) (i : Y.Init g first loc) (s : S.State) (calls : List S.Made) (answers : List Bool) (t : S.State)
    → S.view s ≡ first → Ran S s calls answers t → (id : ℕ) → sync_reqs_of (S.view t).machine id ≡ some State1
    → Covered g format (first_page (begin (superblock_of_disk g first.disk i.wf))) (said (map S.call calls) answers) id
store_sync_covered g S first loc i = Covering.Whole.store_covered g format limits S first loc i

-- On an idle store, after a push, a log commit, its landing and its answer, all accepted, the request is at State1
pub idle_saved : (g : Geometry) (s t : Y.Variables) (r : M.ReadyVariables) → s.machine ≡ M.Variables.Ready r → Idle r → (id : ℕ) (k : ReqId) (which : Bool)
    → Trace g format limits s (push_sync id ∷ saving k which) (true ∷ true ∷ true ∷ true ∷ []) t → sync_reqs_of t.machine id ≡ some State1
idle_saved g = Covering.Save.idle_saved g format limits

-- and of an idle store that question 2 passes, handed ones too, the last three are accepted: with no commit in flight every id is free
pub idle_save : (g : Geometry) → ValidGeometry g → (s : Y.Variables) (r : M.ReadyVariables) → s.machine ≡ M.Variables.Ready r → Idle r → SystemMeets g limits s → (k : ReqId)
    → Saved g format limits s k (not r.whichSuperblock)
idle_save g = Covering.Save.idle_save g format limits limits_fit
