-- Request S-3 of the code. From `Init` it answers and moves as by question 2 before the request: what it ran is a trace (`ran_trace`), and from `Init`
-- a trace is one of before (`histories_unchanged`). Of any store that it is handed, it takes what it took before: a state that met question 2
-- before meets it now (`before_meets`), and a call is taken wherever an event of its own is allowed (`call_complete`).
use Rattle.std.specs.Prelude.{Bool, List, map, ◌↔◌}
use Rattle.layout.specs.declared.Geometry.{Geometry}
use Rattle.layout.specs.declared.Location.{Location}
use Rattle.codec.specs.Format.{format}
use Rattle.source.specs.JournalSystem as Y
use Rattle.source.specs.Limits.{limits}
use Rattle.source.specs.Before.{MeetsBefore}
use Rattle.source.specs.Departures.{Event, SystemStep⁺}
use Rattle.source.specs.Within.{Within}
use Rattle.source.proofs.Laws.Overlap.{before_meets}
use Rattle.history.specs.Statement.{Tied, Takes, Ran}
use Rattle.history.specs.Before.{TakesBefore, TraceBefore}
use Rattle.history.proofs.Whole.Stores.{ran_trace}
use Rattle.history.proofs.Reach.Unchanged.{histories_unchanged, calls_unchanged}
use Rattle.store.specs.declared.Store.{Store}
use Rattle.store.specs.Lent.{Lent}
use Rattle.calls.specs.declared.calls.Step.{Step}
use Rattle.calls.specs.Given.{Given}
use Rattle.refine.specs.Store.Seen.{seen, SizedStore, call_of}
use Rattle.refine.specs.Store.History.{State, Made, state_seen, code_store}
use Rattle.refine.specs.Store.Done.{StoreForm, TakenTo}
use Rattle.refine.specs.Store.Exact.{Pictured, call_complete}

module _ (g : Geometry) (s : State) (loc : Location) (i : Y.Init g (state_seen g s) loc) (calls : List Made) (answers : List Bool) (t : State) (h : Ran (code_store g) s calls answers t) where
  -- whatever calls it was given, its answers and states are those of a list as it was before
  pub code_histories_unchanged : TraceBefore g format limits (state_seen g s) (map (code_store g).call calls) answers (state_seen g t)
  code_histories_unchanged =
      (histories_unchanged g format limits (state_seen g s) loc i (map (code_store g).call calls) answers (state_seen g t)).1 (ran_trace g format limits (code_store g) s calls answers t h)

  -- and the next call is allowed exactly where it was
  pub code_calls_unchanged : (x : Made) (u : Y.Variables) → TakesBefore g format limits (state_seen g t) u ((code_store g).call x) ↔ Takes g format limits (state_seen g t) u ((code_store g).call x)
  code_calls_unchanged x u =
      calls_unchanged g format limits (state_seen g s) loc i (map (code_store g).call calls) answers (state_seen g t) (ran_trace g format limits (code_store g) s calls answers t h) u ((code_store g).call x)

-- of any store: a call that was allowed an event within the limits is taken to where it led
pub before_taken : (g : Geometry) (l : Lent) (v : Given) (s : Store) → SizedStore s → StoreForm g l s → (t : Y.Variables) (event : Event) (x : Step) → Tied (call_of v x) event → Pictured g l v x event
    → MeetsBefore g limits (seen g l s) → SystemStep⁺ g format (seen g l s) t event → Within g limits t event → TakenTo g l v s x t
before_taken g l v s z f t event x tied pictured m step w =
    call_complete g l v s z f t event x tied pictured (record { meets = before_meets g limits (seen g l s) m; step = step }, w)
