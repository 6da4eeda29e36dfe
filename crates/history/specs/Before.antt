-- Lists of calls with their answers as they were before request S-3: in the place of question 2 stands the one with the source's overlap (source,
-- Before). Steps, calls and the ledger are the same; and the ledger is fed calls and answers alone. That from `Init` these lists are those of
-- Statement is `histories_unchanged` (Reach/Unchanged).
use Rattle.std.specs.Prelude.{Bool, List}
use Rattle.layout.specs.declared.Geometry.{Geometry}
use Rattle.codec.specs.Codec.{Codec}
use Rattle.source.specs.JournalSystem as Y
use Rattle.source.specs.Limits.{Limits}
use Rattle.source.specs.Before.{MeetsBefore}
use Rattle.source.specs.Departures.{Event, SystemStep⁺}
use Rattle.history.specs.Ledger.{Call}
use Rattle.history.specs.Statement.{Tied, Goes, Runs}

-- a call was taken: in a state that met question 2, an event of its own
pub record TakesBefore (g : Geometry) (C : Codec) (L : Limits) (s t : Y.Variables) (x : Call) : Type 0 where
  pub event : Event
  pub tied : Tied x event
  pub meets : MeetsBefore g L s
  pub step : SystemStep⁺ g C s t event

abbrev pub TraceBefore : Geometry → Codec → Limits → Y.Variables → List Call → List Bool → Y.Variables → Type 0
TraceBefore g C L = Runs (Goes (TakesBefore g C L))
