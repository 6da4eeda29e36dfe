-- What completeness of the store says: an allowed step within the limits is taken by a call that is tied to it, and the view of the next store is
-- its next state. The hypotheses are the document's words (Allowed, Within) and what record and lent memory add to the view.
use Rattle.std.specs.Prelude.{◌≡◌, Ok}
use Rattle.layout.specs.declared.Geometry.{Geometry}
use Rattle.superblock.specs.declared.DiskOp.{DiskOp}
use Rattle.source.specs.JournalSystem as Y
use Rattle.source.specs.Limits.{limits}
use Rattle.source.specs.Meets.{SystemMeets}
use Rattle.source.specs.Departures.{Event}
use Rattle.history.specs.Statement.{Tied}
use Rattle.store.specs.declared.Store.{Store}
use Rattle.store.specs.Lent.{Lent, machine_lent, ask_store}
use Rattle.calls.specs.declared.calls.Step.{Step}
use Rattle.calls.specs.Given.{Given}
use Rattle.calls.specs.Step.{stepped, stepped_lent}
use Rattle.refine.specs.Disk.View as disk
use Rattle.refine.specs.Machine.MachineView.{MachineLent, MachineForm}
use Rattle.refine.specs.Store.Seen.{seen, SizedStore, StoreMet, met_store, call_of}

-- what the records and lent memory add to the view
pub record StoreForm (g : Geometry) (l : Lent) (s : Store) : Type 0 where
  pub machine_lent_is : MachineLent g (machine_lent l)
  pub machine : MachineForm (machine_lent l) s.machine
  pub disk_lent : disk.Lent g l.blocks l.marks
  pub tables : disk.DiskTables s.disk

-- with the document's question 2 of the view, questions 1 and 2 are answered yes
pub form_met : (g : Geometry) (l : Lent) (s : Store) (z : SizedStore s) → StoreForm g l s → SystemMeets g limits (seen g l s) → StoreMet g l s z
form_met g l s z f m =
    record {
      machine = record { lent = f.machine_lent_is; form = f.machine; meets = m.machine };
      disk = record { lent = f.disk_lent; tables = f.tables; meets = m.disk };
      joined = m.joined;
    }

pub met_form : (g : Geometry) (l : Lent) (s : Store) (z : SizedStore s) → StoreMet g l s z → StoreForm g l s
met_form g l s z m = record { machine_lent_is = m.machine.lent; machine = m.machine.form; disk_lent = m.disk.lent; tables = m.disk.tables }

pub form_asks : (g : Geometry) (l : Lent) (s : Store) → SizedStore s → StoreForm g l s → SystemMeets g limits (seen g l s) → ask_store g l s ≡ 0
form_asks g l s z f m = met_store g l s z (form_met g l s z f m)

-- a call that is taken, and the next store is seen as t
pub record TakenTo (g : Geometry) (l : Lent) (v : Given) (s : Store) (x : Step) (t : Y.Variables) : Type 0 where
  pub op : DiskOp
  pub taken : (stepped g l v s x).answer ≡ Ok op
  pub next : seen g (stepped_lent g l v s x) (stepped g l v s x).store ≡ t

-- a call that takes the event to the state t
pub record Done (g : Geometry) (l : Lent) (s : Store) (t : Y.Variables) (event : Event) : Type 0 where
  pub call : Step
  pub given : Given
  pub tied : Tied (call_of given call) event
  pub to : TakenTo g l given s call t
