-- The view: machine and disk, each with what is lent to it, as source 004's state.
use Rattle.std.specs.Prelude.{ℕ, List}
use Rattle.layout.specs.declared.Geometry.{Geometry}
use Rattle.source.specs.JournalSystem.{Variables}
use Rattle.machine.specs.declared.Machine.{Machine}
use Rattle.machine.specs.Lent.{Lent}
use Rattle.disk.specs.declared.Disk.{Disk}
use Rattle.refine.specs.Disk.View.{disk_of}
use Rattle.refine.specs.Machine.MachineView.{machine_of}

abbrev pub store_of : Geometry → Lent → (blocks marks : List ℕ) → Machine → Disk → Variables
store_of g l blocks marks m d = record { machine = machine_of g l m; disk = disk_of g blocks marks d }
