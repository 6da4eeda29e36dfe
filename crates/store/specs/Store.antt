-- The store: machine and disk together (source 004), and what a step answers.
use Rattle.std.specs.Prelude.{ℕ, cond, eqb, Result, Ok, Err}
use Rattle.refusal.specs.declared.Refusal.{Refusal}
use Rattle.refusal.specs.Refusal.{refusal}
use Rattle.superblock.specs.declared.DiskOp.{DiskOp}
use Rattle.machine.specs.declared.Machine.{Machine}
use Rattle.disk.specs.declared.Disk.{Disk}
use Rattle.store.specs.declared.Store.{Store}
use Rattle.store.specs.declared.SteppedStore.{SteppedStore}

abbrev pub store : Machine → Disk → Store
store m d = record { machine = m; disk = d }

-- what a step answers beside the store
abbrev pub StoreStepped : Type 0
StoreStepped = SteppedStore Refusal

-- an answer and the store beside it
abbrev pub store_answered : Result DiskOp Refusal → Store → StoreStepped
store_answered a s = record { answer = a; store = s }

-- one number decides: 0 is the next store, with the disk operation that was done; another is its refusal, with the store as it was
abbrev pub refused : {E : Type 0} → Store → E → SteppedStore E
refused s e = record { answer = Err e; store = s }

abbrev pub accepted : DiskOp → Store → StoreStepped
accepted op next = record { answer = Ok op; store = next }

unfoldable pub answered : ℕ → DiskOp → Store → Store → StoreStepped
answered q op next s = cond (eqb q 0) (accepted op next) (refused s (refusal q))
