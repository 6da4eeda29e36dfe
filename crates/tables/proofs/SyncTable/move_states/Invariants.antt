use Rattle.std.proofs.Common.{◌≡◌, ◌++◌, map, take, drop}
use Rattle.tables.specs.SyncTable.{moved}
use Rattle.tables.proofs.SyncTable.move_states.Given as goal

abbrev pub invariant-loop-state : goal.invariant-loop-state
invariant-loop-state l =
    l.state-items ≡ map (moved l.from l.to) (take l.state-index l.initial.state-items) ++ drop l.state-index l.initial.state-items
