use Rattle.tables.proofs.Laws.Places.{found, missed}
use Rattle.tables.specs.SyncTable.{or_zero}
use borrow.Author.Rules.{rules}
use lib.ListN.{length}
use mathlib.Core.Path.{◌≡◌, sym, ap}
use Rattle.tables.proofs.SyncTable.state.Goals as goal
use Rattle.tables.proofs.SyncTable.state.Goals.{Start}

ids_long : (c : Start) → length c.args.self.ids ≡ 32
ids_long c = search rules

states_long : (c : Start) → length c.args.self.states ≡ 32
states_long c = search rules

pub returns-then-i-n : goal.returns-then-i-n
returns-then-i-n c =
    let s = c in
    sym (ap or_zero (found _ _ _ _ _ _ 32 (ids_long (goal.at.returns-then-i-n c).Start) (states_long (goal.at.returns-then-i-n c).Start) c.min-n.ensures c.place-i.ensures _ c.if-i-n.true))

pub returns : goal.returns
returns c =
    let s = c in
    sym (ap or_zero (missed _ _ _ _ _ _ 32 (ids_long (goal.at.returns c).Start) (states_long (goal.at.returns c).Start) c.min-n.ensures c.place-i.ensures c.if-i-n.false))
