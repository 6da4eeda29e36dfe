use Rattle.laws.specs.Optional.{optional}
use Rattle.tables.proofs.Laws.Places.{found, missed}
use Rattle.tables.proofs.Laws.Walks.{mapped}
use borrow.Author.Rules.{rules}
use lib.ListN.{length}
use mathlib.Core.Path.{◌≡◌, sym, ap}
use Rattle.tables.proofs.IntervalTable.get.Goals as goal
use Rattle.tables.proofs.IntervalTable.get.Goals.{Start}

ids_long : (c : Start) → length c.args.self.ids ≡ 16
ids_long c = search rules

intervals_long : (c : Start) → length c.args.self.intervals ≡ 16
intervals_long c = search (rules, mapped)

pub returns-then-i-n : goal.returns-then-i-n
returns-then-i-n c =
    sym (ap optional (found _ _ _ _ _ _ 16 (ids_long (goal.at.returns-then-i-n c).Start) (intervals_long (goal.at.returns-then-i-n c).Start) c.min-n.ensures c.place-i.ensures _ c.if-i-n.true))

pub returns : goal.returns
returns c =
    sym (ap optional (missed _ _ _ _ _ _ 16 (ids_long (goal.at.returns c).Start) (intervals_long (goal.at.returns c).Start) c.min-n.ensures c.place-i.ensures c.if-i-n.false))
