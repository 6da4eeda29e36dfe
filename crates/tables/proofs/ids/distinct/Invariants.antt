use Rattle.std.proofs.Common.{◌≡◌, drop}
use Rattle.tables.specs.Rows.{distinct}
use Rattle.tables.proofs.ids.distinct.Given as goal

abbrev pub invariant-loop-i : goal.invariant-loop-i
invariant-loop-i l = distinct (drop l.i l.ids) ≡ distinct l.ids
