use Rattle.std.proofs.Common.{◌≡◌, drop}
use Rattle.joined.specs.Apart.{apart}
use Rattle.joined.proofs.apart.rows_apart.Given as goal

abbrev pub invariant-loop-i : goal.invariant-loop-i
invariant-loop-i l = apart (drop l.i l.rows) ≡ apart l.rows
