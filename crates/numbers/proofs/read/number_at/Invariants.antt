use Rattle.std.proofs.Common.{◌≡◌, take, drop}
use Rattle.laws.specs.LowFirst.{from_low}
use Rattle.numbers.proofs.read.number_at.Given as goal

abbrev pub invariant-loop-j : goal.invariant-loop-j
invariant-loop-j l = l.n ≡ from_low (drop l.j (take l.count (drop l.start l.src)))
