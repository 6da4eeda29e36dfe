use Rattle.std.proofs.Common.{◌<◌, ◌≡◌, drop}
use Rattle.words.specs.Decimal.{follows}
use Rattle.words.proofs.number.number.Given as goal

abbrev pub invariant-loop-c : goal.invariant-loop-c
invariant-loop-c l = (l.v < 18446744073709551616) × (follows l.v (drop l.c-index l.digits) ≡ follows 0 l.digits)
