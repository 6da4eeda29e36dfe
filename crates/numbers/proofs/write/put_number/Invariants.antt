use Rattle.std.proofs.Common.{◌≡◌, ◌-◌, length, take, drop}
use Rattle.laws.specs.Digits.{digits}
use Rattle.laws.specs.LowFirst.{low_first}
use Rattle.laws.specs.Splice.{splice}
use Rattle.numbers.proofs.write.put_number.Given as goal

abbrev pub invariant-loop-j : goal.invariant-loop-j
invariant-loop-j l =
    (length l.dst ≡ length l.initial.dst) × (l.dst ≡ splice l.initial.dst l.start (take l.j (low_first l.width l.n))) × (digits 256 (l.width - l.j) l.rest ≡ drop l.j (low_first l.width l.n))
