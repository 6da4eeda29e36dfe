use Rattle.std.proofs.Common.{◌≡◌, ◌+◌, ◌*◌, min, length, take}
use Rattle.laws.specs.LowFirst.{each_low}
use Rattle.laws.specs.Splice.{clipped}
use Rattle.numbers.proofs.write.put_numbers.Given as goal

abbrev pub invariant-loop-n : goal.invariant-loop-n
invariant-loop-n l =
    (length l.dst ≡ length l.initial.dst) × (l.place ≡ min (l.at + l.n-index * 8) (length l.initial.dst)) × (l.dst ≡ clipped l.initial.dst l.at (each_low 8 (take l.n-index l.numbers)))
