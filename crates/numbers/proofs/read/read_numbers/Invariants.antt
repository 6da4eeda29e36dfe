use Rattle.std.proofs.Common.{◌≡◌, ◌+◌, ◌*◌, min, length, take, drop}
use Rattle.laws.specs.LowFirst.{each_from_low}
use Rattle.laws.specs.Splice.{splice}
use Rattle.numbers.proofs.read.read_numbers.Given as goal

abbrev pub invariant-loop-number : goal.invariant-loop-number
invariant-loop-number l =
    (length l.number-items ≡ length l.initial.number-items) × (l.place ≡ min (l.at + l.number-index * 8) (length l.src)) × (l.number-items ≡ splice l.initial.number-items 0 (take l.number-index (each_from_low 8 (length l.initial.number-items) (drop l.at l.src))))
