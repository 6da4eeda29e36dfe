use Rattle.std.proofs.Common.{◌≡◌, take, drop}
use Rattle.laws.specs.Choice.{also}
use Rattle.laws.specs.Cut.{cut}
use Rattle.laws.specs.Fold.{sum, every}
use Rattle.range.specs.Blank.{some_byte}
use Rattle.memory.proofs.blank.none_blank.Given as goal

abbrev pub invariant-loop-size : goal.invariant-loop-size
invariant-loop-size l =
    (l.at ≡ sum (take l.size-index l.sizes))
    × (also l.ok (every some_byte (drop l.size-index (cut l.sizes l.bodies))) ≡ every some_byte (cut l.sizes l.bodies))
