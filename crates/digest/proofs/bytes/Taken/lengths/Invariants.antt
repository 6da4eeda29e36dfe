use Rattle.std.specs.Prelude.{◌≡◌, drop}
use Rattle.laws.specs.LowFirst.{each_low}
use Rattle.digest.specs.Take.{takes}
use Rattle.digest.proofs.bytes.Taken.lengths.Given as goal

abbrev pub invariant-loop-n : goal.invariant-loop-n
invariant-loop-n l = takes l.v.number (each_low 2 (drop l.n-index l.lens)) ≡ takes l.fn.self.number (each_low 2 l.lens)
