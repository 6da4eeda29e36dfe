use Rattle.std.specs.Prelude.{◌≡◌, drop}
use Rattle.digest.specs.Take.{takes}
use Rattle.digest.proofs.bytes.Taken.singles.Given as goal

abbrev pub invariant-loop-b : goal.invariant-loop-b
invariant-loop-b l = takes l.v.number (drop l.b-index l.s) ≡ takes l.fn.self.number l.s
