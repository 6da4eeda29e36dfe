use Rattle.std.specs.Prelude.{◌≡◌, ◌*◌, drop}
use Rattle.digest.specs.Take.{takes}
use Rattle.digest.proofs.bytes.Taken.threes.Given as goal

abbrev pub invariant-loop-i : goal.invariant-loop-i
invariant-loop-i l = takes l.v.number (drop (3 * l.i) l.s) ≡ takes l.fn.self.number l.s
