use Rattle.std.proofs.Common.{◌≡◌, length, take}
use Rattle.laws.specs.Splice.{splice}
use Rattle.words.specs.Hex.{bytes}
use Rattle.words.proofs.bytes.write.Given as goal

abbrev pub invariant-loop-j : goal.invariant-loop-j
invariant-loop-j l = (length l.out ≡ length l.initial.out) × (l.out ≡ splice l.initial.out l.at (take l.j (bytes l.digits)))
