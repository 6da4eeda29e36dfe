use Rattle.std.proofs.Common.{◌≡◌, ◌≤◌, length, take}
use Rattle.laws.specs.Splice.{splice}
use Rattle.runs.proofs.lengths.widen.Given as goal

abbrev pub invariant-loop-j : goal.invariant-loop-j
invariant-loop-j l = (l.j ≤ l.j-end) × (length l.dst ≡ length l.initial.dst) × (l.dst ≡ splice l.initial.dst l.at (take l.j l.src))
