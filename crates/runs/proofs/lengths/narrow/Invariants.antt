use Rattle.std.proofs.Common.{◌≡◌, ◌≤◌, length, take}
use Rattle.runs.specs.Low.{low_bytes}
use Rattle.laws.specs.Splice.{splice}
use Rattle.runs.proofs.lengths.narrow.Given as goal

abbrev pub invariant-loop-j : goal.invariant-loop-j
invariant-loop-j l = (l.j ≤ l.j-end) × (length l.dst ≡ length l.initial.dst) × (l.dst ≡ splice l.initial.dst l.at (take l.j (low_bytes l.src)))
