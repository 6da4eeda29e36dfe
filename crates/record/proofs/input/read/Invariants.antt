-- `read` ends, since each turn leaves less to fill.
use mathlib.Core.Path.{◌≡◌}
use Prim.Native.Nat.{◌-◌, ◌^◌, ◌≤◌, ◌<◌}
use lib.ListN.{length}
use Rattle.record.proofs.input.read.Given as goal

abbrev pub invariant-loop-len : goal.invariant-loop-len
invariant-loop-len l = (length l.disk ≡ length l.initial.disk) × (l.len ≤ length l.disk) × (length l.disk < 2 ^ 64)

abbrev pub decreases-loop-len : goal.decreases-loop-len
decreases-loop-len l = length l.disk - l.len
