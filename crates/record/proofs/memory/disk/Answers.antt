use Prim.Native.Nat.{ℕ}
use lib.ListN.{length-replicate}
use mathlib.Core.Path.{sym}
use Rattle.record.proofs.memory.disk.Goals as goal

pub returns : goal.returns
returns c = sym (length-replicate {0} {A = ℕ} 1056768 0)
