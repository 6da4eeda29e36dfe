use Prim.Native.Nat.{◌-◌}
use mathlib.Core.Path.{◌≡◌}
use Rattle.laws.specs.Least.{least_from}
use Rattle.driver.specs.Ids.{holds, least_new}
use Rattle.driver.proofs.ids.least_new.Given as goal

abbrev pub invariant-loop-i : goal.invariant-loop-i
invariant-loop-i l = least_from (holds l.d) (66 - l.i) l.i ≡ least_new l.d
