use Prim.Native.Nat.{◌+◌, ◌-◌}
use native.Mathlib.Omega.{arith}
use Rattle.laws.specs.Around.{around_copied}
use Rattle.journal.proofs.slices.copy_around.Goals as goal

pub returns : goal.returns
returns c =
    let v = c in
    let w = c in
    let p3 = c in
    let p2 = c in
    let p1 = c in
    let a = c.args in
    around_copied a.src.now a.at a.n c.min-place.result c.min-first.result c.min-rest.result
    (c.min-place.result + c.min-first.result - c.min-place.result) (c.min-rest.result - 0)
    c.min-place.ensures c.min-first.ensures c.min-rest.ensures (omega arith) (omega arith)
    a.out.now _ _ c.write.ensures c.write-2.ensures
