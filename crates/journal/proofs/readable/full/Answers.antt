use Prim.Native.Nat.{◌+◌, ◌-◌}
use native.Mathlib.Omega.{arith}
use Rattle.journal.specs.Memory.{is_one, slice_marks, full_marks}
use Rattle.laws.specs.Around.{every_around}
use Rattle.laws.specs.Choice.{also}
use Rattle.journal.proofs.readable.full.Goals as goal

pub returns : goal.returns
unfolding full_marks slice_marks also
returns c =
    let p3 = c in
    let p2 = c in
    let p1 = c in
    let a = c.args in
    every_around a.marks.now a.v.start a.v.len c.min-place.result c.min-first.result c.min-rest.result
    (c.min-place.result + c.min-first.result - c.min-place.result) (c.min-rest.result - 0)
    c.min-place.ensures c.min-first.ensures c.min-rest.ensures (omega arith) (omega arith)
    is_one _ _ c.all_one-a.ensures c.all_one-b.ensures
