use native.Mathlib.Omega.{arith}
use Rattle.ready.specs.Laws.Ring.{pos_past, pos_below}
use Rattle.ready.proofs.ring.pos_add.Goals as goal

pub returns-then-room-span : goal.returns-then-room-span
returns-then-room-span c =
    let a = c.args in
    let p = pos_past a.g a.start a.span (omega arith) in
    omega arith

pub returns : goal.returns
returns c =
    let a = c.args in
    let p = pos_below a.g a.start a.span (omega arith) in
    omega arith
