use Prim.Native.Nat.{◌+◌, ◌*◌}
use mathlib.Core.Path.{◌≡◌}
use native.Mathlib.Omega.{arith}
use Rattle.writer.specs.Ring.{put_runs}
use Rattle.writer.proofs.ring.put.Goals as goal

pub returns : goal.returns
returns c =
    let s = c in
    let a = c.args in
    let full : c.zeros_behind-zeros.result + (4 + a.n + a.bodies) ≡ a.blocks * 4096 = omega (arith, c.zeros_behind-zeros.ensures) in
    put_runs _ _ _ _ _ _ _ c.requires _ _ _ _ _ _ _ c.head_bytes-head.ensures full c.wrapped-padding_at.ensures
    c.write_around.ensures c.narrow_around.ensures c.write_around-2.ensures c.fill_around.ensures
