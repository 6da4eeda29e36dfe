use Prim.Native.Nat.{◌-◌}
use mathlib.Core.Path.{◌∙◌, ap}
use native.Mathlib.Omega.{arith}
use Rattle.laws.specs.Around.{around_two}
use Rattle.laws.specs.Splice.{clipped}
use Rattle.runs.specs.Low.{low_bytes, length_low_bytes, low_bytes_part}
use Rattle.runs.proofs.around.narrow_around.Goals as goal

pub returns : goal.returns
returns c =
    let s = c in
    let l = length_low_bytes c.args.src.now in
    let first = c.min-first.result in
    let end = c.min-end.result in
    around_two c.args.dst.now _ _ c.args.at (low_bytes c.args.src.now) first end (omega (arith, l)) (omega (arith, l)) c.narrow.ensures
    (c.narrow-2.ensures ∙ ap (clipped _ 0) (low_bytes_part first (end - first) c.args.src.now))
