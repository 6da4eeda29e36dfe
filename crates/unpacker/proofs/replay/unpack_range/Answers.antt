use Prim.Native.Nat.{◌*◌}
use mathlib.Core.Path.{◌∙◌, ap}
use native.Mathlib.Omega.{arith}
use Rattle.laws.specs.Splice.{clipped}
use Rattle.reader.specs.Front.{Fronted, fronted, bodies_part, lens_part}
use Rattle.unpacker.proofs.replay.unpack_range.Goals as goal
use Rattle.unpacker.proofs.replay.unpack_range.Goals.{After-contents-c}

facts : (c : After-contents-c) → Fronted c.args.s.now (c.contents-c.result.blocks * 4096) c.contents-c.result.entries c.contents-c.result.bytes
facts c = fronted _ c.requires _ c.contents-c.ensures

pub overflow_add-bodies : goal.overflow_add-bodies
overflow_add-bodies c = let f = facts (goal.at.overflow_add-bodies c).After-contents-c in omega arith

pub overflow_add-end : goal.overflow_add-end
overflow_add-end c = let f = facts (goal.at.overflow_add-end c).After-contents-c in omega arith

pub slice_bounds-write-end : goal.slice_bounds-write-end
slice_bounds-write-end c = let f = facts (goal.at.slice_bounds-write-end c).After-contents-c in omega arith

pub slice_bounds-widen-end : goal.slice_bounds-widen-end
slice_bounds-widen-end c = let f = facts (goal.at.slice_bounds-widen-end c).After-contents-c in omega arith

pub returns : goal.returns
returns c =
    let q = c in
    let st = c in record { value = c.contents-c.ensures; bytes_after = c.write.ensures ∙ ap (clipped c.args.bytes.now c.args.at) (bodies_part _ c.requires _ c.contents-c.ensures); lens_after = c.widen.ensures ∙ ap (clipped c.args.lens.now c.args.n) (lens_part _ c.requires _ c.contents-c.ensures) }
