use Prim.Native.Nat.{◌*◌}
use lib.ListN.{take, drop}
use mathlib.Core.Path.{refl, ◌∙◌}
use Rattle.journal.specs.Memory.{copy_blocks}
use Rattle.laws.specs.Part.{part_cut}
use Rattle.laws.specs.Splice.{clipped, clipped_min}
use Rattle.journal.proofs.slices.copy_blocks.Goals as goal

pub returns : goal.returns
unfolding copy_blocks
returns c =
    let w = c in
    let p3 = c in
    let p2 = c in
    let p1 = c in
    let a = c.args in
    let part =
    part_cut a.src.now (a.from * 4096) (a.count * 4096) c.bytes_of-start.result c.bytes_of-size.result c.bytes_of-size.result
    c.bytes_of-start.ensures c.bytes_of-size.ensures refl
    in
    c.copy.ensures
    ∙ (λ i. clipped a.dst.now (c.bytes_of-place.ensures i) (part i))
    ∙ clipped_min a.dst.now (a.at * 4096) (take (a.count * 4096) (drop (a.from * 4096) a.src.now))
