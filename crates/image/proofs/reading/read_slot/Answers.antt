use Prim.Native.Nat.{◌+◌, ◌-◌}
use mathlib.Core.Path.{◌∙◌, ap}
use native.Mathlib.Omega.{arith}
use Rattle.laws.specs.Part.{part_cut}
use Rattle.sector.specs.Answer.{read_sector}
use Rattle.sector.specs.Sector.{sector_size}
use Rattle.image.specs.Image.{slot_read}
use Rattle.image.proofs.reading.read_slot.Goals as goal

pub returns : goal.returns
unfolding slot_read
returns c =
    let p2 = c in
    let p1 = c in
    let a = c.args in
    c.read_sector.ensures
    ∙ ap read_sector
    (part_cut a.disk.now a.at sector_size c.min-place.result c.min-size.result (c.min-place.result + c.min-size.result - c.min-place.result) c.min-place.ensures c.min-size.ensures (omega arith))
