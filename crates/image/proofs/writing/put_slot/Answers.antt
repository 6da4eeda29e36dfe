use Rattle.image.specs.Written.{held_put, empty_put}
use Rattle.image.specs.Image.{slot_bytes}
use Rattle.laws.specs.Splice.{clipped}
use lib.ListN.{replicate, length-replicate}
use Prim.Native.Nat.{ℕ}
use mathlib.Core.Path.{sym, ◌∙◌, ap}
use Rattle.image.proofs.writing.put_slot.Goals as goal

pub returns-in-Some : goal.returns-in-Some
returns-in-Some c =
    let a = c.args in
    c.write.ensures
    ∙ ap (clipped a.disk.now a.at)
    (held_put _ (replicate 4096 0) (length-replicate {A = ℕ} 4096 0) c.write_sector-written.ensures.sector_after
    ∙ ap slot_bytes (sym c.in-Some.is))

pub returns-in-None : goal.returns-in-None
returns-in-None c =
    let a = c.args in
    c.write-in-None.ensures ∙ ap (clipped a.disk.now a.at) (empty_put ∙ ap slot_bytes (sym c.in-None.is))
