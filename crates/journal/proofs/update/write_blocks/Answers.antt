use Prim.Native.Nat.{ℕ, ◌*◌}
use lib.ListN.{length, take}
use mathlib.Core.Path.{◌∙◌, ap}
use Rattle.journal.specs.Memory.{update_bytes}
use Rattle.laws.specs.Around.{clipped_around, splice_around_min}
use Rattle.journal.proofs.update.write_blocks.Goals as goal

pub returns : goal.returns
unfolding update_bytes
returns c =
    let w = c in
    let b = c in
    let a = c.args in
    c.write_around.ensures
    ∙ ap (λ (p : ℕ). clipped_around a.blocks.now p a.new.now) c.bytes_of-at.ensures
    ∙ splice_around_min a.blocks.now (a.v.start * 4096) (take (length a.blocks.now) a.new.now)
