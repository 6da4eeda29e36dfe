use mathlib.Core.List.{[], ◌∷◌}
use mathlib.Core.Path.{refl}
use Rattle.range.specs.Runs.{head_put}
use Rattle.writer.proofs.ring.head_bytes.Goals as goal

pub returns : goal.returns
returns c =
    let a = c.args in
    head_put a.blocks a.n (0 ∷ 0 ∷ 0 ∷ 0 ∷ []) _ _ refl c.put_number.ensures c.put_number-2.ensures
