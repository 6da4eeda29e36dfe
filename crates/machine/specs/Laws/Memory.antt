-- The first blocks of the pieces, as a slice from the front has them. The code's proofs cite it.
use Rattle.std.specs.Prelude.{ℕ, ◌-◌, ◌*◌, min, ◌≡◌, List, length, take, drop}
use Rattle.std.proofs.Common.{arith, ◌∙◌}
use Rattle.std.proofs.Math.Path.{ap}
use Rattle.laws.specs.Part.{part_cut}
use Rattle.machine.specs.Loading.{first_blocks}

pub first_part : (pieces : List ℕ) (blocks n : ℕ) → n ≡ min (blocks * 4096) (length pieces) → take (n - 0) (drop 0 pieces) ≡ first_blocks blocks pieces
first_part pieces blocks n hn =
    part_cut pieces 0 (blocks * 4096) 0 n (n - 0) (omega arith) (hn ∙ ap (min (blocks * 4096)) (omega arith)) (omega arith)
