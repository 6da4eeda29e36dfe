-- The library's test of two slices as the fold of laws.
use Rattle.std.specs.Prelude.{ℕ, ◌≡◌, refl, Bool, ◌&&◌, eqb, List, [], ◌∷◌}
use Rattle.std.proofs.Common.{ap, ◌∙◌}
use lib.Pointwise.{pointwise}
use Rattle.laws.specs.Choice.{also, and_also}
use Rattle.laws.specs.Fold.{same}

pub pointwise_same : (xs ys : List ℕ) → pointwise eqb xs ys ≡ same xs ys
unfolding same
pointwise_same [] [] = refl
pointwise_same [] (y ∷ ys) = refl
pointwise_same (x ∷ xs) [] = refl
pointwise_same (x ∷ xs) (y ∷ ys) = and_also (eqb x y) (pointwise eqb xs ys) ∙ ap (also (eqb x y)) (pointwise_same xs ys)
