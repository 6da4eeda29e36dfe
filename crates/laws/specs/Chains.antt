-- What a chain of iterators answers, in the library's words, as the folds and sets of laws. Assumes nothing.
use Rattle.std.specs.Prelude.{ℕ, ◌+◌, Bool, true, false, cond, ◌&&◌, ◌||◌, ◌≡◌, refl, List, [], ◌∷◌, eqb}
use Rattle.std.specs.Prelude as library
use Rattle.std.specs.List.{list_all, list_any, fold}
use Rattle.std.proofs.Common.{sym, ◌∙◌, ap, add_assoc, add-zero, zero-add}
use Rattle.laws.specs.Choice.{also, and_also}
use Rattle.laws.specs.Fold.{every, sum}
use Rattle.laws.specs.Sets.{ids_of}

module _ {A : Type 0} (p : A → Bool) where
  pub all_every : (xs : List A) → list_all p xs ≡ every p xs
  unfolding every
  all_every [] = refl
  all_every (x ∷ xs) = and_also (p x) (list_all p xs) ∙ ap (also (p x)) (all_every xs)

pub any_ids : (ids : List ℕ) (id : ℕ) → list_any (λ (k : ℕ). eqb k id) ids ≡ ids_of ids id
unfolding ids_of
any_ids [] id = refl
any_ids (k ∷ ks) id = go (eqb k id) (any_ids ks id)
  where
    go : (b : Bool) → list_any (λ (j : ℕ). eqb j id) ks ≡ ids_of ks id → b || list_any (λ (j : ℕ). eqb j id) ks ≡ cond b true (ids_of ks id)
    go true e = refl
    go false e = e

sum_from : (a : ℕ) (xs : List ℕ) → fold (λ (m : ℕ) (x : ℕ). m + x) a xs ≡ a + sum xs
unfolding sum
sum_from a [] = sym (add-zero a)
sum_from a (x ∷ xs) = sum_from (a + x) xs ∙ add_assoc a x (sum xs)

pub sum_is : (xs : List ℕ) → library.sum xs ≡ sum xs
sum_is xs = sum_from 0 xs ∙ zero-add (sum xs)
