-- Places in a line: the first byte from a place on that meets a test. A loop that looks for it speaks of what is left; the byte that
-- meets the test, the next turn and the end are a law each. Assumes nothing.
use Rattle.std.specs.Prelude.{ℕ, suc, ◌+◌, ◌≤◌, ◌<◌, Bool, true, false, cond, not, ◌≡◌, refl, eqb, ltb, length, take, drop, get_or, Some, None}
use Rattle.std.specs.List.{position_or_len}
use Rattle.std.proofs.Common.{sym, ◌∙◌, get_or-take, add-zero, lt-ltb, arith}
use Rattle.std.proofs.Math.Path.{ap}
use mathlib.Core.List.{List, [], ◌∷◌}
use borrow.Author.Tests.{eq-eqb, ne_eqb}
use Rattle.laws.specs.Choice.{either, leb_same, ruin}
use Rattle.laws.specs.Part.{drop_step, drop_end}

-- the place of the first element that meets the test, where the list begins at place `at`; `none` where no element does
unfoldable pub first_from : (ℕ → Bool) → List ℕ → ℕ → ℕ → ℕ
first_from p [] at none = none
first_from p (x ∷ xs) at none = cond (p x) at (first_from p xs (at + 1) none)

-- the first place from `from` on whose element meets the test; `none` where there is none
unfoldable pub place : (ℕ → Bool) → List ℕ → ℕ → ℕ → ℕ
place p xs from none = first_from p (drop from xs) from none

-- this byte
unfoldable pub is_byte : ℕ → ℕ → Bool
is_byte stop c = eqb c stop

-- a blank: space, tab, form feed, carriage return
unfoldable pub is_blank : ℕ → Bool
is_blank c = either (eqb c 32) (either (eqb c 9) (either (eqb c 12) (eqb c 13)))

unfoldable pub not_blank : ℕ → Bool
not_blank c = not (is_blank c)

module _ (p : ℕ → Bool) (xs : List ℕ) (i none : ℕ) where
  place_step : i < length xs → place p xs i none ≡ cond (p (get_or xs i 0)) i (place p xs (i + 1) none)
  unfolding place first_from
  place_step h = rw (drop_step xs i 0 h)

  -- the element here meets the test; it doesn't; there is none left
  pub place_here : {r : ℕ} → i < length xs → place p xs i none ≡ r → p (get_or xs i 0) ≡ true → i ≡ r
  place_here h e q = ap (λ (b : Bool). cond b i (place p xs (i + 1) none)) (sym q) ∙ sym (place_step h) ∙ e

  pub place_next : {r : ℕ} → i < length xs → place p xs i none ≡ r → p (get_or xs i 0) ≡ false → place p xs (i + 1) none ≡ r
  place_next h e q = ap (λ (b : Bool). cond b i (place p xs (i + 1) none)) (sym q) ∙ sym (place_step h) ∙ e

  pub place_none : {r : ℕ} → length xs ≤ i → place p xs i none ≡ r → none ≡ r
  unfolding place first_from
  place_none h e = ap (λ (ys : List ℕ). first_from p ys i none) (sym (drop_end xs i h)) ∙ e

-- a byte before `end` is one of the front
module _ (stop end i : ℕ) (xs : List ℕ) (h : i < end) where
  pub byte_here : get_or xs i 0 ≡ stop → is_byte stop (get_or (take end xs) i 0) ≡ true
  unfolding is_byte
  byte_here e = eq-eqb (get_or (take end xs) i 0) stop (get_or-take end xs i 0 h ∙ e)

  pub byte_other : (get_or xs i 0 ≡ stop → ⊥) → is_byte stop (get_or (take end xs) i 0) ≡ false
  unfolding is_byte
  byte_other n = ne_eqb (get_or (take end xs) i 0) stop (λ e. n (sym (get_or-take end xs i 0 h) ∙ e))

-- what the test for a blank told
pub blank_told : (c : ℕ) (b r : Bool) → b ≡ is_blank c → not b ≡ r → not_blank c ≡ r
unfolding not_blank
blank_told c b r e h = ap not (sym e) ∙ h

-- the place from what the library finds behind `from`
module _ (p : ℕ → Bool) where
  first_found : (xs : List ℕ) (from none : ℕ) → first_from p xs from none ≡ cond (ltb (position_or_len p xs) (length xs)) (from + position_or_len p xs) none
  unfolding first_from
  first_found [] from none = refl
  first_found (x ∷ xs) from none = go (p x) (first_found xs (from + 1) none)
    where
      go : (b : Bool) → first_from p xs (from + 1) none ≡ cond (ltb (position_or_len p xs) (length xs)) (from + 1 + position_or_len p xs) none
          → cond b from (first_from p xs (from + 1) none)
          ≡ cond (ltb (cond (not b) (1 + position_or_len p xs) 0) (suc (length xs))) (from + cond (not b) (1 + position_or_len p xs) 0) none
      go true e = sym (simp (lt-ltb 0 (suc (length xs)) (omega arith)) (add-zero from))
      go false e =
          let q : ltb (1 + position_or_len p xs) (suc (length xs)) ≡ ltb (position_or_len p xs) (length xs) =
          leb_same (suc (1 + position_or_len p xs)) (suc (length xs)) (suc (position_or_len p xs)) (length xs) (omega arith) (omega arith) in
          let s : from + 1 + position_or_len p xs ≡ from + (1 + position_or_len p xs) = omega arith in
          e ∙ (λ i. cond (sym q i) (s i) none)

  found_some : (b : Bool) (n from none i : ℕ) → cond b (Some n) None ≡ Some i → from + i ≡ cond b (from + n) none
  found_some true n from none i e = let k : i ≡ n = cc in ap (λ (m : ℕ). from + m) k
  found_some false n from none i e = ruin (cc)

  found_none : (b : Bool) (n from none : ℕ) → cond b (Some n) None ≡ None → none ≡ cond b (from + n) none
  found_none true n from none e = ruin (cc)
  found_none false n from none e = refl

  module _ (line part : List ℕ) (from none : ℕ) (e : part ≡ drop from line) where
    part_place : first_from p part from none ≡ place p line from none
    unfolding place
    part_place = ap (λ (xs : List ℕ). first_from p xs from none) e

    pub place_some : (i : ℕ) → Some i ≡ cond (ltb (position_or_len p part) (length part)) (Some (position_or_len p part)) None → from + i ≡ place p line from none
    place_some i h = found_some (ltb (position_or_len p part) (length part)) (position_or_len p part) from none i (sym h) ∙ sym (first_found part from none) ∙ part_place

    pub place_nowhere : None ≡ cond (ltb (position_or_len p part) (length part)) (Some (position_or_len p part)) None → none ≡ place p line from none
    place_nowhere h = found_none (ltb (position_or_len p part) (length part)) (position_or_len p part) from none (sym h) ∙ sym (first_found part from none) ∙ part_place
