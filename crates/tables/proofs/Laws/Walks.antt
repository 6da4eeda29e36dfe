-- The walks over values: a fact about the first n of an array, and every element of an array changed in place, over any element; and
-- which numbers are states. Assumes nothing.
use Rattle.std.specs.Prelude.{ℕ, ◌+◌, ◌≤◌, ◌<◌, min, true, false, ◌≡◌, List, [], ◌∷◌, ◌++◌, map, length, take, drop, get_or, set, leb}
use Rattle.std.proofs.Common.{sym, ◌∙◌, ap, append_assoc, append-nil, arith, drop_of_length-le, length-take-le, take_all, le-leb}
use Rattle.std.proofs.lemmas.List.{map-append, length-map, get_or_at, set_at}
use Rattle.std.proofs.lemmas.Bool.{lt-leb}
use Rattle.laws.specs.Choice.{also, also_both, also_false}
use Rattle.laws.specs.Part.{drop_step, take_step, take_min}
use Rattle.tables.specs.SyncTable.{ok_state}

-- a fact about the first `count` of an array, of which the code took as many as there are
pub cut_front : {A B : Type 0} (f : List A → B) (xs : List A) (count n size : ℕ) → length xs ≡ size → n ≡ min count size → f (take n xs) ≡ f (take count xs)
cut_front f xs count n size h m = ap f (ap (λ (j : ℕ). take j xs) m ∙ take_min xs count size h)

-- the length of an array of structs, from that of its values
pub mapped : (X Y : Type 0) (f : X → Y) (l : List X) (n : ℕ) → length (map f l) ≡ n → length l ≡ n
mapped X Y f l n e = sym (length-map l f) ∙ e

-- the elements up to a place changed, the others as they were: one more, all
module _ {A : Type 0} (f : A → A) (xs s : List A) (i : ℕ) where
  pub changed_more : (d : A) → xs ≡ map f (take i s) ++ drop i s → i < length s → set xs i (f (get_or xs i d)) ≡ map f (take (i + 1) s) ++ drop (i + 1) s
  changed_more d e h =
      let y : A = get_or s i d in
      let front : List A = map f (take i s) in
      let rest : List A = drop (i + 1) s in
      let l : length front ≡ i = length-map (take i s) f ∙ length-take-le i s (omega arith) in
      let x : xs ≡ front ++ (y ∷ rest) = e ∙ ap (λ (ys : List A). front ++ ys) (drop_step s i d h) in
      (λ j. set (x j) i (f (get_or (x j) i d)))
      ∙ ap (λ (z : A). set (front ++ (y ∷ rest)) i (f z)) (get_or_at front y rest d i l)
      ∙ set_at front y rest (f y) i l
      ∙ sym (append_assoc front (f y ∷ []) rest)
      ∙ ap (λ (ys : List A). ys ++ rest) (sym (map-append f (take i s) (y ∷ [])) ∙ ap (map f) (sym (take_step s i d h)))

  pub changed_all : xs ≡ map f (take i s) ++ drop i s → length s ≤ i → xs ≡ map f s
  changed_all e h =
      e
      ∙ (λ j. map f (take_all i s h j) ++ drop_of_length-le s h j)
      ∙ append-nil (map f s)

-- a state below 1, above 3, and one between
pub state_low : (n : ℕ) → n < 1 → ok_state n ≡ false
unfolding ok_state also
state_low n h = simp (lt-leb 1 n h)

pub state_high : (n : ℕ) → 3 < n → ok_state n ≡ false
unfolding ok_state
state_high n h = ap (also (leb 1 n)) (lt-leb n 3 h) ∙ also_false (leb 1 n)

pub state_ok : (n : ℕ) → 1 ≤ n → n ≤ 3 → ok_state n ≡ true
unfolding ok_state
state_ok n h k = also_both (leb 1 n) (leb n 3) (le-leb 1 n h) (le-leb n 3 k)
