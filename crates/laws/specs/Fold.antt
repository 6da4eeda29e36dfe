-- Folds over lists: the sum of numbers, a test that every element meets, and whether two lists of numbers are equal. A loop speaks of
-- what is left, `drop i xs`: a turn takes one element off, and the early exit, the next turn and the end are a law each. Assumes nothing.
use Prim.Native.Nat.{ℕ, zero, suc, ◌+◌, ◌*◌, ◌≤◌, ◌<◌}
use Rattle.std.specs.Prelude.{Bool, true, false, ◌≡◌, eqb, length, take, drop, get_or, replicate}
use Rattle.std.proofs.Math.Path.{refl, sym, ap}
use Rattle.std.proofs.Common.{◌∙◌, add-zero, zero-add, add_assoc, add_comm, mul-suc, zero-mul, suc-mul, arith, eq-eqb, eqb-true, take-append-drop, drop-drop}
use mathlib.Core.List.{List, [], ◌∷◌, ◌++◌}
use Rattle.std.specs.List.{fold}
use Rattle.laws.specs.Choice.{also, also_left, also_right, also_both, also_assoc, also_true, false_true, not_so}
use Rattle.laws.specs.Part.{drop_step, take_step, drop_end}

-- the sum of the numbers
unfoldable pub sum : List ℕ → ℕ
sum [] = 0
sum (x ∷ xs) = x + sum xs

-- every element meets the test
unfoldable pub every {ℓ} : {A : Type ℓ} → (A → Bool) → List A → Bool
every p [] = true
every p (x ∷ xs) = also (p x) (every p xs)

-- the two lists are equal
unfoldable pub same : List ℕ → List ℕ → Bool
same [] [] = true
same [] (y ∷ ys) = false
same (x ∷ xs) [] = false
same (x ∷ xs) (y ∷ ys) = also (eqb x y) (same xs ys)

-- every element has the property
abbrev pub Each {ℓ κ} : {A : Type ℓ} → (A → Type κ) → List A → Type κ
Each P [] = Unit
Each P (x ∷ xs) = P x × Each P xs

pub sum_append : (xs ys : List ℕ) → sum (xs ++ ys) ≡ sum xs + sum ys
unfolding sum
sum_append [] ys = sym (zero-add (sum ys))
sum_append (x ∷ xs) ys = rw (sum_append xs ys) (sym (add_assoc x (sum xs) (sum ys)))

pub sum_split : (n : ℕ) (xs : List ℕ) → sum (take n xs) + sum (drop n xs) ≡ sum xs
sum_split n xs = sym (sum_append (take n xs) (drop n xs)) ∙ ap sum (take-append-drop n xs)

-- what is left, from the next k on
pub sum_part : (xs : List ℕ) (i k : ℕ) → sum (take k (drop i xs)) + sum (drop (i + k) xs) ≡ sum (drop i xs)
sum_part xs i k = ap (λ (ys : List ℕ). sum (take k (drop i xs)) + sum ys) (sym (drop-drop k i xs)) ∙ sum_split k (drop i xs)

-- one number, n times
pub sum_replicate : (n k : ℕ) → sum (replicate n k) ≡ n * k
unfolding sum
sum_replicate zero k = sym (zero-mul k)
sum_replicate (suc n) k = rw (sum_replicate n k, suc-mul n k) (add_comm k (n * k))

-- a turn of the loop, and its end
pub sum_step : (xs : List ℕ) (i : ℕ) → i < length xs → sum (drop i xs) ≡ get_or xs i 0 + sum (drop (i + 1) xs)
unfolding sum
sum_step xs i h = rw (drop_step xs i 0 h)

pub sum_end : (xs : List ℕ) (i : ℕ) → length xs ≤ i → sum (drop i xs) ≡ 0
unfolding sum
sum_end xs i h = rw (drop_end xs i h)

-- one number more in front
pub sum_take_step : (xs : List ℕ) (i : ℕ) → i < length xs → sum (take (i + 1) xs) ≡ sum (take i xs) + get_or xs i 0
unfolding sum
sum_take_step xs i h = rw (take_step xs i 0 h) (sum_append (take i xs) (get_or xs i 0 ∷ []) ∙ ap (λ (n : ℕ). sum (take i xs) + n) (add-zero (get_or xs i 0)))

module _ {ℓ} {A : Type ℓ} (p : A → Bool) where
  pub every_append : (xs ys : List A) → every p (xs ++ ys) ≡ also (every p xs) (every p ys)
  unfolding every also
  every_append [] ys = refl
  every_append (x ∷ xs) ys = rw (every_append xs ys) (sym (also_assoc (p x) (every p xs) (every p ys)))

  -- a turn: where this element fails, where it holds, and the end
  module _ (xs : List A) (i : ℕ) (d : A) (h : i < length xs) where
    pub every_step : every p (drop i xs) ≡ also (p (get_or xs i d)) (every p (drop (i + 1) xs))
    unfolding every
    every_step = rw (drop_step xs i d h)

    pub every_no : every p (drop i xs) ≡ every p xs → p (get_or xs i d) ≡ false → false ≡ every p xs
    unfolding also
    every_no e q = (λ j. also (sym q j) (every p (drop (i + 1) xs))) ∙ sym every_step ∙ e

    pub every_yes : every p (drop i xs) ≡ every p xs → p (get_or xs i d) ≡ true → every p (drop (i + 1) xs) ≡ every p xs
    unfolding also
    every_yes e q = (λ j. also (sym q j) (every p (drop (i + 1) xs))) ∙ sym every_step ∙ e

  -- the same loop without a way out, with a flag of what was seen: a turn, and the end
  module _ (xs : List A) (i : ℕ) where
    pub flag_turn : (d : A) (a b : Bool) → i < length xs → also a (every p (drop i xs)) ≡ every p xs → b ≡ also a (p (get_or xs i d))
        → also b (every p (drop (i + 1) xs)) ≡ every p xs
    flag_turn d a b h e q =
        ap (λ (x : Bool). also x (every p (drop (i + 1) xs))) q
        ∙ also_assoc a (p (get_or xs i d)) (every p (drop (i + 1) xs))
        ∙ ap (also a) (sym (every_step xs i d h))
        ∙ e

    -- a turn of the loop over parts of k elements
    pub flag_part : (k : ℕ) (a b : Bool) → also a (every p (drop i xs)) ≡ every p xs → b ≡ also a (every p (take k (drop i xs)))
        → also b (every p (drop (i + k) xs)) ≡ every p xs
    flag_part k a b e q =
        (λ j. also (q j) (every p (sym (drop-drop k i xs) j)))
        ∙ also_assoc a (every p (take k (drop i xs))) (every p (drop k (drop i xs)))
        ∙ ap (also a) (sym (every_append (take k (drop i xs)) (drop k (drop i xs))) ∙ ap (every p) (take-append-drop k (drop i xs)))
        ∙ e

    pub flag_end : (a : Bool) → length xs ≤ i → also a (every p (drop i xs)) ≡ every p xs → a ≡ every p xs
    unfolding every
    flag_end a h e = sym (also_true a) ∙ ap (λ (ys : List A). also a (every p ys)) (sym (drop_end xs i h)) ∙ e

  pub every_done : (xs : List A) (i : ℕ) → length xs ≤ i → every p (drop i xs) ≡ every p xs → true ≡ every p xs
  unfolding every
  every_done xs i h e = ap (every p) (sym (drop_end xs i h)) ∙ e

  -- the element at a place meets the test, and where each does all do
  pub every_at : (xs : List A) (i : ℕ) (d : A) → every p xs ≡ true → i < length xs → p (get_or xs i d) ≡ true
  unfolding every
  every_at [] i d e h = absurd (omega arith)
  every_at (x ∷ xs) zero d e h = also_left (p x) (every p xs) e
  every_at (x ∷ xs) (suc i) d e h = every_at xs i d (also_right (p x) (every p xs) e) (omega arith)

  pub every_all : (xs : List A) (d : A) → ((i : ℕ) → i < length xs → p (get_or xs i d) ≡ true) → every p xs ≡ true
  unfolding every
  every_all [] d f = refl
  every_all (x ∷ xs) d f = also_both (p x) (every p xs) (f 0 (omega arith)) (every_all xs d (λ i h. f (suc i) (omega arith)))

  pub every_take : (n : ℕ) (xs : List A) → every p xs ≡ true → every p (take n xs) ≡ true
  unfolding every
  every_take zero xs e = refl
  every_take (suc n) [] e = refl
  every_take (suc n) (x ∷ xs) e = also_both (p x) (every p (take n xs)) (also_left (p x) (every p xs) e) (every_take n xs (also_right (p x) (every p xs) e))

  pub every_drop : (n : ℕ) (xs : List A) → every p xs ≡ true → every p (drop n xs) ≡ true
  unfolding every
  every_drop zero xs e = e
  every_drop (suc n) [] e = refl
  every_drop (suc n) (x ∷ xs) e = every_drop n xs (also_right (p x) (every p xs) e)

  pub every_replicate : (n : ℕ) (x : A) → p x ≡ true → every p (replicate n x) ≡ true
  unfolding every
  every_replicate zero x e = refl
  every_replicate (suc n) x e = also_both (p x) (every p (replicate n x)) e (every_replicate n x e)

module _ {ℓ κ} {A : Type ℓ} (P : A → Type κ) where
  pub each_append : (xs ys : List A) → Each P xs → Each P ys → Each P (xs ++ ys)
  each_append [] ys p q = q
  each_append (x ∷ xs) ys p q = (p.0, each_append xs ys p.1 q)

  pub each_left : (xs ys : List A) → Each P (xs ++ ys) → Each P xs
  each_left [] ys p = tt
  each_left (x ∷ xs) ys p = (p.0, each_left xs ys p.1)

  pub each_right : (xs ys : List A) → Each P (xs ++ ys) → Each P ys
  each_right [] ys p = p
  each_right (x ∷ xs) ys p = each_right xs ys p.1

  pub each_drop : (n : ℕ) (xs : List A) → Each P xs → Each P (drop n xs)
  each_drop zero xs p = p
  each_drop (suc n) [] p = tt
  each_drop (suc n) (x ∷ xs) p = each_drop n xs p.1

  pub each_at : (xs : List A) (i : ℕ) (d : A) → Each P xs → i < length xs → P (get_or xs i d)
  each_at [] i d p h = absurd (omega arith)
  each_at (x ∷ xs) zero d p h = p.0
  each_at (x ∷ xs) (suc i) d p h = each_at xs i d p.1 (omega arith)

-- a bound on each number bounds the sum
pub sum_bound : (k : ℕ) (xs : List ℕ) → ((i : ℕ) → i < length xs → get_or xs i 0 ≤ k) → sum xs ≤ k * length xs
unfolding sum
sum_bound k [] f = omega arith
sum_bound k (x ∷ xs) f =
    let h : sum xs ≤ k * length xs = sum_bound k xs (λ i l. f (suc i) (omega arith)) in
    let z : x ≤ k = f 0 (omega arith) in
    rw (mul-suc k (length xs)) (omega arith)

-- the test says true exactly for equal lists
pub same_is : (xs ys : List ℕ) → same xs ys ≡ true → xs ≡ ys
unfolding same
same_is [] [] e = refl
same_is [] (y ∷ ys) e = false_true e
same_is (x ∷ xs) [] e = false_true e
same_is (x ∷ xs) (y ∷ ys) e = λ i. eqb-true x y (also_left (eqb x y) (same xs ys) e) i ∷ same_is xs ys (also_right (eqb x y) (same xs ys) e) i

pub same_self : (xs : List ℕ) → same xs xs ≡ true
unfolding same
same_self [] = refl
same_self (x ∷ xs) = also_both (eqb x x) (same xs xs) (eq-eqb x x refl) (same_self xs)

pub is_same : (xs ys : List ℕ) → xs ≡ ys → same xs ys ≡ true
is_same xs ys e = ap (same xs) (sym e) ∙ same_self xs

-- lists of two lengths; what is left of two lists, an element further
pub same_short : (xs ys : List ℕ) → (length xs ≡ length ys → ⊥) → false ≡ same xs ys
same_short xs ys h = sym (not_so (same xs ys) (λ e. h (ap length (same_is xs ys e))))

module _ (xs ys : List ℕ) (i : ℕ) (h : i < length xs) (k : i < length ys) where
  pub same_step : same (drop i xs) (drop i ys) ≡ also (eqb (get_or xs i 0) (get_or ys i 0)) (same (drop (i + 1) xs) (drop (i + 1) ys))
  unfolding same
  same_step = rw (drop_step xs i 0 h, drop_step ys i 0 k)

-- a loop without a way out, with a flag of what was seen: a turn, and the end
module _ (xs ys : List ℕ) (i : ℕ) where
  pub same_turn : (a b : Bool) → i < length xs → i < length ys → also a (same (drop i xs) (drop i ys)) ≡ same xs ys → b ≡ also a (eqb (get_or xs i 0) (get_or ys i 0))
      → also b (same (drop (i + 1) xs) (drop (i + 1) ys)) ≡ same xs ys
  same_turn a b h k e q =
      ap (λ (x : Bool). also x (same (drop (i + 1) xs) (drop (i + 1) ys))) q
      ∙ also_assoc a (eqb (get_or xs i 0) (get_or ys i 0)) (same (drop (i + 1) xs) (drop (i + 1) ys))
      ∙ ap (also a) (sym (same_step xs ys i h k))
      ∙ e

  pub same_end : (a : Bool) → length xs ≤ i → length ys ≤ i → also a (same (drop i xs) (drop i ys)) ≡ same xs ys → a ≡ same xs ys
  unfolding same
  same_end a h k e = sym (also_true a) ∙ (λ j. also a (same (sym (drop_end xs i h) j) (sym (drop_end ys i k) j))) ∙ e

-- two tests that agree place by place agree as wholes
pub every_same {ℓ κ} : {A : Type ℓ} {B : Type κ} (p : A → Bool) (q : B → Bool) (xs : List A) (ys : List B) (d : A) (e : B) → length xs ≡ length ys
    → ((i : ℕ) → i < length xs → p (get_or xs i d) ≡ q (get_or ys i e)) → every p xs ≡ every q ys
unfolding every
every_same p q [] [] d e h f = refl
every_same p q [] (y ∷ ys) d e h f = absurd (omega arith)
every_same p q (x ∷ xs) [] d e h f = absurd (omega arith)
every_same p q (x ∷ xs) (y ∷ ys) d e h f =
    λ i. also (f 0 (omega arith) i) (every_same p q xs ys d e (omega arith) (λ j k. f (suc j) (omega arith)) i)

-- an accumulator that keeps whether all was well so far
pub every_fold : {A : Type 0} (p : A → Bool) (b : Bool) (xs : List A) → fold (λ (c : Bool) (x : A). also c (p x)) b xs ≡ also b (every p xs)
unfolding every
every_fold p b [] = sym (also_true b)
every_fold p b (x ∷ xs) = every_fold p (also b (p x)) xs ∙ also_assoc b (p x) (every p xs)
