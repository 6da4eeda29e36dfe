-- Parts of lists. The code's part `s[a..e]` is `take (e - a) (drop a s)`; these laws move a fact about a part to the form that a
-- definition has, and take the next element off what is left. Over any element. Assumes nothing.
use Rattle.std.specs.Prelude.{ℕ, zero, suc, ◌+◌, ◌-◌, ◌≤◌, ◌<◌, min, ◌≡◌, refl, List, [], ◌∷◌, ◌++◌, map, length, take, drop, get_or, replicate}
use Rattle.std.proofs.Common.{sym, ◌∙◌, ap, append-nil, le_of_lt, add-one, arith, length-take, length-drop, take-append-drop, drop_of_length-le, drop-cons, take_all, take-suc, drop-drop, length-take-le, take-add, take-take, drop_at}
use Rattle.std.proofs.Math.Nat.{sub-zero, zero-sub, zero-min, min-zero, min-eq_left, min-eq_right}
use Rattle.std.proofs.Math.Seq.{take-nil}
use Rattle.laws.specs.Choice.{split_le}

-- the lesser of two, less a number that neither is below
pub min_less : (a m n : ℕ) → a ≤ m → a ≤ n → min m n - a ≡ min (m - a) (n - a)
min_less a m n h k = omega arith

module _ {ℓ κ} {A : Type ℓ} {B : Type κ} where
  -- a fact about the front `s[0..n]`, in the code's form and in the definition's
  pub front : (f : List A → B) (n : ℕ) (xs : List A) {b : B} → f (take (n - 0) xs) ≡ b → f (take n xs) ≡ b
  front f n xs e = rw (sub-zero n) at e

  -- a fact about a part whose length is written in two ways
  pub part_is : (f : List A → B) (xs : List A) (a k m : ℕ) {b : B} → k ≡ m → f (take k (drop a xs)) ≡ b → f (take m (drop a xs)) ≡ b
  part_is f xs a k m h e = rw h at e

module _ {ℓ} {A : Type ℓ} where
  -- what is left begins with the next element
  pub drop_step : (xs : List A) (i : ℕ) (d : A) → i < length xs → drop i xs ≡ get_or xs i d ∷ drop (i + 1) xs
  drop_step xs i d h = rw add-one (drop-cons xs i d h)

  -- one element more of the front
  pub take_step : (xs : List A) (i : ℕ) (d : A) → i < length xs → take (i + 1) xs ≡ take i xs ++ (get_or xs i d ∷ [])
  take_step xs i d h = rw add-one (take-suc xs i d h)

  -- nothing is left
  pub drop_end : (xs : List A) (i : ℕ) → length xs ≤ i → drop i xs ≡ []
  drop_end xs i h = drop_of_length-le xs h

  -- the rest of a list is its part from n to its end
  pub tail_is : (xs : List A) (n : ℕ) → take (length xs - n) (drop n xs) ≡ drop n xs
  tail_is xs n = take_all (length xs - n) (drop n xs) (simp length-drop (omega arith))

  -- the length of a part that lies within the list
  pub length_part : (xs : List A) (a k : ℕ) → a + k ≤ length xs → length (take k (drop a xs)) ≡ k
  length_part xs a k h = length-take-le k (drop a xs) (simp length-drop (omega arith))

  -- a count that is cut at the length takes the same
  pub take_min : (xs : List A) (n r : ℕ) → length xs ≡ r → take (min n r) xs ≡ take n xs
  take_min xs n r e =
      split_le n r
      (λ h. rw (min-eq_left h))
      (λ h. rw (min-eq_right (le_of_lt h)) (take_all r xs (omega arith) ∙ sym (take_all n xs (omega arith))))

  -- a front whose end is cut at the list's
  pub front_cut : (xs : List A) (n k : ℕ) → k ≡ min n (length xs) → take (k - 0) xs ≡ take n xs
  front_cut xs n k h = ap (λ (m : ℕ). take m xs) (sub-zero k ∙ h) ∙ take_min xs n (length xs) refl

  -- a front of a front is the shorter one
  pub take_front : (m n : ℕ) (xs : List A) → take m (take n xs) ≡ take (min m n) xs
  take_front m n xs =
      split_le m n
      (λ h. rw (min-eq_left h) (take-take m n xs h))
      (λ h. rw (min-eq_right (le_of_lt h)) (take_all m (take n xs) (simp length-take (omega arith))))

  -- a place that is cut at the end drops the same
  pub drop_min : (xs : List A) (n r : ℕ) → length xs ≡ r → drop (min n r) xs ≡ drop n xs
  drop_min xs n r e =
      split_le n r
      (λ h. rw (min-eq_left h))
      (λ h. rw (min-eq_right (le_of_lt h)) (drop_end xs r (omega arith) ∙ sym (drop_end xs n (omega arith))))

  -- a part whose place and count are cut at the end is the part
  pub part_cut : (xs : List A) (from count start size k : ℕ) → start ≡ min from (length xs) → size ≡ min count (length xs - start) → k ≡ size
      → take k (drop start xs) ≡ take count (drop from xs)
  part_cut xs from count start size k es ez ek =
      ap (λ (n : ℕ). take n (drop start xs)) (ek ∙ ez)
      ∙ ap (take (min count (length xs - start))) (ap (λ (n : ℕ). drop n xs) es ∙ drop_min xs from (length xs) refl)
      ∙ take_min (drop from xs) count (length xs - start) (simp length-drop (omega arith))

  -- the same by its end
  pub part_ends : (xs : List A) (at n start end : ℕ) → start ≡ min at (length xs) → end ≡ start + min n (length xs - at)
      → take (end - start) (drop start xs) ≡ take n (drop at xs)
  part_ends xs at n start end hs he = part_cut xs at n start (end - start) (end - start) hs (omega arith) refl

  -- dropping from what was taken is taking from what was dropped
  pub drop_take : (a k : ℕ) (xs : List A) → drop a (take (a + k) xs) ≡ take k (drop a xs)
  drop_take a k xs =
      rw (take-add a k xs)
      (split_le a (length xs)
      (λ h. drop_at (take a xs) (take k (drop a xs)) a (length-take-le a xs h))
      (λ h.
      rw (drop_of_length-le xs {i = a} (omega arith), take_all a xs (omega arith), take-nil {A = A} k, append-nil xs)
      (drop_of_length-le xs {i = a} (omega arith))))

  -- a part of the front is a part of the whole
  pub part_of_front : (xs : List A) (n a k : ℕ) → a + k ≤ n → take k (drop a (take n xs)) ≡ take k (drop a xs)
  part_of_front xs n a k h =
      let e : a + (n - a) ≡ n = omega arith in
      rw (← e) (rw (drop_take a (n - a) xs) (take-take k (n - a) (drop a xs) (omega arith)))

  -- a part and what stands behind it
  pub part_then : (xs : List A) (a k : ℕ) → take k (drop a xs) ++ drop (a + k) xs ≡ drop a xs
  part_then xs a k = rw (← (drop-drop k a xs)) (take-append-drop k (drop a xs))

  -- a list is its front, a part and the rest
  pub three_parts : (xs : List A) (a k : ℕ) → take a xs ++ take k (drop a xs) ++ drop (a + k) xs ≡ xs
  three_parts xs a k = rw (← (take-add a k xs)) (take-append-drop (a + k) xs)

  -- an element that is there does not depend on the default
  pub get_d_any : (xs : List A) (i : ℕ) (d e : A) → i < length xs → get_or xs i d ≡ get_or xs i e
  get_d_any [] i d e h = absurd (omega arith)
  get_d_any (x ∷ xs) zero d e h = refl
  get_d_any (x ∷ xs) (suc i) d e h = get_d_any xs i d e (omega arith)

  -- a front and a part of one value again and again
  pub take_replicate : (n m : ℕ) (v : A) → take n (replicate m v) ≡ replicate (min n m) v
  take_replicate zero m v = rw (zero-min m)
  take_replicate (suc n) zero v = rw (min-zero (suc n))
  take_replicate (suc n) (suc m) v = let e : min (suc n) (suc m) ≡ suc (min n m) = omega arith in rw e (ap (λ (l : List A). v ∷ l) (take_replicate n m v))

  pub drop_replicate : (n m : ℕ) (v : A) → drop n (replicate m v) ≡ replicate (m - n) v
  drop_replicate zero m v = rw (sub-zero m)
  drop_replicate (suc n) zero v = rw (zero-sub (suc n))
  drop_replicate (suc n) (suc m) v = let e : suc m - suc n ≡ m - n = omega arith in rw e (drop_replicate n m v)

  pub part_replicate : (a k n : ℕ) (v : A) → a + k ≤ n → take k (drop a (replicate n v)) ≡ replicate k v
  part_replicate a k n v h =
      let e : min k (n - a) ≡ k = omega arith in
      ap (take k) (drop_replicate a n v) ∙ take_replicate k (n - a) v ∙ ap (λ (m : ℕ). replicate m v) e

-- an element of a mapped list
pub get_d_map_in {ℓ κ} : {A : Type ℓ} {B : Type κ} (f : A → B) (xs : List A) (i : ℕ) (d : A) (e : B) → i < length xs → get_or (map f xs) i e ≡ f (get_or xs i d)
get_d_map_in f [] i d e h = absurd (omega arith)
get_d_map_in f (x ∷ xs) zero d e h = refl
get_d_map_in f (x ∷ xs) (suc i) d e h = get_d_map_in f xs i d e (omega arith)

-- a part of the images is the images of the part
module _ {ℓ κ} {A : Type ℓ} {B : Type κ} (f : A → B) where
  pub map_take : (k : ℕ) (xs : List A) → map f (take k xs) ≡ take k (map f xs)
  map_take zero xs = refl
  map_take (suc k) [] = refl
  map_take (suc k) (x ∷ xs) = ap (λ (l : List B). f x ∷ l) (map_take k xs)

  pub map_drop : (k : ℕ) (xs : List A) → map f (drop k xs) ≡ drop k (map f xs)
  map_drop zero xs = refl
  map_drop (suc k) [] = refl
  map_drop (suc k) (x ∷ xs) = map_drop k xs

-- the list of n elements that a function gives
unfoldable pub tab {ℓ} : {A : Type ℓ} → ℕ → (ℕ → A) → List A
tab zero f = []
tab (suc n) f = f 0 ∷ tab n (λ i. f (suc i))

pub length_tab {ℓ} : {A : Type ℓ} (n : ℕ) (f : ℕ → A) → length (tab n f) ≡ n
unfolding tab
length_tab zero f = refl
length_tab (suc n) f = ap suc (length_tab n (λ i. f (suc i)))

pub get_d_tab {ℓ} : {A : Type ℓ} (n : ℕ) (f : ℕ → A) (i : ℕ) (d : A) → i < n → get_or (tab n f) i d ≡ f i
unfolding tab
get_d_tab zero f i d h = absurd (omega arith)
get_d_tab (suc n) f zero d h = refl
get_d_tab (suc n) f (suc i) d h = get_d_tab n (λ j. f (suc j)) i d (omega arith)

-- two functions that agree below n give the same list
pub tab_same {ℓ} : {A : Type ℓ} (n : ℕ) (f h : ℕ → A) → ((i : ℕ) → i < n → f i ≡ h i) → tab n f ≡ tab n h
unfolding tab
tab_same zero f h e = refl
tab_same (suc n) f h e = λ j. e 0 (omega arith) j ∷ tab_same n (λ i. f (suc i)) (λ i. h (suc i)) (λ i l. e (suc i) (omega arith)) j
