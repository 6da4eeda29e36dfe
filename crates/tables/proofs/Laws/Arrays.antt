-- What one more at the end, and the last one in another's place, do to the first `count` of an array: to the list, to its set, to its map
-- and to a test of its values. Over any value. Assumes nothing.
use Rattle.std.specs.Prelude.{ℕ, suc, ◌+◌, ◌-◌, ◌≤◌, ◌<◌, Bool, false, ◌≡◌, List, [], ◌∷◌, ◌++◌, length, take, drop, set, get_or}
use Rattle.std.proofs.Math.Bool.{true}
use Rattle.std.proofs.Math.Path.{refl}
use Rattle.std.proofs.Common.{sym, ◌∙◌, ap, subst, add-one, arith, length-drop, take-add, take-suc-set, length-take-le, get_or-drop}
use Rattle.std.proofs.lemmas.List.{take-set-le, set_split}
use Rattle.std.proofs.Math.Seq.{take-append-add}
use Rattle.laws.specs.Choice.{also_left, also_right, also_both, split_eq}
use Rattle.laws.specs.Fold.{every, every_append}
use Rattle.laws.specs.Maps.{map_of_keys, map_of_snoc, map_of_last, map_of_swap, keys_unbind}
use Rattle.laws.specs.Part.{take_step, drop_step}
use Rattle.laws.specs.Sets.{Ids, leave, join, bind, unbind, keys, ids_of, map_of, Distinct, ids_of_snoc, distinct_snoc, distinct_front, distinct_swap}
use Rattle.tables.specs.Rows.{filled}

-- m elements after place i
abbrev between : {A : Type 0} → List A → (i m : ℕ) → List A
between xs i m = take m (drop (i + 1) xs)

module _ {A : Type 0} where
  -- one more
  pub take_added : (xs : List A) (n : ℕ) (x : A) → n < length xs → take (n + 1) (set xs n x) ≡ take n xs ++ (x ∷ [])
  take_added xs n x h = rw add-one (take-suc-set xs n x h)

  -- the last one goes: before and after
  module _ (d : A) (xs : List A) (i : ℕ) (h : i + 1 ≤ length xs) where
    last_before : take (i + 1) xs ≡ take i xs ++ (get_or xs i d ∷ [])
    last_before = take_step xs i d (omega arith)

    last_after : take (i + 1 - 1) (filled d (i + 1) i xs) ≡ take i xs
    last_after =
        let e : i + 1 - 1 ≡ i = omega arith in
        ap (λ (j : ℕ). take j (filled d (i + 1) i xs)) e ∙ take-set-le i xs i (get_or xs (i + 1 - 1) d) (omega arith)

  -- another one goes, with m others between it and the last: before and after
  module _ (d : A) (xs : List A) (i m : ℕ) (h : i + 2 + m ≤ length xs) where
    length_between : length (between xs i m) ≡ m
    length_between = length-take-le m (drop (i + 1) xs) (simp length-drop (omega arith))

    last_one : get_or (drop (i + 1) xs) m d ≡ get_or xs (i + 2 + m - 1) d
    last_one = get_or-drop (i + 1) xs m d ∙ (let e : i + 1 + m ≡ i + 2 + m - 1 = omega arith in ap (λ (j : ℕ). get_or xs j d) e)

    inner_before : take (i + 2 + m) xs ≡ take i xs ++ get_or xs i d ∷ (between xs i m ++ (get_or xs (i + 2 + m - 1) d ∷ []))
    inner_before =
        let e : i + 2 + m ≡ i + suc (m + 1) = omega arith in
        ap (λ (j : ℕ). take j xs) e
        ∙ take-add i (suc (m + 1)) xs
        ∙ ap (λ (ys : List A). take i xs ++ take (suc (m + 1)) ys) (drop_step xs i d (omega arith))
        ∙ ap (λ (ys : List A). take i xs ++ get_or xs i d ∷ ys) (take_step (drop (i + 1) xs) m d (simp length-drop (omega arith)))
        ∙ ap (λ (x : A). take i xs ++ get_or xs i d ∷ (between xs i m ++ (x ∷ []))) last_one

    inner_after : take (i + 2 + m - 1) (filled d (i + 2 + m) i xs) ≡ take i xs ++ get_or xs (i + 2 + m - 1) d ∷ between xs i m
    inner_after =
        let l : A = get_or xs (i + 2 + m - 1) d in
        let k : length (take i xs) ≡ i = length-take-le i xs (omega arith) in
        let e : i + 2 + m - 1 ≡ length (take i xs) + suc m = omega arith in
        ap (take (i + 2 + m - 1)) (set_split xs i l (omega arith))
        ∙ ap (λ (j : ℕ). take j (take i xs ++ l ∷ drop (suc i) xs)) e
        ∙ take-append-add (take i xs) (l ∷ drop (suc i) xs) (suc m)
        ∙ ap (λ (j : ℕ). take i xs ++ l ∷ take m (drop j xs)) (sym (add-one i))

-- the place that is emptied is the last one, or there are m more and the last one behind it
by_place : (P : ℕ → Type 0) (n i : ℕ) → i < n → (n ≡ i + 1 → P (i + 1)) → ((m : ℕ) → n ≡ i + 2 + m → P (i + 2 + m)) → P n
by_place P n i h f g =
    split_eq n (i + 1)
    (λ e. subst P (sym e) (f e))
    (λ o. let e : n ≡ i + 2 + (n - (i + 2)) = omega arith in subst P (sym e) (g (n - (i + 2)) e))

-- a map with a new id: one more; and without the id at a place, where ids differ
module _ {A : Type 0} (ids : List ℕ) (vs : List A) (n : ℕ) where
  pub map_added : (id : ℕ) (v : A) → n < length ids → n < length vs → ids_of (take n ids) id ≡ false
      → map_of (take (n + 1) (set ids n id)) (take (n + 1) (set vs n v)) ≡ bind (map_of (take n ids) (take n vs)) id v
  map_added id v h k e =
      (λ j. map_of (take_added ids n id h j) (take_added vs n v k j))
      ∙ map_of_snoc (take n ids) (take n vs) id v (length-take-le n ids (omega arith) ∙ sym (length-take-le n vs (omega arith))) e

  pub map_removed : (d : A) (i : ℕ) → i < n → n ≤ length ids → n ≤ length vs → Distinct (take n ids)
      → map_of (take (n - 1) (filled 0 n i ids)) (take (n - 1) (filled d n i vs)) ≡ unbind (map_of (take n ids) (take n vs)) (get_or ids i 0)
  map_removed d i h p q =
      by_place
      (λ (n : ℕ). Distinct (take n ids) → map_of (take (n - 1) (filled 0 n i ids)) (take (n - 1) (filled d n i vs)) ≡ unbind (map_of (take n ids) (take n vs)) (get_or ids i 0))
      n i h
      (λ e t.
      let k : i + 1 ≤ length ids = omega arith in
      let l : i + 1 ≤ length vs = omega arith in
      (λ j. map_of (last_after 0 ids i k j) (last_after d vs i l j))
      ∙ map_of_last (take i ids) (take i vs) (get_or ids i 0) (get_or vs i d) (length-take-le i ids (omega arith) ∙ sym (length-take-le i vs (omega arith))) (subst Distinct (last_before 0 ids i k) t)
      ∙ (λ j. unbind (map_of (sym (last_before 0 ids i k) j) (sym (last_before d vs i l) j)) (get_or ids i 0)))
      (λ m e t.
      let k : i + 2 + m ≤ length ids = omega arith in
      let l : i + 2 + m ≤ length vs = omega arith in
      (λ j. map_of (inner_after 0 ids i m k j) (inner_after d vs i m l j))
      ∙ map_of_swap (take i ids) (between ids i m) (take i vs) (between vs i m) (get_or ids i 0) (get_or ids (i + 2 + m - 1) 0) (get_or vs i d) (get_or vs (i + 2 + m - 1) d)
      (length-take-le i ids (omega arith) ∙ sym (length-take-le i vs (omega arith))) (length_between 0 ids i m k ∙ sym (length_between d vs i m l))
      (subst Distinct (inner_before 0 ids i m k) t)
      ∙ (λ j. unbind (map_of (sym (inner_before 0 ids i m k) j) (sym (inner_before d vs i m l) j)) (get_or ids i 0)))

-- the ids alone: a set with one more and one less, and ids that still differ
module _ (ids : List ℕ) (n : ℕ) where
  pub set_added : (id : ℕ) → n < length ids → ids_of (take (n + 1) (set ids n id)) ≡ join (ids_of (take n ids)) id
  set_added id h = ap ids_of (take_added ids n id h) ∙ ids_of_snoc (take n ids) id

  -- a set is the keys of a map, here of ids to themselves
  pub set_removed : (i : ℕ) → i < n → n ≤ length ids → Distinct (take n ids) → ids_of (take (n - 1) (filled 0 n i ids)) ≡ leave (ids_of (take n ids)) (get_or ids i 0)
  set_removed i h p t =
      let after : List ℕ = take (n - 1) (filled 0 n i ids) in
      sym (map_of_keys after after refl)
      ∙ ap keys (map_removed ids ids n 0 i h p p t)
      ∙ keys_unbind (map_of (take n ids) (take n ids)) (get_or ids i 0)
      ∙ ap (λ (s : Ids). leave s (get_or ids i 0)) (map_of_keys (take n ids) (take n ids) refl)

  pub distinct_added : (id : ℕ) → n < length ids → Distinct (take n ids) → ids_of (take n ids) id ≡ false → Distinct (take (n + 1) (set ids n id))
  distinct_added id h t e = subst Distinct (sym (take_added ids n id h)) (distinct_snoc (take n ids) id t e)

  pub distinct_removed : (i : ℕ) → i < n → n ≤ length ids → Distinct (take n ids) → Distinct (take (n - 1) (filled 0 n i ids))
  distinct_removed i h p =
      by_place (λ (n : ℕ). Distinct (take n ids) → Distinct (take (n - 1) (filled 0 n i ids))) n i h
      (λ e t.
      let k : i + 1 ≤ length ids = omega arith in
      subst Distinct (sym (last_after 0 ids i k)) (distinct_front (take i ids) (get_or ids i 0) (subst Distinct (last_before 0 ids i k) t)))
      (λ m e t.
      let k : i + 2 + m ≤ length ids = omega arith in
      subst Distinct (sym (inner_after 0 ids i m k))
      (distinct_swap (take i ids) (between ids i m) (get_or ids i 0) (get_or ids (i + 2 + m - 1) 0) (subst Distinct (inner_before 0 ids i m k) t)))

-- a test of every value in use
module _ {A : Type 0} (p : A → Bool) where
  every_one : (v : A) → p v ≡ true → every p (v ∷ []) ≡ true
  unfolding every
  every_one v q = also_both (p v) true q refl

  every_front : (xs ys : List A) → every p (xs ++ ys) ≡ true → every p xs ≡ true
  every_front xs ys e = also_left (every p xs) (every p ys) (sym (every_append p xs ys) ∙ e)

  every_back : (xs ys : List A) → every p (xs ++ ys) ≡ true → every p ys ≡ true
  every_back xs ys e = also_right (every p xs) (every p ys) (sym (every_append p xs ys) ∙ e)

  every_both : (xs ys : List A) → every p xs ≡ true → every p ys ≡ true → every p (xs ++ ys) ≡ true
  every_both xs ys e f = every_append p xs ys ∙ also_both (every p xs) (every p ys) e f

  every_swap : (xs ys : List A) (x y : A) → every p (xs ++ x ∷ (ys ++ (y ∷ []))) ≡ true → every p (xs ++ y ∷ ys) ≡ true
  unfolding every
  every_swap xs ys x y e =
      let r : every p (ys ++ (y ∷ [])) ≡ true = also_right (p x) (every p (ys ++ (y ∷ []))) (every_back xs (x ∷ (ys ++ (y ∷ []))) e) in
      let z : p y ≡ true = also_left (p y) true (every_back ys (y ∷ []) r) in
      every_both xs (y ∷ ys) (every_front xs (x ∷ (ys ++ (y ∷ []))) e) (also_both (p y) (every p ys) z (every_front ys (y ∷ []) r))

module _ {A : Type 0} (p : A → Bool) (vs : List A) (n : ℕ) where
  pub every_added : (v : A) → n < length vs → every p (take n vs) ≡ true → p v ≡ true → every p (take (n + 1) (set vs n v)) ≡ true
  every_added v h e q =
      ap (every p) (take_added vs n v h)
      ∙ every_append p (take n vs) (v ∷ [])
      ∙ also_both (every p (take n vs)) (every p (v ∷ [])) e (every_one p v q)

  pub every_removed : (d : A) (i : ℕ) → i < n → n ≤ length vs → every p (take n vs) ≡ true → every p (take (n - 1) (filled d n i vs)) ≡ true
  every_removed d i h l =
      by_place (λ (n : ℕ). every p (take n vs) ≡ true → every p (take (n - 1) (filled d n i vs)) ≡ true) n i h
      (λ e t.
      let k : i + 1 ≤ length vs = omega arith in
      ap (every p) (last_after d vs i k)
      ∙ every_front p (take i vs) (get_or vs i d ∷ []) (sym (ap (every p) (last_before d vs i k)) ∙ t))
      (λ m e t.
      let k : i + 2 + m ≤ length vs = omega arith in
      ap (every p) (inner_after d vs i m k)
      ∙ every_swap p (take i vs) (between vs i m) (get_or vs i d) (get_or vs (i + 2 + m - 1) d) (sym (ap (every p) (inner_before d vs i m k)) ∙ t))
