-- Laws of ids in a list: the place of an id, the turns of the loop that compares all, and the tests as facts.
use Prim.Native.Nat.{ℕ, zero, suc, ◌+◌, ◌-◌, ◌≤◌, ◌<◌, min}
use Rattle.std.specs.Prelude.{Bool, true, ◌≡◌, refl, ltb, eqb, length, take, drop, get_or}
use Rattle.std.proofs.Math.Bool.{false, cond, not}
use Rattle.std.specs.List.{position, position_or_len}
use Rattle.std.specs.Prelude.{unwrap_or}
use Rattle.std.specs.declared.option.Option as code
use Rattle.std.proofs.Common.{sym, ◌∙◌, length-take, get_or-take, lt-ltb, le-ltb, ltb-true, eq-eqb, ne_eqb}
use Rattle.std.proofs.Math.Path.{ap}
use mathlib.Core.List.{List, [], ◌∷◌}
use Rattle.std.proofs.Math.Option.{some, none}
use native.Mathlib.Omega.{arith}
use Rattle.laws.specs.Choice.{leb_same, by_ltb, split_eq, also_left, also_right, also_both, true_false, false_true}
use Rattle.laws.specs.Fold.{every_at, every_all}
use Rattle.laws.specs.Maps.{map_of_none}
use Rattle.laws.specs.Part.{drop_step, drop_end, tail_is}
use Rattle.laws.specs.Sets.{Ids, ids_of, map_of, Distinct, ids_of_here, ids_of_there, bind_here, bind_there, out_head, out_tail, same_ids_is}
use Rattle.tables.specs.Rows.{place_of, distinct, within, same_ids}

-- the place of the first id, and of another
place_here : (id k : ℕ) (ks : List ℕ) → k ≡ id → place_of id (k ∷ ks) ≡ 0
unfolding place_of
place_here id k ks e = ap (λ (b : Bool). cond b 0 (suc (place_of id ks))) (eq-eqb k id e)

place_there : (id k : ℕ) (ks : List ℕ) → (k ≡ id → ⊥) → place_of id (k ∷ ks) ≡ suc (place_of id ks)
unfolding place_of
place_there id k ks n = ap (λ (b : Bool). cond b 0 (suc (place_of id ks))) (ne_eqb k id n)

-- the place that the library finds, or the length
place_prefix : (id : ℕ) (ks : List ℕ) → position_or_len (λ (k : ℕ). eqb k id) ks ≡ place_of id ks
unfolding place_of
place_prefix id [] = refl
place_prefix id (k ∷ ks) = go (eqb k id) (place_prefix id ks)
  where
    go : (b : Bool) → position_or_len (λ (j : ℕ). eqb j id) ks ≡ place_of id ks → cond (not b) (1 + position_or_len (λ (j : ℕ). eqb j id) ks) 0 ≡ cond b 0 (suc (place_of id ks))
    go true e = refl
    go false e = omega (arith, e)

place_most : (id : ℕ) (ks : List ℕ) → place_of id ks ≤ length ks
unfolding place_of
place_most id [] = omega arith
place_most id (k ∷ ks) = go (eqb k id) (place_most id ks)
  where
    go : (b : Bool) → place_of id ks ≤ length ks → cond b 0 (suc (place_of id ks)) ≤ suc (length ks)
    go true e = omega arith
    go false e = omega (arith, e)

pub place_found : (id : ℕ) (ks : List ℕ) → unwrap_or (position (λ (k : ℕ). eqb k id) ks) (length ks) ≡ place_of id ks
place_found id ks =
    by_ltb (λ (o : code.Option ℕ). unwrap_or o (length ks) ≡ place_of id ks) (position_or_len (λ (k : ℕ). eqb k id) ks) (length ks) _ _
    (λ h. place_prefix id ks)
    (λ h. omega (arith, h, place_prefix id ks, place_most id ks))

-- an id stands at a place within the list exactly where it is there
pub place_in : (id : ℕ) (ks : List ℕ) → ltb (place_of id ks) (length ks) ≡ ids_of ks id
unfolding place_of ids_of
place_in id [] = refl
place_in id (k ∷ ks) = go (eqb k id) (place_in id ks)
  where
    go : (b : Bool) → ltb (place_of id ks) (length ks) ≡ ids_of ks id → ltb (cond b 0 (suc (place_of id ks))) (suc (length ks)) ≡ cond b true (ids_of ks id)
    go true e = lt-ltb 0 (suc (length ks)) (omega arith)
    go false e = leb_same (suc (suc (place_of id ks))) (suc (length ks)) (suc (place_of id ks)) (length ks) (omega arith) (omega arith) ∙ e

pub place_below : (id : ℕ) (ks : List ℕ) → ids_of ks id ≡ true → place_of id ks < length ks
place_below id ks e = ltb-true (place_of id ks) (length ks) (place_in id ks ∙ e)

pub place_out : (id : ℕ) (ks : List ℕ) → ids_of ks id ≡ false → place_of id ks ≡ length ks
unfolding place_of
place_out id [] e = refl
place_out id (k ∷ ks) e = place_there id k ks (out_head k id ks e) ∙ ap suc (place_out id ks (out_tail k id ks e))

-- what stands there: the id, and beside it the map's value
pub place_id : (id : ℕ) (ks : List ℕ) (d : ℕ) → place_of id ks < length ks → get_or ks (place_of id ks) d ≡ id
unfolding place_of
place_id id [] d h = absurd (omega arith)
place_id id (k ∷ ks) d h =
    split_eq k id
    (λ e. ap (λ (n : ℕ). get_or (k ∷ ks) n d) (place_here id k ks e) ∙ e)
    (λ n. ap (λ (m : ℕ). get_or (k ∷ ks) m d) (place_there id k ks n) ∙ place_id id ks d (let q = place_there id k ks n in omega arith))

-- what stands at a place is there
pub place_member : (xs : List ℕ) (i d : ℕ) → i < length xs → ids_of xs (get_or xs i d) ≡ true
unfolding ids_of
place_member [] i d h = absurd (omega arith)
place_member (x ∷ xs) zero d h = ids_of_here x xs
place_member (x ∷ xs) (suc i) d h =
    split_eq x (get_or xs i d)
    (λ e. ap (ids_of (x ∷ xs)) (sym e) ∙ ids_of_here x xs)
    (λ n. ids_of_there x (get_or xs i d) xs n ∙ place_member xs i d (omega arith))

module _ {A : Type 0} where
  pub place_value : (id : ℕ) (ks : List ℕ) (vs : List A) (d : A) → length ks ≡ length vs → place_of id ks < length ks → map_of ks vs id ≡ some (get_or vs (place_of id ks) d)
  unfolding map_of
  place_value id [] vs d e h = absurd (omega arith)
  place_value id (k ∷ ks) [] d e h = absurd (omega arith)
  place_value id (k ∷ ks) (v ∷ vs) d e h =
      split_eq k id
      (λ q. ap (map_of (k ∷ ks) (v ∷ vs)) (sym q) ∙ bind_here (map_of ks vs) k v ∙ ap (λ (n : ℕ). some (get_or (v ∷ vs) n d)) (sym (place_here id k ks q)))
      (λ n.
      bind_there (map_of ks vs) k id v n
      ∙ place_value id ks vs d (omega arith) (let q = place_there id k ks n in omega arith)
      ∙ ap (λ (m : ℕ). some (get_or (v ∷ vs) m d)) (sym (place_there id k ks n)))

  -- what stands beside an id is its value, where ids differ
  pub held_at : (ks : List ℕ) (vs : List A) (i : ℕ) (c : ℕ) (d : A) → length ks ≡ length vs → Distinct ks → i < length ks → map_of ks vs (get_or ks i c) ≡ some (get_or vs i d)
  unfolding map_of Distinct
  held_at [] vs i c d e t h = absurd (omega arith)
  held_at (k ∷ ks) [] i c d e t h = absurd (omega arith)
  held_at (k ∷ ks) (v ∷ vs) zero c d e t h = bind_here (map_of ks vs) k v
  held_at (k ∷ ks) (v ∷ vs) (suc i) c d e t h =
      bind_there (map_of ks vs) k (get_or ks i c) v (λ q. true_false (sym (place_member ks i c (omega arith)) ∙ ap (ids_of ks) (sym q) ∙ t.0))
      ∙ held_at ks vs i c d (omega arith) t.1 (omega arith)

  -- the same_ids in arrays with a count, of which the code looks at as many places as there are
  module _ (ids : List ℕ) (vs : List A) (count id i n size : ℕ) (p : length ids ≡ size) (q : length vs ≡ size) (m : n ≡ min count size) (e : i ≡ place_of id (take count ids)) where
    used_long : length (take count ids) ≡ n
    used_long = length-take count ids ∙ ap (min count) p ∙ sym m

    pub found : (d : A) → i < n → map_of (take count ids) (take count vs) id ≡ some (get_or vs i d)
    found d h =
        let l = used_long in
        let k : length (take count vs) ≡ n = length-take count vs ∙ ap (min count) q ∙ sym m in
        place_value id (take count ids) (take count vs) d (omega arith) (omega arith)
        ∙ ap (λ (j : ℕ). some (get_or (take count vs) j d)) (sym e)
        ∙ ap some (get_or-take count vs i d (omega arith))

    pub missed : n ≤ i → map_of (take count ids) (take count vs) id ≡ none
    missed h =
        let l = used_long in
        map_of_none (take count ids) (take count vs) id (sym (place_in id (take count ids)) ∙ le-ltb (place_of id (take count ids)) (length (take count ids)) (omega arith))

-- the loop that compares all ids: one stands again, it doesn't, nothing is left
module _ (ids : List ℕ) (i : ℕ) (b : Bool) where
  distinct_step : i < length ids → b ≡ ids_of (take (length ids - (i + 1)) (drop (i + 1) ids)) (get_or ids i 0) → distinct (drop i ids) ≡ cond b false (distinct (drop (i + 1) ids))
  unfolding distinct
  distinct_step h e =
      ap distinct (drop_step ids i 0 h)
      ∙ ap (λ (t : Bool). cond t false (distinct (drop (i + 1) ids))) (sym (e ∙ ap (λ (ks : List ℕ). ids_of ks (get_or ids i 0)) (tail_is ids (i + 1))))

  pub distinct_no : i < length ids → b ≡ ids_of (take (length ids - (i + 1)) (drop (i + 1) ids)) (get_or ids i 0) → b ≡ true → distinct (drop i ids) ≡ distinct ids → false ≡ distinct ids
  distinct_no h e t p = ap (λ (x : Bool). cond x false (distinct (drop (i + 1) ids))) (sym t) ∙ sym (distinct_step h e) ∙ p

  pub distinct_yes : i < length ids → b ≡ ids_of (take (length ids - (i + 1)) (drop (i + 1) ids)) (get_or ids i 0) → b ≡ false → distinct (drop i ids) ≡ distinct ids → distinct (drop (i + 1) ids) ≡ distinct ids
  distinct_yes h e t p = ap (λ (x : Bool). cond x false (distinct (drop (i + 1) ids))) (sym t) ∙ sym (distinct_step h e) ∙ p

pub distinct_end : (ids : List ℕ) (i : ℕ) → length ids ≤ i → distinct (drop i ids) ≡ distinct ids → true ≡ distinct ids
unfolding distinct
distinct_end ids i h p = ap distinct (sym (drop_end ids i h)) ∙ p

-- the test says true exactly of lists without repeats
pub distinct_facts : (ks : List ℕ) → distinct ks ≡ true → Distinct ks
unfolding distinct Distinct
distinct_facts [] e = tt
distinct_facts (k ∷ ks) e = go (ids_of ks k) refl (distinct_facts ks) e
  where
    go : (b : Bool) → ids_of ks k ≡ b → (distinct ks ≡ true → Distinct ks) → cond b false (distinct ks) ≡ true → (ids_of ks k ≡ false) × Distinct ks
    go true q f t = false_true t
    go false q f t = (q, f t)

pub facts_distinct : (ks : List ℕ) → Distinct ks → distinct ks ≡ true
unfolding distinct Distinct
facts_distinct [] d = refl
facts_distinct (k ∷ ks) d = ap (λ (b : Bool). cond b false (distinct ks)) d.0 ∙ facts_distinct ks d.1

-- two lists make one set exactly where the test says so
pub within_all : (xs ys : List ℕ) → within xs ys ≡ true → (i : ℕ) → ids_of xs i ≡ true → ids_of ys i ≡ true
unfolding within
within_all xs ys e i h =
    let p = place_below i xs h in
    ap (ids_of ys) (sym (place_id i xs 0 p)) ∙ every_at (ids_of ys) xs (place_of i xs) 0 e p

pub same_sets : (xs ys : List ℕ) → same_ids xs ys ≡ true → ids_of xs ≡ ids_of ys
unfolding same_ids
same_sets xs ys e =
    same_ids_is (ids_of xs) (ids_of ys) (within_all xs ys (also_left (within xs ys) (within ys xs) e)) (within_all ys xs (also_right (within xs ys) (within ys xs) e))

pub all_within : (xs ys : List ℕ) → ((i : ℕ) → ids_of xs i ≡ true → ids_of ys i ≡ true) → within xs ys ≡ true
unfolding within
all_within xs ys f = every_all (ids_of ys) xs 0 (λ i h. f (get_or xs i 0) (place_member xs i 0 h))

pub sets_same : (xs ys : List ℕ) → ids_of xs ≡ ids_of ys → same_ids xs ys ≡ true
unfolding same_ids
sets_same xs ys e =
    also_both (within xs ys) (within ys xs)
    (all_within xs ys (λ i h. sym (ap (λ (s : Ids). s i) e) ∙ h))
    (all_within ys xs (λ i h. ap (λ (s : Ids). s i) e ∙ h))
