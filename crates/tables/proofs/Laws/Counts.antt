-- The questions of a table as facts, and both in the words of sets: a count against a bound on the set's numbers, and question 8 exactly at
-- its bound. `Counted` is kept by one more and by one less.
use Prim.Native.Nat.{ℕ, ◌+◌, ◌-◌, ◌≤◌, ◌<◌, min}
use Rattle.std.specs.Prelude.{Bool, ◌≡◌, List, ◌∷◌, ◌⊎◌, leb, length, set, get_or}
use Rattle.std.proofs.Math.Bool.{true, false, cond, not}
use Rattle.std.proofs.Math.Path.{refl, sym, ap}
use Rattle.std.proofs.Common.{◌∙◌, subst, inl, inr, length-set, length-take-le}
use native.Mathlib.Omega.{arith}
use Rattle.std.proofs.Math.ListN.{take}
use borrow.Author.Tests.{le-leb, lt-leb, leb-true}
use Rattle.laws.specs.Choice.{also, also_left, also_right, also_both, and_then, and_then_left, and_then_right, and_then_both, and_then_first, ask, ask_yes, ask_holds, ask_fails, split_bool, false_true}
use Rattle.laws.specs.Sets.{empty_ids, join, ids_of, Distinct, AtMost, listed_few, distinct_few, joined_few, few_joined, join_same, none_listed, out_cons}
use Rattle.tables.specs.Rows.{distinct, counted, Counted, has_room, ask_add, ask_join, filled}
use Rattle.tables.proofs.Laws.Places.{distinct_facts, facts_distinct}
use Rattle.tables.proofs.Laws.Arrays.{distinct_added, distinct_removed}

-- a yes to the questions of an id that has to be new
pub record Addable (most count : ℕ) (ids : List ℕ) (id : ℕ) : Type 0 where
  pub new : ids_of (take count ids) id ≡ false
  pub below : count < most
  pub free : count < length ids

module _ (most count : ℕ) (ids : List ℕ) where
  -- the test and the facts
  pub counted_facts : counted most count ids ≡ true → Counted most count ids
  unfolding counted
  counted_facts e =
      let l = also_left (also (leb count most) (leb count (length ids))) (distinct (take count ids)) e in
      record {
        few = leb-true count most (also_left (leb count most) (leb count (length ids)) l);
        in_array = leb-true count (length ids) (also_right (leb count most) (leb count (length ids)) l);
        differ = distinct_facts (take count ids) (also_right (also (leb count most) (leb count (length ids))) (distinct (take count ids)) e);
      }

  pub facts_counted : Counted most count ids → counted most count ids ≡ true
  unfolding counted
  facts_counted f =
      also_both (also (leb count most) (leb count (length ids))) (distinct (take count ids))
      (also_both (leb count most) (leb count (length ids)) (le-leb count most f.few) (le-leb count (length ids) f.in_array))
      (facts_distinct (take count ids) f.differ)

  -- room
  pub room_limit : (more : ℕ) → has_room most count more ids ≡ true → count + more ≤ most
  unfolding has_room
  room_limit more e = let h = leb-true (count + more) (min most (length ids)) e in omega arith

  pub room_array : (more : ℕ) → has_room most count more ids ≡ true → count + more ≤ length ids
  unfolding has_room
  room_array more e = let h = leb-true (count + more) (min most (length ids)) e in omega arith

  pub has_room_is : (more : ℕ) → count + more ≤ most → count + more ≤ length ids → has_room most count more ids ≡ true
  unfolding has_room
  has_room_is more h k = le-leb (count + more) (min most (length ids)) (omega arith)

  pub no_room : (more : ℕ) → most < count + more → has_room most count more ids ≡ false
  unfolding has_room
  no_room more h = lt-leb (count + more) (min most (length ids)) (omega arith)

  pub addable : (id : ℕ) → ids_of (take count ids) id ≡ false → has_room most count 1 ids ≡ true → Addable most count ids id
  addable id n e = let k = room_limit 1 e in let l = room_array 1 e in record { new = n; below = omega arith; free = omega arith }

  -- questions 5 and 8: a yes, and each no
  pub add_asked : (id : ℕ) → ask_add most count ids id ≡ 0 → Addable most count ids id
  unfolding ask_add
  add_asked id e =
      let q : ℕ = ask 5 (not (ids_of (take count ids) id)) in
      let r : ℕ = ask 8 (has_room most count 1 ids) in
      addable id
      (not_in (ids_of (take count ids) id) (ask_yes 5 (not (ids_of (take count ids) id)) (omega arith) (and_then_left q r e)))
      (ask_yes 8 (has_room most count 1 ids) (omega arith) (and_then_right q r e))
    where
      not_in : (b : Bool) → not b ≡ true → b ≡ false
      not_in true q = false_true q
      not_in false q = refl

  pub asks_add : (id : ℕ) → Addable most count ids id → ask_add most count ids id ≡ 0
  unfolding ask_add
  asks_add id a =
      let k = a.below in
      let l = a.free in
      and_then_both (ask 5 (not (ids_of (take count ids) id))) (ask 8 (has_room most count 1 ids))
      (ask_holds 5 (not (ids_of (take count ids) id)) (ap not a.new))
      (ask_holds 8 (has_room most count 1 ids) (has_room_is 1 (omega arith) (omega arith)))

  pub add_known : (id : ℕ) → ids_of (take count ids) id ≡ true → ask_add most count ids id ≡ 5
  unfolding ask_add
  add_known id e =
      let q : ask 5 (not (ids_of (take count ids) id)) ≡ 5 = ask_fails 5 (not (ids_of (take count ids) id)) (ap not e) in
      and_then_first (ask 5 (not (ids_of (take count ids) id))) (ask 8 (has_room most count 1 ids)) (λ z. let b = sym q ∙ z in omega arith) ∙ q

  pub add_full : (id : ℕ) → ids_of (take count ids) id ≡ false → most ≤ count → ask_add most count ids id ≡ 8
  unfolding ask_add and_then ask
  add_full id e h = simp (e, no_room 1 (omega arith))

  -- question 8 of an id that joins
  pub join_known : (id : ℕ) → ids_of (take count ids) id ≡ true → ask_join most count ids id ≡ 0
  unfolding ask_join
  join_known id e = ap (λ (b : Bool). cond b 0 (ask 8 (has_room most count 1 ids))) e

  pub join_new : (id : ℕ) → ids_of (take count ids) id ≡ false → ask_join most count ids id ≡ ask_add most count ids id
  unfolding ask_join ask_add and_then ask
  join_new id e = simp e

  pub join_asked : (id : ℕ) → ask_join most count ids id ≡ 0 → (ids_of (take count ids) id ≡ true) ⊎ Addable most count ids id
  join_asked id e = split_bool (ids_of (take count ids) id) inl (λ n. inr (add_asked id (sym (join_new id n) ∙ e)))

-- in the words of sets: of distinct ids in use
module _ (limit count : ℕ) (ids : List ℕ) (t : Counted limit count ids) where
  used_long : length (take count ids) ≡ count
  used_long = length-take-le count ids t.in_array

  pub count_few : (n : ℕ) → count ≤ n → AtMost n (ids_of (take count ids))
  count_few n h = let l = used_long in listed_few n (take count ids) (omega arith)

  pub few_count : (n : ℕ) → AtMost n (ids_of (take count ids)) → count ≤ n
  few_count n m = let l = used_long in let h = distinct_few n (take count ids) t.differ m in omega arith

  pub counted_at : (n : ℕ) → count ≤ n → Counted n count ids
  counted_at n h = record { few = h; in_array = t.in_array; differ = t.differ }

  pub count_none : ids_of (take count ids) ≡ empty_ids → count ≡ 0
  count_none e = sym used_long ∙ none_listed (take count ids) e

  -- question 8: one more is taken exactly where the set with it has at most so many
  pub room_one : (most id : ℕ) → has_room most count 1 ids ≡ true → AtMost most (join (ids_of (take count ids)) id)
  room_one most id e = let l = used_long in let h = room_limit most count ids 1 e in joined_few most (take count ids) id (omega arith)

  pub one_room : (most id : ℕ) → most ≤ length ids → ids_of (take count ids) id ≡ false → AtMost most (join (ids_of (take count ids)) id) → has_room most count 1 ids ≡ true
  one_room most id k e m =
      let l = used_long in
      let h = few_joined most (take count ids) id t.differ e m in
      has_room_is most count ids 1 (omega arith) (omega arith)

  pub add_few : (most id : ℕ) → ask_add most count ids id ≡ 0 → AtMost most (join (ids_of (take count ids)) id)
  add_few most id e = let l = used_long in let h = (add_asked most count ids id e).below in joined_few most (take count ids) id (omega arith)

  pub few_add : (most id : ℕ) → most ≤ length ids → ids_of (take count ids) id ≡ false → AtMost most (join (ids_of (take count ids)) id) → ask_add most count ids id ≡ 0
  few_add most id k e m = asks_add most count ids id (addable most count ids id e (one_room most id k e m))

  -- a table at its limit has room for none, and no set of so many numbers holds one more
  pub full : (id : ℕ) → count ≡ limit → ids_of (take count ids) id ≡ false → AtMost limit (join (ids_of (take count ids)) id) → ⊥
  full id c e m = let l = used_long in let h = few_joined limit (take count ids) id t.differ e m in omega arith

  pub join_few : (id : ℕ) → ask_join limit count ids id ≡ 0 → AtMost limit (join (ids_of (take count ids)) id)
  join_few id e =
      split_bool (ids_of (take count ids) id)
      (λ h. subst (AtMost limit) (sym (join_same (ids_of (take count ids)) id h)) (count_few limit t.few))
      (λ n. add_few limit id (sym (join_new limit count ids id n) ∙ e))

  pub few_join : (most id : ℕ) → most ≤ length ids → AtMost most (join (ids_of (take count ids)) id) → ask_join most count ids id ≡ 0
  few_join most id k m =
      split_bool (ids_of (take count ids) id)
      (λ h. join_known most count ids id h)
      (λ n. join_new most count ids id n ∙ few_add most id k n m)

  -- room for two that are new and differ
  pub room_two : (most id1 id2 : ℕ) → has_room most count 2 ids ≡ true → AtMost most (join (join (ids_of (take count ids)) id1) id2)
  unfolding ids_of
  room_two most id1 id2 e =
      let l = used_long in
      let h = room_limit most count ids 2 e in
      listed_few most (id2 ∷ (id1 ∷ take count ids)) (omega arith)

  pub two_room : (most id1 id2 : ℕ) → most ≤ length ids → ids_of (take count ids) id1 ≡ false → ids_of (take count ids) id2 ≡ false → (id2 ≡ id1 → ⊥)
      → AtMost most (join (join (ids_of (take count ids)) id1) id2) → has_room most count 2 ids ≡ true
  unfolding ids_of Distinct
  two_room most id1 id2 k e1 e2 o m =
      let l = used_long in
      let h = distinct_few most (id2 ∷ (id1 ∷ take count ids)) (out_cons id1 id2 (take count ids) (λ q. o (sym q)) e2, (e1, t.differ)) m in
      has_room_is most count ids 2 (omega arith) (omega arith)

  -- kept
  pub counted_removed : (i : ℕ) → i < count → Counted limit (count - 1) (filled 0 count i ids)
  counted_removed i h =
      let l = length-set ids i (get_or ids (count - 1) 0) in
      let a = t.few in
      let b = t.in_array in
      record { few = omega arith; in_array = omega arith; differ = distinct_removed ids count i h t.in_array t.differ }

  pub counted_added : (id : ℕ) → Addable limit count ids id → Counted limit (count + 1) (set ids count id)
  counted_added id a =
      let l = length-set ids count id in
      let b = a.below in
      let f = a.free in
      record { few = omega arith; in_array = omega arith; differ = distinct_added ids count id a.free t.differ a.new }

pub counted_none : (most : ℕ) (ids : List ℕ) → Counted most 0 ids
unfolding Distinct
counted_none most ids = record { few = omega arith; in_array = omega arith; differ = tt }
