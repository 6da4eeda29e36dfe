-- A table of ids with values and its map, over any value: what each change does to the map, the questions in the map's words, and that a
-- change keeps `Counted`, the arrays' lengths and a test of the values. An interval table t is `interval_rows t`, a sync table `sync_rows t`.
use Rattle.std.specs.Prelude.{ℕ, ◌+◌, ◌-◌, ◌≤◌, ◌<◌, Bool, ◌≡◌, List, ltb, take, get_or}
use Rattle.std.proofs.Math.Bool.{true, false, cond}
use Rattle.std.proofs.Math.Path.{refl, ap}
use Rattle.std.proofs.Common.{sym, ◌∙◌, subst, arith, length-take, length-take-le, get_or-take}
use Rattle.std.proofs.Math.Option.{none, some}
use Rattle.std.proofs.Math.ListN.{length, set, length-set}
use borrow.Author.Tests.{lt-ltb, le-ltb, le-leb}
use Rattle.laws.specs.Choice.{also, also_false, split_bool, split_le}
use Rattle.laws.specs.Fold.{every}
use Rattle.laws.specs.Maps.{Values, values_unbind, keys_bind, map_of_keys, map_of_none, unbind_same, values_of, of_values}
use Rattle.laws.specs.Sets.{Ids, join, join_there, no_keys, bind, unbind, is_key, keys, ids_of, map_of, AtMost, same_value}
use Rattle.tables.specs.Rows.{place_of, Counted, has_room, ask_add, in_use, filled, Rows, row_map, added_row, removed_row}
use Rattle.tables.proofs.Laws.Places.{place_below, place_out, place_id, place_value, held_at}
use Rattle.tables.proofs.Laws.Arrays.{set_added, map_added, map_removed, every_added, every_removed}
use Rattle.tables.proofs.Laws.Counts.{Addable, room_limit, room_array, add_few, few_add, count_few, few_count, count_none, room_two, two_room, counted_added, counted_removed}

-- both arrays have one length, as the type says
abbrev pub Level : {A : Type 0} → Rows A → Type 0
Level r = length r.ids ≡ length r.values

module _ {A : Type 0} (r : Rows A) where
  -- a change that is made, and one that isn't
  added_is : (id : ℕ) (v : A) → r.count < length r.ids
      → added_row r id v ≡ record { ids = set r.ids r.count id; values = set r.values r.count v; count = r.count + 1 }
  unfolding added_row
  added_is id v h =
      ap (λ (b : Bool). cond b (record { ids = set r.ids r.count id; values = set r.values r.count v; count = r.count + 1 }) r)
      (lt-ltb r.count (length r.ids) h)

  added_none : (id : ℕ) (v : A) → length r.ids ≤ r.count → added_row r id v ≡ r
  unfolding added_row
  added_none id v h =
      ap (λ (b : Bool). cond b (record { ids = set r.ids r.count id; values = set r.values r.count v; count = r.count + 1 }) r)
      (le-ltb r.count (length r.ids) h)

  removed_is : (d : A) (i : ℕ) → r.count ≤ length r.ids → i < r.count
      → removed_row d r i ≡ record { ids = filled 0 r.count i r.ids; values = filled d r.count i r.values; count = r.count - 1 }
  unfolding removed_row in_use also
  removed_is d i h k = simp (le-leb r.count (length r.ids) h, lt-ltb i r.count k)

  removed_none : (d : A) (i : ℕ) → r.count ≤ i → removed_row d r i ≡ r
  unfolding removed_row in_use
  removed_none d i h = simp (le-ltb i r.count h, also_false)

  -- none in use
  pub rows_none : r.count ≡ 0 → row_map r ≡ no_keys
  unfolding map_of
  rows_none e = ap (λ (n : ℕ). map_of (take n r.ids) (take n r.values)) e

  -- an id that may be added is new to the map
  pub rows_addable : (most id : ℕ) → Addable most r.count r.ids id → row_map r id ≡ none
  rows_addable most id a = map_of_none (take r.count r.ids) (take r.count r.values) id a.new

  -- where there is room for two, a second one may be added after a first
  pub rows_second : (most id1 id2 : ℕ) (v : A) → has_room most r.count 2 r.ids ≡ true → ids_of (take r.count r.ids) id2 ≡ false → (id2 ≡ id1 → ⊥)
      → Addable most (added_row r id1 v).count (added_row r id1 v).ids id2
  rows_second most id1 id2 v e n o =
      let k = room_limit most r.count r.ids 2 e in
      let l = room_array most r.count r.ids 2 e in
      let z = length-set r.ids r.count id1 in
      subst (λ (u : Rows A). Addable most u.count u.ids id2) (sym (added_is id1 v (omega arith)))
      (record {
        new = ap (λ (s : Ids). s id2) (set_added r.ids r.count id1 (omega arith)) ∙ join_there (ids_of (take r.count r.ids)) id1 id2 (λ q. o (sym q)) ∙ n;
        below = omega arith;
        free = omega arith;
      })

  module _ (l : Level r) where
    -- the keys are the ids in use, and a new id
    pub rows_keys : keys (row_map r) ≡ ids_of (take r.count r.ids)
    rows_keys =
        map_of_keys (take r.count r.ids) (take r.count r.values)
        (let a = length-take r.count r.ids in let b = length-take r.count r.values in omega arith)

    pub rows_new : (id : ℕ) → row_map r id ≡ none → ids_of (take r.count r.ids) id ≡ false
    rows_new id e = sym (ap (λ (s : Ids). s id) rows_keys) ∙ ap is_key e

    pub rows_known : (id : ℕ) (v : A) → row_map r id ≡ some v → ids_of (take r.count r.ids) id ≡ true
    rows_known id v e = sym (ap (λ (s : Ids). s id) rows_keys) ∙ ap is_key e

    -- a value of the map stands at a place in use, beside its id
    pub rows_place : (d : A) (id : ℕ) (v : A) → row_map r id ≡ some v → (i : ℕ) × (i < r.count) × (i < length r.ids) × (get_or r.ids i 0 ≡ id) × (get_or r.values i d ≡ v)
    rows_place d id v e =
        let used : List ℕ = take r.count r.ids in
        let h : place_of id used < length used = place_below id used (rows_known id v e) in
        let a = length-take r.count r.ids in
        let b = length-take r.count r.values in
        let k : place_of id used < r.count = omega arith in (
          place_of id used,
          k,
          omega arith,
          sym (get_or-take r.count r.ids (place_of id used) 0 k) ∙ place_id id used 0 h,
          sym (get_or-take r.count r.values (place_of id used) d k) ∙ same_value (place_value id used (take r.count r.values) d (omega arith) h) e,
        )

    bound_keys : (id : ℕ) (v : A) → keys (bind (row_map r) id v) ≡ join (ids_of (take r.count r.ids)) id
    bound_keys id v = keys_bind (row_map r) id v ∙ ap (λ (s : Ids). join s id) rows_keys

    -- one more
    pub rows_added : (id : ℕ) (v : A) → r.count < length r.ids → row_map r id ≡ none → row_map (added_row r id v) ≡ bind (row_map r) id v
    rows_added id v h e = ap row_map (added_is id v h) ∙ map_added r.ids r.values r.count id v h (omega arith) (rows_new id e)

    module _ (most : ℕ) (c : Counted most r.count r.ids) where
      -- what stands at a place in use is in the map
      pub rows_at : (d : A) (i : ℕ) → i < r.count → row_map r (get_or r.ids i 0) ≡ some (get_or r.values i d)
      rows_at d i h =
          let k = c.in_array in
          let a : length (take r.count r.ids) ≡ r.count = length-take-le r.count r.ids k in
          let b : length (take r.count r.values) ≡ r.count = length-take-le r.count r.values (omega arith) in
          ap (row_map r) (sym (get_or-take r.count r.ids i 0 h))
          ∙ held_at (take r.count r.ids) (take r.count r.values) i 0 d (omega arith) c.differ (omega arith)
          ∙ ap some (get_or-take r.count r.values i d h)

      -- one less, by its place, and by its id
      pub rows_removed : (d : A) (i : ℕ) → i < r.count → row_map (removed_row d r i) ≡ unbind (row_map r) (get_or r.ids i 0)
      rows_removed d i h =
          let k = c.in_array in
          ap row_map (removed_is d i k h) ∙ map_removed r.ids r.values r.count d i h k (omega arith) c.differ

      pub rows_left : (d : A) (id : ℕ) → row_map (removed_row d r (place_of id (take r.count r.ids))) ≡ unbind (row_map r) id
      rows_left d id =
          let used : List ℕ = take r.count r.ids in
          let e : length used ≡ r.count = length-take-le r.count r.ids c.in_array in
          split_bool (ids_of used id)
          (λ h.
          let b = place_below id used h in
          let k : place_of id used < r.count = omega arith in
          rows_removed d (place_of id used) k
          ∙ ap (unbind (row_map r)) (sym (get_or-take r.count r.ids (place_of id used) 0 k) ∙ place_id id used 0 b))
          (λ n.
          let b = place_out id used n in
          ap row_map (removed_none d (place_of id used) (omega arith)) ∙ sym (unbind_same (row_map r) id (map_of_none used (take r.count r.values) id n)))

      -- the count against a bound on the keys
      pub rows_few : (n : ℕ) → r.count ≤ n → AtMost n (keys (row_map r))
      rows_few n h = subst (AtMost n) (sym rows_keys) (count_few most r.count r.ids c n h)

      pub few_rows : (n : ℕ) → AtMost n (keys (row_map r)) → r.count ≤ n
      few_rows n m = few_count most r.count r.ids c n (subst (AtMost n) rows_keys m)

      pub none_rows : row_map r ≡ no_keys → r.count ≡ 0
      none_rows e = count_none most r.count r.ids c (sym rows_keys ∙ ap keys e)

      -- what holds of every value, kept
      pub rows_removed_values : (P : A → Type 0) (d : A) (i : ℕ) → Values P (row_map r) → Values P (row_map (removed_row d r i))
      rows_removed_values P d i f =
          split_le r.count i
          (λ h. subst (λ (u : Rows A). Values P (row_map u)) (sym (removed_none d i h)) f)
          (λ h. subst (Values P) (sym (rows_removed d i h)) (values_unbind P (row_map r) (get_or r.ids i 0) f))

      -- questions 5 and 8 in the map's words
      pub rows_add_few : (n id : ℕ) (v : A) → ask_add n r.count r.ids id ≡ 0 → AtMost n (keys (bind (row_map r) id v))
      rows_add_few n id v e = subst (AtMost n) (sym (bound_keys id v)) (add_few most r.count r.ids c n id e)

      pub few_rows_add : (n id : ℕ) (v : A) → n ≤ length r.ids → row_map r id ≡ none → AtMost n (keys (bind (row_map r) id v)) → ask_add n r.count r.ids id ≡ 0
      few_rows_add n id v h e m = few_add most r.count r.ids c n id h (rows_new id e) (subst (AtMost n) (bound_keys id v) m)

      -- a test of the values in use, and of the map's
      pub values_rows : (p : A → Bool) → Values (λ v. p v ≡ true) (row_map r) → every p (take r.count r.values) ≡ true
      values_rows p f =
          of_values p (take r.count r.ids) (take r.count r.values)
          (let a = length-take r.count r.ids in let b = length-take r.count r.values in omega arith)
          c.differ
          f

      -- room for two that are new and differ
      module _ (n id1 id2 : ℕ) (v1 v2 : A) where
        two_keys : keys (bind (bind (row_map r) id1 v1) id2 v2) ≡ join (join (ids_of (take r.count r.ids)) id1) id2
        two_keys = keys_bind (bind (row_map r) id1 v1) id2 v2 ∙ ap (λ (s : Ids). join s id2) (bound_keys id1 v1)

        pub rows_two_few : has_room n r.count 2 r.ids ≡ true → AtMost n (keys (bind (bind (row_map r) id1 v1) id2 v2))
        rows_two_few e = subst (AtMost n) (sym two_keys) (room_two most r.count r.ids c n id1 id2 e)

        pub few_rows_two : n ≤ length r.ids → row_map r id1 ≡ none → row_map r id2 ≡ none → (id2 ≡ id1 → ⊥) → AtMost n (keys (bind (bind (row_map r) id1 v1) id2 v2))
            → has_room n r.count 2 r.ids ≡ true
        few_rows_two h e1 e2 o m = two_room most r.count r.ids c n id1 id2 h (rows_new id1 e1) (rows_new id2 e2) o (subst (AtMost n) two_keys m)

  pub rows_values : (p : A → Bool) → every p (take r.count r.values) ≡ true → Values (λ v. p v ≡ true) (row_map r)
  rows_values p e = values_of p (take r.count r.ids) (take r.count r.values) e

  -- kept: ids that differ, within the limit and the array
  module _ (most : ℕ) (c : Counted most r.count r.ids) where
    pub rows_added_ok : (id : ℕ) (v : A) → Addable most r.count r.ids id → Counted most (added_row r id v).count (added_row r id v).ids
    rows_added_ok id v a =
        subst (λ (u : Rows A). Counted most u.count u.ids) (sym (added_is id v a.free)) (counted_added most r.count r.ids c id a)

    pub rows_removed_ok : (d : A) (i : ℕ) → Counted most (removed_row d r i).count (removed_row d r i).ids
    rows_removed_ok d i =
        split_le r.count i
        (λ h. subst (λ (u : Rows A). Counted most u.count u.ids) (sym (removed_none d i h)) c)
        (λ h. subst (λ (u : Rows A). Counted most u.count u.ids) (sym (removed_is d i c.in_array h)) (counted_removed most r.count r.ids c i h))

  -- kept: a test of every value in use
  module _ (p : A → Bool) (l : Level r) (e : every p (take r.count r.values) ≡ true) where
    pub rows_added_valid : (id : ℕ) (v : A) → p v ≡ true → every p (take (added_row r id v).count (added_row r id v).values) ≡ true
    rows_added_valid id v q =
        split_le (length r.ids) r.count
        (λ h. subst (λ (u : Rows A). every p (take u.count u.values) ≡ true) (sym (added_none id v h)) e)
        (λ h. subst (λ (u : Rows A). every p (take u.count u.values) ≡ true) (sym (added_is id v h)) (every_added p r.values r.count v (omega arith) e q))

    pub rows_removed_valid : (d : A) (i : ℕ) → r.count ≤ length r.ids → every p (take (removed_row d r i).count (removed_row d r i).values) ≡ true
    rows_removed_valid d i k =
        split_le r.count i
        (λ h. subst (λ (u : Rows A). every p (take u.count u.values) ≡ true) (sym (removed_none d i h)) e)
        (λ h. subst (λ (u : Rows A). every p (take u.count u.values) ≡ true) (sym (removed_is d i k h)) (every_removed p r.values r.count d i h (omega arith) e))

  -- kept: the arrays' lengths
  pub added_ids_long : (id : ℕ) (v : A) → length (added_row r id v).ids ≡ length r.ids
  unfolding added_row
  added_ids_long id v = go (ltb r.count (length r.ids))
    where
      go : (b : Bool)
          → length (cond {A = Rows A} b (record { ids = set r.ids r.count id; values = set r.values r.count v; count = r.count + 1 }) r).ids ≡ length r.ids
      go true = length-set r.ids r.count id
      go false = refl

  pub added_values_long : (id : ℕ) (v : A) → length (added_row r id v).values ≡ length r.values
  unfolding added_row
  added_values_long id v = go (ltb r.count (length r.ids))
    where
      go : (b : Bool)
          → length (cond {A = Rows A} b (record { ids = set r.ids r.count id; values = set r.values r.count v; count = r.count + 1 }) r).values ≡ length r.values
      go true = length-set r.values r.count v
      go false = refl

  pub removed_ids_long : (d : A) (i : ℕ) → length (removed_row d r i).ids ≡ length r.ids
  unfolding removed_row
  removed_ids_long d i = go (in_use r.count i r.ids)
    where
      go : (b : Bool)
          → length (cond {A = Rows A} b (record { ids = filled 0 r.count i r.ids; values = filled d r.count i r.values; count = r.count - 1 }) r).ids ≡ length r.ids
      go true = length-set r.ids i (get_or r.ids (r.count - 1) 0)
      go false = refl

  pub removed_values_long : (d : A) (i : ℕ) → length (removed_row d r i).values ≡ length r.values
  unfolding removed_row
  removed_values_long d i = go (in_use r.count i r.ids)
    where
      go : (b : Bool)
          → length (cond {A = Rows A} b (record { ids = filled 0 r.count i r.ids; values = filled d r.count i r.values; count = r.count - 1 }) r).values ≡ length r.values
      go true = length-set r.values i (get_or r.values (r.count - 1) d)
      go false = refl
