-- The table of sync requests and its map, through any f that says what a state number stands for: one more, one less, states moved on; the
-- questions in the map's words; and that each change keeps `Counted`, states 1 to 3 and the arrays' lengths.
use Rattle.std.specs.Prelude.{ℕ, ◌≤◌, ◌<◌, Bool, true, false, cond, ◌≡◌, refl, eqb, length, take}
use Rattle.std.proofs.Common.{sym, ◌∙◌, subst, arith}
use Rattle.std.proofs.Math.Path.{ap}
use mathlib.Core.List.{List, [], ◌∷◌, map}
use Rattle.std.proofs.Math.Option
use Rattle.std.proofs.Math.Option.{Option, none, some}
use Rattle.std.proofs.Math.ListN.{length-map}
use Rattle.laws.specs.Choice.{also_left, also_right, also_both, ruin}
use Rattle.laws.specs.Fold.{every}
use Rattle.laws.specs.Maps.{keys_bind, keys_each, each_bind, each_unbind, each_through, each_map, each_none, each_some}
use Rattle.laws.specs.Part.{map_take}
use Rattle.laws.specs.Sets.{Ids, join, no_keys, bind, unbind, each, keys, ids_of, map_of, AtMost}
use Rattle.tables.specs.declared.SyncTable.{SyncTable}
use Rattle.tables.specs.Rows.{place_of, Counted, ask_add}
use Rattle.tables.specs.SyncTable.{sync_rows, state_map, sync_map, no_syncs, SizedSyncs, ok_state, valid_states, or_zero, added_sync, removed_sync, moved, moved_syncs}
use Rattle.tables.proofs.Laws.Counts.{Addable, add_few, few_add, count_few, few_count}
use Rattle.tables.proofs.Laws.RowTables.{Level, rows_keys, rows_added, rows_left, rows_new, rows_values, rows_added_ok, rows_removed_ok, rows_added_valid, rows_removed_valid, added_ids_long, added_values_long, removed_ids_long, removed_values_long}

-- the empty table
pub states_empty : state_map no_syncs ≡ no_keys
unfolding map_of
states_empty = refl

pub sized_no_syncs : SizedSyncs no_syncs
sized_no_syncs = record { ids_long = refl; states_long = refl }

-- the answer for an id: a state that is told is the map's
pub told_state : (o : Option ℕ) (s : ℕ) → or_zero o ≡ s → 1 ≤ s → o ≡ some s
told_state none s e h = ruin (omega arith)
told_state (some n) s e h = ap some e

-- a state that goes on to one of the three is one of the three
pub moved_ok : (from to n : ℕ) → ok_state to ≡ true → ok_state n ≡ true → ok_state (moved from to n) ≡ true
unfolding moved
moved_ok from to n p q = go (eqb n from)
  where
    go : (b : Bool) → ok_state (cond b to n) ≡ true
    go true = p
    go false = q

every_moved : (from to : ℕ) (xs : List ℕ) → ok_state to ≡ true → every ok_state xs ≡ true → every ok_state (map (moved from to) xs) ≡ true
unfolding every
every_moved from to [] p e = refl
every_moved from to (x ∷ xs) p e =
    also_both (ok_state (moved from to x)) (every ok_state (map (moved from to) xs))
    (moved_ok from to x p (also_left (ok_state x) (every ok_state xs) e))
    (every_moved from to xs p (also_right (ok_state x) (every ok_state xs) e))

module _ (t : SyncTable) where
  -- sizes, kept
  module _ (l : SizedSyncs t) where
    pub level_syncs : Level (sync_rows t)
    level_syncs = l.ids_long ∙ sym l.states_long

    pub sized_added_syncs : (id s : ℕ) → SizedSyncs (added_sync t id s)
    unfolding added_sync
    sized_added_syncs id s =
        record { ids_long = added_ids_long (sync_rows t) id s ∙ l.ids_long; states_long = added_values_long (sync_rows t) id s ∙ l.states_long }

    pub sized_removed_syncs : (i : ℕ) → SizedSyncs (removed_sync t i)
    unfolding removed_sync
    sized_removed_syncs i =
        record { ids_long = removed_ids_long (sync_rows t) 0 i ∙ l.ids_long; states_long = removed_values_long (sync_rows t) 0 i ∙ l.states_long }

    pub sized_moved_syncs : (from to : ℕ) → SizedSyncs (moved_syncs from to t)
    unfolding moved_syncs
    sized_moved_syncs from to = record { ids_long = l.ids_long; states_long = length-map t.states (moved from to) ∙ l.states_long }

    -- states 1 to 3, kept
    pub syncs_added_valid : (id s : ℕ) → valid_states t ≡ true → ok_state s ≡ true → valid_states (added_sync t id s) ≡ true
    unfolding added_sync valid_states
    syncs_added_valid id s e h = rows_added_valid (sync_rows t) ok_state level_syncs e id s h

    pub syncs_removed_valid : (most i : ℕ) → Counted most t.count t.ids → valid_states t ≡ true → valid_states (removed_sync t i) ≡ true
    unfolding removed_sync valid_states
    syncs_removed_valid most i c e = rows_removed_valid (sync_rows t) ok_state level_syncs e 0 i c.in_array

  pub syncs_moved_valid : (from to : ℕ) → ok_state to ≡ true → valid_states t ≡ true → valid_states (moved_syncs from to t) ≡ true
  unfolding moved_syncs valid_states
  syncs_moved_valid from to p e = ap (every ok_state) (sym (map_take (moved from to) t.count t.states)) ∙ every_moved from to (take t.count t.states) p e

  -- `Counted` is kept; moved states leave ids and count
  module _ (most : ℕ) (c : Counted most t.count t.ids) where
    pub syncs_added_ok : (id s : ℕ) → Addable most t.count t.ids id → Counted most (added_sync t id s).count (added_sync t id s).ids
    unfolding added_sync
    syncs_added_ok id s a = rows_added_ok (sync_rows t) most c id s a

    pub syncs_removed_ok : (i : ℕ) → Counted most (removed_sync t i).count (removed_sync t i).ids
    unfolding removed_sync
    syncs_removed_ok i = rows_removed_ok (sync_rows t) most c 0 i

    pub syncs_moved_ok : (from to : ℕ) → Counted most (moved_syncs from to t).count (moved_syncs from to t).ids
    unfolding moved_syncs
    syncs_moved_ok from to = c

  module _ {A : Type 0} (f : ℕ → A) where
    -- states moved on: where the move, seen through f, is φ
    pub syncs_moved : (from to : ℕ) (φ : A → A) → ((n : ℕ) → f (moved from to n) ≡ φ (f n)) → sync_map f (moved_syncs from to t) ≡ each φ (sync_map f t)
    unfolding moved_syncs
    syncs_moved from to φ h =
        ap (λ (ss : List ℕ). each f (map_of (take t.count t.ids) ss)) (sym (map_take (moved from to) t.count t.states))
        ∙ ap (each f) (each_map (moved from to) (take t.count t.ids) (take t.count t.states))
        ∙ each_through f (moved from to) φ h (state_map t)

    -- a state in the source's words is the number that is told for the id
    pub known_state : (id : ℕ) (a : A) (k : ℕ) → valid_states t ≡ true → ((n : ℕ) → ok_state n ≡ true → f n ≡ a → n ≡ k) → sync_map f t id ≡ some a → or_zero (state_map t id) ≡ k
    unfolding valid_states
    known_state id a k v u e =
        let w = each_some f (state_map t) id a e in
        ap or_zero w.1 ∙ u w.0 (rows_values (sync_rows t) ok_state v id w.0 w.1) w.2

    pub state_known : (id k : ℕ) → 1 ≤ k → or_zero (state_map t id) ≡ k → sync_map f t id ≡ some (f k)
    state_known id k h e = ap (Option.map f) (told_state (state_map t id) k e h)

    module _ (l : SizedSyncs t) where
      pub syncs_keys : keys (sync_map f t) ≡ ids_of (take t.count t.ids)
      syncs_keys = keys_each f (state_map t) ∙ rows_keys (sync_rows t) (level_syncs l)

      pub syncs_new : (id : ℕ) → sync_map f t id ≡ none → ids_of (take t.count t.ids) id ≡ false
      syncs_new id e = rows_new (sync_rows t) (level_syncs l) id (each_none f (state_map t) id e)

      -- one more, and one less
      pub syncs_added : (id s : ℕ) → t.count < length t.ids → sync_map f t id ≡ none → sync_map f (added_sync t id s) ≡ bind (sync_map f t) id (f s)
      unfolding added_sync
      syncs_added id s h e =
          ap (each f) (rows_added (sync_rows t) (level_syncs l) id s h (each_none f (state_map t) id e)) ∙ each_bind f (state_map t) id s

      module _ (most : ℕ) (c : Counted most t.count t.ids) where
        pub syncs_left : (id : ℕ) → sync_map f (removed_sync t (place_of id (take t.count t.ids))) ≡ unbind (sync_map f t) id
        unfolding removed_sync
        syncs_left id = ap (each f) (rows_left (sync_rows t) (level_syncs l) most c 0 id) ∙ each_unbind f (state_map t) id

        -- the count against a bound on the keys
        pub syncs_few : (n : ℕ) → t.count ≤ n → AtMost n (keys (sync_map f t))
        syncs_few n h = subst (AtMost n) (sym syncs_keys) (count_few most t.count t.ids c n h)

        pub few_syncs : (n : ℕ) → AtMost n (keys (sync_map f t)) → t.count ≤ n
        few_syncs n m = few_count most t.count t.ids c n (subst (AtMost n) syncs_keys m)

        -- questions 5 and 8 in the map's words
        bound_keys : (id : ℕ) (a : A) → keys (bind (sync_map f t) id a) ≡ join (ids_of (take t.count t.ids)) id
        bound_keys id a = keys_bind (sync_map f t) id a ∙ ap (λ (s : Ids). join s id) syncs_keys

        pub syncs_add_few : (n id : ℕ) (a : A) → ask_add n t.count t.ids id ≡ 0 → AtMost n (keys (bind (sync_map f t) id a))
        syncs_add_few n id a e = subst (AtMost n) (sym (bound_keys id a)) (add_few most t.count t.ids c n id e)

        pub few_syncs_add : (n id : ℕ) (a : A) → n ≤ length t.ids → sync_map f t id ≡ none → AtMost n (keys (bind (sync_map f t) id a)) → ask_add n t.count t.ids id ≡ 0
        few_syncs_add n id a h e m = few_add most t.count t.ids c n id h (syncs_new id e) (subst (AtMost n) (bound_keys id a) m)
