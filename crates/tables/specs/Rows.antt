-- A table is an array of ids, alone or beside an array of values, with a count: the first `count` places are in use, and their order has
-- no meaning. What all tables share is here, over any array, limit and value.
use Rattle.std.specs.Prelude.{ℕ, suc, ◌+◌, ◌-◌, ◌≤◌, min, Bool, true, false, cond, not, List, [], ◌∷◌, leb, ltb, eqb, length, take, set, get_or}
use Rattle.laws.specs.Choice.{also, and_then, ask}
use Rattle.laws.specs.Fold.{every}
use Rattle.laws.specs.Sets.{Map, ids_of, map_of, Distinct}

-- the place of an id, or the length where it isn't there
unfoldable pub place_of : ℕ → List ℕ → ℕ
place_of id [] = 0
place_of id (k ∷ ks) = cond (eqb k id) 0 (suc (place_of id ks))

-- no id stands twice
unfoldable pub distinct : List ℕ → Bool
distinct [] = true
distinct (k ∷ ks) = cond (ids_of ks k) false (distinct ks)

-- each of the first is one of the second
unfoldable pub within : List ℕ → List ℕ → Bool
within xs ys = every (ids_of ys) xs

-- the same ids
unfoldable pub same_ids : List ℕ → List ℕ → Bool
same_ids xs ys = also (within xs ys) (within ys xs)

-- question 2 of a table: the count lies within the limit and within the array, and the ids in use differ
unfoldable pub counted : (most count : ℕ) → List ℕ → Bool
counted most count ids =
    also (also (leb count most) (leb count (length ids)))
    (distinct (take count ids))

-- the same as facts
pub record Counted (most count : ℕ) (ids : List ℕ) : Type 0 where
  pub few : count ≤ most
  pub in_array : count ≤ length ids
  pub differ : Distinct (take count ids)

-- so many more lie within the limit and within the array
unfoldable pub has_room : (most count more : ℕ) → List ℕ → Bool
has_room most count more ids = leb (count + more) (min most (length ids))

-- questions 5 and 8 of an id that has to be new
unfoldable pub ask_add : (most count : ℕ) → List ℕ → ℕ → ℕ
ask_add most count ids id =
    and_then (ask 5 (not (ids_of (take count ids) id)))
    (ask 8 (has_room most count 1 ids))

-- question 8 of an id that joins as in a set: only a new one needs room
unfoldable pub ask_join : (most count : ℕ) → List ℕ → ℕ → ℕ
ask_join most count ids id = cond (ids_of (take count ids) id) 0 (ask 8 (has_room most count 1 ids))

-- place i of an array that the count lies within is in use
unfoldable pub in_use : (count i : ℕ) → List ℕ → Bool
in_use count i ids = also (leb count (length ids)) (ltb i count)

-- the array after the last one in use took place i
abbrev pub filled : {A : Type 0} → A → (count i : ℕ) → List A → List A
filled d count i xs = set xs i (get_or xs (count - 1) d)

-- ids and values side by side
pub record Rows (A : Type 0) : Type 0 where
  pub ids : List ℕ
  pub values : List A
  pub count : ℕ

-- the map that they stand for
abbrev pub row_map : {A : Type 0} → Rows A → Map A
row_map r = map_of (take r.count r.ids) (take r.count r.values)

-- one more at the end; a full table stays as it is
unfoldable pub added_row : {A : Type 0} → Rows A → ℕ → A → Rows A
added_row r id v =
    cond (ltb r.count (length r.ids))
    (record { ids = set r.ids r.count id; values = set r.values r.count v; count = r.count + 1 })
    r

-- the last one takes place i; a place that isn't in use changes nothing
unfoldable pub removed_row : {A : Type 0} → A → Rows A → ℕ → Rows A
removed_row d r i =
    cond (in_use r.count i r.ids)
    (record { ids = filled 0 r.count i r.ids; values = filled d r.count i r.values; count = r.count - 1 })
    r
