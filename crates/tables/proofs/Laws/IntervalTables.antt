-- A table of intervals: RowTables has its laws as a map; here are its sizes, the test of its intervals, and that it
-- holds the same_ids ids as a table of ids.
use Rattle.std.specs.Prelude.{ℕ, ◌<◌, true, ◌≡◌, refl, length, take, get_or}
use Rattle.std.proofs.Common.{sym, ◌∙◌, ap, subst, arith}
use Rattle.std.proofs.Math.Option.{none}
use Rattle.laws.specs.Maps.{Values, values_bind}
use Rattle.laws.specs.Sets.{Map, no_keys, bind, unbind, keys, map_of}
use Rattle.layout.specs.declared.Geometry.{Geometry}
use Rattle.interval.specs.declared.JournalInterval.{JournalInterval}
use Rattle.interval.specs.Interval.{interval, contiguous_journal_interval}
use Rattle.interval.specs.Facts.{ContiguousJournalInterval, contiguous_facts, facts_contiguous}
use Rattle.tables.specs.declared.IdTable.{IdTable}
use Rattle.tables.specs.declared.IntervalTable.{IntervalTable}
use Rattle.tables.specs.Rows.{place_of, Counted, has_room, same_ids}
use Rattle.tables.specs.IdTable.{id_set}
use Rattle.tables.specs.IntervalTable.{interval_rows, interval_map, no_intervals, SizedIntervals, valid_intervals, added_interval, removed_interval}
use Rattle.tables.proofs.Laws.Counts.{Addable, room_array}
use Rattle.tables.proofs.Laws.Places.{same_sets, sets_same}
use Rattle.tables.proofs.Laws.RowTables.{Level, rows_keys, rows_new, rows_addable, rows_second, rows_added, rows_removed, rows_left, rows_removed_values, rows_added_ok, rows_removed_ok, rows_values, values_rows, added_ids_long, added_values_long, removed_ids_long, removed_values_long}

-- the empty table
pub intervals_empty : interval_map no_intervals ≡ no_keys
unfolding map_of
intervals_empty = refl

pub sized_no_intervals : SizedIntervals no_intervals
sized_no_intervals = record { ids_long = refl; intervals_long = refl }

module _ (t : IntervalTable) where
  -- sizes, kept
  module _ (l : SizedIntervals t) where
    pub level_intervals : Level (interval_rows t)
    level_intervals = l.ids_long ∙ sym l.intervals_long

    pub sized_added_intervals : (id : ℕ) (v : JournalInterval) → SizedIntervals (added_interval t id v)
    unfolding added_interval
    sized_added_intervals id v =
        record { ids_long = added_ids_long (interval_rows t) id v ∙ l.ids_long; intervals_long = added_values_long (interval_rows t) id v ∙ l.intervals_long }

    pub sized_removed_intervals : (i : ℕ) → SizedIntervals (removed_interval t i)
    unfolding removed_interval
    sized_removed_intervals i =
        record {
          ids_long = removed_ids_long (interval_rows t) (interval 0 0) i ∙ l.ids_long;
          intervals_long = removed_values_long (interval_rows t) (interval 0 0) i ∙ l.intervals_long;
        }

    -- one more, with a new id
    module _ (id : ℕ) (v : JournalInterval) (h : t.count < length t.ids) (e : interval_map t id ≡ none) where
      pub intervals_added : interval_map (added_interval t id v) ≡ bind (interval_map t) id v
      unfolding added_interval
      intervals_added = rows_added (interval_rows t) level_intervals id v h e

      pub intervals_added_values : (P : JournalInterval → Type 0) → Values P (interval_map t) → P v → Values P (interval_map (added_interval t id v))
      intervals_added_values P f q = subst (Values P) (sym intervals_added) (values_bind P (interval_map t) id v f q)

    -- one less: at a place, and by its id
    module _ (most : ℕ) (c : Counted most t.count t.ids) where
      pub intervals_removed : (i : ℕ) → i < t.count → interval_map (removed_interval t i) ≡ unbind (interval_map t) (get_or t.ids i 0)
      unfolding removed_interval
      intervals_removed i h = rows_removed (interval_rows t) level_intervals most c (interval 0 0) i h

      pub intervals_left : (id : ℕ) → interval_map (removed_interval t (place_of id (take t.count t.ids))) ≡ unbind (interval_map t) id
      unfolding removed_interval
      intervals_left id = rows_left (interval_rows t) level_intervals most c (interval 0 0) id

      pub intervals_removed_values : (P : JournalInterval → Type 0) (i : ℕ) → Values P (interval_map t) → Values P (interval_map (removed_interval t i))
      unfolding removed_interval
      intervals_removed_values P i f = rows_removed_values (interval_rows t) level_intervals most c P (interval 0 0) i f

  -- `Counted` is kept
  module _ (most : ℕ) (c : Counted most t.count t.ids) where
    pub intervals_added_ok : (id : ℕ) (v : JournalInterval) → Addable most t.count t.ids id → Counted most (added_interval t id v).count (added_interval t id v).ids
    unfolding added_interval
    intervals_added_ok id v a = rows_added_ok (interval_rows t) most c id v a

    pub intervals_removed_ok : (i : ℕ) → Counted most (removed_interval t i).count (removed_interval t i).ids
    unfolding removed_interval
    intervals_removed_ok i = rows_removed_ok (interval_rows t) most c (interval 0 0) i

  -- every interval in use is contiguous exactly where every one of the map is
  module _ (g : Geometry) where
    pub valid_facts : valid_intervals g t ≡ true → Values (ContiguousJournalInterval g) (interval_map t)
    unfolding valid_intervals
    valid_facts e id v q = contiguous_facts g v (rows_values (interval_rows t) (contiguous_journal_interval g) e id v q)

    pub facts_valid : SizedIntervals t → (most : ℕ) → Counted most t.count t.ids → Values (ContiguousJournalInterval g) (interval_map t) → valid_intervals g t ≡ true
    unfolding valid_intervals
    facts_valid l most c f =
        values_rows (interval_rows t) (level_intervals l) most c (contiguous_journal_interval g) (λ id v q. facts_contiguous g v (f id v q))

  -- the same_ids ids as a table of ids
  module _ (l : SizedIntervals t) (a : IdTable) where
    pub same_facts : same_ids (take a.count a.ids) (take t.count t.ids) ≡ true → keys (interval_map t) ≡ id_set a
    same_facts e = rows_keys (interval_rows t) (level_intervals l) ∙ sym (same_sets (take a.count a.ids) (take t.count t.ids) e)

    pub facts_same : keys (interval_map t) ≡ id_set a → same_ids (take a.count a.ids) (take t.count t.ids) ≡ true
    facts_same e = sets_same (take a.count a.ids) (take t.count t.ids) (sym e ∙ rows_keys (interval_rows t) (level_intervals l))

-- two more, new and different, where there is room for two
module _ (t : IntervalTable) (l : SizedIntervals t) (most id1 id2 : ℕ) (v1 v2 : JournalInterval) (e : has_room most t.count 2 t.ids ≡ true) where
  pub intervals_second : interval_map t id2 ≡ none → (id2 ≡ id1 → ⊥) → Addable most (added_interval t id1 v1).count (added_interval t id1 v1).ids id2
  unfolding added_interval
  intervals_second n o = rows_second (interval_rows t) most id1 id2 v1 e (rows_new (interval_rows t) (level_intervals t l) id2 n) o

  pub intervals_added_two : interval_map t id1 ≡ none → interval_map t id2 ≡ none → (id2 ≡ id1 → ⊥)
      → interval_map (added_interval (added_interval t id1 v1) id2 v2) ≡ bind (bind (interval_map t) id1 v1) id2 v2
  intervals_added_two n1 n2 o =
      let a = intervals_second n2 o in
      let k = room_array most t.count t.ids 2 e in
      intervals_added (added_interval t id1 v1) (sized_added_intervals t l id1 v1) id2 v2 a.free (rows_addable (interval_rows (added_interval t id1 v1)) most id2 a)
      ∙ ap (λ (m : Map JournalInterval). bind m id2 v2) (intervals_added t l id1 v1 (omega arith) n1)
