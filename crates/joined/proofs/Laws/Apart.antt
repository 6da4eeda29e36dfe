-- The tests of the writes in flight, both ways, in the words of the map that their table makes.
use Rattle.std.specs.Prelude.{ℕ, true, false, ◌≡◌, refl, List, [], ◌∷◌, length, take}
use Rattle.std.proofs.Math.Bool.{not}
use Rattle.std.proofs.Common.{sym, ◌∙◌, arith}
use Rattle.std.proofs.Math.Path.{ap}
use Rattle.std.proofs.Math.Option.{some}
use Rattle.std.proofs.Math.ListN.{length-take}
use Rattle.laws.specs.Choice.{also_left, also_right, also_both, true_false, ruin, split_eq, not_so, not_true}
use Rattle.laws.specs.Maps.{Values, map_of_none, values_of, of_values}
use Rattle.laws.specs.Sets.{Map, map_of, Distinct, bind_here, bind_there, same_value, none_some}
use Rattle.layout.specs.declared.Geometry.{Geometry}
use Rattle.interval.specs.declared.JournalInterval.{JournalInterval}
use Rattle.interval.specs.Overlap.{journal_interval_overlap, journal_cyclic_interval_overlap}
use Rattle.interval.proofs.Meets.{plain_symmetric}
use Rattle.tables.specs.declared.IntervalTable.{IntervalTable}
use Rattle.tables.specs.Rows.{Counted}
use Rattle.tables.specs.IntervalTable.{interval_rows, interval_map, SizedIntervals}
use Rattle.tables.proofs.Laws.RowTables.{rows_values, values_rows}
use Rattle.tables.proofs.Laws.IntervalTables.{level_intervals}
use Rattle.joined.specs.Apart.{apart_from, apart, writes_apart, clear_of, rows_clear}

-- two that overlap are one
abbrev pub Apart : Map JournalInterval → Type 0
Apart m = (id1 id2 : ℕ) (v1 v2 : JournalInterval) → m id1 ≡ some v1 → m id2 ≡ some v2 → journal_interval_overlap v1 v2 ≡ true → id1 ≡ id2

apart_map : (ks : List ℕ) (vs : List JournalInterval) → apart vs ≡ true → Apart (map_of ks vs)
unfolding map_of apart
apart_map [] vs e id1 id2 v1 v2 p q o = none_some refl p
apart_map (k ∷ ks) [] e id1 id2 v1 v2 p q o = none_some refl p
apart_map (k ∷ ks) (v ∷ vs) e id1 id2 v1 v2 p q o =
    let first = also_left _ _ e in
    let rest = also_right _ _ e in
    let free = values_of (apart_from v) ks vs first in
    split_eq k id1
    (λ x.
    split_eq k id2
    (λ y. sym x ∙ y)
    (λ n.
    let a : v ≡ v1 = same_value (bind_here (map_of ks vs) k v) (ap (map_of (k ∷ ks) (v ∷ vs)) x ∙ p) in
    let b : map_of ks vs id2 ≡ some v2 = sym (bind_there (map_of ks vs) k id2 v n) ∙ q in
    true_false (sym o ∙ ap (λ (u : JournalInterval). journal_interval_overlap u v2) (sym a) ∙ not_true (journal_interval_overlap v v2) (free id2 v2 b))))
    (λ m.
    let c : map_of ks vs id1 ≡ some v1 = sym (bind_there (map_of ks vs) k id1 v m) ∙ p in
    split_eq k id2
    (λ y.
    let a : v ≡ v2 = same_value (bind_here (map_of ks vs) k v) (ap (map_of (k ∷ ks) (v ∷ vs)) y ∙ q) in
    true_false (sym o ∙ plain_symmetric v1 v2 ∙ ap (λ (u : JournalInterval). journal_interval_overlap u v1) (sym a) ∙ not_true (journal_interval_overlap v v1) (free id1 v1 c)))
    (λ n. apart_map ks vs rest id1 id2 v1 v2 c (sym (bind_there (map_of ks vs) k id2 v n) ∙ q) o))

map_apart : (ks : List ℕ) (vs : List JournalInterval) → length ks ≡ length vs → Distinct ks → Apart (map_of ks vs) → apart vs ≡ true
unfolding map_of apart Distinct
map_apart [] [] h d f = refl
map_apart [] (v ∷ vs) h d f = ruin (omega arith)
map_apart (k ∷ ks) [] h d f = ruin (omega arith)
map_apart (k ∷ ks) (v ∷ vs) h d f =
    also_both _ _
    (of_values (apart_from v) ks vs (omega arith) d.1
    (λ id w e.
    ap not (not_so (journal_interval_overlap v w) (λ o. other id w e (f k id v w (bind_here (map_of ks vs) k v) (behind id w e) o)))))
    (map_apart ks vs (omega arith) d.1
    (λ id1 id2 v1 v2 p q o. f id1 id2 v1 v2 (behind id1 v1 p) (behind id2 v2 q) o))
  where
    other : (id : ℕ) (w : JournalInterval) → map_of ks vs id ≡ some w → k ≡ id → ⊥
    other id w e q = none_some (map_of_none ks vs k d.0) (ap (map_of ks vs) q ∙ e)

    behind : (id : ℕ) (w : JournalInterval) → map_of ks vs id ≡ some w → map_of (k ∷ ks) (v ∷ vs) id ≡ some w
    behind id w e = bind_there (map_of ks vs) k id v (other id w e) ∙ e

module _ (t : IntervalTable) where
  pub apart_facts : writes_apart t ≡ true → Apart (interval_map t)
  unfolding writes_apart
  apart_facts e = apart_map (take t.count t.ids) (take t.count t.intervals) e

  -- none overlaps an interval
  module _ (g : Geometry) (v : JournalInterval) where
    pub clear_facts : rows_clear g v t ≡ true → Values (λ w. journal_cyclic_interval_overlap g w v ≡ false) (interval_map t)
    unfolding rows_clear
    clear_facts e id w q = not_true (journal_cyclic_interval_overlap g w v) (rows_values (interval_rows t) (clear_of g v) e id w q)

  module _ (l : SizedIntervals t) (most : ℕ) (c : Counted most t.count t.ids) where
    pub facts_apart : Apart (interval_map t) → writes_apart t ≡ true
    unfolding writes_apart
    facts_apart f =
        let a = l.ids_long in
        let b = l.intervals_long in
        let x = length-take t.count t.ids in
        let y = length-take t.count t.intervals in
        map_apart (take t.count t.ids) (take t.count t.intervals) (omega arith) c.differ f

    pub facts_clear : (g : Geometry) (v : JournalInterval) → Values (λ w. journal_cyclic_interval_overlap g w v ≡ false) (interval_map t) → rows_clear g v t ≡ true
    unfolding rows_clear
    facts_clear g v f = values_rows (interval_rows t) (level_intervals t l) most c (clear_of g v) (λ id w q. ap not (f id w q))
