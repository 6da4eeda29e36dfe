-- The predicates of source 002 as facts, and a law each way between them and the tests.
use Rattle.std.specs.Prelude.{ℕ, ◌+◌, ◌≤◌, ◌<◌, true, ◌≡◌, ◌⊎◌}
use Rattle.std.proofs.Math.Logic.{inl, inr, ⊎_elim}
use Rattle.std.proofs.Common.{arith}
use borrow.Author.Tests.{leb-true, le-leb, ltb-true, lt-ltb}
use Rattle.laws.specs.Choice.{also_left, also_right, also_both, either_left, either_right, either_cases, ask_yes, and_then_left, and_then_right}
use Rattle.layout.specs.declared.Geometry.{Geometry}
use Rattle.layout.specs.Geometry.{ValidGeometry, geometry_asked}
use Rattle.interval.specs.declared.JournalInterval.{JournalInterval}
use Rattle.interval.specs.Interval.{valid_journal_interval, contiguous_journal_interval, in_cyclic_range, ask_interval, ask_intervals, ask_in_row, ask_block}

pub record ValidJournalInterval (g : Geometry) (v : JournalInterval) : Type 0 where
  pub start_in : v.start < g.blocks
  pub len_in : v.len ≤ g.blocks

pub record ContiguousJournalInterval (g : Geometry) (v : JournalInterval) : Type 0 where
  pub valid : ValidJournalInterval g v
  pub end_in : v.start + v.len ≤ g.blocks

abbrev pub InCyclicRange : Geometry → ℕ → JournalInterval → Type 0
InCyclicRange g i v =
    ((v.start ≤ i) × (i < v.start + v.len))
    ⊎ ((v.start ≤ i + g.blocks) × (i + g.blocks < v.start + v.len))

module _ (g : Geometry) (v : JournalInterval) where
  pub interval_facts : valid_journal_interval g v ≡ true → ValidJournalInterval g v
  unfolding valid_journal_interval
  interval_facts e =
      record { start_in = ltb-true v.start g.blocks (also_left _ _ e); len_in = leb-true v.len g.blocks (also_right _ _ e) }

  pub facts_interval : ValidJournalInterval g v → valid_journal_interval g v ≡ true
  unfolding valid_journal_interval
  facts_interval f = also_both _ _ (lt-ltb v.start g.blocks f.start_in) (le-leb v.len g.blocks f.len_in)

  pub contiguous_facts : contiguous_journal_interval g v ≡ true → ContiguousJournalInterval g v
  unfolding contiguous_journal_interval
  contiguous_facts e =
      record { valid = interval_facts (also_left _ _ e); end_in = leb-true (v.start + v.len) g.blocks (also_right _ _ e) }

  pub facts_contiguous : ContiguousJournalInterval g v → contiguous_journal_interval g v ≡ true
  unfolding contiguous_journal_interval
  facts_contiguous f = also_both _ _ (facts_interval f.valid) (le-leb (v.start + v.len) g.blocks f.end_in)

  pub range_facts : (i : ℕ) → in_cyclic_range g i v ≡ true → InCyclicRange g i v
  unfolding in_cyclic_range
  range_facts i e =
      ⊎_elim
      (λ h. inl (leb-true v.start i (also_left _ _ h), ltb-true i (v.start + v.len) (also_right _ _ h)))
      (λ h. inr (leb-true v.start (i + g.blocks) (also_left _ _ h), ltb-true (i + g.blocks) (v.start + v.len) (also_right _ _ h)))
      (either_cases _ _ e)

  pub facts_range : (i : ℕ) → InCyclicRange g i v → in_cyclic_range g i v ≡ true
  unfolding in_cyclic_range
  facts_range i f =
      ⊎_elim
      (λ h. either_left _ _ (also_both _ _ (le-leb v.start i h.0) (lt-ltb i (v.start + v.len) h.1)))
      (λ h. either_right _ _ (also_both _ _ (le-leb v.start (i + g.blocks) h.0) (lt-ltb (i + g.blocks) (v.start + v.len) h.1)))
      f

-- what a yes to questions 1 and 4 tells
pub record Asked (g : Geometry) (v : JournalInterval) : Type 0 where
  pub geometry : ValidGeometry g
  pub valid : ValidJournalInterval g v

pub interval_asked : (g : Geometry) (v : JournalInterval) → ask_interval g v ≡ 0 → Asked g v
unfolding ask_interval
interval_asked g v e =
    record {
      geometry = geometry_asked g (and_then_left _ _ e);
      valid = interval_facts g v (ask_yes 4 _ (omega arith) (and_then_right _ _ e));
    }

pub record AskedBoth (g : Geometry) (a b : JournalInterval) : Type 0 where
  pub geometry : ValidGeometry g
  pub first : ValidJournalInterval g a
  pub second : ValidJournalInterval g b

pub intervals_asked : (g : Geometry) (a b : JournalInterval) → ask_intervals g a b ≡ 0 → AskedBoth g a b
unfolding ask_intervals
intervals_asked g a b e =
    let v = interval_asked g a (and_then_left _ _ e) in
    record {
      geometry = v.geometry;
      first = v.valid;
      second = interval_facts g b (ask_yes 4 _ (omega arith) (and_then_right _ _ e));
    }

pub in_row_asked : (g : Geometry) (a b : JournalInterval) → ask_in_row g a b ≡ 0 → AskedBoth g a b
unfolding ask_in_row
in_row_asked g a b e = intervals_asked g a b (and_then_left _ _ e)

pub record AskedBlock (g : Geometry) (i : ℕ) (v : JournalInterval) : Type 0 where
  pub geometry : ValidGeometry g
  pub valid : ValidJournalInterval g v
  pub block_in : i < g.blocks

pub block_asked : (g : Geometry) (i : ℕ) (v : JournalInterval) → ask_block g i v ≡ 0 → AskedBlock g i v
unfolding ask_block
block_asked g i v e =
    let u = interval_asked g v (and_then_left _ _ e) in
    record {
      geometry = u.geometry;
      valid = u.valid;
      block_in = ltb-true i g.blocks (ask_yes 4 _ (omega arith) (and_then_right _ _ e));
    }
