-- Which blocks the rows of a table cover: a row's facts, one row more, and that a block is covered exactly where it lies in some row in use.
use Prim.Native.Nat.{ℕ, zero, suc, ◌+◌, ◌*◌, ◌/◌, ◌≤◌, ◌<◌}
use Rattle.std.specs.Prelude.{Bool, ◌≡◌, leb, ltb, length, take, get_or}
use Rattle.std.proofs.Math.Bool.{true, false}
use Rattle.std.proofs.Math.Path.{refl, ap}
use Rattle.std.proofs.Common.{sym, ◌∙◌, get_or-take}
use mathlib.Core.List.{List, [], ◌∷◌, ◌++◌}
use Rattle.std.proofs.Math.Logic.{⊎_elim}
use native.Mathlib.Omega.{arith}
use borrow.Author.Tests.{leb-true, ltb-true, le-leb, lt-ltb}
use Rattle.std.proofs.Math.ListN.{length-take}
use Rattle.laws.specs.Choice.{also_left, also_right, also_both, either, either_left, either_right, either_cases, same_test, false_true}
use Rattle.laws.specs.Part.{take_step}
use Rattle.interval.specs.declared.JournalInterval.{JournalInterval}
use Rattle.tables.specs.declared.IntervalTable.{IntervalTable}
use Rattle.crash.specs.Picture.{in_row, in_rows, covered}
use Rattle.crash.specs.Laws.Picked.{in_run}

module _ (v : JournalInterval) (p : ℕ) where
  pub row_facts : in_row v p ≡ true → (v.start ≤ p) × (p < v.start + v.len)
  unfolding in_row
  row_facts e = (
    leb-true v.start p (also_left (leb v.start p) (ltb p (v.start + v.len)) e),
    ltb-true p (v.start + v.len) (also_right (leb v.start p) (ltb p (v.start + v.len)) e),
  )

  pub facts_row : v.start ≤ p → p < v.start + v.len → in_row v p ≡ true
  unfolding in_row
  facts_row h k = also_both (leb v.start p) (ltb p (v.start + v.len)) (le-leb v.start p h) (lt-ltb p (v.start + v.len) k)

  -- as a run of places, and as a run of bytes
  pub row_run : in_row v p ≡ in_run v.start v.len p
  unfolding in_row
  row_run = refl

  pub row_bytes : in_row v (p / 4096) ≡ in_run (v.start * 4096) (v.len * 4096) p
  unfolding in_row
  row_bytes =
      same_test (in_row v (p / 4096)) (in_run (v.start * 4096) (v.len * 4096) p)
      (λ e.
      let h = leb-true v.start (p / 4096) (also_left (leb v.start (p / 4096)) (ltb (p / 4096) (v.start + v.len)) e) in
      let k = ltb-true (p / 4096) (v.start + v.len) (also_right (leb v.start (p / 4096)) (ltb (p / 4096) (v.start + v.len)) e) in
      also_both (leb (v.start * 4096) p) (ltb p (v.start * 4096 + v.len * 4096))
      (le-leb (v.start * 4096) p (omega arith)) (lt-ltb p (v.start * 4096 + v.len * 4096) (omega arith)))
      (λ e.
      let h = leb-true (v.start * 4096) p (also_left (leb (v.start * 4096) p) (ltb p (v.start * 4096 + v.len * 4096)) e) in
      let k = ltb-true p (v.start * 4096 + v.len * 4096) (also_right (leb (v.start * 4096) p) (ltb p (v.start * 4096 + v.len * 4096)) e) in
      also_both (leb v.start (p / 4096)) (ltb (p / 4096) (v.start + v.len))
      (le-leb v.start (p / 4096) (omega arith)) (lt-ltb (p / 4096) (v.start + v.len) (omega arith)))

module _ (p : ℕ) where
  -- no row, and one row more
  pub rows_none : (vs : List JournalInterval) → in_rows (take 0 vs) p ≡ false
  unfolding in_rows
  rows_none vs = refl

  either_swap : (a b c : Bool) → either a (either b c) ≡ either b (either a c)
  unfolding either
  either_swap true true c = refl
  either_swap true false c = refl
  either_swap false true c = refl
  either_swap false false c = refl

  rows_last : (vs : List JournalInterval) (v : JournalInterval) → in_rows (vs ++ (v ∷ [])) p ≡ either (in_row v p) (in_rows vs p)
  unfolding in_rows
  rows_last [] v = refl
  rows_last (u ∷ vs) v = ap (either (in_row u p)) (rows_last vs v) ∙ either_swap (in_row u p) (in_row v p) (in_rows vs p)

  pub rows_step : (vs : List JournalInterval) (i : ℕ) (d : JournalInterval) → i < length vs → in_rows (take (i + 1) vs) p ≡ either (in_row (get_or vs i d) p) (in_rows (take i vs) p)
  rows_step vs i d h = ap (λ (us : List JournalInterval). in_rows us p) (take_step vs i d h) ∙ rows_last (take i vs) (get_or vs i d)

  -- a block of some row, and back
  rows_in : (vs : List JournalInterval) (k : ℕ) (d : JournalInterval) → k < length vs → in_row (get_or vs k d) p ≡ true → in_rows vs p ≡ true
  unfolding in_rows
  rows_in [] k d h e = absurd (omega arith)
  rows_in (v ∷ vs) zero d h e = either_left (in_row v p) (in_rows vs p) e
  rows_in (v ∷ vs) (suc k) d h e = either_right (in_row v p) (in_rows vs p) (rows_in vs k d (omega arith) e)

  rows_some : (vs : List JournalInterval) (d : JournalInterval) → in_rows vs p ≡ true → (k : ℕ) × (k < length vs) × (in_row (get_or vs k d) p ≡ true)
  unfolding in_rows
  rows_some [] d e = false_true e
  rows_some (v ∷ vs) d e =
      ⊎_elim
      (λ h. (0, omega arith, h))
      (λ h. let r = rows_some vs d h in (suc r.0, (let l = r.1 in omega arith), r.2))
      (either_cases (in_row v p) (in_rows vs p) e)

  module _ (t : IntervalTable) (d : JournalInterval) where
    pub covered_in : (k : ℕ) → k < t.count → k < length t.intervals → in_row (get_or t.intervals k d) p ≡ true → covered t p ≡ true
    unfolding covered
    covered_in k h l e =
        rows_in (take t.count t.intervals) k d (omega (arith, h, l, length-take t.count t.intervals))
        (ap (λ (v : JournalInterval). in_row v p) (get_or-take t.count t.intervals k d h) ∙ e)

    pub covered_some : covered t p ≡ true → (k : ℕ) × (k < t.count) × (in_row (get_or t.intervals k d) p ≡ true)
    unfolding covered
    covered_some e =
        let r = rows_some (take t.count t.intervals) d e in
        let h : r.0 < t.count = omega (arith, r.1, length-take t.count t.intervals) in
        (r.0, h, ap (λ (v : JournalInterval). in_row v p) (sym (get_or-take t.count t.intervals r.0 d h)) ∙ r.2)
