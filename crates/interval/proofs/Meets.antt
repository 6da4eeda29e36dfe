-- Laws of overlap, for every N: what question 2 and the histories rely on. Overlap is symmetric, and two intervals overlap exactly where they share
-- a block; so an empty one overlaps nothing. Where neither is empty it is the source's overlap, and what overlaps here overlaps there.
use Rattle.std.specs.Prelude.{ℕ, ◌+◌, ◌-◌, ◌≤◌, ◌<◌, max, Bool, false, cond, ◌≡◌, refl, ◌⊎◌, ◌↔◌, ltb}
use Rattle.std.proofs.Math.Bool.{true}
use Rattle.std.proofs.Common.{sym, ◌∙◌, inr, ⊎_elim, arith, lt-ltb, ltb-true}
use Rattle.std.proofs.Math.Logic.{inl}
use Rattle.laws.specs.Choice.{also, also_left, also_right, also_both, also_comm, either_left, either_right, either_cases, by_ltb, true_false, not_so}
use Rattle.layout.specs.declared.Geometry.{Geometry}
use Rattle.interval.specs.declared.JournalInterval.{JournalInterval}
use Rattle.interval.specs.Interval.{interval}
use Rattle.interval.specs.Facts.{ValidJournalInterval, ContiguousJournalInterval}
use Rattle.interval.specs.Overlap.{source_interval_overlap, up_to_end, from_zero, source_overlap_parts, source_cyclic_interval_overlap, neither_empty, journal_interval_overlap, journal_cyclic_interval_overlap}
use Rattle.interval.proofs.Update.{Shares}

shares_symmetric : (g : Geometry) (a b : JournalInterval) → Shares g a b → Shares g b a
shares_symmetric g a b s = record { block = s.block; block_in = s.block_in; first = s.second; second = s.first }

-- The source's overlap: symmetric; implied by a block that is shared; implies one where neither interval is empty

source_plain_symmetric : (a b : JournalInterval) → source_interval_overlap a b ≡ source_interval_overlap b a
unfolding source_interval_overlap
source_plain_symmetric a b = also_comm (ltb b.start (a.start + a.len)) (ltb a.start (b.start + b.len))

swap : (x y p q r r' : Bool) → r ≡ r' → cond x (cond y true p) (cond y q r) ≡ cond y (cond x true q) (cond x p r')
swap true true p q r r' e = refl
swap true false p q r r' e = refl
swap false true p q r r' e = refl
swap false false p q r r' e = e

source_symmetric : (g : Geometry) (a b : JournalInterval) → source_cyclic_interval_overlap g a b ≡ source_cyclic_interval_overlap g b a
unfolding source_cyclic_interval_overlap
source_symmetric g a b =
    swap (ltb g.blocks (a.start + a.len)) (ltb g.blocks (b.start + b.len)) (source_overlap_parts g a b) (source_overlap_parts g b a)
    (source_interval_overlap a b) (source_interval_overlap b a) (source_plain_symmetric a b)

-- the plain test and its two facts
source_yes : (a b : JournalInterval) → b.start < a.start + a.len → a.start < b.start + b.len → source_interval_overlap a b ≡ true
unfolding source_interval_overlap
source_yes a b h k = also_both _ _ (lt-ltb b.start (a.start + a.len) h) (lt-ltb a.start (b.start + b.len) k)

source_facts : (a b : JournalInterval) → source_interval_overlap a b ≡ true → (b.start < a.start + a.len) × (a.start < b.start + b.len)
unfolding source_interval_overlap
source_facts a b e = (ltb-true b.start (a.start + a.len) (also_left _ _ e), ltb-true a.start (b.start + b.len) (also_right _ _ e))

-- one interval passes the end and the other does not: a shared block is in one of the parts, and the other way round
parts_yes : (g : Geometry) (a b : JournalInterval) → ValidJournalInterval g a → ValidJournalInterval g b → g.blocks < a.start + a.len
    → b.start + b.len ≤ g.blocks → Shares g a b → source_overlap_parts g a b ≡ true
unfolding source_overlap_parts
parts_yes g a b fa fb h k s =
    ⊎_elim
    (λ p.
    ⊎_elim
    (λ q. either_left _ _ (source_yes (up_to_end g a) b (omega arith) (omega arith)))
    (λ q. either_left _ _ (source_yes (up_to_end g a) b (omega arith) (omega arith)))
    s.second)
    (λ p.
    ⊎_elim
    (λ q. either_right _ _ (source_yes (from_zero g a) b (omega arith) (omega arith)))
    (λ q. either_right _ _ (source_yes (from_zero g a) b (omega arith) (omega arith)))
    s.second)
    s.first

parts_share : (g : Geometry) (a b : JournalInterval) → ValidJournalInterval g a → ValidJournalInterval g b → 0 < b.len → g.blocks < a.start + a.len
    → b.start + b.len ≤ g.blocks → source_overlap_parts g a b ≡ true → Shares g a b
unfolding source_overlap_parts
parts_share g a b fa fb n h k e =
    ⊎_elim
    (λ m.
    let f = source_facts (up_to_end g a) b m in
    record { block = max a.start b.start; block_in = omega arith; first = inl (omega arith); second = inl (omega arith) })
    (λ m.
    let f = source_facts (from_zero g a) b m in
    record { block = b.start; block_in = omega arith; first = inr (omega arith); second = inl (omega arith) })
    (either_cases _ _ e)

-- two contiguous intervals
row_yes : (g : Geometry) (a b : JournalInterval) → ValidJournalInterval g a → ValidJournalInterval g b → a.start + a.len ≤ g.blocks → b.start + b.len ≤ g.blocks → Shares g a b
    → source_interval_overlap a b ≡ true
row_yes g a b fa fb h k s = ⊎_elim (λ p. ⊎_elim (λ q. source_yes a b (omega arith) (omega arith)) (λ q. absurd (omega arith)) s.second) (λ p. absurd (omega arith)) s.first

row_share : (g : Geometry) (a b : JournalInterval) → ValidJournalInterval g a → ValidJournalInterval g b → 0 < a.len → 0 < b.len → a.start + a.len ≤ g.blocks → source_interval_overlap a b ≡ true
    → Shares g a b
row_share g a b fa fb ha hb h e =
    let f = source_facts a b e in
    record { block = max a.start b.start; block_in = omega arith; first = inl (omega arith); second = inl (omega arith) }

module _ (g : Geometry) (a b : JournalInterval) (fa : ValidJournalInterval g a) (fb : ValidJournalInterval g b) where
  source_shares_overlap : Shares g a b → source_cyclic_interval_overlap g a b ≡ true
  unfolding source_cyclic_interval_overlap
  source_shares_overlap s =
      by_ltb (λ (t : Bool). t ≡ true) g.blocks (a.start + a.len) _ _
      (λ h. by_ltb (λ (t : Bool). t ≡ true) g.blocks (b.start + b.len) true (source_overlap_parts g a b) (λ k. refl) (λ k. parts_yes g a b fa fb h k s))
      (λ h.
      by_ltb (λ (t : Bool). t ≡ true) g.blocks (b.start + b.len) (source_overlap_parts g b a) (source_interval_overlap a b)
      (λ k. parts_yes g b a fb fa k h (shares_symmetric g a b s))
      (λ k. row_yes g a b fa fb h k s))

  source_overlap_shares : 0 < a.len → 0 < b.len → source_cyclic_interval_overlap g a b ≡ true → Shares g a b
  unfolding source_cyclic_interval_overlap
  source_overlap_shares ha hb =
      by_ltb (λ (t : Bool). t ≡ true → Shares g a b) g.blocks (a.start + a.len) _ _
      (λ h.
      by_ltb (λ (t : Bool). t ≡ true → Shares g a b) g.blocks (b.start + b.len) true (source_overlap_parts g a b)
      (λ k e. record { block = g.blocks - 1; block_in = omega arith; first = inl (omega arith); second = inl (omega arith) })
      (λ k e. parts_share g a b fa fb hb h k e))
      (λ h.
      by_ltb (λ (t : Bool). t ≡ true → Shares g a b) g.blocks (b.start + b.len) (source_overlap_parts g b a) (source_interval_overlap a b)
      (λ k e. shares_symmetric g b a (parts_share g b a fb fa ha k h e))
      (λ k e. row_share g a b fa fb ha hb h e))

-- an empty interval does not overlap a contiguous one in the source where it is not strictly inside of it
pub source_empty_clear : (g : Geometry) (a : JournalInterval) (start : ℕ) → ContiguousJournalInterval g a → start < g.blocks → (a.start < start → start < a.start + a.len → ⊥)
    → source_cyclic_interval_overlap g a (interval start 0) ≡ false
unfolding source_cyclic_interval_overlap
source_empty_clear g a start fa h f =
    not_so (source_cyclic_interval_overlap g a (interval start 0))
    (by_ltb (λ (t : Bool). t ≡ true → ⊥) g.blocks (a.start + a.len) _ _
    (λ l e. omega arith)
    (λ l.
    by_ltb (λ (t : Bool). t ≡ true → ⊥) g.blocks (start + 0) _ _
    (λ m e. omega arith)
    (λ m e. let p = source_facts a (interval start 0) e in f (omega arith) (omega arith))))

-- The overlap that holds here, against the source's: what overlaps here overlaps there, and neither is empty

pub plain_source : (a b : JournalInterval) → journal_interval_overlap a b ≡ true → (0 < a.len) × (0 < b.len) × (source_interval_overlap a b ≡ true)
unfolding journal_interval_overlap
plain_source a b e = let n = also_left _ _ e in (ltb-true 0 a.len (also_left _ _ n), ltb-true 0 b.len (also_right _ _ n), also_right _ _ e)

pub cyclic_source : (g : Geometry) (a b : JournalInterval) → journal_cyclic_interval_overlap g a b ≡ true → (0 < a.len) × (0 < b.len) × (source_cyclic_interval_overlap g a b ≡ true)
unfolding journal_cyclic_interval_overlap
cyclic_source g a b e = let n = also_left _ _ e in (ltb-true 0 a.len (also_left _ _ n), ltb-true 0 b.len (also_right _ _ n), also_right _ _ e)

-- each begins before the other's end
pub meets_facts : (a b : JournalInterval) → journal_interval_overlap a b ≡ true → (b.start < a.start + a.len) × (a.start < b.start + b.len)
meets_facts a b e = source_facts a b (plain_source a b e).2

-- where neither is empty, the two are one
neither : (a b : JournalInterval) → 0 < a.len → 0 < b.len → neither_empty a b ≡ true
neither a b ha hb = also_both _ _ (lt-ltb 0 a.len ha) (lt-ltb 0 b.len hb)

guarded : (n x : Bool) → n ≡ true → also n x ≡ x
unfolding also
guarded true x e = refl
guarded false x e = absurd (true_false (sym e))

pub plain_same : (a b : JournalInterval) → 0 < a.len → 0 < b.len → journal_interval_overlap a b ≡ source_interval_overlap a b
unfolding journal_interval_overlap
plain_same a b ha hb = guarded (neither_empty a b) (source_interval_overlap a b) (neither a b ha hb)

pub cyclic_same : (g : Geometry) (a b : JournalInterval) → 0 < a.len → 0 < b.len → journal_cyclic_interval_overlap g a b ≡ source_cyclic_interval_overlap g a b
unfolding journal_cyclic_interval_overlap
cyclic_same g a b ha hb = guarded (neither_empty a b) (source_cyclic_interval_overlap g a b) (neither a b ha hb)

-- an empty interval overlaps nothing, on either side
pub plain_empty : (a b : JournalInterval) → (a.len ≡ 0) ⊎ (b.len ≡ 0) → journal_interval_overlap a b ≡ false
plain_empty a b h =
    not_so (journal_interval_overlap a b) (λ e. let n = plain_source a b e in ⊎_elim (λ z. omega (arith, z, n.0)) (λ z. omega (arith, z, n.1)) h)

pub cyclic_empty : (g : Geometry) (a b : JournalInterval) → (a.len ≡ 0) ⊎ (b.len ≡ 0) → journal_cyclic_interval_overlap g a b ≡ false
cyclic_empty g a b h =
    not_so (journal_cyclic_interval_overlap g a b) (λ e. let n = cyclic_source g a b e in ⊎_elim (λ z. omega (arith, z, n.0)) (λ z. omega (arith, z, n.1)) h)

-- what does not overlap in the source does not here
pub cyclic_clear : (g : Geometry) (a b : JournalInterval) → source_cyclic_interval_overlap g a b ≡ false → journal_cyclic_interval_overlap g a b ≡ false
cyclic_clear g a b e = not_so (journal_cyclic_interval_overlap g a b) (λ o. true_false (sym (cyclic_source g a b o).2 ∙ e))

-- The overlap that holds here, by itself: symmetric

neither_symmetric : (a b : JournalInterval) → neither_empty a b ≡ neither_empty b a
neither_symmetric a b = also_comm (ltb 0 a.len) (ltb 0 b.len)

pub plain_symmetric : (a b : JournalInterval) → journal_interval_overlap a b ≡ journal_interval_overlap b a
unfolding journal_interval_overlap
plain_symmetric a b = λ i. also (neither_symmetric a b i) (source_plain_symmetric a b i)

pub overlap_symmetric : (g : Geometry) (a b : JournalInterval) → journal_cyclic_interval_overlap g a b ≡ journal_cyclic_interval_overlap g b a
unfolding journal_cyclic_interval_overlap
overlap_symmetric g a b = λ i. also (neither_symmetric a b i) (source_symmetric g a b i)

-- neither interval of two that share a block is empty
shared_first : (g : Geometry) (a b : JournalInterval) → Shares g a b → 0 < a.len
shared_first g a b s = ⊎_elim (λ p. omega arith) (λ p. omega arith) s.first

module _ (g : Geometry) (a b : JournalInterval) where
  shared_guard : Shares g a b → neither_empty a b ≡ true
  shared_guard s = neither a b (shared_first g a b s) (shared_first g b a (shares_symmetric g a b s))

  -- two contiguous intervals overlap, in a row, exactly where they share a block
  pub plain_iff : ContiguousJournalInterval g a → ContiguousJournalInterval g b → (journal_interval_overlap a b ≡ true) ↔ Shares g a b
  unfolding journal_interval_overlap
  plain_iff fa fb = (
    (λ e. let n = plain_source a b e in row_share g a b fa.valid fb.valid n.0 n.1 fa.end_in n.2),
    (λ s. also_both _ _ (shared_guard s) (row_yes g a b fa.valid fb.valid fa.end_in fb.end_in s)),
  )

  -- two valid intervals overlap, going round, exactly where they share a block
  pub overlap_iff : ValidJournalInterval g a → ValidJournalInterval g b → (journal_cyclic_interval_overlap g a b ≡ true) ↔ Shares g a b
  unfolding journal_cyclic_interval_overlap
  overlap_iff fa fb = (
    (λ e. let n = cyclic_source g a b e in source_overlap_shares g a b fa fb n.0 n.1 n.2),
    (λ s. also_both _ _ (shared_guard s) (source_shares_overlap g a b fa fb s)),
  )

  -- so two that do not overlap share none, and the other way round
  pub apart : ValidJournalInterval g a → ValidJournalInterval g b → journal_cyclic_interval_overlap g a b ≡ false → Shares g a b → ⊥
  apart fa fb e s = true_false (sym ((overlap_iff fa fb).1 s) ∙ e)

  pub apart_clear : ValidJournalInterval g a → ValidJournalInterval g b → (Shares g a b → ⊥) → journal_cyclic_interval_overlap g a b ≡ false
  apart_clear fa fb f = not_so (journal_cyclic_interval_overlap g a b) (λ e. f ((overlap_iff fa fb).0 e))
