-- Laws of the superblock: well-formedness as facts, the counter's successor as a sum that wraps, and which slot is selected.
use Rattle.std.specs.Prelude.{◌≡◌, ℕ, ◌+◌, ◌%◌, ◌^◌, ◌<◌, ◌≤◌, true, false, cond, ◌==◌, ◌≢◌, refl}
use Rattle.std.proofs.Common.{ap}
use native.Mathlib.Omega.{arith}
use borrow.Author.Tests.{leb-true, le-leb, ltb-true, lt-ltb, eq-eqb, ne_eqb, eqb-true}
use Rattle.laws.specs.Choice.{also_left, also_right, also_both, by_eqb}
use Rattle.layout.specs.declared.Geometry.{Geometry}
use Rattle.layout.specs.Laws.{ValidIndirectionTableLocation, table_location_facts, facts_table_location, same_location_is, location_same}
use Rattle.superblock.specs.declared.Superblock.{Superblock}
use Rattle.superblock.specs.Superblock.{increment_superblock_counter, increments1, select_superblock_index, select_superblock, wf_superblock, same_superblock}

pub record WFSuperblock (g : Geometry) (s : Superblock) : Type 0 where
  pub start_in : s.journalStart < g.blocks
  pub len_in : s.journalLen ≤ g.blocks
  pub table_valid : ValidIndirectionTableLocation g s.indirectionTableLoc

module _ (g : Geometry) (s : Superblock) where
  pub superblock_facts : wf_superblock g s ≡ true → WFSuperblock g s
  unfolding wf_superblock
  superblock_facts e =
      let e1 = also_right _ _ e in
      record {
        start_in = ltb-true s.journalStart g.blocks (also_left _ _ e);
        len_in = leb-true s.journalLen g.blocks (also_left _ _ e1);
        table_valid = table_location_facts g s.indirectionTableLoc (also_right _ _ e1);
      }

  pub facts_superblock : WFSuperblock g s → wf_superblock g s ≡ true
  unfolding wf_superblock
  facts_superblock w =
      also_both _ _ (lt-ltb s.journalStart g.blocks w.start_in)
      (also_both _ _ (le-leb s.journalLen g.blocks w.len_in) (facts_table_location g s.indirectionTableLoc w.table_valid))

-- the test says that two superblocks are the same exactly where they are
pub same_superblock_is : (a b : Superblock) → same_superblock a b ≡ true → a ≡ b
unfolding same_superblock
same_superblock_is a b e =
    let e1 = also_right _ _ e in
    let e2 = also_right _ _ e1 in
    λ i.
    record {
      counter = eqb-true a.counter b.counter (also_left _ _ e) i;
      journalStart = eqb-true a.journalStart b.journalStart (also_left _ _ e1) i;
      journalLen = eqb-true a.journalLen b.journalLen (also_left _ _ e2) i;
      indirectionTableLoc = same_location_is a.indirectionTableLoc b.indirectionTableLoc (also_right _ _ e2) i;
    }

pub superblock_same : (a b : Superblock) → a ≡ b → same_superblock a b ≡ true
unfolding same_superblock
superblock_same a b e =
    also_both _ _ (eq-eqb a.counter b.counter (ap (λ (s : Superblock). s.counter) e))
    (also_both _ _ (eq-eqb a.journalStart b.journalStart (ap (λ (s : Superblock). s.journalStart) e))
    (also_both _ _ (eq-eqb a.journalLen b.journalLen (ap (λ (s : Superblock). s.journalLen) e))
    (location_same a.indirectionTableLoc b.indirectionTableLoc (ap (λ (s : Superblock). s.indirectionTableLoc) e))))

-- the successor is the sum that wraps, stays a 64-bit number, and differs from the counter
pub increment_wraps : (i : ℕ) → i < 2 ^ 64 → increment_superblock_counter i ≡ (i + 1) % 2 ^ 64
unfolding increment_superblock_counter
increment_wraps i h =
    by_eqb (λ (n : ℕ). n ≡ (i + 1) % 2 ^ 64) i 18446744073709551615 0 (i + 1)
    (λ e. omega arith)
    (λ e. omega arith)

pub increment_in : (i : ℕ) → i < 2 ^ 64 → increment_superblock_counter i < 2 ^ 64
increment_in i h = let e = increment_wraps i h in omega arith

-- a step changes the counter's parity, also from the largest to 0; so no number is the second after itself
pub increment_parity : (i : ℕ) → (increment_superblock_counter i + 1) % 2 ≡ i % 2
unfolding increment_superblock_counter
increment_parity i = by_eqb (λ (n : ℕ). (n + 1) % 2 ≡ i % 2) i 18446744073709551615 0 (i + 1) (λ e. omega arith) (λ e. omega arith)

pub increment_twice : (i : ℕ) → i ≢ increment_superblock_counter (increment_superblock_counter i)
unfolding increment_superblock_counter
increment_twice i =
    by_eqb (λ (n : ℕ). i ≢ cond (n == 18446744073709551615) 0 (n + 1)) i 18446744073709551615 0 (i + 1)
    (λ e. by_eqb (λ (n : ℕ). i ≢ n) 0 18446744073709551615 0 (0 + 1) (λ d. absurd (omega arith)) (λ d k. omega arith))
    (λ e. by_eqb (λ (n : ℕ). i ≢ n) (i + 1) 18446744073709551615 0 (i + 1 + 1) (λ d k. omega arith) (λ d k. omega arith))

-- after the largest counter comes 0, and a counter is not followed by one that is two on
pub largest_then_zero : increments1 18446744073709551615 0 ≡ true
unfolding increments1 increment_superblock_counter
largest_then_zero = refl

pub not_two_on : increments1 7 9 ≡ false
unfolding increments1 increment_superblock_counter
not_two_on = refl

-- the second slot is selected exactly where its counter follows the first's
module _ (a b : Superblock) where
  pub selects_second : b.counter ≡ increment_superblock_counter a.counter → select_superblock_index a b ≡ 1
  unfolding select_superblock_index increments1
  selects_second e = simp (eq-eqb b.counter (increment_superblock_counter a.counter) e)

  pub selects_first : (b.counter ≢ increment_superblock_counter a.counter) → select_superblock_index a b ≡ 0
  unfolding select_superblock_index increments1
  selects_first h = simp (ne_eqb b.counter (increment_superblock_counter a.counter) h)

  pub selected_second_is : select_superblock_index a b ≡ 1 → select_superblock a b ≡ b
  unfolding select_superblock
  selected_second_is e = simp (eq-eqb (select_superblock_index a b) 1 e)

  pub selected_first : select_superblock_index a b ≡ 0 → select_superblock a b ≡ a
  unfolding select_superblock
  selected_first e = let h : select_superblock_index a b ≡ 1 → ⊥ = λ k. omega arith in simp (ne_eqb (select_superblock_index a b) 1 h)
