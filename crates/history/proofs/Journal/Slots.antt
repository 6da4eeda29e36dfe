-- The two slots: a superblock whose counter follows the selected one's is selected once it stands in the other slot, and not before; and
-- the counter tells the slot, since each commit changes the parity of both.
use Rattle.std.specs.Prelude.{ℕ, ◌+◌, ◌%◌, Bool, true, false, cond, not, ◌≡◌, refl, eqb}
use Rattle.std.proofs.Common.{sym, ◌∙◌, ap, subst, arith}
use Rattle.std.proofs.Math.Option.{Option, some, some-injective}
use Rattle.laws.specs.Choice.{split_eq, by_eqb, true_false, false_true}
use Rattle.layout.specs.declared.Geometry.{Geometry}
use Rattle.superblock.specs.declared.Superblock.{Superblock}
use Rattle.superblock.specs.Superblock.{increment_superblock_counter, select_superblock}
use Rattle.superblock.specs.Laws.{WFSuperblock, increment_parity, increment_twice, selects_second, selects_first, selected_second_is, selected_first}
use Rattle.laws.specs.Sets.{Two, at, put, at_put}
use Rattle.source.specs.JournalCache.{selected_second}

abbrev pub bit : Bool → ℕ
bit b = cond b 1 0

-- the parity of counter and slot together
abbrev pub parity : ℕ → Bool → ℕ
parity counter which = (counter + bit which) % 2

pub next_parity : (counter : ℕ) (which : Bool) → parity (increment_superblock_counter counter) (not which) ≡ parity counter which
next_parity counter false = omega (arith, increment_parity counter)
next_parity counter true = omega (arith, increment_parity counter)

-- so of counters of one parity the slot is the same, of two parities the other
pub slot_parity : (counter first : ℕ) (which slot : Bool) → parity counter which ≡ parity first slot → which ≡ cond (eqb (counter % 2) (first % 2)) slot (not slot)
slot_parity counter first false false e = by_eqb (λ (b : Bool). false ≡ b) (counter % 2) (first % 2) false true (λ h. refl) (λ h. absurd (omega arith))
slot_parity counter first false true e = by_eqb (λ (b : Bool). false ≡ b) (counter % 2) (first % 2) true false (λ h. absurd (omega arith)) (λ h. refl)
slot_parity counter first true false e = by_eqb (λ (b : Bool). true ≡ b) (counter % 2) (first % 2) false true (λ h. absurd (omega arith)) (λ h. refl)
slot_parity counter first true true e = by_eqb (λ (b : Bool). true ≡ b) (counter % 2) (first % 2) true false (λ h. refl) (λ h. absurd (omega arith))

-- which of two superblocks is selected
abbrev pub picked : Two Superblock → Bool
picked t = selected_second t.first t.second

pub picked_is : (t : Two Superblock) → select_superblock t.first t.second ≡ at t (picked t)
picked_is t =
    split_eq t.second.counter (increment_superblock_counter t.first.counter)
    (λ e. let s = selects_second t.first t.second e in selected_second_is t.first t.second s ∙ sym (ap (λ (n : ℕ). at t (eqb n 1)) s))
    (λ f. let s = selects_first t.first t.second f in selected_first t.first t.second s ∙ sym (ap (λ (n : ℕ). at t (eqb n 1)) s))

pub picks_newer : (t : Two Superblock) (w : Bool) (v : Superblock) → picked t ≡ w → v.counter ≡ increment_superblock_counter (at t w).counter
    → picked (put t (not w) v) ≡ not w
picks_newer t false v e h = ap (λ (n : ℕ). eqb n 1) (selects_second t.first v h)
picks_newer t true v e h =
    ap (λ (n : ℕ). eqb n 1)
    (selects_first v t.second (λ k. increment_twice t.second.counter (k ∙ ap increment_superblock_counter h)))

-- so the other slot does not hold it yet
pub not_yet : (t : Two Superblock) (w : Bool) (v : Superblock) → picked t ≡ w → v.counter ≡ increment_superblock_counter (at t w).counter
    → at t (not w) ≡ v → ⊥
not_yet t w v e h k = go w (sym e ∙ ap picked (sym (same w k)) ∙ picks_newer t w v e h)
  where
    same : (w : Bool) → at t (not w) ≡ v → put t (not w) v ≡ t
    same true k = λ i. record { first = sym k i; second = t.second }
    same false k = λ i. record { first = t.first; second = sym k i }

    go : (w : Bool) → w ≡ not w → ⊥
    go true q = true_false q
    go false q = false_true q

-- both slots hold a well-formed superblock, and the one selected is v, in slot w
pub record Slots (g : Geometry) (slots : Two (Option Superblock)) (w : Bool) (v : Superblock) : Type 0 where
  pub values : Two Superblock
  pub holds : (b : Bool) → at slots b ≡ some (at values b)
  pub wf : (b : Bool) → WFSuperblock g (at values b)
  pub picks : picked values ≡ w
  pub is : at values w ≡ v

module _ (g : Geometry) (slots : Two (Option Superblock)) (w : Bool) (v : Superblock) (s : Slots g slots w v) where
  pub slots_wf_is : WFSuperblock g v
  slots_wf_is = subst (WFSuperblock g) s.is (s.wf w)

  pub slots_at : at slots w ≡ some v
  slots_at = s.holds w ∙ ap (λ (x : Superblock). some x) s.is

  -- what a slot holds, if it is known
  pub slots_value : (b : Bool) (x : Superblock) → at slots b ≡ some x → x ≡ at s.values b
  slots_value b x e = some-injective x (at s.values b) (sym e ∙ s.holds b)

  -- a newer superblock lands in the other slot
  pub slots_land : (x : Superblock) → x.counter ≡ increment_superblock_counter v.counter → WFSuperblock g x
      → Slots g (put slots (not w) (some x)) (not w) x
  slots_land x h f =
      record {
        values = put s.values (not w) x;
        holds = both w;
        wf = sound w;
        picks = picks_newer s.values w x s.picks (h ∙ ap (λ (y : Superblock). increment_superblock_counter y.counter) (sym s.is));
        is = at_put s.values (not w) x;
      }
    where
      both : (w b : Bool) → at (put slots (not w) (some x)) b ≡ some (at (put s.values (not w) x) b)
      both true true = s.holds true
      both true false = refl
      both false true = refl
      both false false = s.holds false

      sound : (w b : Bool) → WFSuperblock g (at (put s.values (not w) x) b)
      sound true true = s.wf true
      sound true false = f
      sound false true = f
      sound false false = s.wf false

  -- the selected superblock lands again
  pub slots_again : Slots g (put slots w (some v)) w v
  slots_again = subst (λ (t : Two (Option Superblock)). Slots g t w v) (sym (same w slots_at)) s
    where
      same : (w : Bool) → at slots w ≡ some v → put slots w (some v) ≡ slots
      same true e = λ i. record { first = slots.first; second = sym e i }
      same false e = λ i. record { first = sym e i; second = slots.second }

  -- the other slot does not hold a newer one
  pub slots_not_yet : (x : Superblock) → x.counter ≡ increment_superblock_counter v.counter → some x ≡ at slots (not w) → ⊥
  slots_not_yet x h e =
      not_yet s.values w x s.picks (h ∙ ap (λ (y : Superblock). increment_superblock_counter y.counter) (sym s.is))
      (sym (slots_value (not w) x (sym e)))
