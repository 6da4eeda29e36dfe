-- The pairs as the source's `x1`, `x2`, read and put by a Bool: false for `which` 0, true for any other.
use Rattle.std.specs.Prelude.{ℕ, ◌≤◌, Bool, true, false, not, cond, ◌≡◌, refl, leb, eqb}
use Rattle.std.proofs.Common.{arith, leb-true, le-leb}
use Rattle.laws.specs.Choice.{ask_yes, ask_holds}
use Rattle.laws.specs.Sets.{Two, at, put}
use Rattle.requests.specs.declared.BySlot.{BySlot}
use Rattle.requests.specs.Slots.{ask_which, chosen, slot_at, put_slot}

abbrev pub bit_of : ℕ → Bool
bit_of which = not (eqb which 0)

-- the number of a slot
abbrev pub which_of : Bool → ℕ
which_of false = 0
which_of true = 1

pub which_in : (w : Bool) → which_of w ≤ 1
which_in false = omega arith
which_in true = omega arith

pub bit_which : (w : Bool) → bit_of (which_of w) ≡ w
bit_which false = refl
bit_which true = refl

-- question 4
pub which_asked : (which : ℕ) → ask_which which ≡ 0 → which ≤ 1
unfolding ask_which
which_asked which e = leb-true which 1 (ask_yes 4 (leb which 1) (omega arith) e)

pub asked_which : (which : ℕ) → which ≤ 1 → ask_which which ≡ 0
unfolding ask_which
asked_which which h = ask_holds 4 (leb which 1) (le-leb which 1 h)

-- each pair
abbrev pub slot_pair : {A : Type 0} → BySlot A → Two A
slot_pair s = record { first = s.first; second = s.second }

module _ {A : Type 0} (which : ℕ) (a b : A) where
  chosen_at : chosen which a b ≡ at (record { first = a; second = b }) (bit_of which)
  chosen_at = go (eqb which 0)
    where
      go : (t : Bool) → cond t a b ≡ at (record { first = a; second = b }) (not t)
      go true = refl
      go false = refl

  chosen_put : (x : A) → record { first = chosen which x a; second = chosen which b x } ≡ put (record { first = a; second = b }) (bit_of which) x
  chosen_put x = go (eqb which 0)
    where
      go : (t : Bool) → record { first = cond t x a; second = cond t b x } ≡ put (record { first = a; second = b }) (not t) x
      go true = refl
      go false = refl

module _ {A : Type 0} (which : ℕ) (s : BySlot A) where
  pub slot_at_is : slot_at s which ≡ at (slot_pair s) (bit_of which)
  unfolding slot_at
  slot_at_is = chosen_at which s.first s.second

  pub slot_put : (x : A) → slot_pair (put_slot s which x) ≡ put (slot_pair s) (bit_of which) x
  unfolding put_slot
  slot_put x = chosen_put which s.first s.second x
