-- A number that names one of two, and a test that does not hold.
use Rattle.std.specs.Prelude.{ℕ, ◌≤◌, Bool, true, false, not, ◌≡◌, refl}
use Rattle.std.proofs.Common.{arith, leb-true, le-leb}
use Rattle.laws.specs.Choice.{false_true, ask_yes, ask_holds}
use Rattle.loading.specs.Which.{ask_which}

-- a number that names one of two
pub which_asked : (which : ℕ) → ask_which which ≡ 0 → which ≤ 1
unfolding ask_which
which_asked which e = leb-true which 1 (ask_yes 4 _ (omega arith) e)

pub asked_which : (which : ℕ) → which ≤ 1 → ask_which which ≡ 0
unfolding ask_which
asked_which which h = ask_holds 4 _ (le-leb which 1 h)

-- a test that does not hold
pub not_true : (b : Bool) → not b ≡ true → b ≡ true → ⊥
not_true true p q = false_true p
not_true false p q = false_true q

pub true_not : (b : Bool) → (b ≡ true → ⊥) → not b ≡ true
true_not true f = absurd (f refl)
true_not false f = refl
