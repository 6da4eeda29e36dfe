-- From an answer of a lower crate to a refusal number and the numbers beside it. Assumes nothing.
use Rattle.std.specs.Prelude.{ℕ, ◌≡◌}
use Rattle.std.proofs.Common.{sym, ◌∙◌}
use Rattle.laws.specs.Choice.{unless, unless_done, unless_kept}

-- a number that is written where nothing was refused, and stays else
pub gives : (q b m old : ℕ) → q ≡ 0 → b ≡ m → b ≡ unless q old m
gives q b m old e h = h ∙ sym (unless_done q old m e)

pub keeps : (q m old : ℕ) → (q ≡ 0 → ⊥) → old ≡ unless q old m
keeps q m old h = sym (unless_kept q old m h)
