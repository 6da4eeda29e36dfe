-- What a call brings beside its arguments.
use Rattle.std.specs.Prelude.{ℕ, List}
use Rattle.calls.specs.declared.calls.Given as slices

-- entries, and the picture of a crash
pub record Given : Type 0 where
  pub brought : List ℕ
  pub sizes : List ℕ
  pub picture : List ℕ
  pub pictured : List ℕ

abbrev pub given : (brought sizes picture pictured : List ℕ) → Given
given brought sizes picture pictured = record { brought = brought; sizes = sizes; picture = picture; pictured = pictured }

-- what the code's slices hold
abbrev pub given_in : slices.Given → Given
given_in v = given v.brought.now v.sizes.now v.picture.now v.pictured.now
