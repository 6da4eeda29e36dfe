-- Which of two: 0 is slot 1 or the front piece, 1 is slot 2 or the back piece. Where any number is taken, every other one counts as 0.
use Rattle.std.specs.Prelude.{ℕ, Bool, leb, eqb}
use Rattle.laws.specs.Choice.{ask}

-- the second of the two
abbrev pub is_second : ℕ → Bool
is_second which = eqb which 1

-- question 4
unfoldable pub ask_which : ℕ → ℕ
ask_which which = ask 4 (leb which 1)
