-- A sector read into lent numbers: the sector's questions, and then question 1 of the numbers' length.
use Rattle.std.specs.Prelude.{ℕ, List, length, eqb}
use Rattle.laws.specs.Choice.{and_then, ask}
use Rattle.sector.specs.Sector.{number_count, ask_sector}

abbrev pub ask_numbers_in : List ℕ → List ℕ → ℕ
ask_numbers_in xs numbers =
    and_then (ask_sector xs)
    (ask 1 (eqb (length numbers) number_count))
