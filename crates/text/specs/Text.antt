-- Text in lent bytes: the place after a piece, and what digits a number and bytes have. Assumes nothing.
use Rattle.std.specs.Prelude.{ℕ, zero, suc, ◌+◌, ◌/◌, ◌%◌, min, cond, List, [], ◌∷◌, ◌++◌, ltb}
use Rattle.io.specs.Digits.{hex_digit_ascii}

-- the place after so many bytes, the text's end at most
abbrev pub after : ℕ → ℕ → ℕ → ℕ
after at count end = min (at + count) end

-- the decimal digits of a number that has at most k + 1, and those of a number of 64 bits, which has at most 20
unfoldable pub decimal_of : ℕ → ℕ → List ℕ
decimal_of zero n = hex_digit_ascii n ∷ []
decimal_of (suc k) n = cond (ltb n 10) (hex_digit_ascii n ∷ []) (decimal_of k (n / 10) ++ (hex_digit_ascii (n % 10) ∷ []))

abbrev pub decimal : ℕ → List ℕ
decimal n = decimal_of 19 n

-- two hexadecimal digits for each byte, the high one first
unfoldable pub hex_of : List ℕ → List ℕ
hex_of [] = []
hex_of (x ∷ xs) = hex_digit_ascii (x / 16) ∷ hex_digit_ascii (x % 16) ∷ hex_of xs
