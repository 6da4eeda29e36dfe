-- Bytes: numbers below 256, as a lent slice of them has, and bytes that are zero. Assumes nothing.
use Rattle.std.specs.Prelude.{ℕ, ◌≤◌, ◌<◌, Bool, true, false, ◌≡◌, refl, List, [], ◌∷◌, length, get_or, replicate, eqb}
use Rattle.std.proofs.Common.{sym, ◌∙◌, ap, arith, lt-ltb, ltb-true, eq-eqb, ne_eqb, eqb-true}
use Rattle.laws.specs.Choice.{also, also_left, also_right, also_false}
use Rattle.laws.specs.Fold.{every, every_all, every_at}
use Rattle.laws.specs.Digits.{is_digit}

-- a number that a byte holds, a list of such, and a byte that is zero
abbrev pub is_byte : ℕ → Bool
is_byte = is_digit 256

abbrev pub Bytes : List ℕ → Type 0
Bytes xs = every is_byte xs ≡ true

unfoldable pub is_zero : ℕ → Bool
is_zero n = eqb n 0

-- what a lent slice knows of its elements
pub bytes_all : (xs : List ℕ) → ((i : ℕ) → i < length xs → get_or xs i 0 < 256) → Bytes xs
unfolding is_digit
bytes_all xs f = every_all is_byte xs 0 (λ i h. lt-ltb (get_or xs i 0) 256 (f i h))

pub bytes_at : (xs : List ℕ) (i : ℕ) → Bytes xs → i < length xs → get_or xs i 0 < 256
unfolding is_digit
bytes_at xs i b h = ltb-true (get_or xs i 0) 256 (every_at is_byte xs i 0 b h)

-- zeros are a run of the number 0
pub zeros_are : (xs : List ℕ) → every is_zero xs ≡ true → xs ≡ replicate (length xs) 0
unfolding every is_zero
zeros_are [] e = refl
zeros_are (x ∷ xs) e =
    λ i. eqb-true x 0 (also_left (eqb x 0) (every is_zero xs) e) i ∷ zeros_are xs (also_right (eqb x 0) (every is_zero xs) e) i

-- the greater of two numbers is zero exactly where both are
pub second_zero : (m n : ℕ) → m < n → is_zero n ≡ also (is_zero m) (is_zero n)
unfolding is_zero
second_zero m n h =
    let e : eqb n 0 ≡ false = ne_eqb n 0 (λ k. omega arith) in
    e ∙ sym (also_false (eqb m 0)) ∙ ap (also (eqb m 0)) (sym e)

pub first_zero : (m n : ℕ) → n ≤ m → is_zero m ≡ also (is_zero m) (is_zero n)
unfolding is_zero also
first_zero m n h = go (eqb m 0) refl
  where
    go : (b : Bool) → eqb m 0 ≡ b → b ≡ also b (eqb n 0)
    go true e = let k : m ≡ 0 = eqb-true m 0 e in sym (eq-eqb n 0 (omega arith))
    go false e = refl
