-- Numbers by their digits, low digit first, over the base: what is written reads back, and digits that were read are what would be
-- written. Assumes nothing.
use Prim.Native.Nat.{ℕ, zero, suc, ◌+◌, ◌*◌, ◌-◌, ◌/◌, ◌%◌, ◌^◌, ◌≤◌, ◌<◌}
use Rattle.std.specs.Prelude.{Bool, true, ◌≡◌, ltb}
use Rattle.std.proofs.Math.Path.{refl, ap}
use Rattle.std.proofs.Common.{sym, ◌∙◌, suc-mul, mul-le-mul_right, pow-suc, zero-mul, mod-lt, div-lt_iff_lt-mul}
use mathlib.Core.List.{List, [], ◌∷◌}
use Rattle.std.proofs.Math.Nat.{one-le-pow, pow-zero, zero-add, add-zero, mod-eq_of_lt, mod-add-div', div-eq_of_lt, add-mul-mod_self_right, add-mul-div_right}
use native.Mathlib.Omega.{arith}
use Rattle.std.proofs.Math.ListN.{length, drop, get_or}
use borrow.Author.Tests.{lt-ltb, ltb-true}
use Rattle.laws.specs.Choice.{also_left, also_right, also_both}
use Rattle.laws.specs.Fold.{every}
use Rattle.laws.specs.Part.{drop_step}

-- the lowest w digits of a number, and the number that digits make
unfoldable pub digits : ℕ → ℕ → ℕ → List ℕ
digits base zero n = []
digits base (suc w) n = n % base ∷ digits base w (n / base)

unfoldable pub from_digits : ℕ → List ℕ → ℕ
from_digits base [] = 0
from_digits base (x ∷ xs) = x + from_digits base xs * base

unfoldable pub is_digit : ℕ → ℕ → Bool
is_digit base n = ltb n base

module _ (base : ℕ) where
  pub length_digits : (w n : ℕ) → length (digits base w n) ≡ w
  unfolding digits
  length_digits zero n = refl
  length_digits (suc w) n = ap suc (length_digits w (n / base))

  -- one digit
  pub from_digits_one : (x : ℕ) → from_digits base (x ∷ []) ≡ x
  unfolding from_digits
  from_digits_one x = ap (λ (n : ℕ). x + n) (zero-mul base) ∙ add-zero x

  -- a turn of a loop that writes digit after digit, and one of a loop that reads them, the highest first
  pub digits_turn : (w n j r : ℕ) → j < w → digits base (w - j) r ≡ drop j (digits base w n)
      → (r % base ≡ get_or (digits base w n) j 0) × (digits base (w - (j + 1)) (r / base) ≡ drop (j + 1) (digits base w n))
  unfolding digits
  digits_turn w n j r h e =
      let k : w - j ≡ suc (w - (j + 1)) = omega arith in
      let l : j < length (digits base w n) = omega (arith, h, length_digits w n) in
      let f : digits base (suc (w - (j + 1))) r ≡ get_or (digits base w n) j 0 ∷ drop (j + 1) (digits base w n)
      = ap (λ (m : ℕ). digits base m r) (sym k) ∙ e ∙ drop_step (digits base w n) j 0 l in
      (ap (λ (xs : List ℕ). get_or xs 0 0) f, ap (drop 1) f)

  pub from_digits_turn : (xs : List ℕ) (i : ℕ) → i < length xs → from_digits base (drop i xs) ≡ get_or xs i 0 + from_digits base (drop (i + 1) xs) * base
  unfolding from_digits
  from_digits_turn xs i h = rw (drop_step xs i 0 h)

-- a digit below a number that has room for one more
placed : (x n base m : ℕ) → x < base → n < m → x + n * base < m * base
placed x n base m h k = omega (arith, h, suc-mul n base, mul-le-mul_right {m = suc n} {n = m} base k)

-- there and back
module _ (base : ℕ) (some : 0 < base) where
  pub from_digits_digits : (w n : ℕ) → n < base ^ w → from_digits base (digits base w n) ≡ n
  unfolding digits from_digits
  from_digits_digits zero n h = omega (arith, rw (pow-zero base) at h)
  from_digits_digits (suc w) n h =
      let k : n < base ^ w * base = rw (pow-suc base w) at h in
      rw (from_digits_digits w (n / base) ((div-lt_iff_lt-mul {k = base} {x = n} {y = base ^ w} some).1 k)) (mod-add-div' n base)

  pub digits_from_digits : (xs : List ℕ) → every (is_digit base) xs ≡ true → digits base (length xs) (from_digits base xs) ≡ xs
  unfolding digits from_digits every is_digit
  digits_from_digits [] e = refl
  digits_from_digits (x ∷ xs) e =
      let h : x < base = ltb-true x base (also_left (ltb x base) (every (is_digit base) xs) e) in
      let low : (x + from_digits base xs * base) % base ≡ x = add-mul-mod_self_right x (from_digits base xs) base ∙ mod-eq_of_lt h in
      let high : (x + from_digits base xs * base) / base ≡ from_digits base xs
      = add-mul-div_right x (from_digits base xs) some ∙ ap (λ (n : ℕ). n + from_digits base xs) (div-eq_of_lt h) ∙ zero-add (from_digits base xs) in
      rw (low, high, digits_from_digits xs (also_right (ltb x base) (every (is_digit base) xs) e))

  pub digits_each : (w n : ℕ) → every (is_digit base) (digits base w n) ≡ true
  unfolding digits every is_digit
  digits_each zero n = refl
  digits_each (suc w) n =
      also_both (ltb (n % base) base) (every (is_digit base) (digits base w (n / base))) (lt-ltb (n % base) base (mod-lt n some)) (digits_each w (n / base))

  -- at most k digits make a number below the base to the k
  pub from_digits_short : (k : ℕ) (xs : List ℕ) → every (is_digit base) xs ≡ true → length xs ≤ k → from_digits base xs < base ^ k
  unfolding from_digits every is_digit
  from_digits_short k [] e h = one-le-pow k base some
  from_digits_short zero (x ∷ xs) e h = absurd (omega arith)
  from_digits_short (suc k) (x ∷ xs) e h =
      let hx : x < base = ltb-true x base (also_left (ltb x base) (every (is_digit base) xs) e) in
      let r : from_digits base xs < base ^ k = from_digits_short k xs (also_right (ltb x base) (every (is_digit base) xs) e) (omega arith) in
      rw (pow-suc base k) (placed x (from_digits base xs) base (base ^ k) hx r)
