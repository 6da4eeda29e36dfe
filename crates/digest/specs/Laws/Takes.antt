-- Bytes taken one after another: lists one behind the other, and the library's bytes of a number.
use Rattle.std.specs.Prelude.{ℕ, zero, suc, ◌*◌, ◌/◌, ◌%◌, ◌^◌, ◌≡◌, refl, List, [], ◌∷◌, ◌++◌}
use Rattle.std.proofs.Common.{sym, ◌∙◌, ap, arith, pow-suc}
use native.Mathlib.Nat.{div-div-eq-div-mul}
use Rattle.std.specs.Int.{byte_at, bytes_low_first}
use Rattle.laws.specs.Digits.{digits}
use Rattle.laws.specs.LowFirst.{low_first}
use Rattle.digest.specs.Take.{take_byte, takes}

pub takes_append : (h : ℕ) (xs ys : List ℕ) → takes h (xs ++ ys) ≡ takes (takes h xs) ys
unfolding takes
takes_append h [] ys = refl
takes_append h (x ∷ xs) ys = takes_append (take_byte h x) xs ys

-- one list taken, then another
pub takes_then : (h : ℕ) (xs ys : List ℕ) {v w : ℕ} → v ≡ takes h xs → w ≡ takes v ys → w ≡ takes h (xs ++ ys)
takes_then h xs ys e f = f ∙ ap (λ (n : ℕ). takes n ys) e ∙ sym (takes_append h xs ys)

-- the library's bytes of a number are its digits
byte_is : (i n : ℕ) → byte_at i n ≡ n / 256 ^ i % 256
byte_is zero n = omega arith
byte_is (suc i) n = refl

pub low_bytes : (i k n : ℕ) → bytes_low_first i k n ≡ digits 256 k (n / 256 ^ i)
unfolding digits
low_bytes i zero n = refl
low_bytes i (suc k) n =
    let further : n / 256 ^ suc i ≡ n / 256 ^ i / 256 = sym (div-div-eq-div-mul n (256 ^ i) 256 ∙ ap (λ (m : ℕ). n / m) (sym (pow-suc 256 i))) in
    (λ j. byte_is i n j ∷ (low_bytes (suc i) k n ∙ ap (digits 256 k) further) j)

pub low_first_bytes : (w n : ℕ) → bytes_low_first 0 w n ≡ low_first w n
low_first_bytes w n = low_bytes 0 w n ∙ ap (digits 256 w) (omega arith)
