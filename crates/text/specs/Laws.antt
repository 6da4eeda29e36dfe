-- Laws of text in lent bytes: as few digits as hold a number are its decimal digits, and bytes are written as digits pair after pair. Assumes
-- nothing.
use Rattle.std.specs.Prelude.{ℕ, zero, suc, ◌+◌, ◌*◌, ◌-◌, ◌/◌, ◌%◌, ◌^◌, ◌≤◌, ◌<◌, min, ◌≡◌, refl, List, [], ◌∷◌, ◌++◌, length, take, get_or}
use Rattle.std.proofs.Common.{sym, ◌∙◌, ap, mod-eq_of_lt, pow-suc, arith, take_all, length-take-le, lt-ltb, le-ltb}
use Rattle.std.proofs.Math.Nat.{one-le-pow}
use Rattle.io.specs.Digits.{hex_digit_ascii, last_digits, IsDigitCount}
use Rattle.laws.specs.Part.{take_step}
use Rattle.laws.specs.Splice.{splice, splice_none, clipped, clipped_min, clipped_then, length_clipped}
use Rattle.text.specs.Text.{after, decimal_of, hex_of}

-- a number of one digit
one_digit : (f n : ℕ) → n < 10 → hex_digit_ascii (n % 10) ∷ [] ≡ decimal_of f n
unfolding decimal_of
one_digit zero n h = ap (λ (d : ℕ). hex_digit_ascii d ∷ []) (mod-eq_of_lt h)
one_digit (suc f) n h = ap (λ (d : ℕ). hex_digit_ascii d ∷ []) (mod-eq_of_lt h) ∙ sym (simp (lt-ltb n 10 h))

-- what is left without the last digit
one_fewer : (k n : ℕ) → IsDigitCount 10 1 n (suc (suc k)) → (10 ≤ n) × IsDigitCount 10 1 (n / 10) (suc k)
one_fewer k n w =
    let most = w.2 (omega arith) in
    let one : suc (suc k) - 1 ≡ suc k = omega arith in
    let low : 10 ^ suc k ≤ n = rw one at most in
    let high : n < 10 ^ suc k * 10 = rw (sym (pow-suc 10 (suc k))) w.1 in
    let next : 10 ^ suc k ≡ 10 ^ k * 10 = pow-suc 10 k in
    let back : suc k - 1 ≡ k = omega arith in
    let less : 10 ^ (suc k - 1) ≡ 10 ^ k = ap (λ (m : ℕ). 10 ^ m) back in
    let some : 1 ≤ 10 ^ k = one-le-pow k 10 (omega arith) in
    (omega (arith, low, next, some), (omega arith, omega (arith, high), λ g. omega (arith, low, next, less)))

pub decimal_fewest : (k f n : ℕ) → n < 10 ^ suc f → IsDigitCount 10 1 n k → last_digits 10 k n ≡ decimal_of f n
unfolding decimal_of
decimal_fewest zero f n h w = absurd (omega (arith, w.0))
decimal_fewest (suc zero) f n h w = one_digit f n w.1
decimal_fewest (suc (suc k)) zero n h w = absurd (omega (arith, h, (one_fewer k n w).0))
decimal_fewest (suc (suc k)) (suc f) n h w =
    let short : n < 10 ^ suc f * 10 = rw (sym (pow-suc 10 (suc f))) h in
    ap (λ (ds : List ℕ). ds ++ (hex_digit_ascii (n % 10) ∷ [])) (decimal_fewest (suc k) f (n / 10) (omega (arith, short)) (one_fewer k n w).1)
    ∙ sym (simp (le-ltb n 10 (one_fewer k n w).0))

pub length_hex : (xs : List ℕ) → length (hex_of xs) ≡ length xs * 2
unfolding hex_of
length_hex [] = refl
length_hex (x ∷ xs) = omega (arith, length_hex xs)

hex_append : (xs ys : List ℕ) → hex_of (xs ++ ys) ≡ hex_of xs ++ hex_of ys
unfolding hex_of
hex_append [] ys = refl
hex_append (x ∷ xs) ys = ap (λ (zs : List ℕ). hex_digit_ascii (x / 16) ∷ hex_digit_ascii (x % 16) ∷ zs) (hex_append xs ys)

-- one byte more
hex_take : (xs : List ℕ) (i : ℕ) → i < length xs
    → hex_of (take (i + 1) xs) ≡ hex_of (take i xs) ++ (hex_digit_ascii (get_or xs i 0 / 16) ∷ hex_digit_ascii (get_or xs i 0 % 16) ∷ [])
unfolding hex_of
hex_take xs i h = ap hex_of (take_step xs i 0 h) ∙ hex_append (take i xs) (get_or xs i 0 ∷ [])

-- the loop that writes them: its start, a turn and its end
pub hex_start : (d : List ℕ) (at : ℕ) → d ≡ clipped d at (hex_of [])
unfolding hex_of clipped
hex_start d at = splice_none d at ∙ ap (splice d at) (sym (take_all (length d - at) [] (omega arith)))

module _ (x d bs : List ℕ) (at i place : ℕ) (e : x ≡ clipped d at (hex_of (take i bs))) (p : place ≡ after at (i * 2) (length d)) where
  pub hex_turn : (y two : List ℕ) → i < length bs → two ≡ hex_digit_ascii (get_or bs i 0 / 16) ∷ hex_digit_ascii (get_or bs i 0 % 16) ∷ [] → y ≡ clipped x place two
      → y ≡ clipped d at (hex_of (take (i + 1) bs))
  hex_turn y two h q f =
      let l : length (hex_of (take i bs)) ≡ i * 2 = length_hex (take i bs) ∙ ap (λ (n : ℕ). n * 2) (length-take-le i bs (omega arith)) in
      let m : length x ≡ length d = ap length e ∙ length_clipped d at (hex_of (take i bs)) in
      let r : place ≡ min (at + length (hex_of (take i bs))) (length x) = omega (arith, p, l, m) in
      f
      ∙ ap (λ (n : ℕ). clipped x n two) r
      ∙ clipped_min x (at + length (hex_of (take i bs))) two
      ∙ (λ j. clipped (e j) (at + length (hex_of (take i bs))) (q j))
      ∙ clipped_then d at (hex_of (take i bs)) (hex_digit_ascii (get_or bs i 0 / 16) ∷ hex_digit_ascii (get_or bs i 0 % 16) ∷ [])
      ∙ ap (clipped d at) (sym (hex_take bs i h))

  pub hex_end : length bs ≤ i → x ≡ clipped d at (hex_of bs)
  hex_end h = e ∙ ap (λ (ys : List ℕ). clipped d at (hex_of ys)) (take_all i bs h)
