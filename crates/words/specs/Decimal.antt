-- Decimal numbers of 64 bits: digits alone, at least one of them, the highest first, with a value below 2^64. Assumes nothing.
use Rattle.std.specs.Prelude.{None, Some}
use Rattle.std.specs.declared.option.Option as code
use Rattle.std.specs.Prelude.{ℕ, ◌+◌, ◌-◌, ◌*◌, ◌≤◌, ◌<◌, Bool, true, false, cond, ◌≡◌, refl, List, [], ◌∷◌, leb, ltb, length, drop, get_or}
use Rattle.std.proofs.Math.Path.{sym, ap}
use Rattle.std.proofs.Common.{◌∙◌, arith}
use borrow.Author.Tests.{le-leb, lt-ltb, le-ltb, ltb-true, ltb-false}
use Rattle.laws.specs.Choice.{also, also_false, ruin}
use Rattle.laws.specs.Fold.{every}
use Rattle.laws.specs.Part.{drop_step, drop_end}
use Rattle.words.specs.Line.{lies, bytes_of}
use Rattle.words.specs.declared.Word.{Word}

-- a decimal digit
unfoldable pub is_digit : ℕ → Bool
is_digit c = also (leb 48 c) (leb c 57)

-- the value of digits that follow a number
unfoldable pub value : ℕ → List ℕ → ℕ
value v [] = v
value v (c ∷ cs) = value (v * 10 + (c - 48)) cs

-- a number of 64 bits
unfoldable pub is_small : ℕ → Bool
is_small n = ltb n 18446744073709551616

-- a number and the digits that follow it
unfoldable pub follows : ℕ → List ℕ → code.Option ℕ
follows v cs = cond (also (every is_digit cs) (is_small (value v cs))) (Some (value v cs)) None

-- digits, at least one
unfoldable pub number_of : List ℕ → code.Option ℕ
number_of cs = cond (ltb 0 (length cs)) (follows 0 cs) None

-- a word of a line
unfoldable pub decimal_of : List ℕ → Word → code.Option ℕ
decimal_of line w = cond (lies w (length line)) (number_of (bytes_of line w)) None

-- one digit that follows a number
unfoldable pub one_more : ℕ → ℕ → code.Option ℕ
one_more v c = cond (also (is_digit c) (is_small (v * 10 + (c - 48)))) (Some (v * 10 + (c - 48))) None

-- a digit that follows: the number has 64 bits, or is too large
module _ (v c : ℕ) (h : 48 ≤ c) (k : c ≤ 57) where
  pub more_is : v * 10 + (c - 48) < 18446744073709551616 → Some (v * 10 + (c - 48)) ≡ one_more v c
  unfolding one_more is_digit is_small also
  more_is l = sym (simp (le-leb 48 c h, le-leb c 57 k, lt-ltb (v * 10 + (c - 48)) 18446744073709551616 l))

  pub more_not : 18446744073709551616 ≤ v * 10 + (c - 48) → None ≡ one_more v c
  unfolding one_more is_digit is_small also
  more_not l = sym (simp (le-leb 48 c h, le-leb c 57 k, le-ltb (v * 10 + (c - 48)) 18446744073709551616 l))

-- a number that digits follow grows, so one that is too large stays so
value_grows : (v : ℕ) (cs : List ℕ) → v ≤ value v cs
unfolding value
value_grows v [] = omega arith
value_grows v (c ∷ cs) = let h : v * 10 + (c - 48) ≤ value (v * 10 + (c - 48)) cs = value_grows (v * 10 + (c - 48)) cs in omega (arith, h)

large_stays : (v : ℕ) (cs : List ℕ) → is_small v ≡ false → is_small (value v cs) ≡ false
unfolding is_small
large_stays v cs e = le-ltb (value v cs) 18446744073709551616 (omega (arith, value_grows v cs, ltb-false v 18446744073709551616 e))

-- what follows the answer of a digit
unfoldable pub followed : code.Option ℕ → List ℕ → code.Option ℕ
followed (Some v) cs = follows v cs
followed None cs = None

follows_step : (v c : ℕ) (cs : List ℕ) → follows v (c ∷ cs) ≡ followed (one_more v c) cs
unfolding follows followed one_more every value also
follows_step v c cs = go (is_digit c) (is_small (v * 10 + (c - 48))) refl
  where
    next : ℕ
    next = v * 10 + (c - 48)

    go : (a b : Bool) → is_small next ≡ b
        → cond (also (also a (every is_digit cs)) (is_small (value next cs))) (Some (value next cs)) None ≡ followed (cond (also a b) (Some next) None) cs
    go true true e = refl
    go true false e = rw (large_stays next cs e, also_false (every is_digit cs)) refl
    go false b e = refl

-- a number that a digit made has 64 bits
pub more_small : (v c w : ℕ) {n : code.Option ℕ} → n ≡ one_more v c → n ≡ Some w → w < 18446744073709551616
unfolding one_more is_small also
more_small v c w p q = go (is_digit c) (ltb next 18446744073709551616) refl (sym p ∙ q)
  where
    next : ℕ
    next = v * 10 + (c - 48)

    go : (a b : Bool) → ltb next 18446744073709551616 ≡ b → cond (also a b) (Some next) None ≡ Some w → w < 18446744073709551616
    go true true e h = let k : next ≡ w = cc in omega (arith, ltb-true next 18446744073709551616 e, k)
    go true false e h = ruin (cc)
    go false b e h = ruin (cc)

-- a turn of the loop over digits: the digit is one, it isn't, and the end
module _ (cs : List ℕ) (i v : ℕ) (e : follows v (drop i cs) ≡ follows 0 cs) where
  step : i < length cs → followed (one_more v (get_or cs i 0)) (drop (i + 1) cs) ≡ follows 0 cs
  step h = sym (follows_step v (get_or cs i 0) (drop (i + 1) cs)) ∙ ap (follows v) (sym (drop_step cs i 0 h)) ∙ e

  pub digit_is : {n : code.Option ℕ} (w : ℕ) → i < length cs → n ≡ one_more v (get_or cs i 0) → n ≡ Some w → follows w (drop (i + 1) cs) ≡ follows 0 cs
  unfolding followed
  digit_is w h p q = ap (λ (x : code.Option ℕ). followed x (drop (i + 1) cs)) (sym q ∙ p) ∙ step h

  pub digit_not : {n : code.Option ℕ} → i < length cs → n ≡ one_more v (get_or cs i 0) → n ≡ None → None ≡ number_of cs
  unfolding followed number_of
  digit_not h p q = ap (λ (x : code.Option ℕ). followed x (drop (i + 1) cs)) (sym q ∙ p) ∙ step h ∙ sym (simp (lt-ltb 0 (length cs) (omega arith)))

  pub digits_end : length cs ≤ i → 0 < length cs → v < 18446744073709551616 → Some v ≡ number_of cs
  unfolding number_of follows every value is_small also
  digits_end h k l =
      sym (rw (drop_end cs i h) (simp (lt-ltb v 18446744073709551616 l)))
      ∙ e
      ∙ sym (simp (lt-ltb 0 (length cs) k))

pub no_digits : (cs : List ℕ) → length cs ≡ 0 → None ≡ number_of cs
unfolding number_of
no_digits cs h = sym (simp (le-ltb 0 (length cs) (omega arith)))

-- a word that lies in the line, and one that doesn't
pub decimal_in : (line : List ℕ) (w : Word) {b : Bool} {n : code.Option ℕ} → b ≡ lies w (length line) → b ≡ true → n ≡ number_of (bytes_of line w) → n ≡ decimal_of line w
unfolding decimal_of
decimal_in line w e h q = q ∙ sym (simp (sym e ∙ h))

pub decimal_out : (line : List ℕ) (w : Word) {b : Bool} → b ≡ lies w (length line) → b ≡ false → None ≡ decimal_of line w
unfolding decimal_of
decimal_out line w e h = sym (simp (sym e ∙ h))
