-- Numbers as bytes, low byte first: one number in w bytes, and numbers of one width back to back. What is written reads back as it was,
-- and bytes that were read are what would be written. Over the width w of a number in bytes. Assumes nothing.
use Prim.Native.Nat.{ℕ, zero, suc, ◌+◌, ◌*◌, ◌^◌, ◌≤◌, ◌<◌}
use Rattle.std.specs.Prelude.{true, ◌≡◌, drop}
use Rattle.std.proofs.Math.Path.{refl, sym, ap}
use Rattle.std.proofs.Common.{◌∙◌, zero-mul, suc-mul, add_assoc, arith, length-append, take_at, drop_at, take-add, drop-drop}
use mathlib.Core.List.{List, [], ◌∷◌, ◌++◌, append_assoc}
use Rattle.std.proofs.Math.Nat.{add-zero, add_comm}
use Rattle.std.proofs.Math.ListN.{length, take, length-drop}
use Rattle.std.proofs.Math.Seq.{length-take-le}
use borrow.Author.Tests.{ltb-true}
use Rattle.laws.specs.Bytes.{is_byte, Bytes}
use Rattle.laws.specs.Choice.{also_left, also_right, also_both}
use Rattle.laws.specs.Fold.{every, every_append, every_take, every_drop}
use Rattle.laws.specs.Part.{tab, tab_same}
use Rattle.laws.specs.Digits.{digits, from_digits, is_digit, length_digits, from_digits_digits, digits_from_digits, digits_each, from_digits_short}

-- a number in w bytes, and the number that bytes make
abbrev pub low_first : ℕ → ℕ → List ℕ
low_first w n = digits 256 w n

abbrev pub from_low : List ℕ → ℕ
from_low xs = from_digits 256 xs

-- numbers in w bytes each, and the first n numbers that bytes make
unfoldable pub each_low : ℕ → List ℕ → List ℕ
each_low w [] = []
each_low w (n ∷ ns) = low_first w n ++ each_low w ns

unfoldable pub each_from_low : ℕ → ℕ → List ℕ → List ℕ
each_from_low w zero xs = []
each_from_low w (suc n) xs = from_low (take w xs) ∷ each_from_low w n (drop w xs)

-- one number
pub length_low_first : (w n : ℕ) → length (low_first w n) ≡ w
length_low_first w n = length_digits 256 w n

pub from_low_low_first : (w n : ℕ) → n < 256 ^ w → from_low (low_first w n) ≡ n
from_low_low_first w n h = from_digits_digits 256 (omega arith) w n h

pub low_first_from_low : (xs : List ℕ) → Bytes xs → low_first (length xs) (from_low xs) ≡ xs
low_first_from_low xs b = digits_from_digits 256 (omega arith) xs b

pub low_first_bytes : (w n : ℕ) → Bytes (low_first w n)
low_first_bytes w n = digits_each 256 (omega arith) w n

pub from_low_small : (k : ℕ) (xs : List ℕ) → Bytes xs → length xs ≤ k → from_low xs < 256 ^ k
from_low_small k xs b h = from_digits_short 256 (omega arith) k xs b h

-- numbers of one width
module _ (w : ℕ) where
  pub length_each_low : (ns : List ℕ) → length (each_low w ns) ≡ length ns * w
  unfolding each_low
  length_each_low [] = sym (zero-mul w)
  length_each_low (n ∷ ns) =
      simp (length-append, length_low_first, length_each_low ns) (add_comm w (length ns * w) ∙ sym (suc-mul (length ns) w))

  pub length_each_from_low : (n : ℕ) (xs : List ℕ) → length (each_from_low w n xs) ≡ n
  unfolding each_from_low
  length_each_from_low zero xs = refl
  length_each_from_low (suc n) xs = ap suc (length_each_from_low n (drop w xs))

  pub each_low_bytes : (ns : List ℕ) → Bytes (each_low w ns)
  unfolding each_low every
  each_low_bytes [] = refl
  each_low_bytes (n ∷ ns) =
      every_append is_byte (low_first w n) (each_low w ns)
      ∙ also_both (every is_byte (low_first w n)) (every is_byte (each_low w ns)) (low_first_bytes w n) (each_low_bytes ns)

  -- some numbers after others
  pub each_low_append : (ns ms : List ℕ) → each_low w (ns ++ ms) ≡ each_low w ns ++ each_low w ms
  unfolding each_low
  each_low_append [] ms = refl
  each_low_append (n ∷ ns) ms = rw (each_low_append ns ms) (sym (append_assoc (low_first w n) (each_low w ns) (each_low w ms)))

  -- numbers that were written read back, whatever follows
  pub each_from_low_each_low : (ns rest : List ℕ) → every (is_digit (256 ^ w)) ns ≡ true → each_from_low w (length ns) (each_low w ns ++ rest) ≡ ns
  unfolding each_low each_from_low every is_digit
  each_from_low_each_low [] rest e = refl
  each_from_low_each_low (n ∷ ns) rest e =
      let k : n < 256 ^ w = ltb-true n (256 ^ w) (also_left (is_digit (256 ^ w) n) (every (is_digit (256 ^ w)) ns) e) in
      rw append_assoc
      (λ i.
      (ap from_low (take_at (low_first w n) (each_low w ns ++ rest) w (length_low_first w n)) ∙ from_low_low_first w n k) i
      ∷ (ap (each_from_low w (length ns)) (drop_at (low_first w n) (each_low w ns ++ rest) w (length_low_first w n))
      ∙ each_from_low_each_low ns rest (also_right (is_digit (256 ^ w) n) (every (is_digit (256 ^ w)) ns) e)) i)

  -- bytes that were read as numbers are what would be written
  pub each_low_each_from_low : (n : ℕ) (xs : List ℕ) → Bytes xs → n * w ≤ length xs → each_low w (each_from_low w n xs) ≡ take (n * w) xs
  unfolding each_low each_from_low
  each_low_each_from_low zero xs b h = ap (λ (n : ℕ). take n xs) (sym (zero-mul w))
  each_low_each_from_low (suc n) xs b h =
      let k : w + n * w ≤ length xs = rw (suc-mul n w, add_comm (n * w) w) at h in
      let l : length (take w xs) ≡ w = length-take-le w xs (omega arith) in
      let first : low_first w (from_low (take w xs)) ≡ take w xs = rw l at (low_first_from_low (take w xs) (every_take is_byte w xs b)) in
      let rest : each_low w (each_from_low w n (drop w xs)) ≡ take (n * w) (drop w xs)
      = each_low_each_from_low n (drop w xs) (every_drop is_byte w xs b) (simp length-drop (omega arith)) in
      (λ i. first i ++ rest i) ∙ sym (take-add w (n * w) xs) ∙ ap (λ (m : ℕ). take m xs) (add_comm w (n * w) ∙ sym (suc-mul n w))

  -- by their places
  pub each_from_low_tab : (n a : ℕ) (xs : List ℕ) → each_from_low w n (drop a xs) ≡ tab n (λ i. from_low (take w (drop (a + i * w) xs)))
  unfolding each_from_low tab
  each_from_low_tab zero a xs = refl
  each_from_low_tab (suc n) a xs =
      λ i.
      from_low (take w (drop (first i) xs))
      ∷ (ap (each_from_low w n) (drop-drop w a xs)
      ∙ each_from_low_tab n (a + w) xs
      ∙ tab_same n (λ j. from_low (take w (drop (a + w + j * w) xs))) (λ j. from_low (take w (drop (a + suc j * w) xs)))
      (λ j h. ap (λ (m : ℕ). from_low (take w (drop m xs))) (next j))) i
    where
      first : a ≡ a + 0 * w
      first = sym (ap (λ (m : ℕ). a + m) (zero-mul w) ∙ add-zero a)

      next : (j : ℕ) → a + w + j * w ≡ a + suc j * w
      next j = add_assoc a w (j * w) ∙ ap (λ (m : ℕ). a + m) (add_comm w (j * w) ∙ sym (suc-mul j w))
