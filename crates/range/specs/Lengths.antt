-- Laws of a range's lengths and counts: which are within the limits, and that lengths which were written read back. Over the width w of a
-- length in bytes and the greatest length. Assumes nothing.
use Rattle.std.specs.Prelude.{ℕ, zero, suc, ◌^◌, ◌≤◌, ◌<◌, true, ◌≡◌, refl, List, [], ◌∷◌, ◌++◌, length, take, drop, leb}
use Rattle.std.proofs.Common.{◌∙◌, ap, arith, length-take, lt-ltb, le-leb, leb-true}
use Rattle.laws.specs.Choice.{also, also_left, also_right, also_both, also_true}
use Rattle.laws.specs.Fold.{every, every_take, every_drop}
use Rattle.laws.specs.Digits.{is_digit, from_digits_one}
use Rattle.laws.specs.Bytes.{is_byte, Bytes}
use Rattle.laws.specs.LowFirst.{each_low, each_from_low, from_low_small, each_from_low_each_low}
use Rattle.range.specs.Form.{most_entry_length, ok_length, block_count, entry_count}

-- a length within the limits
pub ok_low : (most n : ℕ) → ok_length most n ≡ true → 1 ≤ n
unfolding ok_length
ok_low most n e = leb-true 1 n (also_left (leb 1 n) (leb n most) e)

pub ok_yes : (most n : ℕ) → 1 ≤ n → n ≤ most → ok_length most n ≡ true
unfolding ok_length
ok_yes most n h k = also_both (leb 1 n) (leb n most) (le-leb 1 n h) (le-leb n most k)

pub ok_high : (most n : ℕ) → ok_length most n ≡ true → n ≤ most
unfolding ok_length
ok_high most n e = leb-true n most (also_right (leb 1 n) (leb n most) e)

-- a byte can't be above the greatest length of one byte
pub ok_byte : (n : ℕ) → n < 256 → ok_length most_entry_length n ≡ leb 1 n
unfolding ok_length
ok_byte n h = ap (also (leb 1 n)) (le-leb n most_entry_length (omega arith)) ∙ also_true (leb 1 n)

-- each count is a number of two bytes
pub block_count_small : (xs : List ℕ) → Bytes xs → block_count xs < 65536
unfolding block_count
block_count_small xs b = from_low_small 2 (take 2 xs) (every_take is_byte 2 xs b) (simp length-take (omega arith))

pub entry_count_small : (xs : List ℕ) → Bytes xs → entry_count xs < 65536
unfolding entry_count
entry_count_small xs b = from_low_small 2 (take 2 (drop 2 xs)) (every_take is_byte 2 (drop 2 xs) (every_drop is_byte 2 xs b)) (simp length-take (omega arith))

-- lengths that were written read back, whatever follows
pub lengths_written : (w most : ℕ) (ns rest : List ℕ) → most < 256 ^ w → every (ok_length most) ns ≡ true → each_from_low w (length ns) (each_low w ns ++ rest) ≡ ns
unfolding every is_digit
lengths_written w most ns rest h e = each_from_low_each_low w ns rest (small ns e)
  where
    small : (ms : List ℕ) → every (ok_length most) ms ≡ true → every (is_digit (256 ^ w)) ms ≡ true
    small [] d = refl
    small (m ∷ ms) d =
        let k : m ≤ most = ok_high most m (also_left (ok_length most m) (every (ok_length most) ms) d) in
        also_both (is_digit (256 ^ w) m) (every (is_digit (256 ^ w)) ms) (lt-ltb m (256 ^ w) (omega arith)) (small ms (also_right (ok_length most m) (every (ok_length most) ms) d))

-- at one byte each, lengths are their own bytes
pub each_from_low_one : (e : ℕ) (xs : List ℕ) → e ≤ length xs → each_from_low 1 e xs ≡ take e xs
unfolding each_from_low
each_from_low_one zero xs h = refl
each_from_low_one (suc e) [] h = absurd (omega arith)
each_from_low_one (suc e) (x ∷ xs) h = λ i. from_digits_one 256 x i ∷ each_from_low_one e xs (omega arith) i
