-- Laws of sectors: a sector that was written reads back as its numbers, and no second sector of as many fields reads as the same numbers.
-- Over how many numbers there are, up to the 30 whose contents end before the bodies begin. Assumes nothing.
use Rattle.std.specs.Prelude.{◌≡◌, ℕ, suc, ◌+◌, ◌-◌, ◌*◌, ◌%◌, ◌^◌, ◌<◌, ◌≤◌, true, List, [], ◌∷◌, ◌++◌, length, take, drop, replicate, refl}
use Rattle.std.proofs.Common.{sym, ◌∙◌, zero-add, arith, length-append, take-append-drop, take_at, drop_at, drop-drop, eq-eqb, eqb-true}
use Rattle.std.proofs.Math.Path.{ap}
use mathlib.Core.List.{append_assoc}
use Rattle.std.proofs.lemmas.List.{length-replicate}
use Rattle.std.proofs.Math.ListN.{length-drop}
use Rattle.std.specs.List.{fold}
use Rattle.laws.specs.Choice.{also_left, also_right, also_both, and_then_left, and_then_right, and_then_both, ask_yes, ask_holds}
use Rattle.laws.specs.Digits.{is_digit}
use Rattle.laws.specs.Fold.{sum, every, every_take, every_drop, every_replicate, same_is, is_same}
use Rattle.laws.specs.Bytes.{is_byte, Bytes, is_zero, zeros_are}
use Rattle.laws.specs.LowFirst.{from_low, low_first, each_low, each_from_low, length_low_first, from_low_low_first, low_first_from_low, length_each_low, length_each_from_low, each_from_low_each_low, each_low_each_from_low}
use Rattle.laws.specs.Part.{tab, length_tab, length_part, part_then}
use Rattle.sector.specs.Sector.{sector_size, bodies_start, body_size, offset_size, body_start, contents_size, contents, check_number, sector_of, numbers_in, check_in, gap, rest, ask_fields}

-- numbers of 64 bits
abbrev pub Words : List ℕ → Type 0
Words ns = every (is_digit (256 ^ 8)) ns ≡ true

pub length_contents : (n : ℕ) → length (contents n) ≡ contents_size n
unfolding contents
length_contents n = length_each_low offset_size ((n + 1) ∷ tab (n + 1) body_start) ∙ ap (λ (m : ℕ). suc m * 2) (length_tab (n + 1) body_start) ∙ twice
  where
    twice : suc (n + 1) * 2 ≡ contents_size n
    twice = omega arith

check_small : (ns : List ℕ) → check_number ns < 256 ^ 8
unfolding check_number
check_small ns = omega arith

-- a sector's runs, and what stands behind each
module _ (ns : List ℕ) (few : length ns ≤ 30) where
  abbrev blanks : List ℕ
  blanks = replicate (bodies_start - contents_size (length ns)) 0

  abbrev bodies : List ℕ
  bodies = each_low body_size ns

  abbrev check : List ℕ
  check = low_first body_size (check_number ns)

  abbrev tail : List ℕ
  tail = replicate (sector_size - body_start (length ns + 1)) 0

  sector_runs : sector_of ns ≡ contents (length ns) ++ (blanks ++ (bodies ++ (check ++ tail)))
  unfolding sector_of
  sector_runs = simp append_assoc

  long_blanks : length blanks ≡ bodies_start - contents_size (length ns)
  long_blanks = length-replicate (bodies_start - contents_size (length ns)) 0

  pub length_sector_of : length (sector_of ns) ≡ sector_size
  length_sector_of =
      ap length sector_runs
      ∙ simp (length-append, length_contents, length-replicate, length_each_low, length_low_first) (omega arith)

  contents_in : take (contents_size (length ns)) (sector_of ns) ≡ contents (length ns)
  contents_in =
      ap (take (contents_size (length ns))) sector_runs
      ∙ take_at (contents (length ns)) (blanks ++ (bodies ++ (check ++ tail))) (contents_size (length ns)) (length_contents (length ns))

  after_contents : drop (contents_size (length ns)) (sector_of ns) ≡ blanks ++ (bodies ++ (check ++ tail))
  after_contents =
      ap (drop (contents_size (length ns))) sector_runs
      ∙ drop_at (contents (length ns)) (blanks ++ (bodies ++ (check ++ tail))) (contents_size (length ns)) (length_contents (length ns))

  gap_in : gap (length ns) (sector_of ns) ≡ blanks
  gap_in =
      ap (take (bodies_start - contents_size (length ns))) after_contents
      ∙ take_at blanks (bodies ++ (check ++ tail)) (bodies_start - contents_size (length ns)) long_blanks

  after_gap : drop bodies_start (sector_of ns) ≡ bodies ++ (check ++ tail)
  after_gap =
      let e : contents_size (length ns) + (bodies_start - contents_size (length ns)) ≡ bodies_start = omega arith in
      ap (λ (m : ℕ). drop m (sector_of ns)) (sym e)
      ∙ sym (drop-drop (bodies_start - contents_size (length ns)) (contents_size (length ns)) (sector_of ns))
      ∙ ap (drop (bodies_start - contents_size (length ns))) after_contents
      ∙ drop_at blanks (bodies ++ (check ++ tail)) (bodies_start - contents_size (length ns)) long_blanks

  after_bodies : drop (body_start (length ns)) (sector_of ns) ≡ check ++ tail
  after_bodies =
      sym (drop-drop (length ns * body_size) bodies_start (sector_of ns))
      ∙ ap (drop (length ns * body_size)) after_gap
      ∙ drop_at bodies (check ++ tail) (length ns * body_size) (length_each_low body_size ns)

  rest_in : rest (length ns) (sector_of ns) ≡ tail
  rest_in =
      let e : body_start (length ns) + body_size ≡ body_start (length ns + 1) = omega arith in
      ap (λ (m : ℕ). drop m (sector_of ns)) (sym e)
      ∙ sym (drop-drop body_size (body_start (length ns)) (sector_of ns))
      ∙ ap (drop body_size) after_bodies
      ∙ drop_at check tail body_size (length_low_first body_size (check_number ns))

  -- a sector that was written reads back
  pub check_in_sector_of : check_in (length ns) (sector_of ns) ≡ check_number ns
  unfolding check_in
  check_in_sector_of =
      ap (λ (l : List ℕ). from_low (take body_size l)) after_bodies
      ∙ ap from_low (take_at check tail body_size (length_low_first body_size (check_number ns)))
      ∙ from_low_low_first body_size (check_number ns) (check_small ns)

  pub numbers_in_sector_of : Words ns → numbers_in (length ns) (sector_of ns) ≡ ns
  unfolding numbers_in
  numbers_in_sector_of w = ap (each_from_low body_size (length ns)) after_gap ∙ each_from_low_each_low body_size ns (check ++ tail) w

  pub ask_fields_sector_of : Words ns → ask_fields (length ns) (sector_of ns) ≡ 0
  unfolding ask_fields is_zero
  ask_fields_sector_of w =
      and_then_both _ _ (ask_holds 10 _ (eq-eqb (length (sector_of ns)) sector_size length_sector_of))
      (and_then_both _ _ (ask_holds 10 _ (is_same (contents (length ns)) (take (contents_size (length ns)) (sector_of ns)) (sym contents_in)))
      (and_then_both _ _ (ask_holds 11 _ (also_both _ _
      (ap (every is_zero) gap_in ∙ every_replicate is_zero (bodies_start - contents_size (length ns)) 0 refl)
      (ap (every is_zero) rest_in ∙ every_replicate is_zero (sector_size - body_start (length ns + 1)) 0 refl)))
      (ask_holds 12 _ (eq-eqb (check_in (length ns) (sector_of ns)) (check_number (numbers_in (length ns) (sector_of ns)))
      (check_in_sector_of ∙ ap check_number (sym (numbers_in_sector_of w)))))))

-- what a yes to the questions tells
pub record Sector (n : ℕ) (xs : List ℕ) : Type 0 where
  pub whole : length xs ≡ sector_size
  pub head : contents n ≡ take (contents_size n) xs
  pub gap_blank : every is_zero (gap n xs) ≡ true
  pub rest_blank : every is_zero (rest n xs) ≡ true
  pub checked : check_in n xs ≡ check_number (numbers_in n xs)

pub sector_asked : (n : ℕ) (xs : List ℕ) → ask_fields n xs ≡ 0 → Sector n xs
unfolding ask_fields
sector_asked n xs q =
    let q2 = and_then_right _ _ q in
    let q3 = and_then_right _ _ q2 in
    let b = ask_yes 11 _ (omega arith) (and_then_left _ _ q3) in
    record {
      whole = eqb-true _ _ (ask_yes 10 _ (omega arith) (and_then_left _ _ q));
      head = same_is _ _ (ask_yes 10 _ (omega arith) (and_then_left _ _ q2));
      gap_blank = also_left _ _ b;
      rest_blank = also_right _ _ b;
      checked = eqb-true _ _ (ask_yes 12 _ (omega arith) (and_then_right _ _ q3));
    }

pub length_numbers_in : (n : ℕ) (xs : List ℕ) → length (numbers_in n xs) ≡ n
unfolding numbers_in
length_numbers_in n xs = length_each_from_low body_size n (drop bodies_start xs)

-- no second sector of as many fields reads as the same numbers: a sector is the one of the numbers in it
module _ (n : ℕ) (xs : List ℕ) (few : n ≤ 30) (bytes : Bytes xs) (s : Sector n xs) where
  count : length (numbers_in n xs) ≡ n
  count = length_numbers_in n xs

  blanks_again : replicate (bodies_start - contents_size n) 0 ≡ gap n xs
  blanks_again =
      let l : length (gap n xs) ≡ bodies_start - contents_size n = length_part xs (contents_size n) (bodies_start - contents_size n) (omega arith) in
      ap (λ (k : ℕ). replicate {A = ℕ} k 0) (sym l) ∙ sym (zeros_are (gap n xs) s.gap_blank)

  bodies_again : each_low body_size (numbers_in n xs) ≡ take (n * body_size) (drop bodies_start xs)
  unfolding numbers_in
  bodies_again = each_low_each_from_low body_size n (drop bodies_start xs) (every_drop is_byte bodies_start xs bytes) (simp length-drop (omega arith))

  check_again : low_first body_size (check_number (numbers_in n xs)) ≡ take body_size (drop (body_start n) xs)
  unfolding check_in
  check_again =
      let l : length (take body_size (drop (body_start n) xs)) ≡ body_size = length_part xs (body_start n) body_size (omega arith) in
      ap (low_first body_size) (sym s.checked)
      ∙ rw l at (low_first_from_low (take body_size (drop (body_start n) xs)) (every_take is_byte body_size (drop (body_start n) xs) (every_drop is_byte (body_start n) xs bytes)))

  tail_again : replicate (sector_size - body_start (n + 1)) 0 ≡ rest n xs
  tail_again =
      let l : length (rest n xs) ≡ sector_size - body_start (n + 1) = simp length-drop (omega arith) in
      ap (λ (k : ℕ). replicate {A = ℕ} k 0) (sym l) ∙ sym (zeros_are (rest n xs) s.rest_blank)

  pub sector_of_numbers_in : sector_of (numbers_in n xs) ≡ xs
  sector_of_numbers_in =
      sector_runs (numbers_in n xs) (omega (arith, count))
      ∙ ap (λ (k : ℕ). contents k ++ (replicate (bodies_start - contents_size k) 0 ++ (each_low body_size (numbers_in n xs) ++ (low_first body_size (check_number (numbers_in n xs)) ++ replicate (sector_size - body_start (k + 1)) 0)))) count
      ∙ (λ i. s.head i ++ (blanks_again i ++ (bodies_again i ++ (check_again i ++ tail_again i))))
      ∙ ap (λ (l : List ℕ). take (contents_size n) xs ++ (gap n xs ++ (take (n * body_size) (drop bodies_start xs) ++ l))) behind_check
      ∙ ap (λ (l : List ℕ). take (contents_size n) xs ++ (gap n xs ++ l)) (part_then xs bodies_start (n * body_size))
      ∙ ap (λ (l : List ℕ). take (contents_size n) xs ++ l) behind_gap
      ∙ take-append-drop (contents_size n) xs
    where
      behind_check : take body_size (drop (body_start n) xs) ++ drop (body_start (n + 1)) xs ≡ drop (body_start n) xs
      behind_check =
          let e : body_start (n + 1) ≡ body_start n + body_size = omega arith in
          ap (λ (m : ℕ). take body_size (drop (body_start n) xs) ++ drop m xs) e ∙ part_then xs (body_start n) body_size

      behind_gap : gap n xs ++ drop bodies_start xs ≡ drop (contents_size n) xs
      behind_gap =
          let e : bodies_start ≡ contents_size n + (bodies_start - contents_size n) = omega (arith, few) in
          ap (λ (m : ℕ). gap n xs ++ drop m xs) e ∙ part_then xs (contents_size n) (bodies_start - contents_size n)

pub one_sector : (n : ℕ) (xs ys : List ℕ) → n ≤ 30 → Bytes xs → Bytes ys → ask_fields n xs ≡ 0 → ask_fields n ys ≡ 0 → numbers_in n xs ≡ numbers_in n ys → xs ≡ ys
one_sector n xs ys few b c p q e =
    sym (sector_of_numbers_in n xs few b (sector_asked n xs p))
    ∙ ap sector_of e
    ∙ sector_of_numbers_in n ys few c (sector_asked n ys q)

-- the check number, summed with the carry dropped each time
sum_fold : (a : ℕ) (ns : List ℕ) → a < 2 ^ 64 → fold (λ (s n : ℕ). (s + n) % 2 ^ 64) a ns ≡ (a + sum ns) % 2 ^ 64
unfolding sum
sum_fold a [] h = omega arith
sum_fold a (n ∷ ns) h = sum_fold ((a + n) % 2 ^ 64) ns (omega arith) ∙ omega arith

pub check_fold : (ns : List ℕ) → fold (λ (s n : ℕ). (s + n) % 2 ^ 64) 0 ns ≡ check_number ns
unfolding check_number
check_fold ns = sum_fold 0 ns (omega arith) ∙ ap (λ (k : ℕ). k % 2 ^ 64) (zero-add (sum ns))
