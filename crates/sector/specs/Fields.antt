-- A sector's contents as the code has them, a row of bytes: what the writer's runs make, and the questions as the reader asks them. Over
-- how many numbers there are. Assumes nothing.
use Rattle.std.specs.Prelude.{◌≡◌, ℕ, ◌+◌, ◌-◌, ◌*◌, ◌≤◌, min, List, [], ◌∷◌, ◌++◌, length, take, drop, replicate, ◌==◌, ◌≢◌, refl}
use Rattle.std.proofs.Math.Path.{sym}
use Rattle.std.proofs.Common.{◌∙◌, ap, arith, length-append, eq-eqb, ne_eqb}
use Rattle.std.proofs.lemmas.List.{length-replicate}
use Rattle.laws.specs.Choice.{also, and_then, ask, asks_no, asks_yes}
use Rattle.laws.specs.Digits.{digits}
use Rattle.laws.specs.Fold.{every, same}
use Rattle.laws.specs.Bytes.{is_zero}
use Rattle.laws.specs.LowFirst.{from_low, low_first, each_low, length_low_first, length_each_low}
use Rattle.laws.specs.Part.{tab, tail_is}
use Rattle.laws.specs.Splice.{clipped, clipped_next, clipped_whole}
use Rattle.sector.specs.Sector.{number_count, sector_size, bodies_start, body_size, body_start, contents_size, contents, check_number, sector_of, numbers_in, check_in, ask_fields}

-- a row of bytes is the contents of n numbers and the check number, and they end before the bodies begin
pub record Fields (bytes : List ℕ) (n : ℕ) : Type 0 where
  pub are : bytes ≡ contents n
  pub long : length bytes ≡ contents_size n
  pub few : n ≤ 30

-- the contents of a superblock's sector
pub five_fields : Fields (6 ∷ 0 ∷ 64 ∷ 0 ∷ 72 ∷ 0 ∷ 80 ∷ 0 ∷ 88 ∷ 0 ∷ 96 ∷ 0 ∷ 104 ∷ 0 ∷ []) number_count
unfolding contents each_low digits tab
five_fields = record { are = refl; long = refl; few = omega arith }

-- the writer's runs, one after another
pub put_runs : (bytes ns d x1 x2 x3 x4 x5 : List ℕ) (c : ℕ) → Fields bytes (length ns) → length d ≡ sector_size → c ≡ check_number ns
    → x1 ≡ clipped d 0 bytes
    → x2 ≡ clipped x1 (length bytes) (replicate (bodies_start - length bytes) 0)
    → x3 ≡ clipped x2 bodies_start (each_low body_size ns)
    → x4 ≡ clipped x3 (bodies_start + length ns * body_size) (low_first body_size c)
    → x5 ≡ clipped x4 (bodies_start + length ns * body_size + body_size) (replicate (sector_size - (bodies_start + length ns * body_size + body_size)) 0)
    → x5 ≡ sector_of ns
unfolding sector_of
put_runs bytes ns d x1 x2 x3 x4 x5 c f l ec e1 e2 e3 e4 e5 =
    clipped_next d x4 x5 (bytes ++ blank ++ bodies ++ check) last (bodies_start + length ns * body_size + body_size) (omega (arith, f.few, f.long, n1, n2, n3))
    (clipped_next d x3 x4 (bytes ++ blank ++ bodies) check (bodies_start + length ns * body_size) (omega (arith, f.few, f.long, n1, n2))
    (clipped_next d x2 x3 (bytes ++ blank) bodies bodies_start (omega (arith, f.few, f.long, n1))
    (clipped_next d x1 x2 bytes blank (length bytes) refl e1 e2)
    e3)
    e4)
    e5
    ∙ clipped_whole d (bytes ++ blank ++ bodies ++ check ++ last) (omega (arith, f.few, f.long, l, n1, n2, n3, n4))
    ∙ (λ i. f.are i ++ replicate (bodies_start - f.long i) 0 ++ bodies ++ ap (low_first body_size) ec i ++ replicate (sector_size - end i) 0)
  where
    blank : List ℕ
    blank = replicate (bodies_start - length bytes) 0

    bodies : List ℕ
    bodies = each_low body_size ns

    check : List ℕ
    check = low_first body_size c

    last : List ℕ
    last = replicate (sector_size - (bodies_start + length ns * body_size + body_size)) 0

    end : bodies_start + length ns * body_size + body_size ≡ body_start (length ns + 1)
    end = omega arith

    n1 : length (bytes ++ blank) ≡ length bytes + (bodies_start - length bytes)
    n1 = simp (length-append, length-replicate)

    n2 : length (bytes ++ blank ++ bodies) ≡ length (bytes ++ blank) + length ns * body_size
    n2 = length-append (bytes ++ blank) bodies ∙ ap (λ (m : ℕ). length (bytes ++ blank) + m) (length_each_low body_size ns)

    n3 : length (bytes ++ blank ++ bodies ++ check) ≡ length (bytes ++ blank ++ bodies) + body_size
    n3 = length-append (bytes ++ blank ++ bodies) check ∙ ap (λ (m : ℕ). length (bytes ++ blank ++ bodies) + m) (length_low_first body_size c)

    n4 : length (bytes ++ blank ++ bodies ++ check ++ last) ≡ length (bytes ++ blank ++ bodies ++ check) + (sector_size - (bodies_start + length ns * body_size + body_size))
    n4 = length-append (bytes ++ blank ++ bodies ++ check) last ∙ ap (λ (m : ℕ). length (bytes ++ blank ++ bodies ++ check) + m) (length-replicate (sector_size - (bodies_start + length ns * body_size + body_size)) 0)

-- the questions as the reader asks them
pub ask_length_is : (n : ℕ) (xs : List ℕ) → (length xs ≢ sector_size) → 10 ≡ ask_fields n xs
unfolding ask_fields
ask_length_is n xs h = asks_no 10 (length xs == sector_size) _ (omega arith) (ne_eqb (length xs) sector_size h)

module _ (bytes xs : List ℕ) (n : ℕ) (f : Fields bytes n) (whole : length xs ≡ sector_size) where
  -- where the bodies end
  abbrev end : ℕ
  end = bodies_start + n * body_size + body_size

  pub ask_parts : ask_fields n xs
      ≡ and_then (ask 10 (same bytes (take (length bytes - 0) xs)))
      (and_then (ask 11 (also (every is_zero (take (bodies_start - length bytes) (drop (length bytes) xs))) (every is_zero (take (sector_size - end) (drop end xs)))))
      (ask 12 (from_low (take (min body_size 8) (drop (bodies_start + n * body_size) xs)) == check_number (numbers_in n xs))))
  unfolding ask_fields check_in
  ask_parts =
      asks_yes 10 (length xs == sector_size) _ (eq-eqb (length xs) sector_size whole)
      ∙ (λ i.
      and_then (ask 10 (same (sym f.are i) (take (size i) xs)))
      (and_then (ask 11 (also (every is_zero (take (bodies_start - sym f.long i) (drop (sym f.long i) xs))) (every is_zero (tail i))))
      (ask 12 (from_low (take body_size (drop (body_start n) xs)) == check_number (numbers_in n xs)))))
    where
      size : contents_size n ≡ length bytes - 0
      size = omega (arith, f.long)

      ends : body_start (n + 1) ≡ end
      ends = omega arith

      tail : drop (body_start (n + 1)) xs ≡ take (sector_size - end) (drop end xs)
      tail = ap (λ (m : ℕ). drop m xs) ends ∙ sym (ap (λ (m : ℕ). take (m - end) (drop end xs)) (sym whole) ∙ tail_is xs end)
