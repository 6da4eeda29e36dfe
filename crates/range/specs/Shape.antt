-- The clauses of `parses_at` as plain facts, with what follows from them: bytes parse exactly where they have this shape. Then where the
-- body of an entry lies. Assumes nothing.
use Rattle.std.specs.Prelude.{ℕ, ◌+◌, ◌*◌, ◌≤◌, ◌<◌, true, false, ◌≡◌, List, [], length, take, drop, get_or}
use Rattle.std.proofs.Common.{sym, ◌∙◌, arith, length-drop, drop-drop, take-take, get_or-take, get_or-drop, eq-eqb, le-leb, eqb-true, leb-true}
use Rattle.std.proofs.Math.Path.{ap}
use Rattle.laws.specs.Choice.{also_left, also_right, also_both, not_so}
use Rattle.laws.specs.Fold.{sum, every, sum_split, sum_take_step}
use Rattle.laws.specs.Cut.{length_cut, cut_at}
use Rattle.laws.specs.Bytes.{is_zero}
use Rattle.laws.specs.LowFirst.{length_each_from_low}
use Rattle.range.specs.Form.{block_size, most_entries, head_size, blocks_for, block_count, entry_count, lengths_at, used_in, entries_at, ok_length, parses_at}
use Rattle.range.specs.Lengths.{each_from_low_one}

pub record Shape (w most : ℕ) (xs : List ℕ) : Type 0 where
  pub whole : length xs ≡ block_count xs * block_size
  pub any : 1 ≤ entry_count xs
  pub few : entry_count xs ≤ most_entries
  pub each : every (ok_length most) (lengths_at w xs) ≡ true
  pub fewest : block_count xs ≡ blocks_for (used_in w xs)
  pub zeros : every is_zero (drop (used_in w xs) xs) ≡ true
  -- these follow
  pub head_in : head_size ≤ length xs
  pub lengths_in : head_size + entry_count xs * w ≤ length xs
  pub bodies_in_is : used_in w xs ≤ length xs

module _ (w most : ℕ) (xs : List ℕ) where
  pub shape_of : length xs ≡ block_count xs * block_size → 1 ≤ entry_count xs → entry_count xs ≤ most_entries → every (ok_length most) (lengths_at w xs) ≡ true
      → block_count xs ≡ blocks_for (used_in w xs) → every is_zero (drop (used_in w xs) xs) ≡ true → Shape w most xs
  shape_of l a f e b z =
      record {
        whole = l;
        any = a;
        few = f;
        each = e;
        fewest = b;
        zeros = z;
        head_in = omega arith;
        lengths_in = omega arith;
        bodies_in_is = omega arith;
      }

  pub shape_facts : parses_at w most xs ≡ true → Shape w most xs
  unfolding parses_at
  shape_facts p =
      let p2 = also_right _ _ p in
      let p3 = also_right _ _ p2 in
      let p4 = also_right _ _ p3 in
      let p5 = also_right _ _ p4 in
      shape_of
      (eqb-true _ _ (also_left _ _ p))
      (leb-true _ _ (also_left _ _ p2))
      (leb-true _ _ (also_left _ _ p3))
      (also_left _ _ p4)
      (eqb-true _ _ (also_left _ _ p5))
      (also_right _ _ p5)

  pub shape_yes : Shape w most xs → parses_at w most xs ≡ true
  unfolding parses_at
  shape_yes s =
      also_both _ _ (eq-eqb (length xs) (block_count xs * block_size) s.whole)
      (also_both _ _ (le-leb 1 (entry_count xs) s.any)
      (also_both _ _ (le-leb (entry_count xs) most_entries s.few)
      (also_both _ _ s.each
      (also_both _ _ (eq-eqb (block_count xs) (blocks_for (used_in w xs)) s.fewest) s.zeros))))

-- bytes of another size don't parse
pub parses_part : (w most : ℕ) (xs : List ℕ) → (length xs ≡ block_count xs * block_size → ⊥) → false ≡ parses_at w most xs
parses_part w most xs h = sym (not_so (parses_at w most xs) (λ p. h (shape_facts w most xs p).whole))

-- the lengths and the entries of a range
module _ (w : ℕ) (xs : List ℕ) where
  pub length_lengths_at : length (lengths_at w xs) ≡ entry_count xs
  unfolding lengths_at
  length_lengths_at = length_each_from_low w (entry_count xs) (drop head_size xs)

  pub length_entries_at : length (entries_at w xs) ≡ entry_count xs
  unfolding entries_at
  length_entries_at = length_cut (lengths_at w xs) (drop (head_size + entry_count xs * w) xs) ∙ length_lengths_at

  -- entry i as a part of the bytes
  pub entry_at : (i : ℕ) → i < entry_count xs
      → get_or (entries_at w xs) i [] ≡ take (get_or (lengths_at w xs) i 0) (drop (head_size + entry_count xs * w + sum (take i (lengths_at w xs))) xs)
  unfolding entries_at
  entry_at i h =
      cut_at (lengths_at w xs) (drop (head_size + entry_count xs * w) xs) i (rw length_lengths_at h)
      ∙ ap (take (get_or (lengths_at w xs) i 0)) (drop-drop (sum (take i (lengths_at w xs))) (head_size + entry_count xs * w) xs)

  -- the same for a reader that has the place and the length in numbers of its own
  pub entry_part : (i a n : ℕ) → i < entry_count xs → a ≡ head_size + entry_count xs * w + sum (take i (lengths_at w xs)) → n ≡ get_or (lengths_at w xs) i 0
      → take n (drop a xs) ≡ get_or (entries_at w xs) i []
  entry_part i a n h p q = (λ j. take (q j) (drop (p j) xs)) ∙ sym (entry_at i h)

-- at one byte each, the lengths are a part of the bytes
pub lengths_at_one : (xs : List ℕ) → head_size + entry_count xs ≤ length xs → lengths_at 1 xs ≡ take (entry_count xs) (drop head_size xs)
unfolding lengths_at
lengths_at_one xs h = each_from_low_one (entry_count xs) (drop head_size xs) (simp length-drop (omega arith))

pub lengths_at_one_take : (xs : List ℕ) (i : ℕ) → head_size + entry_count xs ≤ length xs → i ≤ entry_count xs → take i (lengths_at 1 xs) ≡ take i (drop head_size xs)
lengths_at_one_take xs i h k = ap (take i) (lengths_at_one xs h) ∙ take-take i (entry_count xs) (drop head_size xs) k

pub lengths_at_one_at : (xs : List ℕ) (i : ℕ) → head_size + entry_count xs ≤ length xs → i < entry_count xs → get_or (lengths_at 1 xs) i 0 ≡ get_or xs (head_size + i) 0
lengths_at_one_at xs i h k =
    ap (λ (l : List ℕ). get_or l i 0) (lengths_at_one xs h) ∙ get_or-take (entry_count xs) (drop head_size xs) i 0 k ∙ get_or-drop head_size xs i 0

-- the body of an entry lies within the bytes
pub entry_in : (w most : ℕ) (xs : List ℕ) (i : ℕ) → Shape w most xs → i < entry_count xs
    → head_size + entry_count xs * w + sum (take i (lengths_at w xs)) + get_or (lengths_at w xs) i 0 ≤ length xs
entry_in w most xs i s h =
    let ns : List ℕ = lengths_at w xs in
    omega (arith, sum_take_step ns i (rw (length_lengths_at w xs) h), sum_split (i + 1) ns)
