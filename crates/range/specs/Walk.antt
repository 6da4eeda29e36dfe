-- A reader's walk from range to range. It stands at a place of the bytes, and what is left from there parses exactly where the whole
-- does; the size of the range in front is the reader's own number n. The ways out, the next turn and the end are a law each. Over the
-- width w of a length and the greatest entry length. Assumes nothing.
use Rattle.std.specs.Prelude.{ℕ, ◌+◌, ◌*◌, ◌≤◌, ◌<◌, Bool, true, ◌≡◌, length, take, drop}
use Rattle.std.proofs.Math.Bool.{false}
use Rattle.std.proofs.Math.Path.{sym, ap}
use Rattle.std.proofs.Common.{◌∙◌, arith, length-drop, take-take, drop-drop, length-take-le}
use mathlib.Core.List.{List, [], ◌++◌, map}
use Rattle.std.proofs.Math.ListN.{length-take}
use Rattle.laws.specs.Choice.{also}
use Rattle.laws.specs.Part.{drop_end, part_of_front}
use Rattle.laws.specs.Fold.{every}
use Rattle.laws.specs.Cut.{flat}
use Rattle.laws.specs.LowFirst.{from_low}
use Rattle.range.specs.Form.{block_size, length_width, head_size, block_count, entry_count, lengths_at, entries_at, parses_at, range_size, ranges_within, ranges, all_parse_at, all_entries_at}
use Rattle.range.specs.Shape.{parses_part, lengths_at_one}
use Rattle.range.specs.Ranges.{ranges_step}

-- the counts and the lengths stand in the first bytes
pub block_count_take : (n : ℕ) (xs : List ℕ) → 2 ≤ n → block_count (take n xs) ≡ block_count xs
unfolding block_count
block_count_take n xs h = ap from_low (take-take 2 n xs h)

pub entry_count_take : (n : ℕ) (xs : List ℕ) → head_size ≤ n → entry_count (take n xs) ≡ entry_count xs
unfolding entry_count
entry_count_take n xs h = ap from_low (part_of_front xs n 2 2 h)

pub lengths_at_take : (n : ℕ) (xs : List ℕ) → head_size + entry_count xs ≤ n → n ≤ length xs → lengths_at length_width (take n xs) ≡ lengths_at length_width xs
lengths_at_take n xs h k =
    let e : entry_count (take n xs) ≡ entry_count xs = entry_count_take n xs (omega arith) in
    lengths_at_one (take n xs) (omega (arith, e, length-take-le n xs k))
    ∙ ap (λ (m : ℕ). take m (drop head_size (take n xs))) e
    ∙ part_of_front xs n head_size (entry_count xs) h
    ∙ sym (lengths_at_one xs (omega arith))

module _ (w most : ℕ) (xs : List ℕ) (at : ℕ) where
  here : at < length xs → 0 < length (drop at xs)
  here h = simp length-drop (omega arith)

  all_step : at < length xs
      → all_parse_at w most (drop at xs)
      ≡ also (parses_at w most (take (range_size (drop at xs)) (drop at xs))) (all_parse_at w most (drop (range_size (drop at xs)) (drop at xs)))
  unfolding all_parse_at every
  all_step h = ap (every (parses_at w most)) (ranges_step (drop at xs) (here h))

  -- the end
  pub all_done : length xs ≤ at → all_parse_at w most (drop at xs) ≡ all_parse_at w most xs → true ≡ all_parse_at w most xs
  unfolding all_parse_at ranges ranges_within every
  all_done h e = ap (λ (l : List ℕ). every (parses_at w most) (ranges l)) (sym (drop_end xs at h)) ∙ e

  pub all_end : length xs ≤ at → all_entries_at w (drop at xs) ≡ []
  unfolding all_entries_at ranges ranges_within flat
  all_end h = ap (λ (l : List ℕ). flat (map (entries_at w) (ranges l))) (drop_end xs at h)

  -- a range of no blocks
  pub all_empty : at < length xs → all_parse_at w most (drop at xs) ≡ all_parse_at w most xs → block_count (drop at xs) ≡ 0 → false ≡ all_parse_at w most xs
  unfolding also
  all_empty h e z = ap (λ (b : Bool). also b (all_parse_at w most (drop (range_size (drop at xs)) (drop at xs)))) bad ∙ sym (all_step h) ∙ e
    where
      bad : false ≡ parses_at w most (take (range_size (drop at xs)) (drop at xs))
      bad =
          parses_part w most (take (range_size (drop at xs)) (drop at xs))
          (λ l.
          let c : block_count (take (range_size (drop at xs)) (drop at xs)) ≡ block_count (drop at xs) = block_count_take (range_size (drop at xs)) (drop at xs) (omega arith) in
          omega (arith, here h, length-take (range_size (drop at xs)) (drop at xs), z))

  module _ (n : ℕ) (h : at < length xs) (k : 0 < n) (s : n ≡ block_count (drop at xs) * block_size) where
    size : range_size (drop at xs) ≡ n
    size = omega arith

    all_next : all_parse_at w most (drop at xs) ≡ also (parses_at w most (take n (drop at xs))) (all_parse_at w most (drop (at + n) xs))
    all_next =
        all_step h
        ∙ (λ i. also (parses_at w most (take (size i) (drop at xs))) (all_parse_at w most (drop (size i) (drop at xs))))
        ∙ ap (λ (l : List ℕ). also (parses_at w most (take n (drop at xs))) (all_parse_at w most l)) (drop-drop n at xs)

    -- this one doesn't parse; this one does
    pub all_no : all_parse_at w most (drop at xs) ≡ all_parse_at w most xs → parses_at w most (take n (drop at xs)) ≡ false → false ≡ all_parse_at w most xs
    unfolding also
    all_no e q = (λ i. also (sym q i) (all_parse_at w most (drop (at + n) xs))) ∙ sym all_next ∙ e

    pub all_yes : all_parse_at w most (drop at xs) ≡ all_parse_at w most xs → parses_at w most (take n (drop at xs)) ≡ true
        → all_parse_at w most (drop (at + n) xs) ≡ all_parse_at w most xs
    unfolding also
    all_yes e q = (λ i. also (sym q i) (all_parse_at w most (drop (at + n) xs))) ∙ sym all_next ∙ e

    -- its entries come first
    pub entries_next : all_entries_at w (drop at xs) ≡ entries_at w (take n (drop at xs)) ++ all_entries_at w (drop (at + n) xs)
    unfolding all_entries_at flat
    entries_next =
        ap (λ (l : List (List ℕ)). flat (map (entries_at w) l)) (ranges_step (drop at xs) (here h))
        ∙ (λ i. entries_at w (take (size i) (drop at xs)) ++ flat (map (entries_at w) (ranges (drop (size i) (drop at xs)))))
        ∙ ap (λ (l : List ℕ). entries_at w (take n (drop at xs)) ++ flat (map (entries_at w) (ranges l))) (drop-drop n at xs)
