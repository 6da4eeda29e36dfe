-- Where the bodies of a range begin: the first behind the head and the lengths, each other one behind the body before it. Over the width w
-- of a length. Assumes nothing.
use Rattle.std.specs.Prelude.{ℕ, zero, suc, ◌+◌, ◌*◌, ◌≤◌, ◌<◌, ◌≡◌, List, [], ◌∷◌, length, take, drop, get_or, set, eqb}
use Rattle.std.proofs.Math.Path.{refl}
use Rattle.std.proofs.Common.{sym, ◌∙◌, ap, zero-add, add-zero, add_assoc, arith, take_all}
use Rattle.laws.specs.Choice.{ask, and_then}
use Rattle.laws.specs.Splice.{splice, copy_turn}
use Rattle.laws.specs.Fold.{sum, sum_take_step}
use Rattle.range.specs.Form.{most_entries, most_entry_length, length_width, head_size, entry_count, lengths_at, entries_at, parses}
use Rattle.range.specs.Shape.{Shape, length_lengths_at, lengths_at_one_at, entry_part}
use Rattle.reader.specs.Entry.{body_start}

-- the starts of bodies of the given lengths, the first at a
unfoldable pub starts_from : ℕ → List ℕ → List ℕ
starts_from a [] = []
starts_from a (n ∷ ns) = a ∷ starts_from (a + n) ns

unfoldable pub body_starts : ℕ → List ℕ → List ℕ
body_starts w xs = starts_from (head_size + entry_count xs * w) (lengths_at w xs)

-- questions 1 and 7 of a listing
unfoldable pub ask_list : List ℕ → List ℕ → ℕ
ask_list xs starts = and_then (ask 1 (eqb (length starts) most_entries)) (ask 7 (parses xs))

length_starts_from : (a : ℕ) (ns : List ℕ) → length (starts_from a ns) ≡ length ns
unfolding starts_from
length_starts_from a [] = refl
length_starts_from a (n ∷ ns) = ap suc (length_starts_from (a + n) ns)

starts_from_at : (a : ℕ) (ns : List ℕ) (i : ℕ) → i < length ns → get_or (starts_from a ns) i 0 ≡ a + sum (take i ns)
unfolding starts_from sum
starts_from_at a [] i h = absurd (omega arith)
starts_from_at a (n ∷ ns) zero h = sym (add-zero a)
starts_from_at a (n ∷ ns) (suc i) h = starts_from_at (a + n) ns i (omega arith) ∙ add_assoc a n (sum (take i ns))

-- the starts of a range: one for each entry, and each behind the sum of the lengths before it
module _ (w : ℕ) (xs : List ℕ) where
  pub length_body_starts : length (body_starts w xs) ≡ entry_count xs
  unfolding body_starts
  length_body_starts = length_starts_from (head_size + entry_count xs * w) (lengths_at w xs) ∙ length_lengths_at w xs

  pub body_starts_at : (i : ℕ) → i < entry_count xs → get_or (body_starts w xs) i 0 ≡ body_start w xs i
  unfolding body_starts body_start
  body_starts_at i h = starts_from_at (head_size + entry_count xs * w) (lengths_at w xs) i (rw (length_lengths_at w xs) h)

  -- each start is where the entry's body lies
  pub body_listed : (i : ℕ) → i < entry_count xs → take (get_or (lengths_at w xs) i 0) (drop (get_or (body_starts w xs) i 0) xs) ≡ get_or (entries_at w xs) i []
  unfolding body_start
  body_listed i h = entry_part w xs i (get_or (body_starts w xs) i 0) (get_or (lengths_at w xs) i 0) h (body_starts_at i h) refl

  -- the next turn of a listing, and its end
  pub list_turn : (x d : List ℕ) (j v : ℕ) → x ≡ splice d 0 (take j (body_starts w xs)) → v ≡ body_start w xs j → j < entry_count xs → j < length d
      → set x j v ≡ splice d 0 (take (j + 1) (body_starts w xs))
  list_turn x d j v e q h k =
      (λ i. set x (sym (zero-add j) i) ((q ∙ sym (body_starts_at j h)) i))
      ∙ copy_turn x d 0 (body_starts w xs) j 0 e (rw length_body_starts h) (omega arith)

  pub list_end : (x d : List ℕ) (j : ℕ) → x ≡ splice d 0 (take j (body_starts w xs)) → entry_count xs ≤ j → x ≡ splice d 0 (body_starts w xs)
  list_end x d j e h = e ∙ ap (splice d 0) (take_all j (body_starts w xs) (rw length_body_starts h))

-- the first start, and the next one, in a reader's own sum
module _ (xs : List ℕ) where
  pub first_start : (n : ℕ) → n ≡ entry_count xs → head_size + n ≡ body_start length_width xs 0
  unfolding body_start sum
  first_start n e = let none : sum (take 0 (lengths_at length_width xs)) ≡ 0 = refl in omega (arith, e, none)

  pub next_start : (i a b : ℕ) → Shape length_width most_entry_length xs → i < entry_count xs → a ≡ body_start length_width xs i → b ≡ a + get_or xs (head_size + i) 0 → b ≡ body_start length_width xs (i + 1)
  unfolding body_start
  next_start i a b s h p q =
      omega (arith, p, q, sum_take_step (lengths_at length_width xs) i (omega (arith, h, length_lengths_at length_width xs)), lengths_at_one_at xs i (omega arith) h)
