-- One entry of a range: what is asked of its index, and where its body lies. Assumes nothing.
use Rattle.std.specs.Prelude.{ℕ, ◌+◌, ◌*◌, ◌-◌, ◌≤◌, ◌<◌, ◌≡◌, take, drop, ltb}
use Rattle.std.proofs.Math.Path.{sym, ap}
use Rattle.std.proofs.Common.{◌∙◌}
use mathlib.Core.List.{List, []}
use native.Mathlib.Omega.{arith}
use Rattle.std.proofs.Math.ListN.{length, get_or}
use borrow.Author.Tests.{ltb-true}
use Rattle.laws.specs.Choice.{ask, and_then, unless, and_then_left, and_then_right, ask_yes, unless_done}
use Rattle.laws.specs.Fold.{sum, sum_split}
use Rattle.range.specs.Form.{most_entry_length, length_width, head_size, entry_count, lengths_at, entries, parses}
use Rattle.range.specs.Shape.{Shape, shape_facts, length_entries_at, lengths_at_one_take, lengths_at_one_at, entry_part, entry_in}

-- questions 7 and 4 of an entry
unfoldable pub ask_entry : List ℕ → ℕ → ℕ
ask_entry xs i = and_then (ask 7 (parses xs)) (ask 4 (ltb i (length (entries xs))))

-- body i begins behind the head, the lengths and the bodies before it
unfoldable pub body_start : ℕ → List ℕ → ℕ → ℕ
body_start w xs i = head_size + entry_count xs * w + sum (take i (lengths_at w xs))

module _ (xs : List ℕ) (i : ℕ) where
  -- both questions were answered yes
  module _ (e : ask_entry xs i ≡ 0) where
    pub entry_shape : Shape length_width most_entry_length xs
    unfolding ask_entry
    entry_shape = shape_facts length_width most_entry_length xs (ask_yes 7 (parses xs) (omega arith) (and_then_left (ask 7 (parses xs)) _ e))

    pub entry_index : i < entry_count xs
    unfolding ask_entry
    entry_index =
        let l : i < length (entries xs) = ltb-true i (length (entries xs)) (ask_yes 4 _ (omega arith) (and_then_right (ask 7 (parses xs)) _ e)) in
        omega (arith, length_entries_at length_width xs)

    -- the body is the part of the bytes from its start on, as long as its length says
    pub entry_body : (a z : ℕ) → a ≡ body_start length_width xs i → z ≡ a + get_or xs (head_size + i) 0
        → take (z - a) (drop a xs) ≡ unless (ask_entry xs i) [] (get_or (entries xs) i [])
    unfolding body_start
    entry_body a z p q =
        let s = entry_shape in
        let h = entry_index in
        let n : z - a ≡ get_or xs (head_size + i) 0 = omega arith in
        entry_part length_width xs i a (z - a) h p (n ∙ sym (lengths_at_one_at xs i (omega arith) h))
        ∙ sym (unless_done (ask_entry xs i) [] (get_or (entries xs) i []) e)

-- the start in a reader's own sum, and that a body lies within the bytes
module _ (xs : List ℕ) (i : ℕ) (s : Shape length_width most_entry_length xs) where
  pub start_is : (e t : ℕ) → i ≤ entry_count xs → e ≡ entry_count xs → t ≡ sum (take (head_size + i - head_size) (drop head_size xs))
      → head_size + e + t ≡ body_start length_width xs i
  unfolding body_start
  start_is e t h p q =
      let n : head_size + i - head_size ≡ i = omega arith in
      let k : t ≡ sum (take i (lengths_at length_width xs))
      = q ∙ ap (λ (m : ℕ). sum (take m (drop head_size xs))) n ∙ ap sum (sym (lengths_at_one_take xs i (omega arith) h)) in
      omega arith

  pub body_within : i < entry_count xs → body_start length_width xs i + get_or xs (head_size + i) 0 ≤ length xs
  unfolding body_start
  body_within h = omega (arith, entry_in length_width most_entry_length xs i s h, lengths_at_one_at xs i (omega arith) h)

  pub start_within : i ≤ entry_count xs → body_start length_width xs i ≤ length xs
  unfolding body_start
  start_within h = omega (arith, sum_split i (lengths_at length_width xs))
