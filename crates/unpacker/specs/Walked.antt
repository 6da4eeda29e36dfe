-- A walk from range to range: what was counted so far, and that what is left parses exactly where the whole does. Assumes nothing.
use Rattle.std.specs.Prelude.{None, Ok, Err}
use Rattle.std.specs.Prelude.{ℕ, ◌+◌, ◌-◌, ◌≤◌, ◌<◌, Bool, true, false, ◌≡◌, refl, take, drop}
use Rattle.std.proofs.Common.{sym, ◌∙◌, arith, length-append, length-drop}
use Rattle.std.proofs.Math.Path.{ap}
use mathlib.Core.List.{List, [], ◌++◌}
use Rattle.std.proofs.Math.ListN.{length}
use Rattle.laws.specs.Choice.{ask, split_eq, split_bool, false_true}
use Rattle.laws.specs.Part.{tail_is}
use Rattle.laws.specs.Fold.{sum, sum_append}
use Rattle.laws.specs.Cut.{lengths, lengths_append}
use Rattle.range.specs.Form.{Entry, most_entry_length, length_width, block_count, entries, parses, range_size, all_entries, all_parse}
use Rattle.range.specs.Walk.{all_done, all_end, all_empty, all_no, all_yes, entries_next}
use Rattle.refusal.specs.declared.Refusal.TheVariants as no
use Rattle.reader.specs.Answer.{scanned}
use Rattle.reader.specs.Front.{front_range, front_entries, InFront, front_of, Fronted, front_none}

-- n entries with t bytes stand before the place `at`
pub record Walked (xs : List ℕ) (at n t : ℕ) : Type 0 where
  pub within : at ≤ length xs
  pub parse : all_parse (drop at xs) ≡ all_parse xs
  pub count : n + length (all_entries (drop at xs)) ≡ length (all_entries xs)
  pub bytes : t + sum (lengths (all_entries (drop at xs))) ≡ sum (lengths (all_entries xs))
  pub room : n + t ≤ at

pub walked_none : (xs : List ℕ) → Walked xs 0 0 0
walked_none xs = record { within = omega arith; parse = refl; count = omega arith; bytes = omega arith; room = omega arith }

module _ (xs : List ℕ) (at n t : ℕ) (w : Walked xs at n t) where
  -- the end
  pub walked_all : length xs ≤ at → Ok (record { entries = n; bytes = t }) ≡ scanned (ask 7 (all_parse xs)) (all_entries xs)
  unfolding ask lengths sum
  walked_all h =
      let e : all_entries (drop at xs) ≡ [] = all_end length_width most_entry_length xs at h in
      let k : n ≡ length (all_entries xs) = omega (arith, w.count, ap length e) in
      let b : t ≡ sum (lengths (all_entries xs)) = omega (arith, w.bytes, ap (λ (l : List Entry). sum (lengths l)) e) in
      (λ i. Ok (record { entries = k i; bytes = b i }))
      ∙ ap (λ (p : Bool). scanned (ask 7 p) (all_entries xs)) (all_done length_width most_entry_length xs at h w.parse)

  module _ (h : at < length xs) where
    -- no range stands here
    walked_bad : parses (front_range (drop at xs)) ≡ false → false ≡ all_parse xs
    walked_bad p =
        split_eq (block_count (drop at xs)) 0
        (λ z. all_empty length_width most_entry_length xs at h w.parse z)
        (λ z. all_no length_width most_entry_length xs at (range_size (drop at xs)) h (omega arith) (omega arith) w.parse p)

    pub walked_no : None ≡ front_of (drop at xs) → Err no.Parse ≡ scanned (ask 7 (all_parse xs)) (all_entries xs)
    unfolding ask
    walked_no e = ap (λ (p : Bool). scanned (ask 7 p) (all_entries xs)) (walked_bad (front_none (drop at xs) e))

    -- one stands here where all parse
    pub walked_here : all_parse xs ≡ true → InFront (drop at xs)
    walked_here p =
        split_bool (parses (front_range (drop at xs))) (λ q. q) (λ q. false_true (walked_bad q ∙ p))

    -- the next turn
    module _ (p : InFront (drop at xs)) (size e b : ℕ) (f : Fronted (drop at xs) size e b) where
      pub entries_here : all_entries (drop at xs) ≡ front_entries (drop at xs) ++ all_entries (drop (at + size) xs)
      entries_here =
          entries_next length_width most_entry_length xs at size h f.some f.blocks
          ∙ ap (λ (m : ℕ). entries (take m (drop at xs)) ++ all_entries (drop (at + size) xs)) f.size_is

      pub walked_next : Walked xs (at + size) (n + e) (t + b)
      walked_next =
          let q : parses (take size (drop at xs)) ≡ true = ap (λ (m : ℕ). parses (take m (drop at xs))) f.size_is ∙ p in
          let rest : List Entry = all_entries (drop (at + size) xs) in
          let c : length (all_entries (drop at xs)) ≡ e + length rest
          = ap length entries_here ∙ length-append (front_entries (drop at xs)) rest ∙ ap (λ (m : ℕ). m + length rest) (sym f.count) in
          let s : sum (lengths (all_entries (drop at xs))) ≡ b + sum (lengths rest)
          = ap (λ (l : List Entry). sum (lengths l)) entries_here
          ∙ ap sum (lengths_append (front_entries (drop at xs)) rest)
          ∙ sum_append (lengths (front_entries (drop at xs))) (lengths rest)
          ∙ ap (λ (m : ℕ). m + sum (lengths rest)) (sym f.bytes) in
          record {
            within = omega (arith, length-drop at xs);
            parse = all_yes length_width most_entry_length xs at size h f.some f.blocks w.parse q;
            count = omega arith;
            bytes = omega arith;
            room = omega arith;
          }

-- what stands in front of the rest, as a reader has it
pub front_rest : (xs : List ℕ) (at : ℕ) → front_of (take (length xs - at) (drop at xs)) ≡ front_of (drop at xs)
front_rest xs at = ap front_of (tail_is xs at)
