-- The walk over the rows: does none overlap another? At row i, of which `b` was answered.
use Rattle.std.specs.Prelude.{ℕ, ◌+◌, ◌-◌, ◌≤◌, ◌<◌, Bool, true, false, ◌≡◌, length, take, drop, get_or}
use Rattle.std.proofs.Math.Path.{sym, ap}
use Rattle.std.proofs.Common.{◌∙◌}
use mathlib.Core.List.{List}
use Rattle.laws.specs.Choice.{also, false_also, true_also}
use Rattle.laws.specs.Fold.{every}
use Rattle.laws.specs.Part.{drop_step, drop_end, tail_is}
use Rattle.interval.specs.declared.JournalInterval.{JournalInterval}
use Rattle.joined.specs.Apart.{apart_from, apart}

module _ (xs : List JournalInterval) (i : ℕ) (d : JournalInterval) (h : i < length xs) (b : Bool)
    (q : b ≡ every (apart_from (get_or xs i d)) (take (length xs - (i + 1)) (drop (i + 1) xs))) (e : apart (drop i xs) ≡ apart xs) where
  told : also b (apart (drop (i + 1) xs)) ≡ apart xs
  unfolding apart
  told =
      ap (λ (a : Bool). also a (apart (drop (i + 1) xs))) (q ∙ ap (every (apart_from (get_or xs i d))) (tail_is xs (i + 1)))
      ∙ sym (ap apart (drop_step xs i d h))
      ∙ e

  pub apart_no : b ≡ false → false ≡ apart xs
  apart_no f = sym (ap (λ (a : Bool). also a (apart (drop (i + 1) xs))) f ∙ false_also (apart (drop (i + 1) xs))) ∙ told

  pub apart_yes : b ≡ true → apart (drop (i + 1) xs) ≡ apart xs
  apart_yes f = sym (ap (λ (a : Bool). also a (apart (drop (i + 1) xs))) f ∙ true_also (apart (drop (i + 1) xs))) ∙ told

pub apart_end : (xs : List JournalInterval) (i : ℕ) → length xs ≤ i → apart (drop i xs) ≡ apart xs → true ≡ apart xs
unfolding apart
apart_end xs i h e = sym (ap apart (drop_end xs i h)) ∙ e
