-- Entries in lent memory that make a range: from 1 to 1,024 of them, and they are held by the bytes beside them. Assumes nothing.
use Rattle.std.specs.Prelude.{ℕ, ◌≤◌, Bool, true, false, ◌≡◌, List, length, leb, Ok, None, Some}
use Rattle.std.proofs.Math.Path.{sym, ap}
use Rattle.std.proofs.Common.{◌∙◌, arith}
use borrow.Author.Tests.{le-leb, leb-true, eqb-true, eqb-false}
use Rattle.laws.specs.Choice.{also, ask, also_left, also_right, also_both, ask_yes, ask_holds, not_so, false_true, ruin}
use Rattle.range.specs.Form.{most_entries, most_entry_length, length_width, used, blocks_for, blocks, Good}
use Rattle.range.specs.Memory.{view, total, good_view, blocks_at_view}
use Rattle.lengths.specs.Entries.{Entries, entries_ok, entries_held, entries_facts, facts_entries, entries_bytes, entries_nothing}
use Rattle.refusal.specs.Refusal.{ok_unless, yes, yes_value}
use Rattle.writer.specs.declared.size.Sized.{Sized}

-- the first n entries make a range: as a test, and as facts
unfoldable pub range_ok : List ℕ → List ℕ → ℕ → Bool
range_ok bytes lens n =
    also (leb 1 n)
    (also (leb n most_entries)
    (entries_ok (length bytes) lens 0 n))

pub record Fits (bytes lens : List ℕ) (n : ℕ) : Type 0 where
  pub any : 1 ≤ n
  pub few : n ≤ most_entries
  pub held : Entries (length bytes) lens 0 n

-- question 4 of them
unfoldable pub ask_entries : List ℕ → List ℕ → ℕ → ℕ
ask_entries bytes lens n = ask 4 (range_ok bytes lens n)

-- the bytes of their bodies and the blocks of their range
abbrev pub size_of : List ℕ → List ℕ → ℕ → Sized
size_of bytes lens n = record { bodies = total lens n; blocks = blocks (view bytes lens n) }

module _ (bytes lens : List ℕ) (n : ℕ) where
  pub range_facts : range_ok bytes lens n ≡ true → Fits bytes lens n
  unfolding range_ok
  range_facts e =
      let e1 = also_right _ _ e in
      record {
        any = leb-true 1 n (also_left _ _ e);
        few = leb-true n most_entries (also_left _ _ e1);
        held = entries_facts _ _ _ _ (also_right _ _ e1);
      }

  pub facts_range : Fits bytes lens n → range_ok bytes lens n ≡ true
  unfolding range_ok
  facts_range f =
      also_both _ _ (le-leb 1 n f.any)
      (also_both _ _ (le-leb n most_entries f.few) (facts_entries _ _ _ _ f.held))

  pub entries_asked : ask_entries bytes lens n ≡ 0 → Fits bytes lens n
  unfolding ask_entries
  entries_asked e = range_facts (ask_yes 4 (range_ok bytes lens n) (omega arith) e)

  pub asked_entries : Fits bytes lens n → ask_entries bytes lens n ≡ 0
  unfolding ask_entries
  asked_entries f = ask_holds 4 (range_ok bytes lens n) (facts_range f)

  -- such entries are good, and their range is as large as their lengths say
  pub fits_good : Fits bytes lens n → Good most_entry_length (view bytes lens n)
  fits_good f = good_view length_width most_entry_length bytes lens n f.held.there f.held.fit f.any f.few f.held.each

  pub fits_blocks : Fits bytes lens n → blocks (view bytes lens n) ≡ blocks_for (used length_width n (total lens n))
  fits_blocks f = blocks_at_view length_width most_entry_length bytes lens n f.held.there f.held.fit

  -- entries that aren't held make no range
  pub unheld : None ≡ entries_held (length bytes) lens 0 n → range_ok bytes lens n ≡ false
  unheld h = not_so (range_ok bytes lens n) (λ e. false_true (sym (entries_nothing _ _ _ _ h) ∙ facts_entries _ _ _ _ (range_facts e).held))

  -- held ones do, and it is as large as they say
  module _ (t b : ℕ) (a : 1 ≤ n) (f : n ≤ most_entries) (h : Some t ≡ entries_held (length bytes) lens 0 n) (hb : b ≡ blocks_for (used length_width n t)) where
    pub held_fits : Fits bytes lens n
    held_fits = record { any = a; few = f; held = (entries_bytes _ _ _ _ t h).0 }

    pub held_size : record { bodies = t; blocks = b } ≡ size_of bytes lens n
    held_size =
        let e = (entries_bytes _ _ _ _ t h).1 in
        λ i. record { bodies = e i; blocks = (hb ∙ ap (λ (k : ℕ). blocks_for (used length_width n k)) e ∙ sym (fits_blocks held_fits)) i }

-- what a size tells
module _ (bytes lens : List ℕ) (n : ℕ) (s : Sized) (h : Ok s ≡ ok_unless (ask_entries bytes lens n) (size_of bytes lens n)) where
  pub size_fits : Fits bytes lens n
  size_fits = entries_asked bytes lens n (yes (ask_entries bytes lens n) s (size_of bytes lens n) h)

  pub size_bodies : s.bodies ≡ total lens n
  size_bodies = ap (λ (z : Sized). z.bodies) (yes_value (ask_entries bytes lens n) s (size_of bytes lens n) h)

  pub size_blocks : s.blocks ≡ blocks (view bytes lens n)
  size_blocks = ap (λ (z : Sized). z.blocks) (yes_value (ask_entries bytes lens n) s (size_of bytes lens n) h)
