-- Ranges one after another as blocks: how many they are, that they parse to their entries in order, and that a full piece of the journal
-- is the blocks that were read from it.
use Rattle.std.specs.Prelude.{ℕ, ◌+◌, true, ◌≡◌}
use Rattle.std.proofs.Math.Path.{refl, ap}
use Rattle.std.proofs.Common.{sym, ◌∙◌}
use mathlib.Core.List.{List, [], ◌∷◌, ◌++◌, append_assoc, append-nil, map}
use Rattle.std.proofs.Math.Option.{Option, none, some}
use native.Mathlib.Omega.{arith}
use Rattle.std.proofs.Math.ListN.{length, length-append}
use Rattle.laws.specs.Choice.{also, false_true}
use Rattle.laws.specs.Fold.{every, Each, every_append}
use Rattle.laws.specs.Cut.{flat}
use Rattle.interval.specs.Journal.{JournalBlock, readable, full_range}
use Rattle.codec.specs.Codec.{JournalEntry, JournalRange, Codec, concat_fold}

-- a range is the entries that one journal write sends
abbrev pub Range : Type 0
Range = List JournalEntry

-- the blocks that ranges take
unfoldable pub blocks : Codec → List Range → ℕ
blocks C [] = 0
blocks C (r ∷ rs) = length (C.encode r) + blocks C rs

-- one range can hold the entries
abbrev pub Good : Codec → Range → Type 0
Good C r = C.good r ≡ true

-- the blocks of ranges
unfoldable pub codes : Codec → List Range → JournalRange
codes C [] = []
codes C (r ∷ rs) = C.encode r ++ codes C rs

-- a journal's blocks, all readable
abbrev pub whole : JournalRange → List (Option JournalBlock)
whole bs = map some bs

module _ (C : Codec) where
  pub codes_none : codes C [] ≡ []
  unfolding codes
  codes_none = refl

  pub codes_one : (r : Range) → codes C (r ∷ []) ≡ C.encode r
  unfolding codes
  codes_one r = append-nil (C.encode r)

  pub codes_append : (rs qs : List Range) → codes C (rs ++ qs) ≡ codes C rs ++ codes C qs
  unfolding codes
  codes_append [] qs = refl
  codes_append (r ∷ rs) qs = rw (codes_append rs qs) (sym (append_assoc (C.encode r) (codes C rs) (codes C qs)))

  pub length_codes : (rs : List Range) → length (codes C rs) ≡ blocks C rs
  unfolding codes blocks
  length_codes [] = refl
  length_codes (r ∷ rs) = length-append (C.encode r) (codes C rs) ∙ ap (λ (n : ℕ). length (C.encode r) + n) (length_codes rs)

  pub blocks_none : blocks C [] ≡ 0
  unfolding blocks
  blocks_none = refl

  pub blocks_one : (r : Range) → blocks C (r ∷ []) ≡ length (C.encode r)
  unfolding blocks
  blocks_one r = omega arith

  pub blocks_append : (rs qs : List Range) → blocks C (rs ++ qs) ≡ blocks C rs + blocks C qs
  unfolding blocks
  blocks_append [] qs = omega arith
  blocks_append (r ∷ rs) qs = let h = blocks_append rs qs in omega arith

  pub parse_codes : (rs : List Range) → Each (Good C) rs → C.parse_journal_range (codes C rs) ≡ some (flat rs)
  unfolding codes flat
  parse_codes [] h = C.parse_empty
  parse_codes (r ∷ rs) h = C.parse_append (C.encode r) (codes C rs) r (flat rs) (C.parse_encode r h.0) (parse_codes rs h.1)

-- two pieces are readable together where each is
pub full_append : (a b : List (Option JournalBlock)) → full_range (a ++ b) ≡ also (full_range a) (full_range b)
unfolding full_range
full_append a b = every_append readable a b

-- reading gives the blocks back, and no other blocks are the same piece
pub full_whole : (s : List (Option JournalBlock)) → full_range s ≡ true → whole (concat_fold s) ≡ s
unfolding full_range every also concat_fold
full_whole [] e = refl
full_whole (none ∷ s) e = false_true e
full_whole (some b ∷ s) e = ap (λ (l : List (Option JournalBlock)). some b ∷ l) (full_whole s e)

pub whole_full : (bs : JournalRange) → full_range (whole bs) ≡ true
unfolding full_range every also
whole_full [] = refl
whole_full (b ∷ bs) = whole_full bs

pub whole_read : (bs : JournalRange) → concat_fold (whole bs) ≡ bs
unfolding concat_fold
whole_read [] = refl
whole_read (b ∷ bs) = ap (λ (l : JournalRange). b ∷ l) (whole_read bs)

pub whole_same : (a b : JournalRange) → whole a ≡ whole b → a ≡ b
whole_same a b e = sym (whole_read a) ∙ ap concat_fold e ∙ whole_read b
