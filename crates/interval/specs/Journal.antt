-- The journal as source 002 sees it: a list of N blocks, each readable or not. Its own definitions, in its order; `cyclic_slice` is over any
-- element. The bodies of `full_range` and `concat_fold` are absent from the text: a full range is one whose blocks are all readable.
use Rattle.std.specs.Prelude.{ℕ, ◌+◌, ◌-◌, ◌<◌, Bool, true, false, cond, ◌≡◌, List, [], ◌++◌, leb, ltb, length, take, drop, get_or}
use Rattle.std.proofs.Math.Option.{Option, none, some}
use Rattle.laws.specs.Choice.{also}
use Rattle.laws.specs.Fold.{every}
use Rattle.layout.specs.declared.Geometry.{Geometry}
use Rattle.layout.specs.Geometry.{num_journal_blocks}
use Rattle.interval.specs.declared.JournalInterval.{JournalInterval}
use Rattle.interval.specs.Facts.{ValidJournalInterval}

-- a block's 4,096 bytes
abbrev pub JournalBlock : Type 0
JournalBlock = List ℕ

abbrev pub ValidJournal : Geometry → List (Option JournalBlock) → Type 0
ValidJournal g journal = length journal ≡ num_journal_blocks g

-- block i after the blocks of the interval were written anew
unfoldable pub cyclic_splice_value : Geometry → List (Option JournalBlock) → JournalInterval → List JournalBlock → ℕ → Option JournalBlock
cyclic_splice_value g journal v new i =
    cond (also (leb v.start i) (ltb i (v.start + v.len)))
    (some (get_or new (i - v.start) []))
    (cond (also (leb v.start (i + num_journal_blocks g)) (ltb (i + num_journal_blocks g) (v.start + v.len)))
    (some (get_or new (i + num_journal_blocks g - v.start) []))
    (get_or journal i none))

pub record JournalUpdate (g : Geometry) (journal journal' : List (Option JournalBlock)) (v : JournalInterval) (new : List JournalBlock) : Type 0 where
  pub before_valid : ValidJournal g journal
  pub after_valid : ValidJournal g journal'
  pub interval_valid : ValidJournalInterval g v
  pub len_is : v.len ≡ length new
  pub each : (i : ℕ) → i < length journal → get_or journal' i none ≡ cyclic_splice_value g journal v new i

unfoldable pub cyclic_slice {ℓ} : {A : Type ℓ} → Geometry → List A → JournalInterval → List A
cyclic_slice g s v =
    cond (leb (v.start + v.len) (num_journal_blocks g))
    (take v.len (drop v.start s))
    (drop v.start s ++ take (v.start + v.len - num_journal_blocks g) s)

abbrev pub readable : Option JournalBlock → Bool
readable none = false
readable (some b) = true

unfoldable pub full_range : List (Option JournalBlock) → Bool
full_range s = every readable s
