-- JournalRange, which is absent from the text: a range is a list of blocks, and its form is a record with its laws. Document 01's form is
-- one such record. Then what source 002 says of the journal on disk by means of ranges, in its order.
use Rattle.std.specs.Prelude.{ℕ, ◌≤◌, ◌<◌, Bool, true, ◌≡◌, List, [], ◌∷◌, ◌++◌, length, get_or, replicate}
use Rattle.std.proofs.Math.Option.{Option, none, some}
use Rattle.laws.specs.Fold.{sum, Each}
use Rattle.laws.specs.Cut.{flat, lengths}
use Rattle.layout.specs.declared.Geometry.{Geometry}
use Rattle.layout.specs.Geometry.{num_journal_blocks}
use Rattle.interval.specs.declared.JournalInterval.{JournalInterval}
use Rattle.interval.specs.Journal.{JournalBlock, cyclic_slice, full_range}
pub use Rattle.range.specs.Form.{block_size}

-- a run of bytes
abbrev pub JournalEntry : Type 0
JournalEntry = List ℕ

abbrev pub JournalRange : Type 0
JournalRange = List JournalBlock

abbrev pub journal_range_len : JournalRange → ℕ
journal_range_len jr = length jr

abbrev pub journal_range_concat : JournalRange → JournalRange → JournalRange
journal_range_concat a b = a ++ b

abbrev pub journal_range_empty : JournalRange
journal_range_empty = []

-- n blocks of 4,096 bytes each
abbrev pub SizedBlocks : ℕ → JournalRange → Type 0
SizedBlocks n jr = lengths jr ≡ replicate n block_size

-- a journal whose readable blocks have 4,096 bytes each
abbrev pub Sized : List (Option JournalBlock) → Type 0
Sized journal = (i : ℕ) (b : JournalBlock) → get_or journal i none ≡ some b → length b ≡ block_size

-- an entry has from 1 byte to the most that one may have
pub record EntryFits (most : ℕ) (e : JournalEntry) : Type 0 where
  pub some_byte : 1 ≤ length e
  pub most_bytes : length e ≤ most

abbrev pub EntriesFit : ℕ → List JournalEntry → Type 0
EntriesFit most es = Each (EntryFits most) es

pub record Codec : Type 0 where
  -- the entries of blocks that are ranges one after another; none for any other blocks
  pub parse_journal_range : JournalRange → Option (List JournalEntry)
  -- entries that one range can hold, and that range
  pub good : List JournalEntry → Bool
  pub encode : List JournalEntry → JournalRange
  pub parse_empty : parse_journal_range [] ≡ some []
  pub parse_encode : (es : List JournalEntry) → good es ≡ true → parse_journal_range (encode es) ≡ some es
  pub parse_append : (a b : JournalRange) (es fs : List JournalEntry) → parse_journal_range a ≡ some es → parse_journal_range b ≡ some fs
      → parse_journal_range (a ++ b) ≡ some (es ++ fs)
  pub encode_some : (es : List JournalEntry) → 0 < length (encode es)
  pub encode_size : (es : List JournalEntry) → SizedBlocks (length (encode es)) (encode es)
  -- entries and their bytes are no more than the bytes that they were read from
  pub parse_few : (jr : JournalRange) (es : List JournalEntry) → parse_journal_range jr ≡ some es → length es ≤ length (flat jr)
  pub parse_small : (jr : JournalRange) (es : List JournalEntry) → parse_journal_range jr ≡ some es → sum (lengths es) ≤ length (flat jr)

abbrev pub JournalRangeParses : Codec → JournalRange → List JournalEntry → Type 0
JournalRangeParses C jr es = C.parse_journal_range jr ≡ some es

-- the blocks of a full range, one after another; its body is absent from the text
unfoldable pub concat_fold : List (Option JournalBlock) → JournalRange
concat_fold [] = []
concat_fold (none ∷ s) = concat_fold s
concat_fold (some b ∷ s) = b ∷ concat_fold s

pub record Disk-HasJournalRange (g : Geometry) (journal : List (Option JournalBlock)) (v : JournalInterval) : Type 0 where
  pub size : length journal ≡ num_journal_blocks g
  pub full : full_range (cyclic_slice g journal v) ≡ true

abbrev pub disk_journal_range : Geometry → List (Option JournalBlock) → JournalInterval → JournalRange
disk_journal_range g journal v = concat_fold (cyclic_slice g journal v)

pub record Disk-HasJournal (g : Geometry) (C : Codec) (journal : List (Option JournalBlock)) (v : JournalInterval) : Type 0 where
  pub range : Disk-HasJournalRange g journal v
  pub entries : List JournalEntry
  pub parses : JournalRangeParses C (disk_journal_range g journal v) entries

-- of a journal that is there
abbrev pub disk_journal : {g : Geometry} {C : Codec} {journal : List (Option JournalBlock)} {v : JournalInterval} → Disk-HasJournal g C journal v → List JournalEntry
disk_journal h = h.entries
