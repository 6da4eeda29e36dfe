-- The range, the one form that entries have on disk: block count (2 bytes, low first), entry count (2 bytes, low first), the length of
-- each entry, the bodies back to back, then zeros up to the end of the last block. Any other form doesn't parse. Each definition takes
-- the width of a length in bytes, `w`, and the greatest entry length, `most`; the format is these at the constants below. Assumes nothing.
use Rattle.std.specs.Prelude.{ℕ, zero, suc, ◌+◌, ◌*◌, ◌-◌, ◌/◌, ◌≤◌, max, Bool, true, cond, ◌≡◌, List, [], ◌∷◌, ◌++◌, map, length, take, drop, replicate, leb, eqb}
use Rattle.std.proofs.Math.Option.{Option, none, some}
use Rattle.laws.specs.Choice.{also}
use Rattle.laws.specs.Fold.{sum, every}
use Rattle.laws.specs.Cut.{cut, flat, lengths}
use Rattle.laws.specs.Bytes.{is_zero}
use Rattle.laws.specs.LowFirst.{low_first, from_low, each_low, each_from_low}
pub use Rattle.layout.specs.Geometry.{block_size}

-- an entry is a run of bytes
abbrev pub Entry : Type 0
Entry = List ℕ

abbrev pub most_entries : ℕ
most_entries = 1024

abbrev pub most_entry_length : ℕ
most_entry_length = 255

abbrev pub length_width : ℕ
length_width = 1

-- the two counts
abbrev pub head_size : ℕ
head_size = 4

-- the bytes that the head, n lengths and t bytes of bodies take, and the fewest blocks that hold u bytes
abbrev pub used : ℕ → ℕ → ℕ → ℕ
used w n t = head_size + n * w + t

abbrev pub blocks_for : ℕ → ℕ
blocks_for u = (u + (block_size - 1)) / block_size

-- the range of entries
abbrev pub used_at : ℕ → List Entry → ℕ
used_at w es = used w (length es) (sum (lengths es))

abbrev pub blocks_at : ℕ → List Entry → ℕ
blocks_at w es = blocks_for (used_at w es)

unfoldable pub encode_at : ℕ → List Entry → List ℕ
encode_at w es =
    low_first 2 (blocks_at w es)
    ++ low_first 2 (length es)
    ++ each_low w (lengths es)
    ++ flat es
    ++ replicate (blocks_at w es * block_size - used_at w es) 0

-- what bytes say of themselves, taken as a range
unfoldable pub block_count : List ℕ → ℕ
block_count xs = from_low (take 2 xs)

unfoldable pub entry_count : List ℕ → ℕ
entry_count xs = from_low (take 2 (drop 2 xs))

unfoldable pub lengths_at : ℕ → List ℕ → List ℕ
lengths_at w xs = each_from_low w (entry_count xs) (drop head_size xs)

abbrev pub used_in : ℕ → List ℕ → ℕ
used_in w xs = used w (entry_count xs) (sum (lengths_at w xs))

unfoldable pub entries_at : ℕ → List ℕ → List Entry
entries_at w xs = cut (lengths_at w xs) (drop (head_size + entry_count xs * w) xs)

-- a length within the limits
unfoldable pub ok_length : ℕ → ℕ → Bool
ok_length most n = also (leb 1 n) (leb n most)

-- the bytes are a range: they are the blocks that they count; from 1 to 1,024 entries, each of an allowed length; no block more than is
-- needed; zeros behind the last body
unfoldable pub parses_at : ℕ → ℕ → List ℕ → Bool
parses_at w most xs =
    also (eqb (length xs) (block_count xs * block_size))
    (also (leb 1 (entry_count xs))
    (also (leb (entry_count xs) most_entries)
    (also (every (ok_length most) (lengths_at w xs))
    (also (eqb (block_count xs) (blocks_for (used_in w xs)))
    (every is_zero (drop (used_in w xs) xs))))))

unfoldable pub parse_at : ℕ → ℕ → List ℕ → Option (List Entry)
parse_at w most xs = cond (parses_at w most xs) (some (entries_at w xs)) none

-- entries that one range can hold
pub record Good (most : ℕ) (es : List Entry) : Type 0 where
  pub any : 1 ≤ length es
  pub few : length es ≤ most_entries
  pub each : every (ok_length most) (lengths es) ≡ true

-- the size of the range in front, as it says itself; at least one block, so that a walk from range to range ends
abbrev pub range_size : List ℕ → ℕ
range_size xs = max 1 (block_count xs) * block_size

-- bytes as ranges one after another, to the last byte: at most k of them, and as each has a byte, `ranges` leaves none out (flat-ranges)
unfoldable pub ranges_within : ℕ → List ℕ → List (List ℕ)
ranges_within zero xs = []
ranges_within (suc k) [] = []
ranges_within (suc k) (x ∷ xs) = take (range_size (x ∷ xs)) (x ∷ xs) ∷ ranges_within k (drop (range_size (x ∷ xs)) (x ∷ xs))

unfoldable pub ranges : List ℕ → List (List ℕ)
ranges xs = ranges_within (length xs) xs

-- an interval's bytes parse where each range of them does, to the entries of all in order; no bytes give no entries
unfoldable pub all_parse_at : ℕ → ℕ → List ℕ → Bool
all_parse_at w most xs = every (parses_at w most) (ranges xs)

unfoldable pub all_entries_at : ℕ → List ℕ → List Entry
all_entries_at w xs = flat (map (entries_at w) (ranges xs))

unfoldable pub parse_all_at : ℕ → ℕ → List ℕ → Option (List Entry)
parse_all_at w most xs = cond (all_parse_at w most xs) (some (all_entries_at w xs)) none

-- several ranges' entries, encoded one range after another, and all their blocks
unfoldable pub encode_all_at : ℕ → List (List Entry) → List ℕ
encode_all_at w rs = flat (map (encode_at w) rs)

unfoldable pub blocks_all_at : ℕ → List (List Entry) → ℕ
blocks_all_at w rs = sum (map (blocks_at w) rs)

-- the format
abbrev pub blocks : List Entry → ℕ
blocks = blocks_at length_width

abbrev pub encode : List Entry → List ℕ
encode = encode_at length_width

abbrev pub entries : List ℕ → List Entry
entries = entries_at length_width

abbrev pub parses : List ℕ → Bool
parses = parses_at length_width most_entry_length

abbrev pub parse : List ℕ → Option (List Entry)
parse = parse_at length_width most_entry_length

abbrev pub all_entries : List ℕ → List Entry
all_entries = all_entries_at length_width

abbrev pub all_parse : List ℕ → Bool
all_parse = all_parse_at length_width most_entry_length

abbrev pub parse_journal_range : List ℕ → Option (List Entry)
parse_journal_range = parse_all_at length_width most_entry_length

abbrev pub encode_all : List (List Entry) → List ℕ
encode_all = encode_all_at length_width

abbrev pub blocks_all : List (List Entry) → ℕ
blocks_all = blocks_all_at length_width
