-- Document 01's range format as the relations' `Codec`: a range's bytes are cut into blocks of 4,096, and blocks parse where their bytes do.
use Rattle.std.specs.Prelude.{ℕ, ◌+◌, ◌≤◌, ◌<◌, Bool, true, ◌≡◌, refl, List, [], ◌∷◌, ◌++◌, leb, length, replicate}
use Rattle.std.proofs.Common.{sym, ◌∙◌, ap, append-nil, arith, leb-true, le-leb}
use Rattle.std.proofs.Math.Option.{Option, some}
use Rattle.std.proofs.lemmas.List.{length-replicate, replicate-append-replicate}
use Rattle.laws.specs.Choice.{also, also_left, also_right, also_both}
use Rattle.laws.specs.Fold.{sum, every, Each, sum_replicate}
use Rattle.laws.specs.Cut.{cut, flat, lengths, length_cut, flat_append, lengths_append, lengths_cut, flat_even}
use Rattle.range.specs.Form as Form
pub use Rattle.range.specs.Form.{most_entries, most_entry_length}
use Rattle.range.specs.Form.{Entry, block_size, length_width, ok_length, blocks_all_at, encode_all_at, parse_all_at, all_parse, all_entries}
use Rattle.range.specs.Lengths.{ok_low, ok_high, ok_yes}
use Rattle.range.specs.Blocks.{format_sizes, blocks_some, length_encode_at}
use Rattle.range.specs.Ranges.{parse_all_none, parse_all_parses, parse_all_entries, parse_all_append, encode_all_one, parse_all_encode_all, all_entries_count, all_entries_bytes, all_entries_each}
use Rattle.codec.specs.Codec.{JournalRange, SizedBlocks, EntriesFit, Codec}
use Rattle.codec.specs.Ranges.{Range, Good, blocks, codes}

-- the test of what one range can hold: from 1 to 1,024 entries of 1 to 255 bytes
abbrev pub most_held : ℕ
most_held = most_entries

unfoldable pub good_entries : List Entry → Bool
good_entries es =
    also (leb 1 (length es))
    (also (leb (length es) most_held)
    (every (ok_length most_entry_length) (lengths es)))

pub good_facts : (es : List Entry) → good_entries es ≡ true → Form.Good most_entry_length es
unfolding good_entries
good_facts es e =
    let e1 = also_right _ _ e in
    let few = leb-true (length es) most_held (also_left _ _ e1) in
    record { any = leb-true 1 (length es) (also_left _ _ e); few = omega arith; each = also_right _ _ e1 }

pub facts_good : (es : List Entry) → Form.Good most_entry_length es → good_entries es ≡ true
unfolding good_entries
facts_good es f = also_both _ _ (le-leb 1 (length es) f.any) (also_both _ _ (le-leb (length es) most_held (omega (arith, f.few))) f.each)

-- entries fit where the test of each length says so
pub fit_lengths : (most : ℕ) (es : List Entry) → EntriesFit most es → every (ok_length most) (lengths es) ≡ true
unfolding every lengths
fit_lengths most [] h = refl
fit_lengths most (e ∷ es) h = also_both _ _ (ok_yes most (length e) h.0.some_byte h.0.most_bytes) (fit_lengths most es h.1)

pub lengths_fit : (most : ℕ) (es : List Entry) → every (ok_length most) (lengths es) ≡ true → EntriesFit most es
unfolding every lengths
lengths_fit most [] h = tt
lengths_fit most (e ∷ es) h =
    let ok = also_left _ _ h in
    (record { some_byte = ok_low most (length e) ok; most_bytes = ok_high most (length e) ok }, lengths_fit most es (also_right _ _ h))

-- the blocks of a range
unfoldable pub encode_blocks : List Entry → JournalRange
encode_blocks es = cut (replicate (Form.blocks es) block_size) (Form.encode es)

unfoldable pub parse_blocks : JournalRange → Option (List Entry)
parse_blocks bs = Form.parse_journal_range (flat bs)

pub length_encode_blocks : (es : List Entry) → length (encode_blocks es) ≡ Form.blocks es
unfolding encode_blocks
length_encode_blocks es = length_cut (replicate (Form.blocks es) block_size) (Form.encode es) ∙ length-replicate (Form.blocks es) block_size

-- joined again they are its bytes, and each has 4,096
pub flat_encode_blocks : (es : List Entry) → flat (encode_blocks es) ≡ Form.encode es
unfolding encode_blocks
flat_encode_blocks es = flat_even (Form.blocks es) block_size (Form.encode es) (length_encode_at length_width es)

pub lengths_encode_blocks : (es : List Entry) → lengths (encode_blocks es) ≡ replicate (Form.blocks es) block_size
unfolding encode_blocks
lengths_encode_blocks es =
    lengths_cut (replicate (Form.blocks es) block_size) (Form.encode es) (omega (arith, sum_replicate (Form.blocks es) block_size, length_encode_at length_width es))

-- the laws of a codec
pub format_empty : parse_blocks [] ≡ some []
unfolding parse_blocks flat
format_empty = parse_all_none length_width most_entry_length

pub format_encode : (es : List Entry) → good_entries es ≡ true → parse_blocks (encode_blocks es) ≡ some es
unfolding parse_blocks flat
format_encode es g =
    ap (parse_all_at length_width most_entry_length) (flat_encode_blocks es ∙ sym (encode_all_one length_width es))
    ∙ parse_all_encode_all length_width most_entry_length format_sizes (es ∷ []) (good_facts es g, tt)
    ∙ ap {B = Option (List Entry)} some (append-nil es)

pub format_append : (a b : JournalRange) (es fs : List Entry) → parse_blocks a ≡ some es → parse_blocks b ≡ some fs → parse_blocks (a ++ b) ≡ some (es ++ fs)
unfolding parse_blocks
format_append a b es fs p q = ap (parse_all_at length_width most_entry_length) (flat_append a b) ∙ parse_all_append length_width most_entry_length (flat a) (flat b) es fs p q

pub format_some : (es : List Entry) → 0 < length (encode_blocks es)
format_some es = omega (arith, length_encode_blocks es, blocks_some length_width es)

pub format_size : (es : List Entry) → SizedBlocks (length (encode_blocks es)) (encode_blocks es)
format_size es = lengths_encode_blocks es ∙ ap (λ (n : ℕ). replicate n block_size) (sym (length_encode_blocks es))

-- what parses: the bytes do, to the same entries; how many they are, their bytes, and the length of each
module _ (bs : JournalRange) (es : List Entry) (p : parse_blocks bs ≡ some es) where
  pub format_parses : all_parse (flat bs) ≡ true
  unfolding parse_blocks
  format_parses = parse_all_parses length_width most_entry_length (flat bs) es p

  pub format_entries : all_entries (flat bs) ≡ es
  unfolding parse_blocks
  format_entries = parse_all_entries length_width most_entry_length (flat bs) es p

  pub format_few : length es ≤ length (flat bs)
  format_few = let n = all_entries_count length_width most_entry_length (flat bs) format_parses in omega (arith, ap {B = ℕ} length format_entries)

  pub format_small : sum (lengths es) ≤ length (flat bs)
  format_small = let n = all_entries_bytes length_width most_entry_length (flat bs) format_parses in omega (arith, ap (λ (l : List Entry). sum (lengths l)) format_entries)

  pub format_fit : EntriesFit most_entry_length es
  format_fit =
      lengths_fit most_entry_length es
      (ap (λ (l : List Entry). every (ok_length most_entry_length) (lengths l)) (sym format_entries)
      ∙ all_entries_each length_width most_entry_length (flat bs) format_parses)

abbrev pub format : Codec
format =
    record {
      parse_journal_range = parse_blocks;
      good = good_entries;
      encode = encode_blocks;
      parse_empty = format_empty;
      parse_encode = format_encode;
      parse_append = format_append;
      encode_some = format_some;
      encode_size = format_size;
      parse_few = format_few;
      parse_small = format_small;
    }

-- the blocks of ranges are the format's
pub format_blocks : (rs : List Range) → blocks format rs ≡ Form.blocks_all rs
unfolding blocks blocks_all_at sum
format_blocks [] = refl
format_blocks (r ∷ rs) = λ i. length_encode_blocks r i + format_blocks rs i

-- 4,096 bytes each, and joined again they are the ranges' bytes
pub codes_sized : (rs : List Range) → SizedBlocks (blocks format rs) (codes format rs)
unfolding codes blocks lengths
codes_sized [] = refl
codes_sized (r ∷ rs) =
    lengths_append (encode_blocks r) (codes format rs)
    ∙ (λ i. format_size r i ++ codes_sized rs i)
    ∙ replicate-append-replicate (length (encode_blocks r)) (blocks format rs) block_size

pub flat_codes : (rs : List Range) → flat (codes format rs) ≡ encode_all_at length_width rs
unfolding codes flat encode_all_at
flat_codes [] = refl
flat_codes (r ∷ rs) = flat_append (encode_blocks r) (codes format rs) ∙ (λ i. flat_encode_blocks r i ++ flat_codes rs i)
