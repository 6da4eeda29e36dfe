-- What bytes say of themselves, taken as a range, in a reader's own numbers. Assumes nothing.
use Rattle.std.specs.Prelude.{ℕ, ◌+◌, ◌*◌, ◌-◌, ◌≤◌, ◌<◌, Bool, true, cond, ◌≡◌, refl, List, take, drop, leb, eqb, Ok}
use Rattle.std.proofs.Common.{sym, ◌∙◌, ap, le-leb, eq-eqb, leb-true, eqb-true}
use native.Mathlib.Omega.{arith}
use Rattle.std.proofs.Math.ListN.{length}
use Rattle.std.proofs.lemmas.Bool.{lt-leb}
use Rattle.laws.specs.Choice.{by_leb, also, ask, ask_yes, also_left, also_right, also_both}
use Rattle.laws.specs.Fold.{sum, sum_bound}
use Rattle.range.specs.Form.{most_entries, most_entry_length, length_width, head_size, used, blocks_for, block_count, entry_count, lengths_at, entries, parses}
use Rattle.laws.specs.Bytes.{Bytes, bytes_at}
use Rattle.range.specs.Lengths.{block_count_small, entry_count_small}
use Rattle.range.specs.Shape.{Shape, shape_facts, lengths_at_one, lengths_at_one_at, length_lengths_at, length_entries_at}
use Rattle.reader.specs.declared.answer.Contents.{Contents}
use Rattle.refusal.specs.Refusal.{ok_unless, yes, yes_value}

-- no blocks, no entries, no bytes
abbrev pub nothing : Contents
nothing = record { blocks = 0; entries = 0; bytes = 0 }

-- what head and lengths say
abbrev pub said : List ℕ → Contents
said xs = record { blocks = block_count xs; entries = entry_count xs; bytes = sum (lengths_at length_width xs) }

-- where they are all there
unfoldable pub contents_of : List ℕ → Contents
contents_of xs = cond (leb (head_size + entry_count xs * length_width) (length xs)) (said xs) nothing

-- from 1 to 1,024 entries, and no block more than is needed
unfoldable pub counts_ok : Contents → Bool
counts_ok c = also (leb 1 c.entries) (also (leb c.entries most_entries) (eqb c.blocks (blocks_for (used length_width c.entries c.bytes))))

-- the contents of bytes that have head and lengths
pub record Said (xs : List ℕ) (c : Contents) : Type 0 where
  pub blocks : c.blocks ≡ block_count xs
  pub count : c.entries ≡ entry_count xs
  pub bytes : c.bytes ≡ sum (lengths_at length_width xs)
  pub within : head_size + c.entries ≤ length xs

-- contents of any bytes are small
pub record Small (c : Contents) : Type 0 where
  pub few_blocks : c.blocks < 65536
  pub few_entries : c.entries < 65536
  pub few_bytes : c.bytes ≤ 255 * c.entries

-- the lengths as the part of the bytes that a reader looks at
pub lengths_part : (xs : List ℕ) (e : ℕ) → e ≡ entry_count xs → head_size + e ≤ length xs → take (head_size + e - head_size) (drop head_size xs) ≡ lengths_at length_width xs
lengths_part xs e h k =
    let n : head_size + e - head_size ≡ entry_count xs = omega arith in
    ap (λ (m : ℕ). take m (drop head_size xs)) n ∙ sym (lengths_at_one xs (omega arith))

-- the contents as they were read
pub contents_is : (xs : List ℕ) (b e t : ℕ) → b ≡ block_count xs → e ≡ entry_count xs → head_size + e ≤ length xs
    → t ≡ sum (take (head_size + e - head_size) (drop head_size xs)) → record { blocks = b; entries = e; bytes = t } ≡ contents_of xs
unfolding contents_of
contents_is xs b e t hb he k ht =
    let l : head_size + entry_count xs * length_width ≤ length xs = omega arith in
    simp (le-leb (head_size + entry_count xs * length_width) (length xs) l)
    (λ i. record { blocks = hb i; entries = he i; bytes = (ht ∙ ap sum (lengths_part xs e he k)) i })

pub contents_short : (xs : List ℕ) → length xs < head_size + entry_count xs * length_width → nothing ≡ contents_of xs
unfolding contents_of
contents_short xs h = simp (lt-leb (head_size + entry_count xs * length_width) (length xs) h)

-- any contents are small, and head and lengths are there or nothing is said
module _ (xs : List ℕ) where
  pub contents_small : Bytes xs → Small (contents_of xs)
  unfolding contents_of
  contents_small bs =
      by_leb Small (head_size + entry_count xs * length_width) (length xs) (said xs) nothing
      (λ l.
      let n : length (lengths_at length_width xs) ≡ entry_count xs = length_lengths_at length_width xs in
      record {
        few_blocks = block_count_small xs bs;
        few_entries = entry_count_small xs bs;
        few_bytes =
            rw n at
            (sum_bound 255 (lengths_at length_width xs)
            (λ i j. omega (arith, lengths_at_one_at xs i (omega arith) (omega arith), bytes_at xs (head_size + i) bs (omega arith))));
      })
      (λ l. record { few_blocks = omega arith; few_entries = omega arith; few_bytes = omega arith })

  pub contents_said : 1 ≤ (contents_of xs).blocks + (contents_of xs).entries → Said xs (contents_of xs)
  unfolding contents_of
  contents_said =
      by_leb (λ (c : Contents). 1 ≤ c.blocks + c.entries → Said xs c) (head_size + entry_count xs * length_width) (length xs) (said xs) nothing
      (λ l h. record { blocks = refl; count = refl; bytes = refl; within = omega arith })
      (λ l h. absurd (omega arith))

  pub contents_whole : head_size + entry_count xs * length_width ≤ length xs → Said xs (contents_of xs)
  unfolding contents_of
  contents_whole h =
      by_leb (Said xs) (head_size + entry_count xs * length_width) (length xs) (said xs) nothing
      (λ l. record { blocks = refl; count = refl; bytes = refl; within = omega arith })
      (λ l. absurd (omega arith))

-- the counts as facts
pub record Counts (c : Contents) : Type 0 where
  pub any : 1 ≤ c.entries
  pub few : c.entries ≤ most_entries
  pub fewest : c.blocks ≡ blocks_for (used length_width c.entries c.bytes)

pub counts_yes : (c : Contents) → Counts c → counts_ok c ≡ true
unfolding counts_ok
counts_yes c k =
    also_both _ _ (le-leb 1 c.entries k.any)
    (also_both _ _ (le-leb c.entries most_entries k.few) (eq-eqb c.blocks (blocks_for (used length_width c.entries c.bytes)) k.fewest))

pub counts_facts : (c : Contents) → counts_ok c ≡ true → Counts c
unfolding counts_ok
counts_facts c h =
    let k = also_right _ _ h in
    record {
      any = leb-true 1 c.entries (also_left _ _ h);
      few = leb-true c.entries most_entries (also_left _ _ k);
      fewest = eqb-true c.blocks (blocks_for (used length_width c.entries c.bytes)) (also_right _ _ k);
    }

-- what a count tells of the bytes
module _ (xs : List ℕ) (n : ℕ) (h : Ok n ≡ ok_unless (ask 7 (parses xs)) (length (entries xs))) where
  pub counted_shape : Shape length_width most_entry_length xs
  counted_shape = shape_facts length_width most_entry_length xs (ask_yes 7 (parses xs) (omega arith) (yes (ask 7 (parses xs)) n (length (entries xs)) h))

  pub counted_is : n ≡ entry_count xs
  counted_is = yes_value (ask 7 (parses xs)) n (length (entries xs)) h ∙ length_entries_at length_width xs
