-- How large a range is: its bytes and its blocks, and that both counts of its head fit in two bytes. Over the width w of a length and the
-- greatest entry length. Assumes nothing.
use Rattle.std.specs.Prelude.{ℕ, ◌*◌, ◌^◌, ◌≤◌, ◌<◌, ◌≡◌, List, length, get_or}
use Rattle.std.proofs.Common.{mul-le-mul_left, mul-le-mul_right, arith, length-append}
use Rattle.std.proofs.lemmas.List.{length-replicate}
use Rattle.laws.specs.Fold.{sum, every_at, sum_bound}
use Rattle.laws.specs.Cut.{lengths, length_lengths, length_flat}
use Rattle.range.specs.Form.{Entry, block_size, most_entries, most_entry_length, length_width, used, blocks_for, used_at, blocks_at, encode_at, ok_length, Good}
use Rattle.laws.specs.LowFirst.{length_low_first, length_each_low}
use Rattle.range.specs.Lengths.{ok_high}

-- what a width and a greatest length keep to: every length fits in w bytes, and the block count of the largest range in two
pub record Sizes (w most : ℕ) : Type 0 where
  pub length_fits : most < 256 ^ w
  pub blocks_fit : used w most_entries (most_entries * most) ≤ 65535 * block_size

pub sizes_one : (most : ℕ) → most < 256 → Sizes 1 most
sizes_one most h = record { length_fits = omega arith; blocks_fit = omega arith }

pub sizes_two : (most : ℕ) → most < 65536 → Sizes 2 most
sizes_two most h = record { length_fits = omega arith; blocks_fit = omega arith }

pub format_sizes : Sizes length_width most_entry_length
format_sizes = sizes_one most_entry_length (omega arith)

-- blocks hold what is used, with less than a block to spare, and are at least one
pub blocks_hold : (u : ℕ) → u ≤ blocks_for u * block_size
blocks_hold u = omega arith

pub blocks_fewest : (u b : ℕ) → u ≤ b * block_size → blocks_for u ≤ b
blocks_fewest u b h = omega arith

pub blocks_some : (w : ℕ) (es : List Entry) → 1 ≤ blocks_at w es
blocks_some w es = omega arith

-- a range is as many bytes as its blocks have
pub length_encode_at : (w : ℕ) (es : List Entry) → length (encode_at w es) ≡ blocks_at w es * block_size
unfolding encode_at
length_encode_at w es =
    simp (length-append, length_low_first, length_each_low, length_lengths, length_flat, length-replicate {A = ℕ})
    (omega (arith, blocks_hold (used_at w es)))

-- what the entries of one range use at most
pub good_sum : (most : ℕ) (es : List Entry) → Good most es → sum (lengths es) ≤ most_entries * most
good_sum most es g =
    let each : sum (lengths es) ≤ most * length (lengths es)
    = sum_bound most (lengths es) (λ i h. ok_high most (get_or (lengths es) i 0) (every_at (ok_length most) (lengths es) i 0 g.each h)) in
    let all : most * length es ≤ most * most_entries = mul-le-mul_left most g.few in
    omega (arith, rw (length_lengths es) at each)

pub good_used : (w most : ℕ) (es : List Entry) → Good most es → used_at w es ≤ used w most_entries (most_entries * most)
good_used w most es g =
    let l : length es * w ≤ most_entries * w = mul-le-mul_right w g.few in
    omega (arith, good_sum most es g)

-- both counts fit in two bytes
pub good_blocks : (w most : ℕ) (es : List Entry) → Sizes w most → Good most es → blocks_at w es < 65536
good_blocks w most es s g = omega (arith, good_used w most es g)

pub good_count : (most : ℕ) (es : List Entry) → Good most es → length es < 65536
good_count most es g = omega arith
