-- The form is one to one: what is encoded parses to the same entries, and bytes that parse are what their entries encode to. Over the
-- width w of a length and the greatest entry length. Assumes nothing.
use Rattle.std.specs.Prelude.{ℕ, ◌+◌, ◌*◌, ◌-◌, true, ◌≡◌, refl, ◌↔◌, take, drop, replicate, eqb}
use Rattle.std.proofs.Math.Path.{sym, ap}
use Rattle.std.proofs.Common.{◌∙◌, arith, take-append-drop, take_at, drop_at, drop-drop, eqb-true}
use mathlib.Core.List.{List, [], ◌∷◌, ◌++◌, append_assoc}
use Rattle.std.proofs.Math.Option.{Option, some}
use Rattle.std.proofs.Math.ListN.{length, length-drop}
use Rattle.std.proofs.Math.Seq.{length-take-le}
use Rattle.laws.specs.Choice.{also_left, also_right, also_both, cond_some}
use Rattle.laws.specs.Fold.{sum, every, every_append, every_take, every_drop, every_replicate}
use Rattle.laws.specs.Part.{length_part, part_then}
use Rattle.laws.specs.Digits.{is_digit}
use Rattle.laws.specs.Cut.{cut, flat, lengths, length_lengths, length_flat, lengths_cut, flat_cut, cut_flat}
use Rattle.laws.specs.Bytes.{is_byte, Bytes, is_zero, zeros_are}
use Rattle.laws.specs.LowFirst.{low_first, from_low, each_low, each_from_low, length_low_first, from_low_low_first, low_first_from_low, low_first_bytes, length_each_low, each_low_bytes, each_low_each_from_low}
use Rattle.range.specs.Form.{Entry, block_size, head_size, blocks_for, used_at, blocks_at, encode_at, block_count, entry_count, lengths_at, used_in, entries_at, parses_at, parse_at, Good}
use Rattle.range.specs.Lengths.{lengths_written}
use Rattle.range.specs.Blocks.{Sizes, length_encode_at, good_blocks, good_count}
use Rattle.range.specs.Shape.{Shape, shape_of, shape_facts, shape_yes, length_entries_at}

-- the zeros behind the last body
abbrev pub padding : ℕ → List Entry → List ℕ
padding w es = replicate (blocks_at w es * block_size - used_at w es) 0

-- an encoded range, run by run from the front
module _ (w : ℕ) (es : List Entry) where
  pub encode_runs : encode_at w es
      ≡ low_first 2 (blocks_at w es) ++ (low_first 2 (length es) ++ (each_low w (lengths es) ++ (flat es ++ padding w es)))
  unfolding encode_at
  encode_runs = simp append_assoc

  after_blocks : drop 2 (encode_at w es) ≡ low_first 2 (length es) ++ (each_low w (lengths es) ++ (flat es ++ padding w es))
  after_blocks =
      ap (drop 2) encode_runs
      ∙ drop_at (low_first 2 (blocks_at w es)) (low_first 2 (length es) ++ (each_low w (lengths es) ++ (flat es ++ padding w es))) 2 (length_low_first 2 (blocks_at w es))

  pub after_head : drop head_size (encode_at w es) ≡ each_low w (lengths es) ++ (flat es ++ padding w es)
  after_head =
      sym (drop-drop 2 2 (encode_at w es))
      ∙ ap (drop 2) after_blocks
      ∙ drop_at (low_first 2 (length es)) (each_low w (lengths es) ++ (flat es ++ padding w es)) 2 (length_low_first 2 (length es))

  pub after_lengths : drop (head_size + length es * w) (encode_at w es) ≡ flat es ++ padding w es
  after_lengths =
      sym (drop-drop (length es * w) head_size (encode_at w es))
      ∙ ap (drop (length es * w)) after_head
      ∙ drop_at (each_low w (lengths es)) (flat es ++ padding w es) (length es * w)
      (length_each_low w (lengths es) ∙ ap (λ (n : ℕ). n * w) (length_lengths es))

  pub after_bodies : drop (used_at w es) (encode_at w es) ≡ padding w es
  after_bodies =
      sym (drop-drop (sum (lengths es)) (head_size + length es * w) (encode_at w es))
      ∙ ap (drop (sum (lengths es))) after_lengths
      ∙ drop_at (flat es) (padding w es) (sum (lengths es)) (length_flat es)

-- an encoded range of bytes is bytes
pub encode_bytes : (w : ℕ) (es : List Entry) → Bytes (flat es) → Bytes (encode_at w es)
unfolding is_digit
encode_bytes w es b =
    ap (every is_byte) (encode_runs w es)
    ∙ joined (low_first 2 (blocks_at w es)) (low_first 2 (length es) ++ (each_low w (lengths es) ++ (flat es ++ padding w es))) (low_first_bytes 2 (blocks_at w es))
    (joined (low_first 2 (length es)) (each_low w (lengths es) ++ (flat es ++ padding w es)) (low_first_bytes 2 (length es))
    (joined (each_low w (lengths es)) (flat es ++ padding w es) (each_low_bytes w (lengths es))
    (joined (flat es) (padding w es) b (every_replicate is_byte (blocks_at w es * block_size - used_at w es) 0 refl))))
  where
    joined : (xs ys : List ℕ) → Bytes xs → Bytes ys → Bytes (xs ++ ys)
    joined xs ys p q = every_append is_byte xs ys ∙ also_both (every is_byte xs) (every is_byte ys) p q

-- what an encoded range says of itself
module _ (w most : ℕ) (es : List Entry) (s : Sizes w most) (g : Good most es) where
  pub block_count_encode : block_count (encode_at w es) ≡ blocks_at w es
  unfolding block_count
  block_count_encode =
      ap (λ (l : List ℕ). from_low (take 2 l)) (encode_runs w es)
      ∙ ap from_low (take_at (low_first 2 (blocks_at w es)) (low_first 2 (length es) ++ (each_low w (lengths es) ++ (flat es ++ padding w es))) 2 (length_low_first 2 (blocks_at w es)))
      ∙ from_low_low_first 2 (blocks_at w es) (good_blocks w most es s g)

  pub entry_count_encode : entry_count (encode_at w es) ≡ length es
  unfolding entry_count
  entry_count_encode =
      ap (λ (l : List ℕ). from_low (take 2 l)) (after_blocks w es)
      ∙ ap from_low (take_at (low_first 2 (length es)) (each_low w (lengths es) ++ (flat es ++ padding w es)) 2 (length_low_first 2 (length es)))
      ∙ from_low_low_first 2 (length es) (good_count most es g)

  pub lengths_at_encode : lengths_at w (encode_at w es) ≡ lengths es
  unfolding lengths_at
  lengths_at_encode =
      (λ i. each_from_low w ((entry_count_encode ∙ sym (length_lengths es)) i) (after_head w es i))
      ∙ lengths_written w most (lengths es) (flat es ++ padding w es) s.length_fits g.each

  pub entries_at_encode : entries_at w (encode_at w es) ≡ es
  unfolding entries_at
  entries_at_encode =
      (λ i. cut (lengths_at_encode i) (drop (head_size + entry_count_encode i * w) (encode_at w es)))
      ∙ ap (cut (lengths es)) (after_lengths w es)
      ∙ cut_flat es (padding w es)

  used_in_encode : used_in w (encode_at w es) ≡ used_at w es
  used_in_encode = λ i. head_size + entry_count_encode i * w + sum (lengths_at_encode i)

  pub shape_encode : Shape w most (encode_at w es)
  unfolding is_zero
  shape_encode =
      shape_of w most (encode_at w es)
      (length_encode_at w es ∙ ap (λ (n : ℕ). n * block_size) (sym block_count_encode))
      (rw entry_count_encode g.any)
      (rw entry_count_encode g.few)
      (rw lengths_at_encode g.each)
      (block_count_encode ∙ ap blocks_for (sym used_in_encode))
      (ap (λ (n : ℕ). every is_zero (drop n (encode_at w es))) used_in_encode
      ∙ ap (every is_zero) (after_bodies w es)
      ∙ every_replicate is_zero (blocks_at w es * block_size - used_at w es) 0 refl)

  pub parses_encode : parses_at w most (encode_at w es) ≡ true
  parses_encode = shape_yes w most (encode_at w es) shape_encode

  pub parse_encode : parse_at w most (encode_at w es) ≡ some es
  unfolding parse_at
  parse_encode = rw parses_encode (ap {B = Option (List Entry)} some entries_at_encode)

-- the entries of bytes that have the shape: their lengths are those that the bytes give, and one range can hold them
module _ (w most : ℕ) (xs : List ℕ) (s : Shape w most xs) where
  pub lengths_entries_at : lengths (entries_at w xs) ≡ lengths_at w xs
  unfolding entries_at
  lengths_entries_at = lengths_cut (lengths_at w xs) (drop (head_size + entry_count xs * w) xs) (simp length-drop (omega arith))

  pub good_entries_at : Good most (entries_at w xs)
  good_entries_at =
      record {
        any = rw (length_entries_at w xs) s.any;
        few = rw (length_entries_at w xs) s.few;
        each = rw lengths_entries_at s.each;
      }

  pub used_at_entries_at : used_at w (entries_at w xs) ≡ used_in w xs
  used_at_entries_at = λ i. head_size + length_entries_at w xs i * w + sum (lengths_entries_at i)

  pub blocks_at_entries_at : blocks_at w (entries_at w xs) ≡ block_count xs
  blocks_at_entries_at = ap blocks_for used_at_entries_at ∙ sym s.fewest

  -- no other bytes stand for them
  module _ (b : Bytes xs) where
    head_again : low_first 2 (blocks_at w (entries_at w xs)) ≡ take 2 xs
    unfolding block_count
    head_again =
        let l : length (take 2 xs) ≡ 2 = length-take-le 2 xs (omega arith) in
        ap (low_first 2) blocks_at_entries_at ∙ rw l at (low_first_from_low (take 2 xs) (every_take is_byte 2 xs b))

    count_again : low_first 2 (length (entries_at w xs)) ≡ take 2 (drop 2 xs)
    unfolding entry_count
    count_again =
        let l : length (take 2 (drop 2 xs)) ≡ 2 = length_part xs 2 2 (omega arith) in
        ap (low_first 2) (length_entries_at w xs)
        ∙ rw l at (low_first_from_low (take 2 (drop 2 xs)) (every_take is_byte 2 (drop 2 xs) (every_drop is_byte 2 xs b)))

    lengths_again : each_low w (lengths (entries_at w xs)) ≡ take (entry_count xs * w) (drop head_size xs)
    unfolding lengths_at
    lengths_again =
        ap (each_low w) lengths_entries_at
        ∙ each_low_each_from_low w (entry_count xs) (drop head_size xs) (every_drop is_byte head_size xs b) (simp length-drop (omega arith))

    bodies_again : flat (entries_at w xs) ≡ take (sum (lengths_at w xs)) (drop (head_size + entry_count xs * w) xs)
    unfolding entries_at
    bodies_again = flat_cut (lengths_at w xs) (drop (head_size + entry_count xs * w) xs)

    padding_again : padding w (entries_at w xs) ≡ drop (used_in w xs) xs
    padding_again =
        let n : blocks_at w (entries_at w xs) * block_size - used_at w (entries_at w xs) ≡ length (drop (used_in w xs) xs)
        = rw (blocks_at_entries_at, used_at_entries_at, length-drop, s.whole) refl in
        ap (λ (k : ℕ). replicate {A = ℕ} k 0) n ∙ sym (zeros_are (drop (used_in w xs) xs) s.zeros)

    pub encode_entries_at : encode_at w (entries_at w xs) ≡ xs
    encode_entries_at =
        encode_runs w (entries_at w xs)
        ∙ (λ i. head_again i ++ (count_again i ++ (lengths_again i ++ (bodies_again i ++ padding_again i))))
        ∙ ap (λ (l : List ℕ). take 2 xs ++ (take 2 (drop 2 xs) ++ (take (entry_count xs * w) (drop head_size xs) ++ l)))
        (part_then xs (head_size + entry_count xs * w) (sum (lengths_at w xs)))
        ∙ ap (λ (l : List ℕ). take 2 xs ++ (take 2 (drop 2 xs) ++ l)) (part_then xs head_size (entry_count xs * w))
        ∙ ap (λ (l : List ℕ). take 2 xs ++ l) (part_then xs 2 2)
        ∙ take-append-drop 2 xs

-- both ways, as the option has them
module _ (w most : ℕ) (xs : List ℕ) (es : List Entry) (e : parse_at w most xs ≡ some es) where
  pub parse_parses : parses_at w most xs ≡ true
  unfolding parse_at
  parse_parses = (cond_some (parses_at w most xs) (entries_at w xs) es e).0

  pub parse_entries : entries_at w xs ≡ es
  unfolding parse_at
  parse_entries = (cond_some (parses_at w most xs) (entries_at w xs) es e).1

  pub parse_good : Good most es
  parse_good = rw parse_entries at (good_entries_at w most xs (shape_facts w most xs parse_parses))

  pub parse_unique : Bytes xs → xs ≡ encode_at w es
  parse_unique b = sym (encode_entries_at w most xs (shape_facts w most xs parse_parses) b) ∙ ap (encode_at w) parse_entries

-- so bytes parse to entries exactly where one range can hold these and the bytes are what they encode to
pub parse_iff : (w most : ℕ) (xs : List ℕ) (es : List Entry) → Sizes w most → Bytes xs
    → (parse_at w most xs ≡ some es) ↔ (Good most es × (xs ≡ encode_at w es))
parse_iff w most xs es s b =
    (λ e. (parse_good w most xs es e, parse_unique w most xs es e b), λ t. ap (parse_at w most) t.1 ∙ parse_encode w most es s t.0)
