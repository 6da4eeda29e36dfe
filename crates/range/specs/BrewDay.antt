-- Document 01's brew day, as far as it speaks of ranges. Assumes nothing.
use Rattle.std.specs.Prelude.{ℕ, ◌≡◌, refl, List, [], ◌∷◌, ◌++◌, length, replicate}
use Rattle.std.proofs.Common.{sym, ◌∙◌, ap}
use Rattle.laws.specs.Fold.{sum}
use Rattle.laws.specs.Digits.{digits}
use Rattle.laws.specs.Cut.{flat, lengths, length_lengths}
use Rattle.laws.specs.LowFirst.{each_low}
use Rattle.range.specs.Form.{Entry, length_width, used, blocks_for, encode_at, encode, blocks}

-- one entry, the byte 65 (hexadecimal 41)
pub one_entry : encode ((65 ∷ []) ∷ []) ≡ 1 ∷ 0 ∷ 1 ∷ 0 ∷ 1 ∷ 65 ∷ replicate 4090 0
unfolding encode_at digits each_low flat lengths sum
one_entry = refl

-- the blocks follow from the lengths
blocks_by_lengths : (es : List Entry) (ns : List ℕ) → lengths es ≡ ns → blocks es ≡ blocks_for (used length_width (length ns) (sum ns))
blocks_by_lengths es ns e = λ i. blocks_for (used length_width ((sym (length_lengths es) ∙ ap length e) i) (sum (e i)))

-- 15 entries of 255 bytes and one of 251 make one block, with 252 two
pub one_block : (es : List Entry) → lengths es ≡ replicate 15 255 ++ 251 ∷ [] → blocks es ≡ 1
unfolding sum
one_block es e = blocks_by_lengths es (replicate 15 255 ++ 251 ∷ []) e

pub two_blocks : (es : List Entry) → lengths es ≡ replicate 15 255 ++ 252 ∷ [] → blocks es ≡ 2
unfolding sum
two_blocks es e = blocks_by_lengths es (replicate 15 255 ++ 252 ∷ []) e
