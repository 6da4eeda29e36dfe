-- A range by its runs: the head, the lengths, the bodies, the padding. Over the width w of a length. Assumes nothing.
use Rattle.std.specs.Prelude.{ℕ, ◌≡◌, refl, List, [], ◌∷◌, ◌++◌, length}
use Rattle.std.proofs.Common.{sym, ◌∙◌, length-append}
use Rattle.laws.specs.Cut.{flat, lengths}
use Rattle.laws.specs.LowFirst.{low_first, each_low, length_low_first}
use Rattle.laws.specs.Splice.{clipped, clipped_next, clipped_whole}
use Rattle.range.specs.Form.{Entry, head_size, blocks_at, encode_at}
use Rattle.range.specs.Round.{padding}

-- the two counts
abbrev pub head : ℕ → ℕ → List ℕ
head b e = low_first 2 b ++ low_first 2 e

pub length_head : (b e : ℕ) → length (head b e) ≡ head_size
length_head b e = simp (length-append, length_low_first)

-- one count written behind the other, into as many bytes
pub head_put : (b e : ℕ) (d x y : List ℕ) → length d ≡ head_size → x ≡ clipped d 0 (low_first 2 b) → y ≡ clipped x 2 (low_first 2 e) → y ≡ head b e
head_put b e d x y l p q =
    clipped_next d x y (low_first 2 b) (low_first 2 e) 2 (sym (length_low_first 2 b)) p q ∙ clipped_whole d (head b e) (length_head b e ∙ sym l)

pub encode_is : (w : ℕ) (es : List Entry) → encode_at w es ≡ head (blocks_at w es) (length es) ++ each_low w (lengths es) ++ flat es ++ padding w es
unfolding encode_at
encode_is w es = refl
