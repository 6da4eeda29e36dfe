-- Ranges one after another, as an interval of the journal has them. Bytes are cut into ranges in one way; where all of them parse, the
-- entries are those of each in turn, and encoding these gives the bytes back. Over the width w of a length and the greatest entry length.
-- Assumes nothing.
use Rattle.std.specs.Prelude.{ℕ, zero, suc, ◌+◌, ◌*◌, ◌≤◌, ◌<◌, Bool, true, ◌≡◌, ◌↔◌, take, drop}
use Rattle.std.proofs.Math.Path.{refl, sym, ap}
use Rattle.std.proofs.Common.{◌∙◌, length-drop, take-append-drop, take_at, drop_at}
use mathlib.Core.List.{List, [], ◌∷◌, ◌++◌, append_assoc, append-nil, map, map-append}
use Rattle.std.proofs.Math.Option.{Option, some}
use native.Mathlib.Omega.{arith}
use Rattle.std.proofs.Math.ListN.{length, length-append}
use Rattle.std.proofs.lemmas.List.{take-append-le}
use Rattle.laws.specs.Choice.{also, also_left, also_right, also_both, cond_some}
use Rattle.laws.specs.Fold.{sum, every, Each, every_append, sum_append}
use Rattle.laws.specs.Cut.{flat, lengths, flat_append, lengths_append}
use Rattle.laws.specs.Bytes.{is_byte, Bytes}
use Rattle.laws.specs.LowFirst.{from_low}
use Rattle.range.specs.Form.{Entry, block_size, blocks_at, encode_at, block_count, entries_at, ok_length, parses_at, Good, range_size, ranges_within, ranges, all_parse_at, all_entries_at, parse_all_at, encode_all_at, blocks_all_at}
use Rattle.range.specs.Blocks.{Sizes, length_encode_at}
use Rattle.range.specs.Shape.{shape_facts, length_entries_at}
use Rattle.range.specs.Round.{parses_encode, entries_at_encode, lengths_entries_at, blocks_at_entries_at, good_entries_at, encode_entries_at}

-- no more ranges than bytes: any larger bound gives the same
ranges_any : (k m : ℕ) (xs : List ℕ) → length xs ≤ k → length xs ≤ m → ranges_within k xs ≡ ranges_within m xs
unfolding ranges_within
ranges_any zero zero xs h l = refl
ranges_any zero (suc m) [] h l = refl
ranges_any zero (suc m) (x ∷ xs) h l = absurd (omega arith)
ranges_any (suc k) zero [] h l = refl
ranges_any (suc k) zero (x ∷ xs) h l = absurd (omega arith)
ranges_any (suc k) (suc m) [] h l = refl
ranges_any (suc k) (suc m) (x ∷ xs) h l =
    ap (λ (rs : List (List ℕ)). take (range_size (x ∷ xs)) (x ∷ xs) ∷ rs)
    (ranges_any k m (drop (range_size (x ∷ xs)) (x ∷ xs)) (simp length-drop (omega arith)) (simp length-drop (omega arith)))

pub ranges_none : ranges [] ≡ []
unfolding ranges ranges_within
ranges_none = refl

-- the range in front, then those of the rest
pub ranges_step : (xs : List ℕ) → 0 < length xs → ranges xs ≡ take (range_size xs) xs ∷ ranges (drop (range_size xs) xs)
unfolding ranges ranges_within
ranges_step [] h = absurd (omega arith)
ranges_step (x ∷ xs) h =
    let rest : List ℕ = drop (range_size (x ∷ xs)) (x ∷ xs) in
    ap (λ (rs : List (List ℕ)). take (range_size (x ∷ xs)) (x ∷ xs) ∷ rs)
    (ranges_any (length xs) (length rest) rest (simp length-drop (omega arith)) (omega arith))

-- cutting leaves nothing out
flat_within : (k : ℕ) (xs : List ℕ) → length xs ≤ k → flat (ranges_within k xs) ≡ xs
unfolding ranges_within flat
flat_within zero [] h = refl
flat_within zero (x ∷ xs) h = absurd (omega arith)
flat_within (suc k) [] h = refl
flat_within (suc k) (x ∷ xs) h =
    let n : ℕ = range_size (x ∷ xs) in
    ap (λ (l : List ℕ). take n (x ∷ xs) ++ l) (flat_within k (drop n (x ∷ xs)) (simp length-drop (omega arith)))
    ∙ take-append-drop n (x ∷ xs)

pub flat_ranges : (xs : List ℕ) → flat (ranges xs) ≡ xs
unfolding ranges
flat_ranges xs = flat_within (length xs) xs (omega arith)

-- the head tells the size, whatever follows
pub block_count_front : (xs ys : List ℕ) → 2 ≤ length xs → block_count (xs ++ ys) ≡ block_count xs
unfolding block_count
block_count_front xs ys h = ap from_low (take-append-le 2 xs ys h)

module _ (w most : ℕ) where
  -- a range in front is the first one
  pub ranges_first : (r rest : List ℕ) → parses_at w most r ≡ true → ranges (r ++ rest) ≡ r ∷ ranges rest
  ranges_first r rest p =
      let s = shape_facts w most r p in
      let c : block_count (r ++ rest) ≡ block_count r = block_count_front r rest (omega arith) in
      let n : length r ≡ range_size (r ++ rest) = omega arith in
      ranges_step (r ++ rest) (simp length-append (omega arith))
      ∙ (λ i. take_at r rest (range_size (r ++ rest)) n i ∷ ranges (drop_at r rest (range_size (r ++ rest)) n i))

  -- ranges joined are cut where they were joined
  pub ranges_flat : (rs : List (List ℕ)) (rest : List ℕ) → every (parses_at w most) rs ≡ true → ranges (flat rs ++ rest) ≡ rs ++ ranges rest
  unfolding flat every
  ranges_flat [] rest e = refl
  ranges_flat (r ∷ rs) rest e =
      rw append_assoc
      (ranges_first r (flat rs ++ rest) (also_left (parses_at w most r) (every (parses_at w most) rs) e)
      ∙ ap (λ (l : List (List ℕ)). r ∷ l) (ranges_flat rs rest (also_right (parses_at w most r) (every (parses_at w most) rs) e)))

  -- bytes after bytes that parse
  pub ranges_append : (xs ys : List ℕ) → all_parse_at w most xs ≡ true → ranges (xs ++ ys) ≡ ranges xs ++ ranges ys
  unfolding all_parse_at
  ranges_append xs ys p = ap (λ (l : List ℕ). ranges (l ++ ys)) (sym (flat_ranges xs)) ∙ ranges_flat (ranges xs) ys p

  pub all_parse_append : (xs ys : List ℕ) → all_parse_at w most xs ≡ true → all_parse_at w most (xs ++ ys) ≡ all_parse_at w most ys
  unfolding all_parse_at also
  all_parse_append xs ys p =
      ap (every (parses_at w most)) (ranges_append xs ys p)
      ∙ every_append (parses_at w most) (ranges xs) (ranges ys)
      ∙ ap (λ (b : Bool). also b (every (parses_at w most) (ranges ys))) p

  pub all_entries_append : (xs ys : List ℕ) → all_parse_at w most xs ≡ true → all_entries_at w (xs ++ ys) ≡ all_entries_at w xs ++ all_entries_at w ys
  unfolding all_entries_at
  all_entries_append xs ys p =
      ap (λ (rs : List (List ℕ)). flat (map (entries_at w) rs)) (ranges_append xs ys p)
      ∙ ap flat (map-append (entries_at w) (ranges xs) (ranges ys))
      ∙ flat_append (map (entries_at w) (ranges xs)) (map (entries_at w) (ranges ys))

  -- no bytes give no entries
  pub parse_all_none : parse_all_at w most [] ≡ some []
  unfolding parse_all_at all_parse_at all_entries_at ranges ranges_within every flat
  parse_all_none = refl

  -- bytes that parse, and their entries, out of the option and into it
  pub parse_all_parses : (xs : List ℕ) (es : List Entry) → parse_all_at w most xs ≡ some es → all_parse_at w most xs ≡ true
  unfolding parse_all_at
  parse_all_parses xs es e = (cond_some (all_parse_at w most xs) (all_entries_at w xs) es e).0

  pub parse_all_entries : (xs : List ℕ) (es : List Entry) → parse_all_at w most xs ≡ some es → all_entries_at w xs ≡ es
  unfolding parse_all_at
  parse_all_entries xs es e = (cond_some (all_parse_at w most xs) (all_entries_at w xs) es e).1

  pub parse_all_some : (xs : List ℕ) → all_parse_at w most xs ≡ true → parse_all_at w most xs ≡ some (all_entries_at w xs)
  unfolding parse_all_at
  parse_all_some xs p = rw p

  pub parse_all_append : (xs ys : List ℕ) (es fs : List Entry) → parse_all_at w most xs ≡ some es → parse_all_at w most ys ≡ some fs
      → parse_all_at w most (xs ++ ys) ≡ some (es ++ fs)
  parse_all_append xs ys es fs e f =
      let p = parse_all_parses xs es e in
      parse_all_some (xs ++ ys) (all_parse_append xs ys p ∙ parse_all_parses ys fs f)
      ∙ ap {B = Option (List Entry)} some
      (all_entries_append xs ys p ∙ (λ i. parse_all_entries xs es e i ++ parse_all_entries ys fs f i))

-- several ranges' entries, encoded and read again
pub encode_all_append : (w : ℕ) (rs qs : List (List Entry)) → encode_all_at w (rs ++ qs) ≡ encode_all_at w rs ++ encode_all_at w qs
unfolding encode_all_at
encode_all_append w rs qs = ap flat (map-append (encode_at w) rs qs) ∙ flat_append (map (encode_at w) rs) (map (encode_at w) qs)

pub encode_all_one : (w : ℕ) (es : List Entry) → encode_all_at w (es ∷ []) ≡ encode_at w es
unfolding encode_all_at flat
encode_all_one w es = append-nil (encode_at w es)

module _ (w most : ℕ) (s : Sizes w most) where
  each_parses : (rs : List (List Entry)) → Each (Good most) rs → every (parses_at w most) (map (encode_at w) rs) ≡ true
  unfolding every
  each_parses [] g = refl
  each_parses (r ∷ rs) g =
      also_both (parses_at w most (encode_at w r)) (every (parses_at w most) (map (encode_at w) rs)) (parses_encode w most r s g.0) (each_parses rs g.1)

  each_entries : (rs : List (List Entry)) → Each (Good most) rs → map (entries_at w) (map (encode_at w) rs) ≡ rs
  each_entries [] g = refl
  each_entries (r ∷ rs) g = λ i. entries_at_encode w most r s g.0 i ∷ each_entries rs g.1 i

  pub ranges_encode_all : (rs : List (List Entry)) → Each (Good most) rs → ranges (encode_all_at w rs) ≡ map (encode_at w) rs
  unfolding encode_all_at ranges ranges_within
  ranges_encode_all rs g =
      ap ranges (sym (append-nil (flat (map (encode_at w) rs))))
      ∙ ranges_flat w most (map (encode_at w) rs) [] (each_parses rs g)
      ∙ append-nil (map (encode_at w) rs)

  pub all_parse_encode_all : (rs : List (List Entry)) → Each (Good most) rs → all_parse_at w most (encode_all_at w rs) ≡ true
  unfolding all_parse_at
  all_parse_encode_all rs g = ap (every (parses_at w most)) (ranges_encode_all rs g) ∙ each_parses rs g

  pub all_entries_encode_all : (rs : List (List Entry)) → Each (Good most) rs → all_entries_at w (encode_all_at w rs) ≡ flat rs
  unfolding all_entries_at
  all_entries_encode_all rs g = ap (λ (l : List (List ℕ)). flat (map (entries_at w) l)) (ranges_encode_all rs g) ∙ ap flat (each_entries rs g)

  pub parse_all_encode_all : (rs : List (List Entry)) → Each (Good most) rs → parse_all_at w most (encode_all_at w rs) ≡ some (flat rs)
  parse_all_encode_all rs g =
      parse_all_some w most (encode_all_at w rs) (all_parse_encode_all rs g) ∙ ap {B = Option (List Entry)} some (all_entries_encode_all rs g)

-- bytes that parse are what the entries of their ranges encode to
module _ (w most : ℕ) where
  each_good : (rs : List (List ℕ)) → every (parses_at w most) rs ≡ true → Each (Good most) (map (entries_at w) rs)
  unfolding every
  each_good [] e = tt
  each_good (r ∷ rs) e =
      let p = also_left (parses_at w most r) (every (parses_at w most) rs) e in
      (good_entries_at w most r (shape_facts w most r p), each_good rs (also_right (parses_at w most r) (every (parses_at w most) rs) e))

  each_again : (rs : List (List ℕ)) → every (parses_at w most) rs ≡ true → Bytes (flat rs) → map (encode_at w) (map (entries_at w) rs) ≡ rs
  unfolding every flat
  each_again [] e b = refl
  each_again (r ∷ rs) e b =
      let p = also_left (parses_at w most r) (every (parses_at w most) rs) e in
      let q = also_right (parses_at w most r) (every (parses_at w most) rs) e in
      let c = sym (every_append is_byte r (flat rs)) ∙ b in
      λ i.
      encode_entries_at w most r (shape_facts w most r p) (also_left (every is_byte r) (every is_byte (flat rs)) c) i
      ∷ each_again rs q (also_right (every is_byte r) (every is_byte (flat rs)) c) i

  pub all_parse_good : (xs : List ℕ) → all_parse_at w most xs ≡ true → Each (Good most) (map (entries_at w) (ranges xs))
  unfolding all_parse_at
  all_parse_good xs p = each_good (ranges xs) p

  pub all_parse_unique : (xs : List ℕ) → Bytes xs → all_parse_at w most xs ≡ true → xs ≡ encode_all_at w (map (entries_at w) (ranges xs))
  unfolding all_parse_at encode_all_at
  all_parse_unique xs b p = sym (flat_ranges xs) ∙ ap flat (sym (each_again (ranges xs) p (rw (flat_ranges xs) b)))

-- blocks add up
pub blocks_all_append : (w : ℕ) (rs qs : List (List Entry)) → blocks_all_at w (rs ++ qs) ≡ blocks_all_at w rs + blocks_all_at w qs
unfolding blocks_all_at
blocks_all_append w rs qs = ap sum (map-append (blocks_at w) rs qs) ∙ sum_append (map (blocks_at w) rs) (map (blocks_at w) qs)

pub length_encode_all : (w : ℕ) (rs : List (List Entry)) → length (encode_all_at w rs) ≡ blocks_all_at w rs * block_size
unfolding encode_all_at blocks_all_at flat sum
length_encode_all w [] = refl
length_encode_all w (r ∷ rs) =
    let t : length (flat (map (encode_at w) rs)) ≡ sum (map (blocks_at w) rs) * block_size = length_encode_all w rs in
    let h = length_encode_at w r in
    simp length-append (omega arith)

-- the bytes of some ranges, and of those after them
pub encode_all_before : (w : ℕ) (rs qs : List (List Entry)) → take (blocks_all_at w rs * block_size) (encode_all_at w (rs ++ qs)) ≡ encode_all_at w rs
encode_all_before w rs qs =
    ap (take (blocks_all_at w rs * block_size)) (encode_all_append w rs qs)
    ∙ take_at (encode_all_at w rs) (encode_all_at w qs) (blocks_all_at w rs * block_size) (length_encode_all w rs)

pub encode_all_after : (w : ℕ) (rs qs : List (List Entry)) → drop (blocks_all_at w rs * block_size) (encode_all_at w (rs ++ qs)) ≡ encode_all_at w qs
encode_all_after w rs qs =
    ap (drop (blocks_all_at w rs * block_size)) (encode_all_append w rs qs)
    ∙ drop_at (encode_all_at w rs) (encode_all_at w qs) (blocks_all_at w rs * block_size) (length_encode_all w rs)

-- so bytes parse exactly where they are ranges of good entries, one after another
pub parse_all_iff : (w most : ℕ) (xs : List ℕ) (es : List Entry) → Sizes w most → Bytes xs
    → (parse_all_at w most xs ≡ some es) ↔ ((rs : List (List Entry)) × Each (Good most) rs × (xs ≡ encode_all_at w rs) × (flat rs ≡ es))
unfolding all_entries_at
parse_all_iff w most xs es s b = (there, back)
  where
    there : parse_all_at w most xs ≡ some es → (rs : List (List Entry)) × Each (Good most) rs × (xs ≡ encode_all_at w rs) × (flat rs ≡ es)
    there e =
        let p = parse_all_parses w most xs es e in
        (map (entries_at w) (ranges xs), all_parse_good w most xs p, all_parse_unique w most xs b p, parse_all_entries w most xs es e)

    back : (rs : List (List Entry)) × Each (Good most) rs × (xs ≡ encode_all_at w rs) × (flat rs ≡ es) → parse_all_at w most xs ≡ some es
    back t = ap (parse_all_at w most) t.2 ∙ parse_all_encode_all w most s t.0 t.1 ∙ ap {B = Option (List Entry)} some t.3

-- what bytes that parse hold: no more entries and no more body bytes than there are bytes, each entry of an allowed length, and all in
-- the blocks that the entries need
module _ (w most : ℕ) where
  each_count : (rs : List (List ℕ)) → every (parses_at w most) rs ≡ true → length (flat (map (entries_at w) rs)) ≤ length (flat rs)
  unfolding every flat
  each_count [] e = omega arith
  each_count (r ∷ rs) e =
      let s = shape_facts w most r (also_left (parses_at w most r) (every (parses_at w most) rs) e) in
      let t = each_count rs (also_right (parses_at w most r) (every (parses_at w most) rs) e) in
      simp length-append (omega (arith, length_entries_at w r))

  each_bytes : (rs : List (List ℕ)) → every (parses_at w most) rs ≡ true → sum (lengths (flat (map (entries_at w) rs))) ≤ length (flat rs)
  unfolding every flat lengths sum
  each_bytes [] e = omega arith
  each_bytes (r ∷ rs) e =
      let s = shape_facts w most r (also_left (parses_at w most r) (every (parses_at w most) rs) e) in
      let t = each_bytes rs (also_right (parses_at w most r) (every (parses_at w most) rs) e) in
      simp (length-append, lengths_append, sum_append) (omega (arith, ap sum (lengths_entries_at w most r s)))

  each_length : (rs : List (List ℕ)) → every (parses_at w most) rs ≡ true → every (ok_length most) (lengths (flat (map (entries_at w) rs))) ≡ true
  unfolding every flat lengths
  each_length [] e = refl
  each_length (r ∷ rs) e =
      let s = shape_facts w most r (also_left (parses_at w most r) (every (parses_at w most) rs) e) in
      let t = each_length rs (also_right (parses_at w most r) (every (parses_at w most) rs) e) in
      ap (every (ok_length most)) (lengths_append (entries_at w r) (flat (map (entries_at w) rs)))
      ∙ every_append (ok_length most) (lengths (entries_at w r)) (lengths (flat (map (entries_at w) rs)))
      ∙ also_both _ _ (good_entries_at w most r s).each t

  each_blocks : (rs : List (List ℕ)) → every (parses_at w most) rs ≡ true → length (flat rs) ≡ sum (map (blocks_at w) (map (entries_at w) rs)) * block_size
  unfolding every flat sum
  each_blocks [] e = refl
  each_blocks (r ∷ rs) e =
      let s = shape_facts w most r (also_left (parses_at w most r) (every (parses_at w most) rs) e) in
      let t = each_blocks rs (also_right (parses_at w most r) (every (parses_at w most) rs) e) in
      simp length-append (omega (arith, blocks_at_entries_at w most r s))

  module _ (xs : List ℕ) (p : all_parse_at w most xs ≡ true) where
    pub all_parse_blocks : length xs ≡ blocks_all_at w (map (entries_at w) (ranges xs)) * block_size
    unfolding blocks_all_at all_parse_at
    all_parse_blocks = ap length (sym (flat_ranges xs)) ∙ each_blocks (ranges xs) p

    pub all_entries_count : length (all_entries_at w xs) ≤ length xs
    unfolding all_entries_at all_parse_at
    all_entries_count = rw (flat_ranges xs) at (each_count (ranges xs) p)

    pub all_entries_bytes : sum (lengths (all_entries_at w xs)) ≤ length xs
    unfolding all_entries_at all_parse_at
    all_entries_bytes = rw (flat_ranges xs) at (each_bytes (ranges xs) p)

    pub all_entries_each : every (ok_length most) (lengths (all_entries_at w xs)) ≡ true
    unfolding all_entries_at all_parse_at
    all_entries_each = each_length (ranges xs) p
