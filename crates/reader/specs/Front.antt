-- The range in front of some bytes: it is as long as it says. What stands there, the ways out of a reader that asks one clause after
-- another, and what a range that ends with the bytes tells of them. Assumes nothing.
use Rattle.std.specs.Prelude.{None, Some, Ok, Err}
use Rattle.std.specs.declared.option.Option as code
use Rattle.std.specs.Prelude.{ℕ, ◌+◌, ◌*◌, ◌-◌, ◌≤◌, ◌<◌, Bool, false, cond, ◌≡◌, refl, drop}
use Rattle.std.proofs.Math.Bool.{true}
use Rattle.std.proofs.Math.Path.{sym, ap}
use Rattle.std.proofs.Common.{◌∙◌, arith, length-take}
use mathlib.Core.List.{List}
use Rattle.std.proofs.Math.ListN.{length, take}
use Rattle.std.proofs.Math.Seq.{take_all, length-take-le}
use Rattle.laws.specs.Choice.{ask, not_so, false_true, ruin}
use Rattle.laws.specs.Part.{part_of_front, drop_take}
use Rattle.laws.specs.Fold.{sum, every}
use Rattle.laws.specs.Cut.{flat, lengths, flat_cut}
use Rattle.laws.specs.Bytes.{Bytes, is_zero}
use Rattle.range.specs.Form.{Entry, block_size, most_entry_length, length_width, head_size, used, blocks_for, block_count, entry_count, lengths_at, used_in, entries_at, entries, ok_length, parses, range_size}
use Rattle.range.specs.Shape.{Shape, shape_of, shape_facts, shape_yes, length_entries_at}
use Rattle.range.specs.Round.{lengths_entries_at}
use Rattle.range.specs.Walk.{block_count_take, entry_count_take, lengths_at_take}
use Rattle.reader.specs.declared.answer.Contents.{Contents}
use Rattle.refusal.specs.declared.Refusal.TheVariants as no
use Rattle.reader.specs.Answer.{scanned}
use Rattle.reader.specs.Range.{contents_of, counts_ok, said, Said, Small, counts_yes, counts_facts, lengths_part, contents_small, contents_said, contents_whole}

-- the bytes of the range in front, and its entries
abbrev pub front_range : List ℕ → List ℕ
front_range xs = take (range_size xs) xs

abbrev pub front_entries : List ℕ → List Entry
front_entries xs = entries (front_range xs)

-- a range stands in front
abbrev pub InFront : List ℕ → Type 0
InFront xs = parses (front_range xs) ≡ true

-- the answer: what it says of itself
unfoldable pub front_of : List ℕ → code.Option Contents
front_of xs = cond (parses (front_range xs)) (Some (said xs)) None

-- what stands in front, in a reader's numbers
pub record Fronted (xs : List ℕ) (size e t : ℕ) : Type 0 where
  pub size_is : size ≡ range_size xs
  pub blocks : size ≡ block_count xs * block_size
  pub some : 0 < size
  pub within : size ≤ length xs
  pub count : e ≡ length (front_entries xs)
  pub bytes : t ≡ sum (lengths (front_entries xs))
  pub room : head_size + e + t ≤ size

module _ (xs : List ℕ) (p : InFront xs) where
  shape : Shape length_width most_entry_length (front_range xs)
  shape = shape_facts length_width most_entry_length (front_range xs) p

  same_blocks : block_count (front_range xs) ≡ block_count xs
  same_blocks = block_count_take (range_size xs) xs (omega arith)

  same_count : entry_count (front_range xs) ≡ entry_count xs
  same_count = entry_count_take (range_size xs) xs (omega arith)

  front_length : length (front_range xs) ≡ block_count xs * block_size
  front_length = shape.whole ∙ ap (λ (n : ℕ). n * block_size) same_blocks

  front_some : 1 ≤ block_count xs
  front_some = let s = shape in omega (arith, front_length)

  front_within : range_size xs ≤ length xs
  front_within = omega (arith, front_length, front_some, length-take (range_size xs) xs)

  front_said : Said xs (contents_of xs)
  front_said = let s = shape in contents_whole xs (omega (arith, same_count, length-take (range_size xs) xs))

  front_lengths : lengths_at length_width (front_range xs) ≡ lengths_at length_width xs
  front_lengths = let s = shape in lengths_at_take (range_size xs) xs (omega (arith, same_count, front_length, front_some)) front_within

  lengths_front : lengths (front_entries xs) ≡ lengths_at length_width xs
  lengths_front = lengths_entries_at length_width most_entry_length (front_range xs) shape ∙ front_lengths

  flat_front : flat (front_entries xs) ≡ take (sum (lengths_at length_width xs)) (drop (head_size + entry_count xs) xs)
  unfolding entries_at
  flat_front =
      let s = shape in
      let n : head_size + entry_count (front_range xs) * length_width ≡ head_size + entry_count xs = omega (arith, same_count) in
      flat_cut (lengths_at length_width (front_range xs)) (drop (head_size + entry_count (front_range xs) * length_width) (front_range xs))
      ∙ (λ i. take (sum (front_lengths i)) (drop (n i) (front_range xs)))
      ∙ part_of_front xs (range_size xs) (head_size + entry_count xs) (sum (lengths_at length_width xs))
      (omega (arith, same_count, front_length, front_some, ap sum front_lengths))

  module _ (c : Contents) (hc : c ≡ contents_of xs) where
    -- what was read is what the range says
    front_read : Said xs c
    front_read = rw hc front_said

    pub fronted : Fronted xs (c.blocks * block_size) c.entries c.bytes
    fronted =
        let s = shape in
        let w = front_read in
        record {
          size_is = omega (arith, front_some);
          blocks = omega arith;
          some = omega (arith, front_some);
          within = omega (arith, front_some, front_within);
          count = w.count ∙ sym (length_entries_at length_width (front_range xs) ∙ same_count);
          bytes = w.bytes ∙ ap sum (sym lengths_front);
          room = omega (arith, same_count, front_length, front_some, ap sum front_lengths);
        }

    -- its bodies and its lengths, as the parts of the bytes that are copied
    pub bodies_part : take (head_size + c.entries + c.bytes - (head_size + c.entries)) (drop (head_size + c.entries) xs) ≡ flat (front_entries xs)
    bodies_part =
        let w = front_read in
        let t : head_size + c.entries + c.bytes - (head_size + c.entries) ≡ sum (lengths_at length_width xs) = omega arith in
        let a : head_size + c.entries ≡ head_size + entry_count xs = omega arith in
        (λ i. take (t i) (drop (a i) xs)) ∙ sym flat_front

    pub lens_part : take (head_size + c.entries - head_size) (drop head_size xs) ≡ lengths (front_entries xs)
    lens_part = let w = front_read in lengths_part xs c.entries w.count w.within ∙ sym lengths_front

-- the ways out, in the order of the questions
module _ (xs : List ℕ) (c : Contents) (hc : c ≡ contents_of xs) where
  pub front_small : Bytes xs → Small c
  front_small b = rw hc (contents_small xs b)

  front_no : (InFront xs → ⊥) → None ≡ front_of xs
  unfolding front_of
  front_no h = simp (not_so (parses (front_range xs)) h)

  -- it passes the end
  pub front_past : length xs < c.blocks * block_size → None ≡ front_of xs
  front_past h = front_no (λ p. let f = fronted xs p c hc in omega arith)

  -- its counts are none of a range
  pub front_counts : counts_ok c ≡ false → None ≡ front_of xs
  front_counts h =
      front_no
      (λ p.
      let s = shape xs p in
      let w = front_read xs p c hc in
      let u : used length_width c.entries c.bytes ≡ used_in length_width (front_range xs) = omega (arith, same_count xs p, ap sum (front_lengths xs p)) in
      false_true
      (sym h
      ∙ counts_yes c
      (record {
        any = omega (arith, same_count xs p);
        few = omega (arith, same_count xs p);
        fewest = w.blocks ∙ sym (same_blocks xs p) ∙ s.fewest ∙ ap blocks_for (sym u);
      })))

  module _ (fits : c.blocks * block_size ≤ length xs) (k : counts_ok c ≡ true) where
    pub front_counted : Said xs c
    front_counted = let a : 1 ≤ (contents_of xs).entries = rw hc at (counts_facts c k).any in rw hc (contents_said xs (omega arith))

    size : range_size xs ≡ c.blocks * block_size
    size = let w = front_counted in let f = counts_facts c k in omega arith

    used_is : head_size + c.entries + c.bytes ≡ used_in length_width xs
    used_is = let w = front_counted in omega arith

    -- it holds what it counts
    pub front_holds : head_size + c.entries + c.bytes ≤ c.blocks * block_size
    front_holds = let f = counts_facts c k in omega arith

    counts_same : entry_count (front_range xs) ≡ entry_count xs
    counts_same = entry_count_take (range_size xs) xs (omega arith)

    lengths_same : lengths_at length_width (front_range xs) ≡ lengths_at length_width xs
    lengths_same = let w = front_counted in lengths_at_take (range_size xs) xs (omega (arith, size, front_holds)) (omega (arith, size))

    used_same : used_in length_width (front_range xs) ≡ head_size + c.entries + c.bytes
    used_same = let w = front_counted in omega (arith, counts_same, ap sum lengths_same)

    module _ (q : Bool) (hq : q ≡ every (ok_length most_entry_length) (take (head_size + c.entries - head_size) (drop head_size xs))) where
      each : q ≡ every (ok_length most_entry_length) (lengths_at length_width (front_range xs))
      each =
          let w = front_counted in
          hq ∙ ap (every (ok_length most_entry_length)) (lengths_part xs c.entries w.count w.within ∙ sym lengths_same)

      pub front_bad_length : q ≡ false → None ≡ front_of xs
      front_bad_length h = front_no (λ p. false_true (sym (sym each ∙ h) ∙ (shape xs p).each))

      module _ (z : Bool)
          (hz : z ≡ every is_zero (take (c.blocks * block_size - (head_size + c.entries + c.bytes)) (drop (head_size + c.entries + c.bytes) xs))) where
        zeros : z ≡ every is_zero (drop (used_in length_width (front_range xs)) (front_range xs))
        zeros =
            let u : ℕ = head_size + c.entries + c.bytes in
            let e : u + (c.blocks * block_size - u) ≡ range_size xs = omega (arith, size, front_holds) in
            hz
            ∙ ap (every is_zero) (sym (drop_take u (c.blocks * block_size - u) xs))
            ∙ (λ i. every is_zero (drop (sym used_same i) (take (e i) xs)))

        pub front_nonzero : z ≡ false → None ≡ front_of xs
        front_nonzero h = front_no (λ p. false_true (sym (sym zeros ∙ h) ∙ (shape xs p).zeros))

        pub front_yes : q ≡ true → z ≡ true → Some c ≡ front_of xs
        unfolding front_of
        front_yes hl ho =
            let w = front_counted in
            let f = counts_facts c k in
            let u : used length_width c.entries c.bytes ≡ used_in length_width (front_range xs) = omega (arith, used_same) in
            let long : length (front_range xs) ≡ range_size xs = length-take-le (range_size xs) xs (omega (arith, size)) in
            let blocks-same : block_count (front_range xs) ≡ block_count xs = block_count_take (range_size xs) xs (omega arith) in
            let s : Shape length_width most_entry_length (front_range xs)
            = shape_of length_width most_entry_length (front_range xs)
            (omega (arith, long, size, blocks-same))
            (omega (arith, counts_same))
            (omega (arith, counts_same))
            (sym each ∙ hl)
            (blocks-same ∙ sym w.blocks ∙ f.fewest ∙ ap blocks_for u)
            (sym zeros ∙ ho) in
            simp (shape_yes length_width most_entry_length (front_range xs) s)
            (λ i. Some (record { blocks = w.blocks i; entries = w.count i; bytes = w.bytes i }))

-- from the case of the answer
pub front_none : (xs : List ℕ) → None ≡ front_of xs → parses (front_range xs) ≡ false
unfolding front_of
front_none xs = go (parses (front_range xs))
  where
    go : (b : Bool) → None ≡ cond b (Some (said xs)) None → b ≡ false
    go true h = ruin (cc)
    go false h = refl

front_case : (xs : List ℕ) (c : Contents) → Some c ≡ front_of xs → InFront xs × (c ≡ said xs)
unfolding front_of
front_case xs c = go (parses (front_range xs))
  where
    go : (b : Bool) → Some c ≡ cond b (Some (said xs)) None → (b ≡ true) × (c ≡ said xs)
    go true h = (refl, cc)
    go false h = ruin (cc)

module _ (xs : List ℕ) (c : Contents) (h : Some c ≡ front_of xs) where
  pub front_there : InFront xs
  front_there = (front_case xs c h).0

  said_is : c ≡ contents_of xs
  unfolding contents_of
  said_is =
      let w = front_said xs front_there in
      (front_case xs c h).1 ∙ (λ i. record { blocks = sym w.blocks i; entries = sym w.count i; bytes = sym w.bytes i })

  pub front_facts : Fronted xs (c.blocks * block_size) c.entries c.bytes
  front_facts = fronted xs front_there c said_is

-- bytes that parse are the range in front of themselves
whole_front : (xs : List ℕ) → Shape length_width most_entry_length xs → front_range xs ≡ xs
whole_front xs s = take_all (range_size xs) xs (omega arith)

-- the ways out of a reader of one range: none stands in front, it ends before the bytes do, or with them
module _ (xs : List ℕ) where
  scan_not : (Shape length_width most_entry_length xs → ⊥) → Err no.Parse ≡ scanned (ask 7 (parses xs)) (entries xs)
  unfolding ask
  scan_not h = ap (λ (p : Bool). scanned (ask 7 p) (entries xs)) (sym (not_so (parses xs) (λ p. h (shape_facts length_width most_entry_length xs p))))

  pub scan_none : None ≡ front_of xs → Err no.Parse ≡ scanned (ask 7 (parses xs)) (entries xs)
  scan_none h =
      scan_not
      (λ s. false_true (sym (front_none xs h) ∙ ap parses (whole_front xs s) ∙ shape_yes length_width most_entry_length xs s))

  module _ (c : Contents) (h : Some c ≡ front_of xs) where
    pub scan_short : (length xs ≡ c.blocks * block_size → ⊥) → Err no.Parse ≡ scanned (ask 7 (parses xs)) (entries xs)
    scan_short k = scan_not (λ s. let f = front_facts xs c h in k (omega arith))

    pub scan_whole : length xs ≡ c.blocks * block_size → Ok (record { entries = c.entries; bytes = c.bytes }) ≡ scanned (ask 7 (parses xs)) (entries xs)
    unfolding ask
    scan_whole k =
        let f = front_facts xs c h in
        let all : front_range xs ≡ xs = take_all (range_size xs) xs (omega arith) in
        let p : parses xs ≡ true = sym (ap parses all) ∙ front_there xs c h in
        simp p
        (λ i. Ok (record { entries = (f.count ∙ ap (λ (l : List ℕ). length (entries l)) all) i; bytes = (f.bytes ∙ ap (λ (l : List ℕ). sum (lengths (entries l))) all) i }))
