-- The journal as a ring of whole blocks, and a range written into it from a block on. Assumes nothing.
use Rattle.std.specs.Prelude.{ℕ, ◌+◌, ◌*◌, ◌/◌, ◌%◌, ◌-◌, ◌≤◌, ◌<◌, Bool, true, false, cond, ◌≡◌, refl, List, [], ◌∷◌, ◌++◌, take, replicate, leb, ltb, eqb}
use Rattle.std.proofs.Math.Path.{sym, ap}
use Rattle.std.proofs.Common.{◌∙◌, length-append, take_all, length-take-le}
use Rattle.std.proofs.Math.Option.{some}
use Rattle.std.proofs.Math.Nat.{sub-zero}
use native.Mathlib.Omega.{arith}
use Rattle.std.proofs.Math.ListN.{length}
use Rattle.std.proofs.lemmas.List.{length-replicate}
use borrow.Author.Tests.{lt-ltb, le-ltb, le-leb, lt-leb, eqb-true, leb-true, ltb-true}
use Rattle.laws.specs.Choice.{also, ask, and_then, unless, also_left, also_right, also_both, and_then_left, and_then_right, ask_yes, and_then_first, unless_kept, unless_done}
use Rattle.laws.specs.Digits.{digits}
use Rattle.laws.specs.Ring.{wrap, wrap_below}
use Rattle.laws.specs.Around.{around, splice_around, around_here, around_run}
use Rattle.layout.specs.Geometry.{block_size, most_blocks}
use Rattle.laws.specs.LowFirst.{each_low}
use Rattle.range.specs.Form.{most_entries, most_entry_length, length_width, head_size, used, blocks_for, blocks, encode, parse}
use Rattle.range.specs.Blocks.{format_sizes, length_encode_at}
use Rattle.range.specs.Round.{parse_encode}
use Rattle.range.specs.Memory.{view, total, range_from, range_from_view}
use Rattle.range.specs.Runs.{head, length_head}
use Rattle.runs.specs.Low.{low_bytes, length_low_bytes}
use Rattle.writer.specs.Entries.{range_ok, Fits, range_facts, facts_range, fits_good, fits_blocks}

-- so many bytes are from 1 to 4,096 whole blocks
unfoldable pub journal_ok : ℕ → Bool
journal_ok len = also (eqb (len % block_size) 0) (also (leb 1 (len / block_size)) (leb (len / block_size) most_blocks))

-- questions 1, 4 and 8 of a write: the journal, start and entries, and that the range has no more blocks than the journal
unfoldable pub ask_write : List ℕ → List ℕ → ℕ → List ℕ → ℕ → ℕ
ask_write bytes lens n journal start =
    and_then (ask 1 (journal_ok (length journal)))
    (and_then (ask 4 (also (ltb start (length journal / block_size)) (range_ok bytes lens n)))
    (ask 8 (leb (blocks (view bytes lens n)) (length journal / block_size))))

-- a write that asks nothing of the lengths: as many bytes and lengths are there, few enough lengths for a range, and the range of n
-- entries with t bytes lies in a journal of `all` blocks
unfoldable pub put_ok : ℕ → ℕ → ℕ → ℕ → ℕ → ℕ → Bool
put_ok bytes lens n t all start =
    also (leb n most_entries)
    (also (leb n lens)
    (also (leb t bytes)
    (also (ltb start all)
    (leb (blocks_for (used length_width n t)) all))))

-- what it leaves
unfoldable pub put_range : List ℕ → List ℕ → ℕ → ℕ → List ℕ → ℕ → List ℕ
put_range bytes lens n t journal start =
    cond (put_ok (length bytes) (length lens) n t (length journal / block_size) start)
    (splice_around journal (start * block_size) (range_from length_width bytes lens n t))
    journal

-- all were answered yes
pub record Writable (bytes lens : List ℕ) (n : ℕ) (journal : List ℕ) (start : ℕ) : Type 0 where
  pub whole : length journal ≡ length journal / block_size * block_size
  pub most : length journal / block_size ≤ most_blocks
  pub inside : start < length journal / block_size
  pub entries : Fits bytes lens n
  pub holds : blocks (view bytes lens n) ≤ length journal / block_size

pub write_asked : (bytes lens : List ℕ) (n : ℕ) (journal : List ℕ) (start : ℕ) → ask_write bytes lens n journal start ≡ 0 → Writable bytes lens n journal start
unfolding ask_write journal_ok
write_asked bytes lens n journal start e =
    let j : journal_ok (length journal) ≡ true = ask_yes 1 (journal_ok (length journal)) (omega arith) (and_then_left (ask 1 (journal_ok (length journal))) _ e) in
    let r = and_then_right (ask 1 (journal_ok (length journal))) _ e in
    let a : also (ltb start (length journal / block_size)) (range_ok bytes lens n) ≡ true = ask_yes 4 _ (omega arith) (and_then_left (ask 4 _) _ r) in
    let m : length journal % block_size ≡ 0 = eqb-true (length journal % block_size) 0 (also_left _ _ j) in
    record {
      whole = omega arith;
      most = leb-true (length journal / block_size) most_blocks (also_right _ _ (also_right _ _ j));
      inside = ltb-true start (length journal / block_size) (also_left _ _ a);
      entries = range_facts bytes lens n (also_right _ _ a);
      holds = leb-true (blocks (view bytes lens n)) (length journal / block_size) (ask_yes 8 _ (omega arith) (and_then_right (ask 4 _) (ask 8 _) r));
    }

-- what was written stands on the ring from its start on, and reads as the same entries
module _ (bytes lens : List ℕ) (n : ℕ) (journal : List ℕ) (start : ℕ) (w : Writable bytes lens n journal start) where
  pub write_there : around (splice_around journal (start * block_size) (encode (view bytes lens n))) (start * block_size) (blocks (view bytes lens n) * block_size)
      ≡ encode (view bytes lens n)
  write_there =
      let long : length (encode (view bytes lens n)) ≡ blocks (view bytes lens n) * block_size = length_encode_at length_width (view bytes lens n) in
      ap (around (splice_around journal (start * block_size) (encode (view bytes lens n))) (start * block_size)) (sym long)
      ∙ around_here journal (start * block_size) (encode (view bytes lens n)) (omega (arith, w.whole, w.inside)) (omega (arith, w.whole, w.holds, long))

  pub write_reads : parse (encode (view bytes lens n)) ≡ some (view bytes lens n)
  write_reads = parse_encode length_width most_entry_length (view bytes lens n) format_sizes (fits_good bytes lens n w.entries)

-- the ways out of the questions
module _ (bytes lens : List ℕ) (n : ℕ) (journal : List ℕ) (start : ℕ) where
  pub write_journal_is : (q : ℕ) → q ≡ ask 1 (journal_ok (length journal)) → (q ≡ 0 → ⊥) → ask_write bytes lens n journal start ≡ q
  unfolding ask_write
  write_journal_is q h k = and_then_first (ask 1 (journal_ok (length journal))) _ (λ e. k (h ∙ e)) ∙ sym h

  module _ (q : ℕ) (hq : q ≡ ask 1 (journal_ok (length journal))) (k : q ≡ 0) where
    whole : journal_ok (length journal) ≡ true
    whole = ask_yes 1 (journal_ok (length journal)) (omega arith) (sym hq ∙ k)

    pub write_start : length journal / block_size ≤ start → ask_write bytes lens n journal start ≡ 4
    unfolding ask_write and_then ask also
    write_start h = simp (whole, le-ltb start (length journal / block_size) h)

    module _ (s : start < length journal / block_size) where
      pub write_entries : range_ok bytes lens n ≡ false → ask_write bytes lens n journal start ≡ 4
      unfolding ask_write and_then ask also
      write_entries h = simp (whole, lt-ltb start (length journal / block_size) s, h)

      module _ (f : Fits bytes lens n) (b : ℕ) (hb : b ≡ blocks (view bytes lens n)) where
        pub write_full : length journal / block_size < b → ask_write bytes lens n journal start ≡ 8
        unfolding ask_write and_then ask also
        write_full h =
            let l : length journal / block_size < blocks (view bytes lens n) = omega arith in
            simp (whole, lt-ltb start (length journal / block_size) s, facts_range bytes lens n f, lt-leb (blocks (view bytes lens n)) (length journal / block_size) l)

        pub write_yes : b ≤ length journal / block_size → ask_write bytes lens n journal start ≡ 0
        unfolding ask_write and_then ask also
        write_yes h =
            let l : blocks (view bytes lens n) ≤ length journal / block_size = omega arith in
            simp (whole, lt-ltb start (length journal / block_size) s, facts_range bytes lens n f, le-leb (blocks (view bytes lens n)) (length journal / block_size) l)

-- the journal after a refusal
pub write_kept : (q k : ℕ) (x new : List ℕ) → q ≡ k → (k ≡ 0 → ⊥) → x ≡ unless q x new
write_kept q k x new h l = sym (unless_kept q x new (λ e. l (sym h ∙ e)))

-- the numbers fit: b blocks, from the place `at` on
pub record Puts (bytes lens : List ℕ) (n t b : ℕ) (journal : List ℕ) (at : ℕ) : Type 0 where
  pub few : n ≤ most_entries
  pub there : n ≤ length lens
  pub fit : t ≤ length bytes
  pub fewest : b ≡ blocks_for (used length_width n t)
  pub room : b * block_size ≤ length journal
  pub first_block : at + block_size ≤ length journal

module _ (bytes lens : List ℕ) (n t : ℕ) (journal : List ℕ) (start : ℕ) where
  pub puts_facts : (b : ℕ) → put_ok (length bytes) (length lens) n t (length journal / block_size) start ≡ true → b ≡ blocks_for (used length_width n t)
      → Puts bytes lens n t b journal (start * block_size)
  unfolding put_ok
  puts_facts b e hb =
      let e1 = also_right _ _ e in
      let e2 = also_right _ _ e1 in
      let e3 = also_right _ _ e2 in
      let inside : start < length journal / block_size = ltb-true start (length journal / block_size) (also_left _ _ e3) in
      let holds : blocks_for (used length_width n t) ≤ length journal / block_size = leb-true (blocks_for (used length_width n t)) (length journal / block_size) (also_right _ _ e3) in
      record {
        few = leb-true n most_entries (also_left _ _ e);
        there = leb-true n (length lens) (also_left _ _ e1);
        fit = leb-true t (length bytes) (also_left _ _ e2);
        fewest = hb;
        room = omega arith;
        first_block = omega arith;
      }

  -- so the place is a place of the journal
  pub puts_start : put_ok (length bytes) (length lens) n t (length journal / block_size) start ≡ true → start * block_size ≤ length journal
  puts_start e = let p = puts_facts (blocks_for (used length_width n t)) e refl in omega arith

  -- the two ways of the write
  pub put_no : put_ok (length bytes) (length lens) n t (length journal / block_size) start ≡ false → journal ≡ put_range bytes lens n t journal start
  unfolding put_range
  put_no e = sym (simp e)

  pub put_yes : (x : List ℕ) → put_ok (length bytes) (length lens) n t (length journal / block_size) start ≡ true
      → x ≡ splice_around journal (start * block_size) (range_from length_width bytes lens n t) → x ≡ put_range bytes lens n t journal start
  unfolding put_range
  put_yes x e h = h ∙ sym (simp e)

  -- of entries that make a range, counted by their lengths, it is the range of the entries
  pub put_view : Fits bytes lens n → t ≡ total lens n → start < length journal / block_size → blocks (view bytes lens n) ≤ length journal / block_size
      → put_range bytes lens n t journal start ≡ splice_around journal (start * block_size) (encode (view bytes lens n))
  unfolding put_range put_ok
  put_view f ht inside holds =
      simp ok
      (ap (λ (k : ℕ). splice_around journal (start * block_size) (range_from length_width bytes lens n k)) ht
      ∙ ap (splice_around journal (start * block_size)) (range_from_view length_width most_entry_length bytes lens n f.held.there f.held.fit))
    where
      blocks_is : blocks_for (used length_width n t) ≡ blocks (view bytes lens n)
      blocks_is = ap (λ (k : ℕ). blocks_for (used length_width n k)) ht ∙ sym (fits_blocks bytes lens n f)

      ok : also (leb n most_entries) (also (leb n (length lens)) (also (leb t (length bytes)) (also (ltb start (length journal / block_size)) (leb (blocks_for (used length_width n t)) (length journal / block_size))))) ≡ true
      ok =
          also_both _ _ (le-leb n most_entries f.few)
          (also_both _ _ (le-leb n (length lens) f.held.there)
          (also_both _ _ (le-leb t (length bytes) (omega (arith, ht, f.held.fit)))
          (also_both _ _ (lt-ltb start (length journal / block_size) inside)
          (le-leb (blocks_for (used length_width n t)) (length journal / block_size) (omega (arith, holds, blocks_is))))))

-- and so after the questions were answered yes
pub write_put : (bytes lens : List ℕ) (n : ℕ) (journal : List ℕ) (start t : ℕ) (x : List ℕ) → ask_write bytes lens n journal start ≡ 0 → t ≡ total lens n
    → x ≡ put_range bytes lens n t journal start
    → x ≡ unless (ask_write bytes lens n journal start) journal (splice_around journal (start * block_size) (encode (view bytes lens n)))
write_put bytes lens n journal start t x q ht h =
    let w = write_asked bytes lens n journal start q in
    h ∙ put_view bytes lens n t journal start w.entries ht w.inside w.holds ∙ sym (unless_done _ _ _ q)

-- the low bytes of lengths are their bytes in a range
low_lengths : (ns : List ℕ) → low_bytes ns ≡ each_low 1 ns
unfolding each_low digits low_bytes
low_lengths [] = refl
low_lengths (n ∷ ns) = ap (λ (l : List ℕ). n % 256 ∷ l) (low_lengths ns)

-- the four runs as the code writes them: the head's four bytes, n lengths, t bytes of bodies, z zeros
module _ (bytes lens : List ℕ) (n t b : ℕ) (journal : List ℕ) (at : ℕ) (r : Puts bytes lens n t b journal at) where
  pub put_runs : (h x1 x2 x3 x4 : List ℕ) (p4 z : ℕ) → h ≡ head b n → z + (head_size + n + t) ≡ b * block_size → p4 ≡ wrap (length journal) (at + head_size + n + t)
      → x1 ≡ splice_around journal at (take (length journal) (take (head_size - 0) h))
      → x2 ≡ splice_around x1 (at + head_size) (take (length x1) (low_bytes (take (n - 0) lens)))
      → x3 ≡ splice_around x2 (at + head_size + n) (take (length x2) (take (t - 0) bytes))
      → x4 ≡ splice_around x3 p4 (take (length x3) (replicate z 0))
      → x4 ≡ splice_around journal at (range_from length_width bytes lens n t)
  put_runs h x1 x2 x3 x4 p4 z hh hz h4 q1 q2 q3 q4 =
      r4 ∙ (λ i. splice_around journal at (head (r.fewest i) n ++ low_lengths (take n lens) i ++ take t bytes ++ replicate {A = ℕ} (zeros i) 0))
    where
      in_room : at < length journal
      in_room = omega (arith, r.first_block)

      used_in_is : head_size + n + t + z ≤ length journal
      used_in_is = omega (arith, r.room, hz)

      zeros : z ≡ blocks_for (used length_width n t) * block_size - used length_width n t
      zeros = omega (arith, hz, r.fewest)

      long1 : length (head b n) ≡ head_size
      long1 = length_head b n

      low : length (low_bytes (take n lens)) ≡ n
      low = length_low_bytes (take n lens) ∙ length-take-le n lens r.there

      long2 : length (head b n ++ low_bytes (take n lens)) ≡ head_size + n
      long2 = length-append (head b n) (low_bytes (take n lens)) ∙ (λ i. long1 i + low i)

      bodies : length (take t bytes) ≡ t
      bodies = length-take-le t bytes r.fit

      long3 : length (head b n ++ low_bytes (take n lens) ++ take t bytes) ≡ head_size + n + t
      long3 = length-append (head b n ++ low_bytes (take n lens)) (take t bytes) ∙ (λ i. long2 i + bodies i)

      below : (k : ℕ) → k ≤ head_size + most_entries → at + k ≡ wrap (length journal) (at + k)
      below k l = sym (wrap_below (length journal) (at + k) (omega (arith, l, r.first_block)))

      r1 : x1 ≡ splice_around journal at (head b n)
      r1 =
          q1
          ∙ ap (λ (l : List ℕ). splice_around journal at (take (length journal) l)) (take_all (head_size - 0) h (omega (arith, ap length hh, long1)) ∙ hh)
          ∙ ap (splice_around journal at) (take_all (length journal) (head b n) (omega (arith, long1, r.first_block)))

      r2 : x2 ≡ splice_around journal at (head b n ++ low_bytes (take n lens))
      r2 =
          around_run journal x1 x2 (head b n) (low_bytes (take n lens)) at (at + head_size) in_room (omega (arith, long1, low, used_in_is)) r1
          (below head_size (omega arith) ∙ ap (λ (k : ℕ). wrap (length journal) (at + k)) (sym long1))
          (q2 ∙ ap (λ (k : ℕ). splice_around x1 (at + head_size) (take (length x1) (low_bytes (take k lens)))) (sub-zero n))

      r3 : x3 ≡ splice_around journal at (head b n ++ low_bytes (take n lens) ++ take t bytes)
      r3 =
          let e : at + head_size + n ≡ at + (head_size + n) = omega arith in
          around_run journal x2 x3 (head b n ++ low_bytes (take n lens)) (take t bytes) at (at + head_size + n) in_room (omega (arith, long2, bodies, used_in_is)) r2
          (e ∙ below (head_size + n) (omega (arith, r.few)) ∙ ap (λ (k : ℕ). wrap (length journal) (at + k)) (sym long2))
          (q3 ∙ ap (λ (k : ℕ). splice_around x2 (at + head_size + n) (take (length x2) (take k bytes))) (sub-zero t))

      r4 : x4 ≡ splice_around journal at (head b n ++ low_bytes (take n lens) ++ take t bytes ++ replicate z 0)
      r4 =
          let e : at + head_size + n + t ≡ at + (head_size + n + t) = omega arith in
          around_run journal x3 x4 (head b n ++ low_bytes (take n lens) ++ take t bytes) (replicate z 0) at p4 in_room
          (omega (arith, long3, length-replicate {A = ℕ} z 0, used_in_is)) r3
          (h4 ∙ ap (wrap (length journal)) e ∙ ap (λ (k : ℕ). wrap (length journal) (at + k)) (sym long3))
          q4
