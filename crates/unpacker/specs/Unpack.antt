-- Replay memory has a place for each byte of the ranges, so that no run is cut; what was written so far is the front of what is written
-- in the end. Assumes nothing.
use Rattle.std.specs.Prelude.{ℕ, ◌+◌, ◌*◌, ◌-◌, ◌≤◌, ◌<◌, true, ◌≡◌, refl, take, drop, leb}
use Rattle.std.proofs.Common.{sym, ◌∙◌, ap, arith, length-append, take_all, drop-drop, drop_at}
use mathlib.Core.List.{List, [], ◌++◌}
use Rattle.std.proofs.Math.ListN.{length}
use borrow.Author.Tests.{le-leb, lt-leb, leb-true}
use Rattle.laws.specs.Choice.{also, ask, and_then, unless, also_left, also_right, and_then_left, and_then_right, ask_yes, unless_kept, unless_done}
use Rattle.laws.specs.Part.{tail_is}
use Rattle.laws.specs.Splice.{splice, clipped, splice_none, splice_more, clipped_fits, length_clipped}
use Rattle.laws.specs.Cut.{flat, lengths, length_flat, length_lengths, flat_append, lengths_append}
use Rattle.range.specs.Form.{Entry, block_size, most_entry_length, length_width, parses, all_entries, all_parse}
use Rattle.range.specs.Walk.{all_end}
use Rattle.range.specs.Ranges.{all_entries_count, all_entries_bytes}
use Rattle.reader.specs.declared.answer.Contents.{Contents}
use Rattle.reader.specs.Range.{contents_of}
use Rattle.reader.specs.Front.{front_range, front_entries, InFront, Fronted, fronted}
use Rattle.unpacker.specs.Walked.{Walked, walked_none, walked_here, walked_next, entries_here}

-- questions 1 and 7
unfoldable pub ask_unpack : List ℕ → List ℕ → List ℕ → ℕ
ask_unpack xs bytes lens = and_then (ask 1 (also (leb (length xs) (length bytes)) (leb (length xs) (length lens)))) (ask 7 (all_parse xs))

-- both were answered yes
pub record Room (xs bytes lens : List ℕ) : Type 0 where
  pub parse : all_parse xs ≡ true
  pub for_bytes : length xs ≤ length bytes
  pub for_lens : length xs ≤ length lens

pub unpack_asked : (xs bytes lens : List ℕ) → ask_unpack xs bytes lens ≡ 0 → Room xs bytes lens
unfolding ask_unpack
unpack_asked xs bytes lens e =
    let lent : also (leb (length xs) (length bytes)) (leb (length xs) (length lens)) ≡ true = ask_yes 1 _ (omega arith) (and_then_left (ask 1 _) _ e) in
    record {
      parse = ask_yes 7 (all_parse xs) (omega arith) (and_then_right (ask 1 _) (ask 7 (all_parse xs)) e);
      for_bytes = leb-true (length xs) (length bytes) (also_left _ _ lent);
      for_lens = leb-true (length xs) (length lens) (also_right _ _ lent);
    }

-- the front of a whole was written, n elements of it, and what is left of it is r
pub record Written (whole r d x : List ℕ) (n : ℕ) : Type 0 where
  pub long : length x ≡ length d
  pub done : x ≡ splice d 0 (take n whole)
  pub left : drop n whole ≡ r
  pub some : n + length r ≡ length whole

written_none : (whole d : List ℕ) → Written whole whole d d 0
written_none whole d = record { long = refl; done = splice_none d 0; left = refl; some = omega arith }

-- the next part of it, cut where the memory ends, which it doesn't reach
written_next : (whole r d x y part rest : List ℕ) (n m : ℕ) → Written whole r d x n → r ≡ part ++ rest → length whole ≤ length d → m ≡ length part
    → y ≡ clipped x n part → Written whole rest d y (n + m)
written_next whole r d x y part rest n m w e h hm q =
    record {
      long = ap length q ∙ length_clipped x n part ∙ w.long;
      done =
          q
          ∙ clipped_fits x n part fits
          ∙ ap (λ (l : List ℕ). splice l n part) w.done
          ∙ splice_more d whole n part rest (omega (arith, w.some)) (w.left ∙ e) (omega (arith, fits, w.long))
          ∙ ap (λ (k : ℕ). splice d 0 (take (n + k) whole)) (sym hm);
      left =
          sym (drop-drop m n whole) ∙ ap (drop m) (w.left ∙ e) ∙ drop_at part rest m (sym hm);
      some = omega (arith, w.some, hm, sizes);
    }
  where
    sizes : length r ≡ length part + length rest
    sizes = ap length e ∙ length-append part rest

    fits : n + length part ≤ length x
    fits = omega (arith, w.some, w.long, sizes, h)

written_all : (whole r d x : List ℕ) (n : ℕ) → Written whole r d x n → length r ≡ 0 → x ≡ splice d 0 whole
written_all whole r d x n w h = w.done ∙ ap (splice d 0) (take_all n whole (omega (arith, w.some)))

-- a walk that has written the entries before the place `at`
pub record Unpacked (xs : List ℕ) (at n t : ℕ) (bytes₀ bytes lens₀ lens : List ℕ) : Type 0 where
  pub walked : Walked xs at n t
  pub bodies : Written (flat (all_entries xs)) (flat (all_entries (drop at xs))) bytes₀ bytes t
  pub sizes : Written (lengths (all_entries xs)) (lengths (all_entries (drop at xs))) lens₀ lens n

pub unpacked_none : (xs bytes lens : List ℕ) → Unpacked xs 0 0 0 bytes bytes lens lens
unpacked_none xs bytes lens =
    record { walked = walked_none xs; bodies = written_none (flat (all_entries xs)) bytes; sizes = written_none (lengths (all_entries xs)) lens }

module _ (xs bytes₀ lens₀ : List ℕ) (room : Room xs bytes₀ lens₀) (at n t : ℕ) (bytes lens : List ℕ) (u : Unpacked xs at n t bytes₀ bytes lens₀ lens) where
  fits_bytes : length (flat (all_entries xs)) ≤ length bytes₀
  fits_bytes = omega (arith, length_flat (all_entries xs), all_entries_bytes length_width most_entry_length xs room.parse)

  fits_lens : length (lengths (all_entries xs)) ≤ length lens₀
  fits_lens = omega (arith, length_lengths (all_entries xs), all_entries_count length_width most_entry_length xs room.parse)

  -- the next turn
  module _ (h : at < length xs) (p : InFront (drop at xs)) (size e b : ℕ) (f : Fronted (drop at xs) size e b) where
    here : all_entries (drop at xs) ≡ front_entries (drop at xs) ++ all_entries (drop (at + size) xs)
    here = entries_here xs at n t u.walked h p size e b f

    unpacked_next : (bytes' lens' : List ℕ) → bytes' ≡ clipped bytes t (flat (front_entries (drop at xs)))
        → lens' ≡ clipped lens n (lengths (front_entries (drop at xs))) → Unpacked xs (at + size) (n + e) (t + b) bytes₀ bytes' lens₀ lens'
    unpacked_next bytes' lens' hb hl =
        let es : List Entry = front_entries (drop at xs) in
        let rest : List Entry = all_entries (drop (at + size) xs) in
        record {
          walked = walked_next xs at n t u.walked h p size e b f;
          bodies =
              written_next (flat (all_entries xs)) (flat (all_entries (drop at xs))) bytes₀ bytes bytes' (flat es) (flat rest) t b u.bodies
              (ap flat here ∙ flat_append es rest) fits_bytes (f.bytes ∙ sym (length_flat es)) hb;
          sizes =
              written_next (lengths (all_entries xs)) (lengths (all_entries (drop at xs))) lens₀ lens lens' (lengths es) (lengths rest) n e u.sizes
              (ap lengths here ∙ lengths_append es rest) fits_lens (f.count ∙ sym (length_lengths es)) hl;
        }

  -- the same for a reader that has what is left as a part of the bytes, and its contents
  module _ (h : at < length xs) where
    rest : take (length xs - at) (drop at xs) ≡ drop at xs
    rest = tail_is xs at

    pub turn_front : InFront (take (length xs - at) (drop at xs))
    turn_front = ap (λ (l : List ℕ). parses (front_range l)) rest ∙ walked_here xs at n t u.walked h room.parse

    module _ (c : Contents) (hc : c ≡ contents_of (take (length xs - at) (drop at xs))) where
      turn_size : Fronted (drop at xs) (c.blocks * block_size) c.entries c.bytes
      turn_size = fronted (drop at xs) (walked_here xs at n t u.walked h room.parse) c (hc ∙ ap contents_of rest)

      pub turn_some : 0 < c.blocks
      turn_some = let f = turn_size in omega arith

      pub turn_next : (bytes' lens' : List ℕ) → bytes' ≡ clipped bytes t (flat (front_entries (take (length xs - at) (drop at xs))))
          → lens' ≡ clipped lens n (lengths (front_entries (take (length xs - at) (drop at xs))))
          → Unpacked xs (at + c.blocks * block_size) (n + c.entries) (t + c.bytes) bytes₀ bytes' lens₀ lens'
      turn_next bytes' lens' hb hl =
          unpacked_next h (walked_here xs at n t u.walked h room.parse) (c.blocks * block_size) c.entries c.bytes turn_size bytes' lens'
          (hb ∙ ap (λ (l : List ℕ). clipped bytes t (flat (front_entries l))) rest)
          (hl ∙ ap (λ (l : List ℕ). clipped lens n (lengths (front_entries l))) rest)

  -- the end
  module _ (h : length xs ≤ at) where
    none : all_entries (drop at xs) ≡ []
    none = all_end length_width most_entry_length xs at h

    pub unpacked_bytes : bytes ≡ splice bytes₀ 0 (flat (all_entries xs))
    unfolding flat
    unpacked_bytes = written_all (flat (all_entries xs)) (flat (all_entries (drop at xs))) bytes₀ bytes t u.bodies (ap (λ (es : List Entry). length (flat es)) none)

    pub unpacked_lens : lens ≡ splice lens₀ 0 (lengths (all_entries xs))
    unfolding lengths
    unpacked_lens = written_all (lengths (all_entries xs)) (lengths (all_entries (drop at xs))) lens₀ lens n u.sizes (ap (λ (es : List Entry). length (lengths es)) none)

-- memory that is too short, and memory that leaves the question whether the bytes parse
module _ (xs bytes lens : List ℕ) where
  pub no_bytes : length bytes < length xs → ask_unpack xs bytes lens ≡ 1
  unfolding ask_unpack and_then ask also
  no_bytes h = simp (lt-leb (length xs) (length bytes) h)

  pub no_lens : length xs ≤ length bytes → length lens < length xs → ask_unpack xs bytes lens ≡ 1
  unfolding ask_unpack and_then ask also
  no_lens h k = simp (le-leb (length xs) (length bytes) h, lt-leb (length xs) (length lens) k)

  pub lent : length xs ≤ length bytes → length xs ≤ length lens → ask_unpack xs bytes lens ≡ ask 7 (all_parse xs)
  unfolding ask_unpack and_then ask also
  lent h k = simp (le-leb (length xs) (length bytes) h, le-leb (length xs) (length lens) k)
