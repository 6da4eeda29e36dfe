-- Pending memory after a step that was accepted: the entries that it stands for, that it meets questions 1 and 2 again, that the answer
-- counts it, and that what lies behind the counted part is as it was.
use Rattle.std.specs.Prelude.{ℕ, ◌+◌, ◌-◌, ◌≤◌, true, ◌≡◌, refl, ◌++◌, length, take, drop}
use Rattle.std.proofs.Common.{sym, ◌∙◌, ap, arith, length-take-le}
use Rattle.laws.specs.Choice.{also_both}
use Rattle.laws.specs.Part.{length_part, drop_take}
use Rattle.laws.specs.Splice.{splice, length_splice, drop_splice, take_splice_through}
use Rattle.laws.specs.Fold.{sum, every, every_append, every_drop}
use Rattle.range.specs.Form.{most_entry_length, ok_length}
use Rattle.range.specs.Memory.{total, total_write, total_split, view_add, view_moved}
use Rattle.memory.specs.declared.Limits.{Limits}
use Rattle.memory.specs.Given.{Memory, bytes_of, entries_of}
use Rattle.memory.specs.Pending.{ask_pending, appended, front_taken}
use Rattle.memory.specs.PendingLaws.{Pending, asked_pending, Appends}

-- after an append
module _ (l : Limits) (m e : Memory) (a : Appends l m e) where
  room : bytes_of m + length (take (bytes_of e) e.bytes) ≤ length m.bytes
  room =
      omega (arith, a.bytes_fit, a.pending.lent.bytes_lent, length-take-le (bytes_of e) e.bytes a.given.held.fit)

  places : m.count + length (take e.count e.lens) ≤ length m.lens
  places =
      omega (arith, a.entries_fit, a.pending.lent.lens_lent, length-take-le e.count e.lens a.given.held.there)

  many : m.count + e.count ≡ m.count + length (take e.count e.lens)
  many = ap (λ (n : ℕ). m.count + n) (sym (length-take-le e.count e.lens a.given.held.there))

  -- the old entries, then the new ones
  pub appended_entries : entries_of (appended m e) ≡ entries_of m ++ entries_of e
  appended_entries =
      view_add m.bytes m.lens e.bytes e.lens m.count e.count (bytes_of m) (bytes_of e) (m.count + e.count)
      a.pending.held.there a.given.held.there refl refl (omega (arith, a.pending.held.fit, a.pending.lent.bytes_lent)) a.given.held.fit refl

  pub appended_bytes_is : bytes_of (appended m e) ≡ bytes_of m + bytes_of e
  appended_bytes_is =
      ap (total (splice m.lens m.count (take e.count e.lens))) many
      ∙ total_write m.lens (take e.count e.lens) m.count a.pending.held.there

  appended_lens_is : take (m.count + e.count) (appended m e).lens ≡ take m.count m.lens ++ take e.count e.lens
  appended_lens_is =
      ap (λ (n : ℕ). take n (splice m.lens m.count (take e.count e.lens))) many
      ∙ take_splice_through m.lens m.count (take e.count e.lens) a.pending.held.there

  appended_each : every (ok_length most_entry_length) (take (m.count + e.count) (appended m e).lens) ≡ true
  appended_each =
      ap (every (ok_length most_entry_length)) appended_lens_is
      ∙ every_append (ok_length most_entry_length) (take m.count m.lens) (take e.count e.lens)
      ∙ also_both _ _ a.pending.held.each a.given.held.each

  -- questions 1 and 2 again
  pub appended_again : ask_pending l (appended m e) ≡ 0
  appended_again =
      let bytes = length_splice m.bytes (bytes_of m) (take (bytes_of e) e.bytes) room in
      let lens = length_splice m.lens m.count (take e.count e.lens) places in
      asked_pending l (appended m e)
      (record {
        lent =
            record {
              few = a.pending.lent.few;
              small = a.pending.lent.small;
              bytes_lent = bytes ∙ a.pending.lent.bytes_lent;
              lens_lent = lens ∙ a.pending.lent.lens_lent;
            };
        held =
            record {
              order = omega arith;
              there = omega (arith, lens, a.pending.lent.lens_lent, a.entries_fit);
              each = appended_each;
              fit = omega (arith, appended_bytes_is, a.bytes_fit);
            };
      })

  -- what lies behind what is counted now
  pub appended_bytes_behind : drop (bytes_of (appended m e)) (appended m e).bytes ≡ drop (bytes_of (appended m e)) m.bytes
  appended_bytes_behind =
      let n : bytes_of (appended m e) ≡ bytes_of m + length (take (bytes_of e) e.bytes) =
      appended_bytes_is ∙ ap (λ (k : ℕ). bytes_of m + k) (sym (length-take-le (bytes_of e) e.bytes a.given.held.fit)) in
      ap (λ (k : ℕ). drop k (appended m e).bytes) n
      ∙ drop_splice m.bytes (bytes_of m) (take (bytes_of e) e.bytes) (omega (arith, room))
      ∙ ap (λ (k : ℕ). drop k m.bytes) (sym n)

  pub appended_lens_behind : drop (m.count + e.count) (appended m e).lens ≡ drop (m.count + e.count) m.lens
  appended_lens_behind =
      ap (λ (k : ℕ). drop k (appended m e).lens) many
      ∙ drop_splice m.lens m.count (take e.count e.lens) (omega (arith, places))
      ∙ ap (λ (k : ℕ). drop k m.lens) (sym many)

-- after the first k entries left
module _ (l : Limits) (m : Memory) (k : ℕ) (p : Pending l m) (few : k ≤ m.count) where
  whole : k + (m.count - k) ≡ m.count
  whole = omega arith

  split : total m.lens k + total (drop k m.lens) (m.count - k) ≡ bytes_of m
  split = total_split m.lens m.count k (m.count - k) whole

  held : bytes_of m ≤ length m.bytes
  held = omega (arith, p.held.fit, p.lent.bytes_lent)

  bytes_long : length (take (bytes_of m - total m.lens k) (drop (total m.lens k) m.bytes)) ≡ bytes_of m - total m.lens k
  bytes_long = length_part m.bytes (total m.lens k) (bytes_of m - total m.lens k) (omega (arith, held, split))

  lens_long : length (take (m.count - k) (drop k m.lens)) ≡ m.count - k
  lens_long = length_part m.lens k (m.count - k) (omega (arith, whole, p.held.there))

  -- the other entries
  pub front_entries_is : entries_of (front_taken m k) ≡ drop k (entries_of m)
  front_entries_is =
      view_moved m.bytes m.lens m.count k (m.count - k) (total m.lens k) (bytes_of m - total m.lens k)
      p.held.there held whole refl (omega (arith, split))

  front_taken_lens : take (m.count - k) (front_taken m k).lens ≡ take (m.count - k) (drop k m.lens)
  front_taken_lens =
      let n : m.count - k ≡ 0 + length (take (m.count - k) (drop k m.lens)) = omega (arith, lens_long) in
      ap (λ (j : ℕ). take j (front_taken m k).lens) n
      ∙ take_splice_through m.lens 0 (take (m.count - k) (drop k m.lens)) (omega arith)

  pub front_taken_bytes : bytes_of (front_taken m k) ≡ bytes_of m - total m.lens k
  front_taken_bytes = let e = ap sum front_taken_lens in omega (arith, e, split)

  front_each : every (ok_length most_entry_length) (take (m.count - k) (front_taken m k).lens) ≡ true
  front_each =
      ap (every (ok_length most_entry_length)) (front_taken_lens ∙ sym (drop_take k (m.count - k) m.lens) ∙ ap (λ (n : ℕ). drop k (take n m.lens)) whole)
      ∙ every_drop (ok_length most_entry_length) k (take m.count m.lens) p.held.each

  -- questions 1 and 2 again
  pub front_again : ask_pending l (front_taken m k) ≡ 0
  front_again =
      let bytes = length_splice m.bytes 0 (take (bytes_of m - total m.lens k) (drop (total m.lens k) m.bytes)) (omega (arith, bytes_long, held)) in
      let lens = length_splice m.lens 0 (take (m.count - k) (drop k m.lens)) (omega (arith, lens_long, p.held.there)) in
      asked_pending l (front_taken m k)
      (record {
        lent =
            record {
              few = p.lent.few;
              small = p.lent.small;
              bytes_lent = bytes ∙ p.lent.bytes_lent;
              lens_lent = lens ∙ p.lent.lens_lent;
            };
        held =
            record {
              order = omega arith;
              there = omega (arith, lens, p.held.there);
              each = front_each;
              fit = omega (arith, front_taken_bytes, p.held.fit);
            };
      })

  -- what lies behind what is counted now
  pub front_bytes_behind : drop (bytes_of (front_taken m k)) (front_taken m k).bytes ≡ drop (bytes_of (front_taken m k)) m.bytes
  front_bytes_behind =
      let n : bytes_of (front_taken m k) ≡ 0 + length (take (bytes_of m - total m.lens k) (drop (total m.lens k) m.bytes)) =
      omega (arith, front_taken_bytes, bytes_long) in
      ap (λ (j : ℕ). drop j (front_taken m k).bytes) n
      ∙ drop_splice m.bytes 0 (take (bytes_of m - total m.lens k) (drop (total m.lens k) m.bytes)) (omega arith)
      ∙ ap (λ (j : ℕ). drop j m.bytes) (sym n)

  pub front_lens_behind : drop (m.count - k) (front_taken m k).lens ≡ drop (m.count - k) m.lens
  front_lens_behind =
      let n : m.count - k ≡ 0 + length (take (m.count - k) (drop k m.lens)) = omega (arith, lens_long) in
      ap (λ (j : ℕ). drop j (front_taken m k).lens) n
      ∙ drop_splice m.lens 0 (take (m.count - k) (drop k m.lens)) (omega arith)
      ∙ ap (λ (j : ℕ). drop j m.lens) (sym n)
