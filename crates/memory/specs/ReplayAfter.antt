-- The next entries of a replay: the test says true exactly where the given entries are a front of what is left, and what is left then
-- meets questions 1 and 2 again.
use Rattle.std.specs.Prelude.{ℕ, ◌+◌, ◌-◌, ◌≤◌, true, ◌≡◌}
use Rattle.std.proofs.Math.Path.{sym, ap}
use Rattle.std.proofs.Common.{◌∙◌, subst, length-append, take-append-drop, take_at, drop-drop}
use mathlib.Core.List.{List, ◌++◌}
use Rattle.std.proofs.Math.Nat.{sub-zero}
use native.Mathlib.Omega.{arith}
use Rattle.std.proofs.Math.ListN.{length, take, drop, length-drop}
use borrow.Author.Tests.{leb-true, le-leb}
use Rattle.laws.specs.Choice.{also_left, also_right, also_both, ask_yes, ask_holds, and_then_left, and_then_right, and_then_both}
use Rattle.laws.specs.Splice.{splice, length_splice, take_splice_through}
use Rattle.laws.specs.Fold.{sum, every, same_is, is_same}
use Rattle.laws.specs.Cut.{flat, lengths, length_flat, length_lengths}
use Rattle.range.specs.Form.{Entry, most_entry_length, ok_length}
use Rattle.range.specs.Memory.{view, total, total_front, length_view, lengths_view, flat_view, view_same, view_take, view_drop, view_none, view_entries}
use Rattle.lengths.specs.Entries.{Entries, part, part_is, part_sum, entries_rest}
use Rattle.range.specs.declared.Count.{Count}
use Rattle.memory.specs.Given.{Memory, memory, bytes_of, entries_of, ask_given, Given, given_asked}
use Rattle.memory.specs.Replay.{left_entries, is_next, next_of_replay, ask_replay, ask_next, taken_then}
use Rattle.memory.specs.ReplayLaws.{Left, Replay, replay_asked, asked_replay}

-- what is left where nothing is taken, and where the first entries are
pub left_all : (m : Memory) → left_entries m (record { entries = 0; bytes = 0 }) ≡ entries_of m
left_all m = ap (view m.bytes m.lens) (sub-zero m.count)

pub left_drop : (m : Memory) (taken : Count) → taken.entries ≤ m.count → taken.bytes ≡ total m.lens taken.entries
    → left_entries m taken ≡ drop taken.entries (entries_of m)
left_drop m taken h e =
    ap (λ (b : ℕ). view (drop b m.bytes) (drop taken.entries m.lens) (m.count - taken.entries)) e
    ∙ sym (view_drop m.bytes m.lens m.count taken.entries h)

-- memory that entries were unpacked to: it holds these, none is taken, and question 2 accepts it
abbrev pub filled : List ℕ → List ℕ → List Entry → Memory
filled bytes lens es = memory (splice bytes 0 (flat es)) (splice lens 0 (lengths es)) (length es)

module _ (bytes lens : List ℕ) (es : List Entry) (each : every (ok_length most_entry_length) (lengths es) ≡ true) (room : sum (lengths es) ≤ length bytes)
    (places : length es ≤ length lens) where
  pub filled_entries : entries_of (filled bytes lens es) ≡ es
  unfolding sum
  filled_entries =
      let n : length es ≡ 0 + length (lengths es) = omega (arith, length_lengths es) in
      ap (view (splice bytes 0 (flat es)) (splice lens 0 (lengths es))) n
      ∙ view_entries bytes lens 0 es (omega arith) (omega arith)
      ∙ ap (λ (l : List Entry). l ++ es) (view_none bytes lens)

  pub filled_left : Left (filled bytes lens es) (record { entries = 0; bytes = 0 })
  filled_left =
      let long : length (splice bytes 0 (flat es)) ≡ length bytes = length_splice bytes 0 (flat es) (omega (arith, length_flat es)) in
      let many : length (splice lens 0 (lengths es)) ≡ length lens = length_splice lens 0 (lengths es) (omega (arith, length_lengths es)) in
      let n : length es ≡ 0 + length (lengths es) = omega (arith, length_lengths es) in
      let first : take (length es) (splice lens 0 (lengths es)) ≡ lengths es =
      ap (λ (k : ℕ). take k (splice lens 0 (lengths es))) n ∙ take_splice_through lens 0 (lengths es) (omega arith) in
      record {
        behind = omega arith;
        held =
            record {
              order = omega arith;
              there = omega arith;
              each = ap (every (ok_length most_entry_length)) first ∙ each;
              fit = omega (arith, ap sum first);
            };
      }

module _ (m : Memory) (taken : Count) (e : Memory) (h : Left m taken) (g : Given e) where
  bytes_left : List ℕ
  bytes_left = drop taken.bytes m.bytes

  lens_left : List ℕ
  lens_left = drop taken.entries m.lens

  left_is : sum (part taken.entries m.count m.lens) ≡ total lens_left (m.count - taken.entries)
  unfolding lens_left
  left_is = ap sum (part_is taken.entries m.count m.lens h.held.order)

  length_left : length (left_entries m taken) ≡ m.count - taken.entries
  length_left =
      length_view (drop taken.bytes m.bytes) (drop taken.entries m.lens) (m.count - taken.entries)
      (omega (arith, h.held.there, length-drop taken.entries m.lens))

  next_view : e.count ≤ m.count - taken.entries → take e.count (left_entries m taken) ≡ view bytes_left lens_left e.count
  unfolding bytes_left lens_left
  next_view l = view_take (drop taken.bytes m.bytes) (drop taken.entries m.lens) (m.count - taken.entries) e.count l

  next_total : e.count ≤ m.count - taken.entries → total lens_left e.count ≤ length bytes_left
  unfolding bytes_left
  next_total l =
      omega (arith, total_front lens_left e.count (m.count - taken.entries) l, left_is, h.held.fit, length-drop taken.bytes m.bytes)

  -- the given entries are the next ones
  pub next_is : next_of_replay m taken e ≡ true → entries_of e ≡ take e.count (left_entries m taken)
  unfolding is_next bytes_left lens_left
  next_is t =
      let t1 = also_right _ _ t in
      view_same e.bytes e.lens e.count (drop taken.bytes m.bytes) (drop taken.entries m.lens) (same_is _ _ (also_left _ _ t1)) (same_is _ _ (also_right _ _ t1))
      ∙ sym (next_view (leb-true e.count (m.count - taken.entries) (also_left _ _ t)))

  pub is_next_is : e.count ≤ m.count - taken.entries → entries_of e ≡ take e.count (left_entries m taken) → next_of_replay m taken e ≡ true
  unfolding is_next bytes_left lens_left
  is_next_is l s =
      also_both _ _ (le-leb e.count (m.count - taken.entries) l) (also_both _ _ (is_same _ _ lens) (is_same _ _ bytes))
    where
      given : entries_of e ≡ view (drop taken.bytes m.bytes) (drop taken.entries m.lens) e.count
      given = s ∙ next_view l

      lens : take e.count e.lens ≡ take e.count (drop taken.entries m.lens)
      lens =
          sym (lengths_view e.bytes e.lens e.count g.held.fit)
          ∙ ap lengths given
          ∙ lengths_view (drop taken.bytes m.bytes) (drop taken.entries m.lens) e.count (next_total l)

      bytes : take (bytes_of e) e.bytes ≡ take (bytes_of e) (drop taken.bytes m.bytes)
      bytes =
          sym (flat_view e.bytes e.lens e.count)
          ∙ ap flat given
          ∙ flat_view (drop taken.bytes m.bytes) (drop taken.entries m.lens) e.count
          ∙ ap (λ (n : ℕ). take n (drop taken.bytes m.bytes)) (sym (ap sum lens))

  -- they are as many as are left at most, and take the next bytes
  module _ (t : next_of_replay m taken e ≡ true) where
    next_few : taken.entries + e.count ≤ m.count
    unfolding is_next
    next_few = let l = leb-true e.count (m.count - taken.entries) (also_left _ _ t) in omega (arith, l, h.held.order)

    next_bytes : bytes_of e ≡ total lens_left e.count
    unfolding is_next lens_left
    next_bytes = ap sum (same_is _ _ (also_left _ _ (also_right _ _ t)))

    next_part : sum (part taken.entries (taken.entries + e.count) m.lens) ≡ bytes_of e
    unfolding lens_left
    next_part =
        let n : taken.entries + e.count - taken.entries ≡ e.count = omega arith in
        ap sum (part_is taken.entries (taken.entries + e.count) m.lens (omega arith) ∙ ap (λ (k : ℕ). take k (drop taken.entries m.lens)) n)
        ∙ sym next_bytes

    -- as source 000 has it: what is left is the given entries and then what is left afterwards
    pub next_splits : left_entries m taken ≡ entries_of e ++ left_entries m (taken_then taken e)
    unfolding lens_left
    next_splits =
        sym (take-append-drop e.count (left_entries m taken))
        ∙ (λ i. sym (next_is t) i ++ after i)
      where
        after : drop e.count (left_entries m taken) ≡ left_entries m (taken_then taken e)
        after =
            let n : m.count - taken.entries - e.count ≡ m.count - (taken.entries + e.count) = omega arith in
            view_drop (drop taken.bytes m.bytes) (drop taken.entries m.lens) (m.count - taken.entries) e.count (omega (arith, next_few))
            ∙ (λ i.
            view (drop (sym next_bytes i) (drop taken.bytes m.bytes)) (drop-drop e.count taken.entries m.lens i) (n i))
            ∙ ap (λ (l : List ℕ). view l (drop (taken.entries + e.count) m.lens) (m.count - (taken.entries + e.count))) (drop-drop (bytes_of e) taken.bytes m.bytes)

    -- question 2 afterwards
    pub next_left : Left m (taken_then taken e)
    next_left =
        let r = entries_rest (length m.bytes - taken.bytes) m.lens taken.entries (taken.entries + e.count) m.count h.held (omega arith) next_few in
        let s = part_sum taken.entries (taken.entries + e.count) m.count m.lens (omega arith) next_few in
        let n : length m.bytes - taken.bytes - sum (part taken.entries (taken.entries + e.count) m.lens) ≡ length m.bytes - (taken.bytes + bytes_of e) =
        omega (arith, next_part) in
        record {
          behind = omega (arith, s, next_part, h.behind, h.held.fit);
          held = subst (λ (k : ℕ). Entries k m.lens (taken.entries + e.count) m.count) n r;
        }

  pub splits_next : (rest : List Entry) → left_entries m taken ≡ entries_of e ++ rest → next_of_replay m taken e ≡ true
  splits_next rest s =
      is_next_is (omega (arith, ap length s, length-append (entries_of e) rest, length_left, long))
      (sym (take_at (entries_of e) rest e.count long) ∙ ap (take e.count) (sym s))
    where
      long : length (entries_of e) ≡ e.count
      long = length_view e.bytes e.lens e.count g.held.there

-- a yes is exactly: questions 1, 2 and 4, and the given entries come first among those that are left; questions 1 and 2 hold afterwards
module _ (blocks : ℕ) (m : Memory) (taken : Count) (e : Memory) where
  module _ (q : ask_next blocks m taken e ≡ 0) where
    replay : Replay blocks m taken
    unfolding ask_next
    replay = replay_asked blocks m taken (and_then_left _ _ q)

    given : Given e
    unfolding ask_next
    given = given_asked e (and_then_left _ _ (and_then_right _ _ q))

    test : next_of_replay m taken e ≡ true
    unfolding ask_next
    test = ask_yes 6 _ (omega arith) (and_then_right _ _ (and_then_right _ _ q))

    pub next_accepted : left_entries m taken ≡ entries_of e ++ left_entries m (taken_then taken e)
    next_accepted = next_splits m taken e replay.left given test

    pub next_asked : ask_replay blocks m (taken_then taken e) ≡ 0
    next_asked = asked_replay blocks m (taken_then taken e) (record { lent = replay.lent; left = next_left m taken e replay.left given test })

  pub accepted_next : (rest : List Entry) → ask_replay blocks m taken ≡ 0 → ask_given e ≡ 0 → left_entries m taken ≡ entries_of e ++ rest → ask_next blocks m taken e ≡ 0
  unfolding ask_next
  accepted_next rest q q4 s =
      and_then_both _ _ q
      (and_then_both _ _ q4 (ask_holds 6 _ (splits_next m taken e (replay_asked blocks m taken q).left (given_asked e q4) rest s)))
