-- Laws of replay memory: what a yes tells, and the answers.
use Rattle.std.specs.Prelude.{None, Some, Ok, Err}
use Rattle.std.specs.Prelude.{ℕ, ◌+◌, ◌*◌, ◌-◌, ◌≤◌, ◌<◌, Bool, true, false, ◌&&◌, ◌≡◌, List, length, take, drop}
use Rattle.std.proofs.Math.Path.{sym, ap}
use Rattle.std.proofs.Common.{◌∙◌, arith, leb-true, le-leb, eqb-true, eq-eqb}
use Rattle.laws.specs.Choice.{also, and_also, also_left, also_right, also_both, ask, ask_yes, ask_holds, ask_fails, and_then_left, and_then_right, and_then_both, and_then_first, and_then_done, not_so, false_true}
use Rattle.laws.specs.Fold.{same}
use Rattle.layout.specs.Geometry.{block_size, most_blocks}
use Rattle.lengths.specs.Entries.{Entries, entries_held, entries_facts, facts_entries, entries_bytes, entries_nothing}
use Rattle.range.specs.declared.Count.{Count}
use Rattle.refusal.specs.declared.Refusal.{Refusal}
use Rattle.refusal.specs.declared.Refusal.TheVariants as no
use Rattle.refusal.specs.Refusal.{ok_unless, unless_ok, yes, yes_value, no_told, no_some}
use Rattle.memory.specs.Given.{Memory, count_of, ask_given, given_asked, given_small}
use Rattle.memory.specs.Replay.{replay_lent, ask_replay_lent, left_of, left_ok, ask_replay, is_next, next_of_replay, ask_next, taken_then, next_answer}

-- question 1
pub record ReplayLent (blocks bytes lens : ℕ) : Type 0 where
  pub some_block : 1 ≤ blocks
  pub at_most_blocks : blocks ≤ most_blocks
  pub bytes_lent : bytes ≡ blocks * block_size
  pub lens_lent : lens ≡ blocks * block_size

pub replay_lent_asked : (blocks bytes lens : ℕ) → ask_replay_lent blocks bytes lens ≡ 0 → ReplayLent blocks bytes lens
unfolding ask_replay_lent replay_lent
replay_lent_asked blocks bytes lens q =
    let e = ask_yes 1 (replay_lent blocks bytes lens) (omega arith) q in
    let e1 = also_right _ _ e in
    let e2 = also_right _ _ e1 in
    record {
      some_block = leb-true 1 blocks (also_left _ _ e);
      at_most_blocks = leb-true blocks most_blocks (also_left _ _ e1);
      bytes_lent = eqb-true bytes (blocks * block_size) (also_left _ _ e2);
      lens_lent = eqb-true lens (blocks * block_size) (also_right _ _ e2);
    }

pub asked_replay_lent : (blocks bytes lens : ℕ) → ReplayLent blocks bytes lens → ask_replay_lent blocks bytes lens ≡ 0
unfolding ask_replay_lent replay_lent
asked_replay_lent blocks bytes lens f =
    ask_holds 1 (replay_lent blocks bytes lens)
    (also_both _ _ (le-leb 1 blocks f.some_block)
    (also_both _ _ (le-leb blocks most_blocks f.at_most_blocks)
    (also_both _ _ (eq-eqb bytes (blocks * block_size) f.bytes_lent) (eq-eqb lens (blocks * block_size) f.lens_lent))))

-- question 2: what is left is held by the bytes from what is taken on
pub record Left (m : Memory) (taken : Count) : Type 0 where
  pub behind : taken.bytes ≤ length m.bytes
  pub held : Entries (length m.bytes - taken.bytes) m.lens taken.entries m.count

pub left_facts : (m : Memory) (taken : Count) → left_ok m taken ≡ true → Left m taken
unfolding left_ok
left_facts m taken e =
    record { behind = leb-true taken.bytes (length m.bytes) (also_left _ _ e); held = entries_facts _ _ _ _ (also_right _ _ e) }

pub facts_left : (m : Memory) (taken : Count) → Left m taken → left_ok m taken ≡ true
unfolding left_ok
facts_left m taken f = also_both _ _ (le-leb taken.bytes (length m.bytes) f.behind) (facts_entries _ _ _ _ f.held)

-- their bytes lie within the memory
pub left_fits : (m : Memory) (taken : Count) → Left m taken → taken.bytes + (left_of m taken).bytes ≤ length m.bytes
left_fits m taken f = omega (arith, f.behind, f.held.fit)

-- questions 1 and 2
pub record Replay (blocks : ℕ) (m : Memory) (taken : Count) : Type 0 where
  pub lent : ReplayLent blocks (length m.bytes) (length m.lens)
  pub left : Left m taken

pub replay_asked : (blocks : ℕ) (m : Memory) (taken : Count) → ask_replay blocks m taken ≡ 0 → Replay blocks m taken
unfolding ask_replay
replay_asked blocks m taken q =
    record {
      lent = replay_lent_asked blocks (length m.bytes) (length m.lens) (and_then_left _ _ q);
      left = left_facts m taken (ask_yes 2 _ (omega arith) (and_then_right _ _ q));
    }

pub asked_replay : (blocks : ℕ) (m : Memory) (taken : Count) → Replay blocks m taken → ask_replay blocks m taken ≡ 0
unfolding ask_replay
asked_replay blocks m taken r =
    and_then_both _ _ (asked_replay_lent blocks (length m.bytes) (length m.lens) r.lent) (ask_holds 2 _ (facts_left m taken r.left))

-- the ways out of question 2
module _ (blocks : ℕ) (m : Memory) (taken : Count) (q : ask_replay_lent blocks (length m.bytes) (length m.lens) ≡ 0) where
  left_refused : (Left m taken → ⊥) → Err no.State ≡ ok_unless (ask_replay blocks m taken) (left_of m taken)
  unfolding ask_replay
  left_refused h =
      ap (λ (n : ℕ). ok_unless n (left_of m taken)) (sym (and_then_done _ _ q ∙ ask_fails 2 _ (not_so _ (λ t. h (left_facts m taken t)))))

  pub left_past : length m.bytes < taken.bytes → Err no.State ≡ ok_unless (ask_replay blocks m taken) (left_of m taken)
  left_past h = left_refused (λ f. let k = f.behind in omega arith)

  pub left_no : None ≡ entries_held (length m.bytes - taken.bytes) m.lens taken.entries m.count
      → Err no.State ≡ ok_unless (ask_replay blocks m taken) (left_of m taken)
  left_no h = left_refused (λ f. false_true (sym (entries_nothing _ _ _ _ h) ∙ facts_entries _ _ _ _ f.held))

  pub left_yes : (t : ℕ) → taken.bytes ≤ length m.bytes
      → Some t ≡ entries_held (length m.bytes - taken.bytes) m.lens taken.entries m.count
      → Ok (record { entries = m.count - taken.entries; bytes = t }) ≡ ok_unless (ask_replay blocks m taken) (left_of m taken)
  unfolding ask_replay
  left_yes t b h =
      let f = entries_bytes _ _ _ _ t h in
      ap (λ (n : ℕ). Ok (record { entries = m.count - taken.entries; bytes = n })) f.1
      ∙ sym (unless_ok _ _ (and_then_both _ _ q (ask_holds 2 _ (facts_left m taken (record { behind = b; held = f.0 })))))

-- the test, from what was compared
pub next_test : (bytes lens : List ℕ) (left : ℕ) (taken : Count) (bodies sizes : List ℕ) (new : Count) (a b : Bool) → new.entries ≤ left
    → a ≡ same (take new.entries sizes) (take new.entries (drop taken.entries lens))
    → b ≡ same (take new.bytes bodies) (take new.bytes (drop taken.bytes bytes))
    → a && b ≡ is_next bytes lens left taken bodies sizes new
unfolding is_next also
next_test bytes lens left taken bodies sizes new a b h ha hb = and_also a b ∙ sym (simp (le-leb new.entries left h) (λ i. also (sym ha i) (sym hb i)))

-- the answer of a replay step, in the order of its questions
module _ (blocks : ℕ) (m : Memory) (taken : Count) (e : Memory) where
  pub next_unheld : (r : Refusal) → Err r ≡ ok_unless (ask_replay blocks m taken) (left_of m taken) → Err r ≡ next_answer blocks m taken e
  unfolding next_answer ask_next
  next_unheld r h = no_told _ _ r _ _ h (and_then_first _ _ (no_some _ r _ h))

  module _ (left : Count) (h : Ok left ≡ ok_unless (ask_replay blocks m taken) (left_of m taken)) where
    asked : ask_replay blocks m taken ≡ 0
    asked = yes _ _ _ h

    left_is : left.entries ≡ m.count - taken.entries
    left_is = ap (λ (c : Count). c.entries) (yes_value _ _ _ h)

    pub next_ungiven : (r : Refusal) → Err r ≡ ok_unless (ask_given e) (count_of e) → Err r ≡ next_answer blocks m taken e
    unfolding next_answer ask_next
    next_ungiven r g = no_told _ _ r _ _ g (and_then_done _ _ asked ∙ and_then_first _ _ (no_some _ r _ g))

    module _ (new : Count) (g : Ok new ≡ ok_unless (ask_given e) (count_of e)) where
      new_is : new ≡ count_of e
      new_is = yes_value _ _ _ g

      number : ask_next blocks m taken e ≡ ask 6 (next_of_replay m taken e)
      unfolding ask_next
      number = and_then_done _ _ asked ∙ and_then_done _ _ (yes _ _ _ g)

      test_is : (b : Bool) → b ≡ is_next m.bytes m.lens left.entries taken e.bytes e.lens new → b ≡ next_of_replay m taken e
      test_is b t = t ∙ (λ i. is_next m.bytes m.lens (left_is i) taken e.bytes e.lens (new_is i))

      -- what would be taken fits 64 bits
      pub next_sums : (taken.entries + new.entries ≤ 33554432) × (taken.bytes + new.bytes ≤ 33554432)
      next_sums =
          let r = replay_asked blocks m taken asked in
          let lent = r.lent in
          let left = r.left in
          let order = left.held.order in
          let there = left.held.there in
          let q4 = (yes _ _ _ g) in
          let few = (given_asked e q4).few in
          let small = given_small e q4 in
          (omega (arith, ap (λ (c : Count). c.entries) new_is), omega (arith, ap (λ (c : Count). c.bytes) new_is))

      pub next_no : (b : Bool) → b ≡ is_next m.bytes m.lens left.entries taken e.bytes e.lens new → b ≡ false
          → Err no.Condition ≡ next_answer blocks m taken e
      unfolding next_answer
      next_no b t z = ap (λ (n : ℕ). ok_unless n (taken_then taken e)) (sym (number ∙ ask_fails 6 _ (sym (test_is b t) ∙ z)))

      pub next_yes : (b : Bool) → b ≡ is_next m.bytes m.lens left.entries taken e.bytes e.lens new → b ≡ true
          → Ok (record { entries = taken.entries + new.entries; bytes = taken.bytes + new.bytes }) ≡ next_answer blocks m taken e
      unfolding next_answer
      next_yes b t z =
          (λ i. Ok (record { entries = taken.entries + (new_is i).entries; bytes = taken.bytes + (new_is i).bytes }))
          ∙ sym (unless_ok _ _ (number ∙ ask_holds 6 _ (sym (test_is b t) ∙ z)))
