-- Laws of pending memory: what a yes tells, the answers, and what a step leaves in lent memory.
use Rattle.std.specs.Prelude.{None, Some, Ok, Err}
use Rattle.std.specs.Prelude.{ℕ, ◌+◌, ◌-◌, ◌≤◌, ◌<◌, Bool, true, false, ◌≡◌, refl, ⊤, List, length, take, drop, leb}
use Rattle.std.proofs.Math.Path.{sym, ap}
use Rattle.std.proofs.Common.{◌∙◌, subst, arith, length-take-le}
use borrow.Author.Tests.{leb-true, le-leb}
use Rattle.laws.specs.Choice.{ask, ask_yes, ask_holds, ask_fails, and_then, and_then_left, and_then_right, and_then_both, and_then_first, and_then_done, and_then_end, unless, unless_kept, unless_done, not_so, false_true}
use Rattle.laws.specs.Fold.{sum}
use Rattle.laws.specs.Splice.{splice, clipped, clipped_fits}
use Rattle.range.specs.Form.{most_entries}
use Rattle.range.specs.Memory.{total}
use Rattle.lengths.specs.Entries.{Entries, part, entries_held, entries_ok, entries_facts, facts_entries, entries_bytes, entries_nothing, entries_first, entries_rest, entries_join, part_sum}
use Rattle.memory.specs.declared.Limits.{Limits}
use Rattle.range.specs.declared.Count.{Count}
use Rattle.memory.specs.declared.PendingCount.{PendingCount}
use Rattle.refusal.specs.declared.Refusal.{Refusal}
use Rattle.refusal.specs.declared.Refusal.TheVariants as no
use Rattle.refusal.specs.Refusal.{ok_unless, asked, unless_ok, yes, yes_value, no_told, no_some}
use Rattle.memory.specs.Limits.{most_bytes, ask_pending_lent, PendingLent, lent_asked, asked_lent, ask_room, room_asked, room_yes}
use Rattle.memory.specs.Given.{Memory, bytes_of, count_of, ask_given, Given, given_asked, asked_given, given_small}
use Rattle.memory.specs.Pending.{ask_pending, ask_frozen, first_of, counts_of, ask_append, both, appended, append_lent, append_answer, ask_take_front, front_taken, others, take_front_lent, take_front_answer}

-- pending memory that questions 1 and 2 accept
pub record Pending (l : Limits) (m : Memory) : Type 0 where
  pub lent : PendingLent l (length m.bytes) (length m.lens)
  pub held : Entries l.bytes m.lens 0 m.count

pub pending_asked : (l : Limits) (m : Memory) → ask_pending l m ≡ 0 → Pending l m
unfolding ask_pending
pending_asked l m q =
    record {
      lent = lent_asked l (length m.bytes) (length m.lens) (and_then_left _ _ q);
      held = entries_facts _ _ _ _ (ask_yes 2 _ (omega arith) (and_then_right _ _ q));
    }

pub asked_pending : (l : Limits) (m : Memory) → Pending l m → ask_pending l m ≡ 0
unfolding ask_pending
asked_pending l m p =
    and_then_both _ _ (asked_lent l (length m.bytes) (length m.lens) p.lent) (ask_holds 2 _ (facts_entries _ _ _ _ p.held))

-- no more entries and bytes than the limits
pub pending_small : (l : Limits) (m : Memory) → ask_pending l m ≡ 0 → (m.count ≤ most_entries) × (bytes_of m ≤ most_bytes)
pending_small l m q =
    let p = pending_asked l m q in
    let few = p.lent.few in
    let small = p.lent.small in
    let lens = p.lent.lens_lent in
    let there = p.held.there in
    let fit = p.held.fit in
    (omega arith, omega arith)

-- the first k of them are held by the bytes, and are few enough for a range
pub pending_first : (l : Limits) (m : Memory) (k : ℕ) → Pending l m → k ≤ m.count → Entries (length m.bytes) m.lens 0 k × (k ≤ most_entries)
pending_first l m k p h =
    let lens = p.lent.lens_lent in
    let few = p.lent.few in
    let there = p.held.there in (
      subst (λ (n : ℕ). Entries n m.lens 0 k) (sym p.lent.bytes_lent) (entries_first l.bytes m.lens 0 k m.count p.held (omega arith) h),
      omega arith,
    )

-- the frozen entries and the others, one part after the other
two_parts : (t u : Bool) → (t ≡ true → u ≡ true → ⊥) → and_then (ask 2 t) (ask 2 u) ≡ 2
unfolding and_then ask
two_parts true true h = absurd (h refl refl)
two_parts true false h = refl
two_parts false u h = refl

module _ (l : Limits) (m : Memory) (frozen : ℕ) where
  -- no frozen entries
  pub frozen_none : ask_frozen l m 0 ≡ ask_pending l m
  unfolding ask_frozen
  frozen_none = ap (and_then (ask_pending l m)) (ask_holds 2 _ (le-leb 0 m.count (omega arith))) ∙ and_then_end (ask_pending l m)

  pub frozen_asked : ask_frozen l m frozen ≡ 0 → (ask_pending l m ≡ 0) × (frozen ≤ m.count)
  unfolding ask_frozen
  frozen_asked q = (and_then_left _ _ q, leb-true frozen m.count (ask_yes 2 _ (omega arith) (and_then_right _ _ q)))

  pub asked_frozen : ask_pending l m ≡ 0 → frozen ≤ m.count → ask_frozen l m frozen ≡ 0
  unfolding ask_frozen
  asked_frozen q h = and_then_both _ _ q (ask_holds 2 _ (le-leb frozen m.count h))

  -- the ways out: the lent lengths
  pub count_unlent : (r : Refusal) → Err r ≡ asked (ask_pending_lent l (length m.bytes) (length m.lens)) → Err r ≡ ok_unless (ask_frozen l m frozen) (counts_of m frozen)
  unfolding ask_frozen ask_pending
  count_unlent r h =
      let n = no_some _ r _ h in
      no_told _ _ r _ _ h (and_then_first _ _ (λ z. n (and_then_left _ _ z)) ∙ and_then_first _ _ n)

  module _ (q : ask_pending_lent l (length m.bytes) (length m.lens) ≡ 0) where
    count_no : (Entries l.bytes m.lens 0 m.count → frozen ≤ m.count → ⊥)
        → Err no.State ≡ ok_unless (ask_frozen l m frozen) (counts_of m frozen)
    unfolding ask_frozen ask_pending
    count_no h =
        ap (λ (n : ℕ). ok_unless n (counts_of m frozen))
        (sym
        (ap (λ (n : ℕ). and_then n (ask 2 (leb frozen m.count))) (and_then_done _ _ q)
        ∙ two_parts _ _ (λ t u. h (entries_facts _ _ _ _ t) (leb-true frozen m.count u))))

    -- the frozen entries
    pub count_front_no : None ≡ entries_held l.bytes m.lens 0 frozen
        → Err no.State ≡ ok_unless (ask_frozen l m frozen) (counts_of m frozen)
    count_front_no e =
        count_no
        (λ f h. false_true (sym (entries_nothing _ _ _ _ e) ∙ facts_entries _ _ _ _ (entries_first l.bytes m.lens 0 frozen m.count f (omega arith) h)))

    module _ (first : ℕ) (front : Some first ≡ entries_held l.bytes m.lens 0 frozen) where
      first_held : Entries l.bytes m.lens 0 frozen
      first_held = (entries_bytes _ _ _ _ _ front).0

      first_is : first ≡ total m.lens frozen
      first_is = (entries_bytes _ _ _ _ _ front).1

      pub count_first : first ≤ l.bytes
      count_first = omega (arith, first_is, first_held.fit)

      -- the others
      pub count_back_no : None ≡ entries_held (l.bytes - first) m.lens frozen m.count
          → Err no.State ≡ ok_unless (ask_frozen l m frozen) (counts_of m frozen)
      count_back_no e =
          count_no
          (λ f h.
          false_true
          (sym (entries_nothing _ _ _ _ e)
          ∙ ap (λ (n : ℕ). entries_ok (l.bytes - n) m.lens frozen m.count) first_is
          ∙ facts_entries _ _ _ _ (entries_rest l.bytes m.lens 0 frozen m.count f (omega arith) h)))

      module _ (rest : ℕ) (back : Some rest ≡ entries_held (l.bytes - first) m.lens frozen m.count) where
        rest_held : Entries (l.bytes - first) m.lens frozen m.count
        rest_held = (entries_bytes _ _ _ _ _ back).0

        rest_is : rest ≡ sum (part frozen m.count m.lens)
        rest_is = (entries_bytes _ _ _ _ _ back).1

        pub count_rest : first + rest ≤ l.bytes
        count_rest = omega (arith, count_first, rest_is, rest_held.fit)

        pub count_all : Ok (record { frozen = record { entries = frozen; bytes = first }; all = record { entries = m.count; bytes = first + rest } })
            ≡ ok_unless (ask_frozen l m frozen) (counts_of m frozen)
        unfolding ask_pending
        count_all =
            (λ i. Ok (record { frozen = record { entries = frozen; bytes = first_is i }; all = record { entries = m.count; bytes = sums i } }))
            ∙ sym (unless_ok _ _ (asked_frozen (and_then_both _ _ q (ask_holds 2 _ (facts_entries _ _ _ _ whole))) rest_held.order))
          where
            whole : Entries l.bytes m.lens 0 m.count
            whole =
                entries_join l.bytes m.lens 0 frozen m.count first_held
                (subst (λ (n : ℕ). Entries (l.bytes - n) m.lens frozen m.count) first_is rest_held)

            sums : first + rest ≡ bytes_of m
            sums = (λ i. first_is i + rest_is i) ∙ part_sum 0 frozen m.count m.lens (omega arith) rest_held.order

-- what a yes to an append tells
pub record Appends (l : Limits) (m e : Memory) : Type 0 where
  pub pending : Pending l m
  pub given : Given e
  pub entries_fit : m.count + e.count ≤ l.entries
  pub bytes_fit : bytes_of m + bytes_of e ≤ l.bytes

pub append_asked : (l : Limits) (m e : Memory) → ask_append l m e ≡ 0 → Appends l m e
unfolding ask_append
append_asked l m e q =
    let q4 = and_then_right _ _ q in
    let fits = room_asked l (both m e) (and_then_right _ _ q4) in
    record {
      pending = pending_asked l m (and_then_left _ _ q);
      given = given_asked e (and_then_left _ _ q4);
      entries_fit = fits.0;
      bytes_fit = fits.1;
    }

pub asked_append : (l : Limits) (m e : Memory) → Appends l m e → ask_append l m e ≡ 0
unfolding ask_append
asked_append l m e a =
    and_then_both _ _ (asked_pending l m a.pending)
    (and_then_both _ _ (asked_given e a.given) (sym (room_yes l (both m e) a.entries_fit a.bytes_fit)))

-- the two writes then fit
module _ (l : Limits) (m e : Memory) (a : Appends l m e) where
  pub write_bytes_fits : clipped m.bytes (bytes_of m) (take (bytes_of e) e.bytes) ≡ (appended m e).bytes
  write_bytes_fits =
      clipped_fits m.bytes (bytes_of m) (take (bytes_of e) e.bytes)
      (omega (arith, length-take-le (bytes_of e) e.bytes a.given.held.fit, a.pending.lent.bytes_lent, a.bytes_fit))

  pub write_lens_fits : clipped m.lens m.count (take e.count e.lens) ≡ (appended m e).lens
  write_lens_fits =
      clipped_fits m.lens m.count (take e.count e.lens)
      (omega (arith, length-take-le e.count e.lens a.given.held.there, a.pending.lent.lens_lent, a.entries_fit))

module _ (l : Limits) (m e : Memory) where
  -- a refusal: the answer, and lent memory as it was
  append_no : (r : Refusal) → Err r ≡ ok_unless (ask_append l m e) (both m e) → (Err r ≡ append_answer l m e) × ((m.bytes ≡ (append_lent l m e).bytes) × (m.lens ≡ (append_lent l m e).lens))
  unfolding append_answer append_lent
  append_no r h =
      let kept = sym (unless_kept (ask_append l m e) m (appended m e) (no_some _ r _ h)) in
      (h, (ap (λ (o : Memory). o.bytes) kept, ap (λ (o : Memory). o.lens) kept))

  -- by questions 1 and 2, as pending memory was counted
  pub append_pending : (r : Refusal) → Err r ≡ ok_unless (ask_frozen l m 0) (counts_of m 0) → (Err r ≡ append_answer l m e) × ((m.bytes ≡ (append_lent l m e).bytes) × (m.lens ≡ (append_lent l m e).lens))
  unfolding ask_append
  append_pending r h =
      append_no r (no_told _ _ r _ _ h (and_then_first _ _ (λ z. no_some _ r _ h (frozen_none l m 0 ∙ z)) ∙ sym (frozen_none l m 0)))

  module _ (p : PendingCount) (h : Ok p ≡ ok_unless (ask_frozen l m 0) (counts_of m 0)) where
    pub append_held : (ask_pending l m ≡ 0) × (p.all ≡ count_of m)
    append_held = (sym (frozen_none l m 0) ∙ yes _ _ _ h, ap (λ (c : PendingCount). c.all) (yes_value _ _ _ h))

    -- by question 4
    pub append_given : (r : Refusal) → Err r ≡ ok_unless (ask_given e) (count_of e) → (Err r ≡ append_answer l m e) × ((m.bytes ≡ (append_lent l m e).bytes) × (m.lens ≡ (append_lent l m e).lens))
    unfolding ask_append
    append_given r g = append_no r (no_told _ _ r _ _ g (and_then_done _ _ append_held.0 ∙ and_then_first _ _ (no_some _ r _ g)))

    module _ (c : Count) (g : Ok c ≡ ok_unless (ask_given e) (count_of e)) where
      after_is : ◌≡◌ {A = Count} (record { entries = p.all.entries + c.entries; bytes = p.all.bytes + c.bytes }) (both m e)
      after_is = λ i. record { entries = (append_held.1 i).entries + ((yes_value _ _ _ g) i).entries; bytes = (append_held.1 i).bytes + ((yes_value _ _ _ g) i).bytes }

      -- what they would be together fits 64 bits
      pub append_sums : (p.all.entries + c.entries ≤ 2048) × (p.all.bytes + c.bytes ≤ 131072)
      append_sums =
          let s = pending_small l m append_held.0 in
          let k = yes _ _ _ g in
          let few = (given_asked e k).few in
          let small = given_small e k in
          (omega (arith, ap (λ (x : Count). x.entries) after_is), omega (arith, ap (λ (x : Count). x.bytes) after_is))

      number : ask_append l m e ≡ ask_room l (record { entries = p.all.entries + c.entries; bytes = p.all.bytes + c.bytes })
      unfolding ask_append
      number = and_then_done _ _ append_held.0 ∙ and_then_done _ _ (yes _ _ _ g) ∙ ap (ask_room l) (sym after_is)

      -- by question 8
      pub append_full : (r : Refusal) → Err r ≡ asked (ask_room l (record { entries = p.all.entries + c.entries; bytes = p.all.bytes + c.bytes }))
          → (Err r ≡ append_answer l m e) × ((m.bytes ≡ (append_lent l m e).bytes) × (m.lens ≡ (append_lent l m e).lens))
      append_full r k = append_no r (no_told _ _ r _ _ k number)

      -- all was answered yes: the answer, and the two writes
      pub append_done : (u : ⊤) (x y : List ℕ) → Ok u ≡ asked (ask_room l (record { entries = p.all.entries + c.entries; bytes = p.all.bytes + c.bytes }))
          → x ≡ clipped m.bytes p.all.bytes (take c.bytes e.bytes) → y ≡ clipped m.lens p.all.entries (take c.entries e.lens)
          → (Ok (record { entries = p.all.entries + c.entries; bytes = p.all.bytes + c.bytes }) ≡ append_answer l m e)
          × ((x ≡ (append_lent l m e).bytes) × (y ≡ (append_lent l m e).lens))
      unfolding append_answer append_lent
      append_done u x y q hx hy = (
        ap Ok after_is ∙ sym (unless_ok _ _ met),
        (hx ∙ bytes ∙ ap (λ (o : Memory). o.bytes) done, hy ∙ lens ∙ ap (λ (o : Memory). o.lens) done),
      )
        where
          met : ask_append l m e ≡ 0
          met = number ∙ yes _ _ _ q

          all : Appends l m e
          all = append_asked l m e met

          done : appended m e ≡ unless (ask_append l m e) m (appended m e)
          done = sym (unless_done _ _ _ met)

          new : c ≡ count_of e
          new = yes_value _ _ _ g

          bytes : clipped m.bytes p.all.bytes (take c.bytes e.bytes) ≡ (appended m e).bytes
          bytes = (λ i. clipped m.bytes (append_held.1 i).bytes (take (new i).bytes e.bytes)) ∙ write_bytes_fits l m e all

          lens : clipped m.lens p.all.entries (take c.entries e.lens) ≡ (appended m e).lens
          lens = (λ i. clipped m.lens (append_held.1 i).entries (take (new i).entries e.lens)) ∙ write_lens_fits l m e all

-- taking from the front
module _ (l : Limits) (m : Memory) (k : ℕ) where
  pub front_asked : ask_take_front l m k ≡ 0 → Pending l m × (k ≤ m.count)
  unfolding ask_take_front
  front_asked q = (pending_asked l m (and_then_left _ _ q), leb-true k m.count (ask_yes 4 _ (omega arith) (and_then_right _ _ q)))

  front_no : (r : Refusal) → Err r ≡ ok_unless (ask_take_front l m k) (others m k) → (Err r ≡ take_front_answer l m k) × ((m.bytes ≡ (take_front_lent l m k).bytes) × (m.lens ≡ (take_front_lent l m k).lens))
  unfolding take_front_answer take_front_lent
  front_no r h =
      let kept = sym (unless_kept (ask_take_front l m k) m (front_taken m k) (no_some _ r _ h)) in
      (h, (ap (λ (o : Memory). o.bytes) kept, ap (λ (o : Memory). o.lens) kept))

  -- as pending memory was counted, by as many of the first ones as there are
  module _ (first : ℕ) (few : first ≤ m.count) where
    asked_is : ask_frozen l m first ≡ ask_pending l m
    unfolding ask_frozen
    asked_is = ap (and_then (ask_pending l m)) (ask_holds 2 _ (le-leb first m.count few)) ∙ and_then_end (ask_pending l m)

    pub front_unheld : (r : Refusal) → Err r ≡ ok_unless (ask_frozen l m first) (counts_of m first) → (Err r ≡ take_front_answer l m k) × ((m.bytes ≡ (take_front_lent l m k).bytes) × (m.lens ≡ (take_front_lent l m k).lens))
    unfolding ask_take_front
    front_unheld r h = front_no r (no_told _ _ r _ _ h (and_then_first _ _ (λ z. no_some _ r _ h (asked_is ∙ z)) ∙ sym asked_is))

    module _ (p : PendingCount) (h : Ok p ≡ ok_unless (ask_frozen l m first) (counts_of m first)) where
      counts : (ask_pending l m ≡ 0) × (p.frozen ≡ first_of m first) × (p.all ≡ count_of m)
      counts =
          let v = yes_value _ _ _ h in
          (sym asked_is ∙ yes _ _ _ h, ap (λ (c : PendingCount). c.frozen) v, ap (λ (c : PendingCount). c.all) v)

      pub front_past : m.count < k → (Err no.Argument ≡ take_front_answer l m k) × ((m.bytes ≡ (take_front_lent l m k).bytes) × (m.lens ≡ (take_front_lent l m k).lens))
      unfolding ask_take_front
      front_past n =
          front_no no.Argument
          (ap (λ (q : ℕ). ok_unless q (others m k)) (sym (and_then_done _ _ counts.0 ∙ ask_fails 4 _ (not_so _ (λ t. let j = leb-true k m.count t in omega arith)))))

      -- the first ones take no more than all
      pub front_less : (p.frozen.entries ≤ p.all.entries) × (p.frozen.bytes ≤ p.all.bytes)
      front_less =
          let g = counts.1 in
          let a = counts.2 in (
            omega (arith, ap (λ (c : Count). c.entries) g, ap (λ (c : Count). c.entries) a),
            omega (arith, ap (λ (c : Count). c.bytes) g, ap (λ (c : Count). c.bytes) a, part_sum 0 first m.count m.lens (omega arith) few),
          )

      pub front_done : (x y : List ℕ) → first ≡ k
          → x ≡ splice m.bytes 0 (take (p.all.bytes - p.frozen.bytes) (drop p.frozen.bytes m.bytes))
          → y ≡ splice m.lens 0 (take (p.all.entries - p.frozen.entries) (drop p.frozen.entries m.lens))
          → (Ok (record { entries = p.all.entries - p.frozen.entries; bytes = p.all.bytes - p.frozen.bytes }) ≡ take_front_answer l m k)
          × ((x ≡ (take_front_lent l m k).bytes) × (y ≡ (take_front_lent l m k).lens))
      unfolding take_front_answer take_front_lent ask_take_front
      front_done x y e hx hy = (
        (λ i. Ok (record { entries = (a i).entries - (g i).entries; bytes = (a i).bytes - (g i).bytes })) ∙ sym (unless_ok _ _ met),
        (
          hx
              ∙ (λ i. splice m.bytes 0 (take ((a i).bytes - (g i).bytes) (drop (g i).bytes m.bytes)))
              ∙ ap (λ (o : Memory). o.bytes) done,
          hy
              ∙ (λ i. splice m.lens 0 (take ((a i).entries - (g i).entries) (drop (g i).entries m.lens)))
              ∙ ap (λ (o : Memory). o.lens) done,
        ),
      )
        where
          g : p.frozen ≡ first_of m k
          g = counts.1 ∙ ap (first_of m) e

          a : p.all ≡ count_of m
          a = counts.2

          met : and_then (ask_pending l m) (ask 4 (leb k m.count)) ≡ 0
          met = and_then_both _ _ counts.0 (ask_holds 4 _ (le-leb k m.count (omega (arith, e, few))))

          done : front_taken m k ≡ unless (and_then (ask_pending l m) (ask 4 (leb k m.count))) m (front_taken m k)
          done = sym (unless_done _ _ _ met)
