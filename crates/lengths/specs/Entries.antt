-- The one test of entries in lent memory: those from one place up to another are there, each has an allowed length, and their bytes fit.
-- What a yes tells, and entries in two parts.
use Rattle.std.specs.Prelude.{None, Some}
use Rattle.std.specs.declared.option.Option as code
use Rattle.std.specs.Prelude.{ℕ, ◌+◌, ◌*◌, ◌-◌, ◌≤◌, Bool, true, false, ◌≡◌, List, ◌++◌, length, take, drop, get_or, leb}
use Rattle.std.proofs.Common.{sym, ◌∙◌, ap, arith, take-append-drop, take-take, drop-drop}
use borrow.Author.Tests.{leb-true, le-leb}
use Rattle.laws.specs.Choice.{also, also_left, also_right, also_both}
use Rattle.laws.specs.Fold.{sum, every, sum_append, sum_bound, every_append, every_at}
use Rattle.laws.specs.Part.{drop_take, length_part}
use Rattle.range.specs.Form.{most_entry_length, ok_length}
use Rattle.range.specs.Lengths.{ok_high}
use Rattle.lengths.specs.Held.{held_ok, held_facts, facts_held, answer, held_of, answer_bytes, answer_nothing}

-- the lengths of the entries from one place up to another
abbrev pub part : ℕ → ℕ → List ℕ → List ℕ
part from to lens = drop from (take to lens)

unfoldable pub entries_ok : ℕ → List ℕ → ℕ → ℕ → Bool
entries_ok room lens from to =
    also (leb from to)
    (also (leb to (length lens))
    (held_ok most_entry_length room (part from to lens)))

-- the answer: their bytes
unfoldable pub entries_held : ℕ → List ℕ → ℕ → ℕ → code.Option ℕ
entries_held room lens from to = answer (entries_ok room lens from to) (sum (part from to lens))

-- the test as facts
pub record Entries (room : ℕ) (lens : List ℕ) (from to : ℕ) : Type 0 where
  pub order : from ≤ to
  pub there : to ≤ length lens
  pub each : every (ok_length most_entry_length) (part from to lens) ≡ true
  pub fit : sum (part from to lens) ≤ room

module _ (room : ℕ) (lens : List ℕ) (from to : ℕ) where
  pub entries_facts : entries_ok room lens from to ≡ true → Entries room lens from to
  unfolding entries_ok
  entries_facts e =
      let e1 = also_right _ _ e in
      let h = held_facts _ _ _ (also_right _ _ e1) in
      record {
        order = leb-true from to (also_left _ _ e);
        there = leb-true to (length lens) (also_left _ _ e1);
        each = h.each;
        fit = h.fit;
      }

  pub facts_entries : Entries room lens from to → entries_ok room lens from to ≡ true
  unfolding entries_ok
  facts_entries f =
      also_both _ _ (le-leb from to f.order)
      (also_both _ _ (le-leb to (length lens) f.there)
      (facts_held most_entry_length room (part from to lens) (record { each = f.each; fit = f.fit })))

  -- what the answer tells
  pub entries_bytes : (t : ℕ) → Some t ≡ entries_held room lens from to → Entries room lens from to × (t ≡ sum (part from to lens))
  unfolding entries_held
  entries_bytes t e = let a = answer_bytes _ _ t e in (entries_facts a.0, a.1)

  pub entries_nothing : None ≡ entries_held room lens from to → entries_ok room lens from to ≡ false
  unfolding entries_held
  entries_nothing e = answer_nothing _ _ e

-- a part in the code's form
pub part_is : (from to : ℕ) (lens : List ℕ) → from ≤ to → part from to lens ≡ take (to - from) (drop from lens)
part_is from to lens h =
    let e : from + (to - from) ≡ to = omega arith in
    ap (λ (n : ℕ). drop from (take n lens)) (sym e) ∙ drop_take from (to - from) lens

-- the walk over it is the answer
pub entries_are : (room : ℕ) (lens : List ℕ) (from to : ℕ) {r : (code.Option ℕ)} → from ≤ to → to ≤ length lens → r ≡ held_of most_entry_length room (take (to - from) (drop from lens))
    → r ≡ entries_held room lens from to
unfolding entries_held entries_ok held_of also
entries_are room lens from to h k e =
    e ∙ sym (rw (le-leb from to h, le-leb to (length lens) k) (ap (held_of most_entry_length room) (part_is from to lens h)))

-- two parts one after the other
pub part_then : (a b c : ℕ) (lens : List ℕ) → a ≤ b → b ≤ c → part a b lens ++ part b c lens ≡ part a c lens
part_then a b c lens h k =
    (λ i. first i ++ rest i) ∙ take-append-drop (b - a) (part a c lens)
  where
    first : part a b lens ≡ take (b - a) (part a c lens)
    first =
        part_is a b lens h
        ∙ sym (ap (take (b - a)) (part_is a c lens (omega (arith, h, k))) ∙ take-take (b - a) (c - a) (drop a lens) (omega (arith, k)))

    rest : part b c lens ≡ drop (b - a) (part a c lens)
    rest =
        let e : a + (b - a) ≡ b = omega (arith, h) in
        sym (drop-drop (b - a) a (take c lens) ∙ ap (λ (n : ℕ). drop n (take c lens)) e)

pub part_sum : (a b c : ℕ) (lens : List ℕ) → a ≤ b → b ≤ c → sum (part a b lens) + sum (part b c lens) ≡ sum (part a c lens)
part_sum a b c lens h k = sym (sum_append (part a b lens) (part b c lens)) ∙ ap sum (part_then a b c lens h k)

module _ (room : ℕ) (lens : List ℕ) (a b c : ℕ) where
  -- the first entries of those that are held, and the others beside them; and both together
  pub entries_first : Entries room lens a c → a ≤ b → b ≤ c → Entries room lens a b
  entries_first f h k =
      let all = sym (every_append (ok_length most_entry_length) (part a b lens) (part b c lens)) ∙ ap (every (ok_length most_entry_length)) (part_then a b c lens h k) ∙ f.each in
      record {
        order = h;
        there = omega (arith, f.there, k);
        each = also_left _ _ all;
        fit = omega (arith, f.fit, part_sum a b c lens h k);
      }

  pub entries_rest : Entries room lens a c → a ≤ b → b ≤ c → Entries (room - sum (part a b lens)) lens b c
  entries_rest f h k =
      let all = sym (every_append (ok_length most_entry_length) (part a b lens) (part b c lens)) ∙ ap (every (ok_length most_entry_length)) (part_then a b c lens h k) ∙ f.each in
      record {
        order = k;
        there = f.there;
        each = also_right _ _ all;
        fit = omega (arith, f.fit, part_sum a b c lens h k);
      }

  pub entries_join : Entries room lens a b → Entries (room - sum (part a b lens)) lens b c → Entries room lens a c
  entries_join f g =
      record {
        order = omega (arith, f.order, g.order);
        there = g.there;
        each =
            ap (every (ok_length most_entry_length)) (sym (part_then a b c lens f.order g.order))
            ∙ every_append (ok_length most_entry_length) (part a b lens) (part b c lens)
            ∙ also_both _ _ f.each g.each;
        fit = omega (arith, f.fit, g.fit, part_sum a b c lens f.order g.order);
      }

-- allowed lengths bound the bytes
pub entries_small : (room : ℕ) (lens : List ℕ) (from to : ℕ) → Entries room lens from to → sum (part from to lens) ≤ most_entry_length * (to - from)
entries_small room lens from to f =
    let b : sum (part from to lens) ≤ most_entry_length * length (part from to lens) =
    sum_bound most_entry_length (part from to lens)
    (λ i l. ok_high most_entry_length (get_or (part from to lens) i 0) (every_at (ok_length most_entry_length) (part from to lens) i 0 f.each l)) in
    let n : length (part from to lens) ≡ to - from =
    ap length (part_is from to lens f.order) ∙ length_part lens from (to - from) (omega (arith, f.order, f.there)) in
    omega (arith, b, n)
