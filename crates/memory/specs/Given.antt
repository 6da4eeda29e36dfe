-- The entries that a lent memory holds: its bytes, its lengths and a count. And the entries that a caller brings.
use Rattle.std.specs.Prelude.{None, Some, Ok, Err}
use Rattle.std.specs.Prelude.{ℕ, ◌*◌, ◌≤◌, true, ◌≡◌, List, length, leb}
use Rattle.std.proofs.Common.{sym, ◌∙◌, ap, arith, leb-true, le-leb}
use Rattle.laws.specs.Choice.{also, and_then, and_then_left, and_then_right, and_then_both, ask, also_left, also_right, also_both, ask_yes, ask_holds, ask_fails, not_so, false_true}
use Rattle.range.specs.Form.{Entry, most_entry_length}
use Rattle.range.specs.Blank.{none_blank}
use Rattle.range.specs.Memory.{view, total}
use Rattle.lengths.specs.Entries.{Entries, entries_ok, entries_held, entries_facts, facts_entries, entries_bytes, entries_nothing, entries_small}
use Rattle.range.specs.declared.Count.{Count}
use Rattle.refusal.specs.declared.Refusal.TheVariants as no
use Rattle.refusal.specs.Refusal.{ok_unless, unless_ok}

pub record Memory : Type 0 where
  pub bytes : List ℕ
  pub lens : List ℕ
  pub count : ℕ

abbrev pub memory : List ℕ → List ℕ → ℕ → Memory
memory bytes lens count = record { bytes = bytes; lens = lens; count = count }

-- the entries, and the bytes that they take
abbrev pub entries_of : Memory → List Entry
entries_of m = view m.bytes m.lens m.count

abbrev pub bytes_of : Memory → ℕ
bytes_of m = total m.lens m.count

abbrev pub count_of : Memory → Count
count_of m = record { entries = m.count; bytes = bytes_of m }

-- the most entries that a step brings
abbrev pub most_given : ℕ
most_given = 16

-- question 4 of entries that a caller brings
unfoldable pub ask_given : Memory → ℕ
ask_given e = ask 4 (also (leb e.count most_given) (entries_ok (length e.bytes) e.lens 0 e.count))

-- questions 4 and 13 of the entries that an add brings
unfoldable pub ask_added : Memory → ℕ
ask_added e = and_then (ask_given e) (ask 13 (none_blank (entries_of e)))

pub record Given (e : Memory) : Type 0 where
  pub few : e.count ≤ most_given
  pub held : Entries (length e.bytes) e.lens 0 e.count

pub given_asked : (e : Memory) → ask_given e ≡ 0 → Given e
unfolding ask_given
given_asked e q =
    let t = ask_yes 4 _ (omega arith) q in
    record { few = leb-true e.count most_given (also_left _ _ t); held = entries_facts _ _ _ _ (also_right _ _ t) }

pub asked_given : (e : Memory) → Given e → ask_given e ≡ 0
unfolding ask_given
asked_given e g = ask_holds 4 _ (also_both _ _ (le-leb e.count most_given g.few) (facts_entries _ _ _ _ g.held))

-- an add's two questions, and the one of any entries
pub added_asked : (e : Memory) → ask_added e ≡ 0 → (ask_given e ≡ 0) × (none_blank (entries_of e) ≡ true)
unfolding ask_added
added_asked e q = (and_then_left _ _ q, ask_yes 13 _ (omega arith) (and_then_right _ _ q))

pub asked_added : (e : Memory) → ask_given e ≡ 0 → none_blank (entries_of e) ≡ true → ask_added e ≡ 0
unfolding ask_added
asked_added e q s = and_then_both _ _ q (ask_holds 13 _ s)

-- their bytes are few
pub given_small : (e : Memory) → ask_given e ≡ 0 → bytes_of e ≤ most_entry_length * most_given
given_small e q =
    let g = given_asked e q in
    let few = g.few in
    let small = entries_small _ _ _ _ g.held in
    omega arith

-- the answers, from what was held
module _ (e : Memory) where
  pub given_no : None ≡ entries_held (length e.bytes) e.lens 0 e.count → Err no.Argument ≡ ok_unless (ask_given e) (count_of e)
  unfolding ask_given
  given_no h =
      ap (λ (q : ℕ). ok_unless q (count_of e))
      (sym (ask_fails 4 _ (not_so _ (λ t. false_true (sym (entries_nothing _ _ _ _ h) ∙ also_right _ _ t)))))

  pub given_yes : (t : ℕ) → e.count ≤ most_given → Some t ≡ entries_held (length e.bytes) e.lens 0 e.count
      → Ok (record { entries = e.count; bytes = t }) ≡ ok_unless (ask_given e) (count_of e)
  given_yes t few h =
      let f = entries_bytes _ _ _ _ t h in
      ap (λ (b : ℕ). Ok (record { entries = e.count; bytes = b })) f.1 ∙ sym (unless_ok _ _ (asked_given e (record { few = few; held = f.0 })))
