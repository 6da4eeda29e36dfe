-- Entries on their way: from memory by way of the frozen ones into the draft's ranges, and off them by location commits, in the order in which they
-- were added. What every accepted call does to those that are in a range or were dropped (`set` with the frozen ones), and to all.
use Rattle.std.specs.Prelude.{◌≡◌, List, [], ◌∷◌, ◌++◌, length, drop}
use Rattle.std.proofs.Common.{sym, ◌∙◌, ap, append-nil, append_assoc, drop_at}
use Rattle.laws.specs.Cut.{flat, flat_append}
use Rattle.layout.specs.declared.Geometry.{Geometry}
use Rattle.codec.specs.Codec.{JournalEntry, Codec}
use Rattle.history.specs.Ledger.{Range, Kept, Draft, Commit, log, location, kept_by, left_by, fresh, added, frozen, written_of}
use Rattle.history.specs.Coverage.{opened, drops, Page, before_here}

abbrev pub on_ranges : List JournalEntry → Draft → List JournalEntry
on_ranges gone d = gone ++ flat (d.before ++ d.after)

abbrev pub set_of : List JournalEntry → Draft → List JournalEntry
set_of gone d = on_ranges gone d ++ d.frozen

abbrev pub all_of : List JournalEntry → Draft → List JournalEntry
all_of gone d = set_of gone d ++ d.memory

abbrev pub set : Page → List JournalEntry
set p = set_of p.account.dropped p.ledger.draft

abbrev pub all : Page → List JournalEntry
all p = all_of p.account.dropped p.ledger.draft

flat_one : (r : Range) → flat (r ∷ []) ≡ r
unfolding flat
flat_one r = append-nil r

module _ (gone : List JournalEntry) (d : Draft) where
  pub all_added : (es : List JournalEntry) → all_of gone (added es d) ≡ all_of gone d ++ es
  all_added es = sym (append_assoc (set_of gone d) d.memory es)

  pub set_frozen : set_of gone (frozen d) ≡ all_of gone d
  set_frozen =
      ap (λ (rs : List Range). (gone ++ flat rs) ++ (d.frozen ++ d.memory)) (append-nil (d.before ++ d.after))
      ∙ sym (append_assoc (on_ranges gone d) d.frozen d.memory)

  pub all_frozen : all_of gone (frozen d) ≡ all_of gone d
  all_frozen = append-nil (set_of gone (frozen d)) ∙ set_frozen

  -- a range behind the others
  behind : (rs : List Range) (r : Range) → gone ++ flat (rs ++ r ∷ []) ≡ (gone ++ flat rs) ++ r
  behind rs r = ap (λ (x : List JournalEntry). gone ++ x) (flat_append rs (r ∷ []) ∙ ap (λ (x : List JournalEntry). flat rs ++ x) (flat_one r)) ∙ sym (append_assoc gone (flat rs) r)

  -- none are frozen: those in memory are written
  pub set_written : d.frozen ≡ [] → set_of gone (written_of [] d) ≡ all_of gone d
  set_written e =
      append-nil (on_ranges gone (written_of [] d))
      ∙ ap (λ (rs : List Range). gone ++ flat rs) (sym (append_assoc d.before d.after (d.memory ∷ [])))
      ∙ behind (d.before ++ d.after) d.memory
      ∙ ap (λ (x : List JournalEntry). x ++ d.memory) (sym (append-nil (on_ranges gone d)) ∙ ap (λ (x : List JournalEntry). on_ranges gone d ++ x) (sym e))

  pub all_written : d.frozen ≡ [] → all_of gone (written_of [] d) ≡ all_of gone d
  all_written e = append-nil (set_of gone (written_of [] d)) ∙ set_written e

  -- the frozen ones are written
  pub set_wrote : (e : JournalEntry) (es : List JournalEntry) → d.frozen ≡ e ∷ es → set_of gone (written_of (e ∷ es) d) ≡ set_of gone d
  set_wrote e es q =
      append-nil (on_ranges gone (written_of (e ∷ es) d))
      ∙ ap (λ (rs : List Range). gone ++ flat rs) (append-nil (d.before ++ d.after ++ ((e ∷ es) ∷ [])))
      ∙ behind (d.before ++ d.after) (e ∷ es)
      ∙ ap (λ (x : List JournalEntry). on_ranges gone d ++ x) (sym q)

  pub all_wrote : (e : JournalEntry) (es : List JournalEntry) → d.frozen ≡ e ∷ es → all_of gone (written_of (e ∷ es) d) ≡ all_of gone d
  all_wrote e es q = ap (λ (x : List JournalEntry). x ++ d.memory) (set_wrote e es q)

-- a first landing, whose draft has the ranges of the present one
module _ (gone : List JournalEntry) (q d : Draft) (before_is : q.before ≡ d.before) (after_is : q.after ≡ d.after) where
  left : drop (length q.before) (d.before ++ d.after) ≡ d.after
  left = drop_at d.before d.after (length q.before) (ap length (sym before_is))

  pub ranges_landed : (c : Commit) → on_ranges (gone ++ drops c q) (left_by c q d) ≡ on_ranges gone d
  ranges_landed log = ap (λ (x : List JournalEntry). x ++ flat (d.before ++ d.after)) (append-nil gone)
  ranges_landed location =
      (λ i. (gone ++ flat (before_is i)) ++ flat (left i))
      ∙ append_assoc gone (flat d.before) (flat d.after)
      ∙ ap (λ (x : List JournalEntry). gone ++ x) (sym (flat_append d.before d.after))

  pub set_landed : (c : Commit) → set_of (gone ++ drops c q) (left_by c q d) ≡ set_of gone d
  set_landed log = ap (λ (x : List JournalEntry). x ++ d.frozen) (ranges_landed log)
  set_landed location = ap (λ (x : List JournalEntry). x ++ d.frozen) (ranges_landed location)

  pub all_landed : (c : Commit) → all_of (gone ++ drops c q) (left_by c q d) ≡ all_of gone d
  all_landed log = ap (λ (x : List JournalEntry). x ++ d.memory) (set_landed log)
  all_landed location = ap (λ (x : List JournalEntry). x ++ d.memory) (set_landed location)

  -- what is kept then, behind what was dropped
  pub covered_landed : (g : Geometry) (C : Codec) (k : Kept) (c : Commit) → (gone ++ drops c q) ++ flat (kept_by g C c q k).ranges ≡ on_ranges gone d
  covered_landed g C k log = (λ i. append-nil gone i ++ flat (before_is i ++ after_is i))
  covered_landed g C k location =
      (λ i. (gone ++ flat (before_is i)) ++ flat (after_is i))
      ∙ append_assoc gone (flat d.before) (flat d.after)
      ∙ ap (λ (x : List JournalEntry). gone ++ x) (sym (flat_append d.before d.after))

-- a crash, and the first disk
pub all_fresh : (k : Kept) → all (record { ledger = fresh k; account = opened k }) ≡ before_here (record { ledger = fresh k; account = opened k })
all_fresh k = append-nil (flat k.ranges ++ [])
