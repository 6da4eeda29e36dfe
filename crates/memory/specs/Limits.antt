-- The limits of pending memory, and question 1 of what is lent for it.
use Rattle.std.specs.Prelude.{ℕ, ◌≤◌, ◌<◌, Bool, ◌≡◌, leb, eqb}
use Rattle.std.proofs.Math.Path.{sym}
use Rattle.std.proofs.Common.{arith}
use borrow.Author.Tests.{leb-true, le-leb, lt-leb, eqb-true, eq-eqb}
use Rattle.laws.specs.Choice.{also, ask, also_left, also_right, also_both, ask_yes, ask_holds, ask_fails}
use Rattle.range.specs.Form.{most_entries}
use Rattle.memory.specs.declared.Limits.{Limits}
use Rattle.range.specs.declared.Count.{Count}

abbrev pub most_bytes : ℕ
most_bytes = 65536

-- the store's limits
abbrev pub store_limits : Limits
store_limits = record { entries = most_entries; bytes = most_bytes }

-- the limits go up to the store's, and the lent lengths are the limits
unfoldable pub pending_lent : Limits → ℕ → ℕ → Bool
pending_lent l bytes lens =
    also (leb l.entries most_entries)
    (also (leb l.bytes most_bytes)
    (also (eqb bytes l.bytes)
    (eqb lens l.entries)))

unfoldable pub ask_pending_lent : Limits → ℕ → ℕ → ℕ
ask_pending_lent l bytes lens = ask 1 (pending_lent l bytes lens)

-- question 8: so much fits
unfoldable pub ask_room : Limits → Count → ℕ
ask_room l c = ask 8 (also (leb c.entries l.entries) (leb c.bytes l.bytes))

pub record PendingLent (l : Limits) (bytes lens : ℕ) : Type 0 where
  pub few : l.entries ≤ most_entries
  pub small : l.bytes ≤ most_bytes
  pub bytes_lent : bytes ≡ l.bytes
  pub lens_lent : lens ≡ l.entries

-- question 1 was answered yes exactly there
pub lent_asked : (l : Limits) (bytes lens : ℕ) → ask_pending_lent l bytes lens ≡ 0 → PendingLent l bytes lens
unfolding ask_pending_lent pending_lent
lent_asked l bytes lens q =
    let e = ask_yes 1 (pending_lent l bytes lens) (omega arith) q in
    let e1 = also_right _ _ e in
    let e2 = also_right _ _ e1 in
    record {
      few = leb-true l.entries most_entries (also_left _ _ e);
      small = leb-true l.bytes most_bytes (also_left _ _ e1);
      bytes_lent = eqb-true bytes l.bytes (also_left _ _ e2);
      lens_lent = eqb-true lens l.entries (also_right _ _ e2);
    }

pub asked_lent : (l : Limits) (bytes lens : ℕ) → PendingLent l bytes lens → ask_pending_lent l bytes lens ≡ 0
unfolding ask_pending_lent pending_lent
asked_lent l bytes lens f =
    ask_holds 1 (pending_lent l bytes lens)
    (also_both _ _ (le-leb l.entries most_entries f.few)
    (also_both _ _ (le-leb l.bytes most_bytes f.small)
    (also_both _ _ (eq-eqb bytes l.bytes f.bytes_lent) (eq-eqb lens l.entries f.lens_lent))))

-- the three ways of question 8
module _ (l : Limits) (c : Count) where
  pub room_entries : l.entries < c.entries → 8 ≡ ask_room l c
  unfolding ask_room also
  room_entries h = sym (ask_fails 8 _ (simp (lt-leb c.entries l.entries h)))

  pub room_bytes : c.entries ≤ l.entries → l.bytes < c.bytes → 8 ≡ ask_room l c
  unfolding ask_room also
  room_bytes h k = sym (ask_fails 8 _ (simp (le-leb c.entries l.entries h, lt-leb c.bytes l.bytes k)))

  pub room_yes : c.entries ≤ l.entries → c.bytes ≤ l.bytes → 0 ≡ ask_room l c
  unfolding ask_room
  room_yes h k = sym (ask_holds 8 _ (also_both _ _ (le-leb c.entries l.entries h) (le-leb c.bytes l.bytes k)))

  pub room_asked : ask_room l c ≡ 0 → (c.entries ≤ l.entries) × (c.bytes ≤ l.bytes)
  unfolding ask_room
  room_asked q =
      let fits = ask_yes 8 _ (omega arith) q in
      (leb-true c.entries l.entries (also_left _ _ fits), leb-true c.bytes l.bytes (also_right _ _ fits))
