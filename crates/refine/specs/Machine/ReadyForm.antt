-- What the record of a machine at work adds to its view: `which` is 0 or 1, counts lie within the arrays and the memories, frozen within
-- pending, taken within replay, and the ids of a table differ. Then the entries of the view by their lengths.
use Rattle.std.specs.Prelude.{ℕ, ◌+◌, ◌-◌, ◌≤◌, true, ◌≡◌, List, [], ◌++◌, length, take, drop}
use Rattle.std.proofs.Common.{sym, ◌∙◌, ap, arith, length-drop, take-append-drop}
use Rattle.laws.specs.Choice.{also, also_left, also_right, also_both}
use Rattle.laws.specs.Fold.{sum, every, sum_append, every_append}
use Rattle.laws.specs.Cut.{lengths, lengths_append}
use Rattle.laws.specs.Sets.{empty_ids}
use Rattle.tables.specs.declared.IdTable.{IdTable}
use Rattle.tables.specs.IdTable.{id_set}
use Rattle.tables.proofs.Laws.IdTables.{none_ids}
use Rattle.range.specs.Form.{ok_length}
use Rattle.range.specs.Memory.{view, total, view_none, length_view, lengths_view, view_take}
use Rattle.ready.specs.declared.Entries.{Entries}
use Rattle.ready.specs.declared.Ready.{Ready}
use Rattle.codec.specs.Codec.{JournalEntry, EntriesFit}
use Rattle.codec.specs.Format.{fit_lengths, lengths_fit}
use Rattle.refine.specs.Disk.View.{Table}
use Rattle.refine.specs.Disk.Meets.{counted_own}
use Rattle.refine.specs.Machine.ReadyView.{ReadyLent, frozen_of, memory_of, replay_of}

-- of pending memory
pub record PendingForm (l : ReadyLent) (e : Entries) : Type 0 where
  pub frozen_within : e.frozen ≤ e.pending
  pub there : e.pending ≤ length l.lens
  pub fit : total l.lens e.pending ≤ length l.bytes

-- of replay memory, behind what is taken
pub record ReplayForm (l : ReadyLent) (e : Entries) : Type 0 where
  pub taken_within : e.taken.entries ≤ e.replay
  pub there : e.replay ≤ length l.rlens
  pub fit : e.taken.bytes + total (drop e.taken.entries l.rlens) (e.replay - e.taken.entries) ≤ length l.rbytes

-- of k entries that a caller brings: their lengths are there, and their bytes
pub record Given (bodies sizes : List ℕ) (k : ℕ) : Type 0 where
  pub there : k ≤ length sizes
  pub fit : total sizes k ≤ length bodies

pub record ReadyForm (l : ReadyLent) (r : Ready) : Type 0 where
  pub which_in : r.whichSuperblock ≤ 1
  pub pending : PendingForm l r.entries
  pub replay : ReplayForm l r.entries
  pub writes : Table r.writes.count r.writes.ids

-- no id is in use where the set is empty
pub table_none : (t : IdTable) → Table t.count t.ids → id_set t ≡ empty_ids → t.count ≡ 0
table_none t f e = none_ids t t.count (counted_own t.count t.ids f) e

-- entries of an allowed length, one by one and by their lengths
pub each_fit : (most : ℕ) (es : List JournalEntry) (ns : List ℕ) → lengths es ≡ ns → every (ok_length most) ns ≡ true → EntriesFit most es
each_fit most es ns e h = lengths_fit most es (ap (every (ok_length most)) e ∙ h)

pub fit_each : (most : ℕ) (es : List JournalEntry) (ns : List ℕ) → lengths es ≡ ns → EntriesFit most es → every (ok_length most) ns ≡ true
fit_each most es ns e h = sym (ap (every (ok_length most)) e) ∙ fit_lengths most es h

-- pending entries
module _ (l : ReadyLent) (e : Entries) (p : PendingForm l e) where
  pub length_frozen : length (frozen_of l e) ≡ e.frozen
  length_frozen = length_view l.bytes l.lens e.frozen (omega (arith, p.frozen_within, p.there))

  pub length_memory : length (memory_of l e) ≡ e.pending - e.frozen
  length_memory =
      length-drop e.frozen (view l.bytes l.lens e.pending)
      ∙ ap (λ (n : ℕ). n - e.frozen) (length_view l.bytes l.lens e.pending p.there)

  pub pending_few_is : length (frozen_of l e) + length (memory_of l e) ≡ e.pending
  pending_few_is = omega (arith, length_frozen, length_memory, p.frozen_within)

  pub none_frozen_is : e.frozen ≡ 0 → frozen_of l e ≡ []
  none_frozen_is z = ap (view l.bytes l.lens) z ∙ view_none l.bytes l.lens

  pub frozen_none : frozen_of l e ≡ [] → e.frozen ≡ 0
  frozen_none z = sym length_frozen ∙ ap length z

  -- frozen first
  pub pending_is : frozen_of l e ++ memory_of l e ≡ view l.bytes l.lens e.pending
  pending_is =
      ap (λ (es : List JournalEntry). es ++ memory_of l e) (sym (view_take l.bytes l.lens e.pending e.frozen p.frozen_within))
      ∙ take-append-drop e.frozen (view l.bytes l.lens e.pending)

  pending_lengths : lengths (frozen_of l e) ++ lengths (memory_of l e) ≡ take e.pending l.lens
  pending_lengths =
      sym (lengths_append (frozen_of l e) (memory_of l e))
      ∙ ap lengths pending_is
      ∙ lengths_view l.bytes l.lens e.pending p.fit

  pub pending_small_is : sum (lengths (frozen_of l e)) + sum (lengths (memory_of l e)) ≡ total l.lens e.pending
  pending_small_is = sym (sum_append (lengths (frozen_of l e)) (lengths (memory_of l e))) ∙ ap sum pending_lengths

  -- each of an allowed length
  module _ (most : ℕ) where
    pending_each : every (ok_length most) (take e.pending l.lens) ≡ also (every (ok_length most) (lengths (frozen_of l e))) (every (ok_length most) (lengths (memory_of l e)))
    pending_each = ap (every (ok_length most)) (sym pending_lengths) ∙ every_append (ok_length most) (lengths (frozen_of l e)) (lengths (memory_of l e))

    pub frozen_fits : every (ok_length most) (take e.pending l.lens) ≡ true → EntriesFit most (frozen_of l e)
    frozen_fits h = lengths_fit most (frozen_of l e) (also_left _ _ (sym pending_each ∙ h))

    pub memory_fits : every (ok_length most) (take e.pending l.lens) ≡ true → EntriesFit most (memory_of l e)
    memory_fits h = lengths_fit most (memory_of l e) (also_right _ _ (sym pending_each ∙ h))

    pub fits_pending : EntriesFit most (frozen_of l e) → EntriesFit most (memory_of l e) → every (ok_length most) (take e.pending l.lens) ≡ true
    fits_pending f m = pending_each ∙ also_both _ _ (fit_lengths most (frozen_of l e) f) (fit_lengths most (memory_of l e) m)

-- replay entries
module _ (l : ReadyLent) (e : Entries) (p : ReplayForm l e) where
  pub length_replay : length (replay_of l e) ≡ e.replay - e.taken.entries
  length_replay =
      length_view (drop e.taken.bytes l.rbytes) (drop e.taken.entries l.rlens) (e.replay - e.taken.entries)
      (omega (arith, length-drop e.taken.entries l.rlens, p.there))

  pub lengths_replay : lengths (replay_of l e) ≡ take (e.replay - e.taken.entries) (drop e.taken.entries l.rlens)
  lengths_replay =
      lengths_view (drop e.taken.bytes l.rbytes) (drop e.taken.entries l.rlens) (e.replay - e.taken.entries)
      (omega (arith, length-drop e.taken.bytes l.rbytes, p.fit))

  pub replay_small_is : sum (lengths (replay_of l e)) ≡ total (drop e.taken.entries l.rlens) (e.replay - e.taken.entries)
  replay_small_is = ap sum lengths_replay

  pub all_replayed : e.replay ≤ e.taken.entries → replay_of l e ≡ []
  all_replayed h =
      let z : e.replay - e.taken.entries ≡ 0 = omega arith in
      ap (view (drop e.taken.bytes l.rbytes) (drop e.taken.entries l.rlens)) z
      ∙ view_none (drop e.taken.bytes l.rbytes) (drop e.taken.entries l.rlens)

  pub replayed_all : replay_of l e ≡ [] → e.replay ≤ e.taken.entries
  replayed_all z = omega (arith, length_replay, ap length z)
