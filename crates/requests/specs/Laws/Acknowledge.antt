-- Answers: what a yes to the questions of each tells, as facts, and back; and the disk after each, as an equation.
use Rattle.std.specs.Prelude.{None, Some}
use Rattle.std.specs.declared.option.Option as code
use Rattle.std.specs.Prelude.{ℕ, ◌≤◌, Bool, true, false, ◌≡◌, refl, List, take}
use Rattle.std.proofs.Math.Bool.{cond}
use Rattle.std.proofs.Common.{sym, ◌∙◌, arith, eqb-true, eq-eqb}
use Rattle.std.proofs.Math.Path.{ap}
use Rattle.std.proofs.Math.Option.{some}
use Rattle.laws.specs.Choice.{and_then, and_then_left, and_then_right, and_then_both, ask, ask_yes, ask_holds, false_true, split_bool}
use Rattle.laws.specs.Sets.{ids_of}
use Rattle.interval.specs.declared.JournalInterval.{JournalInterval}
use Rattle.superblock.specs.declared.Superblock.{Superblock}
use Rattle.superblock.specs.Laws.{same_superblock_is, superblock_same}
use Rattle.journal.specs.Memory.{full_marks, ask_readable}
use Rattle.journal.specs.Asked.{readable_asked, asked_readable}
use Rattle.tables.specs.declared.IntervalTable.{IntervalTable}
use Rattle.tables.specs.IdTable.{id_set, removed_id}
use Rattle.laws.specs.Optional.{optional}
use Rattle.tables.specs.IntervalTable.{interval_map, removed_interval}
use Rattle.requests.specs.Slots.{Slots, SuperblockReads, SuperblockWrites, writing, ask_which, slot_at, is_write, put_slot}
use Rattle.requests.specs.declared.SuperblockWrite.{SuperblockWrite}
use Rattle.requests.specs.Acknowledge.{ask_waiting, may_read, ask_ack_read_superblock, read_from, holds_read, ask_read_superblock_as, or_empty, held_interval, ask_ack_read_journal, landed, ask_ack_write_superblock, ask_ack_write_journal, read_acked, interval_left}
use Rattle.requests.specs.Laws.Pairs.{which_asked, asked_which}
use Rattle.tables.specs.Rows.{place_of}

-- AckReadSuperblock

pub record WaitingAsked (r : SuperblockReads) (which id : ℕ) : Type 0 where
  pub which_in : which ≤ 1
  pub waiting : id_set (slot_at r which) id ≡ true

module _ (r : SuperblockReads) (which id : ℕ) where
  pub waiting_asked : ask_waiting r which id ≡ 0 → WaitingAsked r which id
  unfolding ask_waiting
  waiting_asked e =
      record {
        which_in = which_asked which (and_then_left (ask_which which) (ask 5 (id_set (slot_at r which) id)) e);
        waiting = ask_yes 5 (id_set (slot_at r which) id) (omega arith) (and_then_right (ask_which which) (ask 5 (id_set (slot_at r which) id)) e);
      }

  pub asks_waiting : WaitingAsked r which id → ask_waiting r which id ≡ 0
  unfolding ask_waiting
  asks_waiting a =
      and_then_both (ask_which which) (ask 5 (id_set (slot_at r which) id)) (asked_which which a.which_in) (ask_holds 5 (id_set (slot_at r which) id) a.waiting)

  -- by whole or damaged, and with what was read
  module _ (s : Slots) where
    pub ack_read_superblock_waiting : (whole : Bool) → ask_ack_read_superblock s r which id whole ≡ 0 → WaitingAsked r which id
    unfolding ask_ack_read_superblock
    ack_read_superblock_waiting whole e = waiting_asked (and_then_left (ask_waiting r which id) (ask 6 (may_read whole (slot_at s which))) e)

    pub ack_read_superblock_may : (whole : Bool) → ask_ack_read_superblock s r which id whole ≡ 0 → may_read whole (slot_at s which) ≡ true
    unfolding ask_ack_read_superblock
    ack_read_superblock_may whole e =
        ask_yes 6 (may_read whole (slot_at s which)) (omega arith) (and_then_right (ask_waiting r which id) (ask 6 (may_read whole (slot_at s which))) e)

    pub asks_ack_read_superblock : (whole : Bool) → WaitingAsked r which id → may_read whole (slot_at s which) ≡ true → ask_ack_read_superblock s r which id whole ≡ 0
    unfolding ask_ack_read_superblock
    asks_ack_read_superblock whole a m =
        and_then_both (ask_waiting r which id) (ask 6 (may_read whole (slot_at s which))) (asks_waiting a) (ask_holds 6 (may_read whole (slot_at s which)) m)

    pub read_superblock_as_waiting : (x : code.Option Superblock) → ask_read_superblock_as s r which id x ≡ 0 → WaitingAsked r which id
    unfolding ask_read_superblock_as
    read_superblock_as_waiting x e = waiting_asked (and_then_left (ask_waiting r which id) (ask 6 (holds_read (slot_at s which) x)) e)

    pub read_superblock_as_holds : (x : code.Option Superblock) → ask_read_superblock_as s r which id x ≡ 0 → holds_read (slot_at s which) x ≡ true
    unfolding ask_read_superblock_as
    read_superblock_as_holds x e =
        ask_yes 6 (holds_read (slot_at s which) x) (omega arith) (and_then_right (ask_waiting r which id) (ask 6 (holds_read (slot_at s which) x)) e)

    pub asks_read_superblock_as : (x : code.Option Superblock) → WaitingAsked r which id → holds_read (slot_at s which) x ≡ true → ask_read_superblock_as s r which id x ≡ 0
    unfolding ask_read_superblock_as
    asks_read_superblock_as x a h =
        and_then_both (ask_waiting r which id) (ask 6 (holds_read (slot_at s which) x)) (asks_waiting a) (ask_holds 6 (holds_read (slot_at s which) x) h)

-- whole where the slot holds a superblock, damaged always
pub whole_holds : (x : code.Option Superblock) → may_read true x ≡ true → (s : Superblock) × (x ≡ Some s)
unfolding may_read
whole_holds (Some s) e = (s, refl)
whole_holds None e = false_true e

pub holds_whole : (s : Superblock) → may_read true (Some s) ≡ true
unfolding may_read
holds_whole s = refl

pub may_damaged : (x : code.Option Superblock) → may_read false x ≡ true
unfolding may_read
may_damaged (Some s) = refl
may_damaged None = refl

pub read_whole : (s : Superblock) → read_from true (Some s) ≡ Some s
unfolding read_from
read_whole s = refl

pub read_damaged : (x : code.Option Superblock) → read_from false x ≡ None
unfolding read_from
read_damaged x = refl

-- exactly what the slot holds
pub whole_held : (x : code.Option Superblock) (s : Superblock) → holds_read x (Some s) ≡ true → x ≡ Some s
unfolding holds_read
whole_held (Some t) s e = ap Some (same_superblock_is t s e)
whole_held None s e = false_true e

pub held_whole : (s : Superblock) → holds_read (Some s) (Some s) ≡ true
unfolding holds_read
held_whole s = superblock_same s s refl

pub held_damaged : (x : code.Option Superblock) → holds_read x None ≡ true
unfolding holds_read
held_damaged (Some t) = refl
held_damaged None = refl

-- AckReadJournal

pub held_is : (t : IntervalTable) (id : ℕ) (v : JournalInterval) → interval_map t id ≡ some v → held_interval t id ≡ v
unfolding held_interval
held_is t id v e = (λ i. or_empty (optional (e i)))

module _ (t : IntervalTable) (id : ℕ) (whole : Bool) (marks : List ℕ) where
  readable : ℕ
  readable = cond whole (ask_readable (held_interval t id) marks) 0

  pub ack_read_journal_waiting : ask_ack_read_journal t id whole marks ≡ 0 → ids_of (take t.count t.ids) id ≡ true
  unfolding ask_ack_read_journal readable
  ack_read_journal_waiting e =
      ask_yes 5 (ids_of (take t.count t.ids) id) (omega arith) (and_then_left (ask 5 (ids_of (take t.count t.ids) id)) readable e)

  pub ack_read_journal_full : ask_ack_read_journal t id whole marks ≡ 0 → whole ≡ true → full_marks marks (held_interval t id) ≡ true
  unfolding ask_ack_read_journal readable
  ack_read_journal_full e h =
      readable_asked (held_interval t id) marks
      (ap (λ (b : Bool). cond b (ask_readable (held_interval t id) marks) 0) (sym h)
      ∙ and_then_right (ask 5 (ids_of (take t.count t.ids) id)) readable e)

  pub asks_ack_read_journal : ids_of (take t.count t.ids) id ≡ true → (whole ≡ true → full_marks marks (held_interval t id) ≡ true) → ask_ack_read_journal t id whole marks ≡ 0
  unfolding ask_ack_read_journal readable
  asks_ack_read_journal w f =
      and_then_both (ask 5 (ids_of (take t.count t.ids) id)) readable (ask_holds 5 (ids_of (take t.count t.ids) id) w)
      (split_bool whole
      (λ h. ap (λ (b : Bool). cond b (ask_readable (held_interval t id) marks) 0) h ∙ asked_readable (held_interval t id) marks (f h))
      (λ h. ap (λ (b : Bool). cond b (ask_readable (held_interval t id) marks) 0) h))

-- AckWriteSuperblock

pub record AckWriteSuperblockAsked (s : Slots) (w : SuperblockWrites) (which id : ℕ) : Type 0 where
  pub which_in : which ≤ 1
  pub id_is : is_write (slot_at w which) id ≡ true
  pub is_landed : landed (slot_at s which) (slot_at w which) ≡ true

module _ (s : Slots) (w : SuperblockWrites) (which id : ℕ) where
  same_id : Bool
  same_id = is_write (slot_at w which) id

  has_landed : Bool
  has_landed = landed (slot_at s which) (slot_at w which)

  pub ack_write_superblock_asked : ask_ack_write_superblock s w which id ≡ 0 → AckWriteSuperblockAsked s w which id
  unfolding ask_ack_write_superblock same_id has_landed
  ack_write_superblock_asked e =
      let k = and_then_right (ask_which which) (and_then (ask 5 same_id) (ask 6 has_landed)) e in
      record {
        which_in = which_asked which (and_then_left (ask_which which) (and_then (ask 5 same_id) (ask 6 has_landed)) e);
        id_is = ask_yes 5 same_id (omega arith) (and_then_left (ask 5 same_id) (ask 6 has_landed) k);
        is_landed = ask_yes 6 has_landed (omega arith) (and_then_right (ask 5 same_id) (ask 6 has_landed) k);
      }

  pub asks_ack_write_superblock : AckWriteSuperblockAsked s w which id → ask_ack_write_superblock s w which id ≡ 0
  unfolding ask_ack_write_superblock same_id has_landed
  asks_ack_write_superblock a =
      and_then_both (ask_which which) (and_then (ask 5 same_id) (ask 6 has_landed)) (asked_which which a.which_in)
      (and_then_both (ask 5 same_id) (ask 6 has_landed) (ask_holds 5 same_id a.id_is) (ask_holds 6 has_landed a.is_landed))

-- the write with this id, and the slot that holds its superblock
pub is_write_is : (x : code.Option SuperblockWrite) (id : ℕ) → is_write x id ≡ true → (s : Superblock) × (x ≡ writing id s)
unfolding is_write
is_write_is (Some w) id e = (w.superblock, ap (λ (n : ℕ). writing n w.superblock) (eqb-true w.id id e))
is_write_is None id e = false_true e

pub write_is : (id : ℕ) (s : Superblock) → is_write (writing id s) id ≡ true
unfolding is_write
write_is id s = eq-eqb id id refl

pub landed_holds : (x : code.Option Superblock) (id : ℕ) (s : Superblock) → landed x (writing id s) ≡ true → x ≡ Some s
unfolding landed
landed_holds (Some t) id s e = ap Some (same_superblock_is t s e)
landed_holds None id s e = false_true e

pub holds_landed : (id : ℕ) (s : Superblock) → landed (Some s) (writing id s) ≡ true
unfolding landed
holds_landed id s = superblock_same s s refl

-- AckWriteJournal

pub ack_write_journal_waiting : (t : IntervalTable) (id : ℕ) → ask_ack_write_journal t id ≡ 0 → ids_of (take t.count t.ids) id ≡ true
unfolding ask_ack_write_journal
ack_write_journal_waiting t id e = ask_yes 5 (ids_of (take t.count t.ids) id) (omega arith) e

pub asks_ack_write_journal : (t : IntervalTable) (id : ℕ) → ids_of (take t.count t.ids) id ≡ true → ask_ack_write_journal t id ≡ 0
unfolding ask_ack_write_journal
asks_ack_write_journal t id w = ask_holds 5 (ids_of (take t.count t.ids) id) w

-- the reads without an answered one, and a table without it
pub read_acked_is : (r : SuperblockReads) (which id : ℕ)
    → read_acked r which id ≡ put_slot r which (removed_id (slot_at r which) (place_of id (take (slot_at r which).count (slot_at r which).ids)))
unfolding read_acked
read_acked_is r which id = refl

pub interval_left_is : (t : IntervalTable) (id : ℕ) → interval_left t id ≡ removed_interval t (place_of id (take t.count t.ids))
unfolding interval_left
interval_left_is t id = refl
