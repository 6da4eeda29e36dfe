-- Requests: what a yes to the questions of each tells, as facts, and back; question 8 at its bound; and the disk after each, as an equation.
use Rattle.std.specs.Prelude.{None, Some}
use Rattle.std.specs.declared.option.Option as code
use Rattle.std.specs.Prelude.{ℕ, ◌-◌, ◌≤◌, ◌<◌, Bool, true, false, ◌≡◌, refl, eqb, take}
use Rattle.std.proofs.Math.Bool.{not}
use Rattle.std.proofs.Math.Path.{sym}
use Rattle.std.proofs.Common.{◌∙◌, ap, arith, ne_eqb}
use Rattle.std.proofs.lemmas.Bool.{eqb-false}
use Rattle.laws.specs.Choice.{also, also_left, also_right, also_both, either, either_neither, neither_left, neither_right, and_then, and_then_left, and_then_right, and_then_both, and_then_done, and_then_first, ask, ask_yes, ask_holds, ask_fails, not_true, false_true}
use Rattle.laws.specs.Sets.{ids_of}
use Rattle.layout.specs.declared.Geometry.{Geometry}
use Rattle.interval.specs.declared.JournalInterval.{JournalInterval}
use Rattle.laws.specs.Optional.{optional}
use Rattle.interval.specs.Interval.{interval, valid_journal_interval, contiguous_journal_interval}
use Rattle.interval.proofs.Laws.{parts_wrapped}
use Rattle.superblock.specs.declared.Superblock.{Superblock}
use Rattle.tables.specs.declared.IntervalTable.{IntervalTable}
use Rattle.tables.specs.Rows.{has_room, ask_add}
use Rattle.tables.specs.IdTable.{id_set, added_id}
use Rattle.tables.specs.IntervalTable.{added_interval}
use Rattle.tables.proofs.Laws.Counts.{no_room, add_full}
use Rattle.requests.specs.Slots.{SuperblockReads, SuperblockWrites, writing, ask_which, slot_at, is_write, put_slot}
use Rattle.requests.specs.Limits.{most_superblock_reads, most_journal_reads, most_journal_writes}
use Rattle.requests.specs.Receive.{ask_recv_read_superblock, ask_recv_read_journal, ask_recv_write_superblock, is_new, ask_new_ids, rows_for, second_fits, ask_rows, ask_recv_write_journal, added_part, write_received, read_received}
use Rattle.requests.specs.Laws.Pairs.{which_asked, asked_which}

-- RecvReadSuperblock

pub record RecvReadSuperblockAsked (r : SuperblockReads) (which id : ℕ) : Type 0 where
  pub which_in : which ≤ 1
  pub new1 : id_set r.first id ≡ false
  pub new2 : id_set r.second id ≡ false
  pub room : has_room most_superblock_reads (slot_at r which).count 1 (slot_at r which).ids ≡ true

module _ (r : SuperblockReads) (which id : ℕ) where
  waits : Bool
  waits = either (id_set r.first id) (id_set r.second id)

  fits : Bool
  fits = has_room most_superblock_reads (slot_at r which).count 1 (slot_at r which).ids

  pub recv_read_superblock_asked : ask_recv_read_superblock r which id ≡ 0 → RecvReadSuperblockAsked r which id
  unfolding ask_recv_read_superblock waits fits
  recv_read_superblock_asked e =
      let k = and_then_right (ask_which which) (and_then (ask 5 (not waits)) (ask 8 fits)) e in
      let n = not_true waits (ask_yes 5 (not waits) (omega arith) (and_then_left (ask 5 (not waits)) (ask 8 fits) k)) in
      record {
        which_in = which_asked which (and_then_left (ask_which which) (and_then (ask 5 (not waits)) (ask 8 fits)) e);
        new1 = neither_left (id_set r.first id) (id_set r.second id) n;
        new2 = neither_right (id_set r.first id) (id_set r.second id) n;
        room = ask_yes 8 fits (omega arith) (and_then_right (ask 5 (not waits)) (ask 8 fits) k);
      }

  asks_new : id_set r.first id ≡ false → id_set r.second id ≡ false → ask 5 (not waits) ≡ 0
  unfolding waits
  asks_new p q = ask_holds 5 (not waits) (ap not (either_neither (id_set r.first id) (id_set r.second id) p q))

  pub asks_recv_read_superblock : RecvReadSuperblockAsked r which id → ask_recv_read_superblock r which id ≡ 0
  unfolding ask_recv_read_superblock waits fits
  asks_recv_read_superblock a =
      and_then_both (ask_which which) (and_then (ask 5 (not waits)) (ask 8 fits)) (asked_which which a.which_in)
      (and_then_both (ask 5 (not waits)) (ask 8 fits) (asks_new a.new1 a.new2) (ask_holds 8 fits a.room))

  pub recv_read_superblock_full : which ≤ 1 → id_set r.first id ≡ false → id_set r.second id ≡ false → most_superblock_reads ≤ (slot_at r which).count
      → ask_recv_read_superblock r which id ≡ 8
  unfolding ask_recv_read_superblock waits fits
  recv_read_superblock_full h p q c =
      and_then_done (ask_which which) (and_then (ask 5 (not waits)) (ask 8 fits)) (asked_which which h)
      ∙ and_then_done (ask 5 (not waits)) (ask 8 fits) (asks_new p q)
      ∙ ask_fails 8 fits (no_room most_superblock_reads (slot_at r which).count (slot_at r which).ids 1 (omega arith))

-- RecvReadJournal

pub record RecvReadJournalAsked (g : Geometry) (t : IntervalTable) (id : ℕ) (v : JournalInterval) : Type 0 where
  pub contiguous : contiguous_journal_interval g v ≡ true
  pub add : ask_add most_journal_reads t.count t.ids id ≡ 0

module _ (g : Geometry) (t : IntervalTable) (id : ℕ) (v : JournalInterval) where
  adds : ℕ
  adds = ask_add most_journal_reads t.count t.ids id

  pub recv_read_journal_asked : ask_recv_read_journal g t id v ≡ 0 → RecvReadJournalAsked g t id v
  unfolding ask_recv_read_journal adds
  recv_read_journal_asked e =
      record {
        contiguous = ask_yes 4 (contiguous_journal_interval g v) (omega arith) (and_then_left (ask 4 (contiguous_journal_interval g v)) adds e);
        add = and_then_right (ask 4 (contiguous_journal_interval g v)) adds e;
      }

  pub asks_recv_read_journal : RecvReadJournalAsked g t id v → ask_recv_read_journal g t id v ≡ 0
  unfolding ask_recv_read_journal adds
  asks_recv_read_journal a =
      and_then_both (ask 4 (contiguous_journal_interval g v)) adds (ask_holds 4 (contiguous_journal_interval g v) a.contiguous) a.add

  pub recv_read_journal_full : contiguous_journal_interval g v ≡ true → ids_of (take t.count t.ids) id ≡ false → most_journal_reads ≤ t.count → ask_recv_read_journal g t id v ≡ 8
  unfolding ask_recv_read_journal adds
  recv_read_journal_full c n h =
      and_then_done (ask 4 (contiguous_journal_interval g v)) adds (ask_holds 4 (contiguous_journal_interval g v) c)
      ∙ add_full most_journal_reads t.count t.ids id n h

-- RecvWriteSuperblock

pub record RecvWriteSuperblockAsked (w : SuperblockWrites) (which id : ℕ) : Type 0 where
  pub which_in : which ≤ 1
  pub new1 : is_write w.first id ≡ false
  pub new2 : is_write w.second id ≡ false

module _ (w : SuperblockWrites) (which id : ℕ) where
  in_flight_is : Bool
  in_flight_is = either (is_write w.first id) (is_write w.second id)

  pub recv_write_superblock_asked : ask_recv_write_superblock w which id ≡ 0 → RecvWriteSuperblockAsked w which id
  unfolding ask_recv_write_superblock in_flight_is
  recv_write_superblock_asked e =
      let n = not_true in_flight_is (ask_yes 5 (not in_flight_is) (omega arith) (and_then_right (ask_which which) (ask 5 (not in_flight_is)) e)) in
      record {
        which_in = which_asked which (and_then_left (ask_which which) (ask 5 (not in_flight_is)) e);
        new1 = neither_left (is_write w.first id) (is_write w.second id) n;
        new2 = neither_right (is_write w.first id) (is_write w.second id) n;
      }

  pub asks_recv_write_superblock : RecvWriteSuperblockAsked w which id → ask_recv_write_superblock w which id ≡ 0
  unfolding ask_recv_write_superblock in_flight_is
  asks_recv_write_superblock a =
      and_then_both (ask_which which) (ask 5 (not in_flight_is)) (asked_which which a.which_in)
      (ask_holds 5 (not in_flight_is) (ap not (either_neither (is_write w.first id) (is_write w.second id) a.new1 a.new2)))

-- a write with another id, and none
pub other_write : (k id : ℕ) (s : Superblock) → is_write (writing k s) id ≡ false → k ≡ id → ⊥
unfolding is_write
other_write k id s e = eqb-false k id e

pub write_other : (k id : ℕ) (s : Superblock) → (k ≡ id → ⊥) → is_write (writing k s) id ≡ false
unfolding is_write
write_other k id s h = ne_eqb k id h

pub no_write : (id : ℕ) → is_write None id ≡ false
unfolding is_write
no_write id = refl

-- RecvWriteJournal

pub record RecvWriteJournalAsked (g : Geometry) (t : IntervalTable) (id1 : ℕ) (id2 : code.Option ℕ) (v : JournalInterval) : Type 0 where
  pub valid : valid_journal_interval g v ≡ true
  pub new1 : ids_of (take t.count t.ids) id1 ≡ false
  pub new2 : is_new t id2 ≡ true
  pub room : has_room most_journal_writes t.count (rows_for (contiguous_journal_interval g v)) t.ids ≡ true
  pub second : second_fits (contiguous_journal_interval g v) id1 id2 ≡ true

module _ (g : Geometry) (t : IntervalTable) (id1 : ℕ) (id2 : code.Option ℕ) (v : JournalInterval) where
  new_ids : Bool
  new_ids = also (not (ids_of (take t.count t.ids) id1)) (is_new t id2)

  rows_fit : Bool
  rows_fit = has_room most_journal_writes t.count (rows_for (contiguous_journal_interval g v)) t.ids

  second_fits_here : Bool
  second_fits_here = second_fits (contiguous_journal_interval g v) id1 id2

  pub recv_write_journal_asked : ask_recv_write_journal g t id1 id2 v ≡ 0 → RecvWriteJournalAsked g t id1 id2 v
  unfolding ask_recv_write_journal ask_new_ids ask_rows new_ids rows_fit second_fits_here
  recv_write_journal_asked e =
      let k = and_then_right (ask 4 (valid_journal_interval g v)) (and_then (ask 5 new_ids) (and_then (ask 8 rows_fit) (ask 9 second_fits_here))) e in
      let n = ask_yes 5 new_ids (omega arith) (and_then_left (ask 5 new_ids) (and_then (ask 8 rows_fit) (ask 9 second_fits_here)) k) in
      let l = and_then_right (ask 5 new_ids) (and_then (ask 8 rows_fit) (ask 9 second_fits_here)) k in
      record {
        valid =
            ask_yes 4 (valid_journal_interval g v) (omega arith)
            (and_then_left (ask 4 (valid_journal_interval g v)) (and_then (ask 5 new_ids) (and_then (ask 8 rows_fit) (ask 9 second_fits_here))) e);
        new1 = not_true (ids_of (take t.count t.ids) id1) (also_left (not (ids_of (take t.count t.ids) id1)) (is_new t id2) n);
        new2 = also_right (not (ids_of (take t.count t.ids) id1)) (is_new t id2) n;
        room = ask_yes 8 rows_fit (omega arith) (and_then_left (ask 8 rows_fit) (ask 9 second_fits_here) l);
        second = ask_yes 9 second_fits_here (omega arith) (and_then_right (ask 8 rows_fit) (ask 9 second_fits_here) l);
      }

  asks_ids : ids_of (take t.count t.ids) id1 ≡ false → is_new t id2 ≡ true → ask 5 new_ids ≡ 0
  unfolding new_ids
  asks_ids p q = ask_holds 5 new_ids (also_both (not (ids_of (take t.count t.ids) id1)) (is_new t id2) (ap not p) q)

  pub asks_recv_write_journal : RecvWriteJournalAsked g t id1 id2 v → ask_recv_write_journal g t id1 id2 v ≡ 0
  unfolding ask_recv_write_journal ask_new_ids ask_rows new_ids rows_fit second_fits_here
  asks_recv_write_journal a =
      and_then_both (ask 4 (valid_journal_interval g v)) (and_then (ask 5 new_ids) (and_then (ask 8 rows_fit) (ask 9 second_fits_here)))
      (ask_holds 4 (valid_journal_interval g v) a.valid)
      (and_then_both (ask 5 new_ids) (and_then (ask 8 rows_fit) (ask 9 second_fits_here)) (asks_ids a.new1 a.new2)
      (and_then_both (ask 8 rows_fit) (ask 9 second_fits_here) (ask_holds 8 rows_fit a.room) (ask_holds 9 second_fits_here a.second)))

  pub recv_write_journal_full : valid_journal_interval g v ≡ true → ids_of (take t.count t.ids) id1 ≡ false → is_new t id2 ≡ true
      → has_room most_journal_writes t.count (rows_for (contiguous_journal_interval g v)) t.ids ≡ false → ask_recv_write_journal g t id1 id2 v ≡ 8
  unfolding ask_recv_write_journal ask_new_ids ask_rows new_ids rows_fit second_fits_here
  recv_write_journal_full f p q h =
      let full : ask 8 rows_fit ≡ 8 = ask_fails 8 rows_fit h in
      and_then_done (ask 4 (valid_journal_interval g v)) (and_then (ask 5 new_ids) (and_then (ask 8 rows_fit) (ask 9 second_fits_here))) (ask_holds 4 (valid_journal_interval g v) f)
      ∙ and_then_done (ask 5 new_ids) (and_then (ask 8 rows_fit) (ask 9 second_fits_here)) (asks_ids p q)
      ∙ and_then_first (ask 8 rows_fit) (ask 9 second_fits_here) (λ z. let k = sym full ∙ z in omega arith)
      ∙ full

-- a second id that is new
pub second_new : (t : IntervalTable) (id : ℕ) → is_new t (Some id) ≡ true → ids_of (take t.count t.ids) id ≡ false
unfolding is_new
second_new t id e = not_true (ids_of (take t.count t.ids) id) e

pub new_second : (t : IntervalTable) (id : ℕ) → ids_of (take t.count t.ids) id ≡ false → is_new t (Some id) ≡ true
unfolding is_new
new_second t id e = ap not e

pub new_none : (t : IntervalTable) → is_new t None ≡ true
unfolding is_new
new_none t = refl

-- a second id exactly where the write passes the end, and unlike the first
pub straight_one : (id1 : ℕ) (id2 : code.Option ℕ) → second_fits true id1 id2 ≡ true → id2 ≡ None
unfolding second_fits also
straight_one id1 (Some id) e = false_true e
straight_one id1 None e = refl

pub one_straight : (id1 : ℕ) → second_fits true id1 None ≡ true
unfolding second_fits
one_straight id1 = refl

pub wrapped_two : (id1 : ℕ) (id2 : code.Option ℕ) → second_fits false id1 id2 ≡ true → (id : ℕ) × (id2 ≡ Some id) × (id ≡ id1 → ⊥)
unfolding second_fits also
wrapped_two id1 (Some id) e = (id, refl, eqb-false id id1 (not_true (eqb id id1) e))
wrapped_two id1 None e = false_true e

pub two_wrapped : (id1 id : ℕ) → (id ≡ id1 → ⊥) → second_fits false id1 (Some id) ≡ true
unfolding second_fits also
two_wrapped id1 id h = ap not (ne_eqb id id1 h)

-- how many rows
pub rows_straight : rows_for true ≡ 1
unfolding rows_for
rows_straight = refl

pub rows_wrapped : rows_for false ≡ 2
unfolding rows_for
rows_wrapped = refl

-- the rows: the interval, or up to the ring's end and the rest
pub write_straight : (g : Geometry) (t : IntervalTable) (id1 : ℕ) (v : JournalInterval) → write_received g t id1 None v ≡ added_interval t id1 v
unfolding write_received
write_straight g t id1 v = refl

pub write_wrapped : (g : Geometry) (t : IntervalTable) (id1 id : ℕ) (v : JournalInterval) → g.blocks - v.start < v.len
    → write_received g t id1 (Some id) v
    ≡ added_interval (added_interval t id1 (interval v.start (g.blocks - v.start))) id (interval 0 (v.len - (g.blocks - v.start)))
unfolding write_received added_part
write_wrapped g t id1 id v h =
    let p = parts_wrapped g v.start v.len h in
    λ i. added_part (added_part t id1 (optional (p.front_is i))) id (optional (p.back_is i))

-- the reads with one more
pub read_received_is : (r : SuperblockReads) (which id : ℕ) → read_received r which id ≡ put_slot r which (added_id (slot_at r which) id)
unfolding read_received
read_received_is r which id = refl
