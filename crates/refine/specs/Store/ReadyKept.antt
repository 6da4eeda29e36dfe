-- A step of a machine at work that is taken keeps the form of its record and of the memory beside it.
use Rattle.std.specs.Prelude.{ℕ, ◌+◌, ◌-◌, ◌≤◌, Bool, cond, ◌≡◌, refl, List, eqb, length, take, drop, None, Some}
use Rattle.std.specs.declared.option.Option as code
use Rattle.std.proofs.Math.Bool.{true, false}
use Rattle.std.proofs.Common.{sym, ◌∙◌, ap, arith, length-take-le, drop-drop}
use Rattle.laws.specs.Choice.{and_then_left, and_then_right}
use Rattle.laws.specs.Fold.{sum}
use Rattle.laws.specs.Part.{length_part}
use Rattle.laws.specs.Cut.{flat, lengths, length_flat, length_lengths}
use Rattle.laws.specs.Splice.{splice, length_splice}
use Rattle.layout.specs.declared.Location.{Location}
use Rattle.superblock.specs.declared.Superblock.{Superblock}
use Rattle.tables.specs.declared.IdTable.{IdTable}
use Rattle.tables.specs.Rows.{place_of, Counted}
use Rattle.tables.specs.IdTable.{SizedIds, no_ids, joined_id, removed_id}
use Rattle.tables.proofs.Laws.Counts.{counted_none}
use Rattle.tables.proofs.Laws.IdTables.{ids_joined_ok, ids_removed_ok}
use Rattle.range.specs.Form.{Entry}
use Rattle.range.specs.Memory.{total, total_write, total_split}
use Rattle.range.specs.declared.Count.{Count}
use Rattle.ready.specs.declared.Commit.{Commit}
use Rattle.ready.specs.declared.Commit.TheVariants as commit
use Rattle.ready.specs.declared.Bodies.{Bodies}
use Rattle.ready.specs.declared.Entries.{Entries}
use Rattle.ready.specs.declared.Ready.{Ready}
use Rattle.ready.specs.State.{count, counts, commit_slot, sent, left, loaded}
use Rattle.ready.specs.JournalSteps.{ask_ids, joined_ids, written_entries, write_back_journal_req_next, write_back_journal_resp_next}
use Rattle.ready.specs.CommitSteps.{log_committed, location_committed, answered, write_back_superblock_resp_next}
use Rattle.ready.specs.FreezeSteps.{freeze_next, receive_frozen_loc_next}
use Rattle.ready.specs.EntrySteps.{advance_next, replay_next}
use Rattle.refine.specs.Disk.View.{Table}
use Rattle.refine.specs.Disk.Meets.{table_of, counted_by_is}
use Rattle.refine.specs.Machine.ReadyView.{ReadyLent}
use Rattle.refine.specs.Machine.ReadyForm.{PendingForm, ReplayForm, Given, ReadyForm}
use Rattle.refine.specs.Machine.ReadyJournal.{moved_lent}
use Rattle.refine.specs.Machine.ReadyAdvance.{appended_lent}
use Rattle.refine.specs.Store.Lengths.{moved_long}

-- The table of journal writes

-- its array has as many places as may be
pub table_counted : (t : IdTable) → SizedIds t → Table t.count t.ids → Counted 16 t.count t.ids
table_counted t z f = counted_by_is 16 t.count t.ids f (omega (arith, f.in_array, z.ids_long))

joined_table : (t : IdTable) (id1 : ℕ) (id2 : code.Option ℕ) → SizedIds t → Table t.count t.ids → ask_ids t id1 id2 ≡ 0 → Table (joined_ids t id1 id2).count (joined_ids t id1 id2).ids
unfolding ask_ids
joined_table t id1 None z f q = table_of 16 _ _ (ids_joined_ok t 16 (table_counted t z f) id1 (and_then_left _ _ q))
joined_table t id1 (Some id2) z f q =
    table_of 16 _ _
    (ids_joined_ok (joined_id t id1) 16 (ids_joined_ok t 16 (table_counted t z f) id1 (and_then_left _ _ q)) id2 (and_then_right _ _ q))

removed_table : (t : IdTable) (i : ℕ) → SizedIds t → Table t.count t.ids → Table (removed_id t i).count (removed_id t i).ids
removed_table t i z f = table_of 16 _ _ (ids_removed_ok t 16 (table_counted t z f) i)

-- Pending memory, with what is left moved to its front

total_none : (lens : List ℕ) → total lens 0 ≡ 0
unfolding sum
total_none lens = refl

total_front_write : (lens ms : List ℕ) (n : ℕ) → n ≡ length ms → total (splice lens 0 ms) n ≡ sum ms
total_front_write lens ms n e =
    let k : n ≡ 0 + length ms = omega (arith, e) in
    let s = total_write lens ms 0 (omega arith) in
    let none = total_none lens in
    ap (total (splice lens 0 ms)) k ∙ omega (arith, s, none)

abbrev gone : Entries → Bodies → Bool → Count
gone e b c = cond {A = Count} c (count e.pending b.pending) (count e.frozen b.frozen)

moved_pending : (l : ReadyLent) (e : Entries) (b : Bodies) → PendingForm l e → PendingForm (moved_lent l (sent e b) (left e b)) (written_entries e)
unfolding sent left written_entries
moved_pending l e b p = go (eqb e.frozen 0)
  where
    go : (c : Bool)
        → PendingForm (moved_lent l (gone e b c) (count (e.pending - (gone e b c).entries) (b.pending - (gone e b c).bytes)))
        (counts (cond {A = ℕ} c 0 (e.pending - e.frozen)) 0 e.replay e.taken)
    go true = record { frozen_within = omega arith; there = omega arith; fit = omega (arith, total_none (moved_lent l (gone e b true) (count (e.pending - e.pending) (b.pending - b.pending))).lens) }
    go false =
        let ms : List ℕ = take (e.pending - e.frozen) (drop e.frozen l.lens) in
        let long : length ms ≡ e.pending - e.frozen = length_part l.lens e.frozen (e.pending - e.frozen) (omega (arith, p.frozen_within, p.there)) in
        let whole : e.frozen + (e.pending - e.frozen) ≡ e.pending = omega (arith, p.frozen_within) in
        let split = total_split l.lens e.pending e.frozen (e.pending - e.frozen) whole in
        record {
          frozen_within = omega arith;
          there = omega (arith, moved_long l.lens (e.pending - e.frozen) e.frozen, p.there);
          fit =
              omega (
                arith,
                total_front_write l.lens ms (e.pending - e.frozen) (sym long),
                split,
                p.fit,
                moved_long l.bytes (b.pending - b.frozen) b.frozen,
              );
        }

-- with new entries behind

appended_pending : (l : ReadyLent) (e : Entries) (brought sizes : List ℕ) (k : ℕ) → PendingForm l e → Given brought sizes k → e.pending + k ≤ length l.lens
    → total l.lens e.pending + total sizes k ≤ length l.bytes
    → PendingForm (appended_lent l e.pending (total l.lens e.pending) brought sizes k) (counts (e.pending + k) e.frozen e.replay e.taken)
appended_pending l e brought sizes k p given few small =
    let long = length-take-le k sizes given.there in
    let many = length-take-le (total sizes k) brought given.fit in
    let lens = length_splice l.lens e.pending (take k sizes) (omega (arith, few, long)) in
    let bytes = length_splice l.bytes (total l.lens e.pending) (take (total sizes k) brought) (omega (arith, small, many)) in
    let sums = ap (λ (n : ℕ). total (splice l.lens e.pending (take k sizes)) (e.pending + n)) (sym long) ∙ total_write l.lens (take k sizes) e.pending p.there in
    record {
      frozen_within = omega (arith, p.frozen_within);
      there = omega (arith, lens, few);
      fit = omega (arith, bytes, small, sums);
    }

-- Replay memory, with more of it taken, and newly filled

taken_replay : (l : ReadyLent) (e : Entries) (k t : ℕ) → ReplayForm l e → k ≤ e.replay - e.taken.entries → t ≡ total (drop e.taken.entries l.rlens) k
    → ReplayForm l (counts e.pending e.frozen e.replay (count (e.taken.entries + k) (e.taken.bytes + t)))
taken_replay l e k t f h s =
    let rest : ℕ = e.replay - e.taken.entries - k in
    let fewer : e.replay - (e.taken.entries + k) ≡ rest = omega arith in
    let whole : k + rest ≡ e.replay - e.taken.entries = omega arith in
    let split = total_split (drop e.taken.entries l.rlens) (e.replay - e.taken.entries) k rest whole in
    let same : total (drop (e.taken.entries + k) l.rlens) (e.replay - (e.taken.entries + k)) ≡ total (drop k (drop e.taken.entries l.rlens)) rest =
    (λ i. total (sym (drop-drop k e.taken.entries l.rlens) i) (fewer i)) in
    record {
      taken_within = omega (arith, h, f.taken_within);
      there = f.there;
      fit = omega (arith, f.fit, split, same, s);
    }

filled_replay : (l : ReadyLent) (es : List Entry) → sum (lengths es) ≤ length l.rbytes → length es ≤ length l.rlens
    → ReplayForm (record { bytes = l.bytes; lens = l.lens; rbytes = splice l.rbytes 0 (flat es); rlens = splice l.rlens 0 (lengths es) }) (counts 0 0 (length es) (count 0 0))
filled_replay l es room places =
    let bytes = length_splice l.rbytes 0 (flat es) (omega (arith, length_flat es, room)) in
    let lens = length_splice l.rlens 0 (lengths es) (omega (arith, length_lengths es, places)) in
    let all : length es - 0 ≡ length (lengths es) = omega (arith, length_lengths es) in
    record {
      taken_within = omega arith;
      there = omega (arith, lens, places);
      fit = omega (arith, bytes, room, total_front_write l.rlens (lengths es) (length es - 0) all);
    }

-- The steps

module _ (l : ReadyLent) (r : Ready) (f : ReadyForm l r) where
  pub write_form : SizedIds r.writes → (id1 : ℕ) (id2 : code.Option ℕ) (b : Bodies) (written : ℕ) → ask_ids r.writes id1 id2 ≡ 0
      → ReadyForm (moved_lent l (sent r.entries b) (left r.entries b)) (write_back_journal_req_next r id1 id2 written)
  unfolding write_back_journal_req_next written_entries
  write_form z id1 id2 b written q =
      record {
        which_in = f.which_in;
        pending = moved_pending l r.entries b f.pending;
        replay = record { taken_within = f.replay.taken_within; there = f.replay.there; fit = f.replay.fit };
        writes = joined_table r.writes id1 id2 z f.writes q;
      }

  pub written_form : SizedIds r.writes → (id : ℕ) → ReadyForm l (write_back_journal_resp_next r id)
  unfolding write_back_journal_resp_next
  written_form z id =
      record {
        which_in = f.which_in;
        pending = f.pending;
        replay = f.replay;
        writes = removed_table r.writes (place_of id (take r.writes.count r.writes.ids)) z f.writes;
      }

  commit_slot_is : commit_slot r ≤ 1
  commit_slot_is = go (eqb r.whichSuperblock 0)
    where
      go : (c : Bool) → cond {A = ℕ} c 1 0 ≤ 1
      go true = omega arith
      go false = omega arith

  pub committed_form : (id : ℕ) → ReadyForm l (write_back_superblock_resp_next r id)
  unfolding write_back_superblock_resp_next log_committed location_committed
  committed_form id = go r.commit
    where
      by_log : (c : Bool) (new : Superblock) → ReadyForm l (cond {A = Ready} c (log_committed r new) r)
      by_log true new = record { which_in = commit_slot_is; pending = f.pending; replay = f.replay; writes = f.writes }
      by_log false new = f

      by_location : (c : Bool) (new : Superblock) → ReadyForm l (cond {A = Ready} c (location_committed r new) r)
      by_location true new = record { which_in = commit_slot_is; pending = f.pending; replay = f.replay; writes = f.writes }
      by_location false new = f

      go : (c : Commit) → ReadyForm l (answered r id c)
      go commit.CommitNone = f
      go (commit.CommitAdvanceLog k new) = by_log (eqb k id) new
      go (commit.CommitAdvanceLocation k new) = by_location (eqb k id) new

  pub freeze_form : ReadyForm l (freeze_next r)
  unfolding freeze_next
  freeze_form =
      record {
        which_in = f.which_in;
        pending = record { frozen_within = omega arith; there = f.pending.there; fit = f.pending.fit };
        replay = record { taken_within = f.replay.taken_within; there = f.replay.there; fit = f.replay.fit };
        writes = f.writes;
      }

  pub receive_form : (loc : Location) → ReadyForm l (receive_frozen_loc_next r loc)
  unfolding receive_frozen_loc_next
  receive_form loc = record { which_in = f.which_in; pending = f.pending; replay = f.replay; writes = f.writes }

  pub advance_form : (brought sizes : List ℕ) (k : ℕ) → Given brought sizes k → r.entries.pending + k ≤ length l.lens
      → total l.lens r.entries.pending + total sizes k ≤ length l.bytes
      → ReadyForm (appended_lent l r.entries.pending (total l.lens r.entries.pending) brought sizes k) (advance_next r (r.entries.pending + k))
  unfolding advance_next
  advance_form brought sizes k given few small =
      record {
        which_in = f.which_in;
        pending = appended_pending l r.entries brought sizes k f.pending given few small;
        replay = record { taken_within = f.replay.taken_within; there = f.replay.there; fit = f.replay.fit };
        writes = f.writes;
      }

  pub replay_form : (k t : ℕ) → k ≤ r.entries.replay - r.entries.taken.entries → t ≡ total (drop r.entries.taken.entries l.rlens) k
      → ReadyForm l (replay_next r (count (r.entries.taken.entries + k) (r.entries.taken.bytes + t)))
  unfolding replay_next
  replay_form k t h s =
      record {
        which_in = f.which_in;
        pending = record { frozen_within = f.pending.frozen_within; there = f.pending.there; fit = f.pending.fit };
        replay = taken_replay l r.entries k t f.replay h s;
        writes = f.writes;
      }

-- newly loaded
no_writes : Table no_ids.count no_ids.ids
no_writes = table_of 16 _ _ (counted_none 16 no_ids.ids)

pub loaded_form : (l : ReadyLent) (superblock : Superblock) (which : ℕ) (es : List Entry) → which ≤ 1 → sum (lengths es) ≤ length l.rbytes → length es ≤ length l.rlens
    → ReadyForm (record { bytes = l.bytes; lens = l.lens; rbytes = splice l.rbytes 0 (flat es); rlens = splice l.rlens 0 (lengths es) }) (loaded superblock which (length es))
unfolding loaded
loaded_form l superblock which es w room places =
    record {
      which_in = w;
      pending = record { frozen_within = omega arith; there = omega arith; fit = omega (arith, total_none l.lens) };
      replay = filled_replay l es room places;
      writes = no_writes;
    }
