-- What a yes to the questions tells, of the lent blocks and marks and of each function's arguments: the facts, as records.
use Rattle.std.specs.Prelude.{ℕ, ◌*◌, true, ◌≡◌, List, length}
use Rattle.std.proofs.Common.{arith, eqb-true, eq-eqb}
use Rattle.laws.specs.Choice.{ask_yes, ask_holds, and_then_left, and_then_right, and_then_both, also_left, also_right, also_both}
use Rattle.laws.specs.Fold.{every}
use Rattle.layout.specs.declared.Geometry.{Geometry}
use Rattle.layout.specs.Geometry.{ValidGeometry, geometry_asked, asked_geometry}
use Rattle.interval.specs.declared.JournalInterval.{JournalInterval}
use Rattle.interval.specs.Facts.{ValidJournalInterval, interval_asked}
use Rattle.journal.specs.Memory.{is_mark, full_marks, ask_blocks, ask_marks, ask_journal, ask_size, ask_readable, ask_slice_bytes, ask_slice_marks, ask_update}

pub record Blocks (g : Geometry) (blocks : List ℕ) : Type 0 where
  pub geometry : ValidGeometry g
  pub size : length blocks ≡ g.blocks * 4096

pub blocks_asked : (g : Geometry) (blocks : List ℕ) → ask_blocks g blocks ≡ 0 → Blocks g blocks
unfolding ask_blocks
blocks_asked g blocks e =
    record {
      geometry = geometry_asked g (and_then_left _ _ e);
      size = eqb-true (length blocks) (g.blocks * 4096) (ask_yes 1 _ (omega arith) (and_then_right _ _ e));
    }

pub asked_blocks : (g : Geometry) (blocks : List ℕ) → Blocks g blocks → ask_blocks g blocks ≡ 0
unfolding ask_blocks
asked_blocks g blocks b = and_then_both _ _ (asked_geometry g b.geometry) (ask_holds 1 _ (eq-eqb (length blocks) (g.blocks * 4096) b.size))

pub record Marks (g : Geometry) (marks : List ℕ) : Type 0 where
  pub geometry : ValidGeometry g
  pub size : length marks ≡ g.blocks
  pub each : every is_mark marks ≡ true

pub marks_asked : (g : Geometry) (marks : List ℕ) → ask_marks g marks ≡ 0 → Marks g marks
unfolding ask_marks
marks_asked g marks e =
    let t = ask_yes 1 _ (omega arith) (and_then_right _ _ e) in
    record {
      geometry = geometry_asked g (and_then_left _ _ e);
      size = eqb-true (length marks) g.blocks (also_left _ _ t);
      each = also_right _ _ t;
    }

pub asked_marks : (g : Geometry) (marks : List ℕ) → Marks g marks → ask_marks g marks ≡ 0
unfolding ask_marks
asked_marks g marks m =
    and_then_both _ _ (asked_geometry g m.geometry) (ask_holds 1 _ (also_both _ _ (eq-eqb (length marks) g.blocks m.size) m.each))

-- the journal: both
module _ (g : Geometry) (blocks marks : List ℕ) where
  pub journal_blocks : ask_journal g blocks marks ≡ 0 → Blocks g blocks
  unfolding ask_journal
  journal_blocks e = blocks_asked g blocks (and_then_left _ _ e)

  pub journal_marks : ask_journal g blocks marks ≡ 0 → Marks g marks
  unfolding ask_journal
  journal_marks e = marks_asked g marks (and_then_right _ _ e)

  pub asked_journal : Blocks g blocks → Marks g marks → ask_journal g blocks marks ≡ 0
  unfolding ask_journal
  asked_journal b m = and_then_both _ _ (asked_blocks g blocks b) (asked_marks g marks m)

-- new blocks of their size, and blocks that are all readable
pub size_asked : (v : JournalInterval) (bytes : List ℕ) → ask_size v bytes ≡ 0 → length bytes ≡ v.len * 4096
unfolding ask_size
size_asked v bytes e = eqb-true (length bytes) (v.len * 4096) (ask_yes 4 _ (omega arith) e)

pub asked_size : (v : JournalInterval) (bytes : List ℕ) → length bytes ≡ v.len * 4096 → ask_size v bytes ≡ 0
unfolding ask_size
asked_size v bytes h = ask_holds 4 _ (eq-eqb (length bytes) (v.len * 4096) h)

pub readable_asked : (v : JournalInterval) (marks : List ℕ) → ask_readable v marks ≡ 0 → full_marks marks v ≡ true
unfolding ask_readable
readable_asked v marks e = ask_yes 6 (full_marks marks v) (omega arith) e

pub asked_readable : (v : JournalInterval) (marks : List ℕ) → full_marks marks v ≡ true → ask_readable v marks ≡ 0
unfolding ask_readable
asked_readable v marks h = ask_holds 6 (full_marks marks v) h

pub record SliceBytes (g : Geometry) (v : JournalInterval) (blocks out : List ℕ) : Type 0 where
  pub from : Blocks g blocks
  pub to : length out ≡ g.blocks * 4096
  pub valid : ValidJournalInterval g v

pub slice_bytes_asked : (g : Geometry) (v : JournalInterval) (blocks out : List ℕ) → ask_slice_bytes g v blocks out ≡ 0 → SliceBytes g v blocks out
unfolding ask_slice_bytes
slice_bytes_asked g v blocks out e =
    let r = and_then_right _ _ e in
    record {
      from = blocks_asked g blocks (and_then_left _ _ e);
      to = (blocks_asked g out (and_then_left _ _ r)).size;
      valid = (interval_asked g v (and_then_right _ _ r)).valid;
    }

pub record SliceMarks (g : Geometry) (v : JournalInterval) (marks out : List ℕ) : Type 0 where
  pub from : Marks g marks
  pub to : length out ≡ g.blocks
  pub valid : ValidJournalInterval g v

pub slice_marks_asked : (g : Geometry) (v : JournalInterval) (marks out : List ℕ) → ask_slice_marks g v marks out ≡ 0 → SliceMarks g v marks out
unfolding ask_slice_marks
slice_marks_asked g v marks out e =
    let r = and_then_right _ _ e in
    record {
      from = marks_asked g marks (and_then_left _ _ e);
      to = eqb-true (length out) g.blocks (ask_yes 1 _ (omega arith) (and_then_left _ _ r));
      valid = (interval_asked g v (and_then_right _ _ r)).valid;
    }

pub record Update (g : Geometry) (v : JournalInterval) (new blocks marks : List ℕ) : Type 0 where
  pub blocks_size : Blocks g blocks
  pub marks_size : Marks g marks
  pub valid : ValidJournalInterval g v
  pub new_size : length new ≡ v.len * 4096

pub update_asked : (g : Geometry) (v : JournalInterval) (new blocks marks : List ℕ) → ask_update g v new blocks marks ≡ 0 → Update g v new blocks marks
unfolding ask_update ask_journal ask_size
update_asked g v new blocks marks e =
    let j = and_then_left _ _ e in
    let r = and_then_right _ _ e in
    record {
      blocks_size = blocks_asked g blocks (and_then_left _ _ j);
      marks_size = marks_asked g marks (and_then_right _ _ j);
      valid = (interval_asked g v (and_then_left _ _ r)).valid;
      new_size = eqb-true (length new) (v.len * 4096) (ask_yes 4 _ (omega arith) (and_then_right _ _ r));
    }
