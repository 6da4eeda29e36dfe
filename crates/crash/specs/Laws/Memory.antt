-- Blocks and marks after a crash: how the loops come to them, row by row; their lengths; a block of the result as source 002's cell; and that a
-- picture which is the memory itself changes nothing.
use Rattle.std.specs.Prelude.{ℕ, ◌+◌, ◌*◌, ◌/◌, ◌≤◌, ◌<◌, min, Bool, true, false, cond, ◌≡◌, length, drop, get_or}
use Rattle.std.proofs.Math.Path.{sym, ap}
use Rattle.std.proofs.Common.{◌∙◌, arith, take_all}
use mathlib.Core.List.{List}
use Rattle.std.proofs.Math.Option.{none, some}
use Rattle.std.proofs.Math.ListN.{take}
use Rattle.laws.specs.Choice.{either}
use Rattle.laws.specs.Fold.{every}
use Rattle.laws.specs.Part.{take_min}
use Rattle.laws.specs.Splice.{clipped}
use Rattle.interval.specs.declared.JournalInterval.{JournalInterval}
use Rattle.journal.specs.Memory.{is_mark, is_one, copy_blocks}
use Rattle.journal.specs.Cells.{block_at, cell_at, same_block}
use Rattle.tables.specs.declared.IntervalTable.{IntervalTable}
use Rattle.crash.specs.Picture.{in_row, in_rows, covered, picked, crashed_blocks, crashed_marks}
use Rattle.crash.specs.Laws.Picked.{in_run, length_picked, picked_new, picked_old, picked_none, picked_every, picked_same, picked_own, picked_run}
use Rattle.crash.specs.Laws.Rows.{row_run, row_bytes, rows_none, rows_step}

-- A memory after the first i rows, whose place p is of block `at p`: of byte p that is block p / 4096, of mark p block p.
unfoldable pub after_rows : (ℕ → ℕ) → List JournalInterval → ℕ → List ℕ → List ℕ → List ℕ
after_rows at vs i new old = picked (λ p. in_rows (take i vs) (at p)) new old

abbrev pub blocks_after : List JournalInterval → ℕ → List ℕ → List ℕ → List ℕ
blocks_after = after_rows (λ p. p / 4096)

abbrev pub marks_after : List JournalInterval → ℕ → List ℕ → List ℕ → List ℕ
marks_after = after_rows (λ p. p)

module _ (at : ℕ → ℕ) (vs : List JournalInterval) (new old : List ℕ) where
  -- before the first row
  pub rows_start : old ≡ after_rows at vs 0 new old
  unfolding after_rows
  rows_start = sym (picked_none (λ p. in_rows (take 0 vs) (at p)) new old (λ p h. rows_none (at p) vs))

  -- the length stays
  pub rows_length : (i : ℕ) → length (after_rows at vs i new old) ≡ length old
  unfolding after_rows
  rows_length i = length_picked (λ p. in_rows (take i vs) (at p)) new old

  -- one row more, which is a run of places
  row_more : (i : ℕ) (d : JournalInterval) (h : i < length vs) (from n : ℕ) → ((p : ℕ) → in_row (get_or vs i d) (at p) ≡ in_run from n p)
      → (x y : List ℕ) → x ≡ after_rows at vs i new old → y ≡ clipped x from (take n (drop from new)) → y ≡ after_rows at vs (i + 1) new old
  unfolding after_rows
  row_more i d h from n run x y e q =
      q
      ∙ ap (λ (y : List ℕ). clipped y from (take n (drop from new))) e
      ∙ picked_run (λ p. in_rows (take i vs) (at p)) new old from n
      ∙ picked_same (λ p. either (in_run from n p) (in_rows (take i vs) (at p))) (λ p. in_rows (take (i + 1) vs) (at p)) new old
      (λ p l. ap (λ (b : Bool). either b (in_rows (take i vs) (at p))) (sym (run p)) ∙ sym (rows_step (at p) vs i d h))

module _ (vs : List JournalInterval) (new old : List ℕ) (i : ℕ) (d : JournalInterval) (h : i < length vs) (x y : List ℕ) where
  pub blocks_row : x ≡ blocks_after vs i new old → y ≡ copy_blocks new (get_or vs i d).start (get_or vs i d).len x (get_or vs i d).start → y ≡ blocks_after vs (i + 1) new old
  unfolding copy_blocks
  blocks_row e q = row_more (λ p. p / 4096) vs new old i d h ((get_or vs i d).start * 4096) ((get_or vs i d).len * 4096) (row_bytes (get_or vs i d)) x y e q

  pub marks_row : x ≡ marks_after vs i new old → y ≡ clipped x (get_or vs i d).start (take (get_or vs i d).len (drop (get_or vs i d).start new)) → y ≡ marks_after vs (i + 1) new old
  marks_row e q = row_more (λ p. p) vs new old i d h (get_or vs i d).start (get_or vs i d).len (row_run (get_or vs i d)) x y e q

module _ (t : IntervalTable) (new old : List ℕ) where
  -- after the last row: as many as are in use and the array has
  module _ (i size : ℕ) (l : length t.intervals ≡ size) (e : i ≡ min t.count size) where
    rows_end : (at : ℕ → ℕ) → after_rows at t.intervals i new old ≡ picked (λ p. covered t (at p)) new old
    unfolding after_rows covered
    rows_end at = ap (λ (vs : List JournalInterval). picked (λ p. in_rows vs (at p)) new old) (ap (λ (n : ℕ). take n t.intervals) e ∙ take_min t.intervals t.count size l)

    pub blocks_end : blocks_after t.intervals i new old ≡ crashed_blocks t new old
    unfolding crashed_blocks
    blocks_end = rows_end (λ p. p / 4096)

    pub marks_end : marks_after t.intervals i new old ≡ crashed_marks t new old
    unfolding crashed_marks
    marks_end = rows_end (λ p. p)

  -- the same of the rows in use alone
  module _ (n i size : ℕ) (l : length t.intervals ≡ size) (e : n ≡ min t.count size) (k : length (take n t.intervals) ≤ i) where
    taken_rows_end : (at : ℕ → ℕ) → after_rows at (take n t.intervals) i new old ≡ picked (λ p. covered t (at p)) new old
    unfolding after_rows covered
    taken_rows_end at =
        ap (λ (vs : List JournalInterval). picked (λ p. in_rows vs (at p)) new old)
        (take_all i (take n t.intervals) k ∙ ap (λ (m : ℕ). take m t.intervals) e ∙ take_min t.intervals t.count size l)

    pub taken_blocks_end : blocks_after (take n t.intervals) i new old ≡ crashed_blocks t new old
    unfolding crashed_blocks
    taken_blocks_end = taken_rows_end (λ p. p / 4096)

    pub taken_marks_end : marks_after (take n t.intervals) i new old ≡ crashed_marks t new old
    unfolding crashed_marks
    taken_marks_end = taken_rows_end (λ p. p)

  -- lengths stay
  pub length_crashed_blocks : length (crashed_blocks t new old) ≡ length old
  unfolding crashed_blocks
  length_crashed_blocks = length_picked (λ p. covered t (p / 4096)) new old

  pub length_crashed_marks : length (crashed_marks t new old) ≡ length old
  unfolding crashed_marks
  length_crashed_marks = length_picked (covered t) new old

  -- marks of 0 or 1 too
  pub crashed_marks_each : every is_mark new ≡ true → every is_mark old ≡ true → every is_mark (crashed_marks t new old) ≡ true
  unfolding crashed_marks
  crashed_marks_each en eo = picked_every is_mark (covered t) new old en eo

-- a picture that is the memory itself changes nothing
module _ (t : IntervalTable) (old : List ℕ) where
  pub own_blocks : crashed_blocks t old old ≡ old
  unfolding crashed_blocks
  own_blocks = picked_own (λ p. covered t (p / 4096)) old

  pub own_marks : crashed_marks t old old ≡ old
  unfolding crashed_marks
  own_marks = picked_own (covered t) old

-- block i: the picture's where a write covers it, else as it was
module _ (t : IntervalTable) (picture pictured blocks marks : List ℕ) (n : ℕ) (hp : length picture ≡ n * 4096) (hb : length blocks ≡ n * 4096) (i : ℕ) (l : i < n) where
  block_of : (r : ℕ) → r < 4096 → (i * 4096 + r) / 4096 ≡ i
  block_of r h = omega arith

  long : i * 4096 + 4096 ≤ length (crashed_blocks t picture blocks)
  long = omega (arith, length_crashed_blocks t picture blocks)

  pub block_taken : covered t i ≡ true → block_at (crashed_blocks t picture blocks) i ≡ block_at picture i
  unfolding crashed_blocks
  block_taken e =
      same_block (crashed_blocks t picture blocks) picture i i long (omega arith)
      (λ r h. picked_new (λ p. covered t (p / 4096)) picture blocks (i * 4096 + r) (omega arith) (omega arith) (ap (covered t) (block_of r h) ∙ e))

  pub block_kept : covered t i ≡ false → block_at (crashed_blocks t picture blocks) i ≡ block_at blocks i
  unfolding crashed_blocks
  block_kept e =
      same_block (crashed_blocks t picture blocks) blocks i i long (omega arith)
      (λ r h. picked_old (λ p. covered t (p / 4096)) picture blocks (i * 4096 + r) (omega arith) (ap (covered t) (block_of r h) ∙ e))

  module _ (hq : length pictured ≡ n) (hm : length marks ≡ n) where
    mark_taken : covered t i ≡ true → get_or (crashed_marks t pictured marks) i 0 ≡ get_or pictured i 0
    unfolding crashed_marks
    mark_taken e = picked_new (covered t) pictured marks i (omega arith) (omega arith) e

    mark_kept : covered t i ≡ false → get_or (crashed_marks t pictured marks) i 0 ≡ get_or marks i 0
    unfolding crashed_marks
    mark_kept e = picked_old (covered t) pictured marks i (omega arith) e

    pub cell_taken : covered t i ≡ true → cell_at (crashed_blocks t picture blocks) (crashed_marks t pictured marks) i ≡ cell_at picture pictured i
    cell_taken e = λ j. cond (is_one (mark_taken e j)) (some (block_taken e j)) none

    pub cell_kept : covered t i ≡ false → cell_at (crashed_blocks t picture blocks) (crashed_marks t pictured marks) i ≡ cell_at blocks marks i
    cell_kept e = λ j. cond (is_one (mark_kept e j)) (some (block_kept e j)) none
