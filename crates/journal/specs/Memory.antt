-- The journal in lent memory: document 01's "Disk" lends N blocks of 4,096 bytes and N marks (1 readable, 0 not). Source 002's slices and
-- updates over it, one for bytes and one for marks, and the questions that they ask.
use Rattle.std.specs.Prelude.{ℕ, ◌*◌, Bool, List, eqb, leb, length, take, drop, replicate}
use Rattle.laws.specs.Choice.{also, ask, and_then}
use Rattle.laws.specs.Fold.{every}
use Rattle.laws.specs.Splice.{clipped}
use Rattle.laws.specs.Around.{around, clipped_around}
use Rattle.layout.specs.declared.Geometry.{Geometry}
use Rattle.layout.specs.Geometry.{num_journal_blocks, ask_geometry}
use Rattle.interval.specs.declared.JournalInterval.{JournalInterval}
use Rattle.interval.specs.Interval.{ask_interval}

-- a mark is 0 or 1, and 1 where the block is readable
unfoldable pub is_mark : ℕ → Bool
is_mark m = leb m 1

unfoldable pub is_one : ℕ → Bool
is_one m = eqb m 1

-- the bytes of an interval's blocks, and its marks
unfoldable pub slice_bytes : List ℕ → JournalInterval → List ℕ
slice_bytes blocks v = around blocks (v.start * 4096) (v.len * 4096)

unfoldable pub slice_marks : List ℕ → JournalInterval → List ℕ
slice_marks marks v = around marks v.start v.len

-- the bytes and the marks after the interval's blocks were written, going round once at most
unfoldable pub update_bytes : List ℕ → JournalInterval → List ℕ → List ℕ
update_bytes blocks v new = clipped_around blocks (v.start * 4096) new

unfoldable pub update_marks : List ℕ → JournalInterval → List ℕ
update_marks marks v = clipped_around marks v.start (replicate v.len 1)

-- `dst` after `count` blocks of `src`, from its block `from` on, were copied to its block `at` and on
unfoldable pub copy_blocks : List ℕ → ℕ → ℕ → List ℕ → ℕ → List ℕ
copy_blocks src from count dst at = clipped dst (at * 4096) (take (count * 4096) (drop (from * 4096) src))

-- every block of the interval is readable
unfoldable pub full_marks : List ℕ → JournalInterval → Bool
full_marks marks v = every is_one (slice_marks marks v)

-- question 1, of the blocks, and of the marks
unfoldable pub ask_blocks : Geometry → List ℕ → ℕ
ask_blocks g blocks = and_then (ask_geometry g) (ask 1 (eqb (length blocks) (num_journal_blocks g * 4096)))

unfoldable pub ask_marks : Geometry → List ℕ → ℕ
ask_marks g marks = and_then (ask_geometry g) (ask 1 (also (eqb (length marks) (num_journal_blocks g)) (every is_mark marks)))

unfoldable pub ask_journal : Geometry → List ℕ → List ℕ → ℕ
ask_journal g blocks marks = and_then (ask_blocks g blocks) (ask_marks g marks)

-- question 4, of bytes that are to be an interval's blocks
unfoldable pub ask_size : JournalInterval → List ℕ → ℕ
ask_size v bytes = ask 4 (eqb (length bytes) (v.len * 4096))

-- question 6, of an interval that is to be read whole
unfoldable pub ask_readable : JournalInterval → List ℕ → ℕ
ask_readable v marks = ask 6 (full_marks marks v)

-- the questions of each function
unfoldable pub ask_slice_bytes : Geometry → JournalInterval → List ℕ → List ℕ → ℕ
ask_slice_bytes g v blocks out = and_then (ask_blocks g blocks) (and_then (ask_blocks g out) (ask_interval g v))

unfoldable pub ask_slice_marks : Geometry → JournalInterval → List ℕ → List ℕ → ℕ
ask_slice_marks g v marks out = and_then (ask_marks g marks) (and_then (ask 1 (eqb (length out) (num_journal_blocks g))) (ask_interval g v))

unfoldable pub ask_full : Geometry → JournalInterval → List ℕ → ℕ
ask_full g v marks = and_then (ask_marks g marks) (ask_interval g v)

unfoldable pub ask_update : Geometry → JournalInterval → List ℕ → List ℕ → List ℕ → ℕ
ask_update g v new blocks marks = and_then (ask_journal g blocks marks) (and_then (ask_interval g v) (ask_size v new))
