-- Every question of a geometry, an interval and a journal has the number of a refusal, so a no's number is its question's. Assumes nothing.
use Rattle.std.specs.Prelude.{ℕ, ◌≤◌, List}
use Rattle.std.proofs.Common.{rules, arith}
use Rattle.refusal.specs.Refusal.{small_ask, small_then}
use Rattle.layout.specs.declared.Geometry.{Geometry}
use Rattle.layout.specs.declared.Location.{Location}
use Rattle.layout.specs.Geometry.{ask_geometry}
use Rattle.layout.specs.Journal.{ask_point, ask_range, ask_circular, ask_journal_location}
use Rattle.interval.specs.declared.JournalInterval.{JournalInterval}
use Rattle.interval.specs.Interval.{ask_interval, ask_intervals, ask_contiguous, ask_in_row, ask_block}
use Rattle.journal.specs.Memory.{ask_blocks, ask_marks, ask_journal, ask_size, ask_readable, ask_slice_bytes, ask_slice_marks, ask_full, ask_update}

-- of a geometry
pub small_geometry : (g : Geometry) → ask_geometry g ≤ 13
unfolding ask_geometry
small_geometry g = search (rules, small_ask)

pub small_point : (g : Geometry) (point : ℕ) → ask_point g point ≤ 13
unfolding ask_point
small_point g point = search (rules, small_then, small_ask, small_geometry)

pub small_range : (g : Geometry) (start len : ℕ) → ask_range g start len ≤ 13
unfolding ask_range
small_range g start len = search (rules, small_then, small_ask, small_geometry)

pub small_circular : (g : Geometry) (start len : ℕ) → ask_circular g start len ≤ 13
unfolding ask_circular
small_circular g start len = search (rules, small_then, small_ask, small_geometry)

pub small_location : (g : Geometry) (loc : Location) → ask_journal_location g loc ≤ 13
unfolding ask_journal_location
small_location g loc = search (rules, small_then, small_ask, small_geometry)

-- of intervals
pub small_interval : (g : Geometry) (v : JournalInterval) → ask_interval g v ≤ 13
unfolding ask_interval
small_interval g v = search (rules, small_then, small_ask, small_geometry)

pub small_intervals : (g : Geometry) (a b : JournalInterval) → ask_intervals g a b ≤ 13
unfolding ask_intervals
small_intervals g a b = search (rules, small_then, small_ask, small_interval)

pub small_contiguous : (g : Geometry) (a b : JournalInterval) → ask_contiguous g a b ≤ 13
unfolding ask_contiguous
small_contiguous g a b = search (rules, small_then, small_ask, small_geometry)

pub small_in_row : (g : Geometry) (a b : JournalInterval) → ask_in_row g a b ≤ 13
unfolding ask_in_row
small_in_row g a b = search (rules, small_then, small_ask, small_intervals)

pub small_block : (g : Geometry) (i : ℕ) (v : JournalInterval) → ask_block g i v ≤ 13
unfolding ask_block
small_block g i v = search (rules, small_then, small_ask, small_interval)

-- of a journal
pub small_blocks : (g : Geometry) (blocks : List ℕ) → ask_blocks g blocks ≤ 13
unfolding ask_blocks
small_blocks g blocks = search (rules, small_then, small_ask, small_geometry)

pub small_marks : (g : Geometry) (marks : List ℕ) → ask_marks g marks ≤ 13
unfolding ask_marks
small_marks g marks = search (rules, small_then, small_ask, small_geometry)

pub small_journal : (g : Geometry) (blocks marks : List ℕ) → ask_journal g blocks marks ≤ 13
unfolding ask_journal
small_journal g blocks marks = search (rules, small_then, small_blocks, small_marks)

pub small_size : (v : JournalInterval) (bytes : List ℕ) → ask_size v bytes ≤ 13
unfolding ask_size
small_size v bytes = search (rules, small_ask)

pub small_readable : (v : JournalInterval) (marks : List ℕ) → ask_readable v marks ≤ 13
unfolding ask_readable
small_readable v marks = search (rules, small_ask)

pub small_slice_bytes : (g : Geometry) (v : JournalInterval) (blocks out : List ℕ) → ask_slice_bytes g v blocks out ≤ 13
unfolding ask_slice_bytes
small_slice_bytes g v blocks out = search (rules, small_then, small_blocks, small_interval)

pub small_slice_marks : (g : Geometry) (v : JournalInterval) (marks out : List ℕ) → ask_slice_marks g v marks out ≤ 13
unfolding ask_slice_marks
small_slice_marks g v marks out = search (rules, small_then, small_ask, small_marks, small_interval)

pub small_full : (g : Geometry) (v : JournalInterval) (marks : List ℕ) → ask_full g v marks ≤ 13
unfolding ask_full
small_full g v marks = search (rules, small_then, small_marks, small_interval)

pub small_update : (g : Geometry) (v : JournalInterval) (new blocks marks : List ℕ) → ask_update g v new blocks marks ≤ 13
unfolding ask_update
small_update g v new blocks marks = search (rules, small_then, small_journal, small_interval, small_size)
