-- Overlap of intervals, plain and cyclic. An empty interval overlaps nothing (request S-3); of two others overlap is what source 002 says. Its own
-- text stands here too, under names that begin with `source`: there an empty interval strictly inside another overlaps it, but not at block 0
-- of one that wraps, and two that both pass the ring's end always overlap. Others rely on the laws in Meets, not on this text.
use Rattle.std.specs.Prelude.{◌+◌, ◌-◌, Bool, true, cond, ltb}
use Rattle.laws.specs.Choice.{also, either}
use Rattle.layout.specs.declared.Geometry.{Geometry}
use Rattle.layout.specs.Geometry.{num_journal_blocks}
use Rattle.interval.specs.declared.JournalInterval.{JournalInterval}
use Rattle.interval.specs.Interval.{interval}

-- the source's, of two contiguous intervals
unfoldable pub source_interval_overlap : JournalInterval → JournalInterval → Bool
source_interval_overlap a b =
    also (ltb b.start (a.start + a.len))
    (ltb a.start (b.start + b.len))

-- the parts of an interval that passes the end, and whether one of them overlaps a contiguous interval
abbrev pub up_to_end : Geometry → JournalInterval → JournalInterval
up_to_end g a = interval a.start (num_journal_blocks g - a.start)

abbrev pub from_zero : Geometry → JournalInterval → JournalInterval
from_zero g a = interval 0 (a.len - (num_journal_blocks g - a.start))

unfoldable pub source_overlap_parts : Geometry → JournalInterval → JournalInterval → Bool
source_overlap_parts g a b =
    either (source_interval_overlap (up_to_end g a) b)
    (source_interval_overlap (from_zero g a) b)

-- the source's, of two valid intervals
unfoldable pub source_cyclic_interval_overlap : Geometry → JournalInterval → JournalInterval → Bool
source_cyclic_interval_overlap g a b =
    cond (ltb (num_journal_blocks g) (a.start + a.len))
    (cond (ltb (num_journal_blocks g) (b.start + b.len))
    true
    (source_overlap_parts g a b))
    (cond (ltb (num_journal_blocks g) (b.start + b.len))
    (source_overlap_parts g b a)
    (source_interval_overlap a b))

-- the guard before both: neither is empty
abbrev pub neither_empty : JournalInterval → JournalInterval → Bool
neither_empty a b =
    also (ltb 0 a.len)
    (ltb 0 b.len)

unfoldable pub journal_interval_overlap : JournalInterval → JournalInterval → Bool
journal_interval_overlap a b =
    also (neither_empty a b)
    (source_interval_overlap a b)

unfoldable pub journal_cyclic_interval_overlap : Geometry → JournalInterval → JournalInterval → Bool
journal_cyclic_interval_overlap g a b =
    also (neither_empty a b)
    (source_cyclic_interval_overlap g a b)
