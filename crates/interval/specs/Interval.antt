-- Intervals: the definitions of source 002 over a start and a len in blocks, in its order. What is ghost there is a number here; "at
-- least 0" is met by the type.
use Rattle.std.specs.Prelude.{ℕ, ◌+◌, ◌-◌, ◌/◌, Bool, cond, leb, ltb, eqb}
use Rattle.std.proofs.Math.Option.{Option, none, some}
use Rattle.laws.specs.Choice.{also, either, ask, and_then}
use Rattle.layout.specs.declared.Geometry.{Geometry}
use Rattle.layout.specs.declared.Location.{Location}
use Rattle.layout.specs.Geometry.{num_journal_blocks, journal_start_addr, ask_geometry}
use Rattle.interval.specs.declared.JournalInterval.{JournalInterval}

abbrev pub interval : ℕ → ℕ → JournalInterval
interval start len = record { start = start; len = len }

unfoldable pub valid_journal_interval : Geometry → JournalInterval → Bool
valid_journal_interval g v =
    also (ltb v.start (num_journal_blocks g))
    (leb v.len (num_journal_blocks g))

unfoldable pub contiguous_journal_interval : Geometry → JournalInterval → Bool
contiguous_journal_interval g v =
    also (valid_journal_interval g v)
    (leb (v.start + v.len) (num_journal_blocks g))

-- block i lies in the interval, or does once round
unfoldable pub in_cyclic_range : Geometry → ℕ → JournalInterval → Bool
in_cyclic_range g i v =
    either
    (also (leb v.start i) (ltb i (v.start + v.len)))
    (also (leb v.start (i + num_journal_blocks g)) (ltb (i + num_journal_blocks g) (v.start + v.len)))

unfoldable pub journal_front_interval : Geometry → ℕ → ℕ → Option JournalInterval
journal_front_interval g start len =
    cond (eqb len 0)
    none
    (some (interval start (cond (leb len (num_journal_blocks g - start)) len (num_journal_blocks g - start))))

unfoldable pub journal_back_interval : Geometry → ℕ → ℕ → Option JournalInterval
journal_back_interval g start len =
    cond (eqb len 0)
    none
    (cond (leb len (num_journal_blocks g - start))
    none
    (some (interval 0 (len - (num_journal_blocks g - start)))))

unfoldable pub subinterval : Geometry → JournalInterval → JournalInterval → Bool
subinterval g a b =
    either
    (also (leb b.start a.start) (leb (a.start + a.len) (b.start + b.len)))
    (also (leb b.start (a.start + num_journal_blocks g)) (leb (a.start + num_journal_blocks g + a.len) (b.start + b.len)))

unfoldable pub next_start_point : Geometry → JournalInterval → ℕ
next_start_point g v =
    cond (ltb (v.start + v.len) (num_journal_blocks g))
    (v.start + v.len)
    (v.start + v.len - num_journal_blocks g)

-- where b begins at the point after a
abbrev pub concat_intervals : JournalInterval → JournalInterval → JournalInterval
concat_intervals a b = interval a.start (a.len + b.len)

-- of a valid journal location
abbrev pub journal_interval_of_location : Location → JournalInterval
journal_interval_of_location loc = interval ((loc.addr - journal_start_addr) / 4096) (loc.len / 4096)

-- questions 1 and 4, of one interval, of two, of two contiguous ones, of two in a row, and of a block and an interval
unfoldable pub ask_interval : Geometry → JournalInterval → ℕ
ask_interval g v = and_then (ask_geometry g) (ask 4 (valid_journal_interval g v))

unfoldable pub ask_intervals : Geometry → JournalInterval → JournalInterval → ℕ
ask_intervals g a b = and_then (ask_interval g a) (ask 4 (valid_journal_interval g b))

unfoldable pub ask_contiguous : Geometry → JournalInterval → JournalInterval → ℕ
ask_contiguous g a b = and_then (ask_geometry g) (ask 4 (also (contiguous_journal_interval g a) (contiguous_journal_interval g b)))

unfoldable pub ask_in_row : Geometry → JournalInterval → JournalInterval → ℕ
ask_in_row g a b = and_then (ask_intervals g a b) (ask 4 (eqb (next_start_point g a) b.start))

unfoldable pub ask_block : Geometry → ℕ → JournalInterval → ℕ
ask_block g i v = and_then (ask_interval g v) (ask 4 (ltb i (num_journal_blocks g)))
