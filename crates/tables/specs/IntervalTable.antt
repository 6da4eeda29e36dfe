-- A table of ids with an interval each (`map<ReqId, JournalInterval>`), and the map that it stands for.
use Rattle.std.specs.Prelude.{ℕ, Bool, ◌≡◌, length, take, replicate}
use Rattle.laws.specs.Fold.{every}
use Rattle.laws.specs.Sets.{Map}
use Rattle.layout.specs.declared.Geometry.{Geometry}
use Rattle.interval.specs.declared.JournalInterval.{JournalInterval}
use Rattle.interval.specs.Interval.{interval, contiguous_journal_interval}
use Rattle.tables.specs.declared.IntervalTable.{IntervalTable}
use Rattle.tables.specs.Rows.{Rows, row_map, added_row, removed_row}

-- the table as rows and back
abbrev pub interval_rows : IntervalTable → Rows JournalInterval
interval_rows t = record { ids = t.ids; values = t.intervals; count = t.count }

abbrev pub interval_table : Rows JournalInterval → IntervalTable
interval_table r = record { ids = r.ids; intervals = r.values; count = r.count }

-- the source's map
abbrev pub interval_map : IntervalTable → Map JournalInterval
interval_map t = row_map (interval_rows t)

abbrev pub no_intervals : IntervalTable
no_intervals = record { ids = replicate 16 0; intervals = replicate 16 (interval 0 0); count = 0 }

-- what the type says and the record doesn't
pub record SizedIntervals (t : IntervalTable) : Type 0 where
  pub ids_long : length t.ids ≡ 16
  pub intervals_long : length t.intervals ≡ 16

-- every interval in use is valid and contiguous
unfoldable pub valid_intervals : Geometry → IntervalTable → Bool
valid_intervals g t = every (contiguous_journal_interval g) (take t.count t.intervals)

-- one more at the end, and the last one in the place of another
unfoldable pub added_interval : IntervalTable → ℕ → JournalInterval → IntervalTable
added_interval t id v = interval_table (added_row (interval_rows t) id v)

unfoldable pub removed_interval : IntervalTable → ℕ → IntervalTable
removed_interval t i = interval_table (removed_row (interval 0 0) (interval_rows t) i)
