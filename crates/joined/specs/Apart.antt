-- The slots, and journal writes in flight: both slots hold a well-formed superblock; the rows in use overlap neither each other nor the
-- interval of the superblock that is selected.
use Rattle.std.specs.Prelude.{None, Some}
use Rattle.std.specs.declared.option.Option as code
use Rattle.std.specs.Prelude.{Bool, true, false, not, List, [], ◌∷◌, take}
use Rattle.laws.specs.Choice.{also}
use Rattle.laws.specs.Fold.{every}
use Rattle.layout.specs.declared.Geometry.{Geometry}
use Rattle.interval.specs.declared.JournalInterval.{JournalInterval}
use Rattle.interval.specs.Interval.{interval}
use Rattle.interval.specs.Overlap.{journal_interval_overlap, journal_cyclic_interval_overlap}
use Rattle.superblock.specs.declared.Superblock.{Superblock}
use Rattle.superblock.specs.Superblock.{select_superblock, wf_superblock}
use Rattle.tables.specs.declared.IntervalTable.{IntervalTable}
use Rattle.requests.specs.Slots.{Slots}

-- both slots
abbrev pub slot_wf : Geometry → code.Option Superblock → Bool
slot_wf g (Some s) = wf_superblock g s
slot_wf g None = false

unfoldable pub slots_wf : Geometry → Slots → Bool
slots_wf g s =
    also (slot_wf g s.first)
    (slot_wf g s.second)

-- each other
abbrev pub apart_from : JournalInterval → JournalInterval → Bool
apart_from v w = not (journal_interval_overlap v w)

unfoldable pub apart : List JournalInterval → Bool
apart [] = true
apart (v ∷ vs) =
    also (every (apart_from v) vs)
    (apart vs)

unfoldable pub writes_apart : IntervalTable → Bool
writes_apart t = apart (take t.count t.intervals)

-- the selected interval; where a slot holds nothing, none is selected
abbrev pub clear_of : Geometry → JournalInterval → JournalInterval → Bool
clear_of g v w = not (journal_cyclic_interval_overlap g w v)

unfoldable pub rows_clear : Geometry → JournalInterval → IntervalTable → Bool
rows_clear g v t = every (clear_of g v) (take t.count t.intervals)

abbrev pub selected_interval : Superblock → Superblock → JournalInterval
selected_interval superblock1 superblock2 = interval (select_superblock superblock1 superblock2).journalStart (select_superblock superblock1 superblock2).journalLen

abbrev pub clear_by : Geometry → code.Option Superblock → code.Option Superblock → IntervalTable → Bool
clear_by g (Some s1) (Some s2) t = rows_clear g (selected_interval s1 s2) t
clear_by g (Some s1) None t = false
clear_by g None second t = false

unfoldable pub writes_clear : Geometry → Slots → IntervalTable → Bool
writes_clear g s t = clear_by g s.first s.second t
