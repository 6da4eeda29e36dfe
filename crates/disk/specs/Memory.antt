-- The two operations that touch lent blocks: a journal write, whose new blocks are lent, and a journal read's answer, whose blocks go to a
-- lent buffer.
use Rattle.std.specs.declared.option.Option as code
use Rattle.std.specs.Prelude.{ℕ, ◌/◌, Bool, cond, List, length}
use Rattle.laws.specs.Choice.{and_then}
use Rattle.layout.specs.declared.Geometry.{Geometry}
use Rattle.interval.specs.declared.JournalInterval.{JournalInterval}
use Rattle.interval.specs.Interval.{interval}
use Rattle.journal.specs.Memory.{ask_size, copy_blocks}
use Rattle.tables.specs.declared.IntervalTable.{IntervalTable}
use Rattle.requests.specs.Receive.{ask_recv_write_journal}

-- the blocks that `new` takes from `start` on: a part of a block at its end is a 4
abbrev pub new_interval : ℕ → List ℕ → JournalInterval
new_interval start new = interval start (length new / 4096)

-- questions 4 to 9
unfoldable pub ask_new_blocks : Geometry → IntervalTable → ℕ → code.Option ℕ → JournalInterval → List ℕ → ℕ
ask_new_blocks g t id1 id2 v new = and_then (ask_size v new) (ask_recv_write_journal g t id1 id2 v)

-- the buffer: the interval's blocks at its front where the answer is whole
unfoldable pub read_out : Bool → JournalInterval → List ℕ → List ℕ → List ℕ
read_out whole v blocks out = cond whole (copy_blocks blocks v.start v.len out 0) out
