-- The front and the back of an interval as two numbers: the first block and how many there are, 0 and 0 where there is no such part.
use Rattle.std.specs.Prelude.{ℕ, None, Some}
use Rattle.std.specs.declared.option.Option as code
use Rattle.laws.specs.Optional.{optional}
use Rattle.interval.specs.declared.JournalInterval.{JournalInterval}
use Rattle.interval.specs.Interval.{journal_front_interval, journal_back_interval}
use Rattle.linked.specs.Numbers.{geometry_of}

unfoldable pub first_of : code.Option JournalInterval → ℕ
first_of (Some v) = v.start
first_of None = 0

unfoldable pub blocks_of : code.Option JournalInterval → ℕ
blocks_of (Some v) = v.len
blocks_of None = 0

-- the part up to the ring's end, and the part from block 0 on
abbrev pub front_of : (n t start len : ℕ) → code.Option JournalInterval
front_of n t start len = optional (journal_front_interval (geometry_of n t) start len)

abbrev pub back_of : (n t start len : ℕ) → code.Option JournalInterval
back_of n t start len = optional (journal_back_interval (geometry_of n t) start len)
