-- The superblock: document 01's "Superblock", and the definitions of source 000 over it, in its order.
use Rattle.std.specs.Prelude.{ℕ, ◌+◌, Bool, cond, ◌==◌, nat_le, nat_lt}
use Rattle.std.proofs.Math.Option.{Option}
use Rattle.laws.specs.Choice.{also}
use Rattle.layout.specs.declared.Geometry.{Geometry}
use Rattle.layout.specs.Geometry.{num_journal_blocks}
use Rattle.layout.specs.Location.{same_location, valid_indirection_table_location}
use Rattle.interval.specs.declared.JournalInterval.{JournalInterval}
use Rattle.interval.specs.Interval.{journal_front_interval, journal_back_interval}
use Rattle.superblock.specs.declared.Superblock.{Superblock}

-- after the largest 64-bit number comes 0
unfoldable pub increment_superblock_counter : ℕ → ℕ
increment_superblock_counter i =
    cond (i == 18446744073709551615)
    0
    (i + 1)

unfoldable pub increments1 : ℕ → ℕ → Bool
increments1 i j = j == increment_superblock_counter i

-- 1 is the second slot
unfoldable pub select_superblock_index : Superblock → Superblock → ℕ
select_superblock_index superblock1 superblock2 =
    cond (increments1 superblock1.counter superblock2.counter)
    1
    0

unfoldable pub select_superblock : Superblock → Superblock → Superblock
select_superblock superblock1 superblock2 =
    cond (select_superblock_index superblock1 superblock2 == 1)
    superblock2
    superblock1

abbrev pub journal_front_interval_of_superblock : Geometry → Superblock → Option JournalInterval
journal_front_interval_of_superblock g s = journal_front_interval g s.journalStart s.journalLen

abbrev pub journal_back_interval_of_superblock : Geometry → Superblock → Option JournalInterval
journal_back_interval_of_superblock g s = journal_back_interval g s.journalStart s.journalLen

unfoldable pub wf_superblock : Geometry → Superblock → Bool
wf_superblock g s =
    also (nat_lt s.journalStart (num_journal_blocks g))
    (also (nat_le s.journalLen (num_journal_blocks g))
    (valid_indirection_table_location g s.indirectionTableLoc))

-- two superblocks are the same
unfoldable pub same_superblock : Superblock → Superblock → Bool
same_superblock a b =
    also (a.counter == b.counter)
    (also (a.journalStart == b.journalStart)
    (also (a.journalLen == b.journalLen)
    (same_location a.indirectionTableLoc b.indirectionTableLoc)))
