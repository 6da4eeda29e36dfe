-- A machine at work, from 16 numbers that a caller keeps: no commit in flight, no location received, no outstanding journal write, no sync
-- request. And question 1 of the numbers: all 16 are lent.
use Rattle.std.specs.Prelude.{ℕ, List, length, get_or, eqb, None}
use Rattle.laws.specs.Choice.{ask}
use Rattle.layout.specs.declared.Geometry.{Geometry}
use Rattle.superblock.specs.declared.Superblock.{Superblock}
use Rattle.tables.specs.IdTable.{no_ids}
use Rattle.ready.specs.declared.Commit.TheVariants.{CommitNone}
use Rattle.ready.specs.declared.Frozen.{Frozen}
use Rattle.ready.specs.declared.Entries.{Entries}
use Rattle.ready.specs.declared.Ready.{Ready}
use Rattle.machine.specs.declared.Machine.{Machine}
use Rattle.machine.specs.Machine.{to_ready, initial_machine}
use Rattle.linked.specs.Numbers.{geometry_of, counts}

abbrev pub ask_numbers : List ℕ → ℕ
ask_numbers xs = ask 1 (eqb (length xs) 16)

-- 0 and 1: N and T
abbrev pub geometry_at : List ℕ → Geometry
geometry_at xs = geometry_of (get_or xs 0 0) (get_or xs 1 0)

-- 2 to 6: counter, start, len, table address and length
abbrev pub superblock_at : List ℕ → Superblock
superblock_at xs =
    record {
      counter = get_or xs 2 0;
      journalStart = get_or xs 3 0;
      journalLen = get_or xs 4 0;
      indirectionTableLoc = record { addr = get_or xs 5 0; len = get_or xs 6 0 };
    }

-- 9 and 10: 1 where it is frozen, and up to which position
abbrev pub frozen_at : List ℕ → Frozen
frozen_at xs = record { isFrozen = eqb (get_or xs 9 0) 1; frozenJournalPosition = get_or xs 10 0; frozenLoc = None }

-- 11 to 15: entries pending, frozen, of the replay; of the replay taken, and their bytes
abbrev pub entries_at : List ℕ → Entries
entries_at xs =
    record {
      pending = get_or xs 11 0;
      frozen = get_or xs 12 0;
      replay = get_or xs 13 0;
      taken = counts (get_or xs 14 0) (get_or xs 15 0);
    }

-- 7 and 8: the superblock's slot, the blocks that are written
abbrev pub ready_of : List ℕ → Ready
ready_of xs =
    record {
      superblock = superblock_at xs;
      whichSuperblock = get_or xs 7 0;
      writtenJournalLen = get_or xs 8 0;
      frozen = frozen_at xs;
      commit = CommitNone;
      entries = entries_at xs;
      writes = no_ids;
    }

unfoldable pub machine_of : List ℕ → Machine
machine_of xs = to_ready initial_machine (ready_of xs)
