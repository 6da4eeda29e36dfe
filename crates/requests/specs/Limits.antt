-- Document 01's limits on what may wait at a disk: superblock reads of each slot, journal reads, journal writes.
use Rattle.std.specs.Prelude.{ℕ}

abbrev pub most_superblock_reads : ℕ
most_superblock_reads = 8

abbrev pub most_journal_reads : ℕ
most_journal_reads = 8

abbrev pub most_journal_writes : ℕ
most_journal_writes = 16
