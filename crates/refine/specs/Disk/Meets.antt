-- Questions 1 and 2: the disk's test says yes exactly where the lent memory is right, the tables are tables, and the view meets question 2 in
-- the document's words (`DiskMeets`).
use Rattle.std.specs.Prelude.{ℕ, ◌≤◌, Bool, true, false, ◌≡◌, List, take}
use Rattle.std.proofs.Common.{arith}
use Rattle.laws.specs.Sets.{AtMost, ids_of, keys, at}
use Rattle.layout.specs.declared.Geometry.{Geometry}
use Rattle.journal.specs.Asked.{journal_blocks, journal_marks, asked_journal}
use Rattle.journal.specs.Cells.{length_cells}
use Rattle.journal.specs.Blocks.{cell_size}
use Rattle.tables.specs.declared.IntervalTable.{IntervalTable}
use Rattle.tables.specs.Rows.{Counted}
use Rattle.tables.specs.IntervalTable.{interval_rows, interval_map, SizedIntervals}
use Rattle.tables.proofs.Laws.Counts.{count_few, few_count}
use Rattle.tables.proofs.Laws.RowTables.{rows_few, few_rows}
use Rattle.tables.proofs.Laws.IntervalTables.{level_intervals, valid_facts, facts_valid}
use Rattle.source.specs.Limits.{limits, DiskCounts}
use Rattle.source.specs.Meets.{DiskShape, DiskMeets}
use Rattle.disk.specs.declared.Disk.{Disk}
use Rattle.disk.specs.Questions.{ask_disk}
use Rattle.disk.specs.Laws.Questions.{DiskOk, disk_journal, disk_state, asks_disk}
use Rattle.refine.specs.Disk.View.{disk_of, SizedDisk, Table, DiskTables, Lent}

-- a table within its limit, as the code asks it and as the document does
pub table_of : (most count : ℕ) (ids : List ℕ) → Counted most count ids → Table count ids
table_of most count ids c = record { in_array = c.in_array; differ = c.differ }

pub counted_own : (count : ℕ) (ids : List ℕ) → Table count ids → Counted count count ids
counted_own count ids t = record { few = omega arith; in_array = t.in_array; differ = t.differ }

pub counted_by_is : (most count : ℕ) (ids : List ℕ) → Table count ids → count ≤ most → Counted most count ids
counted_by_is most count ids t h = record { few = h; in_array = t.in_array; differ = t.differ }

ids_counted : (most count : ℕ) (ids : List ℕ) → Table count ids → AtMost most (ids_of (take count ids)) → Counted most count ids
ids_counted most count ids t m = counted_by_is most count ids t (few_count count count ids (counted_own count ids t) most m)

intervals_counted : (most : ℕ) (t : IntervalTable) → SizedIntervals t → Table t.count t.ids → AtMost most (keys (interval_map t)) → Counted most t.count t.ids
intervals_counted most t l k m =
    counted_by_is most t.count t.ids k (few_rows (interval_rows t) (level_intervals t l) t.count (counted_own t.count t.ids k) most m)

module _ (g : Geometry) (blocks marks : List ℕ) (d : Disk) (z : SizedDisk d) where
  counts : DiskOk g d → DiskCounts limits (disk_of g blocks marks d)
  counts f =
      record {
        superblock_reads_few = slots;
        journal_reads_few = rows_few (interval_rows d.journalReads) (level_intervals d.journalReads z.journal_reads_is) 8 f.journal_reads_is 8 f.journal_reads_is.few;
        journal_writes_few = rows_few (interval_rows d.journalWrites) (level_intervals d.journalWrites z.journal_writes_is) 16 f.journal_writes_is 16 f.journal_writes_is.few;
      }
    where
      slots : (which : Bool) → AtMost 8 (at (disk_of g blocks marks d).req_read_superblocks which)
      slots false = count_few 8 d.superblockReads.first.count d.superblockReads.first.ids f.reads1 8 f.reads1.few
      slots true = count_few 8 d.superblockReads.second.count d.superblockReads.second.ids f.reads2 8 f.reads2.few

  shape : Lent g blocks marks → DiskOk g d → DiskShape g (disk_of g blocks marks d)
  shape l f =
      record {
        reads_contiguous = valid_facts d.journalReads g f.reads_valid;
        writes_contiguous = valid_facts d.journalWrites g f.writes_valid;
        size = length_cells g.blocks blocks marks;
        block_size = cell_size g.blocks blocks marks l.blocks_right.size;
      }

  ok_by : DiskTables d → DiskMeets g limits (disk_of g blocks marks d) → DiskOk g d
  ok_by t m =
      let r = intervals_counted 8 d.journalReads z.journal_reads_is t.journal_reads_is m.counts.journal_reads_few in
      let w = intervals_counted 16 d.journalWrites z.journal_writes_is t.journal_writes_is m.counts.journal_writes_few in
      record {
        reads1 = ids_counted 8 d.superblockReads.first.count d.superblockReads.first.ids t.reads1 (m.counts.superblock_reads_few false);
        reads2 = ids_counted 8 d.superblockReads.second.count d.superblockReads.second.ids t.reads2 (m.counts.superblock_reads_few true);
        journal_reads_is = r;
        reads_valid = facts_valid d.journalReads g z.journal_reads_is 8 r m.shape.reads_contiguous;
        journal_writes_is = w;
        writes_valid = facts_valid d.journalWrites g z.journal_writes_is 16 w m.shape.writes_contiguous;
      }

  -- a yes to questions 1 and 2 in the document's words
  pub record Met : Type 0 where
    pub lent : Lent g blocks marks
    pub tables : DiskTables d
    pub meets : DiskMeets g limits (disk_of g blocks marks d)

  pub disk_met : ask_disk g d blocks marks ≡ 0 → Met
  disk_met e =
      let j = disk_journal g d blocks marks e in
      let f = disk_state g d blocks marks e in
      let l : Lent g blocks marks = record { blocks_right = journal_blocks g blocks marks j; marks_right = journal_marks g blocks marks j } in
      record {
        lent = l;
        tables =
            record {
              reads1 = table_of _ _ _ f.reads1;
              reads2 = table_of _ _ _ f.reads2;
              journal_reads_is = table_of _ _ _ f.journal_reads_is;
              journal_writes_is = table_of _ _ _ f.journal_writes_is;
            };
        meets = record { counts = counts f; shape = shape l f };
      }

  pub met_disk : Met → ask_disk g d blocks marks ≡ 0
  met_disk m = asks_disk g d blocks marks (asked_journal g blocks marks m.lent.blocks_right m.lent.marks_right) (ok_by m.tables m.meets)
