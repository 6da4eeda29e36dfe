-- Questions 1 and 2: what a yes tells, by parts, and back.
use Rattle.std.specs.Prelude.{ℕ, true, ◌≡◌, List}
use Rattle.std.proofs.Common.{arith}
use Rattle.laws.specs.Choice.{also_left, also_right, also_both, and_then_left, and_then_right, and_then_both, ask_yes, ask_holds}
use Rattle.layout.specs.declared.Geometry.{Geometry}
use Rattle.journal.specs.Memory.{ask_blocks, ask_journal}
use Rattle.tables.specs.Rows.{Counted}
use Rattle.tables.specs.IntervalTable.{valid_intervals}
use Rattle.tables.proofs.Laws.Counts.{counted_facts, facts_counted}
use Rattle.disk.specs.declared.Disk.{Disk}
use Rattle.requests.specs.Limits.{most_superblock_reads, most_journal_reads, most_journal_writes}
use Rattle.disk.specs.Questions.{reads_ok, intervals_ok, disk_ok, ask_state, ask_disk, ask_disk_out}

-- question 2 by its parts
pub record DiskOk (g : Geometry) (d : Disk) : Type 0 where
  pub reads1 : Counted most_superblock_reads d.superblockReads.first.count d.superblockReads.first.ids
  pub reads2 : Counted most_superblock_reads d.superblockReads.second.count d.superblockReads.second.ids
  pub journal_reads_is : Counted most_journal_reads d.journalReads.count d.journalReads.ids
  pub reads_valid : valid_intervals g d.journalReads ≡ true
  pub journal_writes_is : Counted most_journal_writes d.journalWrites.count d.journalWrites.ids
  pub writes_valid : valid_intervals g d.journalWrites ≡ true

module _ (g : Geometry) (d : Disk) where
  pub disk_facts : disk_ok g d ≡ true → DiskOk g d
  unfolding disk_ok reads_ok intervals_ok
  disk_facts e =
      let r = also_left _ _ e in
      let j = also_left _ _ (also_right _ _ e) in
      let w = also_right _ _ (also_right _ _ e) in
      record {
        reads1 = counted_facts _ _ _ (also_left _ _ r);
        reads2 = counted_facts _ _ _ (also_right _ _ r);
        journal_reads_is = counted_facts _ _ _ (also_left _ _ j);
        reads_valid = also_right _ _ j;
        journal_writes_is = counted_facts _ _ _ (also_left _ _ w);
        writes_valid = also_right _ _ w;
      }

  pub facts_disk : DiskOk g d → disk_ok g d ≡ true
  unfolding disk_ok reads_ok intervals_ok
  facts_disk f =
      also_both _ _ (also_both _ _ (facts_counted _ _ _ f.reads1) (facts_counted _ _ _ f.reads2))
      (also_both _ _ (also_both _ _ (facts_counted _ _ _ f.journal_reads_is) f.reads_valid)
      (also_both _ _ (facts_counted _ _ _ f.journal_writes_is) f.writes_valid))

  pub state_asked : ask_state g d ≡ 0 → DiskOk g d
  unfolding ask_state
  state_asked e = disk_facts (ask_yes 2 (disk_ok g d) (omega arith) e)

  pub asked_state : DiskOk g d → ask_state g d ≡ 0
  unfolding ask_state
  asked_state f = ask_holds 2 (disk_ok g d) (facts_disk f)

  -- questions 1 and 2, without and with a buffer
  module _ (blocks marks : List ℕ) where
    pub disk_journal : ask_disk g d blocks marks ≡ 0 → ask_journal g blocks marks ≡ 0
    unfolding ask_disk
    disk_journal e = and_then_left _ _ e

    pub disk_state : ask_disk g d blocks marks ≡ 0 → DiskOk g d
    unfolding ask_disk
    disk_state e = state_asked (and_then_right _ _ e)

    pub asks_disk : ask_journal g blocks marks ≡ 0 → DiskOk g d → ask_disk g d blocks marks ≡ 0
    unfolding ask_disk
    asks_disk j f = and_then_both _ _ j (asked_state f)

    pub out_disk : (out : List ℕ) → ask_disk_out g d blocks marks out ≡ 0 → ask_disk g d blocks marks ≡ 0
    unfolding ask_disk_out ask_disk
    out_disk out e = and_then_both _ _ (and_then_left _ _ e) (and_then_right _ _ (and_then_right _ _ e))

    pub out_blocks : (out : List ℕ) → ask_disk_out g d blocks marks out ≡ 0 → ask_blocks g out ≡ 0
    unfolding ask_disk_out
    out_blocks out e = and_then_left _ _ (and_then_right _ _ e)

    pub asks_out : (out : List ℕ) → ask_disk g d blocks marks ≡ 0 → ask_blocks g out ≡ 0 → ask_disk_out g d blocks marks out ≡ 0
    unfolding ask_disk_out ask_disk
    asks_out out e b = and_then_both _ _ (and_then_left _ _ e) (and_then_both _ _ b (and_then_right _ _ e))
