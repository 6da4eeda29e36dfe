-- The crash whole: what a yes to its questions tells, and back; and the crash with the disk's own content for the picture.
use Rattle.std.specs.Prelude.{ℕ, ◌≡◌, List, replicate}
use Rattle.std.proofs.Math.Path.{sym}
use Rattle.std.proofs.Common.{◌∙◌, ap, arith}
use Rattle.laws.specs.Choice.{and_then, and_then_left, and_then_right, and_then_both, and_then_done, and_then_first, unless, unless_same, split_eq}
use Rattle.laws.specs.Maps.{Values}
use Rattle.laws.specs.Sets.{Map, Distinct, none_some}
use Rattle.layout.specs.declared.Geometry.{Geometry}
use Rattle.interval.specs.declared.JournalInterval.{JournalInterval}
use Rattle.interval.specs.Facts.{ContiguousJournalInterval}
use Rattle.journal.specs.Memory.{ask_journal}
use Rattle.journal.specs.Asked.{journal_blocks, journal_marks, asked_journal}
use Rattle.tables.specs.declared.IntervalTable.{IntervalTable}
use Rattle.tables.specs.Rows.{Counted}
use Rattle.tables.specs.IntervalTable.{interval_map, no_intervals}
use Rattle.tables.proofs.Laws.IntervalTables.{intervals_empty, sized_no_intervals, facts_valid}
use Rattle.requests.specs.Slots.{Slots}
use Rattle.disk.specs.declared.Disk.{Disk}
use Rattle.disk.specs.Disk.{idle_disk}
use Rattle.disk.specs.Questions.{ask_state, ask_disk}
use Rattle.disk.specs.Laws.Questions.{DiskOk, disk_journal, asks_disk}
use Rattle.crash.specs.Picture.{crashed_blocks, crashed_marks}
use Rattle.crash.specs.Whole.{crashed_disk, ask_crash, crash_blocks, crash_marks}
use Rattle.crash.specs.Laws.Memory.{length_crashed_blocks, length_crashed_marks, crashed_marks_each, own_blocks, own_marks}

module _ (g : Geometry) (d : Disk) (picture pictured blocks marks : List ℕ) where
  -- the journal, the picture, the state
  pub crash_disk : ask_crash g d picture pictured blocks marks ≡ 0 → ask_disk g d blocks marks ≡ 0
  unfolding ask_crash ask_disk
  crash_disk e = and_then_both _ _ (and_then_left _ _ e) (and_then_right _ _ (and_then_right _ _ e))

  pub crash_picture : ask_crash g d picture pictured blocks marks ≡ 0 → ask_journal g picture pictured ≡ 0
  unfolding ask_crash
  crash_picture e = and_then_left _ _ (and_then_right _ _ e)

  pub asks_crash : ask_disk g d blocks marks ≡ 0 → ask_journal g picture pictured ≡ 0 → ask_crash g d picture pictured blocks marks ≡ 0
  unfolding ask_crash ask_disk
  asks_crash e p = and_then_both _ _ (and_then_left _ _ e) (and_then_both _ _ p (and_then_right _ _ e))

-- a disk without requests passes question 2; so disk and lent memory pass questions 1 and 2 after a crash that passed them
pub idle_ok : (g : Geometry) (slots : Slots) → DiskOk g (idle_disk slots)
unfolding Distinct
idle_ok g slots =
    record {
      reads1 = no_rows 8;
      reads2 = no_rows 8;
      journal_reads_is = no_rows 8;
      reads_valid = facts_valid no_intervals g sized_no_intervals 8 (no_rows 8) none_wrong;
      journal_writes_is = no_rows 16;
      writes_valid = facts_valid no_intervals g sized_no_intervals 16 (no_rows 16) none_wrong;
    }
  where
    no_rows : (most : ℕ) → Counted most 0 (replicate 16 0)
    no_rows most = record { few = omega arith; in_array = omega arith; differ = tt }

    none_wrong : Values (ContiguousJournalInterval g) (interval_map no_intervals)
    none_wrong id v e = none_some (ap (λ (m : Map JournalInterval). m id) intervals_empty) e

pub crash_passes : (g : Geometry) (d : Disk) (picture pictured blocks marks : List ℕ) → ask_crash g d picture pictured blocks marks ≡ 0
    → ask_disk g (crashed_disk d) (crashed_blocks d.journalWrites picture blocks) (crashed_marks d.journalWrites pictured marks) ≡ 0
crash_passes g d picture pictured blocks marks e =
    let t : IntervalTable = d.journalWrites in
    let j = disk_journal g d blocks marks (crash_disk g d picture pictured blocks marks e) in
    let b = journal_blocks g blocks marks j in
    let m = journal_marks g blocks marks j in
    let p = journal_marks g picture pictured (crash_picture g d picture pictured blocks marks e) in
    asks_disk g (crashed_disk d) (crashed_blocks t picture blocks) (crashed_marks t pictured marks)
    (asked_journal g (crashed_blocks t picture blocks) (crashed_marks t pictured marks)
    (record { geometry = b.geometry; size = length_crashed_blocks t picture blocks ∙ b.size })
    (record { geometry = m.geometry; size = length_crashed_marks t pictured marks ∙ m.size; each = crashed_marks_each t pictured marks p.each m.each }))
    (idle_ok g d.slots)

-- a question asked twice
pub asked_twice : (q r : ℕ) → and_then q (and_then q r) ≡ and_then q r
asked_twice q r = split_eq q 0 (λ h. and_then_done q (and_then q r) h) (λ h. and_then_first q (and_then q r) h ∙ sym (and_then_first q r h))

-- the disk's own content for the picture: the questions are the disk's, and lent memory stays as it is, refused or not
module _ (g : Geometry) (d : Disk) (blocks marks : List ℕ) where
  pub own_asks : ask_disk g d blocks marks ≡ ask_crash g d blocks marks blocks marks
  unfolding ask_disk ask_crash
  own_asks = sym (asked_twice (ask_journal g blocks marks) (ask_state g d))

  pub own_crash_blocks : crash_blocks g d blocks marks blocks marks ≡ blocks
  own_crash_blocks =
      ap (unless (ask_crash g d blocks marks blocks marks) blocks) (own_blocks d.journalWrites blocks) ∙ sym (unless_same (ask_crash g d blocks marks blocks marks) blocks)

  pub own_crash_marks : crash_marks g d blocks marks blocks marks ≡ marks
  own_crash_marks =
      ap (unless (ask_crash g d blocks marks blocks marks) marks) (own_marks d.journalWrites marks) ∙ sym (unless_same (ask_crash g d blocks marks blocks marks) marks)
