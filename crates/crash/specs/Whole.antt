-- The crash whole, as its promises cite it: what it asks, what it answers, and the lent memory after it. One number decides.
use Rattle.std.specs.Prelude.{ℕ, List}
use Rattle.laws.specs.Choice.{and_then, unless}
use Rattle.layout.specs.declared.Geometry.{Geometry}
use Rattle.journal.specs.Memory.{ask_journal}
use Rattle.disk.specs.declared.Disk.{Disk}
use Rattle.disk.specs.Disk.{DiskStepped, idle_disk, answered}
use Rattle.disk.specs.Questions.{ask_state}
use Rattle.crash.specs.Picture.{crashed_blocks, crashed_marks}

-- its slots, and no request
abbrev pub crashed_disk : Disk → Disk
crashed_disk d = idle_disk d.slots

-- 1: the journal's blocks and marks, and the picture's. 2: the state
unfoldable pub ask_crash : Geometry → Disk → List ℕ → List ℕ → List ℕ → List ℕ → ℕ
ask_crash g d picture pictured blocks marks =
    and_then (ask_journal g blocks marks)
    (and_then (ask_journal g picture pictured)
    (ask_state g d))

abbrev pub crash : Geometry → Disk → List ℕ → List ℕ → List ℕ → List ℕ → DiskStepped
crash g d picture pictured blocks marks = answered (ask_crash g d picture pictured blocks marks) (crashed_disk d) d

abbrev pub crash_blocks : Geometry → Disk → List ℕ → List ℕ → List ℕ → List ℕ → List ℕ
crash_blocks g d picture pictured blocks marks =
    unless (ask_crash g d picture pictured blocks marks) blocks (crashed_blocks d.journalWrites picture blocks)

abbrev pub crash_marks : Geometry → Disk → List ℕ → List ℕ → List ℕ → List ℕ → List ℕ
crash_marks g d picture pictured blocks marks =
    unless (ask_crash g d picture pictured blocks marks) marks (crashed_marks d.journalWrites pictured marks)
