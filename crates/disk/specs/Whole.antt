-- The disk's operations whole, as their promises cite them: what each call answers, and what it leaves in lent memory. Questions 1 and 2 come
-- first, then the operation's own.
use Rattle.std.specs.declared.option.Option as code
use Rattle.std.specs.Prelude.{ℕ, Bool, List}
use Rattle.laws.specs.Choice.{and_then, unless}
use Rattle.layout.specs.declared.Geometry.{Geometry}
use Rattle.interval.specs.declared.JournalInterval.{JournalInterval}
use Rattle.superblock.specs.declared.Superblock.{Superblock}
use Rattle.superblock.specs.declared.DiskOp.{DiskOp}
use Rattle.journal.specs.Memory.{update_bytes, update_marks}
use Rattle.disk.specs.declared.Disk.{Disk}
use Rattle.requests.specs.Slots.{slot_at}
use Rattle.disk.specs.Disk.{DiskStepped, SuperblockAcked, JournalAcked, answered, answered_with}
use Rattle.disk.specs.Questions.{ask_disk, ask_disk_out}
use Rattle.requests.specs.Receive.{ask_recv_read_superblock, ask_recv_read_journal, ask_recv_write_superblock}
use Rattle.disk.specs.Next.{recv_read_superblock_next, recv_read_journal_next, recv_write_superblock_next, recv_write_journal_next}
use Rattle.requests.specs.Acknowledge.{read_from, ask_ack_read_superblock, held_interval, ask_ack_read_journal, ask_ack_write_superblock, ask_ack_write_journal}
use Rattle.disk.specs.Next.{ack_read_superblock_next, ack_read_journal_next, ack_write_superblock_next, ack_write_journal_next}
use Rattle.requests.specs.Landing.{ask_land}
use Rattle.disk.specs.Next.{land_next}
use Rattle.disk.specs.Memory.{new_interval, ask_new_blocks, read_out}
use Rattle.disk.specs.Operation.{ask_operation, operation_next, operation_blocks, operation_marks, operation_out}

abbrev pub recv_read_superblock : Geometry → Disk → ℕ → ℕ → List ℕ → List ℕ → DiskStepped
recv_read_superblock g d which id blocks marks =
    answered
    (and_then (ask_disk g d blocks marks) (ask_recv_read_superblock d.superblockReads which id))
    (recv_read_superblock_next d which id)
    d

abbrev pub recv_read_journal : Geometry → Disk → ℕ → JournalInterval → List ℕ → List ℕ → DiskStepped
recv_read_journal g d id v blocks marks =
    answered
    (and_then (ask_disk g d blocks marks) (ask_recv_read_journal g d.journalReads id v))
    (recv_read_journal_next d id v)
    d

abbrev pub recv_write_superblock : Geometry → Disk → ℕ → ℕ → Superblock → List ℕ → List ℕ → DiskStepped
recv_write_superblock g d which id superblock blocks marks =
    answered
    (and_then (ask_disk g d blocks marks) (ask_recv_write_superblock d.superblockWrites which id))
    (recv_write_superblock_next d which id superblock)
    d

-- a journal write: the answer, the blocks and the marks, by one number
abbrev pub ask_write_journal : Geometry → Disk → ℕ → code.Option ℕ → ℕ → List ℕ → List ℕ → List ℕ → ℕ
ask_write_journal g d id1 id2 start new blocks marks =
    and_then (ask_disk g d blocks marks) (ask_new_blocks g d.journalWrites id1 id2 (new_interval start new) new)

abbrev pub recv_write_journal : Geometry → Disk → ℕ → code.Option ℕ → ℕ → List ℕ → List ℕ → List ℕ → DiskStepped
recv_write_journal g d id1 id2 start new blocks marks =
    answered
    (ask_write_journal g d id1 id2 start new blocks marks)
    (recv_write_journal_next g d id1 id2 (new_interval start new))
    d

abbrev pub recv_write_journal_blocks : Geometry → Disk → ℕ → code.Option ℕ → ℕ → List ℕ → List ℕ → List ℕ → List ℕ
recv_write_journal_blocks g d id1 id2 start new blocks marks =
    unless (ask_write_journal g d id1 id2 start new blocks marks) blocks (update_bytes blocks (new_interval start new) new)

abbrev pub recv_write_journal_marks : Geometry → Disk → ℕ → code.Option ℕ → ℕ → List ℕ → List ℕ → List ℕ → List ℕ
recv_write_journal_marks g d id1 id2 start new blocks marks =
    unless (ask_write_journal g d id1 id2 start new blocks marks) marks (update_marks marks (new_interval start new))

abbrev pub ack_read_superblock : Geometry → Disk → ℕ → ℕ → Bool → List ℕ → List ℕ → SuperblockAcked
ack_read_superblock g d which id whole blocks marks =
    answered_with
    (and_then (ask_disk g d blocks marks) (ask_ack_read_superblock d.slots d.superblockReads which id whole))
    (read_from whole (slot_at d.slots which))
    (ack_read_superblock_next d which id)
    d

-- a journal read's answer: the answer and the buffer, by one number
abbrev pub ask_read_journal : Geometry → Disk → ℕ → Bool → List ℕ → List ℕ → List ℕ → ℕ
ask_read_journal g d id whole blocks marks out =
    and_then (ask_disk_out g d blocks marks out) (ask_ack_read_journal d.journalReads id whole marks)

abbrev pub ack_read_journal : Geometry → Disk → ℕ → Bool → List ℕ → List ℕ → List ℕ → JournalAcked
ack_read_journal g d id whole blocks marks out =
    answered_with
    (ask_read_journal g d id whole blocks marks out)
    (held_interval d.journalReads id)
    (ack_read_journal_next d id)
    d

abbrev pub ack_read_journal_out : Geometry → Disk → ℕ → Bool → List ℕ → List ℕ → List ℕ → List ℕ
ack_read_journal_out g d id whole blocks marks out =
    unless (ask_read_journal g d id whole blocks marks out) out (read_out whole (held_interval d.journalReads id) blocks out)

abbrev pub ack_write_superblock : Geometry → Disk → ℕ → ℕ → List ℕ → List ℕ → DiskStepped
ack_write_superblock g d which id blocks marks =
    answered
    (and_then (ask_disk g d blocks marks) (ask_ack_write_superblock d.slots d.superblockWrites which id))
    (ack_write_superblock_next d which)
    d

abbrev pub ack_write_journal : Geometry → Disk → ℕ → List ℕ → List ℕ → DiskStepped
ack_write_journal g d id blocks marks =
    answered
    (and_then (ask_disk g d blocks marks) (ask_ack_write_journal d.journalWrites id))
    (ack_write_journal_next d id)
    d

abbrev pub land : Geometry → Disk → ℕ → List ℕ → List ℕ → DiskStepped
land g d which blocks marks =
    answered
    (and_then (ask_disk g d blocks marks) (ask_land d.superblockWrites which))
    (land_next d which)
    d

-- one step over all operations: the answer, the blocks, the marks and the buffer, by one number
abbrev pub ask_step : Geometry → Disk → DiskOp → List ℕ → List ℕ → List ℕ → List ℕ → ℕ
ask_step g d op new blocks marks out = and_then (ask_disk_out g d blocks marks out) (ask_operation g d op new marks)

abbrev pub step : Geometry → Disk → DiskOp → List ℕ → List ℕ → List ℕ → List ℕ → DiskStepped
step g d op new blocks marks out = answered (ask_step g d op new blocks marks out) (operation_next g d op) d

abbrev pub step_blocks : Geometry → Disk → DiskOp → List ℕ → List ℕ → List ℕ → List ℕ → List ℕ
step_blocks g d op new blocks marks out = unless (ask_step g d op new blocks marks out) blocks (operation_blocks op new blocks)

abbrev pub step_marks : Geometry → Disk → DiskOp → List ℕ → List ℕ → List ℕ → List ℕ → List ℕ
step_marks g d op new blocks marks out = unless (ask_step g d op new blocks marks out) marks (operation_marks op marks)

abbrev pub step_out : Geometry → Disk → DiskOp → List ℕ → List ℕ → List ℕ → List ℕ → List ℕ
step_out g d op new blocks marks out = unless (ask_step g d op new blocks marks out) out (operation_out d op blocks out)
