-- One step over the whole disk operation type: what each operation asks, the disk after it, and the lent memory after it.
use Rattle.std.specs.Prelude.{ℕ, ⊤, Bool, true, false, List, Result, Ok, Err}
use Rattle.refusal.specs.declared.Refusal.{Refusal}
use Rattle.layout.specs.declared.Geometry.{Geometry}
use Rattle.interval.specs.declared.JournalInterval.{JournalInterval}
use Rattle.interval.specs.Interval.{interval}
use Rattle.superblock.specs.declared.DiskOp.{DiskOp}
use Rattle.superblock.specs.declared.DiskOp.TheVariants as op
use Rattle.superblock.specs.declared.JournalRead.{JournalRead}
use Rattle.superblock.specs.declared.JournalRead.TheVariants as read
use Rattle.journal.specs.Memory.{update_bytes, update_marks}
use Rattle.disk.specs.declared.Disk.{Disk}
use Rattle.disk.specs.Disk.{DiskStepped, JournalAcked}
use Rattle.disk.specs.declared.Touched.{Touched}
use Rattle.disk.specs.declared.Touched.TheVariants as touched
use Rattle.requests.specs.Receive.{ask_recv_read_superblock, ask_recv_read_journal, ask_recv_write_superblock, ask_recv_write_journal}
use Rattle.disk.specs.Next.{recv_read_superblock_next, recv_read_journal_next, recv_write_superblock_next, recv_write_journal_next}
use Rattle.requests.specs.Acknowledge.{ask_read_superblock_as, held_interval, ask_ack_read_journal, ask_ack_write_superblock, ask_ack_write_journal}
use Rattle.disk.specs.Next.{ack_read_superblock_next, ack_read_journal_next, ack_write_superblock_next, ack_write_journal_next}
use Rattle.disk.specs.Memory.{ask_new_blocks, read_out}

unfoldable pub is_whole : JournalRead → Bool
is_whole read.Whole = true
is_whole read.Damaged = false

-- what each operation touches of lent blocks
unfoldable pub touched_by : DiskOp → Touched
touched_by (op.ReqWriteJournal id1 id2 start count) = touched.Written id1 id2 (interval start count)
touched_by (op.RespReadJournal id journal) = touched.Read id journal
touched_by (op.ReqReadSuperblock id which) = touched.Nothing
touched_by (op.ReqReadJournal id v) = touched.Nothing
touched_by (op.ReqWriteSuperblock id which superblock) = touched.Nothing
touched_by (op.RespReadSuperblock id which superblock) = touched.Nothing
touched_by (op.RespWriteSuperblock id which) = touched.Nothing
touched_by (op.RespWriteJournal id) = touched.Nothing
touched_by op.NoDiskOp = touched.Nothing

-- a journal read's answer as an operation's
abbrev pub done_or : Result JournalInterval Refusal → Result ⊤ Refusal
done_or (Ok v) = Ok record {}
done_or (Err why) = Err why

abbrev pub as_stepped : JournalAcked → DiskStepped
as_stepped r = record { answer = done_or r.answer; disk = r.disk }

abbrev pub ask_operation : Geometry → Disk → DiskOp → List ℕ → List ℕ → ℕ
ask_operation g d (op.ReqReadSuperblock id which) new marks = ask_recv_read_superblock d.superblockReads which id
ask_operation g d (op.ReqReadJournal id v) new marks = ask_recv_read_journal g d.journalReads id v
ask_operation g d (op.ReqWriteSuperblock id which superblock) new marks = ask_recv_write_superblock d.superblockWrites which id
ask_operation g d (op.ReqWriteJournal id1 id2 start count) new marks = ask_new_blocks g d.journalWrites id1 id2 (interval start count) new
ask_operation g d (op.RespReadSuperblock id which superblock) new marks = ask_read_superblock_as d.slots d.superblockReads which id superblock
ask_operation g d (op.RespReadJournal id journal) new marks = ask_ack_read_journal d.journalReads id (is_whole journal) marks
ask_operation g d (op.RespWriteSuperblock id which) new marks = ask_ack_write_superblock d.slots d.superblockWrites which id
ask_operation g d (op.RespWriteJournal id) new marks = ask_ack_write_journal d.journalWrites id
ask_operation g d op.NoDiskOp new marks = 0

-- what can be asked without lent memory: not how many bytes of a write are lent, nor whether the blocks of a whole read are readable
abbrev pub ask_decision : Geometry → Disk → DiskOp → ℕ
ask_decision g d (op.ReqReadSuperblock id which) = ask_recv_read_superblock d.superblockReads which id
ask_decision g d (op.ReqReadJournal id v) = ask_recv_read_journal g d.journalReads id v
ask_decision g d (op.ReqWriteSuperblock id which superblock) = ask_recv_write_superblock d.superblockWrites which id
ask_decision g d (op.ReqWriteJournal id1 id2 start count) = ask_recv_write_journal g d.journalWrites id1 id2 (interval start count)
ask_decision g d (op.RespReadSuperblock id which superblock) = ask_read_superblock_as d.slots d.superblockReads which id superblock
ask_decision g d (op.RespReadJournal id journal) = ask_ack_write_journal d.journalReads id
ask_decision g d (op.RespWriteSuperblock id which) = ask_ack_write_superblock d.slots d.superblockWrites which id
ask_decision g d (op.RespWriteJournal id) = ask_ack_write_journal d.journalWrites id
ask_decision g d op.NoDiskOp = 0

abbrev pub operation_next : Geometry → Disk → DiskOp → Disk
operation_next g d (op.ReqReadSuperblock id which) = recv_read_superblock_next d which id
operation_next g d (op.ReqReadJournal id v) = recv_read_journal_next d id v
operation_next g d (op.ReqWriteSuperblock id which superblock) = recv_write_superblock_next d which id superblock
operation_next g d (op.ReqWriteJournal id1 id2 start count) = recv_write_journal_next g d id1 id2 (interval start count)
operation_next g d (op.RespReadSuperblock id which superblock) = ack_read_superblock_next d which id
operation_next g d (op.RespReadJournal id journal) = ack_read_journal_next d id
operation_next g d (op.RespWriteSuperblock id which) = ack_write_superblock_next d which
operation_next g d (op.RespWriteJournal id) = ack_write_journal_next d id
operation_next g d op.NoDiskOp = d

-- only a journal write changes blocks and marks, and only a journal read's answer the buffer
abbrev pub operation_blocks : DiskOp → List ℕ → List ℕ → List ℕ
operation_blocks (op.ReqWriteJournal id1 id2 start count) new blocks = update_bytes blocks (interval start count) new
operation_blocks (op.ReqReadSuperblock id which) new blocks = blocks
operation_blocks (op.ReqReadJournal id v) new blocks = blocks
operation_blocks (op.ReqWriteSuperblock id which superblock) new blocks = blocks
operation_blocks (op.RespReadSuperblock id which superblock) new blocks = blocks
operation_blocks (op.RespReadJournal id journal) new blocks = blocks
operation_blocks (op.RespWriteSuperblock id which) new blocks = blocks
operation_blocks (op.RespWriteJournal id) new blocks = blocks
operation_blocks op.NoDiskOp new blocks = blocks

abbrev pub operation_marks : DiskOp → List ℕ → List ℕ
operation_marks (op.ReqWriteJournal id1 id2 start count) marks = update_marks marks (interval start count)
operation_marks (op.ReqReadSuperblock id which) marks = marks
operation_marks (op.ReqReadJournal id v) marks = marks
operation_marks (op.ReqWriteSuperblock id which superblock) marks = marks
operation_marks (op.RespReadSuperblock id which superblock) marks = marks
operation_marks (op.RespReadJournal id journal) marks = marks
operation_marks (op.RespWriteSuperblock id which) marks = marks
operation_marks (op.RespWriteJournal id) marks = marks
operation_marks op.NoDiskOp marks = marks

abbrev pub operation_out : Disk → DiskOp → List ℕ → List ℕ → List ℕ
operation_out d (op.RespReadJournal id journal) blocks out = read_out (is_whole journal) (held_interval d.journalReads id) blocks out
operation_out d (op.ReqReadSuperblock id which) blocks out = out
operation_out d (op.ReqReadJournal id v) blocks out = out
operation_out d (op.ReqWriteSuperblock id which superblock) blocks out = out
operation_out d (op.ReqWriteJournal id1 id2 start count) blocks out = out
operation_out d (op.RespReadSuperblock id which superblock) blocks out = out
operation_out d (op.RespWriteSuperblock id which) blocks out = out
operation_out d (op.RespWriteJournal id) blocks out = out
operation_out d op.NoDiskOp blocks out = out
