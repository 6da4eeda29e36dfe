-- The questions of a disk and of its operations have the numbers of refusals, so a no's number is its question's. Assumes nothing.
use Rattle.std.specs.declared.option.Option as code
use Rattle.std.specs.Prelude.{ℕ, ◌≡◌, ◌≤◌, Bool, List, Result, Err}
use Rattle.std.proofs.Common.{sym, ap, ◌∙◌, rules, arith}
use Rattle.refusal.specs.declared.Refusal.{Refusal}
use Rattle.refusal.specs.Refusal.{number, refusal, small_ask, small_then, number_refusal}
use Rattle.layout.specs.declared.Geometry.{Geometry}
use Rattle.interval.specs.declared.JournalInterval.{JournalInterval}
use Rattle.superblock.specs.declared.DiskOp.{DiskOp}
use Rattle.superblock.specs.declared.DiskOp.TheVariants as op
use Rattle.journal.specs.Bounds.{small_blocks, small_journal, small_size}
use Rattle.tables.specs.declared.IntervalTable.{IntervalTable}
use Rattle.requests.specs.Bounds.{small_recv_read_superblock, small_recv_read_journal, small_recv_write_superblock, small_recv_write_journal, small_read_superblock_as, small_ack_read_journal, small_ack_write_superblock, small_ack_write_journal}
use Rattle.disk.specs.declared.Disk.{Disk}
use Rattle.disk.specs.declared.Stepped.{Stepped}
use Rattle.disk.specs.Disk.{answered_with}
use Rattle.disk.specs.Laws.Answers.{unread_asked, asked_unread}
use Rattle.disk.specs.Questions.{ask_state, ask_disk, ask_disk_out}
use Rattle.disk.specs.Memory.{ask_new_blocks}
use Rattle.disk.specs.Operation.{ask_operation, ask_decision}
use Rattle.disk.specs.Whole.{ask_write_journal, ask_read_journal, ask_step}

-- questions 1 and 2
pub small_state : (g : Geometry) (d : Disk) → ask_state g d ≤ 13
unfolding ask_state
small_state g d = search (rules, small_ask)

pub small_disk : (g : Geometry) (d : Disk) (blocks marks : List ℕ) → ask_disk g d blocks marks ≤ 13
unfolding ask_disk
small_disk g d blocks marks = search (rules, small_then, small_journal, small_state)

pub small_disk_out : (g : Geometry) (d : Disk) (blocks marks out : List ℕ) → ask_disk_out g d blocks marks out ≤ 13
unfolding ask_disk_out
small_disk_out g d blocks marks out = search (rules, small_then, small_journal, small_blocks, small_state)

-- of an operation, and of what can be asked of it without lent memory
pub small_new_blocks : (g : Geometry) (t : IntervalTable) (id1 : ℕ) (id2 : code.Option ℕ) (v : JournalInterval) (new : List ℕ) → ask_new_blocks g t id1 id2 v new ≤ 13
unfolding ask_new_blocks
small_new_blocks g t id1 id2 v new = search (rules, small_then, small_size, small_recv_write_journal)

pub small_operation : (g : Geometry) (d : Disk) (o : DiskOp) (new marks : List ℕ) → ask_operation g d o new marks ≤ 13
small_operation g d (op.ReqReadSuperblock id which) new marks = small_recv_read_superblock _ _ _
small_operation g d (op.ReqReadJournal id v) new marks = small_recv_read_journal _ _ _ _
small_operation g d (op.ReqWriteSuperblock id which superblock) new marks = small_recv_write_superblock _ _ _
small_operation g d (op.ReqWriteJournal id1 id2 start count) new marks = small_new_blocks _ _ _ _ _ _
small_operation g d (op.RespReadSuperblock id which superblock) new marks = small_read_superblock_as _ _ _ _ _
small_operation g d (op.RespReadJournal id journal) new marks = small_ack_read_journal _ _ _ _
small_operation g d (op.RespWriteSuperblock id which) new marks = small_ack_write_superblock _ _ _ _
small_operation g d (op.RespWriteJournal id) new marks = small_ack_write_journal _ _
small_operation g d op.NoDiskOp new marks = omega arith

pub small_decision : (g : Geometry) (d : Disk) (o : DiskOp) → ask_decision g d o ≤ 13
small_decision g d (op.ReqReadSuperblock id which) = small_recv_read_superblock _ _ _
small_decision g d (op.ReqReadJournal id v) = small_recv_read_journal _ _ _ _
small_decision g d (op.ReqWriteSuperblock id which superblock) = small_recv_write_superblock _ _ _
small_decision g d (op.ReqWriteJournal id1 id2 start count) = small_recv_write_journal _ _ _ _ _
small_decision g d (op.RespReadSuperblock id which superblock) = small_read_superblock_as _ _ _ _ _
small_decision g d (op.RespReadJournal id journal) = small_ack_write_journal _ _
small_decision g d (op.RespWriteSuperblock id which) = small_ack_write_superblock _ _ _ _
small_decision g d (op.RespWriteJournal id) = small_ack_write_journal _ _
small_decision g d op.NoDiskOp = omega arith

-- of a whole operation that touches lent blocks, and of a whole step
pub small_write_journal : (g : Geometry) (d : Disk) (id1 : ℕ) (id2 : code.Option ℕ) (start : ℕ) (new blocks marks : List ℕ) → ask_write_journal g d id1 id2 start new blocks marks ≤ 13
small_write_journal g d id1 id2 start new blocks marks = small_then _ _ (small_disk _ _ _ _) (small_new_blocks _ _ _ _ _ _)

pub small_read_journal : (g : Geometry) (d : Disk) (id : ℕ) (whole : Bool) (blocks marks out : List ℕ) → ask_read_journal g d id whole blocks marks out ≤ 13
small_read_journal g d id whole blocks marks out = small_then _ _ (small_disk_out _ _ _ _ _) (small_ack_read_journal _ _ _ _)

pub small_step : (g : Geometry) (d : Disk) (o : DiskOp) (new blocks marks out : List ℕ) → ask_step g d o new blocks marks out ≤ 13
small_step g d o new blocks marks out = small_then _ _ (small_disk_out _ _ _ _ _) (small_operation _ _ _ _ _)

-- the number of a no is the number that decided
pub no_number : {A : Type 0} (q : ℕ) (v : A) (next d : Disk) (n : Refusal) → q ≤ 13 → (answered_with q v next d).answer ≡ Err n → q ≡ number n
no_number {A = A} q v next d n small e =
    let f = unread_asked q v next d n e in
    let p = ap (λ (x : Stepped A Refusal). x.answer) (asked_unread q v next d f) in
    sym (number_refusal q (omega (arith, f)) small) ∙ ap number (told (answered_with q v next d).answer p e)
  where
    told : (x : Result A Refusal) → x ≡ Err (refusal q) → x ≡ Err n → refusal q ≡ n
    told x a b = cc
