-- A disk operation that leaves lent memory alone, at the disk of a store: a yes to what is asked of it is the source's Next, of the operation as
-- the machine names it.
use Rattle.std.specs.Prelude.{ℕ, zero, suc, ◌≤◌, Bool, ◌≡◌, refl, List, [], None, Some}
use Rattle.std.specs.declared.option.Option as code
use Rattle.std.proofs.Common.{subst, arith}
use Rattle.laws.specs.Choice.{ruin}
use Rattle.laws.specs.Optional.{option_of}
use Rattle.layout.specs.declared.Geometry.{Geometry}
use Rattle.superblock.specs.declared.DiskOp.{DiskOp}
use Rattle.superblock.specs.declared.DiskOp.TheVariants as op
use Rattle.superblock.specs.declared.Superblock.{Superblock}
use Rattle.source.specs.JournalDisk as D
use Rattle.disk.specs.declared.Disk.{Disk}
use Rattle.requests.specs.Acknowledge.{ask_read_superblock_as}
use Rattle.disk.specs.Next.{ack_read_superblock_next}
use Rattle.disk.specs.Operation.{ask_decision, operation_next}
use Rattle.requests.specs.Laws.Pairs.{bit_of}
use Rattle.requests.specs.Laws.Receive.{recv_read_superblock_asked, recv_write_superblock_asked}
use Rattle.requests.specs.Laws.Acknowledge.{read_superblock_as_waiting, ack_write_superblock_asked}
use Rattle.loading.specs.Which.{is_second}
use Rattle.refine.specs.Disk.View.{disk_of, SizedDisk}
use Rattle.refine.specs.Disk.Meets.{Met}
use Rattle.refine.specs.Disk.SuperblockReads as SuperblockReads
use Rattle.refine.specs.Disk.SuperblockWrites as SuperblockWrites
use Rattle.refine.specs.Disk.SuperblockWrites.{request_of}
use Rattle.refine.specs.Disk.JournalReads as JournalReads
use Rattle.refine.specs.Disk.JournalWrites as JournalWrites
use Rattle.refine.specs.Machine.MachineView.{operation_of}

-- neither a journal write nor a journal read's answer
abbrev pub Plain : DiskOp → Type 0
Plain (op.ReqReadSuperblock id which) = Unit {0}
Plain (op.ReqReadJournal id v) = Unit {0}
Plain (op.ReqWriteSuperblock id which superblock) = Unit {0}
Plain (op.ReqWriteJournal id1 id2 start count) = ⊥
Plain (op.RespReadSuperblock id which superblock) = Unit {0}
Plain (op.RespReadJournal id journal) = ⊥
Plain (op.RespWriteSuperblock id which) = Unit {0}
Plain (op.RespWriteJournal id) = Unit {0}
Plain op.NoDiskOp = Unit {0}

-- the disk's name of a slot and the machine's are one where there is such a slot
pub slot_same : (which : ℕ) → which ≤ 1 → bit_of which ≡ is_second which
slot_same zero h = refl
slot_same (suc zero) h = refl
slot_same (suc (suc n)) h = ruin (omega arith)

module _ (g : Geometry) (blocks marks : List ℕ) (d : Disk) (z : SizedDisk d) (m : Met g blocks marks d z) where
  abbrev before : D.Variables
  before = disk_of g blocks marks d

  read_as : (which id : ℕ) (x : code.Option Superblock) → ask_read_superblock_as d.slots d.superblockReads which id x ≡ 0
      → D.AckReadSuperblock before (disk_of g blocks marks (ack_read_superblock_next d which id)) id (bit_of which) (option_of x)
  read_as which id (Some superblock) e = SuperblockReads.read_as_clauses g d which id blocks marks m.tables (Some superblock) e
  read_as which id None e = SuperblockReads.read_as_clauses g d which id blocks marks m.tables None e

  pub decided : (o : DiskOp) → Plain o → ask_decision g d o ≡ 0 → D.Next g before (disk_of g blocks marks (operation_next g d o)) (operation_of o [])
  decided (op.ReqReadSuperblock id which) p e =
      subst (D.RecvReadSuperblock before (disk_of g blocks marks (operation_next g d (op.ReqReadSuperblock id which))) id)
      (slot_same which (recv_read_superblock_asked d.superblockReads which id e).which_in)
      (SuperblockReads.recv_read_clauses g d which id blocks marks z e)
  decided (op.ReqReadJournal id v) p e = JournalReads.recv_read_clauses g d id v blocks marks z e
  decided (op.ReqWriteSuperblock id which superblock) p e =
      subst (λ (w : Bool). D.RecvWriteSuperblock before (disk_of g blocks marks (operation_next g d (op.ReqWriteSuperblock id which superblock))) id w (request_of superblock))
      (slot_same which (recv_write_superblock_asked d.superblockWrites which id e).which_in)
      (SuperblockWrites.recv_write_clauses g d which blocks marks id superblock e)
  decided (op.ReqWriteJournal id1 id2 start count) p e = absurd p
  decided (op.RespReadSuperblock id which superblock) p e =
      subst (λ (w : Bool). D.AckReadSuperblock before (disk_of g blocks marks (operation_next g d (op.RespReadSuperblock id which superblock))) id w (option_of superblock))
      (slot_same which (read_superblock_as_waiting d.superblockReads which id d.slots superblock e).which_in)
      (read_as which id superblock e)
  decided (op.RespReadJournal id journal) p e = absurd p
  decided (op.RespWriteSuperblock id which) p e =
      subst (D.AckWriteSuperblock before (disk_of g blocks marks (operation_next g d (op.RespWriteSuperblock id which))) id)
      (slot_same which (ack_write_superblock_asked d.slots d.superblockWrites which id e).which_in)
      (SuperblockWrites.ack_write_clauses g d which blocks marks id e)
  decided (op.RespWriteJournal id) p e = JournalWrites.ack_write_clauses g d id blocks marks z m.tables e
  decided op.NoDiskOp p e = record { next = refl }
