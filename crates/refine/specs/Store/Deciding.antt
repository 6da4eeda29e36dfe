-- The way back of Operations: an operation that leaves lent memory alone and that the source allows at the disk of a store, within the limits, is
-- answered yes, and the view of the disk after it is the source's next state.
use Rattle.std.specs.Prelude.{ℕ, ◌≤◌, Bool, ◌≡◌, refl, List, [], None, Some}
use Rattle.std.specs.declared.option.Option as code
use Rattle.std.proofs.Common.{sym, subst}
use Rattle.laws.specs.Optional.{option_of}
use Rattle.layout.specs.declared.Geometry.{Geometry}
use Rattle.superblock.specs.declared.DiskOp.{DiskOp}
use Rattle.superblock.specs.declared.DiskOp.TheVariants as op
use Rattle.superblock.specs.declared.Superblock.{Superblock}
use Rattle.source.specs.JournalDisk as D
use Rattle.source.specs.Limits.{limits, DiskCounts}
use Rattle.source.proofs.Laws.Unique.{disk_next_one}
use Rattle.disk.specs.declared.Disk.{Disk}
use Rattle.requests.specs.Acknowledge.{ask_read_superblock_as}
use Rattle.disk.specs.Operation.{ask_decision, operation_next}
use Rattle.requests.specs.Laws.Pairs.{bit_of}
use Rattle.refine.specs.Disk.View.{disk_of, SizedDisk}
use Rattle.refine.specs.Disk.Meets.{Met}
use Rattle.refine.specs.Disk.SuperblockReads as SuperblockReads
use Rattle.refine.specs.Disk.SuperblockWrites as SuperblockWrites
use Rattle.refine.specs.Disk.SuperblockWrites.{request_of}
use Rattle.refine.specs.Disk.JournalReads as JournalReads
use Rattle.refine.specs.Disk.JournalWrites as JournalWrites
use Rattle.refine.specs.Machine.MachineView.{operation_of}
use Rattle.refine.specs.Store.Operations.{Plain, slot_same, decided}

-- the slot of an operation is there
abbrev pub SlotIn : DiskOp → Type 0
SlotIn (op.ReqReadSuperblock id which) = which ≤ 1
SlotIn (op.ReqReadJournal id v) = Unit {0}
SlotIn (op.ReqWriteSuperblock id which superblock) = which ≤ 1
SlotIn (op.ReqWriteJournal id1 id2 start count) = Unit {0}
SlotIn (op.RespReadSuperblock id which superblock) = which ≤ 1
SlotIn (op.RespReadJournal id journal) = Unit {0}
SlotIn (op.RespWriteSuperblock id which) = which ≤ 1
SlotIn (op.RespWriteJournal id) = Unit {0}
SlotIn op.NoDiskOp = Unit {0}

module _ (g : Geometry) (blocks marks : List ℕ) (d : Disk) (z : SizedDisk d) (m : Met g blocks marks d z) (s' : D.Variables) where
  abbrev before : D.Variables
  before = disk_of g blocks marks d

  asks_read : (id which : ℕ) (x : code.Option Superblock) → which ≤ 1 → D.AckReadSuperblock before s' id (bit_of which) (option_of x)
      → ask_read_superblock_as d.slots d.superblockReads which id x ≡ 0
  asks_read id which (Some superblock) w a = SuperblockReads.clauses_read_as g d which id blocks marks w (option_of (Some superblock)) s' a
  asks_read id which None w a = SuperblockReads.clauses_read_as g d which id blocks marks w (option_of None) s' a

  pub asks_decision : (o : DiskOp) → Plain o → SlotIn o → D.Next g before s' (operation_of o []) → DiskCounts limits s' → ask_decision g d o ≡ 0
  asks_decision (op.ReqReadSuperblock id which) p w a c =
      SuperblockReads.clauses_recv_read g d which id blocks marks z m.tables w s' (subst (D.RecvReadSuperblock before s' id) (sym (slot_same which w)) a)
      (c.superblock_reads_few (bit_of which))
  asks_decision (op.ReqReadJournal id v) p w a c = JournalReads.clauses_recv_read g d id v blocks marks z m.tables s' a c.journal_reads_few
  asks_decision (op.ReqWriteSuperblock id which superblock) p w a c =
      SuperblockWrites.clauses_recv_write g d which blocks marks id superblock w s'
      (subst (λ (x : Bool). D.RecvWriteSuperblock before s' id x (request_of superblock)) (sym (slot_same which w)) a)
  asks_decision (op.ReqWriteJournal id1 id2 start count) p w a c = absurd p
  asks_decision (op.RespReadSuperblock id which superblock) p w a c =
      asks_read id which superblock w (subst (λ (x : Bool). D.AckReadSuperblock before s' id x (option_of superblock)) (sym (slot_same which w)) a)
  asks_decision (op.RespReadJournal id journal) p w a c = absurd p
  asks_decision (op.RespWriteSuperblock id which) p w a c =
      SuperblockWrites.clauses_ack_write g d which blocks marks id w s' (subst (D.AckWriteSuperblock before s' id) (sym (slot_same which w)) a)
  asks_decision (op.RespWriteJournal id) p w a c = JournalWrites.clauses_ack_write g d id blocks marks z s' a
  asks_decision op.NoDiskOp p w a c = refl

  pub next_decided : (o : DiskOp) → Plain o → D.Next g before s' (operation_of o []) → ask_decision g d o ≡ 0 → disk_of g blocks marks (operation_next g d o) ≡ s'
  next_decided o p a e = disk_next_one g before (disk_of g blocks marks (operation_next g d o)) s' (operation_of o []) (decided g blocks marks d z m o p e) a
