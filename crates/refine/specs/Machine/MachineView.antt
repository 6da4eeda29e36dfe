-- The whole machine as 000's `Variables`: the record of its kind, with what lies in lent memory beside it, and the sync requests, which all
-- kinds have. What record and lent memory add to the view stands in records of its own.
use Rattle.std.specs.Prelude.{ℕ, ◌*◌, ◌≤◌, true, cond, ◌≡◌, eqb, length, take}
use Rattle.std.proofs.Math.Option.{Option, none, some}
use Rattle.laws.specs.Sets.{Map, Distinct}
use Rattle.laws.specs.Optional.{option_of}
use Rattle.layout.specs.declared.Geometry.{Geometry}
use Rattle.layout.specs.Geometry.{num_journal_blocks, ValidGeometry}
use Rattle.superblock.specs.declared.DiskOp.{DiskOp}
use Rattle.superblock.specs.declared.DiskOp.TheVariants as op
use Rattle.superblock.specs.declared.JournalRead.{JournalRead}
use Rattle.superblock.specs.declared.JournalRead.TheVariants as journal_read
use Rattle.tables.specs.declared.SyncTable.{SyncTable}
use Rattle.tables.specs.IdTable.{SizedIds}
use Rattle.tables.specs.SyncTable.{sync_map, SizedSyncs, valid_states}
use Rattle.range.specs.Form.{block_size}
use Rattle.codec.specs.Codec.{JournalRange}
use Rattle.source.specs.JournalDisk as D
use Rattle.source.specs.JournalCache.{Variables, SyncReqStatus, State1, State2, State3}
use Rattle.source.specs.Limits.{limits}
use Rattle.source.specs.Meets.{MachineMeets}
use Rattle.loading.specs.Which.{is_second}
use Rattle.machine.specs.declared.Machine.{Machine}
use Rattle.machine.specs.Machine.{by_kind}
use Rattle.machine.specs.Lent.{Lent}
use Rattle.refine.specs.Machine.LoadingView.{superblocks_seen, other_seen}
use Rattle.refine.specs.Machine.ReadyView.{ReadyLent, ready_of}
use Rattle.refine.specs.Machine.ReadyForm.{ReadyForm}

-- the memory beside a machine at work
abbrev pub ready_lent : Lent → ReadyLent
ready_lent l = record { bytes = l.bytes; lens = l.lens; rbytes = l.rbytes; rlens = l.rlens }

-- sync requests: 1 is State1, 2 State2 and 3 State3
abbrev pub state_of : ℕ → SyncReqStatus
state_of n = cond (eqb n 3) State3 (cond (eqb n 2) State2 State1)

abbrev pub syncs_of : Machine → Map SyncReqStatus
syncs_of m = sync_map state_of m.sync

abbrev pub machine_of : Geometry → Lent → Machine → Variables
machine_of g l m =
    by_kind m.kind
    (superblocks_seen m.superblocks (syncs_of m))
    (other_seen g l.pieces m.other (syncs_of m))
    (Variables.Ready (ready_of (ready_lent l) (syncs_of m) m.ready))

-- a disk operation as the source has it, with the blocks that lie in lent memory beside it: of a write, or of a read that is whole
abbrev pub whole_in : JournalRead → JournalRange → Option JournalRange
whole_in journal_read.Whole jr = some jr
whole_in journal_read.Damaged jr = none

abbrev pub operation_of : DiskOp → JournalRange → D.DiskOp
operation_of (op.ReqReadSuperblock id which) jr = D.ReqReadSuperblockOp id (is_second which)
operation_of (op.ReqReadJournal id v) jr = D.ReqReadJournalOp id v
operation_of (op.ReqWriteSuperblock id which superblock) jr = D.ReqWriteSuperblockOp id (is_second which) (record { superblock = superblock })
operation_of (op.ReqWriteJournal id1 id2 start count) jr = D.ReqWriteJournalOp id1 (option_of id2) (record { journal = jr; start = start })
operation_of (op.RespReadSuperblock id which superblock) jr = D.RespReadSuperblockOp id (is_second which) (option_of superblock)
operation_of (op.RespReadJournal id read) jr = D.RespReadJournalOp id (whole_in read jr)
operation_of (op.RespWriteSuperblock id which) jr = D.RespWriteSuperblockOp id (is_second which)
operation_of (op.RespWriteJournal id) jr = D.RespWriteJournalOp id
operation_of op.NoDiskOp jr = D.NoDiskOp

-- what the code's types promise: the length of each array
pub record SizedMachine (m : Machine) : Type 0 where
  pub syncs : SizedSyncs m.sync
  pub writes : SizedIds m.ready.writes

-- what lent memory adds: a valid geometry, and the lengths
pub record MachineLent (g : Geometry) (l : Lent) : Type 0 where
  pub geometry : ValidGeometry g
  pub bytes_lent : length l.bytes ≡ limits.pending_bytes
  pub lens_lent : length l.lens ≡ limits.pending_entries
  pub pieces_lent : length l.pieces ≡ num_journal_blocks g * block_size
  pub rbytes_lent : length l.rbytes ≡ num_journal_blocks g * block_size
  pub rlens_lent : length l.rlens ≡ num_journal_blocks g * block_size

-- what the record adds: the sync requests are a table, states are 1 to 3; and what the record of its kind adds
pub record SyncForm (t : SyncTable) : Type 0 where
  pub in_array : t.count ≤ length t.ids
  pub differ : Distinct (take t.count t.ids)
  pub states : valid_states t ≡ true

abbrev pub KindForm : Lent → Machine → Type 0
KindForm l m = by_kind m.kind (Unit {0}) (m.other.whichSuperblock ≤ 1) (ReadyForm (ready_lent l) m.ready)

pub record MachineForm (l : Lent) (m : Machine) : Type 0 where
  pub sync : SyncForm m.sync
  pub kind : KindForm l m

-- question 2, whole: lent memory, form, and the document's words of the view
pub record MachineMet (g : Geometry) (l : Lent) (m : Machine) : Type 0 where
  pub lent : MachineLent g l
  pub form : MachineForm l m
  pub meets : MachineMeets g limits (machine_of g l m)
