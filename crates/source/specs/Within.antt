-- A machine alone, which knows no disk, and a disk alone, as question 2 lets them step; and when a step, allowed by the sources and the
-- departures, is within document 01's limits: its arguments are in range (question 4) and the counts of the state that it leads to are
-- (question 8). Nothing else stands between an allowed step and one that is taken.
use Rattle.std.specs.Prelude.{◌≡◌, List, length}
use Rattle.std.proofs.Math.Option.{Option, some}
use Rattle.layout.specs.declared.Geometry.{Geometry}
use Rattle.layout.specs.Geometry.{num_journal_blocks, ValidGeometry}
use Rattle.interval.specs.declared.JournalInterval.{JournalInterval}
use Rattle.interval.specs.Journal.{JournalBlock}
use Rattle.codec.specs.Codec.{JournalRange, SizedBlocks, Sized, Codec}
use Rattle.source.specs.JournalDisk as D
use Rattle.source.specs.JournalDisk.{ReqId, DiskOp, ReqReadSuperblockOp, ReqReadJournalOp, ReqWriteSuperblockOp, ReqWriteJournalOp, RespReadSuperblockOp, RespReadJournalOp, RespWriteSuperblockOp, RespWriteJournalOp, NoDiskOp}
use Rattle.source.specs.JournalCache as M
use Rattle.source.specs.JournalSystem as Y
use Rattle.source.specs.Limits.{Limits, MachineCounts, DiskCounts, StepLimits}
use Rattle.source.specs.Meets.{MachineMeets, DiskMeets, awaited_journal_reads}
use Rattle.source.specs.Departures.{Step⁺, Source, DamagedJournalStep, AskAgainStep, NextStep⁺, DiskCrash⁺, Event, MachineStep, DiskInternalStep, CrashStep}

-- The machine

pub record MachineAllowed (g : Geometry) (C : Codec) (L : Limits) (s s' : M.Variables) (dop : DiskOp) (machineStep : Step⁺) : Type 0 where
  pub meets : MachineMeets g L s
  pub step : NextStep⁺ g C s s' dop machineStep

abbrev pub StepArguments : Limits → Step⁺ → Type 0
StepArguments L (Source step) = StepLimits L step
StepArguments L DamagedJournalStep = Unit {0}
StepArguments L (AskAgainStep which) = Unit {0}

-- a whole journal answer that is awaited has its interval's length, in blocks and in bytes
abbrev pub AwaitedPiece : Geometry → M.Variables → DiskOp → Type 0
AwaitedPiece g s dop = (id : ReqId) (jr : JournalRange) (v : JournalInterval) → dop ≡ RespReadJournalOp id (some jr) → awaited_journal_reads g s id ≡ some v → SizedBlocks v.len jr

pub record MachineWithin (g : Geometry) (L : Limits) (s s' : M.Variables) (dop : DiskOp) (machineStep : Step⁺) : Type 0 where
  pub geometry : ValidGeometry g
  pub arguments : StepArguments L machineStep
  pub piece : AwaitedPiece g s dop
  pub counts : MachineCounts L s'

-- The disk

pub data DiskEvent : Type 0 where
  Operation : (dop : DiskOp) → DiskEvent
  Internal : (step : D.InternalStep) → DiskEvent
  Crashed : (picture : List (Option JournalBlock)) → DiskEvent

abbrev pub DiskStep⁺ : Geometry → D.Variables → D.Variables → DiskEvent → Type 0
DiskStep⁺ g s s' (Operation dop) = D.Next g s s' dop
DiskStep⁺ g s s' (Internal step) = D.NextInternalStep s s' step
DiskStep⁺ g s s' (Crashed picture) = DiskCrash⁺ g s s' picture

pub record DiskAllowed (g : Geometry) (L : Limits) (s s' : D.Variables) (event : DiskEvent) : Type 0 where
  pub meets : DiskMeets g L s
  pub step : DiskStep⁺ g s s' event

-- a journal write is of whole blocks
abbrev pub WholeBlocks : DiskOp → Type 0
WholeBlocks (ReqWriteJournalOp id1 id2 req) = SizedBlocks (length req.journal) req.journal
WholeBlocks (ReqReadSuperblockOp id which) = Unit {0}
WholeBlocks (ReqReadJournalOp id interval) = Unit {0}
WholeBlocks (ReqWriteSuperblockOp id which req) = Unit {0}
WholeBlocks (RespReadSuperblockOp id which superblock) = Unit {0}
WholeBlocks (RespReadJournalOp id journal) = Unit {0}
WholeBlocks (RespWriteSuperblockOp id which) = Unit {0}
WholeBlocks (RespWriteJournalOp id) = Unit {0}
WholeBlocks NoDiskOp = Unit {0}

-- a picture of N blocks
pub record Picture (g : Geometry) (picture : List (Option JournalBlock)) : Type 0 where
  pub size : length picture ≡ num_journal_blocks g
  pub block_size : Sized picture

abbrev pub DiskArguments : Geometry → DiskEvent → Type 0
DiskArguments g (Operation dop) = WholeBlocks dop
DiskArguments g (Internal step) = Unit {0}
DiskArguments g (Crashed picture) = Picture g picture

pub record DiskWithin (g : Geometry) (L : Limits) (s' : D.Variables) (event : DiskEvent) : Type 0 where
  pub geometry : ValidGeometry g
  pub arguments : DiskArguments g event
  pub counts : DiskCounts L s'

-- The system: a journal write's blocks are the machine's range and an answer's piece is the disk's, so neither is an argument

abbrev pub EventArguments : Geometry → Limits → Event → Type 0
EventArguments g L (MachineStep dop step) = StepArguments L step
EventArguments g L (DiskInternalStep step) = Unit {0}
EventArguments g L (CrashStep picture) = Picture g picture

pub record Within (g : Geometry) (L : Limits) (s' : Y.Variables) (event : Event) : Type 0 where
  pub geometry : ValidGeometry g
  pub arguments : EventArguments g L event
  pub machine : MachineCounts L s'.machine
  pub disk : DiskCounts L s'.disk
