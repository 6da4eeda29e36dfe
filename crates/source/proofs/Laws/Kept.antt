-- Question 2 is kept by every allowed step that is within the limits, of a machine alone, of a disk alone, and of both halves of a system: so of
-- the next state only the counts are asked. What a system adds (`Joined`) is kept too, from `Init` on: crate history shows it.
use Rattle.std.specs.Prelude.{◌≡◌, refl, length}
use Rattle.std.proofs.Common.{sym, ◌∙◌, ap, subst}
use Rattle.std.proofs.Math.Option.{none, some}
use Rattle.layout.specs.declared.Geometry.{Geometry}
use Rattle.interval.specs.declared.JournalInterval.{JournalInterval}
use Rattle.laws.specs.Sets.{Map, same_value}
use Rattle.codec.specs.Codec.{JournalRange, SizedBlocks, Codec}
use Rattle.codec.specs.Sizes.{sized_range}
use Rattle.source.specs.JournalDisk as D
use Rattle.source.specs.JournalDisk.{DiskOp, ReqReadSuperblockOp, ReqReadJournalOp, ReqWriteSuperblockOp, ReqWriteJournalOp, RespReadSuperblockOp, RespReadJournalOp, RespWriteSuperblockOp, RespWriteJournalOp, NoDiskOp}
use Rattle.source.specs.JournalCache as M
use Rattle.source.specs.JournalCache.{IsReady}
use Rattle.source.specs.JournalCache.{WriteBackJournalReqStep, WriteBackJournalRespStep, WriteBackSuperblockReq-AdvanceLog-Step, WriteBackSuperblockReq-AdvanceLocation-Step, WriteBackSuperblockRespStep, PageInJournalReqStep, PageInJournalRespStep, PageInSuperblockReqStep, PageInSuperblockRespStep, FinishLoadingSuperblockPhaseStep, FinishLoadingOtherPhaseStep, FreezeStep, ReceiveFrozenLocStep, AdvanceStep, ReplayStep, PushSyncReqStep, PopSyncReqStep, NoOpStep}
use Rattle.source.specs.JournalSystem as Y
use Rattle.source.specs.Limits.{Limits, Fitting}
use Rattle.source.specs.Meets.{MachineMeets, DiskMeets, SystemMeets}
use Rattle.source.specs.Departures.{OneRange, DamagedJournalClauses, AskAgainClauses, Step⁺, Source, DamagedJournalStep, AskAgainStep, NextStep⁺, Event, MachineStep, DiskInternalStep, CrashStep, Allowed}
use Rattle.source.specs.Within.{MachineAllowed, AwaitedPiece, MachineWithin, DiskEvent, Operation, Internal, Crashed, DiskAllowed, WholeBlocks, DiskWithin, Within}
use Rattle.source.proofs.Laws.Cases.{by_ready, by_other, by_superblock}
use Rattle.source.proofs.Laws.Initial.{initial_meets}
use Rattle.source.proofs.Laws.Preserved.{inv_kept⁺}
use Rattle.source.proofs.Laws.ShapeMachine.{machine_shape}
use Rattle.source.proofs.Laws.ShapeDisk.{disk_shape}

-- The halves

pub machine_kept : (g : Geometry) (C : Codec) (L : Limits) → Fitting C L → (s s' : M.Variables) (dop : DiskOp) (step : Step⁺) → MachineAllowed g C L s s' dop step → MachineWithin g L s s' dop step
    → MachineMeets g L s'
machine_kept g C L fits s s' dop step h w =
    record {
      inv = inv_kept⁺ g C s s' dop step h.meets.inv h.step;
      counts = w.counts;
      shape = machine_shape g L C fits s s' dop step h.meets.inv h.meets.shape w.arguments w.piece h.step;
    }

pub disk_kept : (g : Geometry) (L : Limits) (d d' : D.Variables) (event : DiskEvent) → DiskAllowed g L d d' event → DiskWithin g L d' event → DiskMeets g L d'
disk_kept g L d d' event h w = record { counts = w.counts; shape = disk_shape g d d' h.meets.shape event w.arguments h.step }

-- The range of a journal write is whole blocks

module _ (g : Geometry) (C : Codec) (s s' : M.Variables) (dop : DiskOp) where
  abbrev blocks : M.Variables → Type 0
  blocks t = WholeBlocks dop

  -- an operation that is no journal write
  by_op : (d : DiskOp) → dop ≡ d → WholeBlocks d → WholeBlocks dop
  by_op d e b = subst WholeBlocks (sym e) b

  idle_blocks : (t : M.Variables) → M.NoOpOp t dop → WholeBlocks dop
  idle_blocks t (M.NoOpOp.no_op_is e) = by_op NoDiskOp e tt
  idle_blocks t (M.NoOpOp.superblock_read_op id which superblock e) = by_op (RespReadSuperblockOp id which superblock) e tt
  idle_blocks t (M.NoOpOp.journal_read_is id journal e) = by_op (RespReadJournalOp id journal) e tt
  idle_blocks t (M.NoOpOp.superblock_written_is id which e f) = by_op (RespWriteSuperblockOp id which) e tt
  idle_blocks t (M.NoOpOp.journal_written_is id e f) = by_op (RespWriteJournalOp id) e tt

  pub step_blocks_is : (step : Step⁺) → NextStep⁺ g C s s' dop step → WholeBlocks dop
  step_blocks_is (Source (WriteBackJournalReqStep jr)) h = go s h.source h.one_range
    where
      go : (t : M.Variables) (k : M.WriteBackJournalReq g C t s' dop jr) → IsReady t (λ r. OneRange C (M.to_write r) jr) → WholeBlocks dop
      go (M.Variables.Ready r) k o =
          by_op (ReqWriteJournalOp k.id1 k.id2 k.req) k.op
          (subst (λ (x : JournalRange). SizedBlocks (length x) x) (sym (k.journal_is ∙ o.range_is)) (C.encode_size (M.to_write r)))
      go (M.Variables.LoadingOther r) k o = absurd k
      go (M.Variables.LoadingSuperblock r) k o = absurd k
  step_blocks_is (Source WriteBackJournalRespStep) h = by_ready blocks s (λ r. M.WriteBackJournalRespClauses r s' dop) (λ r k. by_op (RespWriteJournalOp k.id) k.op tt) h
  step_blocks_is (Source WriteBackSuperblockReq-AdvanceLog-Step) h =
      by_ready blocks s (λ r. M.WriteBackSuperblockReq-AdvanceLogClauses g r h.asked dop) (λ r k. by_op (ReqWriteSuperblockOp k.id k.which k.req) k.op tt) h.source
  step_blocks_is (Source WriteBackSuperblockReq-AdvanceLocation-Step) h =
      by_ready blocks s (λ r. M.WriteBackSuperblockReq-AdvanceLocationClauses g r h.asked dop) (λ r k. by_op (ReqWriteSuperblockOp k.id k.which k.req) k.op tt) h.source
  step_blocks_is (Source WriteBackSuperblockRespStep) h = by_ready blocks s (λ r. M.WriteBackSuperblockRespClauses r s' dop) (λ r k. by_op (RespWriteSuperblockOp k.id k.which) k.op tt) h
  step_blocks_is (Source (PageInJournalReqStep which)) h = by_other blocks s (λ r. M.PageInJournalReqClauses g r s' dop which) (λ r k. by_op (ReqReadJournalOp k.id k.interval) k.op tt) h
  step_blocks_is (Source (PageInJournalRespStep which)) h =
      by_other blocks s (λ r. M.PageInJournalRespClauses r s' dop h.0) (λ r k. by_op (RespReadJournalOp k.id (some k.jr)) k.op tt) h.1
  step_blocks_is (Source (PageInSuperblockReqStep which)) h =
      by_superblock blocks s (λ r. M.PageInSuperblockReqClauses r s' dop which) (λ r k. by_op (ReqReadSuperblockOp k.id which) k.op tt) h.source
  step_blocks_is (Source (PageInSuperblockRespStep which)) h =
      by_superblock blocks s (λ r. M.PageInSuperblockRespClauses g r s' dop which) (λ r k. by_op (RespReadSuperblockOp k.id which k.superblock) k.op tt) h
  step_blocks_is (Source FinishLoadingSuperblockPhaseStep) h = by_superblock blocks s (λ r. M.FinishLoadingSuperblockPhaseClauses r s' dop) (λ r k. by_op NoDiskOp k.op tt) h
  step_blocks_is (Source FinishLoadingOtherPhaseStep) h =
      by_other blocks s (λ r. IsReady s' (λ t. M.FinishLoadingOtherPhaseClauses g C r t dop))
      (λ r k. by_ready blocks s' (λ t. M.FinishLoadingOtherPhaseClauses g C r t dop) (λ t c. by_op NoDiskOp c.op tt) k) h.source
  step_blocks_is (Source FreezeStep) h = by_ready blocks s (λ r. M.FreezeClauses r s' dop) (λ r k. by_op NoDiskOp k.op tt) h
  step_blocks_is (Source (ReceiveFrozenLocStep loc)) h = by_ready blocks s (λ r. M.ReceiveFrozenLocClauses g r s' dop loc) (λ r k. by_op NoDiskOp k.op tt) h
  step_blocks_is (Source (AdvanceStep es)) h = by_ready blocks s (λ r. M.AdvanceClauses r s' dop es) (λ r k. by_op NoDiskOp k.op tt) h.source
  step_blocks_is (Source (ReplayStep es)) h =
      by_ready blocks s (λ r. IsReady s' (λ t. M.ReplayClauses r t dop es)) (λ r k. by_ready blocks s' (λ t. M.ReplayClauses r t dop es) (λ t c. by_op NoDiskOp c.op tt) k) h
  step_blocks_is (Source (PushSyncReqStep id)) h = by_op NoDiskOp h.op tt
  step_blocks_is (Source (PopSyncReqStep id)) h = by_op NoDiskOp h.op tt
  step_blocks_is (Source NoOpStep) h = idle_blocks s h.source.op
  step_blocks_is DamagedJournalStep h = by_other blocks s (λ r. DamagedJournalClauses r s' dop) (λ r k. by_op (RespReadJournalOp k.id none) k.op tt) h
  step_blocks_is (AskAgainStep which) h = by_superblock blocks s (λ r. AskAgainClauses r s' dop which) (λ r k. by_op NoDiskOp k.op tt) h

-- The system: an awaited answer is the disk's own blocks

pub answer_piece : (g : Geometry) (L : Limits) (s : Y.Variables) (d' : D.Variables) (dop : DiskOp) → SystemMeets g L s → D.Next g s.disk d' dop → AwaitedPiece g s.machine dop
answer_piece g L s d' dop m h id jr v e q =
    let k = subst (D.Next g s.disk d') e h in
    let at-disk : s.disk.req_read_journals id ≡ some v = ap (λ (r : Map JournalInterval). r id) m.joined.journal_reads_is ∙ q in
    let v-is : k.ind ≡ v = same_value k.waiting at-disk in
    subst (λ (u : JournalInterval). SizedBlocks u.len jr) v-is
    (subst (SizedBlocks k.ind.len) (sym (k.whole jr refl))
    (sized_range g s.disk.journal k.ind m.disk.shape.block_size (m.disk.shape.reads_contiguous id k.ind k.waiting).valid (k.readable jr refl)))

-- both halves meet question 2 after an allowed step
pub record HalvesMeet (g : Geometry) (L : Limits) (s : Y.Variables) : Type 0 where
  pub machine : MachineMeets g L s.machine
  pub disk : DiskMeets g L s.disk

-- what an event is to the disk
abbrev pub disk_event : Event → DiskEvent
disk_event (MachineStep dop step) = Operation dop
disk_event (DiskInternalStep step) = Internal step
disk_event (CrashStep picture) = Crashed picture

module _ (g : Geometry) (C : Codec) (L : Limits) (s s' : Y.Variables) where
  -- the disk's half of an allowed step, and within the limits
  pub allowed_disk : (event : Event) → Allowed g C L s s' event → DiskAllowed g L s.disk s'.disk (disk_event event)
  allowed_disk (MachineStep dop step) h = record { meets = h.meets.disk; step = h.step.disk }
  allowed_disk (DiskInternalStep step) h = record { meets = h.meets.disk; step = h.step.disk }
  allowed_disk (CrashStep picture) h = record { meets = h.meets.disk; step = h.step.disk }

  pub within_disk : (event : Event) → Allowed g C L s s' event → Within g L s' event → DiskWithin g L s'.disk (disk_event event)
  within_disk (MachineStep dop step) h w =
      record { geometry = w.geometry; arguments = step_blocks_is g C s.machine s'.machine dop step h.step.machine; counts = w.disk }
  within_disk (DiskInternalStep step) h w = record { geometry = w.geometry; arguments = tt; counts = w.disk }
  within_disk (CrashStep picture) h w = record { geometry = w.geometry; arguments = w.arguments; counts = w.disk }

  -- the machine's half
  machine_half : Fitting C L → (event : Event) → Allowed g C L s s' event → Within g L s' event → MachineMeets g L s'.machine
  machine_half fits (MachineStep dop step) h w =
      machine_kept g C L fits s.machine s'.machine dop step (record { meets = h.meets.machine; step = h.step.machine })
      (record { geometry = w.geometry; arguments = w.arguments; piece = answer_piece g L s s'.disk dop h.meets h.step.disk; counts = w.machine })
  machine_half fits (DiskInternalStep step) h w = subst (MachineMeets g L) h.step.machine h.meets.machine
  machine_half fits (CrashStep picture) h w = initial_meets g L s'.machine h.step.machine

  pub halves_kept : Fitting C L → (event : Event) → Allowed g C L s s' event → Within g L s' event → HalvesMeet g L s'
  halves_kept fits event h w =
      record {
        machine = machine_half fits event h w;
        disk = disk_kept g L s.disk s'.disk (disk_event event) (allowed_disk event h) (within_disk event h w);
      }
