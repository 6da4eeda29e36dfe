-- What every step does to the sync requests. A freeze, a write of entries in memory, and a commit request with none in memory move State3 to
-- State2, and a commit's awaited answer moves State2 to State1; a push brings one and a pop takes one. No other step touches them: a write of
-- frozen entries and a landing leave them. A crash leaves none.
use Rattle.std.specs.Prelude.{◌≡◌}
use Rattle.std.proofs.Common.{sym, ◌∙◌, ap, ⊎_elim}
use Rattle.laws.specs.Sets.{Map, no_keys, bind, unbind}
use Rattle.layout.specs.declared.Geometry.{Geometry}
use Rattle.codec.specs.Codec.{Codec}
use Rattle.source.specs.JournalDisk.{DiskOp}
use Rattle.source.specs.JournalCache as M
use Rattle.source.specs.JournalCache.{Variables, Ready, LoadingOther, LoadingSuperblock, SyncReqStatus, State3, sync_reqs_of, sync_reqs3to2, sync_reqs2to1, IsReady, if_none, Inv}
use Rattle.source.specs.JournalCache.{WriteBackJournalReqStep, WriteBackJournalRespStep, WriteBackSuperblockReq-AdvanceLog-Step, WriteBackSuperblockReq-AdvanceLocation-Step, WriteBackSuperblockRespStep, PageInJournalReqStep, PageInJournalRespStep, PageInSuperblockReqStep, PageInSuperblockRespStep, FinishLoadingSuperblockPhaseStep, FinishLoadingOtherPhaseStep, FreezeStep, ReceiveFrozenLocStep, AdvanceStep, ReplayStep, PushSyncReqStep, PopSyncReqStep, NoOpStep}
use Rattle.source.specs.JournalSystem as Y
use Rattle.source.specs.JournalSystem.{on_ready}
use Rattle.source.specs.Limits.{Limits}
use Rattle.source.specs.Departures.{idle_sync, DamagedJournalClauses, AskAgainClauses, Step⁺, Source, DamagedJournalStep, AskAgainStep, NextStep⁺, Event, MachineStep, DiskInternalStep, CrashStep, Allowed}
use Rattle.source.proofs.Laws.Cases.{by_ready, by_other, by_superblock}
use Rattle.source.proofs.Laws.Idle.{sync_with}

-- by the frozen entries: if there are none, those in memory are written
abbrev pub write_sync : Variables → Map SyncReqStatus
write_sync s = on_ready s (λ r. if_none r.in_memory_journal_frozen (sync_reqs3to2 r.sync_reqs) r.sync_reqs) (sync_reqs_of s)

abbrev pub step_sync : Variables → Step⁺ → Map SyncReqStatus
step_sync s (Source (WriteBackJournalReqStep jr)) = write_sync s
step_sync s (Source FreezeStep) = sync_reqs3to2 (sync_reqs_of s)
step_sync s (Source WriteBackSuperblockRespStep) = sync_reqs2to1 (sync_reqs_of s)
step_sync s (Source (PushSyncReqStep id)) = bind (sync_reqs_of s) id State3
step_sync s (Source (PopSyncReqStep id)) = unbind (sync_reqs_of s) id
step_sync s (Source WriteBackSuperblockReq-AdvanceLog-Step) = idle_sync s
step_sync s (Source WriteBackSuperblockReq-AdvanceLocation-Step) = idle_sync s
step_sync s (Source WriteBackJournalRespStep) = sync_reqs_of s
step_sync s (Source (PageInJournalReqStep which)) = sync_reqs_of s
step_sync s (Source (PageInJournalRespStep which)) = sync_reqs_of s
step_sync s (Source (PageInSuperblockReqStep which)) = sync_reqs_of s
step_sync s (Source (PageInSuperblockRespStep which)) = sync_reqs_of s
step_sync s (Source FinishLoadingSuperblockPhaseStep) = sync_reqs_of s
step_sync s (Source FinishLoadingOtherPhaseStep) = sync_reqs_of s
step_sync s (Source (ReceiveFrozenLocStep loc)) = sync_reqs_of s
step_sync s (Source (AdvanceStep new-je)) = sync_reqs_of s
step_sync s (Source (ReplayStep replayed-je)) = sync_reqs_of s
step_sync s (Source NoOpStep) = sync_reqs_of s
step_sync s DamagedJournalStep = sync_reqs_of s
step_sync s (AskAgainStep which) = sync_reqs_of s

abbrev pub event_sync : Y.Variables → Event → Map SyncReqStatus
event_sync s (MachineStep dop machineStep) = step_sync s.machine machineStep
event_sync s (DiskInternalStep step) = sync_reqs_of s.machine
event_sync s (CrashStep picture) = no_keys

module _ (g : Geometry) (C : Codec) (s s' : Variables) (dop : DiskOp) where
  -- what is to be shown, over the machine before
  abbrev leads : Step⁺ → Variables → Type 0
  leads step t = sync_reqs_of s' ≡ step_sync t step

  pub step_sync_is : (step : Step⁺) → Inv g s → NextStep⁺ g C s s' dop step → sync_reqs_of s' ≡ step_sync s step
  step_sync_is (Source (WriteBackJournalReqStep jr)) inv h =
      by_ready (leads (Source (WriteBackJournalReqStep jr))) s (λ r. M.WriteBackJournalReqClauses g C r s' dop jr) (λ r k. ap sync_reqs_of k.next) h.source
  step_sync_is (Source FreezeStep) inv h = by_ready (leads (Source FreezeStep)) s (λ r. M.FreezeClauses r s' dop) (λ r k. ap sync_reqs_of k.next) h
  step_sync_is (Source WriteBackSuperblockRespStep) inv h = go s inv h
    where
      go : (t : Variables) → Inv g t → M.WriteBackSuperblockResp t s' dop → sync_reqs_of s' ≡ sync_reqs2to1 (sync_reqs_of t)
      go (Ready r) inv k = ⊎_elim (λ e. ap sync_reqs_of (k.advance_log_is e)) (λ e. ap sync_reqs_of (k.advance_location_is e)) (inv.if_new k.new k.new_is).commit
      go (LoadingOther r) inv k = absurd k
      go (LoadingSuperblock r) inv k = absurd k
  step_sync_is (Source (PushSyncReqStep id)) inv h = ap sync_reqs_of h.next ∙ sync_with (bind (sync_reqs_of s) id State3) s
  step_sync_is (Source (PopSyncReqStep id)) inv h = ap sync_reqs_of h.next ∙ sync_with (unbind (sync_reqs_of s) id) s
  step_sync_is (Source WriteBackSuperblockReq-AdvanceLog-Step) inv h = ap sync_reqs_of h.next ∙ sync_with (idle_sync s) h.asked
  step_sync_is (Source WriteBackSuperblockReq-AdvanceLocation-Step) inv h = ap sync_reqs_of h.next ∙ sync_with (idle_sync s) h.asked
  step_sync_is (Source WriteBackJournalRespStep) inv h = by_ready (leads (Source WriteBackJournalRespStep)) s (λ r. M.WriteBackJournalRespClauses r s' dop) (λ r k. ap sync_reqs_of k.next) h
  step_sync_is (Source (PageInJournalReqStep which)) inv h = by_other (leads (Source (PageInJournalReqStep which))) s (λ r. M.PageInJournalReqClauses g r s' dop which) (λ r k. ap sync_reqs_of k.next) h
  step_sync_is (Source (PageInJournalRespStep which)) inv h =
      by_other (leads (Source (PageInJournalRespStep which))) s (λ r. M.PageInJournalRespClauses r s' dop h.0) (λ r k. ap sync_reqs_of k.next) h.1
  step_sync_is (Source (PageInSuperblockReqStep which)) inv h =
      by_superblock (leads (Source (PageInSuperblockReqStep which))) s (λ r. M.PageInSuperblockReqClauses r s' dop which) (λ r k. ap sync_reqs_of k.next) h.source
  step_sync_is (Source (PageInSuperblockRespStep which)) inv h =
      by_superblock (leads (Source (PageInSuperblockRespStep which))) s (λ r. M.PageInSuperblockRespClauses g r s' dop which) (λ r k. ap sync_reqs_of k.next) h
  step_sync_is (Source FinishLoadingSuperblockPhaseStep) inv h =
      by_superblock (leads (Source FinishLoadingSuperblockPhaseStep)) s (λ r. M.FinishLoadingSuperblockPhaseClauses r s' dop) (λ r k. ap sync_reqs_of k.next) h
  step_sync_is (Source FinishLoadingOtherPhaseStep) inv h =
      by_other (leads (Source FinishLoadingOtherPhaseStep)) s (λ r. IsReady s' (λ t. M.FinishLoadingOtherPhaseClauses g C r t dop))
      (λ r k. by_ready (λ t. sync_reqs_of t ≡ r.sync_reqs) s' (λ t. M.FinishLoadingOtherPhaseClauses g C r t dop) (λ t c. c.sync_reqs_is) k) h.source
  step_sync_is (Source (ReceiveFrozenLocStep loc)) inv h = by_ready (leads (Source (ReceiveFrozenLocStep loc))) s (λ r. M.ReceiveFrozenLocClauses g r s' dop loc) (λ r k. ap sync_reqs_of k.next) h
  step_sync_is (Source (AdvanceStep new-je)) inv h = by_ready (leads (Source (AdvanceStep new-je))) s (λ r. M.AdvanceClauses r s' dop new-je) (λ r k. ap sync_reqs_of k.next) h.source
  step_sync_is (Source (ReplayStep replayed-je)) inv h =
      by_ready (leads (Source (ReplayStep replayed-je))) s (λ r. IsReady s' (λ t. M.ReplayClauses r t dop replayed-je))
      (λ r k. by_ready (λ t. sync_reqs_of t ≡ r.sync_reqs) s' (λ t. M.ReplayClauses r t dop replayed-je) (λ t c. ap (λ (x : M.ReadyVariables). x.sync_reqs) c.next) k) h
  step_sync_is (Source NoOpStep) inv h = ap sync_reqs_of h.source.next
  step_sync_is DamagedJournalStep inv h = by_other (leads DamagedJournalStep) s (λ r. DamagedJournalClauses r s' dop) (λ r k. ap sync_reqs_of k.next) h
  step_sync_is (AskAgainStep which) inv h = by_superblock (leads (AskAgainStep which)) s (λ r. AskAgainClauses r s' dop which) (λ r k. ap sync_reqs_of k.next) h

pub event_sync_is : (g : Geometry) (C : Codec) (L : Limits) (s s' : Y.Variables) (event : Event) → Allowed g C L s s' event → sync_reqs_of s'.machine ≡ event_sync s event
event_sync_is g C L s s' (MachineStep dop machineStep) h = step_sync_is g C s.machine s'.machine dop machineStep h.meets.machine.inv h.step.machine
event_sync_is g C L s s' (DiskInternalStep step) h = ap sync_reqs_of (sym h.step.machine)
event_sync_is g C L s s' (CrashStep picture) h = ap sync_reqs_of h.step.machine
