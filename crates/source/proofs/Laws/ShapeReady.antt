-- A machine's shape is kept at Ready: what is pending and what is left to replay has an allowed length through every step there.
use Rattle.std.specs.Prelude.{◌≡◌, List, [], ◌∷◌, ◌++◌}
use Rattle.std.proofs.Common.{sym, ◌∙◌, ap, subst, ⊎_elim, arith, length-append}
use Rattle.laws.specs.Fold.{sum, sum_append, each_append, each_right}
use Rattle.laws.specs.Cut.{lengths, lengths_append}
use Rattle.layout.specs.declared.Geometry.{Geometry}
use Rattle.codec.specs.Codec.{JournalEntry, EntryFits, EntriesFit, Codec}
use Rattle.source.specs.JournalDisk.{DiskOp}
use Rattle.source.specs.JournalCache
use Rattle.source.specs.JournalCache.{Variables, Ready, LoadingOther, LoadingSuperblock, ReadyVariables, IsReady, with_sync_reqs, InvReady, if_none}
use Rattle.source.specs.JournalCache.{WriteBackJournalReqStep, WriteBackJournalRespStep, WriteBackSuperblockReq-AdvanceLog-Step, WriteBackSuperblockReq-AdvanceLocation-Step, WriteBackSuperblockRespStep, PageInJournalReqStep, PageInJournalRespStep, PageInSuperblockReqStep, PageInSuperblockRespStep, FinishLoadingSuperblockPhaseStep, FinishLoadingOtherPhaseStep, FreezeStep, ReceiveFrozenLocStep, AdvanceStep, ReplayStep, PushSyncReqStep, PopSyncReqStep, NoOpStep}
use Rattle.source.specs.Limits.{Limits}
use Rattle.source.specs.Meets.{ReplayShape, ReadyShape, MachineShape}
use Rattle.source.specs.Departures.{idle_sync, Step⁺, Source, DamagedJournalStep, AskAgainStep, NextStep⁺}
use Rattle.source.specs.Within.{StepArguments}

module _ (g : Geometry) (L : Limits) where
  pub by_shape : {s s' : Variables} → s' ≡ s → MachineShape g L s → MachineShape g L s'
  by_shape e h = subst (MachineShape g L) (sym e) h

  -- what is left after a replay
  replay_left_is : (es fs : List JournalEntry) → ReplayShape g L (es ++ fs) → ReplayShape g L fs
  replay_left_is es fs h =
      record {
        few = omega (arith, h.few, length-append es fs);
        small = omega (arith, h.small, ap sum (lengths_append es fs), sum_append (lengths es) (lengths fs));
        fit = each_right (EntryFits L.entry_bytes) es fs h.fit;
      }

  -- a journal write leaves what is in memory where entries were frozen
  memory_left : (frozen memory : List JournalEntry) → EntriesFit L.entry_bytes memory → EntriesFit L.entry_bytes (if_none frozen [] memory)
  memory_left [] memory h = tt
  memory_left (e ∷ es) memory h = h

  -- the answer of a commit leaves the entries, whichever commit it is
  answer_shape : (s : ReadyVariables) (s' : Variables) (dop : DiskOp) → InvReady g s → ReadyShape g L s → JournalCache.WriteBackSuperblockRespClauses s s' dop → MachineShape g L s'
  answer_shape s s' dop inv h k =
      ⊎_elim
      (λ e. by_shape (k.advance_log_is e) (record { frozen_fit = h.frozen_fit; memory_fit = h.memory_fit; replay = h.replay }))
      (λ e. by_shape (k.advance_location_is e) (record { frozen_fit = h.frozen_fit; memory_fit = h.memory_fit; replay = h.replay }))
      (inv.if_new k.new k.new_is).commit

  replay_shape : (s : ReadyVariables) (s' : Variables) (dop : DiskOp) (es : List JournalEntry) → ReadyShape g L s → IsReady s' (λ t. JournalCache.ReplayClauses s t dop es) → MachineShape g L s'
  replay_shape s (Ready t) dop es h k =
      subst (ReadyShape g L) (sym k.next)
      (record { frozen_fit = h.frozen_fit; memory_fit = h.memory_fit; replay = replay_left_is es t.replay_journal (subst (ReplayShape g L) k.prefix h.replay) })
  replay_shape s (LoadingOther t) dop es h k = absurd k
  replay_shape s (LoadingSuperblock t) dop es h k = absurd k

  pub ready_shape : (C : Codec) (s : ReadyVariables) (s' : Variables) (dop : DiskOp) (step : Step⁺) → InvReady g s → ReadyShape g L s → StepArguments L step
      → NextStep⁺ g C (Ready s) s' dop step → MachineShape g L s'
  ready_shape C s s' dop (Source (WriteBackJournalReqStep jr)) inv h a k =
      by_shape k.source.next
      (record { frozen_fit = tt; memory_fit = memory_left s.in_memory_journal_frozen s.in_memory_journal h.memory_fit; replay = h.replay })
  ready_shape C s s' dop (Source WriteBackJournalRespStep) inv h a k = by_shape k.next (record { frozen_fit = h.frozen_fit; memory_fit = h.memory_fit; replay = h.replay })
  ready_shape C s s' dop (Source WriteBackSuperblockReq-AdvanceLog-Step) inv h a k = by_shape (k.next ∙ ap (with_sync_reqs (idle_sync (Ready s))) k.source.next) (record { frozen_fit = h.frozen_fit; memory_fit = h.memory_fit; replay = h.replay })
  ready_shape C s s' dop (Source WriteBackSuperblockReq-AdvanceLocation-Step) inv h a k = by_shape (k.next ∙ ap (with_sync_reqs (idle_sync (Ready s))) k.source.next) (record { frozen_fit = h.frozen_fit; memory_fit = h.memory_fit; replay = h.replay })
  ready_shape C s s' dop (Source WriteBackSuperblockRespStep) inv h a k = answer_shape s s' dop inv h k
  ready_shape C s s' dop (Source (PageInJournalReqStep which)) inv h a k = absurd k
  ready_shape C s s' dop (Source (PageInJournalRespStep which)) inv h a k = absurd k.1
  ready_shape C s s' dop (Source (PageInSuperblockReqStep which)) inv h a k = absurd k.source
  ready_shape C s s' dop (Source (PageInSuperblockRespStep which)) inv h a k = absurd k
  ready_shape C s s' dop (Source FinishLoadingSuperblockPhaseStep) inv h a k = absurd k
  ready_shape C s s' dop (Source FinishLoadingOtherPhaseStep) inv h a k = absurd k.source
  ready_shape C s s' dop (Source FreezeStep) inv h a k =
      by_shape k.next
      (record {
        frozen_fit = each_append (EntryFits L.entry_bytes) s.in_memory_journal_frozen s.in_memory_journal h.frozen_fit h.memory_fit;
        memory_fit = tt;
        replay = h.replay;
      })
  ready_shape C s s' dop (Source (ReceiveFrozenLocStep loc)) inv h a k = by_shape k.next (record { frozen_fit = h.frozen_fit; memory_fit = h.memory_fit; replay = h.replay })
  ready_shape C s s' dop (Source (AdvanceStep es)) inv h a k =
      by_shape k.source.next
      (record {
        frozen_fit = h.frozen_fit;
        memory_fit = each_append (EntryFits L.entry_bytes) s.in_memory_journal es h.memory_fit a.fit;
        replay = h.replay;
      })
  ready_shape C s s' dop (Source (ReplayStep es)) inv h a k = replay_shape s s' dop es h k
  ready_shape C s s' dop (Source (PushSyncReqStep id)) inv h a k = by_shape k.next (record { frozen_fit = h.frozen_fit; memory_fit = h.memory_fit; replay = h.replay })
  ready_shape C s s' dop (Source (PopSyncReqStep id)) inv h a k = by_shape k.next (record { frozen_fit = h.frozen_fit; memory_fit = h.memory_fit; replay = h.replay })
  ready_shape C s s' dop (Source NoOpStep) inv h a k = by_shape k.source.next h
  ready_shape C s s' dop DamagedJournalStep inv h a k = absurd k
  ready_shape C s s' dop (AskAgainStep which) inv h a k = absurd k
