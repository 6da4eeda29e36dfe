-- 000's invariant is kept: its `Inv` holds after every step of the source, of ask again and of a damaged journal answer, where it held
-- before. So what question 2 asks of a machine beside the limits never turns away a machine that came from `Init` by its own steps.
use Rattle.std.specs.Prelude.{Bool, true, false, cond, not, ◌≡◌, refl, ◌++◌}
use Rattle.std.proofs.Common.{sym, ◌∙◌, ap, subst, ⊎_elim, arith}
use Rattle.std.proofs.Math.Option.{Option, none, some}
use Rattle.laws.specs.Choice.{ruin, true_false, split_bool}
use Rattle.layout.specs.declared.Geometry.{Geometry}
use Rattle.interval.specs.declared.JournalInterval.{JournalInterval}
use Rattle.superblock.specs.declared.Superblock.{Superblock}
use Rattle.superblock.specs.Superblock.{wf_superblock}
use Rattle.superblock.specs.Laws.{WFSuperblock, superblock_facts}
use Rattle.laws.specs.Sets.{Map, bind, unbind, at, put, none_some, at_both}
use Rattle.codec.specs.Codec.{JournalRange, Codec}
use Rattle.source.specs.JournalDisk.{ReqId, DiskOp}
use Rattle.source.specs.JournalCache
use Rattle.source.specs.Departures.{idle_sync, DamagedJournalClauses, AskAgainClauses, Step⁺, Source, DamagedJournalStep, AskAgainStep, NextStep⁺}
use Rattle.source.specs.JournalCache.{Variables, Ready, LoadingOther, LoadingSuperblock, ReadyVariables, LoadingOtherVariables, LoadingSuperblockVariables, SyncReqStatus, State3, SuperblockReadResult, SuperblockSuccess, SuperblockUnfinished, SuperblockCorruption}
use Rattle.source.specs.JournalCache.{to_superblocks, to_outstanding_superblock_reads, superblock_read, journal_interval_of_superblock, with_sync_reqs, sync_reqs_of, unless_is}
use Rattle.source.specs.JournalCache.{InvLoadingSuperblock, InvLoadingOther, InvReady, Inv, NextStep}
use Rattle.source.specs.JournalCache.{Step, WriteBackJournalReqStep, WriteBackJournalRespStep, WriteBackSuperblockReq-AdvanceLog-Step, WriteBackSuperblockReq-AdvanceLocation-Step, WriteBackSuperblockRespStep, PageInJournalReqStep, PageInJournalRespStep, PageInSuperblockReqStep, PageInSuperblockRespStep, FinishLoadingSuperblockPhaseStep, FinishLoadingOtherPhaseStep, FreezeStep, ReceiveFrozenLocStep, AdvanceStep, ReplayStep, PushSyncReqStep, PopSyncReqStep, NoOpStep}
use Rattle.source.specs.JournalSystem.{selected_wf}
use Rattle.source.proofs.Laws.Awaited.{unless_some}
use Rattle.source.proofs.Laws.Departs.{source_next}
use Rattle.source.proofs.Laws.PreservedReady.{by_next, inv_rest, inv_freeze, inv_receive, inv_write, inv_write_resp, inv_commit_log, inv_commit_location, inv_commit_resp}

module _ (g : Geometry) where
  inv_superblock_req : (s : LoadingSuperblockVariables) (s' : Variables) (dop : DiskOp) (which : Bool) → InvLoadingSuperblock g s → JournalCache.PageInSuperblockReqClauses s s' dop which → Inv g s'
  inv_superblock_req s s' dop which h k =
      by_next g k.next
      (record {
        success_read = λ b x e. free which b (λ q. let z = k.unfinished in ruin (cc)) (h.success_read b x e);
        success_wf_is = h.success_wf_is;
        corruption_read = λ b e. free which b (λ q. let z = k.unfinished in ruin (cc)) (h.corruption_read b e);
      })
    where
      free : (which b : Bool) → (b ≡ which → ⊥) → at s.outstanding_superblock_reads b ≡ none → at (put s.outstanding_superblock_reads which (some k.id)) b ≡ none
      free true true f e = absurd (f refl)
      free true false f e = e
      free false true f e = e
      free false false f e = absurd (f refl)

  -- the answer puts a result in the slot's place and awaits nothing there
  inv_result : (s : LoadingSuperblockVariables) (which : Bool) (r : SuperblockReadResult) → InvLoadingSuperblock g s → ((v : Superblock) → r ≡ SuperblockSuccess v → WFSuperblock g v)
      → InvLoadingSuperblock g (to_outstanding_superblock_reads (put s.outstanding_superblock_reads which none) (to_superblocks (put s.superblocks which r) s))
  inv_result s which r h f =
      record {
        success_read = λ b x e. taken which b (λ q. h.success_read b x q) e;
        success_wf_is = λ b x e. sound which b x e;
        corruption_read = λ b e. taken which b (λ q. h.corruption_read b q) e;
      }
    where
      taken : {a : SuperblockReadResult} (which b : Bool) → (at s.superblocks b ≡ a → at s.outstanding_superblock_reads b ≡ none) → at (put s.superblocks which r) b ≡ a
          → at (put s.outstanding_superblock_reads which none) b ≡ none
      taken true true p e = refl
      taken true false p e = p e
      taken false true p e = p e
      taken false false p e = refl

      sound : (which b : Bool) (x : Superblock) → at (put s.superblocks which r) b ≡ SuperblockSuccess x → WFSuperblock g x
      sound true true x e = f x e
      sound true false x e = h.success_wf_is false x e
      sound false true x e = h.success_wf_is true x e
      sound false false x e = f x e

  read_wf : (o : Option Superblock) (v : Superblock) → superblock_read g o ≡ SuperblockSuccess v → WFSuperblock g v
  read_wf none v e = ruin (cc)
  read_wf (some x) v e = split_bool (wf_superblock g x) well ill
    where
      well : wf_superblock g x ≡ true → WFSuperblock g v
      well q =
          let z : SuperblockSuccess x ≡ SuperblockSuccess v = ap (λ (b : Bool). cond b (SuperblockSuccess x) SuperblockCorruption) (sym q) ∙ e in
          let w : x ≡ v = cc in
          subst (WFSuperblock g) w (superblock_facts g x q)

      ill : wf_superblock g x ≡ false → WFSuperblock g v
      ill q =
          let z : SuperblockCorruption ≡ SuperblockSuccess v = ap (λ (b : Bool). cond b (SuperblockSuccess x) SuperblockCorruption) (sym q) ∙ e in
          ruin (cc)

  inv_superblock_resp : (s : LoadingSuperblockVariables) (s' : Variables) (dop : DiskOp) (which : Bool) → InvLoadingSuperblock g s → JournalCache.PageInSuperblockRespClauses g s s' dop which → Inv g s'
  inv_superblock_resp s s' dop which h k = by_next g k.next (inv_result s which (superblock_read g k.superblock) h (read_wf k.superblock))

  inv_ask_again : (s : LoadingSuperblockVariables) (s' : Variables) (dop : DiskOp) (which : Bool) → InvLoadingSuperblock g s → AskAgainClauses s s' dop which → Inv g s'
  inv_ask_again s s' dop which h k =
      by_next g k.next
      (record {
        success_read = λ b x e. h.success_read b x (before which b e (λ q. ruin (cc)));
        success_wf_is = λ b x e. h.success_wf_is b x (before which b e (λ q. ruin (cc)));
        corruption_read = λ b e. h.corruption_read b (before which b e (λ q. ruin (cc)));
      })
    where
      before : {a : SuperblockReadResult} (which b : Bool) → at (put s.superblocks which SuperblockUnfinished) b ≡ a → (SuperblockUnfinished ≡ a → ⊥) → at s.superblocks b ≡ a
      before true true e f = absurd (f e)
      before true false e f = e
      before false true e f = e
      before false false e f = absurd (f e)

  inv_finish_superblocks : (s : LoadingSuperblockVariables) (s' : Variables) (dop : DiskOp) → InvLoadingSuperblock g s → JournalCache.FinishLoadingSuperblockPhaseClauses s s' dop → Inv g s'
  inv_finish_superblocks s s' dop h k =
      by_next g k.next
      (record {
        superblock_wf = selected_wf g k.superblock1 k.superblock2 (h.success_wf_is false k.superblock1 k.success1) (h.success_wf_is true k.superblock2 k.success2);
        read_interval = λ which id e. none_some (at_both none which) e;
        piece_interval_is = λ which jr e. none_some (at_both none which) e;
      })

  inv_journal_req : (s : LoadingOtherVariables) (s' : Variables) (dop : DiskOp) (which : Bool) → InvLoadingOther g s → JournalCache.PageInJournalReqClauses g s s' dop which → Inv g s'
  inv_journal_req s s' dop which h k =
      by_next g k.next (record { superblock_wf = h.superblock_wf; read_interval = λ b id e. asked_for which b id k.interval_is e; piece_interval_is = h.piece_interval_is })
    where
      asked_for : (which b : Bool) (id : ReqId) → journal_interval_of_superblock g which s.superblock ≡ some k.interval
          → at (put (put s.journalReads which (some k.id)) (not which) (unless_is (at s.journalReads (not which)) k.id)) b ≡ some id
          → (v : JournalInterval) × (journal_interval_of_superblock g b s.superblock ≡ some v)
      asked_for true true id p e = (k.interval, p)
      asked_for true false id p e = h.read_interval false id (unless_some (at s.journalReads false) k.id id e)
      asked_for false true id p e = h.read_interval true id (unless_some (at s.journalReads true) k.id id e)
      asked_for false false id p e = (k.interval, p)

  -- a read that is answered or cleared
  cleared : (s : LoadingOtherVariables) (h : InvLoadingOther g s) (which b : Bool) (id : ReqId) → at (put s.journalReads which none) b ≡ some id
      → (v : JournalInterval) × (journal_interval_of_superblock g b s.superblock ≡ some v)
  cleared s h true true id e = none_some refl e
  cleared s h true false id e = h.read_interval false id e
  cleared s h false true id e = h.read_interval true id e
  cleared s h false false id e = none_some refl e

  inv_journal_resp : (s : LoadingOtherVariables) (s' : Variables) (dop : DiskOp) (which : Bool) → InvLoadingOther g s → JournalCache.PageInJournalRespClauses s s' dop which → Inv g s'
  inv_journal_resp s s' dop which h k =
      by_next g k.next (record { superblock_wf = h.superblock_wf; read_interval = cleared s h which; piece_interval_is = λ b jr e. piece which b jr (h.read_interval which k.id k.waiting) e })
    where
      piece : (which b : Bool) (jr : JournalRange) → (v : JournalInterval) × (journal_interval_of_superblock g which s.superblock ≡ some v)
          → at (put s.journal_pieces which (some k.jr)) b ≡ some jr → (v : JournalInterval) × (journal_interval_of_superblock g b s.superblock ≡ some v)
      piece true true jr p e = p
      piece true false jr p e = h.piece_interval_is false jr e
      piece false true jr p e = h.piece_interval_is true jr e
      piece false false jr p e = p

  inv_damaged : (s : LoadingOtherVariables) (s' : Variables) (dop : DiskOp) → InvLoadingOther g s → DamagedJournalClauses s s' dop → Inv g s'
  inv_damaged s s' dop h k =
      by_next g k.next (record { superblock_wf = h.superblock_wf; read_interval = cleared s h k.which; piece_interval_is = h.piece_interval_is })

  inv_finish_other : (C : Codec) (s : LoadingOtherVariables) (s' : ReadyVariables) (dop : DiskOp) → InvLoadingOther g s → JournalCache.FinishLoadingOtherPhaseClauses g C s s' dop → InvReady g s'
  inv_finish_other C s s' dop h k =
      let sb = ap (λ (v : Superblock). v.journalLen) k.superblock_is in
      record {
        write_new = (λ p. none_some k.superblock_write_is p.1, λ p. none_some k.new_superblock_is p.1);
        write_commit = (λ e. k.commit_status_is, λ e. k.superblock_write_is);
        written_in = omega (arith, k.written_journal_len_is, k.len_in);
        len_written = omega (arith, k.written_journal_len_is, sb);
        if_frozen = λ e. true_false (sym e ∙ k.is_frozen_is);
        if_received = λ x e. none_some k.frozen_loc_is e;
        superblock_wf = subst (WFSuperblock g) (sym k.superblock_is) h.superblock_wf;
        if_advance_log = λ e. let z = k.commit_status_is in ruin (cc);
        if_advance_location = λ e. let z = k.commit_status_is in ruin (cc);
        if_new = λ x e. none_some k.new_superblock_is e;
        if_some_frozen = λ f. absurd (f k.in_memory_journal_frozen_is);
      }

  inv_sync : (s : Variables) (t : Map SyncReqStatus) → Inv g s → Inv g (with_sync_reqs t s)
  inv_sync (Ready s) t h = inv_rest g s s.in_memory_journal s.replay_journal t h
  inv_sync (LoadingOther s) t h = record { superblock_wf = h.superblock_wf; read_interval = h.read_interval; piece_interval_is = h.piece_interval_is }
  inv_sync (LoadingSuperblock s) t h = record { success_read = h.success_read; success_wf_is = h.success_wf_is; corruption_read = h.corruption_read }

  -- a step of the source
  pub inv_kept : (C : Codec) (s s' : Variables) (dop : DiskOp) (step : Step) → Inv g s → NextStep g C s s' dop step → Inv g s'
  inv_kept C (Ready s) s' dop (WriteBackJournalReqStep jr) h k = inv_write g C s s' dop jr h k
  inv_kept C (LoadingOther s) s' dop (WriteBackJournalReqStep jr) h k = absurd k
  inv_kept C (LoadingSuperblock s) s' dop (WriteBackJournalReqStep jr) h k = absurd k
  inv_kept C (Ready s) s' dop WriteBackJournalRespStep h k = inv_write_resp g s s' dop h k
  inv_kept C (LoadingOther s) s' dop WriteBackJournalRespStep h k = absurd k
  inv_kept C (LoadingSuperblock s) s' dop WriteBackJournalRespStep h k = absurd k
  inv_kept C (Ready s) s' dop WriteBackSuperblockReq-AdvanceLog-Step h k = inv_commit_log g s s' dop h k
  inv_kept C (LoadingOther s) s' dop WriteBackSuperblockReq-AdvanceLog-Step h k = absurd k
  inv_kept C (LoadingSuperblock s) s' dop WriteBackSuperblockReq-AdvanceLog-Step h k = absurd k
  inv_kept C (Ready s) s' dop WriteBackSuperblockReq-AdvanceLocation-Step h k = inv_commit_location g s s' dop h k
  inv_kept C (LoadingOther s) s' dop WriteBackSuperblockReq-AdvanceLocation-Step h k = absurd k
  inv_kept C (LoadingSuperblock s) s' dop WriteBackSuperblockReq-AdvanceLocation-Step h k = absurd k
  inv_kept C (Ready s) s' dop WriteBackSuperblockRespStep h k = inv_commit_resp g s s' dop h k
  inv_kept C (LoadingOther s) s' dop WriteBackSuperblockRespStep h k = absurd k
  inv_kept C (LoadingSuperblock s) s' dop WriteBackSuperblockRespStep h k = absurd k
  inv_kept C (Ready s) s' dop (PageInJournalReqStep which) h k = absurd k
  inv_kept C (LoadingOther s) s' dop (PageInJournalReqStep which) h k = inv_journal_req s s' dop which h k
  inv_kept C (LoadingSuperblock s) s' dop (PageInJournalReqStep which) h k = absurd k
  inv_kept C (Ready s) s' dop (PageInJournalRespStep which) h k = absurd k
  inv_kept C (LoadingOther s) s' dop (PageInJournalRespStep which) h k = inv_journal_resp s s' dop which h k
  inv_kept C (LoadingSuperblock s) s' dop (PageInJournalRespStep which) h k = absurd k
  inv_kept C (Ready s) s' dop (PageInSuperblockReqStep which) h k = absurd k
  inv_kept C (LoadingOther s) s' dop (PageInSuperblockReqStep which) h k = absurd k
  inv_kept C (LoadingSuperblock s) s' dop (PageInSuperblockReqStep which) h k = inv_superblock_req s s' dop which h k
  inv_kept C (Ready s) s' dop (PageInSuperblockRespStep which) h k = absurd k
  inv_kept C (LoadingOther s) s' dop (PageInSuperblockRespStep which) h k = absurd k
  inv_kept C (LoadingSuperblock s) s' dop (PageInSuperblockRespStep which) h k = inv_superblock_resp s s' dop which h k
  inv_kept C (Ready s) s' dop FinishLoadingSuperblockPhaseStep h k = absurd k
  inv_kept C (LoadingOther s) s' dop FinishLoadingSuperblockPhaseStep h k = absurd k
  inv_kept C (LoadingSuperblock s) s' dop FinishLoadingSuperblockPhaseStep h k = inv_finish_superblocks s s' dop h k
  inv_kept C (Ready s) s' dop FinishLoadingOtherPhaseStep h k = absurd k
  inv_kept C (LoadingOther s) (Ready s') dop FinishLoadingOtherPhaseStep h k = inv_finish_other C s s' dop h k
  inv_kept C (LoadingOther s) (LoadingOther s') dop FinishLoadingOtherPhaseStep h k = absurd k
  inv_kept C (LoadingOther s) (LoadingSuperblock s') dop FinishLoadingOtherPhaseStep h k = absurd k
  inv_kept C (LoadingSuperblock s) s' dop FinishLoadingOtherPhaseStep h k = absurd k
  inv_kept C (Ready s) s' dop FreezeStep h k = inv_freeze g s s' dop h k
  inv_kept C (LoadingOther s) s' dop FreezeStep h k = absurd k
  inv_kept C (LoadingSuperblock s) s' dop FreezeStep h k = absurd k
  inv_kept C (Ready s) s' dop (ReceiveFrozenLocStep loc) h k = inv_receive g s s' dop loc h k
  inv_kept C (LoadingOther s) s' dop (ReceiveFrozenLocStep loc) h k = absurd k
  inv_kept C (LoadingSuperblock s) s' dop (ReceiveFrozenLocStep loc) h k = absurd k
  inv_kept C (Ready s) s' dop (AdvanceStep es) h k = by_next g k.next (inv_rest g s (s.in_memory_journal ++ es) s.replay_journal s.sync_reqs h)
  inv_kept C (LoadingOther s) s' dop (AdvanceStep es) h k = absurd k
  inv_kept C (LoadingSuperblock s) s' dop (AdvanceStep es) h k = absurd k
  inv_kept C (Ready s) (Ready s') dop (ReplayStep es) h k = by_next g (ap Ready k.next) (inv_rest g s s.in_memory_journal s'.replay_journal s.sync_reqs h)
  inv_kept C (Ready s) (LoadingOther s') dop (ReplayStep es) h k = absurd k
  inv_kept C (Ready s) (LoadingSuperblock s') dop (ReplayStep es) h k = absurd k
  inv_kept C (LoadingOther s) s' dop (ReplayStep es) h k = absurd k
  inv_kept C (LoadingSuperblock s) s' dop (ReplayStep es) h k = absurd k
  inv_kept C s s' dop (PushSyncReqStep id) h k = by_next g k.next (inv_sync s (bind (sync_reqs_of s) id State3) h)
  inv_kept C s s' dop (PopSyncReqStep id) h k = by_next g k.next (inv_sync s (unbind (sync_reqs_of s) id) h)
  inv_kept C s s' dop NoOpStep h k = by_next g k.next h

  -- and of the amended machine
  pub inv_kept⁺ : (C : Codec) (s s' : Variables) (dop : DiskOp) (step : Step⁺) → Inv g s → NextStep⁺ g C s s' dop step → Inv g s'
  inv_kept⁺ C s s' dop (Source step) h k =
      ⊎_elim
      (λ n. inv_kept C s s' dop n.0 h n.1)
      (λ n. by_next g n.1.next (inv_sync n.1.asked (idle_sync s) (inv_kept C s n.1.asked dop step h n.1.source)))
      (source_next g C s s' dop step k)
  inv_kept⁺ C (Ready s) s' dop DamagedJournalStep h k = absurd k
  inv_kept⁺ C (LoadingOther s) s' dop DamagedJournalStep h k = inv_damaged s s' dop h k
  inv_kept⁺ C (LoadingSuperblock s) s' dop DamagedJournalStep h k = absurd k
  inv_kept⁺ C (Ready s) s' dop (AskAgainStep which) h k = absurd k
  inv_kept⁺ C (LoadingOther s) s' dop (AskAgainStep which) h k = absurd k
  inv_kept⁺ C (LoadingSuperblock s) s' dop (AskAgainStep which) h k = inv_ask_again s s' dop which h k
