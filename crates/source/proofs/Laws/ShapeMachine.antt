-- A machine's shape is kept while it loads, and so by every step: the reads of a pair stay two, a piece comes in with its interval's length, and
-- the entries that the pieces parse to are no more than their bytes.
use Rattle.std.specs.Prelude.{◌+◌, ◌*◌, ◌≤◌, Bool, true, false, not, ◌≡◌, refl, [], length}
use Rattle.std.proofs.Common.{sym, ◌∙◌, ap, subst, arith, length-append}
use Rattle.std.proofs.Math.Option.{Option, none, some, get_or}
use Rattle.laws.specs.Cut.{flat, flat_append}
use Rattle.laws.specs.Sets.{Two, at, put, none_some, same_value, at_both}
use Rattle.layout.specs.declared.Geometry.{Geometry}
use Rattle.interval.specs.declared.JournalInterval.{JournalInterval}
use Rattle.interval.specs.Interval.{interval}
use Rattle.interval.proofs.Laws.{len_of, parts_fit}
use Rattle.codec.specs.Codec.{block_size, JournalRange, SizedBlocks, Codec}
use Rattle.codec.specs.Sizes.{sized_none, sized_bytes}
use Rattle.source.specs.JournalDisk.{ReqId, DiskOp}
use Rattle.source.specs.JournalCache
use Rattle.source.specs.JournalCache.{Variables, Ready, LoadingOther, LoadingSuperblock, LoadingOtherVariables, LoadingSuperblockVariables, IsReady, journal_interval_of_superblock, unless_is, loaded, loaded_range, InvLoadingOther, Inv}
use Rattle.source.specs.JournalCache.{WriteBackJournalReqStep, WriteBackJournalRespStep, WriteBackSuperblockReq-AdvanceLog-Step, WriteBackSuperblockReq-AdvanceLocation-Step, WriteBackSuperblockRespStep, PageInJournalReqStep, PageInJournalRespStep, PageInSuperblockReqStep, PageInSuperblockRespStep, FinishLoadingSuperblockPhaseStep, FinishLoadingOtherPhaseStep, FreezeStep, ReceiveFrozenLocStep, AdvanceStep, ReplayStep, PushSyncReqStep, PopSyncReqStep, NoOpStep}
use Rattle.source.specs.Limits.{Limits, Fitting}
use Rattle.source.specs.Meets.{LoadingOtherShape, LoadingSuperblockShape, MachineShape}
use Rattle.source.specs.Departures.{DamagedJournalClauses, Step⁺, Source, DamagedJournalStep, AskAgainStep, NextStep⁺}
use Rattle.source.specs.Within.{StepArguments, AwaitedPiece}
use Rattle.source.proofs.Laws.Awaited.{unless_not, unless_some, awaited_read_is}
use Rattle.source.proofs.Laws.Pieces.{spanned_valid}
use Rattle.source.proofs.Laws.ShapeReady.{by_shape, ready_shape}

-- A pair of reads that differ

abbrev Differ : Two (Option ReqId) → Type 0
Differ reads = (id : ReqId) → at reads false ≡ some id → at reads true ≡ some id → ⊥

-- one more is asked for, under an id that the other has not
differ_put : (reads : Two (Option ReqId)) (which : Bool) (k : ReqId) → (at reads (not which) ≡ some k → ⊥) → Differ (put reads which (some k))
differ_put reads false k f id p q = f (q ∙ sym p)
differ_put reads true k f id p q = f (p ∙ sym q)

-- one is answered or cleared
differ_clear : (reads : Two (Option ReqId)) (which : Bool) → Differ (put reads which none)
differ_clear reads false id p q = none_some refl p
differ_clear reads true id p q = none_some refl q

abbrev asked_reads : Two (Option ReqId) → Bool → ReqId → Two (Option ReqId)
asked_reads reads which k = put (put reads which (some k)) (not which) (unless_is (at reads (not which)) k)

differ_asked : (reads : Two (Option ReqId)) (which : Bool) (k : ReqId) → Differ (asked_reads reads which k)
differ_asked reads false k id p q = unless_not (at reads true) k (q ∙ sym p)
differ_asked reads true k id p q = unless_not (at reads false) k (p ∙ sym q)

module _ (g : Geometry) (L : Limits) where
  -- Superblocks

  superblock_shape : (C : Codec) (s : LoadingSuperblockVariables) (s' : Variables) (dop : DiskOp) (step : Step⁺) → LoadingSuperblockShape s
      → NextStep⁺ g C (LoadingSuperblock s) s' dop step → MachineShape g L s'
  superblock_shape C s s' dop (Source (WriteBackJournalReqStep jr)) h k = absurd k.source
  superblock_shape C s s' dop (Source WriteBackJournalRespStep) h k = absurd k
  superblock_shape C s s' dop (Source WriteBackSuperblockReq-AdvanceLog-Step) h k = absurd k.source
  superblock_shape C s s' dop (Source WriteBackSuperblockReq-AdvanceLocation-Step) h k = absurd k.source
  superblock_shape C s s' dop (Source WriteBackSuperblockRespStep) h k = absurd k
  superblock_shape C s s' dop (Source (PageInJournalReqStep which)) h k = absurd k
  superblock_shape C s s' dop (Source (PageInJournalRespStep which)) h k = absurd k.1
  superblock_shape C s s' dop (Source (PageInSuperblockReqStep which)) h k =
      by_shape g L k.source.next
      (record { reads_differ = differ_put s.outstanding_superblock_reads which k.source.id (λ e. k.other_slot_is (k.source.id, k.source.op, e)) })
  superblock_shape C s s' dop (Source (PageInSuperblockRespStep which)) h k = by_shape g L k.next (record { reads_differ = differ_clear s.outstanding_superblock_reads which })
  superblock_shape C s s' dop (Source FinishLoadingSuperblockPhaseStep) h k =
      by_shape g L k.next
      (record {
        reads_differ = λ id p q. none_some refl p;
        read_or_in = λ which id jr p q. none_some (at_both none which) p;
        piece_size = λ which jr v p q. none_some (at_both none which) p;
      })
  superblock_shape C s s' dop (Source FinishLoadingOtherPhaseStep) h k = absurd k.source
  superblock_shape C s s' dop (Source FreezeStep) h k = absurd k
  superblock_shape C s s' dop (Source (ReceiveFrozenLocStep loc)) h k = absurd k
  superblock_shape C s s' dop (Source (AdvanceStep es)) h k = absurd k.source
  superblock_shape C s s' dop (Source (ReplayStep es)) h k = absurd k
  superblock_shape C s s' dop (Source (PushSyncReqStep id)) h k = by_shape g L k.next (record { reads_differ = h.reads_differ })
  superblock_shape C s s' dop (Source (PopSyncReqStep id)) h k = by_shape g L k.next (record { reads_differ = h.reads_differ })
  superblock_shape C s s' dop (Source NoOpStep) h k = by_shape g L k.source.next h
  superblock_shape C s s' dop DamagedJournalStep h k = absurd k
  superblock_shape C s s' dop (AskAgainStep which) h k = by_shape g L k.next (record { reads_differ = h.reads_differ })

  -- The journal's pieces

  module _ (s : LoadingOtherVariables) (h : LoadingOtherShape g s) where
    -- a read of a piece that is not in is asked for
    asked_shape : (s' : Variables) (dop : DiskOp) (which : Bool) → JournalCache.PageInJournalReqClauses g s s' dop which → MachineShape g L s'
    asked_shape s' dop which k =
        by_shape g L k.next
        (record { reads_differ = differ_asked s.journalReads which k.id; read_or_in = λ b id jr p q. apart which b id jr k.no_piece p q; piece_size = h.piece_size })
      where
        apart : (which b : Bool) (id : ReqId) (jr : JournalRange) → at s.journal_pieces which ≡ none → at (asked_reads s.journalReads which k.id) b ≡ some id
            → at s.journal_pieces b ≡ some jr → ⊥
        apart true true id jr e p q = none_some e q
        apart true false id jr e p q = h.read_or_in false id jr (unless_some (at s.journalReads false) k.id id p) q
        apart false true id jr e p q = h.read_or_in true id jr (unless_some (at s.journalReads true) k.id id p) q
        apart false false id jr e p q = none_some e q

    -- a piece comes in, and its read is awaited no more
    answered_shape : (s' : Variables) (dop : DiskOp) (which : Bool) → AwaitedPiece g (LoadingOther s) dop → JournalCache.PageInJournalRespClauses s s' dop which → MachineShape g L s'
    answered_shape s' dop which a k =
        by_shape g L k.next
        (record {
          reads_differ = differ_clear s.journalReads which;
          read_or_in = λ b id jr p q. apart which b id jr p q;
          piece_size = λ b jr v p q. sized which b jr v k.waiting p q;
        })
      where
        apart : (which b : Bool) (id : ReqId) (jr : JournalRange) → at (put s.journalReads which none) b ≡ some id → at (put s.journal_pieces which (some k.jr)) b ≡ some jr → ⊥
        apart true true id jr p q = none_some refl p
        apart true false id jr p q = h.read_or_in false id jr p q
        apart false true id jr p q = h.read_or_in true id jr p q
        apart false false id jr p q = none_some refl p

        new : (b : Bool) (jr : JournalRange) (v : JournalInterval) → at s.journalReads b ≡ some k.id → some k.jr ≡ some jr → journal_interval_of_superblock g b s.superblock ≡ some v
            → SizedBlocks v.len jr
        new b jr v e p q = subst (SizedBlocks v.len) (same_value refl p) (a k.id k.jr v k.op (awaited_read_is g s h b k.id v e q))

        sized : (which b : Bool) (jr : JournalRange) (v : JournalInterval) → at s.journalReads which ≡ some k.id → at (put s.journal_pieces which (some k.jr)) b ≡ some jr
            → journal_interval_of_superblock g b s.superblock ≡ some v → SizedBlocks v.len jr
        sized true true jr v e p q = new true jr v e p q
        sized true false jr v e p q = h.piece_size false jr v p q
        sized false true jr v e p q = h.piece_size true jr v p q
        sized false false jr v e p q = new false jr v e p q

    -- a damaged answer clears its read
    damaged_shape : (s' : Variables) (dop : DiskOp) → DamagedJournalClauses s s' dop → MachineShape g L s'
    damaged_shape s' dop k =
        by_shape g L k.next
        (record { reads_differ = differ_clear s.journalReads k.which; read_or_in = λ b id jr p q. apart k.which b id jr p q; piece_size = h.piece_size })
      where
        apart : (which b : Bool) (id : ReqId) (jr : JournalRange) → at (put s.journalReads which none) b ≡ some id → at s.journal_pieces b ≡ some jr → ⊥
        apart true true id jr p q = none_some refl p
        apart true false id jr p q = h.read_or_in false id jr p q
        apart false true id jr p q = h.read_or_in true id jr p q
        apart false false id jr p q = none_some refl p

    -- the pieces that are in have no more bytes than the journal has
    module _ (inv : InvLoadingOther g s) where
      piece_bytes : (which : Bool) → length (flat (get_or (at s.journal_pieces which) [])) ≤ len_of (journal_interval_of_superblock g which s.superblock) * block_size
      piece_bytes which = go (at s.journal_pieces which) refl
        where
          go : (o : Option JournalRange) → at s.journal_pieces which ≡ o → length (flat (get_or o [])) ≤ len_of (journal_interval_of_superblock g which s.superblock) * block_size
          go none e = omega (arith, sized_bytes 0 [] sized_none)
          go (some jr) e =
              let v = inv.piece_interval_is which jr e in
              omega (arith, sized_bytes v.0.len jr (h.piece_size which jr v.0 e v.1), ap len_of v.1)

      joined_bytes : (back front : Option JournalInterval) (a b : JournalRange) → length (flat (loaded_range back front a b)) ≤ length (flat a) + length (flat b)
      joined_bytes (some v) front a b = omega (arith, ap length (flat_append a b), length-append (flat a) (flat b))
      joined_bytes none (some v) a b = omega arith
      joined_bytes none none a b = omega (arith, sized_bytes 0 [] sized_none)

      pub loaded_bytes : length (flat (loaded g s)) ≤ g.blocks * block_size
      loaded_bytes =
          let all =
          joined_bytes (journal_interval_of_superblock g true s.superblock) (journal_interval_of_superblock g false s.superblock)
          (get_or (at s.journal_pieces false) []) (get_or (at s.journal_pieces true) []) in
          let parts = (parts_fit g (interval s.superblock.journalStart s.superblock.journalLen) (spanned_valid g s.superblock inv.superblock_wf)).lens_add in
          omega (arith, all, piece_bytes false, piece_bytes true, parts, inv.superblock_wf.len_in)

      finished_shape : (C : Codec) → Fitting C L → (s' : Variables) (dop : DiskOp) → IsReady s' (λ t. JournalCache.FinishLoadingOtherPhaseClauses g C s t dop) → MachineShape g L s'
      finished_shape C fits (Ready t) dop k =
          record {
            frozen_fit = rw k.in_memory_journal_frozen_is tt;
            memory_fit = rw k.in_memory_journal_is tt;
            replay =
                record {
                  few = omega (arith, loaded_bytes, C.parse_few (loaded g s) t.replay_journal k.parses);
                  small = omega (arith, loaded_bytes, C.parse_small (loaded g s) t.replay_journal k.parses);
                  fit = fits.parse_fit (loaded g s) t.replay_journal k.parses;
                };
          }
      finished_shape C fits (LoadingOther t) dop k = absurd k
      finished_shape C fits (LoadingSuperblock t) dop k = absurd k

  other_shape : (C : Codec) → Fitting C L → (s : LoadingOtherVariables) (s' : Variables) (dop : DiskOp) (step : Step⁺) → InvLoadingOther g s → LoadingOtherShape g s
      → AwaitedPiece g (LoadingOther s) dop → NextStep⁺ g C (LoadingOther s) s' dop step → MachineShape g L s'
  other_shape C fits s s' dop (Source (WriteBackJournalReqStep jr)) inv h a k = absurd k.source
  other_shape C fits s s' dop (Source WriteBackJournalRespStep) inv h a k = absurd k
  other_shape C fits s s' dop (Source WriteBackSuperblockReq-AdvanceLog-Step) inv h a k = absurd k.source
  other_shape C fits s s' dop (Source WriteBackSuperblockReq-AdvanceLocation-Step) inv h a k = absurd k.source
  other_shape C fits s s' dop (Source WriteBackSuperblockRespStep) inv h a k = absurd k
  other_shape C fits s s' dop (Source (PageInJournalReqStep which)) inv h a k = asked_shape s h s' dop which k
  other_shape C fits s s' dop (Source (PageInJournalRespStep which)) inv h a k = answered_shape s h s' dop k.0 a k.1
  other_shape C fits s s' dop (Source (PageInSuperblockReqStep which)) inv h a k = absurd k.source
  other_shape C fits s s' dop (Source (PageInSuperblockRespStep which)) inv h a k = absurd k
  other_shape C fits s s' dop (Source FinishLoadingSuperblockPhaseStep) inv h a k = absurd k
  other_shape C fits s s' dop (Source FinishLoadingOtherPhaseStep) inv h a k = finished_shape s h inv C fits s' dop k.source
  other_shape C fits s s' dop (Source FreezeStep) inv h a k = absurd k
  other_shape C fits s s' dop (Source (ReceiveFrozenLocStep loc)) inv h a k = absurd k
  other_shape C fits s s' dop (Source (AdvanceStep es)) inv h a k = absurd k.source
  other_shape C fits s s' dop (Source (ReplayStep es)) inv h a k = absurd k
  other_shape C fits s s' dop (Source (PushSyncReqStep id)) inv h a k =
      by_shape g L k.next (record { reads_differ = h.reads_differ; read_or_in = h.read_or_in; piece_size = h.piece_size })
  other_shape C fits s s' dop (Source (PopSyncReqStep id)) inv h a k =
      by_shape g L k.next (record { reads_differ = h.reads_differ; read_or_in = h.read_or_in; piece_size = h.piece_size })
  other_shape C fits s s' dop (Source NoOpStep) inv h a k = by_shape g L k.source.next h
  other_shape C fits s s' dop DamagedJournalStep inv h a k = damaged_shape s h s' dop k
  other_shape C fits s s' dop (AskAgainStep which) inv h a k = absurd k

  -- every step of the machine
  pub machine_shape : (C : Codec) → Fitting C L → (s s' : Variables) (dop : DiskOp) (step : Step⁺) → Inv g s → MachineShape g L s → StepArguments L step → AwaitedPiece g s dop
      → NextStep⁺ g C s s' dop step → MachineShape g L s'
  machine_shape C fits (Ready s) s' dop step inv h a p k = ready_shape g L C s s' dop step inv h a k
  machine_shape C fits (LoadingOther s) s' dop step inv h a p k = other_shape C fits s s' dop step inv h p k
  machine_shape C fits (LoadingSuperblock s) s' dop step inv h a p k = superblock_shape C s s' dop step h k
