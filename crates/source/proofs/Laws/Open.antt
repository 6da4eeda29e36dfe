-- The three places that the Dafny text leaves open: the source's predicates alone do not close them, even from a state that meets question 2.
--   position   FinishLoadingOtherPhase leaves frozenJournalPosition open (closed: finishLoadingOtherPhase-one)
--   answers    NoOp may throw an awaited read's answer away (closed: answer-one)
--   damage     a slot that was read damaged stays corrupt, whatever step of 000 follows; and of a journal in one piece a damaged read
--              stays awaited, whatever step of 004 follows but a crash. In two pieces there is a way on while the other piece is neither in nor
--              awaited: to ask for it under the same id clears the read (other-clears). (Closed: AskAgain, DamagedJournal)
use Rattle.std.specs.Prelude.{ℕ, Bool, true, false, not, ◌≡◌, refl, []}
use Rattle.std.proofs.Common.{sym, ◌∙◌, ap, subst, inl, arith}
use Rattle.std.proofs.Math.Option.{Option, none, some}
use Rattle.laws.specs.Choice.{ruin, split_eq}
use Rattle.layout.specs.declared.Geometry.{Geometry}
use Rattle.layout.specs.Geometry.{ValidGeometry, indirection_table1_addr}
use Rattle.interval.specs.declared.JournalInterval.{JournalInterval}
use Rattle.interval.proofs.Laws.{FrontBack, parts_none}
use Rattle.superblock.specs.declared.Superblock.{Superblock}
use Rattle.superblock.specs.Superblock.{journal_front_interval_of_superblock, journal_back_interval_of_superblock}
use Rattle.superblock.specs.Laws.{WFSuperblock}
use Rattle.laws.specs.Sets.{Map, empty_ids, no_keys, bind, unbind, unbind_here, unbind_there, none_few, both, at, at_both, put, none_some}
use Rattle.codec.specs.Codec.{Codec}
use Rattle.source.specs.JournalDisk as D
use Rattle.source.specs.JournalDisk.{ReqId, DiskOp, ReqReadJournalOp, RespReadSuperblockOp, RespReadJournalOp, NoDiskOp}
use Rattle.source.specs.JournalCache as M
use Rattle.source.specs.JournalCache.{Variables, Ready, LoadingOther, LoadingSuperblock, ReadyVariables, LoadingOtherVariables, LoadingSuperblockVariables, IsReady, IsLoadingOther, IsLoadingSuperblock, loaded_range, journal_interval_of_superblock, unless_is, SuperblockReadResult, SuperblockUnfinished, SuperblockCorruption, CommitNone}
use Rattle.source.specs.JournalCache.{Step, WriteBackJournalReqStep, WriteBackJournalRespStep, WriteBackSuperblockReq-AdvanceLog-Step, WriteBackSuperblockReq-AdvanceLocation-Step, WriteBackSuperblockRespStep, PageInJournalReqStep, PageInJournalRespStep, PageInSuperblockReqStep, PageInSuperblockRespStep, FinishLoadingSuperblockPhaseStep, FinishLoadingOtherPhaseStep, FreezeStep, ReceiveFrozenLocStep, AdvanceStep, ReplayStep, PushSyncReqStep, PopSyncReqStep, NoOpStep}
use Rattle.source.specs.JournalSystem as Y
use Rattle.source.specs.Limits.{limits}
use Rattle.source.specs.Meets.{MachineMeets}
use Rattle.source.specs.Departures.{DamagedJournal, AskAgain}
use Rattle.source.proofs.Laws.Answers.{Answer}
use Rattle.source.proofs.Laws.Awaited.{unless_same}
use Rattle.source.proofs.Laws.Pieces.{piece_contiguous}

-- Position

-- a journal of no blocks, about to be loaded, and the machine that it gives, at any position
abbrev empty : Geometry → Superblock
empty g = record { counter = 0; journalStart = 0; journalLen = 0; indirectionTableLoc = record { addr = indirection_table1_addr g; len = 1 } }

abbrev unread : Geometry → LoadingOtherVariables
unread g = record { superblock = empty g; whichSuperblock = false; journalReads = both none; journal_pieces = both none; sync_reqs = no_keys }

abbrev loaded_at : Geometry → ℕ → ReadyVariables
loaded_at g position =
    record {
      frozenLoc = none;
      isFrozen = false;
      frozenJournalPosition = position;
      superblock_write = none;
      in_memory_journal_frozen = [];
      in_memory_journal = [];
      outstanding_journal_writes = empty_ids;
      writtenJournalLen = 0;
      replay_journal = [];
      superblock = empty g;
      whichSuperblock = false;
      commit_status = CommitNone;
      new_superblock = none;
      sync_reqs = no_keys;
    }

module _ (g : Geometry) (v : ValidGeometry g) where
  unread_meets : MachineMeets g limits (LoadingOther (unread g))
  unread_meets =
      record {
        inv =
            record {
              superblock_wf =
                  record {
                    start_in = omega (arith, v.some_block);
                    len_in = omega arith;
                    table_valid = record { addr_valid = inl refl; len_from = omega arith; len_to = v.some_table };
                  };
              read_interval = λ which id e. none_some (at_both none which) e;
              piece_interval_is = λ which jr e. none_some (at_both none which) e;
            };
        counts = record { sync_few = none_few limits.sync_reqs };
        shape =
            record {
              reads_differ = λ id p q. none_some refl p;
              read_or_in = λ which id jr p q. none_some (at_both none which) p;
              piece_size = λ which jr w p q. none_some (at_both none which) p;
            };
      }

  any_position : (C : Codec) (position : ℕ) → M.FinishLoadingOtherPhase g C (LoadingOther (unread g)) (Ready (loaded_at g position)) NoDiskOp
  any_position C position =
      record {
        op = refl;
        start_in = omega (arith, v.some_block);
        len_in = omega arith;
        front_in_is = λ w e. none_some parts.front_is e;
        back_in_is = λ w e. none_some parts.back_is e;
        superblock_write_is = refl;
        in_memory_journal_frozen_is = refl;
        in_memory_journal_is = refl;
        outstanding_journal_writes_is = refl;
        written_journal_len_is = refl;
        parses = (λ i. C.parse_journal_range (loaded_range (parts.back_is i) (parts.front_is i) [] [])) ∙ C.parse_empty;
        superblock_is = refl;
        which_superblock_is = refl;
        new_superblock_is = refl;
        sync_reqs_is = refl;
        is_frozen_is = refl;
        frozen_loc_is = refl;
        commit_status_is = refl;
      }
    where
      parts : FrontBack g 0 0 none none
      parts = parts_none g 0 0 refl

  abbrev position_of : Variables → ℕ
  position_of (Ready s) = s.frozenJournalPosition
  position_of (LoadingOther s) = 0
  position_of (LoadingSuperblock s) = 0

  pub position_open : (C : Codec)
      → ((s s' s'' : Variables) (dop : DiskOp) → MachineMeets g limits s → M.FinishLoadingOtherPhase g C s s' dop → M.FinishLoadingOtherPhase g C s s'' dop → s' ≡ s'') → ⊥
  position_open C f =
      ruin
      (ap position_of
      (f (LoadingOther (unread g)) (Ready (loaded_at g 0)) (Ready (loaded_at g 1)) NoDiskOp unread_meets (any_position C 0) (any_position C 1)))

-- Answers

-- slot 1's read is awaited and comes back damaged: NoOp leaves the machine as it is, the answer's own step makes the slot corrupt
abbrev awaiting : LoadingSuperblockVariables
awaiting = record { outstanding_superblock_reads = record { first = some 1; second = none }; superblocks = both SuperblockUnfinished; sync_reqs = no_keys }

abbrev answered : LoadingSuperblockVariables
answered = record { outstanding_superblock_reads = both none; superblocks = record { first = SuperblockCorruption; second = SuperblockUnfinished }; sync_reqs = no_keys }

abbrev damaged : DiskOp
damaged = RespReadSuperblockOp 1 false none

abbrev is_corrupt : SuperblockReadResult → ℕ
is_corrupt (SuperblockReadResult.SuperblockSuccess value) = 0
is_corrupt SuperblockUnfinished = 0
is_corrupt SuperblockCorruption = 1

abbrev corrupt_of : Variables → ℕ
corrupt_of (Ready s) = 0
corrupt_of (LoadingOther s) = 0
corrupt_of (LoadingSuperblock s) = is_corrupt (at s.superblocks false)

awaiting_meets : (g : Geometry) → MachineMeets g limits (LoadingSuperblock awaiting)
awaiting_meets g =
    record {
      inv =
          record {
            success_read = λ which superblock e. ruin (cc (at_both SuperblockUnfinished which));
            success_wf_is = λ which superblock e. ruin (cc (at_both SuperblockUnfinished which));
            corruption_read = λ which e. ruin (cc (at_both SuperblockUnfinished which));
          };
      counts = record { sync_few = none_few limits.sync_reqs };
      shape = record { reads_differ = λ id p q. none_some refl q };
    }

pub answer_open : (g : Geometry) (C : Codec)
    → ((s s' s'' : Variables) (dop : DiskOp) → Answer dop → MachineMeets g limits s → M.Next g C s s' dop → M.Next g C s s'' dop → s' ≡ s'') → ⊥
answer_open g C f =
    ruin
    (ap corrupt_of
    (f (LoadingSuperblock awaiting) (LoadingSuperblock awaiting) (LoadingSuperblock answered) damaged tt (awaiting_meets g)
    (NoOpStep, record { op = M.NoOpOp.superblock_read_op 1 false none refl; next = refl })
    (PageInSuperblockRespStep false, record { id = 1; superblock = none; op = refl; waiting = refl; next = refl })))

-- Damage: a superblock

pub record CorruptSlot (s : LoadingSuperblockVariables) (which : Bool) : Type 0 where
  pub corrupt : at s.superblocks which ≡ SuperblockCorruption
  pub no_read : at s.outstanding_superblock_reads which ≡ none

abbrev pub Corrupt : Variables → Bool → Type 0
Corrupt s which = IsLoadingSuperblock s (λ s. CorruptSlot s which)

-- a request and an answer leave the slot alone: one of its own is not for a corrupt slot
req_stays : (s : LoadingSuperblockVariables) (s' : Variables) (dop : DiskOp) (which w : Bool) → CorruptSlot s which → M.PageInSuperblockReqClauses s s' dop w → Corrupt s' which
req_stays s s' dop true true c h = ruin (cc)
req_stays s s' dop true false c h = subst (λ (t : Variables). Corrupt t true) (sym h.next) (record { corrupt = c.corrupt; no_read = c.no_read })
req_stays s s' dop false true c h = subst (λ (t : Variables). Corrupt t false) (sym h.next) (record { corrupt = c.corrupt; no_read = c.no_read })
req_stays s s' dop false false c h = ruin (cc)

resp_stays : (g : Geometry) (s : LoadingSuperblockVariables) (s' : Variables) (dop : DiskOp) (which w : Bool) → CorruptSlot s which
    → M.PageInSuperblockRespClauses g s s' dop w → Corrupt s' which
resp_stays g s s' dop true true c h = none_some c.no_read h.waiting
resp_stays g s s' dop true false c h = subst (λ (t : Variables). Corrupt t true) (sym h.next) (record { corrupt = c.corrupt; no_read = c.no_read })
resp_stays g s s' dop false true c h = subst (λ (t : Variables). Corrupt t false) (sym h.next) (record { corrupt = c.corrupt; no_read = c.no_read })
resp_stays g s s' dop false false c h = none_some c.no_read h.waiting

finish_stays : (s : LoadingSuperblockVariables) (s' : Variables) (dop : DiskOp) (which : Bool) → CorruptSlot s which
    → M.FinishLoadingSuperblockPhaseClauses s s' dop → Corrupt s' which
finish_stays s s' dop true c h = ruin (cc)
finish_stays s s' dop false c h = ruin (cc)

slot_stays : (g : Geometry) (C : Codec) (s : LoadingSuperblockVariables) (s' : Variables) (dop : DiskOp) (which : Bool) (step : Step)
    → CorruptSlot s which → M.NextStep g C (LoadingSuperblock s) s' dop step → Corrupt s' which
slot_stays g C s s' dop which (WriteBackJournalReqStep jr) c h = absurd h
slot_stays g C s s' dop which WriteBackJournalRespStep c h = absurd h
slot_stays g C s s' dop which WriteBackSuperblockReq-AdvanceLog-Step c h = absurd h
slot_stays g C s s' dop which WriteBackSuperblockReq-AdvanceLocation-Step c h = absurd h
slot_stays g C s s' dop which WriteBackSuperblockRespStep c h = absurd h
slot_stays g C s s' dop which (PageInJournalReqStep w) c h = absurd h
slot_stays g C s s' dop which (PageInJournalRespStep w) c h = absurd h
slot_stays g C s s' dop which (PageInSuperblockReqStep w) c h = req_stays s s' dop which w c h
slot_stays g C s s' dop which (PageInSuperblockRespStep w) c h = resp_stays g s s' dop which w c h
slot_stays g C s s' dop which FinishLoadingSuperblockPhaseStep c h = finish_stays s s' dop which c h
slot_stays g C s s' dop which FinishLoadingOtherPhaseStep c h = absurd h
slot_stays g C s s' dop which FreezeStep c h = absurd h
slot_stays g C s s' dop which (ReceiveFrozenLocStep loc) c h = absurd h
slot_stays g C s s' dop which (AdvanceStep new-je) c h = absurd h
slot_stays g C s s' dop which (ReplayStep replayed-je) c h = absurd h
slot_stays g C s s' dop which (PushSyncReqStep id) c h =
    subst (λ (t : Variables). Corrupt t which) (sym h.next) (record { corrupt = c.corrupt; no_read = c.no_read })
slot_stays g C s s' dop which (PopSyncReqStep id) c h =
    subst (λ (t : Variables). Corrupt t which) (sym h.next) (record { corrupt = c.corrupt; no_read = c.no_read })
slot_stays g C s s' dop which NoOpStep c h = subst (λ (t : Variables). Corrupt t which) (sym h.next) c

-- no step of 000 leads on from a corrupt slot
pub corrupt_stays : (g : Geometry) (C : Codec) (s s' : Variables) (dop : DiskOp) (which : Bool) → Corrupt s which → M.Next g C s s' dop → Corrupt s' which
corrupt_stays g C (Ready s) s' dop which c h = absurd c
corrupt_stays g C (LoadingOther s) s' dop which c h = absurd c
corrupt_stays g C (LoadingSuperblock s) s' dop which c h = slot_stays g C s s' dop which h.0 c h.1

-- ask again does
corrupt_asked : (s : LoadingSuperblockVariables) (which : Bool) → CorruptSlot (M.to_superblocks (put s.superblocks which SuperblockUnfinished) s) which → ⊥
corrupt_asked s true c = ruin (cc)
corrupt_asked s false c = ruin (cc)

pub ask_again_leads : (s : Variables) (which : Bool) → Corrupt s which → (s' : Variables) × AskAgain s s' NoDiskOp which × (Corrupt s' which → ⊥)
ask_again_leads (Ready s) which c = absurd c
ask_again_leads (LoadingOther s) which c = absurd c
ask_again_leads (LoadingSuperblock s) which c = (
  LoadingSuperblock (M.to_superblocks (put s.superblocks which SuperblockUnfinished) s),
  record { op = refl; corrupt = c.corrupt; next = refl },
  corrupt_asked s which,
)

-- Damage: a journal read

-- a journal in one piece, whose read is awaited
pub record OneRead (g : Geometry) (id : ReqId) (m : LoadingOtherVariables) : Type 0 where
  pub front : JournalInterval
  pub front_is : journal_front_interval_of_superblock g m.superblock ≡ some front
  pub no_back : journal_back_interval_of_superblock g m.superblock ≡ none
  pub awaited : at m.journalReads false ≡ some id
  pub no_back_read : at m.journalReads true ≡ none
  pub not_in : at m.journal_pieces false ≡ none

-- and the disk holds it no more
pub record LostRead (g : Geometry) (id : ReqId) (m : LoadingOtherVariables) (d : D.Variables) : Type 0 where
  pub read : OneRead g id m
  pub not_held : d.req_read_journals id ≡ none

abbrev pub Lost : Geometry → ReqId → Variables → D.Variables → Type 0
Lost g id m d = IsLoadingOther m (λ m. LostRead g id m d)

unbind_none : (m : Map JournalInterval) (k i : ℕ) → m i ≡ none → unbind m k i ≡ none
unbind_none m k i e = split_eq k i (λ q. ap (unbind m k) (sym q) ∙ unbind_here m k) (λ n. unbind_there m k i n ∙ e)

-- a disk that only answers does not hold the read again
answers_lost : (g : Geometry) (id : ReqId) (m : Variables) (d d' : D.Variables) (dop : DiskOp) → M.NoOpOp m dop → D.Next g d d' dop
    → d.req_read_journals id ≡ none → d'.req_read_journals id ≡ none
answers_lost g id m d d' dop (M.NoOpOp.no_op_is e) h n =
    let k = subst (D.Next g d d') e h in
    ap (λ (x : D.Variables). x.req_read_journals id) k.next ∙ n
answers_lost g id m d d' dop (M.NoOpOp.superblock_read_op i w v e) h n =
    let k = subst (D.Next g d d') e h in
    ap (λ (x : D.Variables). x.req_read_journals id) k.next ∙ n
answers_lost g id m d d' dop (M.NoOpOp.journal_read_is i j e) h n =
    let k = subst (D.Next g d d') e h in
    ap (λ (x : D.Variables). x.req_read_journals id) k.next ∙ unbind_none d.req_read_journals i id n
answers_lost g id m d d' dop (M.NoOpOp.superblock_written_is i w e f) h n =
    let k = subst (D.Next g d d') e h in
    ap (λ (x : D.Variables). x.req_read_journals id) k.next ∙ n
answers_lost g id m d d' dop (M.NoOpOp.journal_written_is i e f) h n =
    let k = subst (D.Next g d d') e h in
    ap (λ (x : D.Variables). x.req_read_journals id) k.next ∙ n

-- the same read after a step that leaves the pieces, their reads and the superblock alone
still_read : (g : Geometry) (id : ReqId) (m : LoadingOtherVariables) (d' : D.Variables) (sync : Map M.SyncReqStatus) → OneRead g id m
    → d'.req_read_journals id ≡ none → Lost g id (M.with_sync_reqs sync (LoadingOther m)) d'
still_read g id m d' sync c n =
    record {
      read =
          record {
            front = c.front;
            front_is = c.front_is;
            no_back = c.no_back;
            awaited = c.awaited;
            no_back_read = c.no_back_read;
            not_in = c.not_in;
          };
      not_held = n;
    }

-- the read cannot be asked for again, and loading does not end without it
module _ (g : Geometry) (id : ReqId) (m : LoadingOtherVariables) (m' : Variables) (dop : DiskOp) (c : OneRead g id m) where
  req_lost : {G : Type 0} (which : Bool) → M.PageInJournalReqClauses g m m' dop which → G
  req_lost false h = none_some h.no_read c.awaited
  req_lost true h = none_some c.no_back h.interval_is

  finish_lost : {G : Type 0} (C : Codec) (r : Variables) → IsReady r (λ r. M.FinishLoadingOtherPhaseClauses g C m r dop) → G
  finish_lost C (Ready r) h = none_some c.not_in (h.front_in_is c.front c.front_is).1
  finish_lost C (LoadingOther r) h = absurd h
  finish_lost C (LoadingSuperblock r) h = absurd h

-- and no answer to it comes
module _ (g : Geometry) (id : ReqId) (m : LoadingOtherVariables) (m' : Variables) (d d' : D.Variables) (dop : DiskOp) (c : LostRead g id m d) where
  resp_lost : {G : Type 0} (which : Bool) → M.PageInJournalRespClauses m m' dop which → D.Next g d d' dop → G
  resp_lost false h n =
      let k = subst (D.Next g d d') h.op n in
      let e : id ≡ h.id = cc in
      none_some (ap d.req_read_journals (sym e) ∙ c.not_held) k.waiting
  resp_lost true h n = none_some c.read.no_back_read h.waiting

  -- a step with no disk operation
  quiet : dop ≡ NoDiskOp → D.Next g d d' dop → d'.req_read_journals id ≡ none
  quiet e n = answers_lost g id m' d d' dop (M.NoOpOp.no_op_is e) n c.not_held

  machine_lost : (C : Codec) (step : Step) → M.NextStep g C (LoadingOther m) m' dop step → D.Next g d d' dop → Lost g id m' d'
  machine_lost C (WriteBackJournalReqStep jr) h n = absurd h
  machine_lost C WriteBackJournalRespStep h n = absurd h
  machine_lost C WriteBackSuperblockReq-AdvanceLog-Step h n = absurd h
  machine_lost C WriteBackSuperblockReq-AdvanceLocation-Step h n = absurd h
  machine_lost C WriteBackSuperblockRespStep h n = absurd h
  machine_lost C (PageInJournalReqStep which) h n = req_lost g id m m' dop c.read which h
  machine_lost C (PageInJournalRespStep which) h n = resp_lost which h n
  machine_lost C (PageInSuperblockReqStep which) h n = absurd h
  machine_lost C (PageInSuperblockRespStep which) h n = absurd h
  machine_lost C FinishLoadingSuperblockPhaseStep h n = absurd h
  machine_lost C FinishLoadingOtherPhaseStep h n = finish_lost g id m m' dop c.read C m' h
  machine_lost C FreezeStep h n = absurd h
  machine_lost C (ReceiveFrozenLocStep loc) h n = absurd h
  machine_lost C (AdvanceStep new-je) h n = absurd h
  machine_lost C (ReplayStep replayed-je) h n = absurd h
  machine_lost C (PushSyncReqStep i) h n =
      subst (λ (t : Variables). Lost g id t d') (sym h.next) (still_read g id m d' (bind m.sync_reqs i M.SyncReqStatus.State3) c.read (quiet h.op n))
  machine_lost C (PopSyncReqStep i) h n =
      subst (λ (t : Variables). Lost g id t d') (sym h.next) (still_read g id m d' (unbind m.sync_reqs i) c.read (quiet h.op n))
  machine_lost C NoOpStep h n =
      subst (λ (t : Variables). Lost g id t d') (sym h.next)
      (still_read g id m d' m.sync_reqs c.read (answers_lost g id (LoadingOther m) d d' dop h.op n c.not_held))

abbrev pub NoCrash : Y.Step → Type 0
NoCrash (Y.Step.MachineStep dop machineStep) = Unit {0}
NoCrash (Y.Step.DiskInternalStep step) = Unit {0}
NoCrash Y.Step.CrashStep = ⊥

landing_lost : (g : Geometry) (id : ReqId) (m : Variables) (d d' : D.Variables) (step : D.InternalStep) → D.NextInternalStep d d' step → Lost g id m d → Lost g id m d'
landing_lost g id (LoadingOther m) d d' (D.InternalStep.ProcessWriteSuperblockStep which) h c =
    still_read g id m d' m.sync_reqs c.read (ap (λ (x : D.Variables). x.req_read_journals id) h.next ∙ c.not_held)
landing_lost g id (Ready m) d d' step h c = absurd c
landing_lost g id (LoadingSuperblock m) d d' step h c = absurd c

-- no step of 004 but a crash leads on from a read that is lost
pub lost_stays : (g : Geometry) (C : Codec) (id : ReqId) (s s' : Y.Variables) (step : Y.Step) → NoCrash step → Lost g id s.machine s.disk
    → Y.NextStep g C s s' step → Lost g id s'.machine s'.disk
lost_stays g C id s s' (Y.Step.MachineStep dop machineStep) n c h = go s.machine c h.machine
  where
    go : (m : Variables) → Lost g id m s.disk → M.NextStep g C m s'.machine dop machineStep → Lost g id s'.machine s'.disk
    go (Ready m) c k = absurd c
    go (LoadingOther m) c k = machine_lost g id m s'.machine s.disk s'.disk dop c C machineStep k h.disk
    go (LoadingSuperblock m) c k = absurd c
lost_stays g C id s s' (Y.Step.DiskInternalStep step) n c h =
    subst (λ (m : Variables). Lost g id m s'.disk) h.machine (landing_lost g id s.machine s.disk s'.disk step h.disk c)
lost_stays g C id s s' Y.Step.CrashStep n c h = absurd n

-- and a damaged answer loses the read: no step of 000 but NoOp takes it
damage_loses : (g : Geometry) (C : Codec) (id : ReqId) (m : LoadingOtherVariables) (m' : Variables) (d d' : D.Variables) (step : Step) → OneRead g id m
    → M.NextStep g C (LoadingOther m) m' (RespReadJournalOp id none) step → D.AckReadJournal g d d' id none → Lost g id m' d'
damage_loses g C id m m' d d' (WriteBackJournalReqStep jr) c h n = absurd h
damage_loses g C id m m' d d' WriteBackJournalRespStep c h n = absurd h
damage_loses g C id m m' d d' WriteBackSuperblockReq-AdvanceLog-Step c h n = absurd h
damage_loses g C id m m' d d' WriteBackSuperblockReq-AdvanceLocation-Step c h n = absurd h
damage_loses g C id m m' d d' WriteBackSuperblockRespStep c h n = absurd h
damage_loses g C id m m' d d' (PageInJournalReqStep which) c h n = req_lost g id m m' (RespReadJournalOp id none) c which h
damage_loses g C id m m' d d' (PageInJournalRespStep which) c h n = ruin (cc)
damage_loses g C id m m' d d' (PageInSuperblockReqStep which) c h n = absurd h
damage_loses g C id m m' d d' (PageInSuperblockRespStep which) c h n = absurd h
damage_loses g C id m m' d d' FinishLoadingSuperblockPhaseStep c h n = absurd h
damage_loses g C id m m' d d' FinishLoadingOtherPhaseStep c h n = finish_lost g id m m' (RespReadJournalOp id none) c C m' h
damage_loses g C id m m' d d' FreezeStep c h n = absurd h
damage_loses g C id m m' d d' (ReceiveFrozenLocStep loc) c h n = absurd h
damage_loses g C id m m' d d' (AdvanceStep new-je) c h n = absurd h
damage_loses g C id m m' d d' (ReplayStep replayed-je) c h n = absurd h
damage_loses g C id m m' d d' (PushSyncReqStep i) c h n = ruin (cc)
damage_loses g C id m m' d d' (PopSyncReqStep i) c h n = ruin (cc)
damage_loses g C id m m' d d' NoOpStep c h n =
    subst (λ (t : Variables). Lost g id t d') (sym h.next)
    (still_read g id m d' m.sync_reqs c (ap (λ (x : D.Variables). x.req_read_journals id) n.next ∙ unbind_here d.req_read_journals id))

pub damaged_lost : (g : Geometry) (C : Codec) (id : ReqId) (s s' : Y.Variables) (step : Step) → IsLoadingOther s.machine (λ m. OneRead g id m)
    → Y.Machine g C s s' (RespReadJournalOp id none) step → Lost g id s'.machine s'.disk
damaged_lost g C id s s' step c h = go s.machine c h.machine
  where
    go : (m : Variables) → IsLoadingOther m (λ m. OneRead g id m) → M.NextStep g C m s'.machine (RespReadJournalOp id none) step → Lost g id s'.machine s'.disk
    go (Ready m) c k = absurd c
    go (LoadingOther m) c k = damage_loses g C id m s'.machine s.disk s'.disk step c k h.disk
    go (LoadingSuperblock m) c k = absurd c

-- the departure clears the read, so that it can be asked for again
read_cleared : (g : Geometry) (id : ReqId) (m : LoadingOtherVariables) (d : D.Variables) → LostRead g id (M.to_journal_reads (put m.journalReads false none) m) d → ⊥
read_cleared g id m d c = none_some refl c.read.awaited

pub damage_leads : (g : Geometry) (id : ReqId) (s : Variables) (d : D.Variables) → IsLoadingOther s (λ m. OneRead g id m)
    → (s' : Variables) × DamagedJournal s s' (RespReadJournalOp id none) × (Lost g id s' d → ⊥)
damage_leads g id (Ready m) d c = absurd c
damage_leads g id (LoadingOther m) d c = (
  LoadingOther (M.to_journal_reads (put m.journalReads false none) m),
  record { id = id; op = refl; which = false; waiting = c.awaited; next = refl },
  read_cleared g id m d,
)
damage_leads g id (LoadingSuperblock m) d c = absurd c

-- in two pieces: a read that is awaited, and the other piece not yet asked for
pub record OtherUnasked (g : Geometry) (id : ReqId) (m : LoadingOtherVariables) (which : Bool) : Type 0 where
  pub superblock_wf : WFSuperblock g m.superblock
  pub awaited : at m.journalReads which ≡ some id
  pub other : JournalInterval
  pub other_is : journal_interval_of_superblock g (not which) m.superblock ≡ some other
  pub no_read : at m.journalReads (not which) ≡ none
  pub no_piece : at m.journal_pieces (not which) ≡ none

-- the machine after the other piece was asked for under the same id
abbrev asked_other : ReqId → LoadingOtherVariables → Bool → LoadingOtherVariables
asked_other id m which = M.to_journal_reads (put (put m.journalReads (not which) (some id)) (not (not which)) (unless_is (at m.journalReads (not (not which))) id)) m

other_cleared : (id : ReqId) (m : LoadingOtherVariables) (which : Bool) → at m.journalReads which ≡ some id → at (asked_other id m which).journalReads which ≡ none
other_cleared id m true e = ap (λ (o : Option ReqId). unless_is o id) e ∙ unless_same id
other_cleared id m false e = ap (λ (o : Option ReqId). unless_is o id) e ∙ unless_same id

pub other_clears : (g : Geometry) (id : ReqId) (m : LoadingOtherVariables) (d : D.Variables) (which : Bool) (c : OtherUnasked g id m which) → d.req_read_journals id ≡ none
    → M.PageInJournalReq g (LoadingOther m) (LoadingOther (asked_other id m which)) (ReqReadJournalOp id c.other) (not which)
    × D.Next g d (D.to_req_read_journals (bind d.req_read_journals id c.other) d) (ReqReadJournalOp id c.other)
    × (at (asked_other id m which).journalReads which ≡ none)
other_clears g id m d which c n = (
  record {
    id = id;
    interval = c.other;
    op = refl;
    start_in = c.superblock_wf.start_in;
    len_in = c.superblock_wf.len_in;
    interval_is = c.other_is;
    no_read = c.no_read;
    no_piece = c.no_piece;
    next = refl;
  },
  record { new = n; contiguous = piece_contiguous g m.superblock c.superblock_wf (not which) c.other c.other_is; next = refl },
  other_cleared id m which c.awaited,
)
