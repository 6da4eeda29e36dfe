-- Question 2 never turns away a store that came from `Init` by accepted steps within the limits: an accepted step leads to a state that meets
-- it again, where the step's arguments are in range and that state's counts are within the limits.
use Rattle.std.specs.Prelude.{ℕ, ◌+◌, ◌≤◌, ◌<◌, Bool, true, false, ◌≡◌, refl, List, [], ◌∷◌, length}
use Rattle.std.proofs.Common.{sym, ◌∙◌, ap, subst, inl, arith}
use Rattle.laws.specs.Choice.{split_le}
use Rattle.layout.specs.declared.Geometry.{Geometry}
use Rattle.layout.specs.declared.Location.{Location}
use Rattle.layout.specs.Journal.{journal_pos_add}
use Rattle.interval.specs.declared.JournalInterval.{JournalInterval}
use Rattle.superblock.specs.declared.Superblock.{Superblock}
use Rattle.laws.specs.Sets.{Map, no_keys, bind, both}
use Rattle.laws.specs.Maps.{Values, no_keys_some}
use Rattle.codec.specs.Codec.{JournalRange, Sized, Codec}
use Rattle.source.specs.JournalDisk as D
use Rattle.source.specs.JournalDisk.{ReqWriteJournal, DiskOp, written, written1, written2}
use Rattle.source.specs.JournalCache as M
use Rattle.source.specs.JournalSystem as Y
use Rattle.source.specs.JournalSystem.{superblock_of_disk}
use Rattle.source.specs.Limits.{Limits, Fitting}
use Rattle.source.specs.Meets.{SystemMeets}
use Rattle.source.specs.Departures.{WriteBackJournalReq⁺, Event, Allowed}
use Rattle.source.specs.Within.{Within}
use Rattle.source.proofs.Laws.Initial.{init_meets}
use Rattle.source.proofs.Laws.Kept.{halves_kept}
use Rattle.history.specs.Ledger.{Call, blocks, Kept, Ledger, begin, tell, books}
use Rattle.history.proofs.Journal.Slots.{slots_wf_is}
use Rattle.history.proofs.Simulation.Relation.{super_of, kept_interval, Standing, Sim}
use Rattle.history.proofs.Simulation.Working.{on_quiet}
use Rattle.history.specs.Statement.{Tied, tied_write, tied_written, unawaited_written, tied_log, tied_location, tied_committed, unawaited_committed, tied_page, tied_paged, tied_damaged, unawaited_paged, unawaited_damaged, tied_read, tied_superblock, tied_corrupt, unawaited_superblock, unawaited_corrupt, tied_finish_superblocks, tied_finish_other, tied_freeze, tied_receive, tied_add, tied_replay, tied_push, tied_pop, tied_no_op, tied_again, tied_land, tied_crash, Takes, Trace}
use Rattle.history.proofs.Simulation.Steps.{sim_step}
use Rattle.history.proofs.Whole.First.{first_parity, init_sim}
use Rattle.history.proofs.Reach.Neat.{Piece, Neat, neat_meets}
use Rattle.history.proofs.Reach.NeatWrites.{Lone, straight_pieces, straight_lone, wrapped_pieces, wrapped_lone}
use Rattle.history.proofs.Reach.NeatSteps.{by_neat, neat_superblock_req, neat_superblock_resp, neat_ask_again, neat_finish_superblocks, neat_journal_req, neat_journal_resp, neat_damaged, neat_finish_other, neat_push, neat_pop, neat_replay, neat_add, neat_freeze, neat_receive, neat_commit_log, neat_commit_location, neat_synced, neat_write_resp, neat_commit_resp, neat_land, neat_no_op}

module _ (g : Geometry) (C : Codec) (p : ℕ) where
  neat_write : (jr : JournalRange) (m m' : M.Variables) (d d' : D.Variables) (l : Ledger) (dop : DiskOp) → Sim g C p m d l → Neat g C m d l.kept → WriteBackJournalReq⁺ g C m m' dop jr
      → D.Next g d d' dop → Neat g C m' d' l.kept
  neat_write jr (M.Variables.LoadingSuperblock s) m' d d' l dop z n h hd = absurd h.source
  neat_write jr (M.Variables.LoadingOther s) m' d d' l dop z n h hd = absurd h.source
  neat_write jr (M.Variables.Ready s) m' d d' l dop z n h hd =
      split_le (req.start + length jr) g.blocks
      (λ k.
      to (bind d.req_write_journals c.id1 (written req)) (a.straight k).next
      (straight_pieces g start len s.writtenJournalLen (length jr) start_in st.longer fits d.req_write_journals n.pieces n.apart c.some_block k c.id1)
      (straight_lone g start len s.writtenJournalLen (length jr) start_in st.longer fits d.req_write_journals n.pieces n.apart c.some_block k c.id1))
      (λ k.
      let t = a.wrapped k in
      to (bind (bind d.req_write_journals c.id1 (written1 g req)) t.id (written2 g req)) t.next
      (wrapped_pieces g start len s.writtenJournalLen (length jr) start_in st.longer fits d.req_write_journals n.pieces n.apart c.some_block k c.id1 t.id)
      (wrapped_lone g start len s.writtenJournalLen (length jr) start_in st.longer fits d.req_write_journals n.pieces n.apart c.some_block k c.id1 t.id))
    where
      c : M.WriteBackJournalReqClauses g C s m' dop jr
      c = h.source

      st : Standing g C s.superblock s.whichSuperblock s.writtenJournalLen s.frozenJournalPosition d.journal l.kept l.draft.before l.draft.after z.slot
      st = (on_quiet z.runs.phase (inl c.no_write)).1

      start : ℕ
      start = l.kept.start

      len : ℕ
      len = blocks C l.kept.ranges

      start_in : l.kept.start < g.blocks
      start_in = (slots_wf_is g d.superblocks z.slot (super_of C l.kept) z.disk.selected).start_in

      fits : s.writtenJournalLen + length jr ≤ g.blocks
      fits = omega (arith, c.fits)

      req : ReqWriteJournal
      req = record { start = journal_pos_add g l.kept.start s.writtenJournalLen; journal = jr }

      a : D.RecvWriteJournal g d d' c.id1 c.id2 req
      a =
          subst (D.RecvWriteJournal g d d' c.id1 c.id2)
          (λ i. record { start = (c.start_is ∙ ap (λ (v : Superblock). journal_pos_add g v.journalStart s.writtenJournalLen) st.superblock_is) i; journal = c.journal_is i })
          (subst (D.Next g d d') c.op hd)

      to : (writes : Map JournalInterval) → d' ≡ D.to_journal d'.journal (D.to_req_write_journals writes d)
          → Values (Piece g (kept_interval C l.kept) (s.writtenJournalLen + length jr)) writes → Lone writes → Neat g C m' d' l.kept
      to writes e pieces lone = by_neat g C _ m' _ d' l.kept c.next e (record { reads = n.reads; pages = n.pages; pieces = pieces; apart = lone })

  -- a machine's `Init`, on a disk at rest
  pub neat_init : (m : M.Variables) (d : D.Variables) (k : Kept) → M.Init m → d.req_read_superblocks ≡ both (λ i. false) → d.req_read_journals ≡ no_keys → d.req_write_journals ≡ no_keys → Neat g C m d k
  neat_init m d k e a b c =
      by_neat g C (M.Variables.LoadingSuperblock M.initial) m d d k e refl
      (record {
        reads = a;
        pages = b;
        pieces = λ id v q. no_keys_some d.req_write_journals id v c q;
        apart = λ id1 id2 v1 v2 q r o. no_keys_some d.req_write_journals id1 v1 c q;
      })

module _ (g : Geometry) (C : Codec) (L : Limits) (p : ℕ) (s t : Y.Variables) (l : Ledger) (z : Sim g C p s.machine s.disk l) (n : Neat g C s.machine s.disk l.kept) where
  pub neat_tied : (x : Call) (e : Event) → Tied x e → Allowed g C L s t e → Neat g C t.machine t.disk (tell g C x l).kept
  unfolding tell
  neat_tied x e (tied_write {jr = jr}) a = neat_write g C p jr s.machine t.machine s.disk t.disk l _ z n a.step.machine a.step.disk
  neat_tied x e tied_written a = neat_write_resp g C s.machine t.machine s.disk t.disk l.kept _ n a.step.machine a.step.disk
  neat_tied x e unawaited_written a = neat_no_op g C s.machine t.machine s.disk t.disk l.kept _ p l z n a.step.machine a.step.disk
  neat_tied x e tied_log a = neat_synced g C _ (neat_commit_log g C) s.machine t.machine s.disk t.disk l.kept _ n a.step.machine a.step.disk
  neat_tied x e tied_location a = neat_synced g C _ (neat_commit_location g C) s.machine t.machine s.disk t.disk l.kept _ n a.step.machine a.step.disk
  neat_tied x e tied_committed a = neat_commit_resp g C p s.machine t.machine s.disk t.disk l l.kept _ z n a.step.machine a.step.disk
  neat_tied x e unawaited_committed a = neat_no_op g C s.machine t.machine s.disk t.disk l.kept _ p l z n a.step.machine a.step.disk
  neat_tied x e (tied_page {which = which}) a = neat_journal_req g C L which s.machine t.machine s.disk t.disk l.kept _ a.meets n a.step.machine a.step.disk
  neat_tied x e tied_paged a = neat_journal_resp g C L a.step.machine.0 s.machine t.machine s.disk t.disk l.kept _ a.meets n a.step.machine.1 a.step.disk
  neat_tied x e tied_damaged a = neat_damaged g C L s.machine t.machine s.disk t.disk l.kept _ a.meets n a.step.machine a.step.disk
  neat_tied x e unawaited_paged a = neat_no_op g C s.machine t.machine s.disk t.disk l.kept _ p l z n a.step.machine a.step.disk
  neat_tied x e unawaited_damaged a = neat_no_op g C s.machine t.machine s.disk t.disk l.kept _ p l z n a.step.machine a.step.disk
  neat_tied x e (tied_read {which = which}) a = neat_superblock_req g C which s.machine t.machine s.disk t.disk l.kept _ n a.step.machine.source a.step.disk
  neat_tied x e (tied_superblock {which = which}) a = neat_superblock_resp g C which s.machine t.machine s.disk t.disk l.kept _ n a.step.machine a.step.disk
  neat_tied x e (tied_corrupt {which = which}) a = neat_superblock_resp g C which s.machine t.machine s.disk t.disk l.kept _ n a.step.machine a.step.disk
  neat_tied x e unawaited_superblock a = neat_no_op g C s.machine t.machine s.disk t.disk l.kept _ p l z n a.step.machine a.step.disk
  neat_tied x e unawaited_corrupt a = neat_no_op g C s.machine t.machine s.disk t.disk l.kept _ p l z n a.step.machine a.step.disk
  neat_tied x e tied_finish_superblocks a = neat_finish_superblocks g C s.machine t.machine s.disk t.disk l.kept _ a.meets.machine.inv n a.step.machine a.step.disk
  neat_tied x e tied_finish_other a = neat_finish_other g C L p s.machine t.machine s.disk t.disk l l.kept _ z a.meets n a.step.machine a.step.disk
  neat_tied x e tied_freeze a = neat_freeze g C s.machine t.machine s.disk t.disk l.kept _ n a.step.machine a.step.disk
  neat_tied x e (tied_receive {loc = loc}) a = neat_receive g C loc s.machine t.machine s.disk t.disk l.kept _ n a.step.machine a.step.disk
  neat_tied x e (tied_add {es = es}) a = neat_add g C es s.machine t.machine s.disk t.disk l.kept _ n a.step.machine.source a.step.disk
  neat_tied x e (tied_replay {es = es}) a = neat_replay g C es s.machine t.machine s.disk t.disk l.kept _ n a.step.machine a.step.disk
  neat_tied x e (tied_push {id = id}) a = neat_push g C id s.machine t.machine s.disk t.disk l.kept _ n a.step.machine a.step.disk
  neat_tied x e (tied_pop {id = id}) a = neat_pop g C id s.machine t.machine s.disk t.disk l.kept _ n a.step.machine a.step.disk
  neat_tied x e tied_no_op a = neat_no_op g C s.machine t.machine s.disk t.disk l.kept _ p l z n a.step.machine a.step.disk
  neat_tied x e (tied_again {which = which}) a = neat_ask_again g C which s.machine t.machine s.disk t.disk l.kept _ n a.step.machine a.step.disk
  neat_tied x e (tied_land {which = which}) a =
      neat_land g C p which s.machine t.machine s.disk t.disk l l.kept (tell g C x l).kept z n a.step.machine a.step.disk
  neat_tied x e tied_crash a =
      let c = a.step.disk.source in
      neat_init g C p t.machine t.disk l.kept a.step.machine c.no_superblock_reads c.no_journal_reads c.no_journal_writes

-- a state that was reached: its ledger, and question 2
pub record Reached (g : Geometry) (C : Codec) (L : Limits) (p : ℕ) (s : Y.Variables) (l : Ledger) : Type 0 where
  pub sim : Sim g C p s.machine s.disk l
  pub neat : Neat g C s.machine s.disk l.kept
  pub meets : SystemMeets g L s

-- `Init`, on blocks of their size
pub reached_init : (g : Geometry) (C : Codec) (L : Limits) (first : Y.Variables) (loc : Location) (i : Y.Init g first loc) → Sized first.disk.journal
    → Reached g C L (first_parity g C first loc i) first (begin (superblock_of_disk g first.disk i.wf))
reached_init g C L first loc i sized =
    record {
      sim = init_sim g C first loc i;
      neat = neat_init g C 0 first.machine first.disk _ i.machine i.disk.no_superblock_reads i.disk.no_journal_reads i.disk.no_journal_writes;
      meets = init_meets g L first loc i sized;
    }

-- an accepted call within the limits: its arguments in range, and the counts of the state that it leads to
pub reached_step : (g : Geometry) (C : Codec) (L : Limits) → Fitting C L → (p : ℕ) (s t : Y.Variables) (l : Ledger) (x : Call) → Reached g C L p s l → (h : Takes g C L s t x)
    → Within g L t h.event → Reached g C L p t (tell g C x l)
reached_step g C L fits p s t l x r h w =
    let z = sim_step g C L p s t l r.sim x h in
    let n = neat_tied g C L p s t l r.sim r.neat x h.event h.tied h.allowed in
    record {
      sim = z;
      neat = n;
      meets = neat_meets g C p L t.machine t.disk (tell g C x l) z n (halves_kept g C L s t fits h.event h.allowed w);
    }

-- every accepted call is within the limits
abbrev pub AllWithin : (g : Geometry) (C : Codec) (L : Limits) (s : Y.Variables) (xs : List Call) (bs : List Bool) (t : Y.Variables) → Trace g C L s xs bs t → Type 0
AllWithin g C L s [] [] t h = Unit {0}
AllWithin g C L s [] (b ∷ bs) t h = Unit {0}
AllWithin g C L s (x ∷ xs) [] t h = Unit {0}
AllWithin g C L s (x ∷ xs) (true ∷ bs) t h = Within g L h.0 h.1.event × AllWithin g C L h.0 xs bs t h.2
AllWithin g C L s (x ∷ xs) (false ∷ bs) t h = AllWithin g C L h.0 xs bs t h.2

-- so question 2 says yes in every state that a list of calls leads to
pub reached_run : (g : Geometry) (C : Codec) (L : Limits) → Fitting C L → (p : ℕ) (s t : Y.Variables) (l : Ledger) (xs : List Call) (bs : List Bool) → Reached g C L p s l → (h : Trace g C L s xs bs t)
    → AllWithin g C L s xs bs t h → Reached g C L p t (books g C l xs bs)
unfolding books
reached_run g C L fits p s t l [] [] r h w = subst (λ (u : Y.Variables). Reached g C L p u l) (sym h) r
reached_run g C L fits p s t l [] (b ∷ bs) r h w = absurd h
reached_run g C L fits p s t l (x ∷ xs) [] r h w = absurd h
reached_run g C L fits p s t l (x ∷ xs) (true ∷ bs) r h w = reached_run g C L fits p h.0 t (tell g C x l) xs bs (reached_step g C L fits p s h.0 l x r h.1 w.0) h.2 w.1
reached_run g C L fits p s t l (x ∷ xs) (false ∷ bs) r h w =
    reached_run g C L fits p h.0 t l xs bs (subst (λ (u : Y.Variables). Reached g C L p u l) (sym h.1) r) h.2 w
