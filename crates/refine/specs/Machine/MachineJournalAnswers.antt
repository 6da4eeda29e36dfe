-- The answer of a journal read, whole or damaged, in every kind of machine: awaited, or a NoOp. The blocks of a whole answer are those of the lent
-- bytes (`new`), as many as there are; the pieces after it lie in lent memory. A journal answer carries no `which`.
use Rattle.std.specs.Prelude.{ℕ, ◌/◌, Bool, ◌≡◌, ◌⊎◌, length, Ok}
use Rattle.std.proofs.Math.Path.{refl, sym, ap}
use Rattle.std.proofs.Common.{◌∙◌, inl, ⊎_elim}
use mathlib.Core.List.{List, []}
use Rattle.std.proofs.Math.Option.{Option, none, some}
use Rattle.std.proofs.Math.Logic.{inr}
use Rattle.std.proofs.Math.ListN.{replicate}
use Rattle.laws.specs.Choice.{and_then_left, and_then_right, unless_done}
use Rattle.laws.specs.Cut.{flat, lengths}
use Rattle.layout.specs.declared.Geometry.{Geometry}
use Rattle.interval.specs.declared.JournalInterval.{JournalInterval}
use Rattle.superblock.specs.declared.DiskOp.{DiskOp}
use Rattle.superblock.specs.declared.DiskOp.TheVariants as op
use Rattle.superblock.specs.declared.JournalRead.{JournalRead}
use Rattle.superblock.specs.declared.JournalRead.TheVariants as read
use Rattle.codec.specs.Codec.{JournalRange}
use Rattle.codec.specs.Format.{format}
use Rattle.source.specs.JournalDisk as D
use Rattle.source.specs.JournalCache as M
use Rattle.source.specs.JournalCache.{Variables, journal_interval_of_superblock, PageInJournalRespStep, NoOpStep}
use Rattle.source.specs.Limits.{limits}
use Rattle.source.specs.Meets.{MachineMeets}
use Rattle.source.specs.Departures.{Step⁺, NextStep⁺, Source, DamagedJournalStep, PageInJournalResp⁺, DamagedJournal, NoOp⁺}
use Rattle.source.specs.Within.{AwaitedPiece, MachineAllowed, MachineWithin}
use Rattle.source.proofs.Laws.Awaited.{awaited_read_is}
use Rattle.loading.specs.Other.{place}
use Rattle.machine.specs.declared.Machine.{Machine}
use Rattle.machine.specs.Lent.{Lent}
use Rattle.machine.specs.Questions.{ask_machine}
use Rattle.machine.specs.Laws.Answers.{next_asked}
use Rattle.machine.specs.Loading.{paged_in, ask_piece, page_in_journal_resp_op, page_in_journal_resp_machine, paged_pieces}
use Rattle.machine.specs.Whole.{ask_paged, page_in_journal_resp, page_in_journal_resp_pieces}
use Rattle.refine.specs.Machine.LoadingView.{blocks_in, loading_other_of}
use Rattle.refine.specs.Machine.LoadedBlocks.{sized_flat, sized_blocks}
use Rattle.refine.specs.Machine.LoadingPaged.{asked_nowhere, blocks_all_is, whole_sound, whole_complete, damaged_sound, damaged_complete, paged_unawaited}
use Rattle.refine.specs.Machine.MachineView.{syncs_of, machine_of, whole_in, operation_of, SizedMachine, MachineLent, MachineForm, KindForm}
use Rattle.refine.specs.Machine.MachineMeets.{KindOk, machine_kind_ok, machine_lent_is}
use Rattle.refine.specs.Machine.MachineCalls.{sound_by, complete_by}
use Rattle.refine.specs.Machine.MachineKinds.{by_kind_is}

-- lent memory with other pieces
abbrev pub with_pieces : Lent → List ℕ → Lent
with_pieces l pieces = record { bytes = l.bytes; lens = l.lens; pieces = pieces; rbytes = l.rbytes; rlens = l.rlens }

module _ (g : Geometry) (l : Lent) where
  -- lent memory after an answer; what it is where the answer is taken, and the view then
  abbrev pub answered_lent : Machine → ℕ → JournalRead → List ℕ → Lent
  answered_lent m id r new = with_pieces l (page_in_journal_resp_pieces g l m id r new)

  abbrev pub after : Machine → ℕ → JournalRead → List ℕ → Lent
  after m id r new = with_pieces l (paged_pieces (paged_in g m id r) new l.pieces)

  abbrev pub seen_after : Machine → ℕ → JournalRead → List ℕ → Variables
  seen_after m id r new = machine_of g (after m id r new) (page_in_journal_resp_machine m id r)

module _ (g : Geometry) (l : Lent) (m : Machine) where
  module _ (id : ℕ) (new : List ℕ) where
    abbrev pub whole_dop : D.DiskOp
    whole_dop = operation_of (op.RespReadJournal id read.Whole) (blocks_in (length new / 4096) new)

    pub whole_clauses : ask_machine g l m ≡ 0 → ask_piece (paged_in g m id read.Whole) new ≡ 0
        → PageInJournalResp⁺ (machine_of g l m) (seen_after g l m id read.Whole new) whole_dop ⊎ NoOp⁺ (machine_of g l m) (seen_after g l m id read.Whole new) whole_dop
    unfolding paged_in page_in_journal_resp_machine
    whole_clauses a e =
        by_kind_is
        (λ m.
        KindOk g m → ask_piece (paged_in g m id read.Whole) new ≡ 0
        → PageInJournalResp⁺ (machine_of g l m) (seen_after g l m id read.Whole new) whole_dop
        ⊎ NoOp⁺ (machine_of g l m) (seen_after g l m id read.Whole new) whole_dop)
        m
        (λ k q. inr (record { source = record { op = M.NoOpOp.journal_read_is id (some (blocks_in (length new / 4096) new)) refl; next = refl }; unawaited = λ w. w }))
        (λ k q. whole_sound g l.pieces m.other (syncs_of m) id (machine_lent_is g l m a).pieces_lent k new q)
        (λ k q. inr (record { source = record { op = M.NoOpOp.journal_read_is id (some (blocks_in (length new / 4096) new)) refl; next = refl }; unawaited = λ w. w }))
        (machine_kind_ok g l m a) e

    pub damaged_clauses : ask_machine g l m ≡ 0
        → DamagedJournal (machine_of g l m) (seen_after g l m id read.Damaged new) (operation_of (op.RespReadJournal id read.Damaged) [])
        ⊎ NoOp⁺ (machine_of g l m) (seen_after g l m id read.Damaged new) (operation_of (op.RespReadJournal id read.Damaged) [])
    unfolding paged_in page_in_journal_resp_machine
    damaged_clauses a =
        by_kind_is
        (λ m.
        KindOk g m
        → DamagedJournal (machine_of g l m) (seen_after g l m id read.Damaged new) (D.RespReadJournalOp id none)
        ⊎ NoOp⁺ (machine_of g l m) (seen_after g l m id read.Damaged new) (D.RespReadJournalOp id none))
        m
        (λ k. inr (record { source = record { op = M.NoOpOp.journal_read_is id none refl; next = refl }; unawaited = λ w. w }))
        (λ k. damaged_sound g l.pieces m.other (syncs_of m) id new k)
        (λ k. inr (record { source = record { op = M.NoOpOp.journal_read_is id none refl; next = refl }; unawaited = λ w. w }))
        (machine_kind_ok g l m a)

    -- an answer that nobody awaits, whatever it brings
    pub clauses_unawaited : (r : JournalRead) (journal : Option JournalRange) (s' : Variables) → NoOp⁺ (machine_of g l m) s' (D.RespReadJournalOp id journal)
        → (ask_piece (paged_in g m id r) new ≡ 0) × (seen_after g l m id r new ≡ s')
    unfolding paged_in page_in_journal_resp_machine
    clauses_unawaited r journal s' =
        by_kind_is
        (λ m.
        NoOp⁺ (machine_of g l m) s' (D.RespReadJournalOp id journal)
        → (ask_piece (paged_in g m id r) new ≡ 0) × (seen_after g l m id r new ≡ s'))
        m
        (λ h. (asked_nowhere (place 0 0) new refl, sym h.source.next))
        (λ h. paged_unawaited g l.pieces m.other (syncs_of m) id r new journal s' h)
        (λ h. (asked_nowhere (place 0 0) new refl, sym h.source.next))

  -- an awaited answer brings an id and, if it is whole, its blocks, as many as its interval has
  pub clauses_whole : MachineLent g l → KindForm l m → MachineMeets g limits (machine_of g l m) → (s' : Variables) (dop : D.DiskOp)
      → PageInJournalResp⁺ (machine_of g l m) s' dop → AwaitedPiece g (machine_of g l m) dop
      → (id : ℕ)
      × (jr : JournalRange)
      × (ask_piece (paged_in g m id read.Whole) (flat jr) ≡ 0)
      × (dop ≡ operation_of (op.RespReadJournal id read.Whole) (blocks_in (length (flat jr) / 4096) (flat jr)))
      × (seen_after g l m id read.Whole (flat jr) ≡ s')
      × (dop ≡ D.RespReadJournalOp id (some jr))
  unfolding paged_in page_in_journal_resp_machine
  clauses_whole t f k s' dop =
      by_kind_is
      (λ m.
      KindForm l m → MachineMeets g limits (machine_of g l m) → PageInJournalResp⁺ (machine_of g l m) s' dop → AwaitedPiece g (machine_of g l m) dop
      → (id : ℕ)
      × (jr : JournalRange)
      × (ask_piece (paged_in g m id read.Whole) (flat jr) ≡ 0)
      × (dop ≡ operation_of (op.RespReadJournal id read.Whole) (blocks_in (length (flat jr) / 4096) (flat jr)))
      × (seen_after g l m id read.Whole (flat jr) ≡ s')
      × (dop ≡ D.RespReadJournalOp id (some jr)))
      m
      (λ f k h p. absurd h.1)
      (λ f k h p.
      let x = h.1 in
      let sized : (v : JournalInterval) → journal_interval_of_superblock g h.0 m.other.superblock ≡ some v → lengths x.jr ≡ replicate v.len 4096 =
      λ v e. p x.id x.jr v x.op (awaited_read_is g (loading_other_of g l.pieces m.other (syncs_of m)) k.shape h.0 x.id v x.waiting e) in
      let v = k.inv.read_interval h.0 x.id x.waiting in
      let s = sized v.0 v.1 in
      let c =
      whole_complete g l.pieces m.other (syncs_of m) x.id t.pieces_lent
      (record { inv = k.inv; reads_differ = k.shape.reads_differ; which_in = f }) x.jr s'
      (h.0, record { id = x.id; jr = x.jr; op = refl; waiting = x.waiting; next = x.next }) sized in (
        x.id,
        x.jr,
        c.0,
        x.op ∙ ap (λ (d : JournalRange). D.RespReadJournalOp x.id (some d)) (sym (blocks_all_is v.0.len (flat x.jr) (sized_flat v.0.len x.jr s) ∙ sized_blocks v.0.len x.jr s)),
        c.1,
        x.op,
      ))
      (λ f k h p. absurd h.1)
      f k

  pub clauses_damaged : KindForm l m → MachineMeets g limits (machine_of g l m) → (s' : Variables) (dop : D.DiskOp) → DamagedJournal (machine_of g l m) s' dop
      → (id : ℕ)
      × (dop ≡ operation_of (op.RespReadJournal id read.Damaged) [])
      × ((new : List ℕ) → (ask_piece (paged_in g m id read.Damaged) new ≡ 0) × (seen_after g l m id read.Damaged new ≡ s'))
  unfolding paged_in page_in_journal_resp_machine
  clauses_damaged f k s' dop =
      by_kind_is
      (λ m.
      KindForm l m → MachineMeets g limits (machine_of g l m) → DamagedJournal (machine_of g l m) s' dop
      → (id : ℕ)
      × (dop ≡ D.RespReadJournalOp id none)
      × ((new : List ℕ)
      → (ask_piece (paged_in g m id read.Damaged) new ≡ 0)
      × (seen_after g l m id read.Damaged new ≡ s')))
      m
      (λ f k h. absurd h)
      (λ f k h. (
        h.id,
        h.op,
        λ new. (
          asked_nowhere (place 0 0) new refl,
          damaged_complete g l.pieces m.other (syncs_of m) h.id new (record { inv = k.inv; reads_differ = k.shape.reads_differ; which_in = f }) s'
              (record { id = h.id; op = refl; which = h.which; waiting = h.waiting; next = h.next }),
        ),
      ))
      (λ f k h. absurd h)
      f k

  -- The steps

  module _ (z : SizedMachine m) where
    same_lent : (id : ℕ) (r : JournalRead) (new : List ℕ) → ask_paged g l m id r new ≡ 0 → answered_lent g l m id r new ≡ after g l m id r new
    same_lent id r new e = ap (with_pieces l) (unless_done (ask_paged g l m id r new) l.pieces (paged_pieces (paged_in g m id r) new l.pieces) e)

    -- what each takes off: questions 1 and 2
    allowed : (id : ℕ) (r : JournalRead) (new : List ℕ) (jr : JournalRange) (step : Step⁺) (o : DiskOp) → (page_in_journal_resp g l m id r new).answer ≡ Ok o
        → NextStep⁺ g format (machine_of g l m) (seen_after g l m id r new) (operation_of (op.RespReadJournal id r) jr) step
        → MachineAllowed g format limits (machine_of g l m) (machine_of g (answered_lent g l m id r new) (page_in_journal_resp g l m id r new).machine) (operation_of o jr) step
    unfolding ask_paged
    allowed id r new jr step o e h =
        sound_by g l m z (ask_piece (paged_in g m id r) new) (page_in_journal_resp_op id r) (page_in_journal_resp_machine m id r) (answered_lent g l m id r new) (after g l m id r new) (same_lent id r new)
        jr step o e (λ a q k. h)

    taken : (id : ℕ) (r : JournalRead) (new : List ℕ) (s' : Variables) → MachineLent g l → MachineForm l m → MachineMeets g limits (machine_of g l m)
        → ask_piece (paged_in g m id r) new ≡ 0 → seen_after g l m id r new ≡ s'
        → ((page_in_journal_resp g l m id r new).answer ≡ Ok (op.RespReadJournal id r))
        × (machine_of g (answered_lent g l m id r new) (page_in_journal_resp g l m id r new).machine ≡ s')
    unfolding ask_paged
    taken id r new s' t f k e p =
        complete_by g l m z (ask_piece (paged_in g m id r) new) (page_in_journal_resp_op id r) (page_in_journal_resp_machine m id r) (answered_lent g l m id r new) (after g l m id r new) (same_lent id r new)
        s' t f k e p

    module _ (id : ℕ) (new : List ℕ) (o : DiskOp) where
      asked_paged : (r : JournalRead) → (page_in_journal_resp g l m id r new).answer ≡ Ok o → (ask_machine g l m ≡ 0) × (ask_piece (paged_in g m id r) new ≡ 0)
      unfolding ask_paged
      asked_paged r e =
          let q = (next_asked (ask_paged g l m id r new) (page_in_journal_resp_op id r) (page_in_journal_resp_machine m id r) m o e).0 in
          (and_then_left _ _ q, and_then_right _ _ q)

      -- a whole answer
      pub page_in_journal_resp_sound : (which : Bool) → (page_in_journal_resp g l m id read.Whole new).answer ≡ Ok o
          → MachineAllowed g format limits (machine_of g l m) (machine_of g (answered_lent g l m id read.Whole new) (page_in_journal_resp g l m id read.Whole new).machine)
          (operation_of o (blocks_in (length new / 4096) new)) (Source (PageInJournalRespStep which))
          ⊎ MachineAllowed g format limits (machine_of g l m) (machine_of g (answered_lent g l m id read.Whole new) (page_in_journal_resp g l m id read.Whole new).machine)
          (operation_of o (blocks_in (length new / 4096) new)) (Source NoOpStep)
      page_in_journal_resp_sound which e =
          let q = asked_paged read.Whole e in
          ⊎_elim
          (λ h. inl (allowed id read.Whole new (blocks_in (length new / 4096) new) (Source (PageInJournalRespStep which)) o e h))
          (λ h. inr (allowed id read.Whole new (blocks_in (length new / 4096) new) (Source NoOpStep) o e h))
          (whole_clauses id new q.0 q.1)

      -- a damaged one
      pub damaged_journal_sound : (page_in_journal_resp g l m id read.Damaged new).answer ≡ Ok o
          → MachineAllowed g format limits (machine_of g l m) (machine_of g (answered_lent g l m id read.Damaged new) (page_in_journal_resp g l m id read.Damaged new).machine) (operation_of o []) DamagedJournalStep
          ⊎ MachineAllowed g format limits (machine_of g l m) (machine_of g (answered_lent g l m id read.Damaged new) (page_in_journal_resp g l m id read.Damaged new).machine) (operation_of o []) (Source NoOpStep)
      damaged_journal_sound e =
          ⊎_elim
          (λ h. inl (allowed id read.Damaged new [] DamagedJournalStep o e h))
          (λ h. inr (allowed id read.Damaged new [] (Source NoOpStep) o e h))
          (damaged_clauses id new (asked_paged read.Damaged e).0)

    module _ (t : MachineLent g l) (f : MachineForm l m) (s' : Variables) where
      pub page_in_journal_resp_complete : (which : Bool) (dop : D.DiskOp)
          → MachineAllowed g format limits (machine_of g l m) s' dop (Source (PageInJournalRespStep which))
          → MachineWithin g limits (machine_of g l m) s' dop (Source (PageInJournalRespStep which))
          → (id : ℕ)
          × (jr : JournalRange)
          × ((page_in_journal_resp g l m id read.Whole (flat jr)).answer ≡ Ok (op.RespReadJournal id read.Whole))
          × (dop ≡ operation_of (op.RespReadJournal id read.Whole) (blocks_in (length (flat jr) / 4096) (flat jr)))
          × (machine_of g (answered_lent g l m id read.Whole (flat jr)) (page_in_journal_resp g l m id read.Whole (flat jr)).machine ≡ s')
      page_in_journal_resp_complete which dop h i =
          let c = clauses_whole t f.kind h.meets s' dop h.step i.piece in
          let a = taken c.0 read.Whole (flat c.1) s' t f h.meets c.2 c.4 in
          (c.0, c.1, a.0, c.3, a.1)

      pub damaged_journal_complete : (dop : D.DiskOp) → MachineAllowed g format limits (machine_of g l m) s' dop DamagedJournalStep
          → MachineWithin g limits (machine_of g l m) s' dop DamagedJournalStep → (new : List ℕ)
          → (id : ℕ)
          × ((page_in_journal_resp g l m id read.Damaged new).answer ≡ Ok (op.RespReadJournal id read.Damaged))
          × (dop ≡ operation_of (op.RespReadJournal id read.Damaged) [])
          × (machine_of g (answered_lent g l m id read.Damaged new) (page_in_journal_resp g l m id read.Damaged new).machine ≡ s')
      damaged_journal_complete dop h i new =
          let c = clauses_damaged f.kind h.meets s' dop h.step in
          let a = taken c.0 read.Damaged new s' t f h.meets (c.2 new).0 (c.2 new).1 in
          (c.0, a.0, c.1, a.1)

      -- nobody awaits it: whatever blocks it brings, and whatever bytes are lent
      pub journal_unawaited_complete : (id : ℕ) (r : JournalRead) (jr : JournalRange) (new : List ℕ)
          → MachineAllowed g format limits (machine_of g l m) s' (operation_of (op.RespReadJournal id r) jr) (Source NoOpStep)
          → MachineWithin g limits (machine_of g l m) s' (operation_of (op.RespReadJournal id r) jr) (Source NoOpStep)
          → ((page_in_journal_resp g l m id r new).answer ≡ Ok (op.RespReadJournal id r))
          × (machine_of g (answered_lent g l m id r new) (page_in_journal_resp g l m id r new).machine ≡ s')
      journal_unawaited_complete id r jr new h i =
          let c = clauses_unawaited id new r (whole_in r jr) s' h.step in
          taken id r new s' t f h.meets c.0 c.1
