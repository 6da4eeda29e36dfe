-- A load of any disk, whether a history led to it or not: where it comes to Ready, the disk can be loaded, and the machine shows what its slots and
-- its blocks say. Damaged answers, ask again and sync requests may stand in it.
use Rattle.std.specs.Prelude.{ℕ, Bool, true, false, ◌≡◌, List, [], ◌∷◌, length}
use Rattle.std.proofs.Math.Path.{refl}
use Rattle.std.proofs.Common.{sym, ◌∙◌, ap, subst, subst₂}
use Rattle.std.proofs.Math.Option.{Option, none, some}
use Rattle.laws.specs.Choice.{ruin, false_true}
use Rattle.laws.specs.Sets.{Two, Map, at, both, at_both, none_some, same_value}
use Rattle.layout.specs.declared.Geometry.{Geometry}
use Rattle.interval.specs.declared.JournalInterval.{JournalInterval}
use Rattle.interval.specs.Interval.{interval}
use Rattle.interval.specs.Journal.{JournalBlock, cyclic_slice}
use Rattle.superblock.specs.declared.Superblock.{Superblock}
use Rattle.superblock.specs.Laws.{WFSuperblock}
use Rattle.codec.specs.Format.{format}
use Rattle.codec.specs.Ranges.{whole, full_whole}
use Rattle.source.specs.JournalDisk as D
use Rattle.source.specs.JournalDisk.{DiskOp}
use Rattle.source.specs.JournalCache as M
use Rattle.source.specs.JournalCache.{SuperblockUnfinished, SuperblockSuccess, superblock_read, journal_interval_of_superblock, loaded}
use Rattle.source.specs.JournalSystem as Y
use Rattle.source.specs.JournalSystem.{WFDisk}
use Rattle.source.specs.Limits.{limits}
use Rattle.source.specs.Departures.{FinishLoadingOtherPhase⁺, AskAgain, DamagedJournal, Event, Allowed}
use Rattle.history.specs.Ledger as ledger
use Rattle.history.specs.Ledger.{Call}
use Rattle.history.specs.Statement.{Tied, tied_write, tied_written, unawaited_written, tied_log, tied_location, tied_committed, unawaited_committed, tied_page, tied_paged, tied_damaged, unawaited_paged, unawaited_damaged, tied_read, tied_superblock, tied_corrupt, unawaited_superblock, unawaited_corrupt, tied_finish_superblocks, tied_finish_other, tied_freeze, tied_receive, tied_add, tied_replay, tied_push, tied_pop, tied_no_op, tied_again, tied_land, tied_crash, Takes, Goes, Trace, loads, OnlyLoads}
use Rattle.history.proofs.Journal.Slots.{picked_is, Slots}
use Rattle.history.proofs.Simulation.Relation.{Told, Pieces, ReadsStand}
use Rattle.history.proofs.Simulation.Loading.{read_success, told_put, pieces_put}
use Rattle.history.proofs.Simulation.Steps.{reads_stand}
use Rattle.history.proofs.Whole.Reloaded.{loaded_whole}
use Rattle.records.specs.Pictures.{of_load, OnlyOfLoad}
use Rattle.records.specs.Proofs.Loadable.{Loadable}

-- what was read so far is what the disk says
abbrev pub Seen : Geometry → M.Variables → D.Variables → Type 0
Seen g (M.Variables.LoadingSuperblock s) d = Told s.superblocks d.superblocks
Seen g (M.Variables.LoadingOther s) d = Slots g d.superblocks s.whichSuperblock s.superblock × Pieces g s.superblock s.journal_pieces d.journal
Seen g (M.Variables.Ready r) d = Loadable g d.superblocks d.journal r.whichSuperblock r.superblock r.replay_journal

module _ (g : Geometry) where
  by_next : {m m' : M.Variables} {d d' : D.Variables} → m' ≡ m → d' ≡ d → Seen g m d → Seen g m' d'
  by_next e f z = subst₂ (Seen g) (sym e) (sym f) z

  -- a disk with other requests says the same
  seen_requests : (m : M.Variables) (d d' : D.Variables) → d'.superblocks ≡ d.superblocks → d'.journal ≡ d.journal → Seen g m d → Seen g m d'
  seen_requests (M.Variables.LoadingSuperblock s) d d' a b z = subst (Told s.superblocks) (sym a) z
  seen_requests (M.Variables.LoadingOther s) d d' a b z =
      (subst (λ (t : Two (Option Superblock)). Slots g t s.whichSuperblock s.superblock) (sym a) z.0, subst (Pieces g s.superblock s.journal_pieces) (sym b) z.1)
  seen_requests (M.Variables.Ready r) d d' a b z =
      subst₂ (λ (t : Two (Option Superblock)) (j : List (Option JournalBlock)). Loadable g t j r.whichSuperblock r.superblock r.replay_journal) (sym a) (sym b) z

  seen_read : (which : Bool) (m m' : M.Variables) (d : D.Variables) (dop : DiskOp) → Seen g m d → M.PageInSuperblockReq m m' dop which → Seen g m' d
  seen_read which (M.Variables.LoadingSuperblock s) m' d dop z h = by_next h.next refl z
  seen_read which (M.Variables.LoadingOther s) m' d dop z h = absurd h
  seen_read which (M.Variables.Ready s) m' d dop z h = absurd h

  seen_superblock : (which : Bool) (m m' : M.Variables) (d d' : D.Variables) (dop : DiskOp) → Seen g m d → M.PageInSuperblockResp g m m' dop which → D.Next g d d' dop → Seen g m' d
  seen_superblock which (M.Variables.LoadingSuperblock s) m' d d' dop z h hd =
      by_next h.next refl
      (told_put s.superblocks d.superblocks which (superblock_read g h.superblock) z (λ v e. let q = read_success g h.superblock v e in sym (a.whole v q) ∙ q))
    where
      a : D.AckReadSuperblock d d' h.id which h.superblock
      a = subst (D.Next g d d') h.op hd
  seen_superblock which (M.Variables.LoadingOther s) m' d d' dop z h hd = absurd h
  seen_superblock which (M.Variables.Ready s) m' d d' dop z h hd = absurd h

  -- both slots were read: the selected superblock
  seen_selected : (m m' : M.Variables) (d : D.Variables) (dop : DiskOp) → WFDisk g d → Seen g m d → M.FinishLoadingSuperblockPhase m m' dop → Seen g m' d
  seen_selected (M.Variables.LoadingSuperblock s) m' d dop w z h =
      by_next h.next refl (
        record {
          values = record { first = h.superblock1; second = h.superblock2 };
          holds = holds;
          wf = wf;
          picks = refl;
          is = sym (picked_is (record { first = h.superblock1; second = h.superblock2 }));
        },
        λ piece jr v e. none_some (at_both none piece) e,
      )
    where
      one : at d.superblocks false ≡ some h.superblock1
      one = z false h.superblock1 h.success1

      two : at d.superblocks true ≡ some h.superblock2
      two = z true h.superblock2 h.success2

      holds : (b : Bool) → at d.superblocks b ≡ some (at (record { first = h.superblock1; second = h.superblock2 }) b)
      holds true = two
      holds false = one

      wf : (b : Bool) → WFSuperblock g (at (record { first = h.superblock1; second = h.superblock2 }) b)
      wf true = subst (WFSuperblock g) (same_value w.second.holds two) w.second.wf
      wf false = subst (WFSuperblock g) (same_value w.first.holds one) w.first.wf
  seen_selected (M.Variables.LoadingOther s) m' d dop w z h = absurd h
  seen_selected (M.Variables.Ready s) m' d dop w z h = absurd h

  seen_page : (which : Bool) (m m' : M.Variables) (d : D.Variables) (dop : DiskOp) → Seen g m d → M.PageInJournalReq g m m' dop which → Seen g m' d
  seen_page which (M.Variables.LoadingSuperblock s) m' d dop z h = absurd h
  seen_page which (M.Variables.LoadingOther s) m' d dop z h = by_next h.next refl z
  seen_page which (M.Variables.Ready s) m' d dop z h = absurd h

  -- a piece that was read is what its interval holds, since its read stands at the disk under that interval
  seen_paged : (which : Bool) (m m' : M.Variables) (d d' : D.Variables) (dop : DiskOp) → Seen g m d → ReadsStand g m d → M.PageInJournalResp m m' dop which → D.Next g d d' dop → Seen g m' d
  seen_paged which (M.Variables.LoadingSuperblock s) m' d d' dop z r h hd = absurd h
  seen_paged which (M.Variables.LoadingOther s) m' d d' dop z r h hd =
      by_next h.next refl (z.0, pieces_put g s.superblock s.journal_pieces d.journal which h.jr z.1 read)
    where
      a : D.AckReadJournal g d d' h.id (some h.jr)
      a = subst (D.Next g d d') h.op hd

      read : (v : JournalInterval) → journal_interval_of_superblock g which s.superblock ≡ some v → whole h.jr ≡ cyclic_slice g d.journal v
      read v e =
          ap whole (a.whole h.jr refl)
          ∙ full_whole (cyclic_slice g d.journal a.ind) (a.readable h.jr refl).full
          ∙ ap (cyclic_slice g d.journal) (same_value a.waiting (r which h.id v h.waiting e))
  seen_paged which (M.Variables.Ready s) m' d d' dop z r h hd = absurd h

  -- loading's end: the pieces are the interval's blocks, and they parse
  seen_ready : (m m' : M.Variables) (d : D.Variables) (dop : DiskOp) → length d.journal ≡ g.blocks → Seen g m d → FinishLoadingOtherPhase⁺ g format m m' dop → Seen g m' d
  seen_ready (M.Variables.LoadingSuperblock s) m' d dop n z h = absurd h.source
  seen_ready (M.Variables.LoadingOther s) (M.Variables.LoadingSuperblock r) d dop n z h = absurd h.position_is
  seen_ready (M.Variables.LoadingOther s) (M.Variables.LoadingOther r) d dop n z h = absurd h.position_is
  seen_ready (M.Variables.LoadingOther s) (M.Variables.Ready r) d dop n z h =
      record {
        selected = subst₂ (Slots g d.superblocks) (sym f.which_superblock_is) (sym f.superblock_is) z.0;
        size = n;
        held = loaded g s;
        holds =
            (λ i. cyclic_slice g d.journal (interval (f.superblock_is i).journalStart (f.superblock_is i).journalLen))
            ∙ sym (loaded_whole g s d.journal n f.start_in f.len_in z.1 f.front_in_is f.back_in_is);
        parses = f.parses;
      }
    where
      f : M.FinishLoadingOtherPhaseClauses g format s r dop
      f = h.source
  seen_ready (M.Variables.Ready s) m' d dop n z h = absurd h.source

  -- sync requests play no part
  seen_sync : (m : M.Variables) (d : D.Variables) (t : Map M.SyncReqStatus) → Seen g m d → Seen g (M.with_sync_reqs t m) d
  seen_sync (M.Variables.LoadingSuperblock s) d t z = z
  seen_sync (M.Variables.LoadingOther s) d t z = z
  seen_sync (M.Variables.Ready r) d t z = z

  -- a slot that came back damaged is asked for again; a piece that did isn't in
  seen_again : (which : Bool) (m m' : M.Variables) (d : D.Variables) (dop : DiskOp) → Seen g m d → AskAgain m m' dop which → Seen g m' d
  seen_again which (M.Variables.LoadingSuperblock s) m' d dop z h = by_next h.next refl (told_put s.superblocks d.superblocks which SuperblockUnfinished z (λ v e. ruin (cc)))
  seen_again which (M.Variables.LoadingOther s) m' d dop z h = absurd h
  seen_again which (M.Variables.Ready s) m' d dop z h = absurd h

  seen_damaged : (m m' : M.Variables) (d : D.Variables) (dop : DiskOp) → Seen g m d → DamagedJournal m m' dop → Seen g m' d
  seen_damaged (M.Variables.LoadingSuperblock s) m' d dop z h = absurd h
  seen_damaged (M.Variables.LoadingOther s) m' d dop z h = by_next h.next refl z
  seen_damaged (M.Variables.Ready s) m' d dop z h = absurd h

  -- a call of a load that is taken: the disk says what it said, and what was read is that
  pub record Loading (d : D.Variables) (s : Y.Variables) : Type 0 where
    pub superblocks_are : s.disk.superblocks ≡ d.superblocks
    pub journal_is : s.disk.journal ≡ d.journal
    pub seen : Seen g s.machine d

  module _ (d : D.Variables) (s t : Y.Variables) (z : Loading d s) where
    here : Seen g s.machine s.disk
    here = seen_requests s.machine d s.disk z.superblocks_are z.journal_is z.seen

    goes_on : (b : D.Variables) → t.disk ≡ b → b.superblocks ≡ s.disk.superblocks → b.journal ≡ s.disk.journal → Seen g t.machine s.disk → Loading d t
    goes_on b e p q y =
        record {
          superblocks_are = ap (λ (x : D.Variables). x.superblocks) e ∙ p ∙ z.superblocks_are;
          journal_is = ap (λ (x : D.Variables). x.journal) e ∙ q ∙ z.journal_is;
          seen = seen_requests t.machine s.disk d (sym z.superblocks_are) (sym z.journal_is) y;
        }

    loading_tied : (x : Call) (e : Event) → Tied x e → of_load x ≡ true → Allowed g format limits s t e → Loading d t
    unfolding of_load
    loading_tied x e tied_write h a = false_true h
    loading_tied x e tied_written h a = false_true h
    loading_tied x e unawaited_written h a = false_true h
    loading_tied x e tied_log h a = false_true h
    loading_tied x e tied_location h a = false_true h
    loading_tied x e tied_committed h a = false_true h
    loading_tied x e unawaited_committed h a = false_true h
    loading_tied x e (tied_page {which = which}) h a = goes_on _ a.step.disk.next refl refl (seen_page which s.machine t.machine s.disk _ here a.step.machine)
    loading_tied x e tied_paged h a =
        goes_on _ a.step.disk.next refl refl
        (seen_paged a.step.machine.0 s.machine t.machine s.disk t.disk _ here (reads_stand g limits s.machine s.disk a.meets) a.step.machine.1 a.step.disk)
    loading_tied x e tied_damaged h a = goes_on _ a.step.disk.next refl refl (seen_damaged s.machine t.machine s.disk _ here a.step.machine)
    loading_tied x e unawaited_paged h a = goes_on _ a.step.disk.next refl refl (by_next a.step.machine.source.next refl here)
    loading_tied x e unawaited_damaged h a = goes_on _ a.step.disk.next refl refl (by_next a.step.machine.source.next refl here)
    loading_tied x e (tied_read {which = which}) h a = goes_on _ a.step.disk.next refl refl (seen_read which s.machine t.machine s.disk _ here a.step.machine.source)
    loading_tied x e (tied_superblock {which = which}) h a =
        goes_on _ a.step.disk.next refl refl (seen_superblock which s.machine t.machine s.disk t.disk _ here a.step.machine a.step.disk)
    loading_tied x e (tied_corrupt {which = which}) h a =
        goes_on _ a.step.disk.next refl refl (seen_superblock which s.machine t.machine s.disk t.disk _ here a.step.machine a.step.disk)
    loading_tied x e unawaited_superblock h a = goes_on _ a.step.disk.next refl refl (by_next a.step.machine.source.next refl here)
    loading_tied x e unawaited_corrupt h a = goes_on _ a.step.disk.next refl refl (by_next a.step.machine.source.next refl here)
    loading_tied x e tied_finish_superblocks h a = goes_on _ a.step.disk.next refl refl (seen_selected s.machine t.machine s.disk _ a.meets.joined.wf here a.step.machine)
    loading_tied x e tied_finish_other h a = goes_on _ a.step.disk.next refl refl (seen_ready s.machine t.machine s.disk _ a.meets.disk.shape.size here a.step.machine)
    loading_tied x e tied_freeze h a = false_true h
    loading_tied x e tied_receive h a = false_true h
    loading_tied x e tied_add h a = false_true h
    loading_tied x e tied_replay h a = false_true h
    loading_tied x e tied_push h a = goes_on _ a.step.disk.next refl refl (by_next a.step.machine.next refl (seen_sync s.machine s.disk _ here))
    loading_tied x e tied_pop h a = goes_on _ a.step.disk.next refl refl (by_next a.step.machine.next refl (seen_sync s.machine s.disk _ here))
    loading_tied x e tied_no_op h a = goes_on _ a.step.disk.next refl refl (by_next a.step.machine.source.next refl here)
    loading_tied x e (tied_again {which = which}) h a = goes_on _ a.step.disk.next refl refl (seen_again which s.machine t.machine s.disk _ here a.step.machine)
    loading_tied x e tied_land h a = false_true h
    loading_tied x e tied_crash h a = false_true h

  loading_goes : (d : D.Variables) (s t : Y.Variables) (x : Call) (b : Bool) → Loading d s → (b ≡ true → of_load x ≡ true) → Goes (Takes g format limits) s x b t → Loading d t
  loading_goes d s t x true z f h = loading_tied d s t z x h.event h.tied (f refl) h.allowed
  loading_goes d s t x false z f h = subst (Loading d) (sym h) z

  loading_run : (d : D.Variables) (s t : Y.Variables) (xs : List Call) (bs : List Bool) → Loading d s → OnlyOfLoad xs bs → Trace g format limits s xs bs t → Loading d t
  loading_run d s t [] [] z f h = subst (Loading d) (sym h) z
  loading_run d s t [] (b ∷ bs) z f h = absurd h
  loading_run d s t (x ∷ xs) [] z f h = absurd h
  loading_run d s t (x ∷ xs) (b ∷ bs) z f h = loading_run d h.0 t xs bs (loading_goes d s h.0 x b z f.0 h.1) f.1 h.2

  -- from a machine at Init
  pub any_load : (s t : Y.Variables) (xs : List Call) (bs : List Bool) (r : M.ReadyVariables) → s.machine ≡ M.Variables.LoadingSuperblock M.initial
      → OnlyOfLoad xs bs → Trace g format limits s xs bs t → t.machine ≡ M.Variables.Ready r
      → Loadable g s.disk.superblocks s.disk.journal r.whichSuperblock r.superblock r.replay_journal
  any_load s t xs bs r e f h q =
      subst (λ (m : M.Variables). Seen g m s.disk) q
      (loading_run s.disk s t xs bs (record { superblocks_are = refl; journal_is = refl; seen = by_next e refl none_read }) f h).seen
    where
      none_read : Told (both SuperblockUnfinished) s.disk.superblocks
      none_read b v k = ruin (unread (sym (at_both SuperblockUnfinished b) ∙ k))
        where
          unread : SuperblockUnfinished ≡ SuperblockSuccess v → ◌≡◌ {A = ℕ} 0 1
          unread e = cc

-- the calls of demand 3's loads are such calls
loads_of : (x : Call) → loads x ≡ true → of_load x ≡ true
unfolding loads of_load
loads_of (ledger.write_journal id1 id2) e = e
loads_of (ledger.journal_written id) e = e
loads_of (ledger.commit_log id) e = e
loads_of (ledger.commit_location id) e = e
loads_of (ledger.superblock_written id) e = e
loads_of (ledger.read_journal which id) e = refl
loads_of (ledger.journal_read id whole) e = refl
loads_of (ledger.read_superblock which id) e = refl
loads_of (ledger.superblock_read which id whole) e = refl
loads_of ledger.finish_superblocks e = refl
loads_of ledger.finish_other e = refl
loads_of ledger.freeze e = e
loads_of (ledger.receive loc) e = e
loads_of (ledger.add es) e = e
loads_of (ledger.replay es) e = e
loads_of (ledger.push_sync id) e = refl
loads_of (ledger.pop_sync id) e = refl
loads_of ledger.no_op e = refl
loads_of (ledger.ask_again which) e = refl
loads_of (ledger.land which) e = e
loads_of ledger.crash e = e
loads_of ledger.nonsense e = e

pub only_of : (xs : List Call) (bs : List Bool) → OnlyLoads xs bs → OnlyOfLoad xs bs
only_of [] bs h = tt
only_of (x ∷ xs) [] h = tt
only_of (x ∷ xs) (b ∷ bs) h = ((λ e. loads_of x (h.0 e)), only_of xs bs h.1)
