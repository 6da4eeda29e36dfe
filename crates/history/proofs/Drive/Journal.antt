-- The driver while the journal's pieces are loaded: from any state that was reached the call that it names is taken, and one less is left. The blocks
-- are readable and parse, since they are what the ledger keeps.
use Rattle.std.specs.Prelude.{ℕ, suc, Bool, not, ◌≡◌, refl}
use Rattle.std.proofs.Math.Bool.{true, false}
use Rattle.std.proofs.Common.{sym, ◌∙◌, ap}
use Rattle.std.proofs.Math.Option.{Option, none, some, some-injective}
use native.Mathlib.Omega.{arith}
use Rattle.laws.specs.Choice.{by_eqb}
use Rattle.laws.specs.Fold.{sum}
use Rattle.laws.specs.Cut.{lengths}
use Rattle.layout.specs.declared.Geometry.{Geometry}
use Rattle.interval.specs.declared.JournalInterval.{JournalInterval}
use Rattle.interval.specs.Interval.{interval}
use Rattle.interval.specs.Facts.{ContiguousJournalInterval}
use Rattle.interval.specs.Journal.{cyclic_slice, full_range}
use Rattle.superblock.specs.declared.Superblock.{Superblock}
use Rattle.superblock.specs.Laws.{WFSuperblock}
use Rattle.laws.specs.Sets.{none_few, bind, unbind, Two, at, put, none_some, at_put, at_put_other}
use Rattle.codec.specs.Codec.{JournalRange, Codec, disk_journal_range}
use Rattle.codec.specs.Ranges.{codes, whole, whole_full, whole_same, length_codes, parse_codes}
use Rattle.source.specs.JournalDisk as D
use Rattle.source.specs.JournalDisk.{ReqId, ReqReadJournalOp, RespReadJournalOp}
use Rattle.source.specs.JournalCache as M
use Rattle.source.specs.JournalCache.{PageInJournalReqStep, PageInJournalRespStep, journal_interval_of_superblock, unless_is, loaded}
use Rattle.source.specs.JournalSystem as Y
use Rattle.source.specs.Limits.{Limits}
use Rattle.source.specs.Meets.{SystemMeets}
use Rattle.source.specs.Departures.{Source, MachineStep}
use Rattle.source.proofs.Laws.Loaded.{loaded_state}
use Rattle.source.proofs.Laws.Pieces.{piece_contiguous}
use Rattle.history.specs.Ledger.{Call, read_journal, journal_read, finish_other, Ledger, shown}
use Rattle.history.specs.Statement.{tied_page, tied_paged}
use Rattle.history.proofs.Simulation.Relation.{Paged, Sim}
use Rattle.history.proofs.Simulation.Steps.{reads_stand}
use Rattle.history.proofs.Calls.Finish.{PieceIn, finish_takes}
use Rattle.history.proofs.Whole.Reloaded.{loaded_whole}
use Rattle.history.proofs.Loads.Journal.{piece_full}
use Rattle.history.specs.Driver.{piece_next, or_else, next_call, New, piece_left, pieces_left, left_at, left}
use Rattle.history.proofs.Drive.Superblocks.{Driven}

module _ (g : Geometry) (C : Codec) (L : Limits) (p : ℕ) (s : M.LoadingOtherVariables) (d : D.Variables) (l : Ledger) where
  abbrev here : Y.Variables
  here = record { machine = M.Variables.LoadingOther s; disk = d }

  module _ (meets : SystemMeets g L here) (z : Sim g C p (M.Variables.LoadingOther s) d l) where
    paged : Paged g C s.superblock s.whichSuperblock s.journal_pieces d.journal l.kept z.slot
    paged = z.runs.1

    wf : WFSuperblock g s.superblock
    wf = meets.machine.inv.superblock_wf

    -- the selected interval holds the kept ranges
    spans : cyclic_slice g d.journal (interval s.superblock.journalStart s.superblock.journalLen) ≡ whole (codes C l.kept.ranges)
    spans =
        ap (λ (v : Superblock). cyclic_slice g d.journal (interval v.journalStart v.journalLen)) paged.superblock_is
        ∙ ap (λ (n : ℕ). cyclic_slice g d.journal (interval l.kept.start n)) (sym (length_codes C l.kept.ranges))
        ∙ z.disk.holds

    full : full_range (cyclic_slice g d.journal (interval s.superblock.journalStart s.superblock.journalLen)) ≡ true
    full = ap full_range spans ∙ whole_full (codes C l.kept.ranges)

    abbrev part : Bool → Option JournalInterval
    part which = journal_interval_of_superblock g which s.superblock

    -- one piece has one less left, the other as many as it had
    piece_less : (t : M.LoadingOtherVariables) (which : Bool) → pieces_left g t (not which) ≡ pieces_left g s (not which) → pieces_left g s which ≡ suc (pieces_left g t which)
        → left g here ≡ suc (left_at g (M.Variables.LoadingOther t) d.superblocks)
    piece_less t false a b = omega (arith, a, b)
    piece_less t true a b = omega (arith, a, b)

    -- a new id is not the other piece's
    other_kept : (which : Bool) (new : ReqId) → New d new → unless_is (at s.journalReads which) new ≡ at s.journalReads which
    other_kept which new fresh = go (at s.journalReads which) refl
      where
        go : (o : Option ReqId) → at s.journalReads which ≡ o → unless_is o new ≡ o
        go none e = refl
        go (some k) e =
            by_eqb (λ (x : Option ReqId). x ≡ some k) k new none (some k)
            (λ h.
            let v = meets.machine.inv.read_interval which k e in
            none_some fresh.journal (ap d.req_read_journals (sym h) ∙ reads_stand g L (M.Variables.LoadingOther s) d meets which k v.0 e v.1))
            (λ h. refl)

    page_driven : (which : Bool) (u : JournalInterval) (new : ReqId) → New d new → part which ≡ some u → at s.journalReads which ≡ none → at s.journal_pieces which ≡ none
        → Driven g C L here (read_journal which new)
    page_driven which u new fresh e unread out =
        record {
          next = record { machine = M.Variables.LoadingOther t; disk = D.to_req_read_journals (bind d.req_read_journals new u) d };
          moves =
              record {
                takes =
                    record {
                      event = MachineStep (ReqReadJournalOp new u) (Source (PageInJournalReqStep which));
                      tied = tied_page;
                      allowed =
                          record {
                            meets = meets;
                            step =
                                record {
                                  machine =
                                      record {
                                        id = new;
                                        interval = u;
                                        op = refl;
                                        start_in = wf.start_in;
                                        len_in = wf.len_in;
                                        interval_is = e;
                                        no_read = unread;
                                        no_piece = out;
                                        next = refl;
                                      };
                                  disk = record { new = fresh.journal; contiguous = piece_contiguous g s.superblock wf which u e; next = refl };
                                };
                          };
                    };
                counts = record { sync_few = meets.machine.counts.sync_few };
                unwritten = refl;
                arguments = record { few = omega arith; fit = tt };
              };
          one_less = piece_less t which (ap (λ (o : Option ReqId). piece_left (part (not which)) o (at s.journal_pieces (not which))) (others which)) go;
        }
      where
        reads : Two (Option ReqId)
        reads = put (put s.journalReads which (some new)) (not which) (unless_is (at s.journalReads (not which)) new)

        t : M.LoadingOtherVariables
        t = M.to_journal_reads reads s

        others : (which : Bool) → at (put (put s.journalReads which (some new)) (not which) (unless_is (at s.journalReads (not which)) new)) (not which) ≡ at s.journalReads (not which)
        others true = other_kept false new fresh
        others false = other_kept true new fresh

        own : (which : Bool) → at (put (put s.journalReads which (some new)) (not which) (unless_is (at s.journalReads (not which)) new)) which ≡ some new
        own true = refl
        own false = refl

        now : pieces_left g t which ≡ 1
        now = λ i. piece_left (e i) (own which i) (out i)

        was : pieces_left g s which ≡ 2
        was = λ i. piece_left (e i) (unread i) (out i)

        go : pieces_left g s which ≡ suc (pieces_left g t which)
        go = omega (arith, now, was)

    paged_driven : (which : Bool) (u : JournalInterval) (id : ReqId) → part which ≡ some u → at s.journalReads which ≡ some id → at s.journal_pieces which ≡ none
        → Driven g C L here (journal_read id true)
    paged_driven which u id e reads out =
        record {
          next = record { machine = M.Variables.LoadingOther t; disk = D.to_req_read_journals (unbind d.req_read_journals id) d };
          moves =
              record {
                takes =
                    record {
                      event = MachineStep (RespReadJournalOp id (some jr)) (Source (PageInJournalRespStep which));
                      tied = tied_paged;
                      allowed =
                          record {
                            meets = meets;
                            step =
                                record {
                                  machine = (which, record { id = id; jr = jr; op = refl; waiting = reads; next = refl });
                                  disk =
                                      record {
                                        ind = u;
                                        waiting = reads_stand g L (M.Variables.LoadingOther s) d meets which id u reads e;
                                        end_in = in_place.end_in;
                                        start_in = in_place.valid.start_in;
                                        readable = λ x q. record { size = z.disk.size; full = piece_full g d.journal s.superblock wf z.disk.size which u full e };
                                        whole = λ x q. some-injective x jr (sym q);
                                        next = refl;
                                      };
                                };
                          };
                    };
                counts = record { sync_few = meets.machine.counts.sync_few };
                unwritten = refl;
                arguments = record { few = omega arith; fit = tt };
              };
          one_less = piece_less t which (λ i. piece_left (part (not which)) (at_put_other s.journalReads which none i) (at_put_other s.journal_pieces which (some jr) i)) go;
        }
      where
        in_place : ContiguousJournalInterval g u
        in_place = piece_contiguous g s.superblock wf which u e

        jr : JournalRange
        jr = disk_journal_range g d.journal u

        t : M.LoadingOtherVariables
        t = M.to_journal_reads (put s.journalReads which none) (M.to_journal_pieces (put s.journal_pieces which (some jr)) s)

        now : pieces_left g t which ≡ 0
        now = λ i. piece_left (e i) (at (put s.journalReads which none) which) (at_put s.journal_pieces which (some jr) i)

        was : pieces_left g s which ≡ 1
        was = λ i. piece_left (e i) (reads i) (out i)

        go : pieces_left g s which ≡ suc (pieces_left g t which)
        go = omega (arith, now, was)

    none_left : (which : Bool) → PieceIn g s which → pieces_left g s which ≡ 0
    none_left which has = go (part which) refl
      where
        go : (o : Option JournalInterval) → part which ≡ o → pieces_left g s which ≡ 0
        go none e = λ i. piece_left (e i) (at s.journalReads which) (at s.journal_pieces which)
        go (some u) e = λ i. piece_left (e i) (at s.journalReads which) ((has u e).1 i)

    end_driven : PieceIn g s false → PieceIn g s true → Driven g C L here finish_other
    unfolding sum lengths
    end_driven front back =
        record {
          next = record { machine = M.Variables.Ready (loaded_state s (shown C l).entries); disk = d };
          moves =
              record {
                takes = finish_takes g C L s d (shown C l).entries meets front back (ap C.parse_journal_range blocks_are ∙ parse_codes C l.kept.ranges z.disk.good);
                counts = record { sync_few = meets.machine.counts.sync_few; writes_few = none_few L.outstanding_journal_writes; pending_few = omega arith; pending_small = omega arith };
                unwritten = refl;
                arguments = record { few = omega arith; fit = tt };
              };
          one_less =
              let a = none_left false front in
              let b = none_left true back in
              omega (arith, a, b);
        }
      where
        blocks_are : loaded g s ≡ codes C l.kept.ranges
        blocks_are =
            whole_same (loaded g s) (codes C l.kept.ranges) (loaded_whole g s d.journal z.disk.size wf.start_in wf.len_in paged.pieces_are front back ∙ spans)

    -- the call that a piece names is taken; else it is in, if it is there at all
    data Page (new : ReqId) (which : Bool) : Type 0 where
      names : (x : Call) → piece_next new which (part which) (at s.journalReads which) (at s.journal_pieces which) ≡ some x → Driven g C L here x → Page new which
      through : piece_next new which (part which) (at s.journalReads which) (at s.journal_pieces which) ≡ none → PieceIn g s which → Page new which

    page : (which : Bool) (new : ReqId) → New d new → Page new which
    page which new fresh = go (part which) (at s.journalReads which) (at s.journal_pieces which) refl refl refl
      where
        go : (o : Option JournalInterval) (r : Option ReqId) (q : Option JournalRange) → part which ≡ o → at s.journalReads which ≡ r → at s.journal_pieces which ≡ q → Page new which
        go none r q e f h = through (λ i. piece_next new which (e i) (at s.journalReads which) (at s.journal_pieces which)) (λ u k. none_some e k)
        go (some u) r (some jr) e f h = through (λ i. piece_next new which (e i) (at s.journalReads which) (h i)) (λ v k. (jr, h))
        go (some u) none none e f h = names (read_journal which new) (λ i. piece_next new which (e i) (f i) (h i)) (page_driven which u new fresh e f h)
        go (some u) (some id) none e f h = names (journal_read id true) (λ i. piece_next new which (e i) (f i) (h i)) (paged_driven which u id e f h)

    pub journal_driven : (new : ReqId) → New d new → (x : Call) × (next_call g (M.Variables.LoadingOther s) new ≡ some x) × Driven g C L here x
    journal_driven new fresh = first (page false new fresh)
      where
        n2 : Option Call
        n2 = piece_next new true (part true) (at s.journalReads true) (at s.journal_pieces true)

        second : PieceIn g s false → piece_next new false (part false) (at s.journalReads false) (at s.journal_pieces false) ≡ none → Page new true
            → (x : Call) × (next_call g (M.Variables.LoadingOther s) new ≡ some x) × Driven g C L here x
        second a e (names x f h) = (x, λ i. some (or_else (e i) (or_else (f i) finish_other)), h)
        second a e (through f b) = (finish_other, λ i. some (or_else (e i) (or_else (f i) finish_other)), end_driven a b)

        first : Page new false → (x : Call) × (next_call g (M.Variables.LoadingOther s) new ≡ some x) × Driven g C L here x
        first (names x e h) = (x, λ i. some (or_else (e i) (or_else n2 finish_other)), h)
        first (through e a) = second a e (page true new fresh)
