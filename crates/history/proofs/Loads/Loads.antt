-- A store comes up: from any state that a crash leaves, related to a ledger and with blocks of their size, some loading steps are allowed
-- that lead to Ready, and the machine there is the one that the ledger tells. So a history of demand 3 can be had from every crash that is
-- taken.
use Rattle.std.specs.Prelude.{ℕ, Bool, true, false, not, ◌≡◌, List, [], ◌∷◌, length}
use Rattle.std.proofs.Math.Path.{refl}
use Rattle.std.proofs.Common.{sym, ◌∙◌, ap, subst, inr}
use Rattle.std.proofs.Math.Option.{Option, none, some}
use Rattle.std.proofs.Math.Logic.{inl}
use Rattle.layout.specs.declared.Geometry.{Geometry}
use Rattle.layout.specs.declared.Location.{Location}
use Rattle.interval.specs.declared.JournalInterval.{JournalInterval}
use Rattle.interval.specs.Interval.{interval}
use Rattle.interval.specs.Journal.{JournalBlock, cyclic_slice, full_range}
use Rattle.superblock.specs.declared.Superblock.{Superblock}
use Rattle.superblock.specs.Superblock.{select_superblock}
use Rattle.superblock.specs.Laws.{WFSuperblock}
use Rattle.laws.specs.Sets.{empty_ids, no_keys, AtMost, none_few, Two, both, at, put, none_some, at_both, at_put, at_put_other}
use Rattle.codec.specs.Codec.{JournalRange, Sized, Codec, disk_journal_range}
use Rattle.source.specs.JournalDisk.{NoDiskOp}
use Rattle.source.specs.JournalCache as M
use Rattle.source.specs.JournalCache.{SuperblockReadResult, SuperblockSuccess, SuperblockUnfinished, FinishLoadingSuperblockPhaseStep, journal_interval_of_superblock, loaded}
use Rattle.source.specs.JournalSystem as Y
use Rattle.source.specs.JournalSystem.{superblock_of_disk}
use Rattle.source.specs.Limits.{Limits}
use Rattle.source.specs.Departures.{Event, Source, MachineStep, Allowed}
use Rattle.history.specs.Ledger.{Call, crash, finish_superblocks, finish_other, Ledger, begin, books, tell, shown}
use Rattle.codec.specs.Ranges.{codes, whole, whole_full, whole_same, length_codes, parse_codes}
use Rattle.history.proofs.Journal.Slots.{Slots, picked_is, slots_wf_is}
use Rattle.history.proofs.Simulation.Relation.{super_of, Pieces, Sim}
use Rattle.history.specs.Statement.{Tied, tied_finish_superblocks, tied_crash, Takes, loads, ready_by, Trace, Loaded}
use Rattle.history.proofs.Simulation.Steps.{sim_step}
use Rattle.history.proofs.Calls.Finish.{finish_takes}
use Rattle.history.proofs.Whole.Reloaded.{loaded_whole}
use Rattle.history.specs.Earlier.{Past}
use Rattle.history.proofs.Whole.Lists.{sim_run}
use Rattle.history.proofs.Whole.Ever.{past_sim}
use Rattle.history.proofs.Whole.First.{first_parity, init_sim}
use Rattle.history.proofs.Loads.Comes.{slot_calls, piece_calls, load_calls, taken, Comes, here, by, comes_then, comes_trace, comes_loads}
use Rattle.history.proofs.Loads.Superblocks.{resting, Room, disk_meets, joined, Read, read_put, superblocks_at, machine_superblocks, slot_read}
use Rattle.history.proofs.Loads.Journal.{other_at, Owned, machine_other, page_read, page_held, page_owned}

module _ (g : Geometry) (C : Codec) (L : Limits) (room : Room L) (slots : Two (Option Superblock)) (j : List (Option JournalBlock)) (w : Bool) (v : Superblock)
    (selected : Slots g slots w v) (size : length j ≡ g.blocks) (sized : Sized j) (full : full_range (cyclic_slice g j (interval v.journalStart v.journalLen)) ≡ true) where
  abbrev at_rest : M.Variables → Y.Variables
  at_rest m = record { machine = m; disk = resting slots j }

  none_superblocks : (b : Bool) → AtMost L.superblockReads (at (both empty_ids) b)
  none_superblocks b = subst (AtMost L.superblockReads) (sym (at_both empty_ids b)) (none_few L.superblockReads)

  -- both slots were read: the selected superblock
  comes_selected : Comes g C L (at_rest (superblocks_at (both none) (record { first = SuperblockSuccess selected.values.first; second = SuperblockSuccess selected.values.second }))) (finish_superblocks ∷ [])
      (at_rest (other_at v w (both none) (both none)))
  unfolding loads
  comes_selected =
      by
      (record {
        event = MachineStep NoDiskOp (Source FinishLoadingSuperblockPhaseStep);
        tied = tied_finish_superblocks;
        allowed =
            record {
              meets =
                  record {
                    machine = machine_superblocks g C L room slots j w v selected size sized (both none) both_read both_in (λ b id e. none_some (at_both none b) e) (λ id p q. none_some refl p);
                    disk = disk_meets g L slots j w v selected size sized (both empty_ids) no_keys none_superblocks (none_few L.journalReads) (λ id u e. none_some refl e);
                    joined = joined g L slots j w v selected size sized (both empty_ids) no_keys (superblocks_at (both none) both_read) refl refl refl refl;
                  };
              step =
                  record {
                    machine =
                        record {
                          op = refl;
                          superblock1 = selected.values.first;
                          success1 = refl;
                          superblock2 = selected.values.second;
                          success2 = refl;
                          one_success = inl refl;
                          next = λ i. other_at (sym is i) (sym selected.picks i) (both none) (both none);
                          loc = (select_superblock selected.values.first selected.values.second).indirectionTableLoc;
                          loc_is = refl;
                        };
                    disk = record { next = refl };
                  };
            };
      })
      refl here
    where
      both_read : Two SuperblockReadResult
      both_read = record { first = SuperblockSuccess selected.values.first; second = SuperblockSuccess selected.values.second }

      both_in : Read both_read selected.values
      both_in true = inr refl
      both_in false = inr refl

      is : select_superblock selected.values.first selected.values.second ≡ v
      is = picked_is selected.values ∙ ap (at selected.values) selected.picks ∙ selected.is

  -- a piece, where there is one
  record Paging (which : Bool) (pieces : Two (Option JournalRange)) : Type 0 where
    pieces' : Two (Option JournalRange)
    comes : Comes g C L (at_rest (other_at v w (both none) pieces)) (piece_calls which (journal_interval_of_superblock g which v)) (at_rest (other_at v w (both none) pieces'))
    owned : Owned g v pieces'
    held : Pieces g v pieces' j
    has : (u : JournalInterval) → journal_interval_of_superblock g which v ≡ some u → (jr : JournalRange) × (at pieces' which ≡ some jr)
    others : at pieces' (not which) ≡ at pieces (not which)

  pages : (which : Bool) (pieces : Two (Option JournalRange)) → at pieces which ≡ none → Owned g v pieces → Pieces g v pieces j → Paging which pieces
  pages which pieces unread owned held = go (journal_interval_of_superblock g which v) refl
    where
      go : (o : Option JournalInterval) → journal_interval_of_superblock g which v ≡ o → Paging which pieces
      go none e =
          record {
            pieces' = pieces;
            comes = subst (λ (o : Option JournalInterval). Comes g C L (at_rest (other_at v w (both none) pieces)) (piece_calls which o) (at_rest (other_at v w (both none) pieces))) (sym e) here;
            owned = owned;
            held = held;
            has = λ u q. none_some e q;
            others = refl;
          }
      go (some u) e =
          record {
            pieces' = put pieces which (some (disk_journal_range g j u));
            comes =
                subst (λ (o : Option JournalInterval). Comes g C L (at_rest (other_at v w (both none) pieces)) (piece_calls which o) (at_rest (other_at v w (both none) (put pieces which (some (disk_journal_range g j u)))))) (sym e)
                (page_read g C L room slots j w v selected size sized full which u pieces e unread owned held);
            owned = page_owned g C L room slots j w v selected size sized full which u pieces e owned;
            held = page_held g C L room slots j w v selected size sized full which u pieces e held;
            has = λ x q. (disk_journal_range g j u, at_put pieces which (some (disk_journal_range g j u)));
            others = at_put_other pieces which (some (disk_journal_range g j u));
          }

-- from a crash to Ready
module _ (g : Geometry) (C : Codec) (L : Limits) (room : Room L) (p : ℕ) (slots : Two (Option Superblock)) (j : List (Option JournalBlock)) (l : Ledger)
    (z : Sim g C p (M.Variables.LoadingSuperblock M.initial) (resting slots j) l) (sized : Sized j) where
  selected : Slots g slots z.slot (super_of C l.kept)
  selected = z.disk.selected

  spans : cyclic_slice g j (interval l.kept.start (super_of C l.kept).journalLen) ≡ whole (codes C l.kept.ranges)
  spans = ap (λ (n : ℕ). cyclic_slice g j (interval l.kept.start n)) (sym (length_codes C l.kept.ranges)) ∙ z.disk.holds

  full : full_range (cyclic_slice g j (interval l.kept.start (super_of C l.kept).journalLen)) ≡ true
  full = ap full_range spans ∙ whole_full (codes C l.kept.ranges)

  -- the finishing step: the pieces parse to the ledger's entries
  comes_ready : (pieces : Two (Option JournalRange)) → Owned g (super_of C l.kept) pieces → Pieces g (super_of C l.kept) pieces j
      → ((which : Bool) (u : JournalInterval) → journal_interval_of_superblock g which (super_of C l.kept) ≡ some u → (jr : JournalRange) × (at pieces which ≡ some jr))
      → Comes g C L (record { machine = other_at (super_of C l.kept) z.slot (both none) pieces; disk = resting slots j }) (finish_other ∷ [])
      (record { machine = M.Variables.Ready (ready_by (shown C l) z.slot); disk = resting slots j })
  unfolding loads
  comes_ready pieces owned held has =
      by {u = record { machine = M.Variables.Ready (ready_by (shown C l) z.slot); disk = resting slots j }}
      (finish_takes g C L loading (resting slots j) (shown C l).entries
      (record {
        machine =
            machine_other g C L room slots j z.slot (super_of C l.kept) selected z.disk.size sized full (both none) pieces owned held
            (λ b id q. none_some (at_both none b) q) (λ id a b. none_some refl a);
        disk =
            disk_meets g L slots j z.slot (super_of C l.kept) selected z.disk.size sized (both empty_ids) no_keys
            (none_superblocks g C L room slots j z.slot (super_of C l.kept) selected z.disk.size sized full) (none_few L.journalReads) (λ id u e. none_some refl e);
        joined =
            joined g L slots j z.slot (super_of C l.kept) selected z.disk.size sized (both empty_ids) no_keys
            (other_at (super_of C l.kept) z.slot (both none) pieces) refl refl refl refl;
      })
      (has false) (has true) (ap C.parse_journal_range blocks_are ∙ parse_codes C l.kept.ranges z.disk.good))
      refl here
    where
      wf : WFSuperblock g (super_of C l.kept)
      wf = slots_wf_is g slots z.slot (super_of C l.kept) selected

      loading : M.LoadingOtherVariables
      loading = record { superblock = super_of C l.kept; whichSuperblock = z.slot; journalReads = both none; journal_pieces = pieces; sync_reqs = no_keys }

      blocks_are : loaded g loading ≡ codes C l.kept.ranges
      blocks_are = whole_same (loaded g loading) (codes C l.kept.ranges) (loaded_whole g loading j z.disk.size wf.start_in wf.len_in held (has false) (has true) ∙ spans)

  pub comes_up : Comes g C L (record { machine = M.Variables.LoadingSuperblock M.initial; disk = resting slots j }) (load_calls g (super_of C l.kept))
      (record { machine = M.Variables.Ready (ready_by (shown C l) z.slot); disk = resting slots j })
  comes_up =
      comes_then (slot_of false (both SuperblockUnfinished) unread refl)
      (comes_then (slot_of true (put (both SuperblockUnfinished) false (SuperblockSuccess selected.values.first)) (read_put (both SuperblockUnfinished) selected.values false unread) refl)
      (comes_then (comes_selected g C L room slots j z.slot (super_of C l.kept) selected z.disk.size sized full)
      (comes_then front.comes (comes_then back.comes (comes_ready back.pieces' back.owned back.held has)))))
    where
      slot_of : (which : Bool) (results : Two SuperblockReadResult) → Read results selected.values → at results which ≡ SuperblockUnfinished
          → Comes g C L (record { machine = superblocks_at (both none) results; disk = resting slots j }) (slot_calls which)
          (record { machine = superblocks_at (both none) (put results which (SuperblockSuccess (at selected.values which))); disk = resting slots j })
      slot_of = slot_read g C L room slots j z.slot (super_of C l.kept) selected z.disk.size sized

      unread : Read (both SuperblockUnfinished) selected.values
      unread b = inl (at_both SuperblockUnfinished b)

      front : Paging g C L room slots j z.slot (super_of C l.kept) selected z.disk.size sized full false (both none)
      front =
          pages g C L room slots j z.slot (super_of C l.kept) selected z.disk.size sized full false (both none) refl
          (λ b jr e. none_some (at_both none b) e) (λ b jr u e. none_some (at_both none b) e)

      back : Paging g C L room slots j z.slot (super_of C l.kept) selected z.disk.size sized full true front.pieces'
      back = pages g C L room slots j z.slot (super_of C l.kept) selected z.disk.size sized full true front.pieces' front.others front.owned front.held

      has : (which : Bool) (u : JournalInterval) → journal_interval_of_superblock g which (super_of C l.kept) ≡ some u → (jr : JournalRange) × (at back.pieces' which ≡ some jr)
      has true u e = back.has u e
      has false u e = ((front.has u e).0, back.others ∙ (front.has u e).1)

-- a crash leaves a disk at rest
crash_rests : (g : Geometry) (C : Codec) (L : Limits) (s t : Y.Variables) (e : Event) → Tied crash e → Allowed g C L s t e
    → t ≡ record { machine = M.Variables.LoadingSuperblock M.initial; disk = resting t.disk.superblocks t.disk.journal }
crash_rests g C L s t e tied_crash a =
    let c = a.step.disk.source in
    λ i.
    record {
      machine = a.step.machine i;
      disk =
          record {
            req_read_superblocks = c.no_superblock_reads i;
            req_read_journals = c.no_journal_reads i;
            req_write_superblocks = c.no_superblock_writes i;
            req_write_journals = c.no_journal_writes i;
            superblocks = t.disk.superblocks;
            journal = t.disk.journal;
          };
    }

-- so whatever stands as its ledger says can be loaded after any calls and a crash that is taken, from the very state before it
pub loads_from : (g : Geometry) (C : Codec) (L : Limits) → Room L → (p : ℕ) (from : Y.Variables) (l₀ : Ledger) → Sim g C p from.machine from.disk l₀
    → (calls : List Call) (answers : List Bool) (before after : Y.Variables) → Trace g C L from calls answers before → Takes g C L before after crash → Sized after.disk.journal
    → let v = super_of C (books g C l₀ calls answers).kept in
    (r : M.ReadyVariables) × (h : Loaded g C L from calls answers (load_calls g v) (taken (load_calls g v)) r) × (h.before ≡ before)
unfolding tell
loads_from g C L room p from l₀ z₀ calls answers before after ran crashed sized = (
  ready_by (shown C l) z.slot,
  record {
    before = before;
    ran = ran;
    after = after;
    crashed = crashed;
    end = ready;
    load = subst (λ (s : Y.Variables). Trace g C L s xs (taken xs) ready) (sym rests) (comes_trace up);
    only_loads = comes_loads up;
    ready = refl;
  },
  refl,
)
  where
    l₁ : Ledger
    l₁ = books g C l₀ calls answers

    l : Ledger
    l = tell g C crash l₁

    slots : Two (Option Superblock)
    slots = after.disk.superblocks

    j : List (Option JournalBlock)
    j = after.disk.journal

    xs : List Call
    xs = load_calls g (super_of C l.kept)

    rest : Y.Variables
    rest = record { machine = M.Variables.LoadingSuperblock M.initial; disk = resting slots j }

    rests : after ≡ rest
    rests = crash_rests g C L before after crashed.event crashed.tied crashed.allowed

    z : Sim g C p (M.Variables.LoadingSuperblock M.initial) (resting slots j) l
    z =
        subst (λ (s : Y.Variables). Sim g C p s.machine s.disk l) rests
        (sim_step g C L p before after l₁ (sim_run g C L p from before l₀ calls answers z₀ ran) crash crashed)

    ready : Y.Variables
    ready = record { machine = M.Variables.Ready (ready_by (shown C l) z.slot); disk = resting slots j }

    up : Comes g C L rest xs ready
    up = comes_up g C L room p slots j l z sized

-- every history that ends with a crash that is taken
pub crash_loads_from : (g : Geometry) (C : Codec) (L : Limits) → Room L → (first : Y.Variables) (loc : Location) (i : Y.Init g first loc) (calls : List Call) (answers : List Bool) (before after : Y.Variables)
    → Trace g C L first calls answers before → Takes g C L before after crash → Sized after.disk.journal
    → let v = super_of C (books g C (begin (superblock_of_disk g first.disk i.wf)) calls answers).kept in
    (r : M.ReadyVariables) × (h : Loaded g C L first calls answers (load_calls g v) (taken (load_calls g v)) r) × (h.before ≡ before)
crash_loads_from g C L room first loc i = loads_from g C L room (first_parity g C first loc i) first (begin (superblock_of_disk g first.disk i.wf)) (init_sim g C first loc i)

pub crash_loads : (g : Geometry) (C : Codec) (L : Limits) → Room L → (first : Y.Variables) (loc : Location) (i : Y.Init g first loc) (calls : List Call) (answers : List Bool) (before after : Y.Variables)
    → Trace g C L first calls answers before → Takes g C L before after crash → Sized after.disk.journal
    → let v = super_of C (books g C (begin (superblock_of_disk g first.disk i.wf)) calls answers).kept in
    (r : M.ReadyVariables) × Loaded g C L first calls answers (load_calls g v) (taken (load_calls g v)) r
crash_loads g C L room first loc i calls answers before after ran crashed sized =
    let k = crash_loads_from g C L room first loc i calls answers before after ran crashed sized in (k.0, k.1)

-- the same behind calls of earlier releases
pub earlier_loads : (g : Geometry) (C : Codec) (L : Limits) → Room L → (first : Y.Variables) (loc : Location) (i : Y.Init g first loc) (past : Past g C L first)
    → (calls : List Call) (answers : List Bool) (before after : Y.Variables) → Trace g C L past.left calls answers before → Takes g C L before after crash → Sized after.disk.journal
    → let v = super_of C (books g C (books g C (begin (superblock_of_disk g first.disk i.wf)) past.calls past.answers) calls answers).kept in
    (r : M.ReadyVariables) × Loaded g C L past.left calls answers (load_calls g v) (taken (load_calls g v)) r
earlier_loads g C L room first loc i past calls answers before after ran crashed sized =
    let k = loads_from g C L room (first_parity g C first loc i) past.left (books g C (begin (superblock_of_disk g first.disk i.wf)) past.calls past.answers)
    (past_sim g C L first loc i past) calls answers before after ran crashed sized in
    (k.0, k.1)
