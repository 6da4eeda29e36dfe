-- Demand 3 of the code isn't empty: the example day of crate history is a day of the code. From `Store::initial` over any memory of the right
-- lengths whose marks are 0, the code takes and refuses the day's calls as they are listed there: commits of both kinds, ranges that go round the
-- ring, two sync requests, a damaged read, a crash with a write in flight, and a load in two pieces; and at Ready it shows the ledger.
use Rattle.std.specs.Prelude.{ℕ, Bool, true, false, ◌≡◌, refl, List, [], ◌∷◌, ◌++◌, map, length, replicate}
use Rattle.std.proofs.Common.{sym, ◌∙◌, ap, subst, arith}
use Rattle.std.proofs.Math.Option.{some}
use Rattle.std.proofs.lemmas.List.{length-replicate}
use Rattle.laws.specs.Part.{tab}
use Rattle.laws.specs.Cut.{lengths}
use Rattle.laws.specs.Fold.{sum, every}
use Rattle.laws.specs.Choice.{also}
use Rattle.laws.specs.Sets.{Map, AtMost, keys, none_few}
use Rattle.codec.specs.Codec.{Sized}
use Rattle.codec.specs.Format.{format}
use Rattle.journal.specs.Memory.{is_mark, is_one}
use Rattle.journal.specs.Cells.{cells_in}
use Rattle.source.specs.JournalDisk as D
use Rattle.source.specs.JournalCache as M
use Rattle.source.specs.JournalCache.{SyncReqStatus, State1, sync_reqs_of}
use Rattle.source.specs.JournalSystem as Y
use Rattle.source.specs.Limits.{limits, MachineCounts, DiskCounts}
use Rattle.source.specs.Departures.{Event, FinishLoadingOtherPhase⁺, Allowed}
use Rattle.history.specs.Ledger as ledger
use Rattle.history.specs.Ledger.{Call}
use Rattle.history.specs.Statement.{Tied, tied_finish_other, Takes, Trace, OnlyLoads, Loaded, LoadedStore, shows}
use Rattle.history.proofs.Loads.Comes.{taken}
use Rattle.history.proofs.Example.Setting.{g, g_valid, sb0, first, small, large, small_few, small_fit, large_few, large_fit}
use Rattle.history.proofs.Example.Walk.{Walk, there, ◌then◌, ◌refused-then◌}
use Rattle.history.proofs.Example.States.{s29}
use Rattle.history.proofs.Example.Example.{day, answers, walk, evening, told, example_loads, example_shows, example_saved}
use Rattle.store.specs.Lent.{Lent, machine_lent}
use Rattle.refine.specs.Disk.View as disk
use Rattle.refine.specs.Machine.MachineView.{MachineLent, syncs_of}
use Rattle.refine.specs.Machine.MachineSync.{requests_seen}
use Rattle.refine.specs.Machine.MachineInitial.{initial_seen}
use Rattle.refine.specs.Store.History.{State, Made, code_store, state_seen, ready_seen, loaded_ready}
use Rattle.refine.specs.Store.Fresh.{fresh_form, holding, idle_seen}
use Rattle.refine.specs.Store.Runs.{begun}
use Rattle.refine.specs.Store.Within.{Few}
use Rattle.refine.specs.Store.Follows.{Lived, AllBring, done, ◌and◌, Fits, meets_fits, lived_fits, Taken, follow_taken, Followed, follow}

-- a walk, and calls that are all taken, as a history

walk_lived : {s t : Y.Variables} {xs : List Call} {bs : List Bool} → Walk s xs bs t → Lived g s xs bs t
walk_lived there = refl
walk_lived (◌then◌ {u = u} k w) = (u, k.0, walk_lived w)
walk_lived (n refused-then w) = (n, walk_lived w)

pub trace_lived : (s t : Y.Variables) (xs : List Call) → Trace g format limits s xs (taken xs) t → Lived g s xs (taken xs) t
trace_lived s t [] h = h
trace_lived s t (x ∷ xs) h = (h.0, h.1, trace_lived h.0 t xs h.2)

-- the state that a load ends in is within the limits

finish_counts : (m m' : M.Variables) → MachineCounts limits m → FinishLoadingOtherPhase⁺ g format m m' D.NoDiskOp → MachineCounts limits m'
unfolding sum lengths
finish_counts (M.Variables.LoadingSuperblock s) m' k c = absurd c.source
finish_counts (M.Variables.Ready s) m' k c = absurd c.source
finish_counts (M.Variables.LoadingOther s) (M.Variables.LoadingSuperblock s') k c = absurd c.source
finish_counts (M.Variables.LoadingOther s) (M.Variables.LoadingOther s') k c = absurd c.source
finish_counts (M.Variables.LoadingOther s) (M.Variables.Ready s') k c =
    record {
      sync_few = subst (λ x. AtMost limits.sync_reqs (keys x)) (sym c.source.sync_reqs_is) k.sync_few;
      writes_few = subst (AtMost limits.outstanding_journal_writes) (sym c.source.outstanding_journal_writes_is) (none_few limits.outstanding_journal_writes);
      pending_few = omega (arith, ap length c.source.in_memory_journal_frozen_is, ap length c.source.in_memory_journal_is);
      pending_small = omega (arith, ap (λ es. sum (lengths es)) c.source.in_memory_journal_frozen_is, ap (λ es. sum (lengths es)) c.source.in_memory_journal_is);
    }

finish_fits : (s t : Y.Variables) (e : Event) → Tied ledger.finish_other e → Allowed g format limits s t e → Fits g t
finish_fits s t e tied_finish_other a =
    let k = meets_fits g s a.meets in
    let d = sym a.step.disk.next in
    record {
      machine = finish_counts s.machine t.machine k.machine a.step.machine;
      disk = subst (λ (x : D.Variables). DiskCounts limits x) d k.disk;
      size = subst (λ (x : D.Variables). length x.journal ≡ 4) d k.size;
      block_size = subst (λ (x : D.Variables). Sized x.journal) d k.block_size;
    }

ends_fit : (s t : Y.Variables) (xs : List Call) → Trace g format limits s (xs ++ ledger.finish_other ∷ []) (taken (xs ++ ledger.finish_other ∷ [])) t → Fits g t
ends_fit s t [] h = subst (Fits g) (sym h.2) (finish_fits s h.0 h.1.event h.1.tied h.1.allowed)
ends_fit s t (x ∷ xs) h = ends_fit h.0 t xs h.2

evening_fits : (s t : Y.Variables) → Trace g format limits s evening (taken evening) t → Fits g t
unfolding evening
evening_fits s t h =
    ends_fit s t
    (ledger.read_superblock false 1 ∷ ledger.superblock_read false 1 true ∷ ledger.read_superblock true 1 ∷ ledger.superblock_read true 1 true ∷ ledger.finish_superblocks
    ∷ ledger.read_journal false 1 ∷ ledger.journal_read 1 true ∷ ledger.read_journal true 1 ∷ ledger.journal_read 1 true ∷ []) h

-- what the calls bring
day_brings : AllBring day
unfolding day
day_brings =
    tt and tt and tt
    and tt and tt and tt and tt and tt and tt
    and long and tt and tt and short and tt and tt and tt and tt
    and tt and tt and tt and tt and tt and tt
    and long and tt and tt and tt and tt and tt and tt and tt and tt
    and short and tt and tt and done
  where
    long : Few large
    long = record { few = large_few; fit = large_fit }

    short : Few small
    short = record { few = small_few; fit = small_fit }

evening_brings : AllBring evening
unfolding evening
evening_brings = tt and tt and tt and tt and tt and tt and tt and tt and tt and tt and done

-- The first store: two equal slots, and any memory of the right lengths whose marks are 0

pub record Blank (l : Lent) : Type 0 where
  pub machine : MachineLent g (machine_lent l)
  pub disk : disk.Lent g l.blocks l.marks
  pub marks : l.marks ≡ 0 ∷ 0 ∷ 0 ∷ 0 ∷ []

-- there is such memory
unfoldable pub blank : Lent
blank =
    record {
      bytes = replicate 65536 7;
      lens = replicate 1024 7;
      pieces = replicate 16384 7;
      rbytes = replicate 16384 7;
      rlens = replicate 16384 7;
      blocks = replicate 16384 7;
      marks = 0 ∷ 0 ∷ 0 ∷ 0 ∷ [];
    }

pub blank_is : Blank blank
unfolding blank every also is_mark
blank_is =
    record {
      machine =
          record {
            geometry = g_valid;
            bytes_lent = length-replicate {A = ℕ} 65536 7;
            lens_lent = length-replicate {A = ℕ} 1024 7;
            pieces_lent = length-replicate {A = ℕ} 16384 7;
            rbytes_lent = length-replicate {A = ℕ} 16384 7;
            rlens_lent = length-replicate {A = ℕ} 16384 7;
          };
      disk =
          record {
            blocks_right = record { geometry = g_valid; size = length-replicate {A = ℕ} 16384 7 };
            marks_right = record { geometry = g_valid; size = refl; each = refl };
          };
      marks = refl;
    }

abbrev pub morning : Lent → State
morning l = begun (holding sb0 sb0) l

-- no block is readable: it is seen as the example's first state
no_cells : (blocks marks : List ℕ) → marks ≡ 0 ∷ 0 ∷ 0 ∷ 0 ∷ [] → cells_in 4 blocks marks ≡ first.disk.journal
unfolding cells_in tab is_one
no_cells blocks marks e = ap (cells_in 4 blocks) e

pub morning_seen : (l : Lent) → Blank l → state_seen g (morning l) ≡ first
morning_seen l b =
    let k = idle_seen g l.blocks l.marks (holding sb0 sb0) in
    λ i.
    record {
      machine = initial_seen g (machine_lent l) i;
      disk =
          record {
            req_read_superblocks = k.0 i;
            req_read_journals = k.1 i;
            req_write_superblocks = first.disk.req_write_superblocks;
            req_write_journals = k.2 i;
            superblocks = first.disk.superblocks;
            journal = no_cells l.blocks l.marks b.marks i;
          };
    }

-- The day, by the code

pub record CodeDay (l : Lent) : Type 0 where
  pub calls : List Made
  pub crashing : Made
  pub loading : List Made
  pub ready : M.ReadyVariables
  pub loaded : LoadedStore (code_store g) first (morning l) calls answers crashing loading (taken evening) ready
  pub are_day : map (code_store g).call calls ≡ day
  pub are_evening : map (code_store g).call loading ≡ evening
  pub shows_told : shows (ready_seen loaded.end) ≡ told
  pub ends_day : state_seen g loaded.before ≡ s29
  -- before the crash both sync requests are at State1
  pub saved : (syncs_of loaded.before.store.machine 8 ≡ some State1) × (syncs_of loaded.before.store.machine 9 ≡ some State1)

pub code_day : (l : Lent) → Blank l → CodeDay l
code_day l b =
    record {
      calls = a.calls;
      crashing = c.call;
      loading = e.calls;
      ready = example_loads.0;
      loaded =
          record {
            begins = morning_seen l b;
            before = a.end;
            ran = a.ran;
            after = c.next;
            crash_is = c.heard;
            crashed = c.promise;
            end = e.end;
            load = e.ran;
            only_loads = subst (λ (xs : List Call). OnlyLoads xs (taken evening)) (sym e.heard) h.only_loads;
            ready = at_ready;
          };
      are_day = a.heard;
      are_evening = e.heard;
      shows_told = ap shows (loaded_ready g e.end example_loads.0 at_ready).1 ∙ example_shows;
      ends_day = a.ends;
      saved = (requests 8 ∙ example_saved.0, requests 9 ∙ example_saved.1);
    }
  where
    h : Loaded g format limits first day answers evening (taken evening) example_loads.0
    h = example_loads.1

    s29_fits : Fits g s29
    s29_fits = subst (Fits g) example_loads.2 (meets_fits g h.before h.crashed.allowed.meets)

    a : Followed g (morning l) day answers s29
    a =
        follow g (morning l) day answers s29 (fresh_form g l (holding sb0 sb0) b.machine b.disk)
        (subst (λ (u : Y.Variables). Lived g u day answers s29) (sym (morning_seen l b)) (walk_lived walk)) s29_fits day_brings

    requests : (id : ℕ) → syncs_of a.end.store.machine id ≡ sync_reqs_of s29.machine id
    requests id = ap (λ (x : Map SyncReqStatus). x id) (sym (requests_seen g (machine_lent a.end.lent) a.end.store.machine) ∙ ap (λ (u : Y.Variables). sync_reqs_of u.machine) a.ends)

    end_fits : Fits g h.end
    end_fits = evening_fits h.after h.end h.load

    lived : Lived g h.after evening (taken evening) h.end
    lived = trace_lived h.after h.end evening h.load

    c : Taken g a.end ledger.crash h.after
    c =
        follow_taken g a.end ledger.crash h.after a.form
        (subst (λ (u : Y.Variables). Takes g format limits u h.after ledger.crash) (example_loads.2 ∙ sym a.ends) h.crashed)
        (lived_fits g h.after h.end evening (taken evening) lived end_fits) tt

    e : Followed g c.next evening (taken evening) h.end
    e = follow g c.next evening (taken evening) h.end c.form (subst (λ (u : Y.Variables). Lived g u evening (taken evening) h.end) (sym c.ends) lived) end_fits evening_brings

    at_ready : (state_seen g e.end).machine ≡ M.Variables.Ready example_loads.0
    at_ready = ap (λ (u : Y.Variables). u.machine) e.ends ∙ h.ready
