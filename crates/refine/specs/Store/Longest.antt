-- Twelve is attained by the code: on the example day, after its crash, both slots are read damaged; the selected interval goes round the ring's end.
use Rattle.std.specs.Prelude.{ℕ, true, false, ◌≡◌, refl, [], ◌∷◌}
use Rattle.std.proofs.Common.{sym, ◌∙◌, ap, subst}
use Rattle.std.proofs.Math.Option.{Option, some}
use Rattle.laws.specs.Sets.{Two}
use Rattle.interval.specs.Interval.{interval, journal_front_interval, journal_back_interval}
use Rattle.superblock.specs.declared.Superblock.{Superblock}
use Rattle.superblock.specs.Superblock.{increment_superblock_counter, increments1, select_superblock_index, select_superblock}
use Rattle.codec.specs.Format.{format}
use Rattle.source.specs.JournalDisk as D
use Rattle.source.specs.JournalCache as M
use Rattle.source.specs.JournalCache.{journal_interval_of_superblock}
use Rattle.source.specs.JournalSystem as Y
use Rattle.source.specs.Limits.{limits}
use Rattle.source.proofs.Laws.Format.{limits_fit}
use Rattle.source.specs.Departures.{Event, Allowed}
use Rattle.history.specs.Ledger as ledger
use Rattle.history.specs.Ledger.{Ledger}
use Rattle.history.specs.Statement.{Tied, tied_crash, Takes}
use Rattle.history.proofs.Loads.Comes.{taken}
use Rattle.history.proofs.Reach.Reachable.{Reached}
use Rattle.history.specs.Driver.{left}
use Rattle.history.proofs.Drive.Named.{limits_rooms}
use Rattle.history.proofs.Drive.Longest.{at_slots, damaging, TwelveLeft, longest_reached}
use Rattle.history.proofs.Example.Setting.{g, g_valid, table1, sb0, sb0_wf, init}
use Rattle.history.proofs.Example.States.{sb1, sb2, s29}
use Rattle.history.proofs.Example.Example.{answers}
use Rattle.store.specs.Lent.{Lent}
use Rattle.calls.specs.Given.{Given}
use Rattle.refine.specs.Store.History.{State, state_seen, code_store}
use Rattle.refine.specs.Store.Fresh.{fresh_asks}
use Rattle.refine.specs.Store.Runs.{StateReached}
use Rattle.refine.specs.Store.Follows.{Lived, done, ◌and◌, meets_fits, Followed, follow}
use Rattle.refine.specs.Store.Day.{trace_lived, Blank, morning, morning_seen, CodeDay, code_day}
use Rattle.refine.specs.Store.Finishes.{FromInit, from_on, from_reached, loading_finishes}

-- what a crash leaves: the machine begins anew, and the slots are as they were
pub record Left (s t : Y.Variables) : Type 0 where
  pub machine : t.machine ≡ M.Variables.LoadingSuperblock M.initial
  pub slots : t.disk.superblocks ≡ s.disk.superblocks

crash_leaves : (s t : Y.Variables) → Takes g format limits s t ledger.crash → Left s t
crash_leaves s t h = go h.event h.tied h.allowed
  where
    go : (e : Event) → Tied ledger.crash e → Allowed g format limits s t e → Left s t
    go e tied_crash a = record { machine = a.step.machine; slots = a.step.disk.source.superblocks_kept }

-- the pieces of the day's selected superblock: blocks 2 and 3, and block 0
front_is : journal_interval_of_superblock g false (select_superblock sb2 sb1) ≡ some (interval 2 2)
unfolding select_superblock select_superblock_index increments1 increment_superblock_counter journal_front_interval
front_is = refl

back_is : journal_interval_of_superblock g true (select_superblock sb2 sb1) ≡ some (interval 0 1)
unfolding select_superblock select_superblock_index increments1 increment_superblock_counter journal_back_interval
back_is = refl

pub record Attained (l : Lent) : Type 0 where
  pub state : State
  pub from_init : FromInit g state
  pub twelve : left g (state_seen g state) ≡ 12

module _ (l : Lent) (b : Blank l) where
  day : CodeDay l
  day = code_day l b

  begins : FromInit g (morning l)
  begins =
      record {
        first = morning l;
        loc = table1;
        passes = fresh_asks g l sb0 sb0 b.machine b.disk sb0_wf sb0_wf;
        init = subst (λ (s : Y.Variables). Y.Init g s table1) (sym (morning_seen l b)) init;
        calls = [];
        answers = [];
        ran = refl;
      }

  -- up to the crash
  crashed : FromInit g day.loaded.after
  crashed =
      from_on g day.loaded.before day.loaded.after (day.crashing ∷ []) (true ∷ [])
      (from_on g (morning l) day.loaded.before day.calls answers begins day.loaded.ran)
      (day.loaded.after, day.loaded.crashed, refl)

  leaves : Left (state_seen g day.loaded.before) (state_seen g day.loaded.after)
  leaves =
      crash_leaves (state_seen g day.loaded.before) (state_seen g day.loaded.after)
      (subst (λ (x : ledger.Call). Takes g format limits (state_seen g day.loaded.before) (state_seen g day.loaded.after) x) day.loaded.crash_is
      ((code_store g).sound day.loaded.before day.crashing day.loaded.after day.loaded.crashed))

  somewhere : (p : ℕ) × (l : Ledger) × StateReached g p day.loaded.after l
  somewhere = from_reached g day.loaded.after crashed

  abbrev disk : D.Variables
  disk = (state_seen g day.loaded.after).disk

  slots_are : disk.superblocks ≡ s29.disk.superblocks
  slots_are = leaves.slots ∙ ap (λ (s : Y.Variables). s.disk.superblocks) day.ends_day

  -- both slots damaged
  spoilt : TwelveLeft g format limits limits_fit limits_rooms g_valid somewhere.0 disk
  spoilt =
      longest_reached g format limits limits_fit limits_rooms g_valid somewhere.0 disk somewhere.1
      (subst (λ (m : M.Variables). Reached g format limits somewhere.0 (record { machine = m; disk = disk }) somewhere.1) leaves.machine somewhere.2.reached)
      sb2 sb1 (interval 2 2) (interval 0 1)
      (ap (λ (x : Two (Option Superblock)). x.first) slots_are) (ap (λ (x : Two (Option Superblock)). x.second) slots_are) front_is back_is

  followed : Followed g day.loaded.after damaging (taken damaging) spoilt.end
  followed =
      follow g day.loaded.after damaging (taken damaging) spoilt.end somewhere.2.form
      (subst (λ (m : M.Variables). Lived g (record { machine = m; disk = disk }) damaging (taken damaging) spoilt.end) (sym leaves.machine)
      (trace_lived (at_slots M.initial disk) spoilt.end damaging spoilt.ran))
      (meets_fits g spoilt.end spoilt.meets) (tt and tt and tt and tt and done)

  pub twelve_attained : Attained l
  twelve_attained =
      record {
        state = followed.end;
        from_init = from_on g day.loaded.after followed.end followed.calls (taken damaging) crashed followed.ran;
        twelve = ap (left g) followed.ends ∙ spoilt.twelve;
      }

  -- so the driver takes twelve steps from there
  pub twelve_steps : (v : Given) → (loading_finishes g twelve_attained.state twelve_attained.from_init v).steps ≡ 12
  twelve_steps v = (loading_finishes g twelve_attained.state twelve_attained.from_init v).exactly ∙ twelve_attained.twelve
