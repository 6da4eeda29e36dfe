-- Whole histories: lists of calls with their answers, from one disk that meets `Init`, each with a crash that is taken and a load behind it.
-- A loaded machine is told by its ledger in every field; so two are equal exactly when their ledgers are, and each shows its own. Over any
-- range format that meets its laws, and any limits.
use Rattle.std.specs.Prelude.{ℕ, Bool, true, ◌≡◌, refl, List, ◌∷◌, ◌++◌}
use Rattle.std.proofs.Common.{sym, ◌∙◌, ap, subst}
use Rattle.layout.specs.declared.Geometry.{Geometry}
use Rattle.layout.specs.declared.Location.{Location}
use Rattle.codec.specs.Codec.{Codec}
use Rattle.source.specs.JournalCache as M
use Rattle.source.specs.JournalCache.{selected_second}
use Rattle.source.specs.JournalSystem as Y
use Rattle.source.specs.JournalSystem.{superblock_of_disk}
use Rattle.source.specs.Limits.{Limits}
use Rattle.source.specs.Departures.{Event, Allowed}
use Rattle.history.specs.Ledger.{Call, crash, Ledger, begin, books, tell, Shown, shown}
use Rattle.history.specs.Statement.{Tied, tied_crash, Loaded, ledger_of, shows, Tells, ready_by, slot_by}
use Rattle.history.proofs.Journal.Slots.{slot_parity}
use Rattle.history.proofs.Simulation.Relation.{Sim}
use Rattle.history.proofs.Simulation.Steps.{sim_step}
use Rattle.history.proofs.Whole.Reloaded.{Clean}
use Rattle.history.proofs.Whole.Lists.{sim_run, kept_run, books_loads, books_append}
use Rattle.history.proofs.Whole.First.{first_parity, init_sim}

-- a crash leaves the machine's `Init`
crash_init : (g : Geometry) (C : Codec) (L : Limits) (s t : Y.Variables) (e : Event) → Tied crash e → Allowed g C L s t e → M.Init t.machine
crash_init g C L s t e tied_crash a = a.step.machine

-- from any state that stands as its ledger says: a loaded machine is the one that the ledger tells then, in a slot of the same parity
pub loaded_from : (g : Geometry) (C : Codec) (L : Limits) (p : ℕ) (from : Y.Variables) (l₀ : Ledger) → Sim g C p from.machine from.disk l₀
    → (calls : List Call) (answers : List Bool) (loading : List Call) (loaded : List Bool) (r : M.ReadyVariables) → Loaded g C L from calls answers loading loaded r
    → Clean p (M.Variables.Ready r) (shown C (books g C l₀ (calls ++ crash ∷ loading) (answers ++ true ∷ loaded)))
unfolding books tell
loaded_from g C L p from l₀ z calls answers loading loaded r h =
    subst (λ (l : Ledger). Clean p (M.Variables.Ready r) (shown C l)) (sym books_are)
    (subst (λ (m : M.Variables). Clean p m (shown C l₂)) h.ready
    (kept_run g C L p h.after h.end l₂ loading loaded (record { sim = after_crash; clean = fresh_clean }) h.only_loads h.load).clean)
  where
    l₁ : Ledger
    l₁ = books g C l₀ calls answers

    l₂ : Ledger
    l₂ = tell g C crash l₁

    after_crash : Sim g C p h.after.machine h.after.disk l₂
    after_crash = sim_step g C L p h.before h.after l₁ (sim_run g C L p from h.before l₀ calls answers z h.ran) crash h.crashed

    fresh_clean : Clean p h.after.machine (shown C l₂)
    fresh_clean = subst (λ (m : M.Variables). Clean p m (shown C l₂)) (sym (crash_init g C L h.before h.after h.crashed.event h.crashed.tied h.crashed.allowed)) refl

    books_are : books g C l₀ (calls ++ crash ∷ loading) (answers ++ true ∷ loaded) ≡ l₂
    books_are = books_append g C l₀ _ from h.before calls answers (crash ∷ loading) (true ∷ loaded) h.ran ∙ books_loads g C L l₂ loading loaded h.only_loads

-- a machine whose slot has the first disk's parity is told by its ledger in every field
pub clean_tells : (g : Geometry) (C : Codec) (first : Y.Variables) (loc : Location) (i : Y.Init g first loc) (r : M.ReadyVariables) (v : Shown)
    → Clean (first_parity g C first loc i) (M.Variables.Ready r) v → r ≡ ready_by v (slot_by g first loc i v.counter)
clean_tells g C first loc i r v c =
    c.2 ∙ ap (ready_by v) (slot_parity v.counter (superblock_of_disk g first.disk i.wf).counter c.0 (selected_second i.wf.first.value i.wf.second.value) c.1)

-- so two of them are equal exactly when their ledgers are
pub both_tell : (g : Geometry) (first : Y.Variables) (loc : Location) (i : Y.Init g first loc) (r q : M.ReadyVariables) (v u : Shown)
    → r ≡ ready_by v (slot_by g first loc i v.counter) → q ≡ ready_by u (slot_by g first loc i u.counter) → Tells r q v u
both_tell g first loc i r q v u r-is q-is =
    record {
      equal = (λ e. sym (ap shows r-is) ∙ ap shows e ∙ ap shows q-is, λ e. r-is ∙ (λ n. ready_by (e n) (slot_by g first loc i (e n).counter)) ∙ sym q-is);
      first_shows = ap shows r-is;
      second_shows = ap shows q-is;
    }

module _ (g : Geometry) (C : Codec) (L : Limits) (first : Y.Variables) (loc : Location) (i : Y.Init g first loc) where
  -- every field of a loaded machine is the ledger's
  pub loaded_tells : (calls : List Call) (answers : List Bool) (loading : List Call) (loaded : List Bool) (r : M.ReadyVariables) → Loaded g C L first calls answers loading loaded r
      → let v = shown C (ledger_of g C first loc i calls answers loading loaded) in r ≡ ready_by v (slot_by g first loc i v.counter)
  loaded_tells calls answers loading loaded r h =
      clean_tells g C first loc i r _
      (loaded_from g C L (first_parity g C first loc i) first (begin (superblock_of_disk g first.disk i.wf)) (init_sim g C first loc i) calls answers loading loaded r h)

  pub whole_history : (calls : List Call) (answers : List Bool) (loading : List Call) (loaded : List Bool) (r : M.ReadyVariables)
      (calls' : List Call) (answers' : List Bool) (loading' : List Call) (loaded' : List Bool) (q : M.ReadyVariables)
      → Loaded g C L first calls answers loading loaded r → Loaded g C L first calls' answers' loading' loaded' q
      → Tells r q (shown C (ledger_of g C first loc i calls answers loading loaded)) (shown C (ledger_of g C first loc i calls' answers' loading' loaded'))
  whole_history calls answers loading loaded r calls' answers' loading' loaded' q h k =
      both_tell g first loc i r q _ _ (loaded_tells calls answers loading loaded r h) (loaded_tells calls' answers' loading' loaded' q k)
