-- Histories that earlier releases began: each of their steps keeps the relation to the ledger, so that what a load shows is the ledger's, whichever release
-- took the calls before.
use Rattle.std.specs.Prelude.{ℕ, Bool, true, ◌≡◌, List, ◌∷◌, ◌++◌, map}
use Rattle.std.proofs.Common.{sym, ◌∙◌, subst, append_assoc, inl, inr}
use Rattle.layout.specs.declared.Geometry.{Geometry}
use Rattle.layout.specs.declared.Location.{Location}
use Rattle.codec.specs.Codec.{Codec}
use Rattle.source.specs.JournalCache as M
use Rattle.source.specs.JournalSystem as Y
use Rattle.source.specs.JournalSystem.{superblock_of_disk}
use Rattle.source.specs.Limits.{Limits}
use Rattle.history.specs.Ledger.{Call, crash, Ledger, begin, books, tell, shown}
use Rattle.history.specs.Statement.{Loaded, Tells, ready_by, slot_by, Store, LoadedStore}
use Rattle.history.specs.Earlier.{EarlierStep, earlier_add, earlier_log, earlier_location, TakesEver, Past, ledger_since}
use Rattle.history.proofs.Simulation.Relation.{Sim}
use Rattle.history.proofs.Simulation.Working.{sim_add}
use Rattle.history.proofs.Simulation.Commits.{sim_commit_log, sim_commit_location}
use Rattle.history.proofs.Simulation.Steps.{sim_step}
use Rattle.history.proofs.Whole.Reloaded.{Clean}
use Rattle.history.proofs.Whole.Lists.{run_by, Simulates, books_append}
use Rattle.history.proofs.Whole.First.{first_parity, init_sim}
use Rattle.history.proofs.Whole.History.{loaded_from, clean_tells, both_tell}
use Rattle.history.proofs.Whole.Stores.{store_loaded}

module _ (g : Geometry) (C : Codec) (L : Limits) (p : ℕ) (s t : Y.Variables) (l : Ledger) (z : Sim g C p s.machine s.disk l) where
  sim_earlier : (x : Call) → EarlierStep g s t x → Sim g C p t.machine t.disk (tell g C x l)
  unfolding tell
  sim_earlier x (earlier_add {es = es} h d) = sim_add g C p es s.machine t.machine s.disk t.disk l _ z h d
  sim_earlier x (earlier_log h d) = sim_commit_log g C p s.machine t.machine s.disk t.disk l _ z h d
  sim_earlier x (earlier_location h d) = sim_commit_location g C p s.machine t.machine s.disk t.disk l _ z h d

  sim_ever : (x : Call) → TakesEver g C L s t x → Sim g C p t.machine t.disk (tell g C x l)
  sim_ever x (inl h) = sim_step g C L p s t l z x h
  sim_ever x (inr h) = sim_earlier x h.step

module _ (g : Geometry) (C : Codec) (L : Limits) (first : Y.Variables) (loc : Location) (i : Y.Init g first loc) where
  abbrev parity : ℕ
  parity = first_parity g C first loc i

  abbrev opening : Ledger
  opening = begin (superblock_of_disk g first.disk i.wf)

  module _ (past : Past g C L first) where
    -- what it left stands as the ledger says
    pub past_sim : Sim g C parity past.left.machine past.left.disk (books g C opening past.calls past.answers)
    past_sim = run_by g C (TakesEver g C L) (Simulates g C parity) (sim_ever g C L parity) first past.left opening past.calls past.answers (init_sim g C first loc i) past.ever

    -- the lists of a history are told one after the other
    books_since : (calls : List Call) (answers : List Bool) (loading : List Call) (loaded : List Bool)
        → ledger_since g C L first loc i past calls answers loading loaded ≡ books g C (books g C opening past.calls past.answers) (calls ++ crash ∷ loading) (answers ++ true ∷ loaded)
    books_since calls answers loading loaded =
        (λ k. books g C opening (append_assoc past.calls calls (crash ∷ loading) k) (append_assoc past.answers answers (true ∷ loaded) k))
        ∙ books_append g C opening _ first past.left past.calls past.answers (calls ++ crash ∷ loading) (answers ++ true ∷ loaded) past.ever

    pub since_tells : (calls : List Call) (answers : List Bool) (loading : List Call) (loaded : List Bool) (r : M.ReadyVariables) → Loaded g C L past.left calls answers loading loaded r
        → let v = shown C (ledger_since g C L first loc i past calls answers loading loaded) in r ≡ ready_by v (slot_by g first loc i v.counter)
    since_tells calls answers loading loaded r h =
        clean_tells g C first loc i r _
        (subst (λ (k : Ledger). Clean parity (M.Variables.Ready r) (shown C k)) (sym (books_since calls answers loading loaded))
        (loaded_from g C L parity past.left (books g C opening past.calls past.answers) past_sim calls answers loading loaded r h))

    -- a store that is handed what it left
    store_since_tells : (S : Store g C L) (s : S.State) (calls : List S.Made) (answers : List Bool) (crashing : S.Made) (loading : List S.Made) (loaded : List Bool) (r : M.ReadyVariables)
        → LoadedStore S past.left s calls answers crashing loading loaded r
        → let v = shown C (ledger_since g C L first loc i past (map S.call calls) answers (map S.call loading) loaded) in r ≡ ready_by v (slot_by g first loc i v.counter)
    store_since_tells S s calls answers crashing loading loaded r h =
        since_tells (map S.call calls) answers (map S.call loading) loaded r (store_loaded g C L S past.left s calls answers crashing loading loaded r h)

  pub stores_since_tell : (past past' : Past g C L first) (S S' : Store g C L)
      (s : S.State) (calls : List S.Made) (answers : List Bool) (crashing : S.Made) (loading : List S.Made) (loaded : List Bool) (r : M.ReadyVariables)
      (s' : S'.State) (calls' : List S'.Made) (answers' : List Bool) (crashing' : S'.Made) (loading' : List S'.Made) (loaded' : List Bool) (q : M.ReadyVariables)
      → LoadedStore S past.left s calls answers crashing loading loaded r
      → LoadedStore S' past'.left s' calls' answers' crashing' loading' loaded' q
      → Tells r q
      (shown C (ledger_since g C L first loc i past (map S.call calls) answers (map S.call loading) loaded))
      (shown C (ledger_since g C L first loc i past' (map S'.call calls') answers' (map S'.call loading') loaded'))
  stores_since_tell past past' S S' s calls answers crashing loading loaded r s' calls' answers' crashing' loading' loaded' q h k =
      both_tell g first loc i r q _ _ (store_since_tells past S s calls answers crashing loading loaded r h) (store_since_tells past' S' s' calls' answers' crashing' loading' loaded' q k)
