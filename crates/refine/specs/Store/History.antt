-- Demand 3 of the code: the store of crate store, by the definitions that its promises cite, as one of history's stores. Lent memory is part of the
-- state; a call is a step with what is given beside it; every call gets state and memory as the last one left them.
use Rattle.std.specs.Prelude.{◌≤◌, Bool, true, false, ◌↔◌, ◌≡◌, refl, List, [], ◌∷◌, map, Ok, Err, Result}
use Rattle.std.proofs.Common.{sym, ◌∙◌, ap, subst}
use Rattle.laws.specs.Choice.{ruin}
use Rattle.refusal.specs.declared.Refusal.{Refusal}
use Rattle.layout.specs.declared.Geometry.{Geometry}
use Rattle.layout.specs.declared.Location.{Location}
use Rattle.superblock.specs.declared.DiskOp.{DiskOp}
use Rattle.range.specs.Blank.{none_blank}
use Rattle.codec.specs.Format.{format}
use Rattle.source.specs.JournalSystem as Y
use Rattle.source.specs.JournalCache as M
use Rattle.source.specs.Limits.{limits}
use Rattle.history.specs.Ledger.{Shown, shown}
use Rattle.history.specs.Statement as history
use Rattle.history.specs.Statement.{Takes, Ran, LoadedStore, ledger_of, shows}
use Rattle.history.specs.Earlier.{Past, ledger_since, no_past}
use Rattle.history.proofs.Demand.{none_blank_loaded, earlier_two_stores}
use Rattle.history.proofs.Whole.Stores.{store_loaded}
use Rattle.machine.specs.declared.Kind.{Kind}
use Rattle.machine.specs.declared.Kind.TheVariants as kind
use Rattle.machine.specs.Machine.{by_kind}
use Rattle.store.specs.declared.Store.{Store}
use Rattle.store.specs.Lent.{Lent, machine_lent}
use Rattle.calls.specs.declared.calls.Step.{Step}
use Rattle.calls.specs.Given.{Given}
use Rattle.calls.specs.Step.{stepped, stepped_lent}
use Rattle.refine.specs.Machine.ReadyView.{ready_of}
use Rattle.refine.specs.Machine.MachineView.{ready_lent, syncs_of}
use Rattle.refine.specs.Machine.MachineWork.{work_form}
use Rattle.refine.specs.Store.Seen.{seen, SizedStore, call_of}
use Rattle.refine.specs.Store.Sound.{store_takes, store_refused}
use Rattle.refine.specs.Store.Equal.{SameReady, same_seen, seen_same}
use Rattle.refine.specs.Store.Done.{StoreForm}
use Rattle.refine.specs.Store.Kept.{form_kept}

-- the store and what is lent to it; that its arrays have their lengths is the type's
pub record State : Type 0 where
  pub store : Store
  pub lent : Lent
  pub sized : SizedStore store

-- a call as it is made
pub record Made : Type 0 where
  pub step : Step
  pub given : Given

abbrev pub makes : Given → Step → Made
makes v x = record { step = x; given = v }

abbrev pub is_taken : Result DiskOp Refusal → Bool
is_taken (Ok op) = true
is_taken (Err q) = false

-- what the code's promises say of a call: the next store, all lent memory, and whether it was taken
pub record Promise (g : Geometry) (s : State) (x : Made) (taken : Bool) (t : State) : Type 0 where
  pub store_is : t.store ≡ (stepped g s.lent x.given s.store x.step).store
  pub lent_is : t.lent ≡ stepped_lent g s.lent x.given s.store x.step
  pub taken_is : taken ≡ is_taken (stepped g s.lent x.given s.store x.step).answer

abbrev pub state_seen : Geometry → State → Y.Variables
state_seen g s = seen g s.lent s.store

pub taken_next : (a : Result DiskOp Refusal) → true ≡ is_taken a → (op : DiskOp) × (a ≡ Ok op)
taken_next (Ok op) e = (op, refl)
taken_next (Err q) e = ruin (cc)

pub refused_number : (a : Result DiskOp Refusal) → false ≡ is_taken a → (n : Refusal) × (a ≡ Err n)
refused_number (Ok op) e = ruin (cc)
refused_number (Err q) e = (q, refl)

-- the code's store as a store of the history
abbrev pub code_store : (g : Geometry) → history.Store g format limits
code_store g =
    record {
      State = State;
      Made = Made;
      Promise = Promise g;
      view = state_seen g;
      call = λ x. call_of x.given x.step;
      sound = λ s x t p.
          let a = taken_next (stepped g s.lent x.given s.store x.step).answer p.taken_is in
          subst (λ (u : Lent × Store). Takes g format limits (state_seen g s) (seen g u.0 u.1) (call_of x.given x.step))
          (λ i. (sym p.lent_is i, sym p.store_is i))
          (store_takes g s.lent x.given s.store s.sized x.step a.0 a.1);
      refused = λ s x t p.
          let a = refused_number (stepped g s.lent x.given s.store x.step).answer p.taken_is in
          let k = store_refused g s.lent x.given s.store x.step a.0 a.1 in
          (λ i. seen g ((p.lent_is ∙ k.1) i) ((p.store_is ∙ k.0) i));
    }

-- the machine at work of a state, as it is seen
abbrev pub ready_seen : State → M.ReadyVariables
ready_seen s = ready_of (ready_lent (machine_lent s.lent)) (syncs_of s.store.machine) s.store.machine.ready

-- two machines at Ready are equal, by the code's own records and lent memory
abbrev pub SameLoaded : State → State → Type 0
SameLoaded s t =
    SameReady
    (ready_lent (machine_lent s.lent)) (syncs_of s.store.machine) s.store.machine.ready
    (ready_lent (machine_lent t.lent)) (syncs_of t.store.machine) t.store.machine.ready

ready_at : (k : Kind) (a : M.LoadingSuperblockVariables) (b : M.LoadingOtherVariables) (c r : M.ReadyVariables)
    → by_kind k (M.Variables.LoadingSuperblock a) (M.Variables.LoadingOther b) (M.Variables.Ready c) ≡ M.Variables.Ready r → (k ≡ kind.Ready) × (c ≡ r)
ready_at kind.LoadingSuperblock a b c r e = ruin (cc)
ready_at kind.LoadingOther a b c r e = ruin (cc)
ready_at kind.Ready a b c r e = (refl, cc)

-- what a loaded store shows: its machine is at Ready, and seen as r
pub loaded_ready : (g : Geometry) (s : State) (r : M.ReadyVariables) → (state_seen g s).machine ≡ M.Variables.Ready r → (s.store.machine.kind ≡ kind.Ready) × (ready_seen s ≡ r)
loaded_ready g s r e = ready_at s.store.machine.kind _ _ (ready_seen s) r e

-- A call that is taken leaves the form that records and lent memory add to the view, and a refused one leaves all; so a loaded store has it, and
-- `whichSuperblock` is 0 or 1.
module _ (g : Geometry) where
  pub next_formed : (s : State) (x : Made) (t : State) → Promise g s x true t → StoreForm g t.lent t.store
  next_formed s x t p =
      let a = taken_next (stepped g s.lent x.given s.store x.step).answer p.taken_is in
      subst (λ (u : Lent × Store). StoreForm g u.0 u.1) (λ i. (sym p.lent_is i, sym p.store_is i))
      (form_kept g s.lent x.given s.store x.step a.0 s.sized a.1)

  pub same_formed : (s : State) (x : Made) (t : State) → Promise g s x false t → StoreForm g s.lent s.store → StoreForm g t.lent t.store
  same_formed s x t p f =
      let a = refused_number (stepped g s.lent x.given s.store x.step).answer p.taken_is in
      let k = store_refused g s.lent x.given s.store x.step a.0 a.1 in
      subst (λ (u : Lent × Store). StoreForm g u.0 u.1) (λ i. (sym (p.lent_is ∙ k.1) i, sym (p.store_is ∙ k.0) i)) f

  pub run_formed : (s t : State) (xs : List Made) (bs : List Bool) → StoreForm g s.lent s.store → Ran (code_store g) s xs bs t → StoreForm g t.lent t.store
  run_formed s t [] [] f h = subst (λ (u : State). StoreForm g u.lent u.store) (sym h) f
  run_formed s t [] (b ∷ bs) f h = absurd h
  run_formed s t (x ∷ xs) [] f h = absurd h
  run_formed s t (x ∷ xs) (true ∷ bs) f h = run_formed h.0 t xs bs (next_formed s x h.0 h.1) h.2
  run_formed s t (x ∷ xs) (false ∷ bs) f h = run_formed h.0 t xs bs (same_formed s x h.0 h.1 f) h.2

  loaded_which : (first : Y.Variables) (s : State) (calls : List Made) (answers : List Bool) (crashing : Made) (loading : List Made) (loaded : List Bool) (r : M.ReadyVariables)
      → (h : LoadedStore (code_store g) first s calls answers crashing loading loaded r) → h.end.store.machine.kind ≡ kind.Ready
      → h.end.store.machine.ready.whichSuperblock ≤ 1
  loaded_which first s calls answers crashing loading loaded r h e =
      (work_form g (machine_lent h.end.lent) h.end.store.machine e
      (run_formed h.after h.end loading loaded (next_formed h.before crashing h.after h.crashed) h.load).machine).which_in

-- Demand 3. For every geometry, first disk that meets `Init`, and any two lists of calls with their answers, each followed by a crash that is taken
-- and a load: the machines at Ready, with their replay entries, are equal exactly when the ledgers are, and each shows its own ledger.
pub record Demand3 (s t : State) (v u : Shown) : Type 0 where
  pub first_ready : s.store.machine.kind ≡ kind.Ready
  pub second_ready : t.store.machine.kind ≡ kind.Ready
  pub equal : SameLoaded s t ↔ (v ≡ u)
  pub first_shows : shows (ready_seen s) ≡ v
  pub second_shows : shows (ready_seen t) ≡ u

-- the same where something came before, taken by this release or by earlier ones, adds of entries of zeros only among it: each store is handed what it left
pub code_earlier_demand_3 : (g : Geometry) (first : Y.Variables) (loc : Location) (i : Y.Init g first loc) (past past' : Past g format limits first)
    (s : State) (calls : List Made) (answers : List Bool) (crashing : Made) (loading : List Made) (loaded : List Bool) (r : M.ReadyVariables)
    (s' : State) (calls' : List Made) (answers' : List Bool) (crashing' : Made) (loading' : List Made) (loaded' : List Bool) (q : M.ReadyVariables)
    → (h : LoadedStore (code_store g) past.left s calls answers crashing loading loaded r)
    → (k : LoadedStore (code_store g) past'.left s' calls' answers' crashing' loading' loaded' q)
    → Demand3 h.end k.end
    (shown format (ledger_since g format limits first loc i past (map (code_store g).call calls) answers (map (code_store g).call loading) loaded))
    (shown format (ledger_since g format limits first loc i past' (map (code_store g).call calls') answers' (map (code_store g).call loading') loaded'))
code_earlier_demand_3 g first loc i past past' s calls answers crashing loading loaded r s' calls' answers' crashing' loading' loaded' q h k =
    let t = earlier_two_stores g first loc i past past' (code_store g) (code_store g) s calls answers crashing loading loaded r s' calls' answers' crashing' loading' loaded' q h k in
    let a = loaded_ready g h.end r h.ready in
    let b = loaded_ready g k.end q k.ready in
    record {
      first_ready = a.0;
      second_ready = b.0;
      equal = (
        (λ same. t.equal.0 (sym a.1 ∙ same_seen _ _ _ _ _ _ same ∙ b.1)),
        (λ ledgers.
            seen_same _ _ _ _ _ _ (loaded_which g past.left s calls answers crashing loading loaded r h a.0) (loaded_which g past'.left s' calls' answers' crashing' loading' loaded' q k b.0)
            (a.1 ∙ t.equal.1 ledgers ∙ sym b.1)),
      );
      first_shows = ap shows a.1 ∙ t.first_shows;
      second_shows = ap shows b.1 ∙ t.second_shows;
    }

pub code_demand_3 : (g : Geometry) (first : Y.Variables) (loc : Location) (i : Y.Init g first loc)
    (s : State) (calls : List Made) (answers : List Bool) (crashing : Made) (loading : List Made) (loaded : List Bool) (r : M.ReadyVariables)
    (s' : State) (calls' : List Made) (answers' : List Bool) (crashing' : Made) (loading' : List Made) (loaded' : List Bool) (q : M.ReadyVariables)
    → (h : LoadedStore (code_store g) first s calls answers crashing loading loaded r)
    → (k : LoadedStore (code_store g) first s' calls' answers' crashing' loading' loaded' q)
    → Demand3 h.end k.end
    (shown format (ledger_of g format first loc i (map (code_store g).call calls) answers (map (code_store g).call loading) loaded))
    (shown format (ledger_of g format first loc i (map (code_store g).call calls') answers' (map (code_store g).call loading') loaded'))
code_demand_3 g first loc i = code_earlier_demand_3 g first loc i (no_past g format limits first) (no_past g format limits first)

-- From `Init`, nothing that the code loads is of zeros only.
pub code_none_blank : (g : Geometry) (first : Y.Variables) (loc : Location) (i : Y.Init g first loc)
    (s : State) (calls : List Made) (answers : List Bool) (crashing : Made) (loading : List Made) (loaded : List Bool) (r : M.ReadyVariables)
    → (h : LoadedStore (code_store g) first s calls answers crashing loading loaded r) → none_blank (ready_seen h.end).replay_journal ≡ true
code_none_blank g first loc i s calls answers crashing loading loaded r h =
    ap (λ (q : M.ReadyVariables). none_blank q.replay_journal) (loaded_ready g h.end r h.ready).1
    ∙ none_blank_loaded g first loc i (map (code_store g).call calls) answers (map (code_store g).call loading) loaded r
    (store_loaded g format limits (code_store g) first s calls answers crashing loading loaded r h)
