-- The relation through a list of calls with their answers, and through a load, which tells the ledger nothing.
use Rattle.std.specs.Prelude.{ℕ, Bool, true, false, ◌≡◌}
use Rattle.std.proofs.Math.Path.{refl, ap, subst}
use Rattle.std.proofs.Common.{sym, ◌∙◌}
use mathlib.Core.List.{List, [], ◌∷◌, ◌++◌}
use Rattle.layout.specs.declared.Geometry.{Geometry}
use Rattle.codec.specs.Codec.{Codec}
use Rattle.source.specs.JournalSystem as Y
use Rattle.source.specs.Limits.{Limits}
use Rattle.history.specs.Ledger.{Call, Ledger, tell, heard, books, shown}
use Rattle.history.specs.Statement.{Takes, Goes, Runs, Trace, loads, OnlyLoads}
use Rattle.history.proofs.Simulation.Relation.{Sim}
use Rattle.history.proofs.Simulation.Steps.{sim_step}
use Rattle.history.proofs.Whole.Reloaded.{Clean, clean_step, loads_tell}

-- What holds of a state and its ledger, through a list, whatever takes its calls, where a call that is taken keeps it
module _ (g : Geometry) (C : Codec) (takes : Y.Variables → Y.Variables → Call → Type 0) (I : Y.Variables → Ledger → Type 0)
    (keeps : (s t : Y.Variables) (l : Ledger) → I s l → (x : Call) → takes s t x → I t (tell g C x l)) where
  pub goes_by : (s t : Y.Variables) (l : Ledger) (x : Call) (b : Bool) → I s l → Goes takes s x b t → I t (heard g C b x l)
  goes_by s t l x true z h = keeps s t l z x h
  goes_by s t l x false z h = subst (λ (u : Y.Variables). I u l) (sym h) z

  pub run_by : (s t : Y.Variables) (l : Ledger) (xs : List Call) (bs : List Bool) → I s l → Runs (Goes takes) s xs bs t → I t (books g C l xs bs)
  unfolding books
  run_by s t l [] [] z h = subst (λ (u : Y.Variables). I u l) (sym h) z
  run_by s t l [] (b ∷ bs) z h = absurd h
  run_by s t l (x ∷ xs) [] z h = absurd h
  run_by s t l (x ∷ xs) (b ∷ bs) z h = run_by h.0 t (heard g C b x l) xs bs (goes_by s h.0 l x b z h.1) h.2

-- the relation to the ledger, as it goes with the states
abbrev pub Simulates : Geometry → Codec → ℕ → Y.Variables → Ledger → Type 0
Simulates g C p s l = Sim g C p s.machine s.disk l

module _ (g : Geometry) (C : Codec) (L : Limits) where
  pub sim_run : (p : ℕ) (s t : Y.Variables) (l : Ledger) (xs : List Call) (bs : List Bool) → Sim g C p s.machine s.disk l → Trace g C L s xs bs t → Sim g C p t.machine t.disk (books g C l xs bs)
  sim_run p = run_by g C (Takes g C L) (Simulates g C p) (sim_step g C L p)

  -- and through a load: the ledger stays, the machine is clean
  pub record Reloading (p : ℕ) (s : Y.Variables) (l : Ledger) : Type 0 where
    pub sim : Sim g C p s.machine s.disk l
    pub clean : Clean p s.machine (shown C l)

  kept_goes : (p : ℕ) (s t : Y.Variables) (l : Ledger) (x : Call) (b : Bool) → Reloading p s l → (b ≡ true → loads x ≡ true) → Goes (Takes g C L) s x b t → Reloading p t l
  kept_goes p s t l x true z f h =
      record { sim = subst (Sim g C p t.machine t.disk) (loads_tell g C x l (f refl)) (sim_step g C L p s t l z.sim x h); clean = clean_step g C L p s t l z.sim z.clean x (f refl) h }
  kept_goes p s t l x false z f h = subst (λ (u : Y.Variables). Reloading p u l) (sym h) z

  pub kept_run : (p : ℕ) (s t : Y.Variables) (l : Ledger) (xs : List Call) (bs : List Bool) → Reloading p s l → OnlyLoads xs bs → Trace g C L s xs bs t → Reloading p t l
  kept_run p s t l [] [] z f h = subst (λ (u : Y.Variables). Reloading p u l) (sym h) z
  kept_run p s t l [] (b ∷ bs) z f h = absurd h
  kept_run p s t l (x ∷ xs) [] z f h = absurd h
  kept_run p s t l (x ∷ xs) (b ∷ bs) z f h = kept_run p h.0 t l xs bs (kept_goes p s h.0 l x b z f.0 h.1) f.1 h.2

  -- a load tells the ledger nothing
  heard_loads : (l : Ledger) (x : Call) (b : Bool) → (b ≡ true → loads x ≡ true) → heard g C b x l ≡ l
  heard_loads l x true f = loads_tell g C x l (f refl)
  heard_loads l x false f = refl

  pub books_loads : (l : Ledger) (xs : List Call) (bs : List Bool) → OnlyLoads xs bs → books g C l xs bs ≡ l
  unfolding books
  books_loads l [] bs f = refl
  books_loads l (x ∷ xs) [] f = refl
  books_loads l (x ∷ xs) (b ∷ bs) f = ap (λ (k : Ledger). books g C k xs bs) (heard_loads l x b f.0) ∙ books_loads l xs bs f.1

-- lists one after another, whatever takes their calls
pub books_append : (g : Geometry) (C : Codec) (l : Ledger) (goes : Y.Variables → Call → Bool → Y.Variables → Type 0) (s t : Y.Variables) (xs : List Call) (bs : List Bool) (ys : List Call) (cs : List Bool)
    → Runs goes s xs bs t → books g C l (xs ++ ys) (bs ++ cs) ≡ books g C (books g C l xs bs) ys cs
unfolding books
books_append g C l goes s t [] [] ys cs h = refl
books_append g C l goes s t [] (b ∷ bs) ys cs h = absurd h
books_append g C l goes s t (x ∷ xs) [] ys cs h = absurd h
books_append g C l goes s t (x ∷ xs) (b ∷ bs) ys cs h = books_append g C (heard g C b x l) goes h.0 t xs bs ys cs h.2

pub runs_append : {S X : Type 0} (goes : S → X → Bool → S → Type 0) (s u t : S) (xs : List X) (bs : List Bool) (ys : List X) (cs : List Bool)
    → Runs goes s xs bs u → Runs goes u ys cs t → Runs goes s (xs ++ ys) (bs ++ cs) t
runs_append goes s u t [] [] ys cs h k = subst (λ v. Runs goes v ys cs t) h k
runs_append goes s u t [] (b ∷ bs) ys cs h k = absurd h
runs_append goes s u t (x ∷ xs) [] ys cs h k = absurd h
runs_append goes s u t (x ∷ xs) (b ∷ bs) ys cs h k = (h.0, h.1, runs_append goes h.0 u t xs bs ys cs h.2 k)
