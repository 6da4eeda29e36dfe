-- A list of calls with their answers, from a first disk that meets `Init`: whatever is at State1 at its end was covered by a landing.
use Rattle.std.specs.Prelude.{ℕ, Bool, true, false, ◌≡◌, refl, List, [], ◌∷◌, ◌++◌, map}
use Rattle.std.proofs.Common.{sym, ◌∙◌, ap, subst, append-nil, append_assoc}
use Rattle.std.proofs.Math.Option.{some}
use Rattle.laws.specs.Choice.{false_true}
use Rattle.laws.specs.Sets.{none_some}
use Rattle.layout.specs.declared.Geometry.{Geometry}
use Rattle.layout.specs.declared.Location.{Location}
use Rattle.codec.specs.Codec.{Codec}
use Rattle.source.specs.JournalCache as M
use Rattle.source.specs.JournalCache.{State1, sync_reqs_of}
use Rattle.source.specs.JournalSystem as Y
use Rattle.source.specs.JournalSystem.{superblock_of_disk}
use Rattle.source.specs.Limits.{Limits}
use Rattle.history.specs.Ledger.{Call, begin}
use Rattle.history.specs.Statement.{Takes, Goes, Trace, Store, Ran}
use Rattle.history.specs.Coverage.{Said, said, Page, first_page, turn, pages, Leaves, Covered}
use Rattle.history.proofs.Simulation.Relation.{Sim}
use Rattle.history.proofs.Simulation.Steps.{sim_step}
use Rattle.history.proofs.Whole.First.{first_parity, init_sim}
use Rattle.history.proofs.Whole.Stores.{ran_trace}
use Rattle.history.proofs.Covering.Lists.{pages_one}
use Rattle.history.proofs.Covering.Flow.{all_fresh}
use Rattle.history.proofs.Covering.Known.{carries_same, known_same}
use Rattle.history.proofs.Covering.Steps.{Knows, knows_step}

-- a refused call
abbrev no : Call → Said
no x = record { call = x; accepted = false }

refused_leaves : (x : Call) (id : ℕ) → Leaves id (no x)
refused_leaves x id e = false_true e

module _ (g : Geometry) (C : Codec) (L : Limits) (par : ℕ) (p₀ : Page) where
  pub record Tells (s : Y.Variables) (xs : List Said) (p : Page) : Type 0 where
    pub sim : Sim g C par s.machine s.disk p.ledger
    pub knows : Knows g C p₀ s.machine xs p

  tells_goes : (s t : Y.Variables) (xs : List Said) (p : Page) (x : Call) (b : Bool) → Tells s xs p → Goes (Takes g C L) s x b t
      → Tells t (xs ++ record { call = x; accepted = b } ∷ []) (turn g C (record { call = x; accepted = b }) p)
  tells_goes s t xs p x true k h = record { sim = sim_step g C L par s t p.ledger k.sim x h; knows = knows_step g C L par p₀ s t xs p k.sim k.knows x h }
  tells_goes s t xs p x false k h =
      subst (λ (u : Y.Variables). Tells u (xs ++ no x ∷ []) p) (sym h)
      (record {
        sim = k.sim;
        knows =
            record {
              page_is = pages_one g C p₀ xs (no x) ∙ k.knows.page_is;
              flow = k.knows.flow;
              known =
                  known_same g C p₀ xs (no x) p p s.machine s.machine (carries_same g C p₀ p s.machine s.machine refl) k.knows.known (refused_leaves x) refl;
            };
      })

  pub tells_run : (s t : Y.Variables) (xs : List Said) (p : Page) (ys : List Call) (bs : List Bool) → Tells s xs p → Trace g C L s ys bs t → (q : Page) × Tells t (xs ++ said ys bs) q
  tells_run s t xs p [] [] k h = (p, subst (λ (zs : List Said). Tells t zs p) (sym (append-nil xs)) (subst (λ (u : Y.Variables). Tells u xs p) (sym h) k))
  tells_run s t xs p [] (b ∷ bs) k h = absurd h
  tells_run s t xs p (y ∷ ys) [] k h = absurd h
  tells_run s t xs p (y ∷ ys) (b ∷ bs) k h =
      let r = tells_run h.0 t (xs ++ record { call = y; accepted = b } ∷ []) (turn g C (record { call = y; accepted = b }) p) ys bs (tells_goes s h.0 xs p y b k h.1) h.2 in
      (r.0, subst (λ (zs : List Said). Tells t zs r.0) (append_assoc xs (record { call = y; accepted = b } ∷ []) (said ys bs)) r.1)

module _ (g : Geometry) (C : Codec) (L : Limits) (first : Y.Variables) (loc : Location) (i : Y.Init g first loc) where
  abbrev pub first_book : Page
  first_book = first_page (begin (superblock_of_disk g first.disk i.wf))

  first_tells : Tells g C L (first_parity g C first loc i) first_book first [] first_book
  unfolding pages
  first_tells =
      record {
        sim = init_sim g C first loc i;
        knows =
            record {
              page_is = refl;
              flow = all_fresh first_book.ledger.kept;
              known = λ id v e. none_some (ap (λ (m : M.Variables). sync_reqs_of m id) i.machine) e;
            };
      }

  pub sync_covered : (calls : List Call) (answers : List Bool) (end : Y.Variables) → Trace g C L first calls answers end
      → (id : ℕ) → sync_reqs_of end.machine id ≡ some State1 → Covered g C first_book (said calls answers) id
  sync_covered calls answers end h id e = (tells_run g C L (first_parity g C first loc i) first_book first end [] first_book calls answers first_tells h).1.knows.known id State1 e

-- the same of any store whose calls are seen so
pub store_covered : (g : Geometry) (C : Codec) (L : Limits) (S : Store g C L) (first : Y.Variables) (loc : Location) (i : Y.Init g first loc) (s : S.State) (calls : List S.Made) (answers : List Bool) (t : S.State)
    → S.view s ≡ first → Ran S s calls answers t
    → (id : ℕ) → sync_reqs_of (S.view t).machine id ≡ some State1 → Covered g C (first_book g C L first loc i) (said (map S.call calls) answers) id
store_covered g C L S first loc i s calls answers t e h =
    sync_covered g C L first loc i (map S.call calls) answers (S.view t) (subst (λ (u : Y.Variables). Trace g C L u (map S.call calls) answers (S.view t)) e (ran_trace g C L S s calls answers t h))
