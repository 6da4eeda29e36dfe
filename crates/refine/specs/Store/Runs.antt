-- Whole lists of calls. A store that was reached is still reached after any list of its own calls, refused and nonsensical ones included; so from
-- `Init` on, no call is ever turned away by question 1 or question 2 of what the calls left.
use Rattle.std.specs.Prelude.{ℕ, Bool, true, false, ◌≡◌}
use Rattle.std.proofs.Common.{sym, ◌∙◌}
use Rattle.std.proofs.Math.Path.{subst}
use mathlib.Core.List.{List, [], ◌∷◌, map}
use Rattle.layout.specs.declared.Geometry.{Geometry}
use Rattle.layout.specs.declared.Location.{Location}
use Rattle.codec.specs.Format.{format}
use Rattle.source.specs.JournalSystem as Y
use Rattle.source.specs.JournalSystem.{superblock_of_disk}
use Rattle.history.specs.Ledger.{Ledger, begin, tell, books}
use Rattle.history.specs.Statement.{Ran}
use Rattle.history.proofs.Whole.First.{first_parity}
use Rattle.requests.specs.Slots.{Slots}
use Rattle.store.specs.declared.Store.{Store}
use Rattle.store.specs.Lent.{Lent, machine_lent, ask_store}
use Rattle.calls.specs.Step.{stepped}
use Rattle.refine.specs.Disk.View as disk
use Rattle.refine.specs.Machine.MachineView.{MachineLent}
use Rattle.refine.specs.Store.Seen.{seen}
use Rattle.refine.specs.Store.Sound.{store_takes, store_refused}
use Rattle.refine.specs.Store.History.{State, Made, Promise, taken_next, refused_number, code_store}
use Rattle.refine.specs.Store.Fresh.{fresh, fresh_sized}
use Rattle.refine.specs.Store.Reach.{StoreReached, reached_asks, reached_fresh, reach_step}

module _ (g : Geometry) (p : ℕ) where
  -- a state, with its ledger
  abbrev pub StateReached : State → Ledger → Type 0
  StateReached s l = StoreReached g p s.lent s.store l

  next_reached : (s : State) (x : Made) (t : State) (l : Ledger) → StateReached s l → Promise g s x true t → StateReached t (tell g format ((code_store g).call x) l)
  next_reached s x t l r h =
      let a = taken_next (stepped g s.lent x.given s.store x.step).answer h.taken_is in
      subst (λ (u : Lent × Store). StoreReached g p u.0 u.1 (tell g format ((code_store g).call x) l))
      (λ i. (sym h.lent_is i, sym h.store_is i))
      (reach_step g p s.lent x.given s.store l x.step a.0 r a.1
      (store_takes g s.lent x.given s.store s.sized x.step a.0 a.1))

  same_reached : (s : State) (x : Made) (t : State) (l : Ledger) → StateReached s l → Promise g s x false t → StateReached t l
  same_reached s x t l r h =
      let a = refused_number (stepped g s.lent x.given s.store x.step).answer h.taken_is in
      let k = store_refused g s.lent x.given s.store x.step a.0 a.1 in
      subst (λ (u : Lent × Store). StoreReached g p u.0 u.1 l) (λ i. (sym (h.lent_is ∙ k.1) i, sym (h.store_is ∙ k.0) i)) r

  pub run_reached : (s t : State) (l : Ledger) (xs : List Made) (bs : List Bool) → StateReached s l → Ran (code_store g) s xs bs t
      → StateReached t (books g format l (map (code_store g).call xs) bs)
  unfolding books
  run_reached s t l [] [] r h = subst (λ u. StateReached u l) (sym h) r
  run_reached s t l [] (b ∷ bs) r h = absurd h
  run_reached s t l (x ∷ xs) [] r h = absurd h
  run_reached s t l (x ∷ xs) (true ∷ bs) r h = run_reached h.0 t (tell g format ((code_store g).call x) l) xs bs (next_reached s x h.0 l r h.1) h.2
  run_reached s t l (x ∷ xs) (false ∷ bs) r h = run_reached h.0 t l xs bs (same_reached s x h.0 l r h.1) h.2

-- `Store::initial`, with whatever memory of the right lengths is lent to it
abbrev pub begun : Slots → Lent → State
begun slots l = record { store = fresh slots; lent = l; sized = fresh_sized slots }

-- from `Init`, whatever calls were made, questions 1 and 2 are answered yes
pub never_turned_away : (g : Geometry) (l : Lent) (slots : Slots) (loc : Location) → MachineLent g (machine_lent l) → disk.Lent g l.blocks l.marks
    → Y.Init g (seen g l (fresh slots)) loc → (calls : List Made) (answers : List Bool) (t : State) → Ran (code_store g) (begun slots l) calls answers t
    → ask_store g t.lent t.store ≡ 0
never_turned_away g l slots loc m d i calls answers t h =
    let first : Y.Variables = seen g l (fresh slots) in
    let parity : ℕ = first_parity g format first loc i in
    let b : Ledger = begin (superblock_of_disk g first.disk i.wf) in
    reached_asks g parity t.lent t.store (books g format b (map (code_store g).call calls) answers)
    (run_reached g parity (begun slots l) t b calls answers (reached_fresh g l slots loc m d i) h)
