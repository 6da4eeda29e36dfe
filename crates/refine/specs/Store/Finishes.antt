-- Request S-4 of the code: a store that loads comes up. From any state that its own calls, taken or refused, have led to from `Init`, the step that the
-- driver names is taken, and following it leads to Ready, in at most twelve steps; and so it does with sync requests made between.
use Prim.Native.Nat.{ℕ, zero, suc, ◌+◌, ◌≤◌}
use Rattle.std.specs.Prelude.{Bool, false, ◌≡◌, refl, List, [], ◌∷◌, ◌++◌, map, Ok, Err, Result}
use Rattle.std.proofs.Math.Bool.{true}
use Rattle.std.proofs.Common.{sym, ◌∙◌, subst, arith}
use Rattle.std.proofs.Math.Path.{ap}
use Rattle.laws.specs.Choice.{true_false, false_true, asked_yes, ruin}
use Rattle.laws.specs.Sets.{same_value}
use Rattle.refusal.specs.declared.Refusal.{Refusal}
use Rattle.refusal.specs.declared.Refusal.TheVariants as no
use Rattle.layout.specs.declared.Geometry.{Geometry}
use Rattle.layout.specs.declared.Location.{Location}
use Rattle.codec.specs.Format.{format}
use Rattle.source.specs.JournalSystem as Y
use Rattle.source.specs.JournalSystem.{superblock_of_disk}
use Rattle.source.specs.Limits.{limits}
use Rattle.source.proofs.Laws.Format.{limits_fit}
use Rattle.history.specs.Ledger.{Call, Ledger, begin, books}
use Rattle.history.specs.Statement.{Tied, Ran}
use Rattle.history.proofs.Whole.First.{first_parity}
use Rattle.history.proofs.Whole.Lists.{runs_append}
use Rattle.history.specs.Driver.{left}
use Rattle.history.proofs.Drive.Most.{left_most}
use Rattle.history.proofs.Drive.Named.{limits_rooms, Loading, driver_named, push_left, pop_left}
use Rattle.machine.specs.declared.Kind.{Kind}
use Rattle.machine.specs.declared.Kind.TheVariants as kind
use Rattle.machine.specs.declared.Machine.{Machine}
use Rattle.machine.specs.Lent as machine
use Rattle.store.specs.Lent.{machine_lent, ask_store}
use Rattle.calls.specs.declared.calls.Step.{Step}
use Rattle.calls.specs.declared.calls.Step.TheVariants as step
use Rattle.calls.specs.Given.{Given}
use Rattle.calls.specs.Step.{stepped, stepped_lent}
use Rattle.driver.specs.Driver.{loading_step, next_step}
use Rattle.driver.specs.Ids.{least_new}
use Rattle.refine.specs.Machine.MachineKinds.{of_kind}
use Rattle.refine.specs.Machine.MachineView.{machine_of}
use Rattle.refine.specs.Store.Seen.{seen, call_of}
use Rattle.refine.specs.Store.History.{State, Made, makes, Promise, is_taken, state_seen, code_store}
use Rattle.refine.specs.Store.Done.{TakenTo}
use Rattle.refine.specs.Store.Sized.{sized_step}
use Rattle.refine.specs.Store.Reach.{reached_asks, reached_first}
use Rattle.refine.specs.Store.Runs.{StateReached, run_reached}
use Rattle.refine.specs.Store.Exact.{plain_taken}
use Rattle.refine.specs.Store.Names.{loads, names, none_named}
use Rattle.refine.specs.Store.NewIds.{least_new_is}

-- The statement

-- a state that a store has come to, by any calls, taken or refused, from any state that passes questions 1 and 2 and is seen as `Init`
pub record FromInit (g : Geometry) (s : State) : Type 0 where
  pub first : State
  pub loc : Location
  pub passes : ask_store g first.lent first.store ≡ 0
  pub init : Y.Init g (state_seen g first) loc
  pub calls : List Made
  pub answers : List Bool
  pub ran : Ran (code_store g) first calls answers s

-- the driver's answer
abbrev pub driver_says : Geometry → State → Result Step Refusal
driver_says g s = next_step g s.lent s.store

-- n steps, each the one that the driver names, each taken, up to Ready, where it names none; v is whatever is handed with them
pub data DrivenTo (g : Geometry) (v : Given) : State → ℕ → State → Type 0 where
  up : {t : State} → t.store.machine.kind ≡ kind.Ready → driver_says g t ≡ Err no.Kind → DrivenTo g v t 0 t
  on : {s u t : State} {n : ℕ} {x : Step} → driver_says g s ≡ Ok x → Promise g s (makes v x) true u → DrivenTo g v u n t → DrivenTo g v s (suc n) t

pub record Finishes (g : Geometry) (v : Given) (s : State) : Type 0 where
  pub steps : ℕ
  pub few : steps ≤ 12
  pub exactly : steps ≡ left g (state_seen g s)
  pub end : State
  pub driven : DrivenTo g v s steps end

-- a sync request, or its answer
pub data IsSync : Step → Type 0 where
  push : (id : ℕ) → IsSync (step.PushSyncReq id)
  pop : (id : ℕ) → IsSync (step.PopSyncReq id)

-- n steps that the driver names, and any sync requests pushed and popped between them, each of either taken or refused
pub data Led (g : Geometry) (s : State) : ℕ → State → Type 0 where
  here : Led g s 0 s
  sync : {n : ℕ} {t u : State} {x : Made} {b : Bool} → Led g s n t → IsSync x.step → Promise g t x b u → Led g s n u
  named : {n : ℕ} {t u : State} {x : Made} {b : Bool} → Led g s n t → driver_says g t ≡ Ok x.step → Promise g t x b u → Led g s (suc n) u

-- One step

-- a machine that loads, as it is seen
seen_loading : (g : Geometry) (l : machine.Lent) (m : Machine) → loads m.kind ≡ true → Loading (machine_of g l m)
seen_loading g l m = go m.kind
  where
    go : (k : Kind) → loads k ≡ true → Loading (machine_of g l (of_kind m k))
    go kind.LoadingSuperblock e = tt
    go kind.LoadingOther e = tt
    go kind.Ready e = false_true e

module _ (g : Geometry) (p : ℕ) where
  -- the step that the driver names is taken, and one less is left
  record Taken (s : State) (v : Given) : Type 0 where
    step : Step
    named : driver_says g s ≡ Ok step
    next : State
    promise : Promise g s (makes v step) true next
    ledger : Ledger
    reached : StateReached g p next ledger
    one_less : left g (state_seen g s) ≡ suc (left g (state_seen g next))

  -- questions 1 and 2 pass what was reached
  says : (s : State) (l : Ledger) → StateReached g p s l → driver_says g s ≡ loading_step g s.store
  unfolding next_step
  says s l r = asked_yes _ _ _ (reached_asks g p s.lent s.store l r)

  named_taken : (s : State) (l : Ledger) → StateReached g p s l → loads s.store.machine.kind ≡ true → (v : Given) → Taken s v
  unfolding books
  named_taken s l r k v =
      let w = names g (machine_lent s.lent) v s.store.machine s.store.disk k in
      let x : Step = w.step in
      let new = least_new_is g s.lent.blocks s.lent.marks s.store.disk s.sized.disk in
      let n =
      driver_named g format limits limits_fit limits_rooms r.form.machine_lent_is.geometry p (state_seen g s).machine (state_seen g s).disk l (least_new s.store.disk) r.reached new
      (seen_loading g (machine_lent s.lent) s.store.machine k) in
      let e : n.call ≡ call_of v x = same_value n.named w.heard in
      let t : TakenTo g s.lent v s.store x n.next =
      plain_taken g s.lent v s.store s.sized r.form n.next n.takes.event x w.plain (subst (λ (c : Call). Tied c n.takes.event) e n.takes.tied) (n.takes.allowed, n.within)
      in
      let u : State =
      record { store = (stepped g s.lent v s.store x).store; lent = stepped_lent g s.lent v s.store x; sized = sized_step g s.lent v s.store s.sized x }
      in
      let promise : Promise g s (makes v x) true u = record { store_is = refl; lent_is = refl; taken_is = ap is_taken (sym t.taken) } in
      record {
        step = x;
        named = says s l r ∙ w.named;
        next = u;
        promise = promise;
        ledger = books g format l (map (code_store g).call (makes v x ∷ [])) (true ∷ []);
        reached = run_reached g p s u l (makes v x ∷ []) (true ∷ []) r (u, promise, refl);
        one_less = n.one_less ∙ ap (λ (y : Y.Variables). suc (left g y)) (sym t.next);
      }

  -- a store that loads has something left, and one at Ready has nothing
  some_left : (s : State) → loads s.store.machine.kind ≡ true → 1 ≤ left g (state_seen g s)
  some_left s = go s.store.machine.kind
    where
      go : (k : Kind) → loads k ≡ true → 1 ≤ left g (seen g s.lent (record { machine = of_kind s.store.machine k; disk = s.store.disk }))
      go kind.LoadingSuperblock e = omega arith
      go kind.LoadingOther e = omega arith
      go kind.Ready e = false_true e

  none_left : (s : State) → loads s.store.machine.kind ≡ false → left g (state_seen g s) ≡ 0
  none_left s = go s.store.machine.kind
    where
      go : (k : Kind) → loads k ≡ false → left g (seen g s.lent (record { machine = of_kind s.store.machine k; disk = s.store.disk })) ≡ 0
      go kind.LoadingSuperblock e = true_false e
      go kind.LoadingOther e = true_false e
      go kind.Ready e = refl

  is_ready : (k : Kind) → loads k ≡ false → k ≡ kind.Ready
  is_ready kind.LoadingSuperblock e = true_false e
  is_ready kind.LoadingOther e = true_false e
  is_ready kind.Ready e = refl

  -- Whole loads

  record Rest (v : Given) (s : State) (n : ℕ) : Type 0 where
    end : State
    driven : DrivenTo g v s n end

  module _ (v : Given) where
    abbrev All : ℕ → Type 0
    All n = (s : State) (l : Ledger) → StateReached g p s l → left g (state_seen g s) ≡ n → Rest v s n

    all_none : All zero
    all_none s l r h = by (loads s.store.machine.kind) refl
      where
        by : (b : Bool) → loads s.store.machine.kind ≡ b → Rest v s zero
        by true k = let a = some_left s k in absurd (omega (arith, a, h))
        by false k =
            record {
              end = s;
              driven = up (is_ready s.store.machine.kind k) (says s l r ∙ none_named g s.store.machine s.store.disk k);
            }

    all_one_more : (n : ℕ) → All n → All (suc n)
    all_one_more n rest s l r h = by (loads s.store.machine.kind) refl
      where
        by : (b : Bool) → loads s.store.machine.kind ≡ b → Rest v s (suc n)
        by true k =
            let t = named_taken s l r k v in
            let c = rest t.next t.ledger t.reached (let a = t.one_less in omega (arith, a, h)) in
            record { end = c.end; driven = on t.named t.promise c.driven }
        by false k = let a = none_left s k in absurd (omega (arith, a, h))

    all : (n : ℕ) → All n
    all zero = all_none
    all (suc n) = all_one_more n (all n)

    finishes : (s : State) (l : Ledger) → StateReached g p s l → Finishes g v s
    finishes s l r =
        let c = all (left g (state_seen g s)) s l r refl in
        record { steps = left g (state_seen g s); few = left_most g (state_seen g s).machine (state_seen g s).disk.superblocks; exactly = refl; end = c.end; driven = c.driven }

  -- With sync requests between

  sync_left : (t u : State) (x : Step) (v : Given) (b : Bool) → IsSync x → Promise g t (makes v x) b u → left g (state_seen g u) ≡ left g (state_seen g t)
  sync_left t u x v false i h = ap (left g) ((code_store g).refused t (makes v x) u h)
  sync_left t u x v true (push id) h =
      push_left g format limits (state_seen g t) (state_seen g u) id ((code_store g).sound t (makes v (step.PushSyncReq id)) u h)
  sync_left t u x v true (pop id) h =
      pop_left g format limits (state_seen g t) (state_seen g u) id ((code_store g).sound t (makes v (step.PopSyncReq id)) u h)

  -- a named step is taken, and one less is left
  names_loads : (t : State) (l : Ledger) → StateReached g p t l → (x : Step) → driver_says g t ≡ Ok x → loads t.store.machine.kind ≡ true
  names_loads t l r x e = by (loads t.store.machine.kind) refl
    where
      by : (b : Bool) → loads t.store.machine.kind ≡ b → loads t.store.machine.kind ≡ true
      by true k = k
      by false k = let z : Ok x ≡ Err no.Kind = sym e ∙ says t l r ∙ none_named g t.store.machine t.store.disk k in ruin (cc)

  named_left : (t u : State) (x : Step) (v : Given) (b : Bool) (l : Ledger) → StateReached g p t l → driver_says g t ≡ Ok x → Promise g t (makes v x) b u
      → (b ≡ true) × (left g (state_seen g t) ≡ suc (left g (state_seen g u)))
  named_left t u x v b l r e h = (h.taken_is ∙ sym q.taken_is, a.one_less ∙ ap (λ (y : Y.Variables). suc (left g y)) (sym same))
    where
      a : Taken t v
      a = named_taken t l r (names_loads t l r x e) v

      is : a.step ≡ x
      is = let n = a.named in cc

      q : Promise g t (makes v x) true a.next
      q = subst (λ (y : Step). Promise g t (makes v y) true a.next) is a.promise

      same : state_seen g u ≡ state_seen g a.next
      same = λ i. seen g ((h.lent_is ∙ sym q.lent_is) i) ((h.store_is ∙ sym q.store_is) i)

  record Coming (s : State) (n : ℕ) (t : State) : Type 0 where
    ledger : Ledger
    reached : StateReached g p t ledger
    counts : n + left g (state_seen g t) ≡ left g (state_seen g s)

  led_coming : (s : State) (l : Ledger) → StateReached g p s l → {n : ℕ} {t : State} → Led g s n t → Coming s n t
  led_coming s l r here = record { ledger = l; reached = r; counts = omega arith }
  led_coming s l r (sync {n = n} {t = t} {u = u} {x = x} {b = b} k i h) =
      let c = led_coming s l r k in
      let e = sync_left t u x.step x.given b i h in
      let f = c.counts in
      record {
        ledger = books g format c.ledger (map (code_store g).call (x ∷ [])) (b ∷ []);
        reached = run_reached g p t u c.ledger (x ∷ []) (b ∷ []) c.reached (u, h, refl);
        counts = omega (arith, e, f);
      }
  led_coming s l r (named {n = n} {t = t} {u = u} {x = x} {b = b} k e h) =
      let c = led_coming s l r k in
      let a = (named_left t u x.step x.given b c.ledger c.reached e h).1 in
      let f = c.counts in
      record {
        ledger = books g format c.ledger (map (code_store g).call (x ∷ [])) (b ∷ []);
        reached = run_reached g p t u c.ledger (x ∷ []) (b ∷ []) c.reached (u, h, refl);
        counts = omega (arith, a, f);
      }

-- further calls
pub from_on : (g : Geometry) (s t : State) (calls : List Made) (answers : List Bool) → FromInit g s → Ran (code_store g) s calls answers t → FromInit g t
from_on g s t calls answers from h =
    record {
      first = from.first;
      loc = from.loc;
      passes = from.passes;
      init = from.init;
      calls = from.calls ++ calls;
      answers = from.answers ++ answers;
      ran = runs_append (Promise g) from.first s t from.calls from.answers calls answers from.ran h;
    }

pub from_reached : (g : Geometry) (s : State) → FromInit g s → (p : ℕ) × (l : Ledger) × StateReached g p s l
from_reached g s from =
    let first : Y.Variables = state_seen g from.first in
    let p : ℕ = first_parity g format first from.loc from.init in
    let l : Ledger = begin (superblock_of_disk g first.disk from.init.wf) in (
      p,
      books g format l (map (code_store g).call from.calls) from.answers,
      run_reached g p from.first s l from.calls from.answers
          (reached_first g from.first.lent from.first.store from.loc from.first.sized from.passes from.init) from.ran,
    )

-- The theorems, for every geometry and from every state that a store has come to from `Init`

module _ (g : Geometry) (s : State) (from : FromInit g s) where
  -- following the driver leads to Ready in at most twelve steps, and no step that it names is refused
  pub loading_finishes : (v : Given) → Finishes g v s
  loading_finishes v = let r = from_reached g s from in finishes g r.0 v s r.1 r.2

  -- whatever sync requests are made between, taken or refused: what was named and what is left are together as many as were left,
  pub led_counts : {n : ℕ} {t : State} → Led g s n t → n + left g (state_seen g t) ≡ left g (state_seen g s)
  led_counts k = let r = from_reached g s from in (led_coming g r.0 s r.1 r.2 k).counts

  -- so at most twelve steps are named,
  pub led_twelve : {n : ℕ} {t : State} → Led g s n t → n ≤ 12
  led_twelve k =
      let c = led_counts k in
      let m = left_most g (state_seen g s).machine (state_seen g s).disk.superblocks in
      omega (arith, c, m)

  -- none of them is refused, whatever is handed with it,
  pub led_taken : {n : ℕ} {t u : State} {x : Made} {b : Bool} → Led g s n t → driver_says g t ≡ Ok x.step → Promise g t x b u → b ≡ true
  led_taken {t = t} {u = u} {x = x} {b = b} k e h =
      let r = from_reached g s from in
      let c = led_coming g r.0 s r.1 r.2 k in
      (named_left g r.0 t u x.step x.given b c.ledger c.reached e h).0

  -- and from wherever they have led the rest finishes
  pub led_finishes : {n : ℕ} {t : State} → Led g s n t → (v : Given) → Finishes g v t
  led_finishes {t = t} k v =
      let r = from_reached g s from in
      let c = led_coming g r.0 s r.1 r.2 k in
      finishes g r.0 v t c.ledger c.reached
