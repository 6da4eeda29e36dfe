-- Request S-2 of the code, of the store's own table of sync requests: State1 means that a landing covered what was added before the push; and a save
-- with nothing new entered is done.
use Rattle.std.specs.Prelude.{ℕ, zero, suc, ◌≤◌, Bool, true, false, cond, not, ◌≡◌, refl, List, [], ◌∷◌, map, leb, eqb, take, drop}
use Rattle.std.proofs.Common.{sym, ◌∙◌, ap, subst, arith}
use Rattle.std.proofs.Math.Option.{some}
use Rattle.laws.specs.Choice.{ruin}
use Rattle.laws.specs.Sets.{empty_ids, ids_of, Map}
use Rattle.layout.specs.declared.Geometry.{Geometry}
use Rattle.layout.specs.declared.Location.{Location}
use Rattle.range.specs.Memory.{view, view_none}
use Rattle.codec.specs.Codec.{JournalEntry}
use Rattle.codec.specs.Format.{format}
use Rattle.source.specs.JournalCache as M
use Rattle.source.specs.JournalCache.{SyncReqStatus, State1, sync_reqs_of}
use Rattle.source.specs.JournalSystem as Y
use Rattle.source.specs.JournalSystem.{superblock_of_disk}
use Rattle.source.specs.Limits.{limits}
use Rattle.source.specs.Departures.{Event}
use Rattle.history.specs.Ledger as ledger
use Rattle.history.specs.Ledger.{Call, begin}
use Rattle.history.specs.Statement.{Takes, Trace, Ran}
use Rattle.history.specs.Coverage.{first_page, said, Covered, Idle, Saved}
use Rattle.history.proofs.Sync.{store_sync_covered, idle_saved, idle_save}
use Rattle.history.proofs.Calls.Called.{nonsense_refused}
use Rattle.history.proofs.Whole.Stores.{ran_trace}
use Rattle.loading.specs.Which.{is_second}
use Rattle.ready.specs.declared.Entries.{Entries}
use Rattle.ready.specs.declared.Commit.TheVariants as commit
use Rattle.ready.specs.State.{commit_slot}
use Rattle.machine.specs.declared.Kind.TheVariants as kind
use Rattle.store.specs.declared.Store.{Store}
use Rattle.store.specs.Lent.{machine_lent, ask_store}
use Rattle.calls.specs.declared.calls.Step.{Step}
use Rattle.calls.specs.declared.calls.Step.TheVariants as step
use Rattle.calls.specs.Given.{Given}
use Rattle.calls.specs.Step.{stepped, stepped_lent}
use Rattle.refine.specs.Machine.ReadyView.{ReadyLent, write_of}
use Rattle.refine.specs.Machine.MachineView.{ready_lent, syncs_of}
use Rattle.refine.specs.Machine.MachineSync.{requests_seen}
use Rattle.refine.specs.Machine.MachineWork.{work_seen, work_form}
use Rattle.refine.specs.Store.Seen.{StoreMet, met_system, store_met, call_of, named}
use Rattle.refine.specs.Store.History.{State, Made, makes, Promise, is_taken, state_seen, code_store, ready_seen}
use Rattle.refine.specs.Store.Done.{StoreForm, met_form, TakenTo}
use Rattle.refine.specs.Store.Sized.{sized_step}
use Rattle.refine.specs.Store.Kept.{form_kept}
use Rattle.refine.specs.Store.Within.{Brings, takes_within}
use Rattle.refine.specs.Store.Follows.{Fits, meets_fits}
use Rattle.refine.specs.Store.Exact.{Pictured, call_complete}

-- a request of the view is the table's own
table : (g : Geometry) (s : State) (id : ℕ) → sync_reqs_of (state_seen g s).machine id ≡ syncs_of s.store.machine id
table g s id = ap (λ (x : Map SyncReqStatus). x id) (requests_seen g (machine_lent s.lent) s.store.machine)

-- of any list of calls with their answers, a sync request that the store's own table has at State1 was covered by a landing
pub code_sync_covered : (g : Geometry) (first : Y.Variables) (loc : Location) (i : Y.Init g first loc) (s : State) (calls : List Made) (answers : List Bool) (t : State)
    → state_seen g s ≡ first → Ran (code_store g) s calls answers t
    → (id : ℕ) → syncs_of t.store.machine id ≡ some State1
    → Covered g format (first_page (begin (superblock_of_disk g first.disk i.wf))) (said (map (code_store g).call calls) answers) id
code_sync_covered g first loc i s calls answers t e h id q =
    store_sync_covered g (code_store g) first loc i s calls answers t e h id (table g t id ∙ q)

-- A save with nothing new entered

-- by the store's own counts: at work, no entry pending, no journal write outstanding, no commit in flight
pub record IdleStore (s : Store) : Type 0 where
  pub at_work : s.machine.kind ≡ kind.Ready
  pub none_pending : s.machine.ready.entries.pending ≡ 0
  pub none_frozen_is : s.machine.ready.entries.frozen ≡ 0
  pub none_outstanding_is : s.machine.ready.writes.count ≡ 0
  pub no_commit_is : s.machine.ready.commit ≡ commit.CommitNone

-- a log commit under any id, its landing and its answer, whatever else is given with them
abbrev pub saving_calls : State → ℕ → (v1 v2 v3 : Given) → List Made
saving_calls s k v1 v2 v3 =
    makes v1 (step.AdvanceLog k) ∷ makes v2 (step.Land (commit_slot s.store.machine.ready)) ∷ makes v3 (step.WriteBackSuperblockResp k) ∷ []

-- the three are taken, and every sync request that was there is at State1
pub record CodeSaved (g : Geometry) (s : State) (k : ℕ) (v1 v2 v3 : Given) : Type 0 where
  pub end : State
  pub taken : Ran (code_store g) s (saving_calls s k v1 v2 v3) (true ∷ true ∷ true ∷ []) end
  pub done : (id : ℕ) (v : SyncReqStatus) → syncs_of s.store.machine id ≡ some v → syncs_of end.store.machine id ≡ some State1

-- an idle store is seen as one

no_entries : (n : ℕ) (es : List JournalEntry) → es ≡ [] → drop n es ≡ []
no_entries zero es e = e
no_entries (suc n) es e = ap (drop (suc n)) e

no_writes : (n : ℕ) (ids : List ℕ) → n ≡ 0 → ids_of (take n ids) ≡ empty_ids
unfolding ids_of
no_writes n ids e = ap (λ (k : ℕ). ids_of (take k ids)) e

idle_view : (g : Geometry) (s : State) → IdleStore s.store → ((state_seen g s).machine ≡ M.Variables.Ready (ready_seen s)) × Idle (ready_seen s)
idle_view g s h = (
  work_seen g (machine_lent s.lent) s.store.machine h.at_work,
  record {
    none_in_memory_is =
        no_entries e.frozen (view l.bytes l.lens e.pending) (ap (view l.bytes l.lens) h.none_pending ∙ view_none l.bytes l.lens);
    none_frozen_is = ap (view l.bytes l.lens) h.none_frozen_is ∙ view_none l.bytes l.lens;
    none_outstanding_is = no_writes s.store.machine.ready.writes.count s.store.machine.ready.writes.ids h.none_outstanding_is;
    no_commit_is = ap write_of h.no_commit_is;
  },
)
  where
    e : Entries
    e = s.store.machine.ready.entries

    l : ReadyLent
    l = ready_lent (machine_lent s.lent)

-- One call that is taken, over whatever is given with it

pub record NextBy (g : Geometry) (s : State) (x : Made) (t : Y.Variables) : Type 0 where
  pub next : State
  pub promise : Promise g s x true next
  pub form : StoreForm g next.lent next.store
  pub ends : state_seen g next ≡ t

take_call : (g : Geometry) (s : State) (v : Given) (x : Step) (t : Y.Variables) → StoreForm g s.lent s.store → Takes g format limits (state_seen g s) t (call_of v x) → Fits g t → Brings (call_of v x)
    → ((event : Event) → Pictured g s.lent v x event) → NextBy g s (makes v x) t
take_call g s v x t f h k b p =
    let w = takes_within g (state_seen g s) t f.machine_lent_is.geometry k.machine k.disk k.size k.block_size (call_of v x) h b in
    let d : TakenTo g s.lent v s.store x t = call_complete g s.lent v s.store s.sized f t w.0.event x w.0.tied (p w.0.event) (w.0.allowed, w.1) in
    record {
      next =
          record {
            store = (stepped g s.lent v s.store x).store;
            lent = stepped_lent g s.lent v s.store x;
            sized = sized_step g s.lent v s.store s.sized x;
          };
      promise = record { store_is = refl; lent_is = refl; taken_is = ap is_taken (sym d.taken) };
      form = form_kept g s.lent v s.store x d.op s.sized d.taken;
      ends = d.next;
    }

-- the slot that a commit writes, as a call names it
other_slot_is : (which : ℕ) → which ≤ 1 → named (cond (eqb which 0) 1 0) (λ w. ledger.land w) ≡ ledger.land (not (is_second which))
other_slot_is zero h = refl
other_slot_is (suc zero) h = refl
other_slot_is (suc (suc which)) h = absurd (omega (arith, h))

module _ (g : Geometry) (s : State) (q : ask_store g s.lent s.store ≡ 0) (idle : IdleStore s.store) (k : ℕ) (v1 v2 v3 : Given) where
  met : StoreMet g s.lent s.store s.sized
  met = store_met g s.lent s.store s.sized q

  formed : StoreForm g s.lent s.store
  formed = met_form g s.lent s.store s.sized met

  -- the slot of the commit
  abbrev slot : Bool
  slot = not (is_second s.store.machine.ready.whichSuperblock)

  abbrev landing : Step
  landing = step.Land (commit_slot s.store.machine.ready)

  landing_is : call_of v2 landing ≡ ledger.land slot
  landing_is = other_slot_is s.store.machine.ready.whichSuperblock (work_form g (machine_lent s.lent) s.store.machine idle.at_work formed.machine).which_in

  saves : Saved g format limits (state_seen g s) k slot
  saves =
      let i = idle_view g s idle in
      idle_save g met.machine.lent.geometry (state_seen g s) (ready_seen s) i.0 i.1 (met_system g s.lent s.store s.sized met) k

  -- the states that the three calls lead to over the relations
  abbrev asked : Y.Variables
  asked = saves.taken.0

  abbrev landed : Y.Variables
  landed = saves.taken.2.0

  abbrev answered : Y.Variables
  answered = saves.taken.2.2.0

  by_log : NextBy g s (makes v1 (step.AdvanceLog k)) asked
  by_log =
      take_call g s v1 (step.AdvanceLog k) asked formed saves.taken.1 (meets_fits g asked saves.taken.2.1.allowed.meets) tt
      (λ e. record { lent = λ p. ruin (cc); own = λ p. ruin (cc) })

  by_landing : NextBy g by_log.next (makes v2 landing) landed
  by_landing =
      take_call g by_log.next v2 landing landed by_log.form
      (subst (λ (c : Call). Takes g format limits (state_seen g by_log.next) landed c) (sym landing_is)
      (subst (λ (u : Y.Variables). Takes g format limits u landed (ledger.land slot)) (sym by_log.ends) saves.taken.2.1))
      (meets_fits g landed saves.taken.2.2.1.allowed.meets) (subst Brings (sym landing_is) tt) (λ e. record { lent = λ p. ruin (cc); own = λ p. ruin (cc) })

  by_answer : NextBy g by_landing.next (makes v3 (step.WriteBackSuperblockResp k)) answered
  by_answer =
      take_call g by_landing.next v3 (step.WriteBackSuperblockResp k) answered by_landing.form
      (subst (λ (u : Y.Variables). Takes g format limits u answered (ledger.superblock_written k)) (sym by_landing.ends) saves.taken.2.2.1)
      (subst (Fits g) saves.taken.2.2.2 (meets_fits g saves.end saves.meets)) tt (λ e. record { lent = λ p. ruin (cc); own = λ p. ruin (cc) })

  -- From any store that questions 1 and 2 pass, handed ones too, whatever the commit's id
  pub code_idle_save : CodeSaved g s k v1 v2 v3
  code_idle_save =
      record {
        end = by_answer.next;
        taken = (by_log.next, by_log.promise, (by_landing.next, by_landing.promise, (by_answer.next, by_answer.promise, refl)));
        done = λ id v e.
            sym (table g by_answer.next id)
            ∙ ap (λ (x : Y.Variables). sync_reqs_of x.machine id) (by_answer.ends ∙ sym saves.taken.2.2.2)
            ∙ saves.done id v (table g s id ∙ e);
      }

-- On an idle store, after a push, a log commit, a landing and the commit's answer, all accepted, the request is at State1
pub code_idle_saved : (g : Geometry) (s t : State) → IdleStore s.store → (id k w : ℕ) (v v1 v2 v3 : Given)
    → Ran (code_store g) s (makes v (step.PushSyncReq id) ∷ makes v1 (step.AdvanceLog k) ∷ makes v2 (step.Land w) ∷ makes v3 (step.WriteBackSuperblockResp k) ∷ []) (true ∷ true ∷ true ∷ true ∷ []) t
    → syncs_of t.store.machine id ≡ some State1
code_idle_saved g s t idle id k w v v1 v2 v3 h = sym (table g t id) ∙ by (leb w 1) refl
  where
    landing : (b : Bool) → leb w 1 ≡ b → named w (λ x. ledger.land x) ≡ cond b (ledger.land (is_second w)) ledger.nonsense
    landing b e = ap (λ (c : Bool). cond c (ledger.land (is_second w)) ledger.nonsense) e

    ran : Trace g format limits (state_seen g s) (ledger.push_sync id ∷ ledger.commit_log k ∷ named w (λ x. ledger.land x) ∷ ledger.superblock_written k ∷ []) (true ∷ true ∷ true ∷ true ∷ []) (state_seen g t)
    ran =
        ran_trace g format limits (code_store g) s (makes v (step.PushSyncReq id) ∷ makes v1 (step.AdvanceLog k) ∷ makes v2 (step.Land w) ∷ makes v3 (step.WriteBackSuperblockResp k) ∷ [])
        (true ∷ true ∷ true ∷ true ∷ []) t h

    by : (b : Bool) → leb w 1 ≡ b → sync_reqs_of (state_seen g t).machine id ≡ some State1
    by true e =
        let i = idle_view g s idle in
        idle_saved g (state_seen g s) (state_seen g t) (ready_seen s) i.0 i.1 id k (is_second w)
        (subst (λ (c : Call). Trace g format limits (state_seen g s) (ledger.push_sync id ∷ ledger.commit_log k ∷ c ∷ ledger.superblock_written k ∷ []) (true ∷ true ∷ true ∷ true ∷ []) (state_seen g t)) (landing true e) ran)
    by false e = absurd (nonsense_refused g format limits ran.2.0 ran.2.2.0 (subst (λ (c : Call). Takes g format limits ran.2.0 ran.2.2.0 c) (landing false e) ran.2.2.1))
