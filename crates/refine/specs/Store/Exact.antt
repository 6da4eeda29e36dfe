-- Demand 2 of the store, call by call: a call is taken wherever the sources and departures allow, within the limits, an event that it can stand for,
-- whatever else it brings along; so a call that is refused is allowed nothing. With `store_takes` it is taken exactly there.
use Rattle.std.specs.Prelude.{ℕ, suc, zero, ◌<◌, Bool, true, false, cond, ◌⊎◌, ◌≡◌, List, leb, length, None, Some, Err}
use Rattle.std.proofs.Common.{inl, inr, ⊎_elim, sym, ◌∙◌, ap, subst, arith, leb-true}
use Rattle.std.proofs.Math.Path.{refl}
use Rattle.std.proofs.lemmas.Bool.{lt-leb}
use Rattle.laws.specs.Choice.{also, also_left, also_right}
use Rattle.refusal.specs.declared.Refusal.{Refusal}
use Rattle.layout.specs.declared.Geometry.{Geometry}
use Rattle.range.specs.Memory.{view, total, length_view}
use Rattle.codec.specs.Codec.{JournalEntry}
use Rattle.codec.specs.Format.{format}
use Rattle.journal.specs.Memory.{ask_journal}
use Rattle.journal.specs.Asked.{asked_journal}
use Rattle.journal.specs.Cells.{cells}
use Rattle.source.specs.JournalDisk as D
use Rattle.source.specs.JournalCache.{AdvanceStep, ReplayStep}
use Rattle.source.specs.JournalSystem as Y
use Rattle.source.specs.Limits.{limits}
use Rattle.source.specs.Departures.{Event, MachineStep, Source, CrashStep, Allowed}
use Rattle.source.specs.Within.{Within}
use Rattle.history.specs.Ledger as ledger
use Rattle.history.specs.Ledger.{Call}
use Rattle.history.specs.Statement.{Tied, tied_add, tied_replay}
use Rattle.history.proofs.Calls.Called.{called_once, nonsense_refused}
use Rattle.requests.specs.Laws.Pairs.{which_of}
use Rattle.loading.specs.Which.{is_second}
use Rattle.store.specs.declared.Store.{Store}
use Rattle.store.specs.Whole.{asked}
use Rattle.store.specs.Lent.{Lent}
use Rattle.calls.specs.declared.calls.Step.{Step}
use Rattle.calls.specs.declared.calls.Step.TheVariants as step
use Rattle.calls.specs.Given.{Given}
use Rattle.calls.specs.Step.{step_answer_with, step_lent_with, ask_picture, ask_step, stepped, stepped_lent}
use Rattle.refine.specs.Machine.ReadyForm as form
use Rattle.refine.specs.Store.Seen.{seen, SizedStore, named, entries_call, call_of}
use Rattle.refine.specs.Store.Plain.{entries_is}
use Rattle.refine.specs.Store.InPlace.{own_picture, own_crash, own_crash_lent}
use Rattle.refine.specs.Store.Done.{StoreForm, form_met, TakenTo}
use Rattle.refine.specs.Store.DoneWorking.{replay_taken}
use Rattle.refine.specs.Store.DoneCrash.{crash_taken}
use Rattle.refine.specs.Store.DoneAdding.{add_taken}
use Rattle.refine.specs.Store.Complete.{store_complete}
use Rattle.refine.specs.Store.History.{is_taken}
use Rattle.refine.specs.Store.Follows.{made}

-- does a step bring more along than its own numbers: entries, or a picture?
abbrev pub brings : Step → Bool
brings (step.WriteBackJournalReq id1 id2) = false
brings (step.WriteBackJournalResp id) = false
brings (step.AdvanceLog id) = false
brings (step.AdvanceLocation id) = false
brings (step.WriteBackSuperblockResp id) = false
brings (step.PageInJournalReq which id) = false
brings (step.PageInJournalResp id whole) = false
brings (step.PageInSuperblockReq which id) = false
brings (step.PageInSuperblockResp which id whole) = false
brings step.FinishLoadingSuperblockPhase = false
brings step.FinishLoadingOtherPhase = false
brings step.Freeze = false
brings (step.ReceiveFrozenLoc loc) = false
brings (step.Advance k) = true
brings (step.Replay k) = true
brings (step.PushSyncReq id) = false
brings (step.PopSyncReq id) = false
brings step.NoOp = false
brings (step.AskAgain which) = false
brings (step.Land which) = false
brings step.Crash = true
brings step.CrashInPlace = true

-- The call tells its step. Only the two crashes are heard alike.

no_sense : (which : ℕ) (call : Bool → Call) → 1 < which → named which call ≡ ledger.nonsense
no_sense which call h = ap (λ (b : Bool). cond b (call (is_second which)) ledger.nonsense) (lt-leb which 1 h)

named_tells : (which : ℕ) (call : Bool → Call) (back : ℕ → Step) → ((w : Bool) → (made (call w)).step ≡ back (which_of w)) → (named which call ≡ ledger.nonsense → ⊥)
    → (made (named which call)).step ≡ back which
named_tells zero call back f n = f false
named_tells (suc zero) call back f n = f true
named_tells (suc (suc which)) call back f n = absurd (n (no_sense (suc (suc which)) call (omega arith)))

entries_there : (brought sizes : List ℕ) (k : ℕ) (x : Call) → (entries_call brought sizes k x ≡ ledger.nonsense → ⊥) → form.Given brought sizes k
entries_there brought sizes k x n = by (also (leb k (length sizes)) (leb (total sizes k) (length brought))) refl
  where
    by : (b : Bool) → also (leb k (length sizes)) (leb (total sizes k) (length brought)) ≡ b → form.Given brought sizes k
    by true e = record { there = leb-true k (length sizes) (also_left _ _ e); fit = leb-true (total sizes k) (length brought) (also_right _ _ e) }
    by false e = absurd (n (ap (λ (b : Bool). cond b x ledger.nonsense) e))

entries_tell : (brought sizes : List ℕ) (k : ℕ) (call : List JournalEntry → Call) (back : ℕ → Step) → ((es : List JournalEntry) → (made (call es)).step ≡ back (length es))
    → (entries_call brought sizes k (call (view brought sizes k)) ≡ ledger.nonsense → ⊥)
    → (made (entries_call brought sizes k (call (view brought sizes k)))).step ≡ back k
entries_tell brought sizes k call back f n =
    let h = entries_there brought sizes k (call (view brought sizes k)) n in
    ap (λ (x : Call). (made x).step) (entries_is brought sizes k (call (view brought sizes k)) h) ∙ f (view brought sizes k) ∙ ap back (length_view brought sizes k h.there)

tells : (v : Given) (x : Step) → (call_of v x ≡ ledger.nonsense → ⊥) → ((made (call_of v x)).step ≡ x) ⊎ (x ≡ step.Crash)
tells v (step.WriteBackJournalReq id1 None) n = inl refl
tells v (step.WriteBackJournalReq id1 (Some id2)) n = inl refl
tells v (step.WriteBackJournalResp id) n = inl refl
tells v (step.AdvanceLog id) n = inl refl
tells v (step.AdvanceLocation id) n = inl refl
tells v (step.WriteBackSuperblockResp id) n = inl refl
tells v (step.PageInJournalReq which id) n = inl (named_tells which (λ w. ledger.read_journal w id) (λ w. step.PageInJournalReq w id) (λ w. refl) n)
tells v (step.PageInJournalResp id whole) n = inl refl
tells v (step.PageInSuperblockReq which id) n = inl (named_tells which (λ w. ledger.read_superblock w id) (λ w. step.PageInSuperblockReq w id) (λ w. refl) n)
tells v (step.PageInSuperblockResp which id whole) n =
    inl (named_tells which (λ w. ledger.superblock_read w id whole) (λ w. step.PageInSuperblockResp w id whole) (λ w. refl) n)
tells v step.FinishLoadingSuperblockPhase n = inl refl
tells v step.FinishLoadingOtherPhase n = inl refl
tells v step.Freeze n = inl refl
tells v (step.ReceiveFrozenLoc loc) n = inl refl
tells v (step.Advance k) n = inl (entries_tell v.brought v.sizes k ledger.add step.Advance (λ es. refl) n)
tells v (step.Replay k) n = inl (entries_tell v.brought v.sizes k ledger.replay step.Replay (λ es. refl) n)
tells v (step.PushSyncReq id) n = inl refl
tells v (step.PopSyncReq id) n = inl refl
tells v step.NoOp n = inl refl
tells v (step.AskAgain which) n = inl (named_tells which (λ w. ledger.ask_again w) (λ w. step.AskAgain w) (λ w. refl) n)
tells v (step.Land which) n = inl (named_tells which (λ w. ledger.land w) (λ w. step.Land w) (λ w. refl) n)
tells v step.Crash n = inr refl
tells v step.CrashInPlace n = inl refl

-- so two calls that are heard alike are of one step, where that brings nothing along
not_both : {A : Type 0} {x : Step} → brings x ≡ false → (y : Step) → brings y ≡ true → y ≡ x → A
not_both p y q e = absurd (subst (λ (b : Bool). cond b (Unit {0}) ⊥) (sym q ∙ ap brings e ∙ p) tt)

same_step : (v w : Given) (x y : Step) → brings x ≡ false → (call_of v x ≡ ledger.nonsense → ⊥) → call_of w y ≡ call_of v x → y ≡ x
same_step v w x y p n e =
    ⊎_elim
    (λ (hx : (made (call_of v x)).step ≡ x).
    ⊎_elim
    (λ (hy : (made (call_of w y)).step ≡ y). sym hy ∙ ap (λ (c : Call). (made c).step) e ∙ hx)
    (λ (hy : y ≡ step.Crash). not_both p step.CrashInPlace refl (ap (λ (c : Call). (made c).step) (ap (call_of w) (sym hy) ∙ e) ∙ hx))
    (tells w y (λ h. n (sym e ∙ h))))
    (λ (hx : x ≡ step.Crash). not_both p step.Crash refl (sym hx))
    (tells v x n)

module _ (g : Geometry) (l : Lent) (s : Store) where
  -- what such a step comes to doesn't depend on what is brought
  alike : (v w : Given) (x : Step) → brings x ≡ false → (stepped g l w s x ≡ stepped g l v s x) × (stepped_lent g l w s x ≡ stepped_lent g l v s x)
  unfolding stepped stepped_lent ask_step ask_picture step_answer_with step_lent_with asked
  alike v w (step.WriteBackJournalReq id1 id2) p = (refl, refl)
  alike v w (step.WriteBackJournalResp id) p = (refl, refl)
  alike v w (step.AdvanceLog id) p = (refl, refl)
  alike v w (step.AdvanceLocation id) p = (refl, refl)
  alike v w (step.WriteBackSuperblockResp id) p = (refl, refl)
  alike v w (step.PageInJournalReq which id) p = (refl, refl)
  alike v w (step.PageInJournalResp id whole) p = (refl, refl)
  alike v w (step.PageInSuperblockReq which id) p = (refl, refl)
  alike v w (step.PageInSuperblockResp which id whole) p = (refl, refl)
  alike v w step.FinishLoadingSuperblockPhase p = (refl, refl)
  alike v w step.FinishLoadingOtherPhase p = (refl, refl)
  alike v w step.Freeze p = (refl, refl)
  alike v w (step.ReceiveFrozenLoc loc) p = (refl, refl)
  alike v w (step.Advance k) p = not_both p (step.Advance k) refl refl
  alike v w (step.Replay k) p = not_both p (step.Replay k) refl refl
  alike v w (step.PushSyncReq id) p = (refl, refl)
  alike v w (step.PopSyncReq id) p = (refl, refl)
  alike v w step.NoOp p = (refl, refl)
  alike v w (step.AskAgain which) p = (refl, refl)
  alike v w (step.Land which) p = (refl, refl)
  alike v w step.Crash p = not_both p step.Crash refl refl
  alike v w step.CrashInPlace p = not_both p step.CrashInPlace refl refl

  -- a call that comes to what another comes to
  taken_alike : (v w : Given) (x y : Step) (t : Y.Variables) → stepped g l w s y ≡ stepped g l v s x → stepped_lent g l w s y ≡ stepped_lent g l v s x → TakenTo g l w s y t → TakenTo g l v s x t
  taken_alike v w x y t a b d =
      record {
        op = d.op;
        taken = sym (λ i. (a i).answer) ∙ d.taken;
        next = sym (λ i. seen g (b i) (a i).store) ∙ d.next;
      }

-- a call's picture: of a crash, lent blocks and marks that pass question 1 show it; of a crash in place the disk's own show it
pub record Pictured (g : Geometry) (l : Lent) (v : Given) (x : Step) (event : Event) : Type 0 where
  pub lent : x ≡ step.Crash → (ask_journal g v.picture v.pictured ≡ 0) × (event ≡ CrashStep (cells g v.picture v.pictured))
  pub own : x ≡ step.CrashInPlace → event ≡ CrashStep (cells g l.blocks l.marks)

-- the event of entries that a call brings
add_event : (es : List JournalEntry) (event : Event) → Tied (ledger.add es) event → event ≡ MachineStep D.NoDiskOp (Source (AdvanceStep es))
add_event es event tied_add = refl

replay_event : (es : List JournalEntry) (event : Event) → Tied (ledger.replay es) event → event ≡ MachineStep D.NoDiskOp (Source (ReplayStep es))
replay_event es event tied_replay = refl

module _ (g : Geometry) (l : Lent) (v : Given) (s : Store) (z : SizedStore s) (f : StoreForm g l s) (t : Y.Variables) (event : Event) where
  abbrev Fit : Type 0
  Fit = Allowed g format limits (seen g l s) t event × Within g limits t event

  -- no nonsense
  sense : (x : Step) → Tied (call_of v x) event → Fit → call_of v x ≡ ledger.nonsense → ⊥
  sense x h a e =
      nonsense_refused g format limits (seen g l s) t (record { event = event; tied = subst (λ (c : Call). Tied c event) e h; allowed = a.0 })

  -- a step that brings nothing, whatever is handed with it
  pub plain_taken : (x : Step) → brings x ≡ false → Tied (call_of v x) event → Fit → TakenTo g l v s x t
  plain_taken x p h a =
      let d = store_complete g l s z f t event a.0 a.1 in
      let e : d.call ≡ x = same_step v d.given x d.call p (sense x h a) (called_once _ _ event d.tied h) in
      let r = alike g l s v d.given x p in
      taken_alike g l s v d.given x x t r.0 r.1 (subst (λ (y : Step). TakenTo g l d.given s y t) e d.to)

  crash_at : (w : Given) → ask_journal g w.picture w.pictured ≡ 0 → event ≡ CrashStep (cells g w.picture w.pictured) → Fit → TakenTo g l w s step.Crash t
  crash_at w q e a = crash_taken g l s z f w q t (subst (Allowed g format limits (seen g l s) t) e a.0)

  pub call_complete : (x : Step) → Tied (call_of v x) event → Pictured g l v x event → Fit → TakenTo g l v s x t
  call_complete (step.WriteBackJournalReq id1 id2) h p a = plain_taken (step.WriteBackJournalReq id1 id2) refl h a
  call_complete (step.WriteBackJournalResp id) h p a = plain_taken (step.WriteBackJournalResp id) refl h a
  call_complete (step.AdvanceLog id) h p a = plain_taken (step.AdvanceLog id) refl h a
  call_complete (step.AdvanceLocation id) h p a = plain_taken (step.AdvanceLocation id) refl h a
  call_complete (step.WriteBackSuperblockResp id) h p a = plain_taken (step.WriteBackSuperblockResp id) refl h a
  call_complete (step.PageInJournalReq which id) h p a = plain_taken (step.PageInJournalReq which id) refl h a
  call_complete (step.PageInJournalResp id whole) h p a = plain_taken (step.PageInJournalResp id whole) refl h a
  call_complete (step.PageInSuperblockReq which id) h p a = plain_taken (step.PageInSuperblockReq which id) refl h a
  call_complete (step.PageInSuperblockResp which id whole) h p a = plain_taken (step.PageInSuperblockResp which id whole) refl h a
  call_complete step.FinishLoadingSuperblockPhase h p a = plain_taken step.FinishLoadingSuperblockPhase refl h a
  call_complete step.FinishLoadingOtherPhase h p a = plain_taken step.FinishLoadingOtherPhase refl h a
  call_complete step.Freeze h p a = plain_taken step.Freeze refl h a
  call_complete (step.ReceiveFrozenLoc loc) h p a = plain_taken (step.ReceiveFrozenLoc loc) refl h a
  call_complete (step.Advance k) h p a =
      let there = entries_there v.brought v.sizes k (ledger.add (view v.brought v.sizes k)) (sense (step.Advance k) h a) in
      let e = add_event (view v.brought v.sizes k) event
      (subst (λ (c : Call). Tied c event) (entries_is v.brought v.sizes k (ledger.add (view v.brought v.sizes k)) there) h) in
      (add_taken g l v s k z f there t D.NoDiskOp (subst (Allowed g format limits (seen g l s) t) e a.0) (subst (Within g limits t) e a.1)).0
  call_complete (step.Replay k) h p a =
      let there = entries_there v.brought v.sizes k (ledger.replay (view v.brought v.sizes k)) (sense (step.Replay k) h a) in
      let e = replay_event (view v.brought v.sizes k) event
      (subst (λ (c : Call). Tied c event) (entries_is v.brought v.sizes k (ledger.replay (view v.brought v.sizes k)) there) h) in
      (replay_taken g l s z f t D.NoDiskOp v k there (subst (Allowed g format limits (seen g l s) t) e a.0) (subst (Within g limits t) e a.1)).0
  call_complete (step.PushSyncReq id) h p a = plain_taken (step.PushSyncReq id) refl h a
  call_complete (step.PopSyncReq id) h p a = plain_taken (step.PopSyncReq id) refl h a
  call_complete step.NoOp h p a = plain_taken step.NoOp refl h a
  call_complete (step.AskAgain which) h p a = plain_taken (step.AskAgain which) refl h a
  call_complete (step.Land which) h p a = plain_taken (step.Land which) refl h a
  call_complete step.Crash h p a = let q = p.lent refl in crash_at v q.0 q.1 a
  call_complete step.CrashInPlace h p a =
      let own = (form_met g l s z f a.0.meets).disk.lent in
      taken_alike g l s v (own_picture l v) step.CrashInPlace step.Crash t (sym (own_crash g l v s)) (sym (own_crash_lent g l v s))
      (crash_at (own_picture l v) (asked_journal g l.blocks l.marks own.blocks_right own.marks_right) (p.own refl) a)

  -- a call that is refused is allowed nothing within the limits
  pub refused_unallowed : (x : Step) (q : Refusal) → (stepped g l v s x).answer ≡ Err q → Tied (call_of v x) event → Pictured g l v x event → Fit → ⊥
  refused_unallowed x q r h p a = absurd (subst (λ (b : Bool). cond b (Unit {0}) ⊥) (sym (ap is_taken (call_complete x h p a).taken) ∙ ap is_taken r) tt)
