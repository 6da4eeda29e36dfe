-- Whole histories the other way: a history of the relations, in which a refused call is one that is not allowed, is a history of the code. So the
-- code's store isn't one that refuses, and what is shown to be there over the relations is there of the code.
use Rattle.std.specs.Prelude.{ℕ, Bool, true, false, ◌≡◌, refl, List, [], ◌∷◌, map, length, None, Some, Ok, Err, Result}
use Rattle.std.proofs.Common.{sym, ◌∙◌, ap, subst}
use Rattle.std.proofs.Math.Option.{none, some}
use Rattle.laws.specs.Cut.{flat, lengths}
use Rattle.refusal.specs.declared.Refusal.{Refusal}
use Rattle.layout.specs.declared.Geometry.{Geometry}
use Rattle.layout.specs.Geometry.{num_journal_blocks}
use Rattle.superblock.specs.declared.DiskOp.{DiskOp}
use Rattle.range.specs.Memory.{view}
use Rattle.codec.specs.Codec.{JournalEntry, Sized}
use Rattle.codec.specs.Format.{format}
use Rattle.source.specs.JournalSystem as Y
use Rattle.source.specs.Limits.{limits, MachineCounts, DiskCounts}
use Rattle.source.specs.Meets.{SystemMeets}
use Rattle.history.specs.Ledger as ledger
use Rattle.history.specs.Ledger.{Call}
use Rattle.history.specs.Statement.{Takes, Ran}
use Rattle.history.proofs.Calls.Called.{called_once}
use Rattle.requests.specs.Laws.Pairs.{which_of}
use Rattle.calls.specs.declared.calls.Step.{Step}
use Rattle.calls.specs.declared.calls.Step.TheVariants as step
use Rattle.calls.specs.Given.{given}
use Rattle.calls.specs.Step.{stepped, stepped_lent}
use Rattle.refine.specs.Machine.MachineEntries.{brought_view, brought_given}
use Rattle.refine.specs.Store.Seen.{call_of}
use Rattle.refine.specs.Store.Plain.{entries_is}
use Rattle.refine.specs.Store.Sound.{store_takes, store_refused}
use Rattle.refine.specs.Store.History.{State, Made, Promise, is_taken, state_seen, code_store}
use Rattle.refine.specs.Store.Done.{StoreForm, Done}
use Rattle.refine.specs.Store.Doing.{nothing}
use Rattle.refine.specs.Store.Complete.{store_complete}
use Rattle.refine.specs.Store.Sized.{sized_step}
use Rattle.refine.specs.Store.Kept.{form_kept}
use Rattle.refine.specs.Store.Within.{Brings, takes_within}

-- A history of the relations: a taken call is an allowed step, and a refused one is allowed to no state

abbrev pub Lived : Geometry → Y.Variables → List Call → List Bool → Y.Variables → Type 0
Lived g s [] [] t = t ≡ s
Lived g s [] (b ∷ bs) t = ⊥
Lived g s (x ∷ xs) [] t = ⊥
Lived g s (x ∷ xs) (true ∷ bs) t = (u : Y.Variables) × Takes g format limits s u x × Lived g u xs bs t
Lived g s (x ∷ xs) (false ∷ bs) t = ((u : Y.Variables) → Takes g format limits s u x → ⊥) × Lived g s xs bs t

-- the entries that its calls bring are few, and each fits
pub data AllBring : List Call → Type 0 where
  done : AllBring []
  ◌and◌ : {x : Call} {xs : List Call} → Brings x → AllBring xs → AllBring (x ∷ xs)

infixr 20 ◌and◌
-- a state within the limits
pub record Fits (g : Geometry) (t : Y.Variables) : Type 0 where
  pub machine : MachineCounts limits t.machine
  pub disk : DiskCounts limits t.disk
  pub size : length t.disk.journal ≡ num_journal_blocks g
  pub block_size : Sized t.disk.journal

pub meets_fits : (g : Geometry) (t : Y.Variables) → SystemMeets g limits t → Fits g t
meets_fits g t m = record { machine = m.machine.counts; disk = m.disk.counts; size = m.disk.shape.size; block_size = m.disk.shape.block_size }

pub lived_fits : (g : Geometry) (s t : Y.Variables) (xs : List Call) (bs : List Bool) → Lived g s xs bs t → Fits g t → Fits g s
lived_fits g s t [] [] h f = subst (Fits g) h f
lived_fits g s t [] (b ∷ bs) h f = absurd h
lived_fits g s t (x ∷ xs) [] h f = absurd h
lived_fits g s t (x ∷ xs) (true ∷ bs) h f = meets_fits g s h.1.allowed.meets
lived_fits g s t (x ∷ xs) (false ∷ bs) h f = lived_fits g s t xs bs h.1 f

-- Every call can be made

abbrev plain : Step → Made
plain x = record { step = x; given = nothing }

abbrev bringing : (List JournalEntry) → (ℕ → Step) → Made
bringing es x = record { step = x (length es); given = given (flat es) (lengths es) [] [] }

-- a call of the ledger's, as the code's
abbrev pub made : Call → Made
made (ledger.write_journal id1 none) = plain (step.WriteBackJournalReq id1 None)
made (ledger.write_journal id1 (some id2)) = plain (step.WriteBackJournalReq id1 (Some id2))
made (ledger.journal_written id) = plain (step.WriteBackJournalResp id)
made (ledger.commit_log id) = plain (step.AdvanceLog id)
made (ledger.commit_location id) = plain (step.AdvanceLocation id)
made (ledger.superblock_written id) = plain (step.WriteBackSuperblockResp id)
made (ledger.read_journal which id) = plain (step.PageInJournalReq (which_of which) id)
made (ledger.journal_read id whole) = plain (step.PageInJournalResp id whole)
made (ledger.read_superblock which id) = plain (step.PageInSuperblockReq (which_of which) id)
made (ledger.superblock_read which id whole) = plain (step.PageInSuperblockResp (which_of which) id whole)
made ledger.finish_superblocks = plain step.FinishLoadingSuperblockPhase
made ledger.finish_other = plain step.FinishLoadingOtherPhase
made ledger.freeze = plain step.Freeze
made (ledger.receive loc) = plain (step.ReceiveFrozenLoc loc)
made (ledger.add es) = bringing es step.Advance
made (ledger.replay es) = bringing es step.Replay
made (ledger.push_sync id) = plain (step.PushSyncReq id)
made (ledger.pop_sync id) = plain (step.PopSyncReq id)
made ledger.no_op = plain step.NoOp
made (ledger.ask_again which) = plain (step.AskAgain (which_of which))
made (ledger.land which) = plain (step.Land (which_of which))
made ledger.crash = plain step.CrashInPlace
made ledger.nonsense = plain (step.Land 2)

abbrev heard_as : Made → Call
heard_as x = call_of x.given x.step

pub made_heard : (x : Call) → heard_as (made x) ≡ x
made_heard (ledger.write_journal id1 none) = refl
made_heard (ledger.write_journal id1 (some id2)) = refl
made_heard (ledger.journal_written id) = refl
made_heard (ledger.commit_log id) = refl
made_heard (ledger.commit_location id) = refl
made_heard (ledger.superblock_written id) = refl
made_heard (ledger.read_journal false id) = refl
made_heard (ledger.read_journal true id) = refl
made_heard (ledger.journal_read id whole) = refl
made_heard (ledger.read_superblock false id) = refl
made_heard (ledger.read_superblock true id) = refl
made_heard (ledger.superblock_read false id whole) = refl
made_heard (ledger.superblock_read true id whole) = refl
made_heard ledger.finish_superblocks = refl
made_heard ledger.finish_other = refl
made_heard ledger.freeze = refl
made_heard (ledger.receive loc) = refl
made_heard (ledger.add es) =
    entries_is (flat es) (lengths es) (length es) (ledger.add (view (flat es) (lengths es) (length es))) (brought_given es) ∙ ap ledger.add (brought_view es)
made_heard (ledger.replay es) =
    entries_is (flat es) (lengths es) (length es) (ledger.replay (view (flat es) (lengths es) (length es))) (brought_given es) ∙ ap ledger.replay (brought_view es)
made_heard (ledger.push_sync id) = refl
made_heard (ledger.pop_sync id) = refl
made_heard ledger.no_op = refl
made_heard (ledger.ask_again false) = refl
made_heard (ledger.ask_again true) = refl
made_heard (ledger.land false) = refl
made_heard (ledger.land true) = refl
made_heard ledger.crash = refl
made_heard ledger.nonsense = refl

-- One call

module _ (g : Geometry) where
  -- a call that the code takes to the state t
  pub record Taken (s : State) (x : Call) (t : Y.Variables) : Type 0 where
    pub call : Made
    pub next : State
    pub heard : heard_as call ≡ x
    pub promise : Promise g s call true next
    pub form : StoreForm g next.lent next.store
    pub ends : state_seen g next ≡ t

  pub follow_taken : (s : State) (x : Call) (t : Y.Variables) → StoreForm g s.lent s.store → Takes g format limits (state_seen g s) t x → Fits g t → Brings x → Taken s x t
  follow_taken s x t f h k b =
      let w = takes_within g (state_seen g s) t f.machine_lent_is.geometry k.machine k.disk k.size k.block_size x h b in
      let d : Done g s.lent s.store t w.0.event = store_complete g s.lent s.store s.sized f t w.0.event w.0.allowed w.1 in
      record {
        call = record { step = d.call; given = d.given };
        next =
            record {
              store = (stepped g s.lent d.given s.store d.call).store;
              lent = stepped_lent g s.lent d.given s.store d.call;
              sized = sized_step g s.lent d.given s.store s.sized d.call;
            };
        heard = called_once _ x w.0.event d.tied w.0.tied;
        promise = record { store_is = refl; lent_is = refl; taken_is = ap is_taken (sym d.to.taken) };
        form = form_kept g s.lent d.given s.store d.call d.to.op s.sized d.to.taken;
        ends = d.to.next;
      }

  -- a call that is allowed to no state is refused
  pub follow_refused : (s : State) (x : Call) → ((u : Y.Variables) → Takes g format limits (state_seen g s) u x → ⊥) → Promise g s (made x) false s
  follow_refused s x n = by (stepped g s.lent (made x).given s.store (made x).step).answer refl
    where
      by : (a : Result DiskOp Refusal) → (stepped g s.lent (made x).given s.store (made x).step).answer ≡ a → Promise g s (made x) false s
      by (Ok o) e =
          absurd (n _ (subst (Takes g format limits (state_seen g s) _) (made_heard x) (store_takes g s.lent (made x).given s.store s.sized (made x).step o e)))
      by (Err q) e =
          let k = store_refused g s.lent (made x).given s.store (made x).step q e in
          record { store_is = sym k.0; lent_is = sym k.1; taken_is = ap is_taken (sym e) }

  -- Lists of calls

  pub record Followed (s : State) (xs : List Call) (bs : List Bool) (t : Y.Variables) : Type 0 where
    pub calls : List Made
    pub end : State
    pub ran : Ran (code_store g) s calls bs end
    pub heard : map (code_store g).call calls ≡ xs
    pub form : StoreForm g end.lent end.store
    pub ends : state_seen g end ≡ t

  pub follow : (s : State) (xs : List Call) (bs : List Bool) (t : Y.Variables) → StoreForm g s.lent s.store → Lived g (state_seen g s) xs bs t → Fits g t → AllBring xs → Followed s xs bs t
  follow s [] [] t f h k b = record { calls = []; end = s; ran = refl; heard = refl; form = f; ends = sym h }
  follow s [] (c ∷ bs) t f h k b = absurd h
  follow s (x ∷ xs) [] t f h k b = absurd h
  follow s (x ∷ xs) (true ∷ bs) t f h k (c and b) =
      let a = follow_taken s x h.0 f h.1 (lived_fits g h.0 t xs bs h.2 k) c in
      let r = follow a.next xs bs t a.form (subst (λ u. Lived g u xs bs t) (sym a.ends) h.2) k b in
      record {
        calls = a.call ∷ r.calls;
        end = r.end;
        ran = (a.next, a.promise, r.ran);
        heard = (λ i. a.heard i ∷ r.heard i);
        form = r.form;
        ends = r.ends;
      }
  follow s (x ∷ xs) (false ∷ bs) t f h k (c and b) =
      let r = follow s xs bs t f h.1 k b in
      record {
        calls = made x ∷ r.calls;
        end = r.end;
        ran = (s, follow_refused s x h.0, r.ran);
        heard = (λ i. made_heard x i ∷ r.heard i);
        form = r.form;
        ends = r.ends;
      }
