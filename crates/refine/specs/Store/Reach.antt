-- Questions 1 and 2 never turn away a store that came from `Init` by its own calls: what was reached passes them, and a call that is taken leads to a
-- store that was reached and passes them again. Beside the answer only that the call is a step of the source (`Takes`) is asked, which soundness shows.
use Rattle.std.specs.Prelude.{ℕ, Bool, true, false, cond, ◌≡◌, List, leb, length, take, Ok}
use Rattle.std.proofs.Common.{sym, ◌∙◌, ap, arith}
use Rattle.laws.specs.Choice.{also, and_then_left, and_then_right}
use Rattle.layout.specs.declared.Geometry.{Geometry}
use Rattle.layout.specs.declared.Location.{Location}
use Rattle.superblock.specs.declared.DiskOp.{DiskOp}
use Rattle.journal.specs.Cells.{length_cells}
use Rattle.journal.specs.Blocks.{cell_size}
use Rattle.range.specs.Memory.{view, total, length_view, lengths_view}
use Rattle.codec.specs.Format.{format}
use Rattle.memory.specs.Given.{memory, ask_given, added_asked, given_asked}
use Rattle.source.specs.JournalSystem as Y
use Rattle.source.specs.JournalSystem.{superblock_of_disk}
use Rattle.source.specs.Limits.{limits, MachineCounts, DiskCounts}
use Rattle.source.proofs.Laws.Format.{limits_fit}
use Rattle.history.specs.Ledger as ledger
use Rattle.history.specs.Ledger.{Call, Ledger, begin, tell}
use Rattle.history.specs.Statement.{Takes}
use Rattle.history.proofs.Whole.First.{first_parity}
use Rattle.history.proofs.Reach.Reachable.{Reached, reached_init, reached_step}
use Rattle.machine.specs.Questions.{bodies_of}
use Rattle.machine.specs.Working.{ask_advance_step, ask_replay_given, ask_replay_step}
use Rattle.machine.specs.Laws.Entries.{given_number}
use Rattle.requests.specs.Slots.{Slots}
use Rattle.store.specs.declared.Store.{Store}
use Rattle.store.specs.Store.{StoreStepped}
use Rattle.store.specs.Lent.{Lent, machine_lent, ask_store}
use Rattle.store.specs.Steps.{ask_both, both}
use Rattle.store.specs.Laws.Answers.{next_asked}
use Rattle.calls.specs.declared.calls.Step.{Step}
use Rattle.calls.specs.declared.calls.Step.TheVariants as step
use Rattle.calls.specs.Given.{Given}
use Rattle.calls.specs.Step.{step_answer_with, stepped, stepped_lent}
use Rattle.refine.specs.Disk.View as disk
use Rattle.refine.specs.Machine.ReadyForm.{each_fit}
use Rattle.refine.specs.Machine.MachineView.{MachineLent}
use Rattle.refine.specs.Store.Seen.{seen, SizedStore, store_met, call_of}
use Rattle.refine.specs.Store.Done.{StoreForm, met_form, form_asks}
use Rattle.refine.specs.Store.Sized.{sized_step}
use Rattle.refine.specs.Store.DiskKept.{tabled_counts}
use Rattle.refine.specs.Store.Kept.{taken_asked, taken_formed, form_kept}
use Rattle.refine.specs.Store.Within.{form_counts, Few, Brings, takes_within}
use Rattle.refine.specs.Store.Fresh.{fresh, fresh_sized, fresh_form}

-- a store that was reached, with the form of its record and of lent memory
pub record StoreReached (g : Geometry) (p : ℕ) (l : Lent) (s : Store) (books : Ledger) : Type 0 where
  pub sized : SizedStore s
  pub form : StoreForm g l s
  pub reached : Reached g format limits p (seen g l s) books

-- passes questions 1 and 2
pub reached_asks : (g : Geometry) (p : ℕ) (l : Lent) (s : Store) (books : Ledger) → StoreReached g p l s books → ask_store g l s ≡ 0
reached_asks g p l s books r = form_asks g l s r.sized r.form r.reached.meets

-- a state that is seen as `Init`: any store with the form,
reached_formed : (g : Geometry) (l : Lent) (s : Store) (loc : Location) → SizedStore s → StoreForm g l s → (i : Y.Init g (seen g l s) loc)
    → StoreReached g (first_parity g format (seen g l s) loc i) l s (begin (superblock_of_disk g (seen g l s).disk i.wf))
reached_formed g l s loc z f i =
    record { sized = z; form = f; reached = reached_init g format limits (seen g l s) loc i (cell_size g.blocks l.blocks l.marks f.disk_lent.blocks_right.size) }

-- any that passes questions 1 and 2,
pub reached_first : (g : Geometry) (l : Lent) (s : Store) (loc : Location) → SizedStore s → ask_store g l s ≡ 0 → (i : Y.Init g (seen g l s) loc)
    → StoreReached g (first_parity g format (seen g l s) loc i) l s (begin (superblock_of_disk g (seen g l s).disk i.wf))
reached_first g l s loc z q i = reached_formed g l s loc z (met_form g l s z (store_met g l s z q)) i

-- and `Store::initial`
pub reached_fresh : (g : Geometry) (l : Lent) (slots : Slots) (loc : Location) → MachineLent g (machine_lent l) → disk.Lent g l.blocks l.marks
    → (i : Y.Init g (seen g l (fresh slots)) loc)
    → StoreReached g (first_parity g format (seen g l (fresh slots)) loc i) l (fresh slots) (begin (superblock_of_disk g (seen g l (fresh slots)).disk i.wf))
reached_fresh g l slots loc m d i = reached_formed g l (fresh slots) loc (fresh_sized slots) (fresh_form g l slots m d) i

-- What a call brings, of a yes to question 4

given_few : (brought sizes : List ℕ) (k : ℕ) → ask_given (memory brought sizes k) ≡ 0 → Few (view brought sizes k)
given_few brought sizes k q =
    let a = given_asked (memory brought sizes k) q in
    record {
      few = omega (arith, length_view brought sizes k a.held.there, a.few);
      fit = each_fit 255 (view brought sizes k) (take k sizes) (lengths_view brought sizes k a.held.fit) a.held.each;
    }

-- no nonsense brings anything
either_brings : (c : Bool) (x : Call) → Brings x → Brings (cond c x ledger.nonsense)
either_brings true x b = b
either_brings false x b = tt

module _ (g : Geometry) (l : Lent) (v : Given) (s : Store) where
  call_brings : (x : Step) (o : DiskOp) → (step_answer_with g l v s x (bodies_of l.lens s.machine)).answer ≡ Ok o → Brings (call_of v x)
  unfolding step_answer_with both ask_both ask_advance_step ask_replay_step ask_replay_given
  call_brings (step.WriteBackJournalReq id1 id2) o h = tt
  call_brings (step.WriteBackJournalResp id) o h = tt
  call_brings (step.AdvanceLog id) o h = tt
  call_brings (step.AdvanceLocation id) o h = tt
  call_brings (step.WriteBackSuperblockResp id) o h = tt
  call_brings (step.PageInJournalReq which id) o h = either_brings (leb which 1) _ tt
  call_brings (step.PageInJournalResp id whole) o h = tt
  call_brings (step.PageInSuperblockReq which id) o h = either_brings (leb which 1) _ tt
  call_brings (step.PageInSuperblockResp which id whole) o h = either_brings (leb which 1) _ tt
  call_brings step.FinishLoadingSuperblockPhase o h = tt
  call_brings step.FinishLoadingOtherPhase o h = tt
  call_brings step.Freeze o h = tt
  call_brings (step.ReceiveFrozenLoc loc) o h = tt
  call_brings (step.Advance k) o h =
      let q = and_then_left _ _ (next_asked _ _ _ s o h).0 in
      either_brings (also (leb k (length v.sizes)) (leb (total v.sizes k) (length v.brought))) (ledger.add (view v.brought v.sizes k))
      (given_few v.brought v.sizes k
      (added_asked (memory v.brought v.sizes k) (sym (given_number v.brought v.sizes k) ∙ and_then_left _ _ (and_then_right _ _ q))).0)
  call_brings (step.Replay k) o h =
      let q = and_then_left _ _ (next_asked _ _ _ s o h).0 in
      either_brings (also (leb k (length v.sizes)) (leb (total v.sizes k) (length v.brought))) (ledger.replay (view v.brought v.sizes k))
      (given_few v.brought v.sizes k (and_then_left _ _ (and_then_right _ _ q)))
  call_brings (step.PushSyncReq id) o h = tt
  call_brings (step.PopSyncReq id) o h = tt
  call_brings step.NoOp o h = tt
  call_brings (step.AskAgain which) o h = either_brings (leb which 1) _ tt
  call_brings (step.Land which) o h = either_brings (leb which 1) _ tt
  call_brings step.Crash o h = tt
  call_brings step.CrashInPlace o h = tt

-- A call that is taken

module _ (g : Geometry) (l : Lent) (v : Given) (s : Store) (x : Step) (o : DiskOp) (taken : (stepped g l v s x).answer ≡ Ok o) (z : SizedStore s) (e : ask_store g l s ≡ 0) where
  abbrev l' : Lent
  l' = stepped_lent g l v s x

  abbrev s' : Store
  s' = (stepped g l v s x).store

  -- the counts of the next state are within the limits
  pub machine_counts_kept : MachineCounts limits (seen g l' s').machine
  machine_counts_kept =
      form_counts g (machine_lent l') (form_kept g l v s x o z taken).machine_lent_is s'.machine (sized_step g l v s z x).machine (taken_formed g l v s x o z taken).machine

  pub disk_counts_kept : DiskCounts limits (seen g l' s').disk
  disk_counts_kept = tabled_counts g l'.blocks l'.marks s'.disk (sized_step g l v s z x).disk (taken_formed g l v s x o z taken).tables

  brings_kept : Brings (call_of v x)
  brings_kept =
      let k = taken_asked g l v s x o taken in
      call_brings g l v s x o (ap (λ (r : StoreStepped). r.answer) (sym k.1) ∙ taken)

-- leads to a store that was reached, which passes questions 1 and 2 again
module _ (g : Geometry) (p : ℕ) (l : Lent) (v : Given) (s : Store) (books : Ledger) (x : Step) (o : DiskOp) (r : StoreReached g p l s books)
    (taken : (stepped g l v s x).answer ≡ Ok o)
    (takes : Takes g format limits (seen g l s) (seen g (stepped_lent g l v s x) (stepped g l v s x).store) (call_of v x)) where
  pub reach_step : StoreReached g p (stepped_lent g l v s x) (stepped g l v s x).store (tell g format (call_of v x) books)
  reach_step =
      let e = reached_asks g p l s books r in
      let z = r.sized in
      let f = form_kept g l v s x o z taken in
      let after : Y.Variables = seen g (stepped_lent g l v s x) (stepped g l v s x).store in
      let h =
      takes_within g (seen g l s) after f.machine_lent_is.geometry (machine_counts_kept g l v s x o taken z e) (disk_counts_kept g l v s x o taken z e)
      (length_cells g.blocks (stepped_lent g l v s x).blocks (stepped_lent g l v s x).marks)
      (cell_size g.blocks (stepped_lent g l v s x).blocks (stepped_lent g l v s x).marks f.disk_lent.blocks_right.size)
      (call_of v x) takes (brings_kept g l v s x o taken z e)
      in
      record {
        sized = sized_step g l v s z x;
        form = f;
        reached = reached_step g format limits limits_fit p (seen g l s) after books (call_of v x) r.reached h.0 h.1;
      }

  pub reach_asks : ask_store g (stepped_lent g l v s x) (stepped g l v s x).store ≡ 0
  reach_asks = reached_asks g p (stepped_lent g l v s x) (stepped g l v s x).store (tell g format (call_of v x) books) reach_step
