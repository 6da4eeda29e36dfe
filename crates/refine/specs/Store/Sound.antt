-- Every call of the store that is taken is a step that the source allows, between the views; a call that is refused leaves the view. For all calls
-- at once.
use Prim.Native.Nat.{ℕ}
use Rattle.std.specs.Prelude.{◌≡◌, refl, List, Ok, Err}
use Rattle.std.proofs.Math.Path.{sym, ap, subst}
use Rattle.std.proofs.Common.{◌∙◌}
use Rattle.laws.specs.Choice.{and_then, and_then_left, and_then_right, and_then_both, unless, unless_kept, unless_done, asked_yes, asked_no, split_eq, ruin}
use Rattle.refusal.specs.declared.Refusal.{Refusal}
use Rattle.refusal.specs.Refusal.{refusal}
use Rattle.layout.specs.declared.Geometry.{Geometry}
use Rattle.superblock.specs.declared.DiskOp.{DiskOp}
use Rattle.superblock.specs.declared.DiskOp.TheVariants as op
use Rattle.ready.specs.declared.Bodies.{Bodies}
use Rattle.machine.specs.declared.Machine.{Machine}
use Rattle.machine.specs.Questions.{bodies_of}
use Rattle.machine.specs.Loading.{ask_loaded, finish_loading_other_phase_machine, loaded_replay_bytes, loaded_replay_lens}
use Rattle.machine.specs.Working.{moved_bytes, moved_lens, given_of, ask_advance_step, advance_machine}
use Rattle.codec.specs.Format.{format}
use Rattle.source.specs.Limits.{limits}
use Rattle.history.specs.Statement.{Takes}
use Rattle.store.specs.declared.Store.{Store}
use Rattle.store.specs.Store.{StoreStepped}
use Rattle.store.specs.Whole.{asked}
use Rattle.store.specs.Store.{store, refused, answered}
use Rattle.store.specs.Lent.{Lent, ask_store, with_pending, with_pieces, with_replay, with_journal}
use Rattle.store.specs.Steps as one
use Rattle.store.specs.Laws.Answers.{refused_asked, refused_same}
use Rattle.calls.specs.declared.calls.Step.{Step}
use Rattle.calls.specs.declared.calls.Step.TheVariants as step
use Rattle.calls.specs.Given.{Given}
use Rattle.calls.specs.Step.{ask_picture, ask_step, step_answer_with, step_lent_with, step_answer, step_lent, stepped, stepped_lent}
use Rattle.refine.specs.Store.Seen.{seen, SizedStore, call_of}
use Rattle.refine.specs.Store.Always.{push_takes, pop_takes, no_op_takes, land_takes}
use Rattle.refine.specs.Store.Loading.{read_journal_takes, read_superblock_takes, superblock_read_takes, finish_superblocks_takes, ask_again_takes}
use Rattle.refine.specs.Store.Working.{journal_written_takes, commit_log_takes, commit_location_takes, superblock_written_takes, freeze_takes, receive_takes, replay_takes}
use Rattle.refine.specs.Store.Crashes.{crash_takes, crash_in_place_takes}
use Rattle.refine.specs.Store.Adding.{add_takes}
use Rattle.refine.specs.Store.Finishing.{finish_other_takes}
use Rattle.refine.specs.Store.Reading.{journal_read_takes}
use Rattle.refine.specs.Store.Writing.{write_takes}

module _ (g : Geometry) (l : Lent) (v : Given) (s : Store) (z : SizedStore s) where
  abbrev b : Bodies
  b = bodies_of l.lens s.machine

  -- after questions 1 and 2
  asked_takes : ask_store g l s ≡ 0 → (x : Step) → ask_picture g v.picture v.pictured x ≡ 0 → (o : DiskOp) → (step_answer_with g l v s x b).answer ≡ Ok o
      → Takes g format limits (seen g l s) (seen g (step_lent_with g l v s x b) (step_answer_with g l v s x b).store) (call_of v x)
  unfolding step_answer_with step_lent_with ask_picture
  asked_takes e (step.WriteBackJournalReq id1 id2) p o h = write_takes g l v s id1 id2 z e o h
  asked_takes e (step.WriteBackJournalResp id) p o h = journal_written_takes g l v s z e id o h
  asked_takes e (step.AdvanceLog id) p o h = commit_log_takes g l v s z e id o h
  asked_takes e (step.AdvanceLocation id) p o h = commit_location_takes g l v s z e id o h
  asked_takes e (step.WriteBackSuperblockResp id) p o h = superblock_written_takes g l v s z e id o h
  asked_takes e (step.PageInJournalReq which id) p o h = read_journal_takes g l v s z e which id o h
  asked_takes e (step.PageInJournalResp id whole) p o h = journal_read_takes g l v s id z e whole o h
  asked_takes e (step.PageInSuperblockReq which id) p o h = read_superblock_takes g l v s z e which id o h
  asked_takes e (step.PageInSuperblockResp which id whole) p o h = superblock_read_takes g l v s z e which id whole o h
  asked_takes e step.FinishLoadingSuperblockPhase p o h = finish_superblocks_takes g l v s z e o h
  asked_takes e step.FinishLoadingOtherPhase p o h = finish_other_takes g l v s z e o h
  asked_takes e step.Freeze p o h = freeze_takes g l v s z e o h
  asked_takes e (step.ReceiveFrozenLoc loc) p o h = receive_takes g l v s z e loc o h
  asked_takes e (step.Advance entries) p o h = add_takes g l v s entries z e o h
  asked_takes e (step.Replay entries) p o h = replay_takes g l v s z e entries o h
  asked_takes e (step.PushSyncReq id) p o h = push_takes g l v s z e id o h
  asked_takes e (step.PopSyncReq id) p o h = pop_takes g l v s z e id o h
  asked_takes e step.NoOp p o h = no_op_takes g l v s z e o h
  asked_takes e (step.AskAgain which) p o h = ask_again_takes g l v s z e which o h
  asked_takes e (step.Land which) p o h = land_takes g l v s z e which o h
  asked_takes e step.Crash p o h = crash_takes g l v s z e p
  asked_takes e step.CrashInPlace p o h = crash_in_place_takes g l v s z e

  -- whole
  pub store_takes : (x : Step) (o : DiskOp) → (stepped g l v s x).answer ≡ Ok o
      → Takes g format limits (seen g l s) (seen g (stepped_lent g l v s x) (stepped g l v s x).store) (call_of v x)
  unfolding stepped stepped_lent ask_step asked
  store_takes x o h =
      split_eq asks 0
      (λ q.
      let a = asked_yes asks (step_answer g l v s x) (refused s (refusal asks)) q in
      let m = unless_done asks l (step_lent g l v s x) q in
      subst (λ (y : StoreStepped × Lent). Takes g format limits (seen g l s) (seen g y.1 y.0.store) (call_of v x))
      (λ i. (sym a i, sym m i))
      (asked_takes (and_then_right _ _ q) x (and_then_left _ _ q) o (ap (λ (y : StoreStepped). y.answer) (sym a) ∙ h)))
      (λ n.
      let a : (stepped g l v s x).answer ≡ Err (refusal asks) = ap (λ (y : StoreStepped). y.answer) (asked_no asks (step_answer g l v s x) (refused s (refusal asks)) n) in
      ruin (cc))
    where
      asks : ℕ
      asks = ask_step g l v s x

-- refused
module _ (g : Geometry) (l : Lent) (v : Given) (s : Store) (b : Bodies) where
  -- by the number that decides
  same_store : (q : ℕ) (op : DiskOp) (next : Store) (n : Refusal) → (answered q op next s).answer ≡ Err n → (answered q op next s).store ≡ s
  same_store q op next n h = refused_same q op next s n h

  some_no : (q : ℕ) (op : DiskOp) (next : Store) (n : Refusal) → (answered q op next s).answer ≡ Err n → q ≡ 0 → ⊥
  some_no q op next n h = refused_asked q op next s n h

  machine_no : (q : ℕ) (n : Refusal) (next : Machine) → (one.both g s q op.NoDiskOp next).answer ≡ Err n → q ≡ 0 → ⊥
  unfolding one.both one.ask_both
  machine_no q n next h e = some_no (and_then q 0) op.NoDiskOp (store next s.disk) n h (and_then_both q 0 e refl)

  abbrev Kept : Step → Type 0
  Kept x = ((step_answer_with g l v s x b).store ≡ s) × (step_lent_with g l v s x b ≡ l)

  both_kept : (q : ℕ) (op : DiskOp) (next : Machine) (n : Refusal) → (one.both g s q op next).answer ≡ Err n → (one.both g s q op next).store ≡ s
  unfolding one.both
  both_kept q op next n h = same_store _ _ _ n h

  pending_kept : (q : ℕ) (bytes lens : List ℕ) → (q ≡ 0 → ⊥) → with_pending l (unless q l.bytes bytes) (unless q l.lens lens) ≡ l
  pending_kept q bytes lens f = λ i. with_pending l (unless_kept q l.bytes bytes f i) (unless_kept q l.lens lens f i)

  asked_kept : (x : Step) (n : Refusal) → (step_answer_with g l v s x b).answer ≡ Err n → Kept x
  unfolding step_answer_with step_lent_with one.both one.ask_write_journal
  asked_kept (step.WriteBackJournalReq id1 id2) n h =
      let f = some_no _ _ _ n h in (
        same_store _ _ _ n h,
        (λ i.
            with_journal (pending_kept (one.ask_write_journal g s id1 id2 b) (moved_bytes s.machine b l.bytes) (moved_lens s.machine b l.lens) f i)
            (unless_kept (one.ask_write_journal g s id1 id2 b) l.blocks (one.written_blocks g s b l.bytes l.lens l.blocks) f i)
            (unless_kept (one.ask_write_journal g s id1 id2 b) l.marks (one.written_marks g s b l.marks) f i)),
      )
  asked_kept (step.WriteBackJournalResp id) n h = (same_store _ _ _ n h, refl)
  asked_kept (step.AdvanceLog id) n h = (same_store _ _ _ n h, refl)
  asked_kept (step.AdvanceLocation id) n h = (same_store _ _ _ n h, refl)
  asked_kept (step.WriteBackSuperblockResp id) n h = (same_store _ _ _ n h, refl)
  asked_kept (step.PageInJournalReq which id) n h = (same_store _ _ _ n h, refl)
  asked_kept (step.PageInJournalResp id whole) n h =
      (same_store _ _ _ n h, ap (with_pieces l) (unless_kept (one.ask_journal_read s id whole l.marks) l.pieces (one.read_pieces g s id whole l.blocks l.pieces) (some_no _ _ _ n h)))
  asked_kept (step.PageInSuperblockReq which id) n h = (same_store _ _ _ n h, refl)
  asked_kept (step.PageInSuperblockResp which id whole) n h = (same_store _ _ _ n h, refl)
  asked_kept step.FinishLoadingSuperblockPhase n h = (same_store _ _ _ n h, refl)
  asked_kept step.FinishLoadingOtherPhase n h =
      let q = ask_loaded g s.machine l.pieces l.rbytes l.rlens in
      let f : q ≡ 0 → ⊥ = machine_no q n (finish_loading_other_phase_machine s.machine l.pieces) h in (
        same_store _ _ _ n h,
        (λ i. with_replay l (unless_kept q l.rbytes (loaded_replay_bytes s.machine l.pieces l.rbytes) f i) (unless_kept q l.rlens (loaded_replay_lens s.machine l.pieces l.rlens) f i)),
      )
  asked_kept step.Freeze n h = (same_store _ _ _ n h, refl)
  asked_kept (step.ReceiveFrozenLoc loc) n h = (same_store _ _ _ n h, refl)
  asked_kept (step.Advance entries) n h =
      let q = ask_advance_step s.machine b (given_of v.brought v.sizes entries) in
      (same_store _ _ _ n h, pending_kept q _ _ (machine_no q n (advance_machine s.machine b (given_of v.brought v.sizes entries)) h))
  asked_kept (step.Replay entries) n h = (same_store _ _ _ n h, refl)
  asked_kept (step.PushSyncReq id) n h = (same_store _ _ _ n h, refl)
  asked_kept (step.PopSyncReq id) n h = (same_store _ _ _ n h, refl)
  asked_kept step.NoOp n h = (same_store _ _ _ n h, refl)
  asked_kept (step.AskAgain which) n h = (same_store _ _ _ n h, refl)
  asked_kept (step.Land which) n h = (same_store _ _ _ n h, refl)
  asked_kept step.Crash n h = ruin (cc)
  asked_kept step.CrashInPlace n h = ruin (cc)

-- whole: store and lent memory are as they were
pub store_refused : (g : Geometry) (l : Lent) (v : Given) (s : Store) (x : Step) (n : Refusal) → (stepped g l v s x).answer ≡ Err n
    → ((stepped g l v s x).store ≡ s) × (stepped_lent g l v s x ≡ l)
unfolding stepped stepped_lent asked
store_refused g l v s x n h =
    split_eq asks 0
    (λ q.
    let a = asked_yes asks (step_answer g l v s x) (refused s (refusal asks)) q in
    let m = unless_done asks l (step_lent g l v s x) q in
    let k = asked_kept g l v s (bodies_of l.lens s.machine) x n (ap (λ (y : StoreStepped). y.answer) (sym a) ∙ h) in
    (ap (λ (y : StoreStepped). y.store) a ∙ k.0, m ∙ k.1))
    (λ f. (ap (λ (y : StoreStepped). y.store) (asked_no asks (step_answer g l v s x) (refused s (refusal asks)) f), unless_kept asks l (step_lent g l v s x) f))
  where
    asks : ℕ
    asks = ask_step g l v s x
