-- A call that is taken keeps what record and lent memory add to the view: with questions 1 and 2 answered yes before it, the form is there after it,
-- and the counts of the next state are within the limits.
use Prim.Native.Nat.{ℕ}
use Rattle.std.specs.Prelude.{◌≡◌, refl, Ok}
use Rattle.std.specs.declared.option.Option as code
use Rattle.std.proofs.Math.Path.{sym, subst}
use Rattle.std.proofs.Common.{◌∙◌, ap}
use Rattle.std.proofs.Math.Logic.{⊎_elim}
use Rattle.laws.specs.Choice.{and_then_left, and_then_right, unless_done, asked_either, ruin}
use Rattle.refusal.specs.Refusal.{refusal}
use Rattle.layout.specs.declared.Geometry.{Geometry}
use Rattle.superblock.specs.declared.DiskOp.{DiskOp}
use Rattle.ready.specs.declared.Bodies.{Bodies}
use Rattle.memory.specs.Given.{memory, count_of}
use Rattle.machine.specs.declared.Machine.{Machine}
use Rattle.machine.specs.Lent as machine
use Rattle.machine.specs.Questions.{bodies_of}
use Rattle.machine.specs.Working.{write_back_journal_req_machine, advance_machine, moved_bytes, moved_lens, appended_bytes, appended_lens, given_of, ask_advance_step, ask_advance_log_step, ask_advance_location_step}
use Rattle.machine.specs.Loading.{ask_loaded, finish_loading_other_phase_machine, loaded_replay_bytes, loaded_replay_lens}
use Rattle.disk.specs.Operation.{operation_next}
use Rattle.disk.specs.Laws.Questions.{state_asked}
use Rattle.store.specs.declared.Store.{Store}
use Rattle.store.specs.Store.{StoreStepped}
use Rattle.store.specs.Whole.{asked}
use Rattle.store.specs.Store as S
use Rattle.store.specs.Store.{store}
use Rattle.store.specs.Lent.{Lent, machine_lent, ask_rest, ask_store}
use Rattle.store.specs.Steps.{ask_both, both, ask_write_journal, read_of}
use Rattle.store.specs.Laws.Answers.{asked_next, next_asked}
use Rattle.calls.specs.declared.calls.Step.{Step}
use Rattle.calls.specs.declared.calls.Step.TheVariants as step
use Rattle.calls.specs.Given.{Given}
use Rattle.calls.specs.Step.{step_answer_with, step_lent_with, ask_step, stepped, stepped_lent}
use Rattle.refine.specs.Machine.MachineView.{SizedMachine, MachineLent, MachineForm}
use Rattle.refine.specs.Store.Seen.{SizedStore, store_met}
use Rattle.refine.specs.Store.Done.{StoreForm}
use Rattle.refine.specs.Store.Lengths.{alike_step, machine_lent_kept, disk_lent_kept}
use Rattle.refine.specs.Store.DiskKept.{Tabled, ok_tabled, tabled_tables, idle_tabled, land_tabled, read_left_tabled, operation_tabled}
use Rattle.refine.specs.Store.MachineKept.{write_kept, journal_written_kept, commit_log_kept, commit_location_kept, superblock_written_kept, freeze_kept, receive_kept, push_kept, pop_kept}
use Rattle.refine.specs.Store.LoadingKept.{read_journal_kept, journal_read_kept, read_superblock_kept, superblock_read_kept, ask_again_kept, superblocks_done_kept, loaded_kept, initial_form, add_kept, replay_kept}

-- of machine and tables
pub record Formed (l : Lent) (s : Store) : Type 0 where
  pub machine : MachineForm (machine_lent l) s.machine
  pub tables : Tabled s.disk

-- of questions 1 and 2, the tables
pub asked_tabled : (g : Geometry) (l : Lent) (s : Store) → ask_store g l s ≡ 0 → Tabled s.disk
unfolding ask_store ask_rest
asked_tabled g l s e = ok_tabled g s.disk (state_asked g s.disk (and_then_left _ _ (and_then_right _ _ (and_then_right _ _ e))))

-- one number decides
answered_formed : (l : Lent) (q : ℕ) (op : DiskOp) (next s : Store) (o : DiskOp) → (S.answered q op next s).answer ≡ Ok o → (q ≡ 0 → Formed l next)
    → Formed l (S.answered q op next s).store
answered_formed l q op next s o h f =
    let k = (next_asked q op next s o h).0 in
    subst (λ (r : StoreStepped). Formed l r.store) (sym (asked_next q op next s k)) (f k)

-- a step of the machine with its operation
both_formed : (g : Geometry) (l : Lent) (s : Store) → Tabled s.disk → (q : ℕ) (op : DiskOp) (next : Machine) (o : DiskOp) → (both g s q op next).answer ≡ Ok o
    → (ask_both g s q op ≡ 0 → q ≡ 0 → MachineForm (machine_lent l) next) → Formed l (both g s q op next).store
unfolding both ask_both
both_formed g l s t q op next o h f =
    answered_formed l (ask_both g s q op) op (store next (operation_next g s.disk op)) s o h
    (λ k. record { machine = f k (and_then_left _ _ k); tables = operation_tabled s.disk t g op (and_then_right _ _ k) })

module _ (g : Geometry) (l : Lent) (v : Given) (s : Store) (z : SizedStore s) (e : ask_store g l s ≡ 0) where
  abbrev m : Machine
  m = s.machine

  abbrev b : Bodies
  b = bodies_of l.lens m

  abbrev sized : SizedMachine m
  sized = z.machine

  f : MachineForm (machine_lent l) m
  f = (store_met g l s z e).machine.form

  lent : MachineLent g (machine_lent l)
  lent = (store_met g l s z e).machine.lent

  t : Tabled s.disk
  t = asked_tabled g l s e

  -- lent memory after a yes
  written_machine_lent : (id1 : ℕ) (id2 : code.Option ℕ) → ask_write_journal g s id1 id2 b ≡ 0
      → machine_lent (step_lent_with g l v s (step.WriteBackJournalReq id1 id2) b)
      ≡ record { bytes = moved_bytes m b l.bytes; lens = moved_lens m b l.lens; pieces = l.pieces; rbytes = l.rbytes; rlens = l.rlens }
  unfolding step_lent_with
  written_machine_lent id1 id2 h =
      λ i.
      record {
        bytes = unless_done (ask_write_journal g s id1 id2 b) l.bytes (moved_bytes m b l.bytes) h i;
        lens = unless_done (ask_write_journal g s id1 id2 b) l.lens (moved_lens m b l.lens) h i;
        pieces = l.pieces;
        rbytes = l.rbytes;
        rlens = l.rlens;
      }

  finished_machine_lent : ask_loaded g m l.pieces l.rbytes l.rlens ≡ 0
      → machine_lent (step_lent_with g l v s step.FinishLoadingOtherPhase b)
      ≡ record { bytes = l.bytes; lens = l.lens; pieces = l.pieces; rbytes = loaded_replay_bytes m l.pieces l.rbytes; rlens = loaded_replay_lens m l.pieces l.rlens }
  unfolding step_lent_with
  finished_machine_lent h =
      λ i.
      record {
        bytes = l.bytes;
        lens = l.lens;
        pieces = l.pieces;
        rbytes = unless_done (ask_loaded g m l.pieces l.rbytes l.rlens) l.rbytes (loaded_replay_bytes m l.pieces l.rbytes) h i;
        rlens = unless_done (ask_loaded g m l.pieces l.rbytes l.rlens) l.rlens (loaded_replay_lens m l.pieces l.rlens) h i;
      }

  added_machine_lent : (k : ℕ) → ask_advance_step m b (given_of v.brought v.sizes k) ≡ 0
      → machine_lent (step_lent_with g l v s (step.Advance k) b)
      ≡ record { bytes = appended_bytes b (count_of (memory v.brought v.sizes k)) v.brought l.bytes; lens = appended_lens m (count_of (memory v.brought v.sizes k)) v.sizes l.lens; pieces = l.pieces; rbytes = l.rbytes; rlens = l.rlens }
  unfolding step_lent_with
  added_machine_lent k h =
      let q : ℕ = ask_advance_step m b (given_of v.brought v.sizes k) in
      λ i.
      record {
        bytes = unless_done q l.bytes (appended_bytes b (count_of (memory v.brought v.sizes k)) v.brought l.bytes) h i;
        lens = unless_done q l.lens (appended_lens m (count_of (memory v.brought v.sizes k)) v.sizes l.lens) h i;
        pieces = l.pieces;
        rbytes = l.rbytes;
        rlens = l.rlens;
      }

  -- call by call
  pub step_formed : (x : Step) (o : DiskOp) → (step_answer_with g l v s x b).answer ≡ Ok o → Formed (step_lent_with g l v s x b) (step_answer_with g l v s x b).store
  unfolding step_answer_with step_lent_with ask_write_journal ask_advance_log_step ask_advance_location_step
  step_formed (step.WriteBackJournalReq id1 id2) o h =
      both_formed g (step_lent_with g l v s (step.WriteBackJournalReq id1 id2) b) s t _ _ _ o h
      (λ k q. subst (λ (y : machine.Lent). MachineForm y (write_back_journal_req_machine m id1 id2 b)) (sym (written_machine_lent id1 id2 k)) (write_kept g (machine_lent l) m sized f id1 id2 b q))
  step_formed (step.WriteBackJournalResp id) o h = both_formed g l s t _ _ _ o h (λ k q. journal_written_kept g (machine_lent l) m sized f id)
  step_formed (step.AdvanceLog id) o h = both_formed g l s t _ _ _ o h (λ k q. commit_log_kept g (machine_lent l) m sized f id (and_then_left _ _ q))
  step_formed (step.AdvanceLocation id) o h = both_formed g l s t _ _ _ o h (λ k q. commit_location_kept g (machine_lent l) m sized f id (and_then_left _ _ q))
  step_formed (step.WriteBackSuperblockResp id) o h = both_formed g l s t _ _ _ o h (λ k q. superblock_written_kept g (machine_lent l) m sized f id)
  step_formed (step.PageInJournalReq which id) o h = both_formed g l s t _ _ _ o h (λ k q. read_journal_kept g (machine_lent l) m f which id q)
  step_formed (step.PageInJournalResp id whole) o h =
      answered_formed (step_lent_with g l v s (step.PageInJournalResp id whole) b) _ _ _ s o h
      (λ k.
      record {
        machine = journal_read_kept g (machine_lent l) m f (step_lent_with g l v s (step.PageInJournalResp id whole) b).pieces id (read_of whole);
        tables = read_left_tabled s.disk t id;
      })
  step_formed (step.PageInSuperblockReq which id) o h = both_formed g l s t _ _ _ o h (λ k q. read_superblock_kept g (machine_lent l) m f which id)
  step_formed (step.PageInSuperblockResp which id whole) o h = both_formed g l s t _ _ _ o h (λ k q. superblock_read_kept g (machine_lent l) m f which id _)
  step_formed step.FinishLoadingSuperblockPhase o h = both_formed g l s t _ _ _ o h (λ k q. superblocks_done_kept g (machine_lent l) m f q)
  step_formed step.FinishLoadingOtherPhase o h =
      both_formed g (step_lent_with g l v s step.FinishLoadingOtherPhase b) s t _ _ _ o h
      (λ k q. subst (λ (y : machine.Lent). MachineForm y (finish_loading_other_phase_machine m l.pieces)) (sym (finished_machine_lent q)) (loaded_kept g (machine_lent l) m f q))
  step_formed step.Freeze o h = both_formed g l s t _ _ _ o h (λ k q. freeze_kept g (machine_lent l) m sized f q)
  step_formed (step.ReceiveFrozenLoc loc) o h = both_formed g l s t _ _ _ o h (λ k q. receive_kept g (machine_lent l) m sized f loc q)
  step_formed (step.Advance n) o h =
      both_formed g (step_lent_with g l v s (step.Advance n) b) s t _ _ _ o h
      (λ k q. subst (λ (y : machine.Lent). MachineForm y (advance_machine m b (given_of v.brought v.sizes n))) (sym (added_machine_lent n q)) (add_kept g (machine_lent l) m lent f v.brought v.sizes n q))
  step_formed (step.Replay n) o h = both_formed g l s t _ _ _ o h (λ k q. replay_kept g (machine_lent l) m lent f v.brought v.sizes n q)
  step_formed (step.PushSyncReq id) o h = both_formed g l s t _ _ _ o h (λ k q. push_kept g (machine_lent l) m sized f id q)
  step_formed (step.PopSyncReq id) o h = both_formed g l s t _ _ _ o h (λ k q. pop_kept g (machine_lent l) m sized f id)
  step_formed step.NoOp o h = both_formed g l s t _ _ _ o h (λ k q. f)
  step_formed (step.AskAgain which) o h = both_formed g l s t _ _ _ o h (λ k q. ask_again_kept g (machine_lent l) m f which)
  step_formed (step.Land which) o h = answered_formed l _ _ _ s o h (λ k. record { machine = f; tables = land_tabled s.disk t which })
  step_formed step.Crash o h = record { machine = initial_form _; tables = idle_tabled g s.disk.slots }
  step_formed step.CrashInPlace o h = record { machine = initial_form _; tables = idle_tabled g s.disk.slots }

-- a taken call: its own questions and those of its picture were answered yes, and it is the step after them
module _ (g : Geometry) (l : Lent) (v : Given) (s : Store) (x : Step) (o : DiskOp) where
  pub taken_asked : (stepped g l v s x).answer ≡ Ok o
      → (ask_step g l v s x ≡ 0) × (stepped g l v s x ≡ step_answer_with g l v s x (bodies_of l.lens s.machine))
  unfolding stepped asked
  taken_asked h =
      ⊎_elim
      (λ y. (y.0, sym y.1))
      (λ n. let p = n.1 in ruin (cc))
      (asked_either (ask_step g l v s x) (step_answer_with g l v s x (bodies_of l.lens s.machine)) (S.refused s (refusal (ask_step g l v s x))) (stepped g l v s x) refl)

  -- lent memory too
  pub taken_lent : ask_step g l v s x ≡ 0 → stepped_lent g l v s x ≡ step_lent_with g l v s x (bodies_of l.lens s.machine)
  unfolding stepped_lent
  taken_lent q = unless_done (ask_step g l v s x) l (step_lent_with g l v s x (bodies_of l.lens s.machine)) q

  pub taken_formed : SizedStore s → (stepped g l v s x).answer ≡ Ok o → Formed (stepped_lent g l v s x) (stepped g l v s x).store
  unfolding ask_step
  taken_formed z h =
      let k = taken_asked h in
      let e : ask_store g l s ≡ 0 = and_then_right _ _ k.0 in
      subst (λ (y : Lent × StoreStepped). Formed y.0 y.1.store) (λ i. (sym (taken_lent k.0) i, sym k.1 i))
      (step_formed g l v s z e x o (ap (λ (r : StoreStepped). r.answer) (sym k.1) ∙ h))

  -- the form is kept
  pub form_kept : SizedStore s → (stepped g l v s x).answer ≡ Ok o → StoreForm g (stepped_lent g l v s x) (stepped g l v s x).store
  unfolding ask_step
  form_kept z h =
      let n = taken_formed z h in
      let m = store_met g l s z (and_then_right _ _ (taken_asked h).0) in
      let a = alike_step g l v s x in
      record {
        machine_lent_is = machine_lent_kept g l (stepped_lent g l v s x) a m.machine.lent;
        machine = n.machine;
        disk_lent = disk_lent_kept g l (stepped_lent g l v s x) a m.disk.lent;
        tables = tabled_tables (stepped g l v s x).store.disk n.tables;
      }
