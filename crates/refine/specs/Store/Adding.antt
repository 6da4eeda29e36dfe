-- Advance: the entries that the caller brings join pending memory. They are there, so that the call is no nonsense.
use Rattle.std.specs.Prelude.{ℕ, ◌≡◌, Ok}
use Rattle.std.proofs.Math.Path.{refl}
use Rattle.std.proofs.Common.{sym, ◌∙◌, subst}
use Rattle.laws.specs.Choice.{and_then, and_then_left, and_then_right, unless_done}
use Rattle.layout.specs.declared.Geometry.{Geometry}
use Rattle.superblock.specs.declared.DiskOp.{DiskOp}
use Rattle.superblock.specs.declared.DiskOp.TheVariants as op
use Rattle.range.specs.Memory.{view}
use Rattle.codec.specs.Format.{format}
use Rattle.memory.specs.Given.{memory, count_of, added_asked}
use Rattle.ready.specs.declared.Bodies.{Bodies}
use Rattle.source.specs.JournalDisk as D
use Rattle.source.specs.JournalCache.{AdvanceStep}
use Rattle.source.specs.Limits.{limits}
use Rattle.source.specs.Departures.{Source, MachineStep}
use Rattle.history.specs.Ledger as ledger
use Rattle.history.specs.Ledger.{Call}
use Rattle.history.specs.Statement.{Takes, Tied, tied_add}
use Rattle.machine.specs.Questions.{bodies_of}
use Rattle.machine.specs.Working.{given_of, ask_advance_step, advance_machine, appended_bytes, appended_lens}
use Rattle.machine.specs.Laws.Entries.{given_number}
use Rattle.store.specs.declared.Store.{Store}
use Rattle.store.specs.Store.{store}
use Rattle.store.specs.Lent.{Lent, machine_lent, ask_store, with_pending}
use Rattle.store.specs.Steps.{ask_both, both, add, added_lent}
use Rattle.calls.specs.declared.calls.Step.TheVariants as step
use Rattle.calls.specs.Given.{Given}
use Rattle.refine.specs.Machine.ReadyForm as form
use Rattle.refine.specs.Machine.MachineEntries.{asked_entries, advance_clauses}
use Rattle.refine.specs.Store.Seen.{seen, SizedStore, store_met, call_of}
use Rattle.refine.specs.Store.Plain.{entries_is}
use Rattle.refine.specs.Store.Taken.{answered_takes, machine_takes}

module _ (g : Geometry) (l : Lent) (v : Given) (s : Store) (k : ℕ) where
  abbrev b : Bodies
  b = bodies_of l.lens s.machine

  abbrev q : ℕ
  q = ask_advance_step s.machine b (given_of v.brought v.sizes k)

  -- lent memory with the new entries
  abbrev after : Lent
  after =
      with_pending l (appended_bytes b (count_of (memory v.brought v.sizes k)) v.brought l.bytes)
      (appended_lens s.machine (count_of (memory v.brought v.sizes k)) v.sizes l.lens)

  lent_added : q ≡ 0 → added_lent l s v.brought v.sizes k q b ≡ after
  lent_added e = λ i. with_pending l (unless_done q l.bytes after.bytes e i) (unless_done q l.lens after.lens e i)

  given_there : q ≡ 0 → form.Given v.brought v.sizes k
  unfolding ask_advance_step
  given_there e =
      asked_entries v.brought v.sizes k
      (added_asked (memory v.brought v.sizes k) (sym (given_number v.brought v.sizes k) ∙ and_then_left _ _ (and_then_right _ _ e))).0

  add_tied : q ≡ 0 → Tied (call_of v (step.Advance k)) (MachineStep D.NoDiskOp (Source (AdvanceStep (view v.brought v.sizes k))))
  add_tied e =
      subst (λ (x : Call). Tied x (MachineStep D.NoDiskOp (Source (AdvanceStep (view v.brought v.sizes k)))))
      (sym (entries_is v.brought v.sizes k (ledger.add (view v.brought v.sizes k)) (given_there e))) tied_add

  pub add_takes : (z : SizedStore s) → ask_store g l s ≡ 0 → (o : DiskOp) → (add g s b v.brought v.sizes k).answer ≡ Ok o
      → Takes g format limits (seen g l s) (seen g (added_lent l s v.brought v.sizes k q b) (add g s b v.brought v.sizes k).store) (call_of v (step.Advance k))
  unfolding both ask_both
  add_takes z e o a =
      let m = store_met g l s z e in
      let next : Store = store (advance_machine s.machine b (given_of v.brought v.sizes k)) s.disk in
      answered_takes g l s (and_then q 0) op.NoDiskOp next (added_lent l s v.brought v.sizes k q b) after (call_of v (step.Advance k)) o a
      (λ h. lent_added (and_then_left q 0 h))
      (λ h.
      let h0 = and_then_left q 0 h in
      machine_takes g l s z m (seen g after next) (call_of v (step.Advance k)) D.NoDiskOp (Source (AdvanceStep (view v.brought v.sizes k))) (add_tied h0)
      (advance_clauses g (machine_lent l) s.machine v.brought v.sizes k m.machine h0)
      (record { next = refl }))
