-- Advance of the source is taken: the call brings the entries' bytes, their lengths and their number.
use Rattle.std.specs.Prelude.{ℕ, ◌≡◌, List, length}
use Rattle.std.proofs.Math.Path.{refl}
use Rattle.std.proofs.Common.{sym, subst}
use Rattle.laws.specs.Choice.{and_then, and_then_both, unless_done}
use Rattle.layout.specs.declared.Geometry.{Geometry}
use Rattle.superblock.specs.declared.DiskOp.TheVariants as op
use Rattle.range.specs.Memory.{view}
use Rattle.memory.specs.Given.{memory, count_of}
use Rattle.codec.specs.Codec.{JournalEntry}
use Rattle.codec.specs.Format.{format}
use Rattle.ready.specs.declared.Bodies.{Bodies}
use Rattle.source.specs.JournalDisk as D
use Rattle.source.specs.JournalCache.{AdvanceStep}
use Rattle.source.specs.JournalSystem as Y
use Rattle.source.specs.Limits.{limits}
use Rattle.source.specs.Departures.{Source, MachineStep, Allowed}
use Rattle.source.specs.Within.{Within}
use Rattle.history.specs.Ledger as ledger
use Rattle.history.specs.Statement.{tied_add}
use Rattle.machine.specs.Questions.{bodies_of}
use Rattle.machine.specs.Working.{given_of, ask_advance_step, advance_machine, appended_bytes, appended_lens}
use Rattle.store.specs.declared.Store.{Store}
use Rattle.store.specs.Store.{store}
use Rattle.store.specs.Lent.{Lent, machine_lent, with_pending}
use Rattle.store.specs.Steps.{ask_both, both, added_lent}
use Rattle.calls.specs.declared.calls.Step.TheVariants as step
use Rattle.calls.specs.Given.{Given}
use Rattle.calls.specs.Step.{step_answer_with, step_lent_with, ask_picture}
use Rattle.refine.specs.Machine.ReadyForm as form
use Rattle.refine.specs.Machine.MachineEntries.{brought_view, brought_given, clauses_advance}
use Rattle.refine.specs.Store.Seen.{seen, SizedStore}
use Rattle.refine.specs.Store.Done.{StoreForm, TakenTo, Done}
use Rattle.refine.specs.Store.DoneBy.{taken_asked, disk_same}
use Rattle.refine.specs.Store.Doing.{bringing, tied_op, tied_bringing}

module _ (g : Geometry) (l : Lent) (v : Given) (s : Store) (k : ℕ) where
  abbrev es : List JournalEntry
  es = view v.brought v.sizes k

  abbrev b : Bodies
  b = bodies_of l.lens s.machine

  abbrev q : ℕ
  q = ask_advance_step s.machine b (given_of v.brought v.sizes k)

  -- lent memory with the entries, and the store
  abbrev after : Lent
  after =
      with_pending l (appended_bytes b (count_of (memory v.brought v.sizes k)) v.brought l.bytes)
      (appended_lens s.machine (count_of (memory v.brought v.sizes k)) v.sizes l.lens)

  abbrev next : Store
  next = store (advance_machine s.machine b (given_of v.brought v.sizes k)) s.disk

  lent_added : q ≡ 0 → added_lent l s v.brought v.sizes k q b ≡ after
  lent_added e = λ i. with_pending l (unless_done q l.bytes after.bytes e i) (unless_done q l.lens after.lens e i)

  pub add_taken : (z : SizedStore s) → StoreForm g l s → form.Given v.brought v.sizes k → (t : Y.Variables) (dop : D.DiskOp)
      → Allowed g format limits (seen g l s) t (MachineStep dop (Source (AdvanceStep es))) → Within g limits t (MachineStep dop (Source (AdvanceStep es)))
      → TakenTo g l v s (step.Advance k) t × (dop ≡ D.NoDiskOp)
  unfolding ask_picture step_answer_with step_lent_with both ask_both
  add_taken z f h t dop a w =
      let c =
      clauses_advance g (machine_lent l) s.machine v.brought v.sizes k f.machine_lent_is f.machine h w.arguments t.machine dop a.step.machine w.machine in
      let disk : (seen g l s).disk ≡ t.disk = disk_same g (seen g l s).disk t.disk dop c.2 a.step.disk in
      let machine : (seen g after next).machine ≡ t.machine = c.1 in (
        taken_asked g l s z f a.meets t (step.Advance k) v op.NoDiskOp next after
            refl (and_then q 0) (and_then_both q 0 c.0 refl) refl (lent_added c.0)
            (λ i. record { machine = machine i; disk = disk i }),
        c.2,
      )

-- the entries as a call brings them
pub add_done : (g : Geometry) (l : Lent) (s : Store) (z : SizedStore s) → StoreForm g l s → (t : Y.Variables) (dop : D.DiskOp) (es : List JournalEntry)
    → Allowed g format limits (seen g l s) t (MachineStep dop (Source (AdvanceStep es))) → Within g limits t (MachineStep dop (Source (AdvanceStep es)))
    → Done g l s t (MachineStep dop (Source (AdvanceStep es)))
add_done g l s z f t dop es a w =
    let v : Given = bringing es in
    let c = add_taken g l v s (length es) z f (brought_given es) t dop
    (subst (λ (x : List JournalEntry). Allowed g format limits (seen g l s) t (MachineStep dop (Source (AdvanceStep x)))) (sym (brought_view es)) a)
    (subst (λ (x : List JournalEntry). Within g limits t (MachineStep dop (Source (AdvanceStep x)))) (sym (brought_view es)) w) in
    record {
      call = step.Advance (length es);
      given = v;
      tied = tied_op dop (Source (AdvanceStep es)) D.NoDiskOp c.1 (tied_bringing es ledger.add (MachineStep D.NoDiskOp (Source (AdvanceStep es))) tied_add);
      to = c.0;
    }
