-- What is alike in every call of an allowed step: questions 1 and 2 are answered yes, so that the call's own answer is the store's; and of a call
-- that leaves lent memory alone, machine and disk each come to their half of the next state.
use Rattle.std.specs.Prelude.{ℕ, Bool, ◌≡◌, List, [], length}
use Rattle.std.proofs.Common.{sym, ◌∙◌, ap}
use Rattle.std.proofs.Math.Path.{subst}
use Rattle.laws.specs.Choice.{and_then, and_then_both}
use Rattle.laws.specs.Cut.{flat, lengths}
use Rattle.layout.specs.declared.Geometry.{Geometry}
use Rattle.superblock.specs.declared.DiskOp.{DiskOp}
use Rattle.range.specs.Memory.{view}
use Rattle.codec.specs.Codec.{JournalEntry}
use Rattle.codec.specs.Format.{format}
use Rattle.source.specs.JournalDisk as D
use Rattle.source.specs.JournalSystem as Y
use Rattle.source.specs.Limits.{limits}
use Rattle.source.specs.Departures.{Step⁺, Event, MachineStep, Allowed}
use Rattle.source.specs.Within.{Within}
use Rattle.history.specs.Ledger.{Call}
use Rattle.history.specs.Statement.{Tied}
use Rattle.loading.specs.Which.{is_second}
use Rattle.machine.specs.declared.Machine.{Machine}
use Rattle.disk.specs.Operation.{ask_decision, operation_next}
use Rattle.requests.specs.Laws.Pairs.{which_of, which_in, bit_which}
use Rattle.store.specs.declared.Store.{Store}
use Rattle.store.specs.Store.{store}
use Rattle.store.specs.Lent.{Lent, machine_lent}
use Rattle.store.specs.Steps.{ask_both, both}
use Rattle.store.specs.Laws.Answers.{asked_next}
use Rattle.calls.specs.declared.calls.Step.{Step}
use Rattle.calls.specs.Given.{Given}
use Rattle.calls.specs.Step.{step_answer, step_lent, ask_picture}
use Rattle.refine.specs.Machine.MachineView.{machine_of, operation_of}
use Rattle.refine.specs.Machine.MachineEntries.{brought_view, brought_given}
use Rattle.refine.specs.Store.Seen.{seen, SizedStore, named, entries_call, call_of}
use Rattle.refine.specs.Store.Plain.{named_is, entries_is}
use Rattle.refine.specs.Store.Done.{StoreForm, form_met, TakenTo, Done}
use Rattle.refine.specs.Store.DoneBy.{taken_by}
use Rattle.refine.specs.Store.Operations.{Plain, slot_same}
use Rattle.refine.specs.Store.Deciding.{SlotIn, asks_decision, next_decided}

-- what a call brings, empty where it brings nothing
abbrev pub nothing : Given
nothing = record { brought = []; sizes = []; picture = []; pictured = [] }

-- a call that is a step of the machine with its operation at the disk, and leaves lent memory alone
pub record Plainly (g : Geometry) (l : Lent) (v : Given) (s : Store) (x : Step) (q : ℕ) (op : DiskOp) (next : Machine) : Type 0 where
  pub answers : step_answer g l v s x ≡ both g s q op next
  pub keeps : step_lent g l v s x ≡ l
  pub brings : ask_picture g v.picture v.pictured x ≡ 0

-- the machine's name of a slot, and the call of a slot
pub slot_which : (w : Bool) → is_second (which_of w) ≡ w
slot_which w = sym (slot_same (which_of w) (which_in w)) ∙ bit_which w

pub tied_named : (w : Bool) (call : Bool → Call) (event : Event) → Tied (call w) event → Tied (named (which_of w) call) event
tied_named w call event h =
    subst (λ (x : Call). Tied x event) (sym (named_is (which_of w) call (which_in w) ∙ ap call (slot_which w))) h

-- of an operation as the call has it
pub tied_op : {x : Call} (dop : D.DiskOp) (s : Step⁺) (o : D.DiskOp) → dop ≡ o → Tied x (MachineStep o s) → Tied x (MachineStep dop s)
tied_op {x = x} dop s o e h = subst (λ (d : D.DiskOp). Tied x (MachineStep d s)) (sym e) h

-- entries as a call brings them, and the call of them
abbrev pub bringing : List JournalEntry → Given
bringing es = record { brought = flat es; sizes = lengths es; picture = []; pictured = [] }

pub tied_bringing : (es : List JournalEntry) (call : List JournalEntry → Call) (event : Event) → Tied (call es) event
    → Tied (entries_call (flat es) (lengths es) (length es) (call (view (flat es) (lengths es) (length es)))) event
tied_bringing es call event h =
    subst (λ (x : Call). Tied x event)
    (sym (entries_is (flat es) (lengths es) (length es) (call (view (flat es) (lengths es) (length es))) (brought_given es) ∙ ap call (brought_view es))) h

module _ (g : Geometry) (l : Lent) (s : Store) (z : SizedStore s) (f : StoreForm g l s) (t : Y.Variables) where
  -- of a call that leaves lent memory alone
  pub both_taken : (dop : D.DiskOp) (step : Step⁺) → Allowed g format limits (seen g l s) t (MachineStep dop step) → Within g limits t (MachineStep dop step)
      → (x : Step) (v : Given) (q : ℕ) (op : DiskOp) (next : Machine) → Plainly g l v s x q op next → Plain op → SlotIn op
      → q ≡ 0 → machine_of g (machine_lent l) next ≡ t.machine → dop ≡ operation_of op []
      → TakenTo g l v s x t
  unfolding both ask_both
  both_taken dop step a w x v q op next c p i e n o =
      let m = (form_met g l s z f a.meets).disk in
      let d : D.Next g (seen g l s).disk t.disk (operation_of op []) = subst (D.Next g (seen g l s).disk t.disk) o a.step.disk in
      let k = asks_decision g l.blocks l.marks s.disk z.disk m t.disk op p i d w.disk in
      let h = next_decided g l.blocks l.marks s.disk z.disk m t.disk op p d k in
      let after : Store = store next (operation_next g s.disk op) in
      taken_by g l s z f a.meets t x v op after l c.brings
      (c.answers ∙ asked_next (and_then q (ask_decision g s.disk op)) op after s (and_then_both q (ask_decision g s.disk op) e k))
      c.keeps
      (λ j. record { machine = n j; disk = h j })

  pub both_done : (dop : D.DiskOp) (step : Step⁺) → Allowed g format limits (seen g l s) t (MachineStep dop step) → Within g limits t (MachineStep dop step)
      → (x : Step) (v : Given) (q : ℕ) (op : DiskOp) (next : Machine) → Plainly g l v s x q op next → Plain op → SlotIn op
      → Tied (call_of v x) (MachineStep dop step)
      → q ≡ 0 → machine_of g (machine_lent l) next ≡ t.machine → dop ≡ operation_of op []
      → Done g l s t (MachineStep dop step)
  both_done dop step a w x v q op next c p i tied e n o = record { call = x; given = v; tied = tied; to = both_taken dop step a w x v q op next c p i e n o }
