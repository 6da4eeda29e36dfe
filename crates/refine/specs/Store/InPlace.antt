-- The crash in place is the crash whose picture is the disk's own content: the same questions, the same answer, and lent memory as it was, which is
-- what that picture leaves.
use Rattle.std.specs.Prelude.{ℕ, ◌≡◌}
use Rattle.std.proofs.Math.Path.{refl, sym, ap}
use Rattle.std.proofs.Common.{◌∙◌}
use Rattle.laws.specs.Choice.{and_then_done, unless}
use Rattle.layout.specs.declared.Geometry.{Geometry}
use Rattle.journal.specs.Memory.{ask_journal}
use Rattle.crash.specs.Laws.Memory.{own_blocks, own_marks}
use Rattle.crash.specs.Laws.Whole.{asked_twice}
use Rattle.machine.specs.Questions.{bodies_of}
use Rattle.store.specs.declared.Store.{Store}
use Rattle.store.specs.Whole.{asked}
use Rattle.store.specs.Lent.{Lent, ask_store, with_journal}
use Rattle.calls.specs.declared.calls.Step.TheVariants as step
use Rattle.calls.specs.Given.{Given}
use Rattle.calls.specs.Step.{step_answer_with, step_lent_with, ask_picture, ask_step, stepped, stepped_lent}

-- what a call brings, with the disk's own content for its picture
abbrev pub own_picture : Lent → Given → Given
own_picture l v = record { brought = v.brought; sizes = v.sizes; picture = l.blocks; pictured = l.marks }

module _ (g : Geometry) (l : Lent) (v : Given) (s : Store) where
  own_asks : ask_step g l v s step.CrashInPlace ≡ ask_step g l (own_picture l v) s step.Crash
  unfolding ask_step ask_picture ask_store
  own_asks = and_then_done 0 (ask_store g l s) refl ∙ sym (asked_twice (ask_journal g l.blocks l.marks) _)

  pub own_crash : stepped g l v s step.CrashInPlace ≡ stepped g l (own_picture l v) s step.Crash
  unfolding stepped step_answer_with
  own_crash = ap (λ (q : ℕ). asked q (step_answer_with g l v s step.CrashInPlace (bodies_of l.lens s.machine)) s) own_asks

  pub own_crash_lent : stepped_lent g l v s step.CrashInPlace ≡ stepped_lent g l (own_picture l v) s step.Crash
  unfolding stepped_lent step_lent_with
  own_crash_lent =
      λ i. unless (own_asks i) l (with_journal l (sym (own_blocks s.disk.journalWrites l.blocks) i) (sym (own_marks s.disk.journalWrites l.marks) i))
