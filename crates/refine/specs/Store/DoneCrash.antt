-- A crash of the source is taken, whatever its picture and whatever lent blocks and marks show it; and some show it.
use Rattle.std.specs.Prelude.{◌≡◌, List, []}
use Rattle.std.proofs.Math.Path.{refl, sym}
use Rattle.std.proofs.Common.{◌∙◌, subst}
use Rattle.std.proofs.Math.Option.{Option}
use Rattle.layout.specs.declared.Geometry.{Geometry}
use Rattle.interval.specs.Journal.{JournalBlock}
use Rattle.superblock.specs.declared.DiskOp.TheVariants as op
use Rattle.codec.specs.Format.{format}
use Rattle.journal.specs.Memory.{ask_journal}
use Rattle.journal.specs.Asked.{asked_journal}
use Rattle.journal.specs.Cells.{cells}
use Rattle.source.specs.JournalSystem as Y
use Rattle.source.specs.Limits.{limits}
use Rattle.source.specs.Departures.{CrashStep, Allowed}
use Rattle.source.specs.Within.{Within}
use Rattle.history.specs.Statement.{tied_crash}
use Rattle.crash.specs.Picture.{crashed_blocks, crashed_marks}
use Rattle.store.specs.declared.Store.{Store}
use Rattle.store.specs.Lent.{Lent, machine_lent, with_journal}
use Rattle.store.specs.Steps.{crashed}
use Rattle.calls.specs.declared.calls.Step.TheVariants as step
use Rattle.calls.specs.Given.{Given, given}
use Rattle.calls.specs.Step.{step_answer_with, step_lent_with, ask_picture}
use Rattle.refine.specs.Disk.Crash.{crash_one}
use Rattle.refine.specs.Disk.Picture.{journal_lent, picture_bytes, picture_marks, picture_lent, picture_cells}
use Rattle.refine.specs.Machine.MachineInitial.{initial_seen}
use Rattle.refine.specs.Store.Seen.{seen, SizedStore}
use Rattle.refine.specs.Store.Done.{StoreForm, form_met, TakenTo, Done}
use Rattle.refine.specs.Store.DoneBy.{taken_by}

module _ (g : Geometry) (l : Lent) (s : Store) where
  -- lent memory after it
  abbrev after : Given → Lent
  after v = with_journal l (crashed_blocks s.disk.journalWrites v.picture l.blocks) (crashed_marks s.disk.journalWrites v.pictured l.marks)

  pub crash_taken : (z : SizedStore s) → StoreForm g l s → (v : Given) → ask_journal g v.picture v.pictured ≡ 0 → (t : Y.Variables)
      → Allowed g format limits (seen g l s) t (CrashStep (cells g v.picture v.pictured)) → TakenTo g l v s step.Crash t
  unfolding ask_picture step_answer_with step_lent_with
  crash_taken z f v q t a =
      let m = form_met g l s z f a.meets in
      let p = journal_lent g v.picture v.pictured q in
      let machine : (seen g (after v) (crashed s)).machine ≡ t.machine = initial_seen g (machine_lent l) ∙ sym a.step.machine in
      let disk : t.disk ≡ (seen g (after v) (crashed s)).disk =
      crash_one g s.disk v.picture v.pictured l.blocks l.marks z.disk m.disk p t.disk a.step.disk in
      taken_by g l s z f a.meets t step.Crash v op.NoDiskOp (crashed s) (after v) q refl refl
      (λ i. record { machine = machine i; disk = sym disk i })

  -- the picture as a call brings it
  abbrev shown : List (Option JournalBlock) → Given
  shown picture = given [] [] (picture_bytes picture) (picture_marks picture)

  pub crash_done : (z : SizedStore s) → StoreForm g l s → (t : Y.Variables) (picture : List (Option JournalBlock))
      → Allowed g format limits (seen g l s) t (CrashStep picture) → Within g limits t (CrashStep picture) → Done g l s t (CrashStep picture)
  crash_done z f t picture a w =
      let p = picture_lent g picture w.arguments w.geometry in
      let c =
      crash_taken z f (shown picture) (asked_journal g (picture_bytes picture) (picture_marks picture) p.blocks_right p.marks_right) t
      (subst (λ (x : List (Option JournalBlock)). Allowed g format limits (seen g l s) t (CrashStep x)) (sym (picture_cells g picture w.arguments)) a) in
      record { call = step.Crash; given = shown picture; tied = tied_crash; to = c }
