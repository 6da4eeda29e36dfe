-- FinishLoadingOtherPhase of the source is taken.
use Rattle.std.specs.Prelude.{ℕ, ◌≡◌}
use Rattle.std.proofs.Math.Path.{refl}
use Rattle.std.proofs.Common.{sym, subst}
use mathlib.Core.List.{[]}
use Rattle.laws.specs.Choice.{and_then, and_then_both, unless_done}
use Rattle.layout.specs.declared.Geometry.{Geometry}
use Rattle.superblock.specs.declared.DiskOp.TheVariants as op
use Rattle.codec.specs.Format.{format}
use Rattle.source.specs.JournalDisk as D
use Rattle.source.specs.JournalCache.{FinishLoadingOtherPhaseStep}
use Rattle.source.specs.JournalSystem as Y
use Rattle.source.specs.Limits.{limits}
use Rattle.source.specs.Departures.{Source, MachineStep, Allowed}
use Rattle.source.specs.Within.{Within}
use Rattle.history.specs.Ledger as ledger
use Rattle.history.specs.Statement.{Tied, tied_finish_other}
use Rattle.machine.specs.Loading.{ask_loaded, finish_loading_other_phase_machine, loaded_replay_bytes, loaded_replay_lens}
use Rattle.store.specs.declared.Store.{Store}
use Rattle.store.specs.Store.{store}
use Rattle.store.specs.Lent.{Lent, machine_lent, with_replay}
use Rattle.store.specs.Steps.{ask_both, both, finished_lent}
use Rattle.calls.specs.declared.calls.Step.TheVariants as step
use Rattle.calls.specs.Given.{given}
use Rattle.calls.specs.Step.{step_answer_with, step_lent_with, ask_picture}
use Rattle.refine.specs.Machine.MachineMeets.{machine_kind_ok}
use Rattle.refine.specs.Machine.MachineFinish.{clauses_finish_loading_other_phase}
use Rattle.refine.specs.Store.Seen.{seen, SizedStore}
use Rattle.refine.specs.Store.Taken.{machine_asked}
use Rattle.refine.specs.Store.Done.{StoreForm, form_asks, Done}
use Rattle.refine.specs.Store.DoneBy.{done_asked, disk_same}

module _ (g : Geometry) (l : Lent) (s : Store) where
  abbrev q : ℕ
  q = ask_loaded g s.machine l.pieces l.rbytes l.rlens

  -- lent memory with the loaded entries, and the store
  abbrev after : Lent
  after = with_replay l (loaded_replay_bytes s.machine l.pieces l.rbytes) (loaded_replay_lens s.machine l.pieces l.rlens)

  abbrev next : Store
  next = store (finish_loading_other_phase_machine s.machine l.pieces) s.disk

  lent_finished : q ≡ 0 → finished_lent l s q ≡ after
  lent_finished e = λ i. with_replay l (unless_done q l.rbytes after.rbytes e i) (unless_done q l.rlens after.rlens e i)

  pub finish_other_done : (z : SizedStore s) → StoreForm g l s → (t : Y.Variables) (dop : D.DiskOp)
      → Allowed g format limits (seen g l s) t (MachineStep dop (Source FinishLoadingOtherPhaseStep)) → Within g limits t (MachineStep dop (Source FinishLoadingOtherPhaseStep))
      → Done g l s t (MachineStep dop (Source FinishLoadingOtherPhaseStep))
  unfolding ask_picture step_answer_with step_lent_with both ask_both
  finish_other_done z f t dop a w =
      let k = machine_kind_ok g (machine_lent l) s.machine (machine_asked g l s (form_asks g l s z f a.meets)) in
      let c = clauses_finish_loading_other_phase g (machine_lent l) s.machine f.machine_lent_is k t.machine dop a.step.machine in
      let disk : (seen g l s).disk ≡ t.disk = disk_same g (seen g l s).disk t.disk dop c.1 a.step.disk in
      let machine : (seen g after next).machine ≡ t.machine = c.2 in
      done_asked g l s z f a.meets t (MachineStep dop (Source FinishLoadingOtherPhaseStep)) step.FinishLoadingOtherPhase (given [] [] [] []) op.NoDiskOp next after
      (subst (λ (o : D.DiskOp). Tied ledger.finish_other (MachineStep o (Source FinishLoadingOtherPhaseStep))) (sym c.1) tied_finish_other)
      refl (and_then q 0) (and_then_both q 0 c.0 refl) refl (lent_finished c.0)
      (λ i. record { machine = machine i; disk = disk i })
