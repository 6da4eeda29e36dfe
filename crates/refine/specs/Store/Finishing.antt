-- FinishLoadingOtherPhase: the entries of the loaded blocks lie in replay memory then, and the disk stays.
use Rattle.std.specs.Prelude.{ℕ, ◌≡◌, Ok}
use Rattle.std.proofs.Math.Path.{refl}
use Rattle.laws.specs.Choice.{and_then, and_then_left, unless_done}
use Rattle.layout.specs.declared.Geometry.{Geometry}
use Rattle.superblock.specs.declared.DiskOp.{DiskOp}
use Rattle.superblock.specs.declared.DiskOp.TheVariants as op
use Rattle.codec.specs.Format.{format}
use Rattle.source.specs.JournalDisk as D
use Rattle.source.specs.JournalCache.{FinishLoadingOtherPhaseStep}
use Rattle.source.specs.Limits.{limits}
use Rattle.source.specs.Departures.{Source}
use Rattle.history.specs.Statement.{Takes, tied_finish_other}
use Rattle.machine.specs.Loading.{ask_loaded, finish_loading_other_phase_machine, loaded_replay_bytes, loaded_replay_lens}
use Rattle.store.specs.declared.Store.{Store}
use Rattle.store.specs.Store.{store}
use Rattle.store.specs.Lent.{Lent, machine_lent, ask_store, with_replay}
use Rattle.store.specs.Steps.{ask_both, both, finish_other, finished_lent}
use Rattle.calls.specs.declared.calls.Step.TheVariants as step
use Rattle.calls.specs.Given.{Given}
use Rattle.refine.specs.Machine.MachineFinish.{finish_loading_other_phase_clauses}
use Rattle.refine.specs.Store.Seen.{seen, SizedStore, store_met, call_of}
use Rattle.refine.specs.Store.Taken.{machine_asked, answered_takes, machine_takes}

module _ (g : Geometry) (l : Lent) (v : Given) (s : Store) where
  abbrev q : ℕ
  q = ask_loaded g s.machine l.pieces l.rbytes l.rlens

  -- lent memory with the loaded entries
  abbrev after : Lent
  after = with_replay l (loaded_replay_bytes s.machine l.pieces l.rbytes) (loaded_replay_lens s.machine l.pieces l.rlens)

  lent_finished : q ≡ 0 → finished_lent l s q ≡ after
  lent_finished e = λ i. with_replay l (unless_done q l.rbytes after.rbytes e i) (unless_done q l.rlens after.rlens e i)

  pub finish_other_takes : (z : SizedStore s) → ask_store g l s ≡ 0 → (o : DiskOp) → (finish_other g s l.pieces l.rbytes l.rlens).answer ≡ Ok o
      → Takes g format limits (seen g l s) (seen g (finished_lent l s q) (finish_other g s l.pieces l.rbytes l.rlens).store) (call_of v step.FinishLoadingOtherPhase)
  unfolding both ask_both
  finish_other_takes z e o a =
      let m = store_met g l s z e in
      let next : Store = store (finish_loading_other_phase_machine s.machine l.pieces) s.disk in
      answered_takes g l s (and_then q 0) op.NoDiskOp next (finished_lent l s q) after (call_of v step.FinishLoadingOtherPhase) o a
      (λ h. lent_finished (and_then_left q 0 h))
      (λ h.
      machine_takes g l s z m (seen g after next) (call_of v step.FinishLoadingOtherPhase) D.NoDiskOp (Source FinishLoadingOtherPhaseStep) tied_finish_other
      (finish_loading_other_phase_clauses g (machine_lent l) s.machine (machine_asked g l s e) (and_then_left q 0 h))
      (record { next = refl }))
