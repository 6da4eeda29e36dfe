-- What is alike in the store's steps that alter lent memory: one number decides; of a yes the store is the next one, lent memory what the step makes of
-- it, and a step of the machine with the disk's own makes the event.
use Rattle.std.specs.Prelude.{ℕ, ◌≡◌, Ok}
use Rattle.std.proofs.Common.{sym, subst}
use Rattle.laws.specs.Choice.{and_then_left, and_then_right}
use Rattle.layout.specs.declared.Geometry.{Geometry}
use Rattle.superblock.specs.declared.DiskOp.{DiskOp}
use Rattle.codec.specs.Format.{format}
use Rattle.source.specs.JournalDisk as D
use Rattle.source.specs.JournalSystem as Y
use Rattle.source.specs.Limits.{limits}
use Rattle.source.specs.Departures.{Step⁺, NextStep⁺, MachineStep}
use Rattle.history.specs.Ledger.{Call}
use Rattle.history.specs.Statement.{Takes, Tied}
use Rattle.machine.specs.Questions.{ask_machine}
use Rattle.store.specs.declared.Store.{Store}
use Rattle.store.specs.Store.{answered}
use Rattle.store.specs.Lent.{Lent, machine_lent, ask_store}
use Rattle.store.specs.Laws.Answers.{next_asked, asked_next}
use Rattle.refine.specs.Store.Seen.{seen, SizedStore, StoreMet, met_system}

module _ (g : Geometry) (l : Lent) (s : Store) where
  -- of questions 1 and 2, the machine's
  pub machine_asked : ask_store g l s ≡ 0 → ask_machine g (machine_lent l) s.machine ≡ 0
  unfolding ask_store
  machine_asked e = and_then_left _ _ (and_then_right _ _ e)

  pub answered_takes : (q : ℕ) (op : DiskOp) (next : Store) (l' after : Lent) (x : Call) (o : DiskOp) → (answered q op next s).answer ≡ Ok o → (q ≡ 0 → l' ≡ after)
      → (q ≡ 0 → Takes g format limits (seen g l s) (seen g after next) x)
      → Takes g format limits (seen g l s) (seen g l' (answered q op next s).store) x
  answered_takes q op next l' after x o e same t =
      let h : q ≡ 0 = (next_asked q op next s o e).0 in
      subst (λ (y : Y.Variables). Takes g format limits (seen g l s) y x) (λ i. seen g (sym (same h) i) (sym (asked_next q op next s h) i).store) (t h)

  pub machine_takes : (z : SizedStore s) → StoreMet g l s z → (t : Y.Variables) (x : Call) (dop : D.DiskOp) (step : Step⁺) → Tied x (MachineStep dop step)
      → NextStep⁺ g format (seen g l s).machine t.machine dop step
      → D.Next g (seen g l s).disk t.disk dop
      → Takes g format limits (seen g l s) t x
  machine_takes z m t x dop step tied a b =
      record { event = MachineStep dop step; tied = tied; allowed = record { meets = met_system g l s z m; step = record { machine = a; disk = b } } }
