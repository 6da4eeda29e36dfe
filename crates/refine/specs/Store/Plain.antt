-- What is alike in every call that leaves lent memory alone: from the answer to a yes of machine and disk, and from their two halves to a step that
-- the source allows. And what a call is called where its arguments are no nonsense.
use Rattle.std.specs.Prelude.{ℕ, ◌≤◌, Bool, cond, ◌≡◌, List, [], leb, length, Ok}
use Rattle.std.proofs.Common.{sym, ap, le-leb}
use Rattle.std.proofs.Math.Path.{subst}
use Rattle.laws.specs.Choice.{and_then, and_then_left, and_then_right, also_both}
use Rattle.layout.specs.declared.Geometry.{Geometry}
use Rattle.superblock.specs.declared.DiskOp.{DiskOp}
use Rattle.range.specs.Memory.{total}
use Rattle.codec.specs.Format.{format}
use Rattle.source.specs.Limits.{limits}
use Rattle.source.specs.Departures.{Step⁺, NextStep⁺, MachineStep}
use Rattle.history.specs.Ledger as ledger
use Rattle.history.specs.Ledger.{Call}
use Rattle.history.specs.Statement.{Tied, Takes}
use Rattle.loading.specs.Which.{is_second}
use Rattle.machine.specs.declared.Machine.{Machine}
use Rattle.disk.specs.Operation.{ask_decision, operation_next}
use Rattle.store.specs.declared.Store.{Store}
use Rattle.store.specs.Store.{StoreStepped}
use Rattle.store.specs.Store.{store}
use Rattle.store.specs.Lent.{Lent, machine_lent, ask_store}
use Rattle.store.specs.Steps.{ask_both, both}
use Rattle.store.specs.Laws.Answers.{asked_next, next_asked}
use Rattle.refine.specs.Machine.ReadyForm.{Given}
use Rattle.refine.specs.Machine.MachineView.{machine_of, operation_of}
use Rattle.refine.specs.Store.Seen.{seen, SizedStore, StoreMet, store_met, met_system, named, entries_call}
use Rattle.refine.specs.Store.Operations.{Plain, decided}

-- the machine's half: a step of its own, under the operation that goes to the disk, to which the call can come
pub record Moves (g : Geometry) (l : Lent) (s : Store) (op : DiskOp) (next : Machine) (x : Call) : Type 0 where
  pub step : Step⁺
  pub moves : NextStep⁺ g format (machine_of g (machine_lent l) s.machine) (machine_of g (machine_lent l) next) (operation_of op []) step
  pub tied : Tied x (MachineStep (operation_of op []) step)

module _ (g : Geometry) (l : Lent) (s : Store) (z : SizedStore s) where
  -- with the disk's half
  pub moves_takes : StoreMet g l s z → (op : DiskOp) (next : Machine) (x : Call) → Plain op → ask_decision g s.disk op ≡ 0 → Moves g l s op next x
      → Takes g format limits (seen g l s) (seen g l (store next (operation_next g s.disk op))) x
  moves_takes m op next x p e c =
      record {
        event = MachineStep (operation_of op []) c.step;
        tied = c.tied;
        allowed =
            record {
              meets = met_system g l s z m;
              step = record { machine = c.moves; disk = decided g l.blocks l.marks s.disk z.disk m.disk op p e };
            };
      }

  -- from the answer
  pub both_takes : ask_store g l s ≡ 0 → (q : ℕ) (op : DiskOp) (next : Machine) (x : Call) (o : DiskOp) → (both g s q op next).answer ≡ Ok o → Plain op
      → (StoreMet g l s z → q ≡ 0 → ask_decision g s.disk op ≡ 0 → Moves g l s op next x)
      → Takes g format limits (seen g l s) (seen g l (both g s q op next).store) x
  unfolding both ask_both
  both_takes e q op next x o h p f =
      let after : Store = store next (operation_next g s.disk op) in
      let k = next_asked (and_then q (ask_decision g s.disk op)) op after s o h in
      let m = store_met g l s z e in
      let d = and_then_right q (ask_decision g s.disk op) k.0 in
      subst (λ (r : StoreStepped). Takes g format limits (seen g l s) (seen g l r.store) x)
      (sym (asked_next (and_then q (ask_decision g s.disk op)) op after s k.0))
      (moves_takes m op next x p d (f m (and_then_left q (ask_decision g s.disk op) k.0) d))

-- a slot that is there, and entries that are
pub named_is : (which : ℕ) (call : Bool → Call) → which ≤ 1 → named which call ≡ call (is_second which)
named_is which call h = ap (λ (b : Bool). cond b (call (is_second which)) ledger.nonsense) (le-leb which 1 h)

pub entries_is : (brought sizes : List ℕ) (k : ℕ) (call : Call) → Given brought sizes k → entries_call brought sizes k call ≡ call
entries_is brought sizes k call h =
    ap (λ (b : Bool). cond b call ledger.nonsense)
    (also_both (leb k (length sizes)) (leb (total sizes k) (length brought)) (le-leb k (length sizes) h.there) (le-leb (total sizes k) (length brought) h.fit))
