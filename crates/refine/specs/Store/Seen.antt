-- The store as source 004's state, and its calls as the ledger hears them. What record and lent memory add to the view stands in records of
-- its own.
use Rattle.std.specs.Prelude.{ℕ, Bool, cond, ◌≡◌, List, leb, length}
use Rattle.laws.specs.Choice.{also, and_then_left, and_then_right, and_then_both, ask_yes, ask_holds}
use Rattle.laws.specs.Optional.{option_of}
use Rattle.layout.specs.declared.Geometry.{Geometry}
use Rattle.range.specs.Memory.{view, total}
use Rattle.source.specs.JournalSystem as Y
use Rattle.source.specs.Limits.{limits}
use Rattle.source.specs.Meets.{Joined, SystemMeets}
use Rattle.history.specs.Ledger as ledger
use Rattle.history.specs.Ledger.{Call}
use Rattle.disk.specs.Questions.{ask_disk}
use Rattle.loading.specs.Which.{is_second}
use Rattle.store.specs.declared.Store.{Store}
use Rattle.store.specs.Lent.{Lent, machine_lent, ask_store, ask_rest}
use Rattle.calls.specs.declared.calls.Step.{Step}
use Rattle.calls.specs.declared.calls.Step.TheVariants as step
use Rattle.calls.specs.Given.{Given}
use Rattle.refine.specs.Disk.View.{SizedDisk}
use Rattle.refine.specs.Disk.Meets.{Met, disk_met, met_disk}
use Rattle.refine.specs.Machine.MachineView.{SizedMachine, MachineMet}
use Rattle.refine.specs.Machine.MachineMeets.{machine_met, met_machine}
use Rattle.refine.specs.Store.View.{store_of}
use Rattle.refine.specs.Store.Joined.{joined_met, met_joined}
use Rattle.std.proofs.Common.{arith}

abbrev pub seen : Geometry → Lent → Store → Y.Variables
seen g l s = store_of g (machine_lent l) l.blocks l.marks s.machine s.disk

-- what the code's types promise: the length of each array
pub record SizedStore (s : Store) : Type 0 where
  pub machine : SizedMachine s.machine
  pub disk : SizedDisk s.disk

-- question 2, whole: of the machine, of the disk, and of both together
pub record StoreMet (g : Geometry) (l : Lent) (s : Store) (z : SizedStore s) : Type 0 where
  pub machine : MachineMet g (machine_lent l) s.machine
  pub disk : Met g l.blocks l.marks s.disk z.disk
  pub joined : Joined g (seen g l s)

pub met_system : (g : Geometry) (l : Lent) (s : Store) (z : SizedStore s) → StoreMet g l s z → SystemMeets g limits (seen g l s)
met_system g l s z m = record { machine = m.machine.meets; disk = m.disk.meets; joined = m.joined }

-- questions 1 and 2 are answered yes exactly there
module _ (g : Geometry) (l : Lent) (s : Store) (z : SizedStore s) where
  pub store_met : ask_store g l s ≡ 0 → StoreMet g l s z
  unfolding ask_store ask_rest ask_disk
  store_met e =
      let q1 = and_then_left _ _ e in
      let e1 = and_then_right _ _ e in
      let m = machine_met g (machine_lent l) s.machine z.machine (and_then_left _ _ e1) in
      let rest = and_then_right _ _ e1 in
      let d = disk_met g l.blocks l.marks s.disk z.disk (and_then_both _ _ q1 (and_then_left _ _ rest)) in
      record {
        machine = m;
        disk = d;
        joined = joined_met g (machine_lent l) l.blocks l.marks s.machine s.disk z.disk m (ask_yes 2 _ (omega arith) (and_then_right _ _ rest));
      }

  pub met_store : StoreMet g l s z → ask_store g l s ≡ 0
  unfolding ask_store ask_rest ask_disk
  met_store m =
      let d = met_disk g l.blocks l.marks s.disk z.disk m.disk in
      and_then_both _ _ (and_then_left _ _ d)
      (and_then_both _ _ (met_machine g (machine_lent l) s.machine z.machine m.machine)
      (and_then_both _ _ (and_then_right _ _ d)
      (ask_holds 2 _ (met_joined g (machine_lent l) l.blocks l.marks s.machine s.disk z.disk m.machine m.disk m.joined))))

-- Calls. A third slot is nonsense, and so are entries whose lengths or bytes are not there.

abbrev pub named : ℕ → (Bool → Call) → Call
named which call = cond (leb which 1) (call (is_second which)) ledger.nonsense

abbrev pub entries_call : (brought sizes : List ℕ) → ℕ → Call → Call
entries_call brought sizes k call = cond (also (leb k (length sizes)) (leb (total sizes k) (length brought))) call ledger.nonsense

abbrev pub call_of : Given → Step → Call
call_of v (step.WriteBackJournalReq id1 id2) = ledger.write_journal id1 (option_of id2)
call_of v (step.WriteBackJournalResp id) = ledger.journal_written id
call_of v (step.AdvanceLog id) = ledger.commit_log id
call_of v (step.AdvanceLocation id) = ledger.commit_location id
call_of v (step.WriteBackSuperblockResp id) = ledger.superblock_written id
call_of v (step.PageInJournalReq which id) = named which (λ w. ledger.read_journal w id)
call_of v (step.PageInJournalResp id whole) = ledger.journal_read id whole
call_of v (step.PageInSuperblockReq which id) = named which (λ w. ledger.read_superblock w id)
call_of v (step.PageInSuperblockResp which id whole) = named which (λ w. ledger.superblock_read w id whole)
call_of v step.FinishLoadingSuperblockPhase = ledger.finish_superblocks
call_of v step.FinishLoadingOtherPhase = ledger.finish_other
call_of v step.Freeze = ledger.freeze
call_of v (step.ReceiveFrozenLoc loc) = ledger.receive loc
call_of v (step.Advance entries) = entries_call v.brought v.sizes entries (ledger.add (view v.brought v.sizes entries))
call_of v (step.Replay entries) = entries_call v.brought v.sizes entries (ledger.replay (view v.brought v.sizes entries))
call_of v (step.PushSyncReq id) = ledger.push_sync id
call_of v (step.PopSyncReq id) = ledger.pop_sync id
call_of v step.NoOp = ledger.no_op
call_of v (step.AskAgain which) = named which (λ w. ledger.ask_again w)
call_of v (step.Land which) = named which (λ w. ledger.land w)
call_of v step.Crash = ledger.crash
call_of v step.CrashInPlace = ledger.crash
