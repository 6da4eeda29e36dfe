-- The machine as a crash leaves it is 000's Init: no slot asked for, and no sync request. It meets question 2.
use Rattle.std.specs.Prelude.{ℕ, true, ◌≡◌, refl, []}
use Rattle.std.proofs.Common.{sym, ◌∙◌, ap, arith}
use Rattle.laws.specs.Choice.{false_true, ruin}
use Rattle.laws.specs.Fold.{every}
use Rattle.laws.specs.Sets.{Map, each, keys, AtMost, Distinct}
use Rattle.layout.specs.declared.Geometry.{Geometry}
use Rattle.tables.specs.IdTable.{SizedIds}
use Rattle.tables.specs.SyncTable.{no_syncs, sync_map, valid_states}
use Rattle.tables.proofs.Laws.IdTables.{sized_no_ids}
use Rattle.tables.proofs.Laws.SyncTables.{states_empty, sized_no_syncs}
use Rattle.loading.specs.Superblocks.{initial, loading_superblock_ok}
use Rattle.loading.specs.Laws.Superblocks.{facts_loading_superblock}
use Rattle.ready.specs.State.{loaded}
use Rattle.source.specs.JournalCache as M
use Rattle.machine.specs.Machine.{no_superblock, initial_machine}
use Rattle.machine.specs.Lent.{Lent}
use Rattle.refine.specs.Machine.LoadingView.{superblocks_seen}
use Rattle.refine.specs.Machine.LoadingSuperblock.{superblock_meets}
use Rattle.refine.specs.Machine.MachineView.{state_of, machine_of, SizedMachine, SyncForm, MachineLent, MachineMet}

pub initial_seen : (g : Geometry) (l : Lent) → M.Init (machine_of g l initial_machine)
unfolding initial_machine
initial_seen g l = ap (λ m. superblocks_seen initial (each state_of m)) states_empty

-- its arrays have their lengths
no_writes : SizedIds (loaded no_superblock 0 0).writes
unfolding loaded
no_writes = sized_no_ids

pub initial_sized : SizedMachine initial_machine
unfolding initial_machine
initial_sized = record { syncs = sized_no_syncs; writes = no_writes }

-- no sync request, and no slot asked for
no_syncs_form : SyncForm no_syncs
unfolding Distinct valid_states every
no_syncs_form = record { in_array = omega arith; differ = tt; states = refl }

no_syncs_few : AtMost 32 (keys (sync_map state_of no_syncs))
no_syncs_few =
    record {
      listed = [];
      few = omega arith;
      all = λ i e. false_true (sym (ap (λ (m : Map ℕ). keys (each state_of m) i) states_empty) ∙ e);
    }

initial_ok : (g : Geometry) → loading_superblock_ok g initial ≡ true
initial_ok g =
    facts_loading_superblock g initial
    (record {
      first_wf = λ superblock e. ruin (cc);
      second_wf = λ superblock e. ruin (cc);
      reads_differ = λ id p q. ruin (cc);
    })

-- whatever memory is lent, if it has the right lengths
pub initial_met : (g : Geometry) (l : Lent) → MachineLent g l → MachineMet g l initial_machine
unfolding initial_machine
initial_met g l t =
    let h = superblock_meets initial (sync_map state_of no_syncs) g (initial_ok g) in
    record {
      lent = t;
      form = record { sync = no_syncs_form; kind = tt };
      meets = record { inv = h.inv; counts = record { sync_few = no_syncs_few }; shape = record { reads_differ = h.reads_differ } };
    }
