-- The store that `Init` gives: lent memory of its lengths, and two well-formed slots. Questions 1 and 2 are answered yes.
use Rattle.std.specs.Prelude.{ℕ, ◌≡◌, refl, List, Some}
use Rattle.std.proofs.Common.{sym, ◌∙◌, ap}
use Rattle.laws.specs.Sets.{Map, keys, no_keys, empty_ids, both, none_some}
use Rattle.layout.specs.declared.Geometry.{Geometry}
use Rattle.layout.specs.declared.Location.{Location}
use Rattle.interval.specs.declared.JournalInterval.{JournalInterval}
use Rattle.superblock.specs.declared.Superblock.{Superblock}
use Rattle.superblock.specs.Laws.{WFSuperblock}
use Rattle.superblock.specs.Superblock.{select_superblock}
use Rattle.tables.proofs.Laws.IdTables.{ids_empty}
use Rattle.tables.proofs.Laws.IntervalTables.{intervals_empty}
use Rattle.journal.specs.Cells.{length_cells}
use Rattle.journal.specs.Blocks.{cell_size}
use Rattle.source.specs.JournalSystem as Y
use Rattle.source.specs.Limits.{limits}
use Rattle.source.specs.Meets.{Joined, DiskMeets, SystemMeets, awaited_superblock_reads, awaited_journal_reads, awaited_superblock_writes, awaited_journal_writes}
use Rattle.source.proofs.Laws.Initial.{initial_meets}
use Rattle.machine.specs.Machine.{initial_machine}
use Rattle.requests.specs.Slots.{Slots}
use Rattle.disk.specs.Disk.{idle_disk}
use Rattle.store.specs.declared.Store.{Store}
use Rattle.store.specs.Store.{store}
use Rattle.store.specs.Lent.{Lent, machine_lent, ask_store}
use Rattle.refine.specs.Disk.View as disk
use Rattle.refine.specs.Disk.View.{disk_of}
use Rattle.refine.specs.Machine.MachineView.{MachineLent, machine_of}
use Rattle.refine.specs.Machine.MachineInitial.{initial_seen, initial_sized}
use Rattle.refine.specs.Store.Seen.{seen, SizedStore}
use Rattle.refine.specs.Store.Done.{StoreForm, form_asks}
use Rattle.refine.specs.Store.PartsSized.{idle_sized}
use Rattle.refine.specs.Store.DiskKept.{tabled_tables, tabled_counts, idle_tabled}
use Rattle.refine.specs.Store.LoadingKept.{initial_form}

abbrev pub fresh : Slots → Store
fresh slots = store initial_machine (idle_disk slots)

pub fresh_sized : (slots : Slots) → SizedStore (fresh slots)
fresh_sized slots = record { machine = initial_sized; disk = idle_sized slots }

-- a disk without requests, seen
pub idle_seen : (g : Geometry) (blocks marks : List ℕ) (slots : Slots)
    → ((disk_of g blocks marks (idle_disk slots)).req_read_superblocks ≡ both empty_ids)
    × ((disk_of g blocks marks (idle_disk slots)).req_read_journals ≡ no_keys)
    × ((disk_of g blocks marks (idle_disk slots)).req_write_journals ≡ no_keys)
idle_seen g blocks marks slots = ((λ i. record { first = ids_empty i; second = ids_empty i }), intervals_empty, intervals_empty)

module _ (g : Geometry) (l : Lent) (slots : Slots) where
  pub fresh_form : MachineLent g (machine_lent l) → disk.Lent g l.blocks l.marks → StoreForm g l (fresh slots)
  fresh_form m d =
      record { machine_lent_is = m; machine = initial_form (machine_lent l); disk_lent = d; tables = tabled_tables (idle_disk slots) (idle_tabled g slots) }

  fresh_joined : Y.WFDisk g (disk_of g l.blocks l.marks (idle_disk slots)) → Joined g (seen g l (fresh slots))
  fresh_joined wf =
      let e = initial_seen g (machine_lent l) in
      let k = idle_seen g l.blocks l.marks slots in
      record {
        wf = wf;
        superblock_reads_is = k.0 ∙ ap awaited_superblock_reads (sym e);
        journal_reads_is = k.1 ∙ ap (awaited_journal_reads g) (sym e);
        superblock_writes = ap awaited_superblock_writes (sym e);
        journal_writes_is = ap keys k.2 ∙ ap awaited_journal_writes (sym e);
        writes_apart = λ id1 id2 v1 v2 p q o. none_some (ap (λ (m : Map JournalInterval). m id1) k.2) p;
        writes_clear_is = λ id v p. none_some (ap (λ (m : Map JournalInterval). m id) k.2) p;
      }

  fresh_disk : disk.Lent g l.blocks l.marks → DiskMeets g limits (disk_of g l.blocks l.marks (idle_disk slots))
  fresh_disk d =
      let k = idle_seen g l.blocks l.marks slots in
      record {
        counts = tabled_counts g l.blocks l.marks (idle_disk slots) (idle_sized slots) (idle_tabled g slots);
        shape =
            record {
              reads_contiguous = λ id v e. none_some (ap (λ (m : Map JournalInterval). m id) k.1) e;
              writes_contiguous = λ id v e. none_some (ap (λ (m : Map JournalInterval). m id) k.2) e;
              size = length_cells g.blocks l.blocks l.marks;
              block_size = cell_size g.blocks l.blocks l.marks d.blocks_right.size;
            };
      }

  pub fresh_meets : disk.Lent g l.blocks l.marks → Y.WFDisk g (disk_of g l.blocks l.marks (idle_disk slots)) → SystemMeets g limits (seen g l (fresh slots))
  fresh_meets d wf =
      record { machine = initial_meets g limits (machine_of g (machine_lent l) initial_machine) (initial_seen g (machine_lent l)); disk = fresh_disk d; joined = fresh_joined wf }

-- two slots that hold well-formed superblocks
abbrev pub holding : Superblock → Superblock → Slots
holding a b = record { first = Some a; second = Some b }

-- `Init` passes
pub fresh_asks : (g : Geometry) (l : Lent) (a b : Superblock) → MachineLent g (machine_lent l) → disk.Lent g l.blocks l.marks → WFSuperblock g a → WFSuperblock g b
    → ask_store g l (fresh (holding a b)) ≡ 0
fresh_asks g l a b m d wa wb =
    form_asks g l (fresh (holding a b)) (fresh_sized (holding a b)) (fresh_form g l (holding a b) m d)
    (fresh_meets g l (holding a b) d
    (record { first = record { value = a; holds = refl; wf = wa }; second = record { value = b; holds = refl; wf = wb } }))

-- `Store::initial` of two well-formed slots is seen as an `Init`, where the superblock that they select has an empty journal at 0
pub fresh_init : (g : Geometry) (l : Lent) (a b : Superblock) (loc : Location) → WFSuperblock g a → WFSuperblock g b
    → (select_superblock a b).journalStart ≡ 0 → (select_superblock a b).journalLen ≡ 0 → (select_superblock a b).indirectionTableLoc ≡ loc
    → Y.Init g (seen g l (fresh (holding a b))) loc
fresh_init g l a b loc wa wb start len at-loc =
    let k = idle_seen g l.blocks l.marks (holding a b) in
    record {
      machine = initial_seen g (machine_lent l);
      disk =
          record {
            no_superblock_reads = k.0;
            no_journal_reads = k.1;
            no_superblock_writes = refl;
            no_journal_writes = k.2;
            size = length_cells g.blocks l.blocks l.marks;
          };
      wf = record { first = record { value = a; holds = refl; wf = wa }; second = record { value = b; holds = refl; wf = wb } };
      some1 = (a, refl);
      some2 = (b, refl);
      start_is = start;
      len_is = len;
      loc_is = at-loc;
    }
