-- A store that meets `Init`, on blocks of their size, meets question 2; so does a machine by itself, which is what a crash leaves.
use Rattle.std.specs.Prelude.{refl}
use Rattle.std.proofs.Common.{sym, ◌∙◌, ap, subst}
use Rattle.laws.specs.Choice.{ruin}
use Rattle.laws.specs.Sets.{Ids, empty_ids, Map, keys, AtMost, none_few, none_some, Two, at, at_both}
use Rattle.layout.specs.declared.Geometry.{Geometry}
use Rattle.layout.specs.declared.Location.{Location}
use Rattle.interval.specs.declared.JournalInterval.{JournalInterval}
use Rattle.codec.specs.Codec.{Sized}
use Rattle.source.specs.JournalDisk as D
use Rattle.source.specs.JournalCache as M
use Rattle.source.specs.JournalSystem as Y
use Rattle.source.specs.Limits.{Limits}
use Rattle.source.specs.Meets.{Joined, MachineMeets, DiskMeets, SystemMeets, awaited_superblock_reads, awaited_journal_reads, awaited_superblock_writes, awaited_journal_writes}

pub initial_meets : (g : Geometry) (L : Limits) (m : M.Variables) → M.Init m → MachineMeets g L m
initial_meets g L m e =
    subst (MachineMeets g L) (sym e)
    (record {
      inv =
          record {
            success_read = λ which superblock e. ruin (cc (at_both M.SuperblockReadResult.SuperblockUnfinished which));
            success_wf_is = λ which superblock e. ruin (cc (at_both M.SuperblockReadResult.SuperblockUnfinished which));
            corruption_read = λ which e. ruin (cc (at_both M.SuperblockReadResult.SuperblockUnfinished which));
          };
      counts = record { sync_few = none_few L.sync_reqs };
      shape = record { reads_differ = λ id p q. none_some refl p };
    })

init_disk : (g : Geometry) (L : Limits) (d : D.Variables) → D.Init g d → Sized d.journal → DiskMeets g L d
init_disk g L d h f =
    record {
      counts =
          record {
            superblock_reads_few = λ which. subst (AtMost L.superblockReads) (sym (ap (λ (t : Two Ids). at t which) h.no_superblock_reads ∙ at_both empty_ids which)) (none_few L.superblockReads);
            journal_reads_few = subst (λ (m : Map JournalInterval). AtMost L.journalReads (keys m)) (sym h.no_journal_reads) (none_few L.journalReads);
            journal_writes_few = subst (λ (m : Map JournalInterval). AtMost L.journalWrites (keys m)) (sym h.no_journal_writes) (none_few L.journalWrites);
          };
      shape =
          record {
            reads_contiguous = λ id v e. none_some (ap (λ (m : Map JournalInterval). m id) h.no_journal_reads) e;
            writes_contiguous = λ id v e. none_some (ap (λ (m : Map JournalInterval). m id) h.no_journal_writes) e;
            size = h.size;
            block_size = f;
          };
    }

init_joined : (g : Geometry) (s : Y.Variables) (loc : Location) → Y.Init g s loc → Joined g s
init_joined g s loc h =
    record {
      wf = h.wf;
      superblock_reads_is = h.disk.no_superblock_reads ∙ ap awaited_superblock_reads (sym h.machine);
      journal_reads_is = h.disk.no_journal_reads ∙ ap (awaited_journal_reads g) (sym h.machine);
      superblock_writes = h.disk.no_superblock_writes ∙ ap awaited_superblock_writes (sym h.machine);
      journal_writes_is = ap keys h.disk.no_journal_writes ∙ ap awaited_journal_writes (sym h.machine);
      writes_apart = λ id1 id2 v1 v2 p q o. none_some (ap (λ (m : Map JournalInterval). m id1) h.disk.no_journal_writes) p;
      writes_clear_is = λ id v p. none_some (ap (λ (m : Map JournalInterval). m id) h.disk.no_journal_writes) p;
    }

pub init_meets : (g : Geometry) (L : Limits) (s : Y.Variables) (loc : Location) → Y.Init g s loc → Sized s.disk.journal → SystemMeets g L s
init_meets g L s loc h f =
    record {
      machine = initial_meets g L s.machine h.machine;
      disk = init_disk g L s.disk h.disk f;
      joined = init_joined g s loc h;
    }
