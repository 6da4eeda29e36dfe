-- A store of the right form has counts within the limits; and an event that a call comes to has arguments in range, where the entries that the call
-- brings are. Of a crash's event the journal that it leaves can be the picture.
use Rattle.std.specs.Prelude.{◌≤◌, ◌≡◌, refl, List, length}
use Rattle.std.proofs.Common.{arith}
use Rattle.laws.specs.Sets.{AtMost, keys}
use Rattle.layout.specs.declared.Geometry.{Geometry}
use Rattle.layout.specs.Geometry.{num_journal_blocks, ValidGeometry}
use Rattle.tables.specs.SyncTable.{SizedSyncs}
use Rattle.tables.proofs.Laws.Counts.{count_few}
use Rattle.tables.proofs.Laws.SyncTables.{syncs_few}
use Rattle.codec.specs.Codec.{JournalEntry, Sized, EntriesFit}
use Rattle.codec.specs.Format.{format}
use Rattle.source.specs.JournalSystem as Y
use Rattle.source.specs.Limits.{limits, MachineCounts, DiskCounts}
use Rattle.source.specs.Departures.{Event, CrashStep, Allowed}
use Rattle.source.specs.Within.{EventArguments, Within}
use Rattle.history.specs.Ledger as ledger
use Rattle.history.specs.Ledger.{Call}
use Rattle.history.specs.Statement.{Tied, tied_write, tied_written, unawaited_written, tied_log, tied_location, tied_committed, unawaited_committed, tied_page, tied_paged, tied_damaged, unawaited_paged, unawaited_damaged, tied_read, tied_superblock, tied_corrupt, unawaited_superblock, unawaited_corrupt, tied_finish_superblocks, tied_finish_other, tied_freeze, tied_receive, tied_add, tied_replay, tied_push, tied_pop, tied_no_op, tied_again, tied_land, tied_crash, Takes}
use Rattle.machine.specs.declared.Machine.{Machine}
use Rattle.machine.specs.Lent.{Lent}
use Rattle.refine.specs.Machine.ReadyForm.{pending_few_is, pending_small_is}
use Rattle.refine.specs.Machine.MachineView.{ready_lent, state_of, machine_of, syncs_of, SizedMachine, MachineLent, SyncForm, MachineForm}
use Rattle.refine.specs.Machine.MachineKinds.{by_kind_is}
use Rattle.refine.specs.Store.ReadyKept.{table_counted}
use Rattle.refine.specs.Store.MachineKept.{sync_counted}

-- The counts of a machine: its arrays and its lent memory have as many places as may be

module _ (g : Geometry) (l : Lent) (lent : MachineLent g l) where
  syncs_within : (m : Machine) → SizedSyncs m.sync → SyncForm m.sync → AtMost 32 (keys (syncs_of m))
  syncs_within m z f = let c = sync_counted m.sync z f in syncs_few m.sync state_of z 32 c 32 c.few

  pub form_counts : (m : Machine) → SizedMachine m → MachineForm l m → MachineCounts limits (machine_of g l m)
  form_counts m =
      by_kind_is (λ x. SizedMachine x → MachineForm l x → MachineCounts limits (machine_of g l x)) m
      (λ z f. record { sync_few = syncs_within m z.syncs f.sync })
      (λ z f. record { sync_few = syncs_within m z.syncs f.sync })
      (λ z f.
      let w = table_counted m.ready.writes z.writes f.kind.writes in
      let p = f.kind.pending in
      record {
        sync_few = syncs_within m z.syncs f.sync;
        writes_few = count_few 16 m.ready.writes.count m.ready.writes.ids w 16 w.few;
        pending_few = omega (arith, pending_few_is (ready_lent l) m.ready.entries p, p.there, lent.lens_lent);
        pending_small = omega (arith, pending_small_is (ready_lent l) m.ready.entries p, p.fit, lent.bytes_lent);
      })

-- The arguments of an event

-- what a call brings: few entries, each of an allowed length
pub record Few (es : List JournalEntry) : Type 0 where
  pub few : length es ≤ limits.step_entries
  pub fit : EntriesFit limits.entry_bytes es

abbrev pub Brings : Call → Type 0
Brings (ledger.add es) = Few es
Brings (ledger.replay es) = Few es
Brings (ledger.write_journal id1 id2) = Unit {0}
Brings (ledger.journal_written id) = Unit {0}
Brings (ledger.commit_log id) = Unit {0}
Brings (ledger.commit_location id) = Unit {0}
Brings (ledger.superblock_written id) = Unit {0}
Brings (ledger.read_journal which id) = Unit {0}
Brings (ledger.journal_read id whole) = Unit {0}
Brings (ledger.read_superblock which id) = Unit {0}
Brings (ledger.superblock_read which id whole) = Unit {0}
Brings ledger.finish_superblocks = Unit {0}
Brings ledger.finish_other = Unit {0}
Brings ledger.freeze = Unit {0}
Brings (ledger.receive loc) = Unit {0}
Brings (ledger.push_sync id) = Unit {0}
Brings (ledger.pop_sync id) = Unit {0}
Brings ledger.no_op = Unit {0}
Brings (ledger.ask_again which) = Unit {0}
Brings (ledger.land which) = Unit {0}
Brings ledger.crash = Unit {0}
Brings ledger.nonsense = Unit {0}

module _ (g : Geometry) (s t : Y.Variables) (valid : ValidGeometry g) (counts : MachineCounts limits t.machine) (diskCounts : DiskCounts limits t.disk)
    (size : length t.disk.journal ≡ num_journal_blocks g) (sized : Sized t.disk.journal) where
  -- the call comes to an event within the limits
  abbrev pub InRange : Call → Type 0
  InRange x = (h : Takes g format limits s t x) × Within g limits t h.event

  keep : (x : Call) (e : Event) → Tied x e → Allowed g format limits s t e → EventArguments g limits e → InRange x
  keep x e k a r = (record { event = e; tied = k; allowed = a }, record { geometry = valid; arguments = r; machine = counts; disk = diskCounts })

  in_range : (x : Call) (e : Event) → Tied x e → Allowed g format limits s t e → Brings x → InRange x
  in_range x e tied_write a b = keep x e tied_write a (record { few = omega arith; fit = tt })
  in_range x e tied_written a b = keep x e tied_written a (record { few = omega arith; fit = tt })
  in_range x e unawaited_written a b = keep x e unawaited_written a (record { few = omega arith; fit = tt })
  in_range x e tied_log a b = keep x e tied_log a (record { few = omega arith; fit = tt })
  in_range x e tied_location a b = keep x e tied_location a (record { few = omega arith; fit = tt })
  in_range x e tied_committed a b = keep x e tied_committed a (record { few = omega arith; fit = tt })
  in_range x e unawaited_committed a b = keep x e unawaited_committed a (record { few = omega arith; fit = tt })
  in_range x e tied_page a b = keep x e tied_page a (record { few = omega arith; fit = tt })
  in_range x e tied_paged a b = keep x e tied_paged a (record { few = omega arith; fit = tt })
  in_range x e tied_damaged a b = keep x e tied_damaged a tt
  in_range x e unawaited_paged a b = keep x e unawaited_paged a (record { few = omega arith; fit = tt })
  in_range x e unawaited_damaged a b = keep x e unawaited_damaged a (record { few = omega arith; fit = tt })
  in_range x e tied_read a b = keep x e tied_read a (record { few = omega arith; fit = tt })
  in_range x e tied_superblock a b = keep x e tied_superblock a (record { few = omega arith; fit = tt })
  in_range x e tied_corrupt a b = keep x e tied_corrupt a (record { few = omega arith; fit = tt })
  in_range x e unawaited_superblock a b = keep x e unawaited_superblock a (record { few = omega arith; fit = tt })
  in_range x e unawaited_corrupt a b = keep x e unawaited_corrupt a (record { few = omega arith; fit = tt })
  in_range x e tied_finish_superblocks a b = keep x e tied_finish_superblocks a (record { few = omega arith; fit = tt })
  in_range x e tied_finish_other a b = keep x e tied_finish_other a (record { few = omega arith; fit = tt })
  in_range x e tied_freeze a b = keep x e tied_freeze a (record { few = omega arith; fit = tt })
  in_range x e tied_receive a b = keep x e tied_receive a (record { few = omega arith; fit = tt })
  in_range x e tied_add a b = keep x e tied_add a (record { few = b.few; fit = b.fit })
  in_range x e tied_replay a b = keep x e tied_replay a (record { few = b.few; fit = b.fit })
  in_range x e tied_push a b = keep x e tied_push a (record { few = omega arith; fit = tt })
  in_range x e tied_pop a b = keep x e tied_pop a (record { few = omega arith; fit = tt })
  in_range x e tied_no_op a b = keep x e tied_no_op a (record { few = omega arith; fit = tt })
  in_range x e tied_again a b = keep x e tied_again a tt
  in_range x e tied_land a b = keep x e tied_land a tt
  in_range x e tied_crash a b =
      keep x (CrashStep t.disk.journal) tied_crash
      (record { meets = a.meets; step = record { machine = a.step.machine; disk = record { source = a.step.disk.source; from_picture = λ i h n. refl } } })
      (record { size = size; block_size = sized })

  pub takes_within : (x : Call) → Takes g format limits s t x → Brings x → InRange x
  takes_within x h b = in_range x h.event h.tied h.allowed b
