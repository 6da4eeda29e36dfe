-- Every step of the machine and every operation of the disk keeps the lengths of the arrays that stand in their records.
use Rattle.std.specs.Prelude.{ℕ, Bool, cond, eqb, take, None, Some, Result}
use Rattle.std.specs.declared.option.Option as code
use Rattle.std.proofs.Math.Bool.{true, false}
use Rattle.layout.specs.declared.Geometry.{Geometry}
use Rattle.layout.specs.declared.Location.{Location}
use Rattle.interval.specs.declared.JournalInterval.{JournalInterval}
use Rattle.laws.specs.Optional.{optional}
use Rattle.refusal.specs.declared.Refusal.{Refusal}
use Rattle.interval.specs.Interval.{interval, journal_front_interval, journal_back_interval}
use Rattle.superblock.specs.declared.Superblock.{Superblock}
use Rattle.superblock.specs.declared.JournalRead.{JournalRead}
use Rattle.superblock.specs.declared.DiskOp.{DiskOp}
use Rattle.superblock.specs.declared.DiskOp.TheVariants as op
use Rattle.tables.specs.declared.IdTable.{IdTable}
use Rattle.tables.specs.declared.SyncTable.{SyncTable}
use Rattle.tables.specs.declared.IntervalTable.{IntervalTable}
use Rattle.tables.specs.Rows.{place_of}
use Rattle.tables.specs.IdTable.{SizedIds, added_id, joined_id, removed_id}
use Rattle.tables.specs.IntervalTable.{SizedIntervals}
use Rattle.tables.specs.SyncTable.{SizedSyncs}
use Rattle.tables.proofs.Laws.IdTables.{sized_added_ids, sized_joined_ids, sized_removed_ids, sized_no_ids}
use Rattle.tables.proofs.Laws.IntervalTables.{sized_no_intervals, sized_added_intervals, sized_removed_intervals}
use Rattle.tables.proofs.Laws.SyncTables.{sized_added_syncs, sized_removed_syncs, sized_moved_syncs}
use Rattle.range.specs.declared.Count.{Count}
use Rattle.ready.specs.declared.Commit.{Commit}
use Rattle.ready.specs.declared.Commit.TheVariants as commit
use Rattle.ready.specs.declared.Ready.{Ready}
use Rattle.ready.specs.declared.Bodies.{Bodies}
use Rattle.ready.specs.State.{none_frozen, none_in_memory, awaits_id, loaded}
use Rattle.ready.specs.JournalSteps.{joined_ids, write_back_journal_req_next, write_back_journal_resp_next}
use Rattle.ready.specs.CommitSteps.{log_committed, location_committed, answered, write_back_superblock_resp_next}
use Rattle.ready.specs.FreezeSteps.{freeze_next, receive_frozen_loc_next}
use Rattle.ready.specs.EntrySteps.{advance_next, replay_next}
use Rattle.machine.specs.declared.Kind.{Kind}
use Rattle.machine.specs.declared.Kind.TheVariants as kind
use Rattle.machine.specs.declared.Machine.{Machine}
use Rattle.machine.specs.Machine.{by_kind}
use Rattle.machine.specs.Sync.{push_sync_req_machine, pop_sync_req_machine}
use Rattle.machine.specs.Working.{sent_sync, written_machine, write_back_journal_resp_machine, commit_requested, advance_log_machine, advance_location_machine, answered_sync, commit_answered, write_back_superblock_resp_machine, freeze_machine, receive_frozen_loc_machine, advance_machine, replay_machine}
use Rattle.machine.specs.Loading.{page_in_journal_req_machine, page_in_journal_resp_machine, page_in_superblock_req_machine, page_in_superblock_resp_machine, finish_loading_superblock_phase_machine, loaded_machine, ask_again_machine}
use Rattle.requests.specs.Slots.{Slots, SuperblockReads, slot_at, put_slot}
use Rattle.disk.specs.declared.Disk.{Disk}
use Rattle.disk.specs.Disk.{idle_disk}
use Rattle.requests.specs.Receive.{read_received, added_part, write_received}
use Rattle.disk.specs.Next.{recv_read_superblock_next, recv_read_journal_next, recv_write_superblock_next, recv_write_journal_next}
use Rattle.requests.specs.Acknowledge.{read_acked, interval_left}
use Rattle.disk.specs.Next.{ack_read_superblock_next, ack_read_journal_next, ack_write_superblock_next, ack_write_journal_next}
use Rattle.disk.specs.Operation.{operation_next}
use Rattle.disk.specs.Next.{land_next}
use Rattle.refine.specs.Disk.View.{SizedDisk}
use Rattle.refine.specs.Disk.SuperblockReads.{reads_sized}
use Rattle.refine.specs.Machine.MachineView.{SizedMachine}

-- The disk

-- what holds of both slots' tables and of another holds with that one in its place
module _ (P : IdTable → Type 0) (r : SuperblockReads) (which : ℕ) (x : IdTable) (a : P r.first) (b : P r.second) (c : P x) where
  pub put_first : P (put_slot r which x).first
  unfolding put_slot
  put_first = go (eqb which 0)
    where
      go : (t : Bool) → P (cond {A = IdTable} t x r.first)
      go true = c
      go false = a

  pub put_second : P (put_slot r which x).second
  unfolding put_slot
  put_second = go (eqb which 0)
    where
      go : (t : Bool) → P (cond {A = IdTable} t r.second x)
      go true = b
      go false = c

part_sized : (t : IntervalTable) (id : ℕ) (v : code.Option JournalInterval) → SizedIntervals t → SizedIntervals (added_part t id v)
unfolding added_part
part_sized t id (Some v) l = sized_added_intervals t l id v
part_sized t id None l = l

written_sized : (g : Geometry) (t : IntervalTable) (id1 : ℕ) (id2 : code.Option ℕ) (v : JournalInterval) → SizedIntervals t → SizedIntervals (write_received g t id1 id2 v)
unfolding write_received
written_sized g t id1 (Some id) v l =
    part_sized (added_part t id1 (optional (journal_front_interval g v.start v.len))) id (optional (journal_back_interval g v.start v.len))
    (part_sized t id1 (optional (journal_front_interval g v.start v.len)) l)
written_sized g t id1 None v l = sized_added_intervals t l id1 v

left_sized : (t : IntervalTable) (id : ℕ) → SizedIntervals t → SizedIntervals (interval_left t id)
unfolding interval_left
left_sized t id l = sized_removed_intervals t l (place_of id (take t.count t.ids))

pub idle_sized : (slots : Slots) → SizedDisk (idle_disk slots)
idle_sized slots = record { reads1 = sized_no_ids; reads2 = sized_no_ids; journal_reads_is = sized_no_intervals; journal_writes_is = sized_no_intervals }

module _ (d : Disk) (z : SizedDisk d) where
  pub land_sized : (which : ℕ) → SizedDisk (land_next d which)
  unfolding land_next
  land_sized which = record { reads1 = z.reads1; reads2 = z.reads2; journal_reads_is = z.journal_reads_is; journal_writes_is = z.journal_writes_is }

  pub read_left_sized : (id : ℕ) → SizedDisk (ack_read_journal_next d id)
  unfolding ack_read_journal_next
  read_left_sized id = record { reads1 = z.reads1; reads2 = z.reads2; journal_reads_is = left_sized d.journalReads id z.journal_reads_is; journal_writes_is = z.journal_writes_is }

  at_sized : (which : ℕ) → SizedIds (slot_at d.superblockReads which)
  at_sized which = reads_sized d.superblockReads which z.reads1 z.reads2

  reads_put_sized : (which : ℕ) (x : IdTable) → SizedIds x
      → SizedDisk (record { slots = d.slots; superblockReads = put_slot d.superblockReads which x; superblockWrites = d.superblockWrites; journalReads = d.journalReads; journalWrites = d.journalWrites })
  reads_put_sized which x c =
      record {
        reads1 = put_first SizedIds d.superblockReads which x z.reads1 z.reads2 c;
        reads2 = put_second SizedIds d.superblockReads which x z.reads1 z.reads2 c;
        journal_reads_is = z.journal_reads_is;
        journal_writes_is = z.journal_writes_is;
      }

  pub operation_sized : (g : Geometry) (o : DiskOp) → SizedDisk (operation_next g d o)
  unfolding recv_read_superblock_next recv_read_journal_next recv_write_superblock_next recv_write_journal_next ack_read_superblock_next ack_write_superblock_next ack_write_journal_next read_received read_acked
  operation_sized g (op.ReqReadSuperblock id which) =
      reads_put_sized which (added_id (slot_at d.superblockReads which) id) (sized_added_ids (slot_at d.superblockReads which) (at_sized which) id)
  operation_sized g (op.ReqReadJournal id v) =
      record { reads1 = z.reads1; reads2 = z.reads2; journal_reads_is = sized_added_intervals d.journalReads z.journal_reads_is id v; journal_writes_is = z.journal_writes_is }
  operation_sized g (op.ReqWriteSuperblock id which superblock) =
      record { reads1 = z.reads1; reads2 = z.reads2; journal_reads_is = z.journal_reads_is; journal_writes_is = z.journal_writes_is }
  operation_sized g (op.ReqWriteJournal id1 id2 start count) =
      record { reads1 = z.reads1; reads2 = z.reads2; journal_reads_is = z.journal_reads_is; journal_writes_is = written_sized g d.journalWrites id1 id2 (interval start count) z.journal_writes_is }
  operation_sized g (op.RespReadSuperblock id which superblock) =
      let t : IdTable = slot_at d.superblockReads which in
      reads_put_sized which (removed_id t (place_of id (take t.count t.ids))) (sized_removed_ids t (at_sized which) (place_of id (take t.count t.ids)))
  operation_sized g (op.RespReadJournal id journal) = read_left_sized id
  operation_sized g (op.RespWriteSuperblock id which) =
      record { reads1 = z.reads1; reads2 = z.reads2; journal_reads_is = z.journal_reads_is; journal_writes_is = z.journal_writes_is }
  operation_sized g (op.RespWriteJournal id) =
      record { reads1 = z.reads1; reads2 = z.reads2; journal_reads_is = z.journal_reads_is; journal_writes_is = left_sized d.journalWrites id z.journal_writes_is }
  operation_sized g op.NoDiskOp = z

-- The machine

kind_sized : (k : Kind) (a b c : Machine) → SizedMachine a → SizedMachine b → SizedMachine c → SizedMachine (by_kind {A = Machine} k a b c)
kind_sized kind.LoadingSuperblock a b c x y w = x
kind_sized kind.LoadingOther a b c x y w = y
kind_sized kind.Ready a b c x y w = w

joined_sized : (t : IdTable) (id1 : ℕ) (id2 : code.Option ℕ) → SizedIds t → SizedIds (joined_ids t id1 id2)
joined_sized t id1 None l = sized_joined_ids t l id1
joined_sized t id1 (Some id2) l = sized_joined_ids (joined_id t id1) (sized_joined_ids t l id1) id2

sent_sized : (b : Bool) (t : SyncTable) → SizedSyncs t → SizedSyncs (sent_sync b t)
unfolding sent_sync
sent_sized true t l = sized_moved_syncs t l 3 2
sent_sized false t l = l

answered_syncs_sized : (b : Bool) (t : SyncTable) → SizedSyncs t → SizedSyncs (answered_sync b t)
unfolding answered_sync
answered_syncs_sized true t l = sized_moved_syncs t l 2 1
answered_syncs_sized false t l = l

-- a commit's answer leaves the ids of journal writes alone
committed_sized : (r : Ready) (id : ℕ) → SizedIds r.writes → SizedIds (write_back_superblock_resp_next r id).writes
unfolding write_back_superblock_resp_next log_committed location_committed
committed_sized r id l = go r.commit
  where
    by_log : (b : Bool) (new : Superblock) → SizedIds (cond {A = Ready} b (log_committed r new) r).writes
    by_log true new = l
    by_log false new = l

    by_location : (b : Bool) (new : Superblock) → SizedIds (cond {A = Ready} b (location_committed r new) r).writes
    by_location true new = l
    by_location false new = l

    go : (c : Commit) → SizedIds (answered r id c).writes
    go commit.CommitNone = l
    go (commit.CommitAdvanceLog k new) = by_log (eqb k id) new
    go (commit.CommitAdvanceLocation k new) = by_location (eqb k id) new

module _ (m : Machine) (z : SizedMachine m) where
  pub write_sized : (id1 : ℕ) (id2 : code.Option ℕ) (written : ℕ) → SizedMachine (written_machine m id1 id2 written)
  unfolding written_machine write_back_journal_req_next
  write_sized id1 id2 written =
      record { syncs = sent_sized (none_frozen m.ready.entries) m.sync z.syncs; writes = joined_sized m.ready.writes id1 id2 z.writes }

  pub journal_written_sized : (id : ℕ) → SizedMachine (write_back_journal_resp_machine m id)
  unfolding write_back_journal_resp_machine write_back_journal_resp_next
  journal_written_sized id =
      kind_sized m.kind m m _ z z
      (record { syncs = z.syncs; writes = sized_removed_ids m.ready.writes z.writes (place_of id (take m.ready.writes.count m.ready.writes.ids)) })

  pub commit_log_sized : (id : ℕ) → SizedMachine (advance_log_machine m id)
  unfolding advance_log_machine commit_requested
  commit_log_sized id = record { syncs = sent_sized (none_in_memory m.ready.entries) m.sync z.syncs; writes = z.writes }

  pub commit_location_sized : (g : Geometry) (id : ℕ) → SizedMachine (advance_location_machine g m id)
  unfolding advance_location_machine commit_requested
  commit_location_sized g id = record { syncs = sent_sized (none_in_memory m.ready.entries) m.sync z.syncs; writes = z.writes }

  pub superblock_written_sized : (id : ℕ) → SizedMachine (write_back_superblock_resp_machine m id)
  unfolding write_back_superblock_resp_machine commit_answered
  superblock_written_sized id =
      kind_sized m.kind m m _ z z
      (record { syncs = answered_syncs_sized (awaits_id m.ready.commit id) m.sync z.syncs; writes = committed_sized m.ready id z.writes })

  pub read_journal_sized : (which id : ℕ) → SizedMachine (page_in_journal_req_machine m which id)
  unfolding page_in_journal_req_machine
  read_journal_sized which id = record { syncs = z.syncs; writes = z.writes }

  pub journal_read_sized : (id : ℕ) (r : JournalRead) → SizedMachine (page_in_journal_resp_machine m id r)
  unfolding page_in_journal_resp_machine
  journal_read_sized id r = kind_sized m.kind m _ m z (record { syncs = z.syncs; writes = z.writes }) z

  pub read_superblock_sized : (which id : ℕ) → SizedMachine (page_in_superblock_req_machine m which id)
  unfolding page_in_superblock_req_machine
  read_superblock_sized which id = record { syncs = z.syncs; writes = z.writes }

  pub superblock_read_sized : (g : Geometry) (which id : ℕ) (r : code.Option Superblock) → SizedMachine (page_in_superblock_resp_machine g m which id r)
  unfolding page_in_superblock_resp_machine
  superblock_read_sized g which id r = kind_sized m.kind _ m m (record { syncs = z.syncs; writes = z.writes }) z z

  pub superblocks_done_sized : SizedMachine (finish_loading_superblock_phase_machine m)
  unfolding finish_loading_superblock_phase_machine
  superblocks_done_sized = record { syncs = z.syncs; writes = z.writes }

  pub loaded_sized : (replay : ℕ) → SizedMachine (loaded_machine m replay)
  unfolding loaded_machine loaded
  loaded_sized replay = record { syncs = z.syncs; writes = sized_no_ids }

  pub freeze_sized : SizedMachine (freeze_machine m)
  unfolding freeze_machine freeze_next
  freeze_sized = record { syncs = sized_moved_syncs m.sync z.syncs 3 2; writes = z.writes }

  pub receive_sized : (loc : Location) → SizedMachine (receive_frozen_loc_machine m loc)
  unfolding receive_frozen_loc_machine receive_frozen_loc_next
  receive_sized loc = record { syncs = z.syncs; writes = z.writes }

  pub add_sized : (b : Bodies) (given : Result Count Refusal) → SizedMachine (advance_machine m b given)
  unfolding advance_machine advance_next
  add_sized b given = record { syncs = z.syncs; writes = z.writes }

  pub replay_sized : (new : Count) → SizedMachine (replay_machine m new)
  unfolding replay_machine replay_next
  replay_sized new = record { syncs = z.syncs; writes = z.writes }

  pub push_sized : (id : ℕ) → SizedMachine (push_sync_req_machine m id)
  unfolding push_sync_req_machine
  push_sized id = record { syncs = sized_added_syncs m.sync z.syncs id 3; writes = z.writes }

  pub pop_sized : (id : ℕ) → SizedMachine (pop_sync_req_machine m id)
  unfolding pop_sync_req_machine
  pop_sized id = record { syncs = sized_removed_syncs m.sync z.syncs (place_of id (take m.sync.count m.sync.ids)); writes = z.writes }

  pub ask_again_sized : (which : ℕ) → SizedMachine (ask_again_machine m which)
  unfolding ask_again_machine
  ask_again_sized which = record { syncs = z.syncs; writes = z.writes }
