-- The steps of a machine at work, after questions 1 and 2: what each asks, and the machine after it. An answer is taken in every kind: awaited by
-- nobody, it alters nothing.
use Rattle.std.specs.declared.option.Option as code
use Rattle.std.specs.Prelude.{ℕ, ◌+◌, Bool, cond, List, take, drop, None, Some, Result, Ok, Err}
use Rattle.laws.specs.Choice.{ask, and_then}
use Rattle.refusal.specs.declared.Refusal.{Refusal}
use Rattle.refusal.specs.Refusal.{ok_unless, number_of}
use Rattle.laws.specs.Splice.{splice, clipped}
use Rattle.layout.specs.declared.Geometry.{Geometry}
use Rattle.layout.specs.declared.Location.{Location}
use Rattle.layout.specs.Journal.{journal_pos_add}
use Rattle.superblock.specs.declared.Superblock.{Superblock}
use Rattle.superblock.specs.declared.DiskOp.{DiskOp}
use Rattle.superblock.specs.declared.DiskOp.TheVariants as op
use Rattle.tables.specs.declared.SyncTable.{SyncTable}
use Rattle.tables.specs.SyncTable.{moved_syncs}
use Rattle.range.specs.declared.Count.{Count}
use Rattle.memory.specs.Given.{memory, count_of, ask_given, ask_added}
use Rattle.memory.specs.Replay.{is_next}
use Rattle.writer.specs.Ring.{put_range}
use Rattle.loading.specs.Which.{ask_which}
use Rattle.ready.specs.declared.Bodies.{Bodies}
use Rattle.ready.specs.declared.Entries.{Entries}
use Rattle.ready.specs.declared.Ready.{Ready}
use Rattle.ready.specs.declared.JournalWrite.{JournalWrite}
use Rattle.ready.specs.State.{count, none_frozen, none_in_memory, awaits_id, commit_slot, replay_left, sent, left}
use Rattle.ready.specs.JournalSteps.{sent_blocks, ask_write_back_journal_req, write_back_journal_req_next, write_back_journal_resp_next}
use Rattle.ready.specs.CommitSteps.{ask_advance_log, advanced_log, advance_log_next, ask_advance_location, advanced_location, advance_location_next, write_back_superblock_resp_next}
use Rattle.ready.specs.FreezeSteps.{ask_freeze, freeze_next, ask_receive_frozen_loc, receive_frozen_loc_next}
use Rattle.ready.specs.EntrySteps.{advanced, ask_advance, advance_next, replay_next}
use Rattle.machine.specs.declared.Machine.{Machine}
use Rattle.machine.specs.declared.entry_steps.Added.{Added}
use Rattle.machine.specs.Machine.{limits_of, by_kind, ask_ready, with_ready, with_sync}

-- sync requests: State3 goes to State2 where entries are frozen or sent from memory, or a commit is requested with none there; State2 goes to
-- State1 where a commit is on disk
abbrev pub syncs3to2 : SyncTable → SyncTable
syncs3to2 t = moved_syncs 3 2 t

abbrev pub syncs2to1 : SyncTable → SyncTable
syncs2to1 t = moved_syncs 2 1 t

-- WriteBackJournalReq: 3, then 6 and 8
unfoldable pub ask_write_back_journal_req_step : Geometry → Machine → ℕ → code.Option ℕ → Bodies → ℕ
ask_write_back_journal_req_step g m id1 id2 b =
    and_then (ask_ready m)
    (ask_write_back_journal_req g m.ready id1 id2 b)

-- where the range goes
abbrev pub sent_start : Geometry → Machine → ℕ
sent_start g m = journal_pos_add g m.ready.superblock.journalStart m.ready.writtenJournalLen

abbrev pub write_back_journal_req_op : Geometry → Machine → ℕ → code.Option ℕ → Bodies → DiskOp
write_back_journal_req_op g m id1 id2 b = op.ReqWriteJournal id1 id2 (sent_start g m) (sent_blocks m.ready b)

-- what is sent, a range or a commit, moves sync requests at State3, where it moves any
unfoldable pub sent_sync : Bool → SyncTable → SyncTable
sent_sync moves t = cond moves (syncs3to2 t) t

unfoldable pub written_machine : Machine → ℕ → code.Option ℕ → ℕ → Machine
written_machine m id1 id2 written =
    with_sync (with_ready m (write_back_journal_req_next m.ready id1 id2 written))
    (sent_sync (none_frozen m.ready.entries) m.sync)

abbrev pub write_back_journal_req_machine : Machine → ℕ → code.Option ℕ → Bodies → Machine
write_back_journal_req_machine m id1 id2 b = written_machine m id1 id2 (m.ready.writtenJournalLen + sent_blocks m.ready b)

abbrev pub range_op : ℕ → code.Option ℕ → JournalWrite → DiskOp
range_op id1 id2 range = op.ReqWriteJournal id1 id2 range.start range.blocks

-- what is sent, and what is left of pending memory
abbrev pub sent_of : Machine → Bodies → Count
sent_of m b = sent m.ready.entries b

abbrev pub left_of : Machine → Bodies → Count
left_of m b = left m.ready.entries b

-- a memory of blocks with the range from block `start` on
abbrev pub sent_range : Machine → Bodies → (bytes lens blocks : List ℕ) → ℕ → List ℕ
sent_range m b bytes lens blocks start = put_range bytes lens (sent_of m b).entries (sent_of m b).bytes blocks start

-- pending memory with what is left moved to the front
abbrev pub moved_bytes : Machine → Bodies → List ℕ → List ℕ
moved_bytes m b bytes = splice bytes 0 (take (left_of m b).bytes (drop (sent_of m b).bytes bytes))

abbrev pub moved_lens : Machine → Bodies → List ℕ → List ℕ
moved_lens m b lens = splice lens 0 (take (left_of m b).entries (drop (sent_of m b).entries lens))

-- WriteBackJournalResp
abbrev pub write_back_journal_resp_op : ℕ → DiskOp
write_back_journal_resp_op id = op.RespWriteJournal id

unfoldable pub write_back_journal_resp_machine : Machine → ℕ → Machine
write_back_journal_resp_machine m id = by_kind {A = Machine} m.kind m m (with_ready m (write_back_journal_resp_next m.ready id))

-- both commits: the other slot gets the new superblock. What a request does to the sync requests is said here once: where no entry is in memory,
-- those at State3 go to State2
abbrev pub commit_op : Machine → ℕ → Superblock → DiskOp
commit_op m id new = op.ReqWriteSuperblock id (commit_slot m.ready) new

unfoldable pub commit_requested : Machine → Ready → Machine
commit_requested m ready = with_sync (with_ready m ready) (sent_sync (none_in_memory m.ready.entries) m.sync)

-- WriteBackSuperblockReq_AdvanceLog: 3 and 6
unfoldable pub ask_advance_log_step : Geometry → Machine → ℕ
ask_advance_log_step g m = and_then (ask_ready m) (ask_advance_log g m.ready)

abbrev pub advance_log_op : Machine → ℕ → DiskOp
advance_log_op m id = commit_op m id (advanced_log m.ready)

unfoldable pub advance_log_machine : Machine → ℕ → Machine
advance_log_machine m id = commit_requested m (advance_log_next m.ready id (advanced_log m.ready))

-- WriteBackSuperblockReq_AdvanceLocation: 3 and 6
unfoldable pub ask_advance_location_step : Geometry → Machine → ℕ
ask_advance_location_step g m = and_then (ask_ready m) (ask_advance_location g m.ready)

-- the location last received; the superblock's own where there is none, which question 6 refuses
abbrev pub received_or : code.Option Location → Location → Location
received_or (Some loc) old = loc
received_or None old = old

abbrev pub new_location : Machine → Location
new_location m = received_or m.ready.frozen.frozenLoc m.ready.superblock.indirectionTableLoc

abbrev pub advance_location_op : Geometry → Machine → ℕ → DiskOp
advance_location_op g m id = commit_op m id (advanced_location g m.ready (new_location m))

unfoldable pub advance_location_machine : Geometry → Machine → ℕ → Machine
advance_location_machine g m id = commit_requested m (advance_location_next m.ready id (advanced_location g m.ready (new_location m)))

-- WriteBackSuperblockResp: 4. Where a commit awaits the id it is done, and sync requests move on
abbrev pub ask_write_back_superblock_resp_step : ℕ → ℕ
ask_write_back_superblock_resp_step which = ask_which which

abbrev pub write_back_superblock_resp_op : ℕ → ℕ → DiskOp
write_back_superblock_resp_op which id = op.RespWriteSuperblock id which

unfoldable pub answered_sync : Bool → SyncTable → SyncTable
answered_sync awaited t = cond awaited (syncs2to1 t) t

unfoldable pub commit_answered : Machine → ℕ → Machine
commit_answered m id =
    with_sync (with_ready m (write_back_superblock_resp_next m.ready id))
    (answered_sync (awaits_id m.ready.commit id) m.sync)

unfoldable pub write_back_superblock_resp_machine : Machine → ℕ → Machine
write_back_superblock_resp_machine m id = by_kind {A = Machine} m.kind m m (commit_answered m id)

-- Freeze: 3 and 6
unfoldable pub ask_freeze_step : Machine → ℕ
ask_freeze_step m = and_then (ask_ready m) (ask_freeze m.ready)

unfoldable pub freeze_machine : Machine → Machine
freeze_machine m = with_sync (with_ready m (freeze_next m.ready)) (syncs3to2 m.sync)

-- ReceiveFrozenLoc: 3, then 4 and 6
unfoldable pub ask_receive_frozen_loc_step : Geometry → Machine → Location → ℕ
ask_receive_frozen_loc_step g m loc = and_then (ask_ready m) (ask_receive_frozen_loc g m.ready loc)

unfoldable pub receive_frozen_loc_machine : Machine → Location → Machine
receive_frozen_loc_machine m loc = with_ready m (receive_frozen_loc_next m.ready loc)

-- Advance: 3, then 4 and 13 of the entries that the caller brings, which were counted; 6 and 8
abbrev pub count_in : Result Count Refusal → Count
count_in (Ok c) = c
count_in (Err e) = count 0 0

-- those that the first k of what the caller brings are
abbrev pub given_of : List ℕ → List ℕ → ℕ → Result Count Refusal
given_of brought sizes k = ok_unless (ask_added (memory brought sizes k)) (count_of (memory brought sizes k))

unfoldable pub ask_advance_step : Machine → Bodies → Result Count Refusal → ℕ
ask_advance_step m b given =
    and_then (ask_ready m)
    (and_then (number_of given)
    (ask_advance (limits_of m) m.ready b.pending (count_in given)))

-- the entries that are added, and what pending memory holds then
abbrev pub added : Machine → Bodies → Count → Added
added m b new = record { new = new; all = advanced m.ready b.pending new }

unfoldable pub advance_machine : Machine → Bodies → Result Count Refusal → Machine
advance_machine m b given = with_ready m (advance_next m.ready (advanced m.ready b.pending (count_in given)).entries)

abbrev pub appended_bytes : Bodies → Count → List ℕ → List ℕ → List ℕ
appended_bytes b new brought bytes = clipped bytes b.pending (take new.bytes brought)

abbrev pub appended_lens : Machine → Count → List ℕ → List ℕ → List ℕ
appended_lens m new sizes lens = clipped lens m.ready.entries.pending (take new.entries sizes)

-- Replay: 3; 4 of the entries that the caller brings; 6, that they are the next of the replay
unfoldable pub ask_replay_given : Entries → (rbytes rlens brought sizes : List ℕ) → ℕ → ℕ
ask_replay_given e rbytes rlens brought sizes k =
    and_then (ask_given (memory brought sizes k))
    (ask 6 (is_next rbytes rlens (replay_left e) e.taken brought sizes (count_of (memory brought sizes k))))

unfoldable pub ask_replay_step : Machine → (rbytes rlens brought sizes : List ℕ) → ℕ → ℕ
ask_replay_step m rbytes rlens brought sizes k =
    and_then (ask_ready m)
    (ask_replay_given m.ready.entries rbytes rlens brought sizes k)

-- what is taken then
abbrev pub taken_then : Entries → Count → Count
taken_then e new = count (e.taken.entries + new.entries) (e.taken.bytes + new.bytes)

unfoldable pub replay_machine : Machine → Count → Machine
replay_machine m new = with_ready m (replay_next m.ready (taken_then m.ready.entries new))
