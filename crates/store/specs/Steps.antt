-- The store's steps after questions 1 and 2: the machine is asked all its questions, then the disk; then the next store, and the lent memory
-- after it. In the order of 000's Step; then ask again, landings and crashes.
use Rattle.superblock.specs.declared.Superblock.{Superblock}
use Rattle.std.specs.declared.option.Option as code
use Rattle.std.specs.Prelude.{ℕ, Bool, cond, List, Result, Ok, Err}
use Rattle.refusal.specs.declared.Refusal.{Refusal}
use Rattle.laws.specs.Choice.{and_then, unless}
use Rattle.layout.specs.declared.Geometry.{Geometry}
use Rattle.layout.specs.declared.Location.{Location}
use Rattle.interval.specs.declared.JournalInterval.{JournalInterval}
use Rattle.interval.specs.Interval.{interval}
use Rattle.superblock.specs.declared.JournalRead.{JournalRead}
use Rattle.superblock.specs.declared.JournalRead.TheVariants as read
use Rattle.superblock.specs.declared.DiskOp.{DiskOp}
use Rattle.superblock.specs.declared.DiskOp.TheVariants as op
use Rattle.journal.specs.Memory.{update_marks, copy_blocks}
use Rattle.memory.specs.Given.{memory, count_of}
use Rattle.loading.specs.declared.Paged.{Paged}
use Rattle.ready.specs.declared.Bodies.{Bodies}
use Rattle.ready.specs.JournalSteps.{sent_blocks}
use Rattle.machine.specs.declared.Machine.{Machine}
use Rattle.machine.specs.declared.MachineStepped.{MachineStepped}
use Rattle.machine.specs.Machine.{initial_machine}
use Rattle.machine.specs.Loading.{ask_page_in_journal_req_step, page_in_journal_req_op, page_in_journal_req_machine, paged_in, page_in_journal_resp_op, page_in_journal_resp_machine, ask_page_in_superblock_req_step, page_in_superblock_req_op, page_in_superblock_req_machine, ask_page_in_superblock_resp_step, page_in_superblock_resp_op, page_in_superblock_resp_machine, ask_finish_loading_superblock_phase_step, finish_loading_superblock_phase_machine, ask_loaded, finish_loading_other_phase_machine, loaded_replay_bytes, loaded_replay_lens, ask_ask_again_step, ask_again_machine}
use Rattle.machine.specs.Working.{sent_start, ask_write_back_journal_req_step, write_back_journal_req_op, write_back_journal_req_machine, sent_range, moved_bytes, moved_lens, write_back_journal_resp_op, write_back_journal_resp_machine, ask_advance_log_step, advance_log_op, advance_log_machine, ask_advance_location_step, advance_location_op, advance_location_machine, ask_write_back_superblock_resp_step, write_back_superblock_resp_op, write_back_superblock_resp_machine, ask_freeze_step, freeze_machine, ask_receive_frozen_loc_step, receive_frozen_loc_machine, ask_advance_step, advance_machine, appended_bytes, appended_lens, given_of, ask_replay_step, replay_machine}
use Rattle.machine.specs.Sync.{ask_push_sync_req, push_sync_req_machine, ask_pop_sync_req, pop_sync_req_machine}
use Rattle.disk.specs.declared.Disk.{Disk}
use Rattle.requests.specs.Slots.{slot_at, slot_of}
use Rattle.requests.specs.Acknowledge.{read_from, held_interval, ask_ack_read_journal}
use Rattle.disk.specs.Next.{ack_read_journal_next}
use Rattle.disk.specs.Operation.{ask_decision, operation_next}
use Rattle.requests.specs.Landing.{ask_land}
use Rattle.disk.specs.Next.{land_next}
use Rattle.crash.specs.Picture.{crashed_blocks, crashed_marks}
use Rattle.crash.specs.Whole.{crashed_disk}
use Rattle.store.specs.declared.Store.{Store}
use Rattle.store.specs.Store.{StoreStepped}
use Rattle.store.specs.Lent.{Lent, with_pending, with_pieces, with_replay, with_journal}
use Rattle.store.specs.Store.{store, refused, answered}

-- a step of the machine, and its operation at the disk: q is what the machine asks, next the machine after it
unfoldable pub ask_both : Geometry → Store → ℕ → DiskOp → ℕ
ask_both g s q op = and_then q (ask_decision g s.disk op)

unfoldable pub both : Geometry → Store → ℕ → DiskOp → Machine → StoreStepped
both g s q op next = answered (ask_both g s q op) op (store next (operation_next g s.disk op)) s

-- the same from what the machine answered
abbrev pub answered_by : Geometry → Store → Result DiskOp Refusal → Machine → StoreStepped
answered_by g s (Ok op) next = answered (ask_decision g s.disk op) op (store next (operation_next g s.disk op)) s
answered_by g s (Err e) next = refused s e

unfoldable pub both_by : Geometry → Store → MachineStepped → StoreStepped
both_by g s r = answered_by g s r.answer r.machine

-- WriteBackJournalReq: the range goes from pending memory into the ring, its blocks' marks become 1, and what is left of pending memory
-- moves to the front
abbrev pub write_op : Geometry → Store → ℕ → code.Option ℕ → Bodies → DiskOp
write_op g s id1 id2 b = write_back_journal_req_op g s.machine id1 id2 b

unfoldable pub ask_write_journal : Geometry → Store → ℕ → code.Option ℕ → Bodies → ℕ
ask_write_journal g s id1 id2 b = ask_both g s (ask_write_back_journal_req_step g s.machine id1 id2 b) (write_op g s id1 id2 b)

abbrev pub write_journal : Geometry → Store → ℕ → code.Option ℕ → Bodies → StoreStepped
write_journal g s id1 id2 b = both g s (ask_write_back_journal_req_step g s.machine id1 id2 b) (write_op g s id1 id2 b) (write_back_journal_req_machine s.machine id1 id2 b)

abbrev pub written_interval : Geometry → Store → Bodies → JournalInterval
written_interval g s b = interval (sent_start g s.machine) (sent_blocks s.machine.ready b)

abbrev pub written_blocks : Geometry → Store → Bodies → (bytes lens blocks : List ℕ) → List ℕ
written_blocks g s b bytes lens blocks = sent_range s.machine b bytes lens blocks (sent_start g s.machine)

abbrev pub written_marks : Geometry → Store → Bodies → List ℕ → List ℕ
written_marks g s b marks = update_marks marks (written_interval g s b)

abbrev pub written_lent : Geometry → Lent → Store → ℕ → Bodies → Lent
written_lent g l s q b =
    with_journal
    (with_pending l (unless q l.bytes (moved_bytes s.machine b l.bytes)) (unless q l.lens (moved_lens s.machine b l.lens)))
    (unless q l.blocks (written_blocks g s b l.bytes l.lens l.blocks))
    (unless q l.marks (written_marks g s b l.marks))

-- the interval of a journal write; none of any other operation
abbrev pub interval_of : DiskOp → JournalInterval
interval_of (op.ReqWriteJournal id1 id2 start count) = interval start count
interval_of (op.ReqReadSuperblock id which) = interval 0 0
interval_of (op.ReqReadJournal id v) = interval 0 0
interval_of (op.ReqWriteSuperblock id which superblock) = interval 0 0
interval_of (op.RespReadSuperblock id which superblock) = interval 0 0
interval_of (op.RespReadJournal id journal) = interval 0 0
interval_of (op.RespWriteSuperblock id which) = interval 0 0
interval_of (op.RespWriteJournal id) = interval 0 0
interval_of op.NoDiskOp = interval 0 0

-- WriteBackJournalResp: the machine refuses no answer
abbrev pub journal_written : Geometry → Store → ℕ → StoreStepped
journal_written g s id = both g s 0 (write_back_journal_resp_op id) (write_back_journal_resp_machine s.machine id)

-- WriteBackSuperblockReq_AdvanceLog, WriteBackSuperblockReq_AdvanceLocation
abbrev pub commit_log : Geometry → Store → ℕ → StoreStepped
commit_log g s id = both g s (ask_advance_log_step g s.machine) (advance_log_op s.machine id) (advance_log_machine s.machine id)

abbrev pub commit_location : Geometry → Store → ℕ → StoreStepped
commit_location g s id = both g s (ask_advance_location_step g s.machine) (advance_location_op g s.machine id) (advance_location_machine g s.machine id)

-- WriteBackSuperblockResp: of the slot whose write in flight has the id
abbrev pub superblock_written : Geometry → Store → ℕ → StoreStepped
superblock_written g s id =
    both g s
    (ask_write_back_superblock_resp_step (slot_of s.disk.superblockWrites id))
    (write_back_superblock_resp_op (slot_of s.disk.superblockWrites id) id)
    (write_back_superblock_resp_machine s.machine id)

-- PageInJournalReq
abbrev pub read_journal : Geometry → Store → ℕ → ℕ → StoreStepped
read_journal g s which id =
    both g s (ask_page_in_journal_req_step g s.machine which) (page_in_journal_req_op g s.machine which id) (page_in_journal_req_machine s.machine which id)

-- PageInJournalResp: whole, the disk's own blocks go to the place of the piece that awaits them
abbrev pub read_of : Bool → JournalRead
read_of whole = cond whole read.Whole read.Damaged

unfoldable pub ask_journal_read : Store → ℕ → Bool → List ℕ → ℕ
ask_journal_read s id whole marks = ask_ack_read_journal s.disk.journalReads id whole marks

abbrev pub journal_read : Store → ℕ → Bool → List ℕ → StoreStepped
journal_read s id whole marks =
    answered
    (ask_journal_read s id whole marks)
    (page_in_journal_resp_op id (read_of whole))
    (store (page_in_journal_resp_machine s.machine id (read_of whole)) (ack_read_journal_next s.disk id))
    s

abbrev pub copied_pieces : Paged → JournalInterval → (blocks pieces : List ℕ) → List ℕ
copied_pieces p v blocks pieces = copy_blocks blocks v.start p.len pieces p.place

abbrev pub read_pieces : Geometry → Store → ℕ → Bool → (blocks pieces : List ℕ) → List ℕ
read_pieces g s id whole blocks pieces = copied_pieces (paged_in g s.machine id (read_of whole)) (held_interval s.disk.journalReads id) blocks pieces

abbrev pub read_lent : Geometry → Lent → Store → ℕ → Bool → Lent
read_lent g l s id whole =
    with_pieces l (unless (ask_journal_read s id whole l.marks) l.pieces (read_pieces g s id whole l.blocks l.pieces))

-- PageInSuperblockReq
abbrev pub read_superblock : Geometry → Store → ℕ → ℕ → StoreStepped
read_superblock g s which id =
    both g s (ask_page_in_superblock_req_step s.machine which id) (page_in_superblock_req_op which id) (page_in_superblock_req_machine s.machine which id)

-- PageInSuperblockResp: whole, with what the slot holds
abbrev pub content_of : Store → ℕ → Bool → code.Option Superblock
content_of s which whole = read_from whole (slot_at s.disk.slots which)

abbrev pub superblock_read : Geometry → Store → ℕ → ℕ → Bool → StoreStepped
superblock_read g s which id whole =
    both g s
    (ask_page_in_superblock_resp_step which)
    (page_in_superblock_resp_op which id (content_of s which whole))
    (page_in_superblock_resp_machine g s.machine which id (content_of s which whole))

-- FinishLoadingSuperblockPhase
abbrev pub finish_superblocks : Geometry → Store → StoreStepped
finish_superblocks g s = both g s (ask_finish_loading_superblock_phase_step s.machine) op.NoDiskOp (finish_loading_superblock_phase_machine s.machine)

-- FinishLoadingOtherPhase
abbrev pub finish_other : Geometry → Store → (pieces rbytes rlens : List ℕ) → StoreStepped
finish_other g s pieces rbytes rlens =
    both g s (ask_loaded g s.machine pieces rbytes rlens) op.NoDiskOp (finish_loading_other_phase_machine s.machine pieces)

abbrev pub finished_lent : Lent → Store → ℕ → Lent
finished_lent l s q =
    with_replay l
    (unless q l.rbytes (loaded_replay_bytes s.machine l.pieces l.rbytes))
    (unless q l.rlens (loaded_replay_lens s.machine l.pieces l.rlens))

-- Freeze, ReceiveFrozenLoc
abbrev pub freeze : Geometry → Store → StoreStepped
freeze g s = both g s (ask_freeze_step s.machine) op.NoDiskOp (freeze_machine s.machine)

abbrev pub receive : Geometry → Store → Location → StoreStepped
receive g s loc = both g s (ask_receive_frozen_loc_step g s.machine loc) op.NoDiskOp (receive_frozen_loc_machine s.machine loc)

-- Advance, Replay
abbrev pub add : Geometry → Store → Bodies → (brought sizes : List ℕ) → ℕ → StoreStepped
add g s b brought sizes k =
    both g s (ask_advance_step s.machine b (given_of brought sizes k)) op.NoDiskOp (advance_machine s.machine b (given_of brought sizes k))

abbrev pub added_lent : Lent → Store → (brought sizes : List ℕ) → ℕ → ℕ → Bodies → Lent
added_lent l s brought sizes k q b =
    with_pending l
    (unless q l.bytes (appended_bytes b (count_of (memory brought sizes k)) brought l.bytes))
    (unless q l.lens (appended_lens s.machine (count_of (memory brought sizes k)) sizes l.lens))

abbrev pub replay : Geometry → Store → (rbytes rlens brought sizes : List ℕ) → ℕ → StoreStepped
replay g s rbytes rlens brought sizes k =
    both g s (ask_replay_step s.machine rbytes rlens brought sizes k) op.NoDiskOp (replay_machine s.machine (count_of (memory brought sizes k)))

-- PushSyncReq, PopSyncReq, NoOp
abbrev pub push_sync : Geometry → Store → ℕ → StoreStepped
push_sync g s id = both g s (ask_push_sync_req s.machine.sync id) op.NoDiskOp (push_sync_req_machine s.machine id)

abbrev pub pop_sync : Geometry → Store → ℕ → StoreStepped
pop_sync g s id = both g s (ask_pop_sync_req s.machine.sync id) op.NoDiskOp (pop_sync_req_machine s.machine id)

abbrev pub no_op : Geometry → Store → StoreStepped
no_op g s = both g s 0 op.NoDiskOp s.machine

-- ask again
abbrev pub ask_again : Geometry → Store → ℕ → StoreStepped
ask_again g s which = both g s (ask_ask_again_step s.machine which) op.NoDiskOp (ask_again_machine s.machine which)

-- a landing: the machine sees nothing of it
abbrev pub land : Store → ℕ → StoreStepped
land s which = answered (ask_land s.disk.superblockWrites which) op.NoDiskOp (store s.machine (land_next s.disk which)) s

-- a crash: the machine is Init's, and no request is left
abbrev pub crashed : Store → Store
crashed s = store initial_machine (crashed_disk s.disk)

abbrev pub crashed_lent : Lent → Store → (picture pictured : List ℕ) → Lent
crashed_lent l s picture pictured =
    with_journal l (crashed_blocks s.disk.journalWrites picture l.blocks) (crashed_marks s.disk.journalWrites pictured l.marks)
