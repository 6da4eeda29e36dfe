-- The machine's steps whole, in the order of 000's Step, as their promises cite them: what each call answers, and what it leaves in lent memory.
-- Questions 1 and 2 come first, then the step's own.
use Rattle.superblock.specs.declared.Superblock.{Superblock}
use Rattle.std.specs.declared.option.Option as code
use Rattle.std.specs.Prelude.{ℕ, List}
use Rattle.laws.specs.Choice.{and_then, unless}
use Rattle.layout.specs.declared.Geometry.{Geometry}
use Rattle.layout.specs.declared.Location.{Location}
use Rattle.superblock.specs.declared.JournalRead.{JournalRead}
use Rattle.superblock.specs.declared.DiskOp.TheVariants as op
use Rattle.journal.specs.Memory.{ask_blocks}
use Rattle.memory.specs.Given.{memory, count_of}
use Rattle.machine.specs.declared.Machine.{Machine}
use Rattle.machine.specs.declared.MachineStepped.{MachineStepped}
use Rattle.machine.specs.Machine.{answered}
use Rattle.machine.specs.Lent.{Lent}
use Rattle.machine.specs.Questions.{ask_machine, bodies_of}
use Rattle.machine.specs.Loading.{ask_page_in_journal_req_step, page_in_journal_req_op, page_in_journal_req_machine, paged_in, ask_piece, page_in_journal_resp_op, page_in_journal_resp_machine, paged_pieces, ask_page_in_superblock_req_step, page_in_superblock_req_op, page_in_superblock_req_machine, ask_page_in_superblock_resp_step, page_in_superblock_resp_op, page_in_superblock_resp_machine, ask_finish_loading_superblock_phase_step, finish_loading_superblock_phase_machine, ask_loaded, finish_loading_other_phase_machine, loaded_replay_bytes, loaded_replay_lens, ask_ask_again_step, ask_again_machine}
use Rattle.machine.specs.Working.{ask_write_back_journal_req_step, write_back_journal_req_op, write_back_journal_req_machine, sent_range, moved_bytes, moved_lens, write_back_journal_resp_op, write_back_journal_resp_machine, ask_advance_log_step, advance_log_op, advance_log_machine, ask_advance_location_step, advance_location_op, advance_location_machine, ask_write_back_superblock_resp_step, write_back_superblock_resp_op, write_back_superblock_resp_machine, ask_freeze_step, freeze_machine, ask_receive_frozen_loc_step, receive_frozen_loc_machine, ask_advance_step, advance_machine, appended_bytes, appended_lens, given_of, ask_replay_step, replay_machine}
use Rattle.machine.specs.Sync.{ask_push_sync_req, push_sync_req_machine, ask_pop_sync_req, pop_sync_req_machine}

-- WriteBackJournalReq: the range goes to the front of a lent buffer of N blocks, and what is left of pending memory moves to the front
unfoldable pub ask_machine_out : Geometry → Lent → Machine → List ℕ → ℕ
ask_machine_out g l m out = and_then (ask_blocks g out) (ask_machine g l m)

unfoldable pub ask_write : Geometry → Lent → Machine → ℕ → code.Option ℕ → List ℕ → ℕ
ask_write g l m id1 id2 out =
    and_then (ask_machine_out g l m out)
    (ask_write_back_journal_req_step g m id1 id2 (bodies_of l.lens m))

abbrev pub write_back_journal_req : Geometry → Lent → Machine → ℕ → code.Option ℕ → List ℕ → MachineStepped
write_back_journal_req g l m id1 id2 out =
    answered
    (ask_write g l m id1 id2 out)
    (write_back_journal_req_op g m id1 id2 (bodies_of l.lens m))
    (write_back_journal_req_machine m id1 id2 (bodies_of l.lens m))
    m

abbrev pub written_out : Geometry → Lent → Machine → ℕ → code.Option ℕ → List ℕ → List ℕ
written_out g l m id1 id2 out = unless (ask_write g l m id1 id2 out) out (sent_range m (bodies_of l.lens m) l.bytes l.lens out 0)

abbrev pub written_bytes : Geometry → Lent → Machine → ℕ → code.Option ℕ → List ℕ → List ℕ
written_bytes g l m id1 id2 out = unless (ask_write g l m id1 id2 out) l.bytes (moved_bytes m (bodies_of l.lens m) l.bytes)

abbrev pub written_lens : Geometry → Lent → Machine → ℕ → code.Option ℕ → List ℕ → List ℕ
written_lens g l m id1 id2 out = unless (ask_write g l m id1 id2 out) l.lens (moved_lens m (bodies_of l.lens m) l.lens)

-- WriteBackJournalResp
abbrev pub write_back_journal_resp : Geometry → Lent → Machine → ℕ → MachineStepped
write_back_journal_resp g l m id =
    answered
    (ask_machine g l m)
    (write_back_journal_resp_op id)
    (write_back_journal_resp_machine m id)
    m

-- WriteBackSuperblockReq_AdvanceLog, WriteBackSuperblockReq_AdvanceLocation
abbrev pub advance_log : Geometry → Lent → Machine → ℕ → MachineStepped
advance_log g l m id =
    answered
    (and_then (ask_machine g l m) (ask_advance_log_step g m))
    (advance_log_op m id)
    (advance_log_machine m id)
    m

abbrev pub advance_location : Geometry → Lent → Machine → ℕ → MachineStepped
advance_location g l m id =
    answered
    (and_then (ask_machine g l m) (ask_advance_location_step g m))
    (advance_location_op g m id)
    (advance_location_machine g m id)
    m

-- WriteBackSuperblockResp
abbrev pub write_back_superblock_resp : Geometry → Lent → Machine → ℕ → ℕ → MachineStepped
write_back_superblock_resp g l m which id =
    answered
    (and_then (ask_machine g l m) (ask_write_back_superblock_resp_step which))
    (write_back_superblock_resp_op which id)
    (write_back_superblock_resp_machine m id)
    m

-- PageInJournalReq
abbrev pub page_in_journal_req : Geometry → Lent → Machine → ℕ → ℕ → MachineStepped
page_in_journal_req g l m which id =
    answered
    (and_then (ask_machine g l m) (ask_page_in_journal_req_step g m which))
    (page_in_journal_req_op g m which id)
    (page_in_journal_req_machine m which id)
    m

-- PageInJournalResp: the blocks that were read are lent
unfoldable pub ask_paged : Geometry → Lent → Machine → ℕ → JournalRead → List ℕ → ℕ
ask_paged g l m id r new =
    and_then (ask_machine g l m)
    (ask_piece (paged_in g m id r) new)

abbrev pub page_in_journal_resp : Geometry → Lent → Machine → ℕ → JournalRead → List ℕ → MachineStepped
page_in_journal_resp g l m id r new =
    answered
    (ask_paged g l m id r new)
    (page_in_journal_resp_op id r)
    (page_in_journal_resp_machine m id r)
    m

abbrev pub page_in_journal_resp_pieces : Geometry → Lent → Machine → ℕ → JournalRead → List ℕ → List ℕ
page_in_journal_resp_pieces g l m id r new = unless (ask_paged g l m id r new) l.pieces (paged_pieces (paged_in g m id r) new l.pieces)

-- PageInSuperblockReq
abbrev pub page_in_superblock_req : Geometry → Lent → Machine → ℕ → ℕ → MachineStepped
page_in_superblock_req g l m which id =
    answered
    (and_then (ask_machine g l m) (ask_page_in_superblock_req_step m which id))
    (page_in_superblock_req_op which id)
    (page_in_superblock_req_machine m which id)
    m

-- PageInSuperblockResp
abbrev pub page_in_superblock_resp : Geometry → Lent → Machine → ℕ → ℕ → code.Option Superblock → MachineStepped
page_in_superblock_resp g l m which id r =
    answered
    (and_then (ask_machine g l m) (ask_page_in_superblock_resp_step which))
    (page_in_superblock_resp_op which id r)
    (page_in_superblock_resp_machine g m which id r)
    m

-- FinishLoadingSuperblockPhase
abbrev pub finish_loading_superblock_phase : Geometry → Lent → Machine → MachineStepped
finish_loading_superblock_phase g l m =
    answered
    (and_then (ask_machine g l m) (ask_finish_loading_superblock_phase_step m))
    op.NoDiskOp
    (finish_loading_superblock_phase_machine m)
    m

-- FinishLoadingOtherPhase: the loaded entries go to replay memory
unfoldable pub ask_finish : Geometry → Lent → Machine → ℕ
ask_finish g l m = and_then (ask_machine g l m) (ask_loaded g m l.pieces l.rbytes l.rlens)

abbrev pub finish_loading_other_phase : Geometry → Lent → Machine → MachineStepped
finish_loading_other_phase g l m =
    answered
    (ask_finish g l m)
    op.NoDiskOp
    (finish_loading_other_phase_machine m l.pieces)
    m

abbrev pub finished_bytes : Geometry → Lent → Machine → List ℕ
finished_bytes g l m = unless (ask_finish g l m) l.rbytes (loaded_replay_bytes m l.pieces l.rbytes)

abbrev pub finished_lens : Geometry → Lent → Machine → List ℕ
finished_lens g l m = unless (ask_finish g l m) l.rlens (loaded_replay_lens m l.pieces l.rlens)

-- Freeze
abbrev pub freeze : Geometry → Lent → Machine → MachineStepped
freeze g l m =
    answered
    (and_then (ask_machine g l m) (ask_freeze_step m))
    op.NoDiskOp
    (freeze_machine m)
    m

-- ReceiveFrozenLoc
abbrev pub receive_frozen_loc : Geometry → Lent → Machine → Location → MachineStepped
receive_frozen_loc g l m loc =
    answered
    (and_then (ask_machine g l m) (ask_receive_frozen_loc_step g m loc))
    op.NoDiskOp
    (receive_frozen_loc_machine m loc)
    m

-- Advance: the first k entries of what the caller brings come behind the pending ones
unfoldable pub ask_add : Geometry → Lent → Machine → List ℕ → List ℕ → ℕ → ℕ
ask_add g l m brought sizes k = and_then (ask_machine g l m) (ask_advance_step m (bodies_of l.lens m) (given_of brought sizes k))

abbrev pub advance : Geometry → Lent → Machine → List ℕ → List ℕ → ℕ → MachineStepped
advance g l m brought sizes k =
    answered
    (ask_add g l m brought sizes k)
    op.NoDiskOp
    (advance_machine m (bodies_of l.lens m) (given_of brought sizes k))
    m

abbrev pub advanced_bytes : Geometry → Lent → Machine → List ℕ → List ℕ → ℕ → List ℕ
advanced_bytes g l m brought sizes k =
    unless (ask_add g l m brought sizes k) l.bytes (appended_bytes (bodies_of l.lens m) (count_of (memory brought sizes k)) brought l.bytes)

abbrev pub advanced_lens : Geometry → Lent → Machine → List ℕ → List ℕ → ℕ → List ℕ
advanced_lens g l m brought sizes k =
    unless (ask_add g l m brought sizes k) l.lens (appended_lens m (count_of (memory brought sizes k)) sizes l.lens)

-- Replay
abbrev pub replay : Geometry → Lent → Machine → List ℕ → List ℕ → ℕ → MachineStepped
replay g l m brought sizes k =
    answered
    (and_then (ask_machine g l m) (ask_replay_step m l.rbytes l.rlens brought sizes k))
    op.NoDiskOp
    (replay_machine m (count_of (memory brought sizes k)))
    m

-- PushSyncReq, PopSyncReq
abbrev pub push_sync_req : Geometry → Lent → Machine → ℕ → MachineStepped
push_sync_req g l m id =
    answered
    (and_then (ask_machine g l m) (ask_push_sync_req m.sync id))
    op.NoDiskOp
    (push_sync_req_machine m id)
    m

abbrev pub pop_sync_req : Geometry → Lent → Machine → ℕ → MachineStepped
pop_sync_req g l m id =
    answered
    (and_then (ask_machine g l m) (ask_pop_sync_req m.sync id))
    op.NoDiskOp
    (pop_sync_req_machine m id)
    m

-- NoOp
abbrev pub no_op : Geometry → Lent → Machine → MachineStepped
no_op g l m = answered (ask_machine g l m) op.NoDiskOp m m

-- ask again
abbrev pub ask_again : Geometry → Lent → Machine → ℕ → MachineStepped
ask_again g l m which =
    answered
    (and_then (ask_machine g l m) (ask_ask_again_step m which))
    op.NoDiskOp
    (ask_again_machine m which)
    m
