-- The steps of a machine that loads, after questions 1 and 2: what each asks, and the machine after it. An answer is taken in every kind: awaited by
-- nobody, it alters nothing.
use Rattle.superblock.specs.declared.Superblock.{Superblock}
use Rattle.std.specs.declared.option.Option as code
use Rattle.std.specs.Prelude.{ℕ, ◌*◌, cond, List, eqb, length, take}
use Rattle.laws.specs.Choice.{and_then}
use Rattle.laws.specs.Cut.{flat, lengths}
use Rattle.laws.specs.Splice.{splice}
use Rattle.layout.specs.declared.Geometry.{Geometry}
use Rattle.interval.specs.Interval.{interval}
use Rattle.superblock.specs.declared.JournalRead.{JournalRead}
use Rattle.superblock.specs.declared.JournalRead.TheVariants as read
use Rattle.superblock.specs.declared.DiskOp.{DiskOp}
use Rattle.superblock.specs.declared.DiskOp.TheVariants as op
use Rattle.journal.specs.Memory.{ask_size, copy_blocks}
use Rattle.range.specs.Form.{all_entries}
use Rattle.unpacker.specs.Unpack.{ask_unpack}
use Rattle.loading.specs.declared.Paged.{Paged}
use Rattle.loading.specs.Which.{ask_which}
use Rattle.loading.specs.Superblocks.{ask_page_in_superblock_req, page_in_superblock_req_next, page_in_superblock_resp_next, ask_finish_loading_superblock_phase, finish_loading_superblock_phase_next, ask_ask_again, ask_again_next}
use Rattle.loading.specs.Other.{place, place_of, ask_page_in_journal_req, page_in_journal_req_interval, page_in_journal_req_next, page_in_journal_resp_next, ask_finish_loading_other_phase, loaded_blocks}
use Rattle.ready.specs.State.{loaded}
use Rattle.machine.specs.declared.Machine.{Machine}
use Rattle.machine.specs.Machine.{by_kind, ask_loading_superblock, ask_loading_other, with_superblocks, with_other, to_other, to_ready}

-- PageInJournalReq: 3, then 4 and 6
unfoldable pub ask_page_in_journal_req_step : Geometry → Machine → ℕ → ℕ
ask_page_in_journal_req_step g m which =
    and_then (ask_loading_other m)
    (ask_page_in_journal_req g m.other which)

abbrev pub page_in_journal_req_op : Geometry → Machine → ℕ → ℕ → DiskOp
page_in_journal_req_op g m which id = op.ReqReadJournal id (page_in_journal_req_interval g m.other which)

unfoldable pub page_in_journal_req_machine : Machine → ℕ → ℕ → Machine
page_in_journal_req_machine m which id = with_other m (page_in_journal_req_next m.other which id)

-- PageInJournalResp: where a whole answer's blocks go: to the place of the piece that awaits them; nowhere where nobody does, or where
-- they are damaged
abbrev pub whole_place : JournalRead → Paged → Paged
whole_place read.Whole p = p
whole_place read.Damaged p = place 0 0

unfoldable pub paged_in : Geometry → Machine → ℕ → JournalRead → Paged
paged_in g m id r = by_kind {A = Paged} m.kind (place 0 0) (whole_place r (place_of g m.other id)) (place 0 0)

-- question 4: blocks that go somewhere are as many as the piece's interval has
unfoldable pub ask_piece : Paged → List ℕ → ℕ
ask_piece p new = cond {A = ℕ} (eqb p.len 0) 0 (ask_size (interval p.place p.len) new)

abbrev pub page_in_journal_resp_op : ℕ → JournalRead → DiskOp
page_in_journal_resp_op id r = op.RespReadJournal id r

unfoldable pub page_in_journal_resp_machine : Machine → ℕ → JournalRead → Machine
page_in_journal_resp_machine m id r = by_kind {A = Machine} m.kind m (with_other m (page_in_journal_resp_next m.other id r)) m

unfoldable pub paged_pieces : Paged → List ℕ → List ℕ → List ℕ
paged_pieces p new pieces = copy_blocks new 0 p.len pieces p.place

-- PageInSuperblockReq: 3, then 4, 5 and 6
unfoldable pub ask_page_in_superblock_req_step : Machine → ℕ → ℕ → ℕ
ask_page_in_superblock_req_step m which id =
    and_then (ask_loading_superblock m)
    (ask_page_in_superblock_req m.superblocks which id)

abbrev pub page_in_superblock_req_op : ℕ → ℕ → DiskOp
page_in_superblock_req_op which id = op.ReqReadSuperblock id which

unfoldable pub page_in_superblock_req_machine : Machine → ℕ → ℕ → Machine
page_in_superblock_req_machine m which id = with_superblocks m (page_in_superblock_req_next m.superblocks which id)

-- PageInSuperblockResp: 4
abbrev pub ask_page_in_superblock_resp_step : ℕ → ℕ
ask_page_in_superblock_resp_step which = ask_which which

abbrev pub page_in_superblock_resp_op : ℕ → ℕ → code.Option Superblock → DiskOp
page_in_superblock_resp_op which id r = op.RespReadSuperblock id which r

unfoldable pub page_in_superblock_resp_machine : Geometry → Machine → ℕ → ℕ → code.Option Superblock → Machine
page_in_superblock_resp_machine g m which id r =
    by_kind {A = Machine} m.kind (with_superblocks m (page_in_superblock_resp_next g m.superblocks which id r)) m m

-- FinishLoadingSuperblockPhase: 3 and 6
unfoldable pub ask_finish_loading_superblock_phase_step : Machine → ℕ
ask_finish_loading_superblock_phase_step m =
    and_then (ask_loading_superblock m)
    (ask_finish_loading_superblock_phase m.superblocks)

unfoldable pub finish_loading_superblock_phase_machine : Machine → Machine
finish_loading_superblock_phase_machine m = to_other m (finish_loading_superblock_phase_next m.superblocks m.other)

-- FinishLoadingOtherPhase: 3 and 6; then 7 of the blocks that are loaded, whose entries go to replay memory. (Their question 1, that replay
-- memory has room for them, is the machine's.)
unfoldable pub ask_finish_loading_other_phase_step : Geometry → Machine → ℕ
ask_finish_loading_other_phase_step g m =
    and_then (ask_loading_other m)
    (ask_finish_loading_other_phase g m.other)

abbrev pub first_blocks : ℕ → List ℕ → List ℕ
first_blocks blocks pieces = take (blocks * 4096) pieces

abbrev pub loaded_bytes : Machine → List ℕ → List ℕ
loaded_bytes m pieces = first_blocks (loaded_blocks m.other) pieces

unfoldable pub ask_loaded : Geometry → Machine → (pieces rbytes rlens : List ℕ) → ℕ
ask_loaded g m pieces rbytes rlens =
    and_then (ask_finish_loading_other_phase_step g m)
    (ask_unpack (loaded_bytes m pieces) rbytes rlens)

unfoldable pub loaded_machine : Machine → ℕ → Machine
loaded_machine m replay = to_ready m (loaded m.other.superblock m.other.whichSuperblock replay)

abbrev pub finish_loading_other_phase_machine : Machine → List ℕ → Machine
finish_loading_other_phase_machine m pieces = loaded_machine m (length (all_entries (loaded_bytes m pieces)))

abbrev pub loaded_replay_bytes : Machine → List ℕ → List ℕ → List ℕ
loaded_replay_bytes m pieces rbytes = splice rbytes 0 (flat (all_entries (loaded_bytes m pieces)))

abbrev pub loaded_replay_lens : Machine → List ℕ → List ℕ → List ℕ
loaded_replay_lens m pieces rlens = splice rlens 0 (lengths (all_entries (loaded_bytes m pieces)))

-- ask again: 3, then 4 and 6
unfoldable pub ask_ask_again_step : Machine → ℕ → ℕ
ask_ask_again_step m which =
    and_then (ask_loading_superblock m)
    (ask_ask_again m.superblocks which)

unfoldable pub ask_again_machine : Machine → ℕ → Machine
ask_again_machine m which = with_superblocks m (ask_again_next m.superblocks which)
