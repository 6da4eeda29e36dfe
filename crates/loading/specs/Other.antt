-- Loading the journal of the selected superblock: question 2's test of the record, and of each step its own questions and its effect; and
-- where a piece's blocks lie in lent memory: the front's from block 0 on, the back's behind them.
use Rattle.std.specs.Prelude.{None, Some}
use Rattle.std.specs.declared.option.Option as code
use Rattle.std.specs.Prelude.{ℕ, Bool, cond, leb}
use Rattle.std.proofs.Math.Option.{Option}
use Rattle.laws.specs.Choice.{also, ask, and_then}
use Rattle.layout.specs.declared.Geometry.{Geometry}
use Rattle.interval.specs.declared.JournalInterval.{JournalInterval}
use Rattle.laws.specs.Optional.{optional}
use Rattle.interval.specs.Interval.{interval}
use Rattle.superblock.specs.declared.Superblock.{Superblock}
use Rattle.superblock.specs.declared.JournalRead.{JournalRead}
use Rattle.superblock.specs.Superblock.{select_superblock_index, select_superblock, journal_front_interval_of_superblock, journal_back_interval_of_superblock, wf_superblock}
use Rattle.loading.specs.declared.Piece.{Piece}
use Rattle.loading.specs.declared.Piece.TheVariants as piece
use Rattle.loading.specs.declared.LoadingOther.{LoadingOther}
use Rattle.loading.specs.declared.Paged.{Paged}
use Rattle.loading.specs.Which.{is_second, ask_which}
use Rattle.loading.specs.Pieces.{is_there, blocks_of, piece_interval, piece_reads, piece_unread, piece_loaded, piece_reads_differ, without_read, piece_read}

-- the record that FinishLoadingSuperblockPhase makes
unfoldable pub selected_other : Superblock → Superblock → LoadingOther
selected_other superblock1 superblock2 =
    record {
      superblock = select_superblock superblock1 superblock2;
      whichSuperblock = select_superblock_index superblock1 superblock2;
      front = piece.Unread;
      back = piece.Unread;
    }

-- the two pieces of the superblock's interval, and their blocks
abbrev pub front_of : Geometry → Superblock → code.Option JournalInterval
front_of g superblock = optional (journal_front_interval_of_superblock g superblock)

abbrev pub back_of : Geometry → Superblock → code.Option JournalInterval
back_of g superblock = optional (journal_back_interval_of_superblock g superblock)

unfoldable pub front_blocks : Geometry → Superblock → ℕ
front_blocks g superblock = blocks_of (front_of g superblock)

unfoldable pub back_blocks : Geometry → Superblock → ℕ
back_blocks g superblock = blocks_of (back_of g superblock)

-- question 2: 000's InvLoadingOther, in which a piece's read and the piece itself are one clause; then that the two reads differ
unfoldable pub pieces_ok : Geometry → LoadingOther → Bool
pieces_ok g s =
    also (also (piece_interval s.front (front_of g s.superblock))
    (piece_interval s.back (back_of g s.superblock)))
    (piece_reads_differ s.front s.back)

unfoldable pub loading_other_ok : Geometry → LoadingOther → Bool
loading_other_ok g s =
    also (also (wf_superblock g s.superblock)
    (leb s.whichSuperblock 1))
    (pieces_ok g s)

-- the interval that a number names, its piece, and the record with other pieces
abbrev pub interval_at : Geometry → LoadingOther → ℕ → Option JournalInterval
interval_at g s which = cond (is_second which) (journal_back_interval_of_superblock g s.superblock) (journal_front_interval_of_superblock g s.superblock)

abbrev pub piece_at : LoadingOther → ℕ → Piece
piece_at s which = cond (is_second which) s.back s.front

abbrev pub to_pieces : LoadingOther → Piece → Piece → LoadingOther
to_pieces s front back = record { superblock = s.superblock; whichSuperblock = s.whichSuperblock; front = front; back = back }

-- PageInJournalReq: 4 which; 6 unless the piece is there and unread
unfoldable pub ask_page_in_journal_req : Geometry → LoadingOther → ℕ → ℕ
ask_page_in_journal_req g s which =
    and_then (ask_which which)
    (ask 6 (also (is_there (optional (interval_at g s which))) (piece_unread (piece_at s which))))

-- the interval that is asked for; the empty one where there is none
abbrev pub interval_of : code.Option JournalInterval → JournalInterval
interval_of (Some v) = v
interval_of None = interval 0 0

unfoldable pub page_in_journal_req_interval : Geometry → LoadingOther → ℕ → JournalInterval
page_in_journal_req_interval g s which = interval_of (optional (interval_at g s which))

-- the other piece's read under the same id is cleared
unfoldable pub page_in_journal_req_next : LoadingOther → ℕ → ℕ → LoadingOther
page_in_journal_req_next s which id =
    cond (is_second which)
    (to_pieces s (without_read s.front id) (piece.Reading id))
    (to_pieces s (piece.Reading id) (without_read s.back id))

-- PageInJournalResp: the piece whose read has the id takes the answer; awaited by nobody, it alters nothing
abbrev pub place : ℕ → ℕ → Paged
place at len = record { place = at; len = len }

unfoldable pub place_of : Geometry → LoadingOther → ℕ → Paged
place_of g s id =
    cond (piece_reads s.front id) (place 0 (front_blocks g s.superblock))
    (cond (piece_reads s.back id) (place (front_blocks g s.superblock) (back_blocks g s.superblock))
    (place 0 0))

unfoldable pub page_in_journal_resp_next : LoadingOther → ℕ → JournalRead → LoadingOther
page_in_journal_resp_next s id r =
    cond (piece_reads s.front id) (to_pieces s (piece_read r) s.back)
    (cond (piece_reads s.back id) (to_pieces s s.front (piece_read r))
    s)

-- FinishLoadingOtherPhase: 6 unless the pieces that are there are in; the blocks that are loaded
unfoldable pub ask_finish_loading_other_phase : Geometry → LoadingOther → ℕ
ask_finish_loading_other_phase g s = ask 6 (also (piece_loaded s.front (front_of g s.superblock)) (piece_loaded s.back (back_of g s.superblock)))

abbrev pub loaded_blocks : LoadingOther → ℕ
loaded_blocks s = s.superblock.journalLen
