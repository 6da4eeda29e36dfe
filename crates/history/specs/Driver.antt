-- The loading driver over the source's states: the call that it names, with an id for a new read, and how many calls are left until Ready. Slot 1 is
-- seen through, then slot 2, and the superblocks are finished; the front, the back and the end likewise. Ask again, request, answer and finishing
-- call count one each.
use Rattle.std.specs.Prelude.{ℕ, ◌+◌, Bool, true, false, ◌≡◌}
use Rattle.std.proofs.Math.Option.{Option, none, some}
use Rattle.layout.specs.declared.Geometry.{Geometry}
use Rattle.interval.specs.declared.JournalInterval.{JournalInterval}
use Rattle.superblock.specs.declared.Superblock.{Superblock}
use Rattle.superblock.specs.Superblock.{select_superblock}
use Rattle.laws.specs.Sets.{Two, at}
use Rattle.codec.specs.Codec.{JournalRange}
use Rattle.source.specs.JournalDisk as D
use Rattle.source.specs.JournalDisk.{ReqId}
use Rattle.source.specs.JournalCache as M
use Rattle.source.specs.JournalCache.{SuperblockReadResult, SuperblockSuccess, SuperblockUnfinished, SuperblockCorruption, journal_interval_of_superblock}
use Rattle.source.specs.JournalSystem as Y
use Rattle.history.specs.Ledger.{Call, read_journal, journal_read, read_superblock, superblock_read, finish_superblocks, finish_other, ask_again}

-- a slot: none where it was read
abbrev pub slot_next : ReqId → Bool → Option ReqId → SuperblockReadResult → Option Call
slot_next new which read (SuperblockSuccess v) = none
slot_next new which read SuperblockCorruption = some (ask_again which)
slot_next new which none SuperblockUnfinished = some (read_superblock which new)
slot_next new which (some id) SuperblockUnfinished = some (superblock_read which id true)

-- a piece: none where there is none, or it is in
abbrev pub piece_next : ReqId → Bool → Option JournalInterval → Option ReqId → Option JournalRange → Option Call
piece_next new which none read piece = none
piece_next new which (some v) read (some jr) = none
piece_next new which (some v) none none = some (read_journal which new)
piece_next new which (some v) (some id) none = some (journal_read id true)

abbrev pub or_else : Option Call → Call → Call
or_else none y = y
or_else (some x) y = x

-- none at Ready
abbrev pub next_call : Geometry → M.Variables → ReqId → Option Call
next_call g (M.Variables.Ready s) new = none
next_call g (M.Variables.LoadingOther s) new =
    some
    (or_else (piece_next new false (journal_interval_of_superblock g false s.superblock) (at s.journalReads false) (at s.journal_pieces false))
    (or_else (piece_next new true (journal_interval_of_superblock g true s.superblock) (at s.journalReads true) (at s.journal_pieces true))
    finish_other))
next_call g (M.Variables.LoadingSuperblock s) new =
    some
    (or_else (slot_next new false (at s.outstanding_superblock_reads false) (at s.superblocks false))
    (or_else (slot_next new true (at s.outstanding_superblock_reads true) (at s.superblocks true))
    finish_superblocks))

-- the disk holds no read under it
pub record New (d : D.Variables) (new : ReqId) : Type 0 where
  pub superblocks : (which : Bool) → at d.req_read_superblocks which new ≡ false
  pub journal : d.req_read_journals new ≡ none

-- How many are left

abbrev pub slot_left : Option ReqId → SuperblockReadResult → ℕ
slot_left read (SuperblockSuccess v) = 0
slot_left read SuperblockCorruption = 3
slot_left none SuperblockUnfinished = 2
slot_left (some id) SuperblockUnfinished = 1

abbrev pub piece_left : Option JournalInterval → Option ReqId → Option JournalRange → ℕ
piece_left none read piece = 0
piece_left (some v) read (some jr) = 0
piece_left (some v) none none = 2
piece_left (some v) (some id) none = 1

abbrev pub slots_left : M.LoadingSuperblockVariables → Bool → ℕ
slots_left s which = slot_left (at s.outstanding_superblock_reads which) (at s.superblocks which)

abbrev pub pieces_left : Geometry → M.LoadingOtherVariables → Bool → ℕ
pieces_left g s which = piece_left (journal_interval_of_superblock g which s.superblock) (at s.journalReads which) (at s.journal_pieces which)

-- the pieces of the superblock that two slots select, when none of them is asked for yet
abbrev pub selected_left : Geometry → Option Superblock → Option Superblock → Bool → ℕ
selected_left g none b which = 0
selected_left g (some a) none which = 0
selected_left g (some a) (some b) which = piece_left (journal_interval_of_superblock g which (select_superblock a b)) none none

abbrev pub left_at : Geometry → M.Variables → Two (Option Superblock) → ℕ
left_at g (M.Variables.Ready s) slots = 0
left_at g (M.Variables.LoadingOther s) slots = pieces_left g s false + pieces_left g s true + 1
left_at g (M.Variables.LoadingSuperblock s) slots =
    slots_left s false + slots_left s true + 1
    + (selected_left g slots.first slots.second false + selected_left g slots.first slots.second true + 1)

abbrev pub left : Geometry → Y.Variables → ℕ
left g s = left_at g s.machine s.disk.superblocks
