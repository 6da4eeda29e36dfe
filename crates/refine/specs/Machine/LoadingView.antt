-- The machine's two loading kinds as 000's states. The sync requests come from elsewhere; the blocks of pieces lie in lent memory, the front's
-- first, the back's behind them.
use Rattle.std.specs.Prelude.{ℕ, ◌*◌, ◌≤◌, true, false, ◌≡◌, List, drop, replicate}
use Rattle.std.proofs.Math.Option.{Option, none, some}
use Rattle.laws.specs.Cut.{cut}
use Rattle.laws.specs.Sets.{Map, Two, at}
use Rattle.layout.specs.declared.Geometry.{Geometry}
use Rattle.superblock.specs.declared.Superblock.{Superblock}
use Rattle.codec.specs.Codec.{JournalRange}
use Rattle.source.specs.JournalDisk.{ReqId}
use Rattle.source.specs.JournalCache.{SyncReqStatus, SuperblockReadResult, SuperblockSuccess, SuperblockUnfinished, SuperblockCorruption, LoadingOtherVariables, LoadingSuperblockVariables, Variables, InvLoadingOther, InvLoadingSuperblock}
use Rattle.loading.specs.declared.SlotRead.{SlotRead}
use Rattle.loading.specs.declared.SlotRead.TheVariants as slot
use Rattle.loading.specs.declared.LoadingSuperblock.{LoadingSuperblock}
use Rattle.loading.specs.declared.Piece.{Piece}
use Rattle.loading.specs.declared.Piece.TheVariants as piece
use Rattle.loading.specs.declared.LoadingOther.{LoadingOther}
use Rattle.loading.specs.Which.{is_second}
use Rattle.loading.specs.Other.{front_blocks, back_blocks}

abbrev pub two : {A : Type 0} → A → A → Two A
two a b = record { first = a; second = b }

-- document 01's "so do the two journal reads, and the two superblock reads"
abbrev pub ReadsDiffer : Two (Option ReqId) → Type 0
ReadsDiffer reads = (id : ReqId) → at reads false ≡ some id → at reads true ≡ some id → ⊥

-- Superblocks: the id that is awaited, and what the read has come to

abbrev pub outstanding_read : SlotRead → Option ReqId
outstanding_read slot.Unasked = none
outstanding_read (slot.Awaited id) = some id
outstanding_read (slot.Success superblock) = none
outstanding_read slot.Corruption = none

abbrev pub read_result : SlotRead → SuperblockReadResult
read_result slot.Unasked = SuperblockUnfinished
read_result (slot.Awaited id) = SuperblockUnfinished
read_result (slot.Success superblock) = SuperblockSuccess superblock
read_result slot.Corruption = SuperblockCorruption

abbrev pub loading_superblock_of : LoadingSuperblock → Map SyncReqStatus → LoadingSuperblockVariables
loading_superblock_of s sync_reqs =
    record {
      outstanding_superblock_reads = two (outstanding_read s.first) (outstanding_read s.second);
      superblocks = two (read_result s.first) (read_result s.second);
      sync_reqs = sync_reqs;
    }

abbrev pub superblocks_seen : LoadingSuperblock → Map SyncReqStatus → Variables
superblocks_seen s sync_reqs = Variables.LoadingSuperblock (loading_superblock_of s sync_reqs)

-- question 2 of it, but for the sync requests: 000's invariant, and that the two reads differ
pub record LoadingSuperblockMeets (g : Geometry) (s : LoadingSuperblock) (sync_reqs : Map SyncReqStatus) : Type 0 where
  pub inv : InvLoadingSuperblock g (loading_superblock_of s sync_reqs)
  pub reads_differ : ReadsDiffer (loading_superblock_of s sync_reqs).outstanding_superblock_reads

-- Pieces of the journal: the id that is awaited, and the blocks of one that is in

-- the first n blocks of bytes
abbrev pub blocks_in : ℕ → List ℕ → JournalRange
blocks_in n bytes = cut (replicate n 4096) bytes

abbrev pub front_in : Geometry → List ℕ → Superblock → JournalRange
front_in g pieces superblock = blocks_in (front_blocks g superblock) pieces

abbrev pub back_in : Geometry → List ℕ → Superblock → JournalRange
back_in g pieces superblock = blocks_in (back_blocks g superblock) (drop (front_blocks g superblock * 4096) pieces)

abbrev pub awaited_read : Piece → Option ReqId
awaited_read piece.Unread = none
awaited_read (piece.Reading id) = some id
awaited_read piece.In = none

abbrev pub loaded_piece : Piece → JournalRange → Option JournalRange
loaded_piece piece.Unread jr = none
loaded_piece (piece.Reading id) jr = none
loaded_piece piece.In jr = some jr

abbrev pub loading_other_of : Geometry → List ℕ → LoadingOther → Map SyncReqStatus → LoadingOtherVariables
loading_other_of g pieces s sync_reqs =
    record {
      superblock = s.superblock;
      whichSuperblock = is_second s.whichSuperblock;
      journalReads = two (awaited_read s.front) (awaited_read s.back);
      journal_pieces = two (loaded_piece s.front (front_in g pieces s.superblock)) (loaded_piece s.back (back_in g pieces s.superblock));
      sync_reqs = sync_reqs;
    }

abbrev pub other_seen : Geometry → List ℕ → LoadingOther → Map SyncReqStatus → Variables
other_seen g pieces s sync_reqs = Variables.LoadingOther (loading_other_of g pieces s sync_reqs)

-- question 2 of it, but for the sync requests: 000's invariant, that the two reads differ, and what the record adds. That no read is awaited for a
-- piece already in is met by the type; that a piece has its interval's length by lent memory's.
pub record LoadingOtherMeets (g : Geometry) (pieces : List ℕ) (s : LoadingOther) (sync_reqs : Map SyncReqStatus) : Type 0 where
  pub inv : InvLoadingOther g (loading_other_of g pieces s sync_reqs)
  pub reads_differ : ReadsDiffer (loading_other_of g pieces s sync_reqs).journalReads
  pub which_in : s.whichSuperblock ≤ 1
