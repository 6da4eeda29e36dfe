-- The visible content of a store, as bytes in the order in which the check number takes them: the two slots, the journal's marks and the blocks
-- whose mark is 1, then what the machine's kind holds in lent memory.
use Rattle.std.specs.Prelude.{None, Some}
use Rattle.std.specs.declared.option.Option as code
use Rattle.std.specs.Prelude.{ℕ, ◌*◌, cond, List, [], ◌∷◌, ◌++◌, eqb, length, take, drop}
use Rattle.laws.specs.LowFirst.{low_first, each_low}
use Rattle.layout.specs.declared.Geometry.{Geometry}
use Rattle.superblock.specs.declared.Superblock.{Superblock}
use Rattle.requests.specs.Slots.{Slots}
use Rattle.loading.specs.declared.Piece.{Piece}
use Rattle.loading.specs.declared.Piece.TheVariants as piece
use Rattle.loading.specs.declared.LoadingOther.{LoadingOther}
use Rattle.loading.specs.Other.{front_blocks, back_blocks}
use Rattle.lengths.specs.Entries.{part, entries_held}
use Rattle.range.specs.declared.Count.{Count}
use Rattle.ready.specs.declared.Entries.{Entries}
use Rattle.machine.specs.declared.Kind.{Kind}
use Rattle.machine.specs.declared.Kind.TheVariants as kind
use Rattle.machine.specs.declared.Machine.{Machine}
use Rattle.machine.specs.Lent.{Lent}

-- a superblock is its five numbers, eight bytes each, low byte first
unfoldable pub superblock_bytes : Superblock → List ℕ
superblock_bytes s =
    low_first 8 s.counter
    ++ low_first 8 s.journalStart
    ++ low_first 8 s.journalLen
    ++ low_first 8 s.indirectionTableLoc.addr
    ++ low_first 8 s.indirectionTableLoc.len

unfoldable pub slot_bytes : code.Option Superblock → List ℕ
slot_bytes (Some s) = superblock_bytes s
slot_bytes None = []

unfoldable pub slots_bytes : Slots → List ℕ
slots_bytes s = slot_bytes s.first ++ slot_bytes s.second

-- a mark, and where it is 1 the first of these blocks
unfoldable pub marked_bytes : ℕ → List ℕ → List ℕ
marked_bytes mark blocks = mark ∷ cond (eqb mark 1) (take 4096 blocks) []

-- each mark, with its block
unfoldable pub journal_bytes : List ℕ → List ℕ → List ℕ
journal_bytes blocks [] = []
journal_bytes blocks (mark ∷ marks) = marked_bytes mark blocks ++ journal_bytes (drop 4096 blocks) marks

-- a piece that is in: so many blocks from one on
unfoldable pub piece_bytes : Piece → List ℕ → ℕ → ℕ → List ℕ
piece_bytes piece.Unread pieces from count = []
piece_bytes (piece.Reading id) pieces from count = []
piece_bytes piece.In pieces from count = take (count * 4096) (drop (from * 4096) pieces)

-- the front piece, and behind its blocks the back piece
unfoldable pub loaded_bytes : Geometry → LoadingOther → List ℕ → List ℕ
loaded_bytes g s pieces =
    piece_bytes s.front pieces 0 (front_blocks g s.superblock)
    ++ piece_bytes s.back pieces (front_blocks g s.superblock) (back_blocks g s.superblock)

-- the entries behind those that are taken, up to one: their lengths, then their bytes; nothing where they aren't held
unfoldable pub held_as : code.Option ℕ → List ℕ → List ℕ → List ℕ
held_as (Some n) lens bytes = each_low 2 lens ++ take n bytes
held_as None lens bytes = []

unfoldable pub held_bytes : List ℕ → List ℕ → Count → ℕ → List ℕ
held_bytes bytes lens taken to = held_as (entries_held (length bytes) lens taken.entries to) (part taken.entries to lens) (drop taken.bytes bytes)

-- the pending entries, frozen first, then those of the replay that aren't yet taken
unfoldable pub working_bytes : Entries → List ℕ → List ℕ → List ℕ → List ℕ → List ℕ
working_bytes e bytes lens rbytes rlens =
    held_bytes bytes lens (record { entries = 0; bytes = 0 }) e.pending
    ++ held_bytes rbytes rlens e.taken e.replay

-- what the machine's kind holds: the pieces that are in, or the entries
unfoldable pub kind_bytes : Kind → Geometry → Lent → Machine → List ℕ
kind_bytes kind.LoadingSuperblock g l m = []
kind_bytes kind.LoadingOther g l m = loaded_bytes g m.other l.pieces
kind_bytes kind.Ready g l m = working_bytes m.ready.entries l.bytes l.lens l.rbytes l.rlens

-- all of it: the disk's slots, blocks and marks, and the machine with the memory that is lent to it
unfoldable pub visible : Geometry → Lent → (blocks marks : List ℕ) → Slots → Machine → List ℕ
visible g l blocks marks slots m =
    slots_bytes slots
    ++ journal_bytes blocks marks
    ++ kind_bytes m.kind g l m
