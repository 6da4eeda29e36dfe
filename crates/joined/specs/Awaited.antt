-- What a machine awaits, in the form in which the disk holds it. What its kind lacks, it does not await.
use Rattle.interval.specs.declared.JournalInterval.{JournalInterval}
use Rattle.std.specs.Prelude.{None, Some}
use Rattle.std.specs.declared.option.Option as code
use Rattle.std.specs.Prelude.{ℕ}
use Rattle.layout.specs.declared.Geometry.{Geometry}
use Rattle.tables.specs.declared.IdTable.{IdTable}
use Rattle.tables.specs.IdTable.{no_ids, added_id}
use Rattle.loading.specs.declared.SlotRead.{SlotRead}
use Rattle.loading.specs.declared.SlotRead.TheVariants as slot
use Rattle.loading.specs.declared.LoadingSuperblock.{LoadingSuperblock}
use Rattle.loading.specs.declared.Piece.{Piece}
use Rattle.loading.specs.declared.Piece.TheVariants as piece
use Rattle.loading.specs.declared.LoadingOther.{LoadingOther}
use Rattle.loading.specs.Other.{front_of, back_of}
use Rattle.ready.specs.declared.Commit.{Commit}
use Rattle.ready.specs.declared.Commit.TheVariants as commit
use Rattle.ready.specs.declared.Ready.{Ready}
use Rattle.ready.specs.State.{commit_slot}
use Rattle.machine.specs.declared.Machine.{Machine}
use Rattle.machine.specs.Machine.{by_kind}
use Rattle.requests.specs.Slots.{SuperblockReads, SuperblockWrites, put_slot, writing}
use Rattle.requests.specs.declared.SuperblockWrite.{SuperblockWrite}
use Rattle.joined.specs.declared.AwaitedRead.{AwaitedRead}
use Rattle.joined.specs.declared.AwaitedReads.{AwaitedReads}
use Rattle.joined.specs.declared.Awaited.{Awaited}

-- a slot's read
abbrev pub slot_ids : SlotRead → IdTable
slot_ids slot.Unasked = no_ids
slot_ids (slot.Awaited id) = added_id no_ids id
slot_ids (slot.Success superblock) = no_ids
slot_ids slot.Corruption = no_ids

-- a piece's read, of the interval that the superblock gives it
abbrev pub reading : ℕ → JournalInterval → code.Option AwaitedRead
reading id v = Some (record { id = id; interval = v })

abbrev pub read_under : ℕ → code.Option JournalInterval → code.Option AwaitedRead
read_under id (Some v) = reading id v
read_under id None = None

abbrev pub piece_awaited : Piece → code.Option JournalInterval → code.Option AwaitedRead
piece_awaited piece.Unread v = None
piece_awaited (piece.Reading id) v = read_under id v
piece_awaited piece.In v = None

unfoldable pub pieces_awaited : Geometry → LoadingOther → AwaitedReads
pieces_awaited g s =
    record {
      front = piece_awaited s.front (front_of g s.superblock);
      back = piece_awaited s.back (back_of g s.superblock);
    }

-- a commit's superblock write, to the slot that the machine does not stand on
abbrev pub commit_write : Commit → code.Option SuperblockWrite
commit_write commit.CommitNone = None
commit_write (commit.CommitAdvanceLog id new) = writing id new
commit_write (commit.CommitAdvanceLocation id new) = writing id new

abbrev pub no_reads : SuperblockReads
no_reads = record { first = no_ids; second = no_ids }

abbrev pub no_pieces : AwaitedReads
no_pieces = record { front = None; back = None }

abbrev pub no_writes : SuperblockWrites
no_writes = record { first = None; second = None }

unfoldable pub commit_writes : ℕ → Commit → SuperblockWrites
commit_writes which c = put_slot no_writes which (commit_write c)

-- by kind
unfoldable pub superblocks_await : LoadingSuperblock → Awaited
superblocks_await s =
    record {
      superblockReads = record { first = slot_ids s.first; second = slot_ids s.second };
      journalReads = no_pieces;
      superblockWrites = no_writes;
      journalWrites = no_ids;
    }

unfoldable pub other_awaits : Geometry → LoadingOther → Awaited
other_awaits g s =
    record {
      superblockReads = no_reads;
      journalReads = pieces_awaited g s;
      superblockWrites = no_writes;
      journalWrites = no_ids;
    }

unfoldable pub ready_awaits : Ready → Awaited
ready_awaits s =
    record {
      superblockReads = no_reads;
      journalReads = no_pieces;
      superblockWrites = commit_writes (commit_slot s) s.commit;
      journalWrites = s.writes;
    }

unfoldable pub awaited_by : Geometry → Machine → Awaited
awaited_by g m = by_kind m.kind (superblocks_await m.superblocks) (other_awaits g m.other) (ready_awaits m.ready)
