-- The questions of what waits at a disk have the numbers of refusals, so a no's number is its question's. Assumes nothing.
use Rattle.std.specs.declared.option.Option as code
use Rattle.std.specs.Prelude.{ℕ, ◌≤◌, Bool, true, false, cond, List}
use Rattle.std.proofs.Common.{rules, arith}
use Rattle.refusal.specs.Refusal.{small_ask, small_then}
use Rattle.layout.specs.declared.Geometry.{Geometry}
use Rattle.interval.specs.declared.JournalInterval.{JournalInterval}
use Rattle.superblock.specs.declared.Superblock.{Superblock}
use Rattle.journal.specs.Memory.{ask_readable}
use Rattle.journal.specs.Bounds.{small_readable}
use Rattle.tables.specs.declared.IntervalTable.{IntervalTable}
use Rattle.tables.specs.Bounds.{small_add}
use Rattle.requests.specs.Slots.{Slots, SuperblockReads, SuperblockWrites, ask_which}
use Rattle.requests.specs.Receive.{ask_recv_read_superblock, ask_recv_read_journal, ask_recv_write_superblock, ask_new_ids, ask_rows, ask_recv_write_journal}
use Rattle.requests.specs.Acknowledge.{ask_waiting, ask_ack_read_superblock, ask_read_superblock_as, held_interval, ask_ack_read_journal, ask_ack_write_superblock, ask_ack_write_journal}
use Rattle.requests.specs.Landing.{ask_land}

pub small_which : (which : ℕ) → ask_which which ≤ 13
unfolding ask_which
small_which which = search (rules, small_ask)

-- of a request
pub small_recv_read_superblock : (r : SuperblockReads) (which id : ℕ) → ask_recv_read_superblock r which id ≤ 13
unfolding ask_recv_read_superblock
small_recv_read_superblock r which id = search (rules, small_then, small_ask, small_which)

pub small_recv_read_journal : (g : Geometry) (t : IntervalTable) (id : ℕ) (v : JournalInterval) → ask_recv_read_journal g t id v ≤ 13
unfolding ask_recv_read_journal
small_recv_read_journal g t id v = search (rules, small_then, small_ask, small_add)

pub small_recv_write_superblock : (w : SuperblockWrites) (which id : ℕ) → ask_recv_write_superblock w which id ≤ 13
unfolding ask_recv_write_superblock
small_recv_write_superblock w which id = search (rules, small_then, small_ask, small_which)

pub small_new_ids : (t : IntervalTable) (id1 : ℕ) (id2 : code.Option ℕ) → ask_new_ids t id1 id2 ≤ 13
unfolding ask_new_ids
small_new_ids t id1 id2 = search (rules, small_ask)

pub small_rows : (t : IntervalTable) (straight : Bool) (id1 : ℕ) (id2 : code.Option ℕ) → ask_rows t straight id1 id2 ≤ 13
unfolding ask_rows
small_rows t straight id1 id2 = search (rules, small_then, small_ask)

pub small_recv_write_journal : (g : Geometry) (t : IntervalTable) (id1 : ℕ) (id2 : code.Option ℕ) (v : JournalInterval) → ask_recv_write_journal g t id1 id2 v ≤ 13
unfolding ask_recv_write_journal
small_recv_write_journal g t id1 id2 v = search (rules, small_then, small_ask, small_new_ids, small_rows)

-- of an answer
pub small_waiting : (r : SuperblockReads) (which id : ℕ) → ask_waiting r which id ≤ 13
unfolding ask_waiting
small_waiting r which id = search (rules, small_then, small_ask, small_which)

pub small_ack_read_superblock : (s : Slots) (r : SuperblockReads) (which id : ℕ) (whole : Bool) → ask_ack_read_superblock s r which id whole ≤ 13
unfolding ask_ack_read_superblock
small_ack_read_superblock s r which id whole = search (rules, small_then, small_ask, small_waiting)

pub small_read_superblock_as : (s : Slots) (r : SuperblockReads) (which id : ℕ) (x : code.Option Superblock) → ask_read_superblock_as s r which id x ≤ 13
unfolding ask_read_superblock_as
small_read_superblock_as s r which id x = search (rules, small_then, small_ask, small_waiting)

pub small_ack_read_journal : (t : IntervalTable) (id : ℕ) (whole : Bool) (marks : List ℕ) → ask_ack_read_journal t id whole marks ≤ 13
unfolding ask_ack_read_journal
small_ack_read_journal t id whole marks = small_then _ _ (small_ask 5 _ (omega arith)) (go whole)
  where
    go : (b : Bool) → cond b (ask_readable (held_interval t id) marks) 0 ≤ 13
    go true = small_readable _ _
    go false = omega arith

pub small_ack_write_superblock : (s : Slots) (w : SuperblockWrites) (which id : ℕ) → ask_ack_write_superblock s w which id ≤ 13
unfolding ask_ack_write_superblock
small_ack_write_superblock s w which id = search (rules, small_then, small_ask, small_which)

pub small_ack_write_journal : (t : IntervalTable) (id : ℕ) → ask_ack_write_journal t id ≤ 13
unfolding ask_ack_write_journal
small_ack_write_journal t id = search (rules, small_ask)

-- of a landing
pub small_land : (w : SuperblockWrites) (which : ℕ) → ask_land w which ≤ 13
unfolding ask_land
small_land w which = search (rules, small_then, small_ask, small_which)
