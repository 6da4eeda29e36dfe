-- The questions behind each export have the numbers of the refusals, so a no's number is that of its questions. Assumes nothing.
use Rattle.std.specs.declared.option.Option as code
use Rattle.std.specs.Prelude.{ℕ, ◌≡◌, ◌≤◌, Bool, true, false, cond, List, eqb, Result}
use Rattle.std.proofs.Common.{rules, arith}
use Rattle.laws.specs.Choice.{ask}
use Rattle.refusal.specs.declared.Refusal.{Refusal}
use Rattle.refusal.specs.Refusal.{small_ask, small_then, number_no}
use Rattle.superblock.specs.declared.Superblock.{Superblock}
use Rattle.reader.specs.Entry.{ask_entry}
use Rattle.reader.specs.Listing.{ask_list}
use Rattle.sector.specs.Sector.{ask_length, ask_fields, ask_sector}
use Rattle.writer.specs.Entries.{ask_entries}
use Rattle.writer.specs.Ring.{ask_write}
use Rattle.layout.specs.declared.Geometry.{Geometry}
use Rattle.journal.specs.Bounds.{small_geometry, small_interval, small_blocks, small_journal, small_marks, small_readable}
use Rattle.memory.specs.Bounds.{small_frozen, small_replay}
use Rattle.image.specs.Image.{No, Chosen, Lent, first_no, refusal, ask_image, ask_slots, chosen, readable, unmarked, marked, ask_record, record_of}
use Rattle.machine.specs.Lent as machine
use Rattle.machine.specs.Bounds.{small_number, small_unpack, small_machine, small_advance, small_replay_step, small_write_back_journal_req}
use Rattle.machine.specs.Whole as whole
use Rattle.linked.specs.Records.{record_by, record_marked, asked_by, asked_marked, number_of}
use Rattle.linked.specs.Sectors.{ask_numbers_in}
use Rattle.linked.specs.Steps.{ask_add_of, ask_replay_of, ask_write_of}
use Rattle.linked.specs.Superblocks.{ask_superblock}

-- of the two looks at a range, of its entries, and of ranges
pub small_list : (xs starts : List ℕ) → ask_list xs starts ≤ 13
unfolding ask_list
small_list xs starts = search (rules, small_then, small_ask)

pub small_entry : (xs : List ℕ) (i : ℕ) → ask_entry xs i ≤ 13
unfolding ask_entry
small_entry xs i = search (rules, small_then, small_ask)

-- of pending entries, and of a range into the ring
pub small_entries : (bytes lens : List ℕ) (n : ℕ) → ask_entries bytes lens n ≤ 13
unfolding ask_entries
small_entries bytes lens n = search (rules, small_ask)

pub small_write : (bytes lens : List ℕ) (n : ℕ) (journal : List ℕ) (start : ℕ) → ask_write bytes lens n journal start ≤ 13
unfolding ask_write
small_write bytes lens n journal start = search (rules, small_then, small_ask)

-- of sectors and of superblocks
pub small_length : (xs : List ℕ) → ask_length xs ≤ 13
small_length xs = search (rules, small_ask)

pub small_fields : (n : ℕ) (xs : List ℕ) → ask_fields n xs ≤ 13
unfolding ask_fields
small_fields n xs = search (rules, small_then, small_ask)

pub small_sector : (xs : List ℕ) → ask_sector xs ≤ 13
small_sector xs = small_fields _ xs

pub small_numbers_in : (xs numbers : List ℕ) → ask_numbers_in xs numbers ≤ 13
unfolding ask_fields
small_numbers_in xs numbers = search (rules, small_then, small_ask)

pub small_superblock : (n t : ℕ) (numbers : List ℕ) → ask_superblock n t numbers ≤ 13
unfolding ask_superblock
small_superblock n t numbers = search (rules, small_then, small_ask, small_geometry)

-- of the three steps of 16 numbers
pub small_numbers : (n : ℕ) → ask 1 (eqb n 16) ≤ 13
small_numbers n = small_ask 1 _ (omega arith)

pub small_add_of : (xs : List ℕ) (l : machine.Lent) (brought sizes : List ℕ) (k : ℕ) → ask_add_of xs l brought sizes k ≤ 13
unfolding ask_add_of whole.ask_add
small_add_of xs l brought sizes k = search (rules, small_then, small_ask, small_machine, small_advance)

pub small_replay_of : (xs : List ℕ) (l : machine.Lent) (brought sizes : List ℕ) (k : ℕ) → ask_replay_of xs l brought sizes k ≤ 13
unfolding ask_replay_of
small_replay_of xs l brought sizes k = search (rules, small_then, small_ask, small_machine, small_replay_step)

pub small_write_of : (xs : List ℕ) (l : machine.Lent) (id1 : ℕ) (id2 : code.Option ℕ) (out : List ℕ) → ask_write_of xs l id1 id2 out ≤ 13
unfolding ask_write_of whole.ask_write whole.ask_machine_out
small_write_of xs l id1 id2 out = search (rules, small_then, small_ask, small_blocks, small_machine, small_write_back_journal_req)

-- of the record of a disk
small_first : (q slot : ℕ) (next : No) → q ≤ 13 → next.number ≤ 13 → (first_no q slot next).number ≤ 13
unfolding first_no
small_first q slot next h k = go (eqb q 0)
  where
    go : (b : Bool) → (cond b next (refusal q slot)).number ≤ 13
    go true = k
    go false = h

small_slots : (g : Geometry) (a b : Result Superblock Refusal) (lent : ℕ) → lent ≤ 13 → (ask_slots g a b lent).number ≤ 13
unfolding ask_slots
small_slots g a b lent h =
    small_first _ _ _ (small_number a)
    (small_first _ _ _ (small_number b)
    (small_first _ _ _ h
    (small_first _ _ _ (small_ask 2 _ (omega arith))
    (small_first _ _ _ (small_ask 2 _ (omega arith)) (omega arith)))))

small_image : (g : Geometry) (disk pieces rbytes rlens : ℕ) → ask_image g disk pieces rbytes rlens ≤ 13
unfolding ask_image
small_image g disk pieces rbytes rlens = search (rules, small_then, small_ask, small_geometry)

small_chosen : (g : Geometry) (disk : List ℕ) (q : ℕ) → q ≤ 13 → (chosen g disk q).no.number ≤ 13
unfolding chosen
small_chosen g disk q h = small_slots _ _ _ q h

small_record : (g : Geometry) (disk : List ℕ) (c : Chosen) → c.no.number ≤ 13 → (ask_record g disk c).number ≤ 13
unfolding ask_record
small_record g disk c h = small_first _ _ _ h (small_ask 7 _ (omega arith))

pub small_unmarked : (g : Geometry) (disk : List ℕ) (l : Lent) → (ask_record g disk (unmarked g disk l)).number ≤ 13
small_unmarked g disk l = small_record _ _ _ (small_chosen _ _ _ (small_image _ _ _ _ _))

pub small_marked : (g : Geometry) (disk marks : List ℕ) (l : Lent) → (ask_record g disk (marked g disk marks l)).number ≤ 13
unfolding readable
small_marked g disk marks l =
    small_record _ _ _
    (small_first _ _ _ (small_chosen _ _ _ (small_then _ _ (small_image _ _ _ _ _) (small_marks _ _))) (small_readable _ _))

-- so what is told of a record is the number of its questions
record_number : (g : Geometry) (disk : List ℕ) (c : Chosen) → (ask_record g disk c).number ≤ 13 → number_of (record_of g disk c) ≡ (ask_record g disk c).number
unfolding record_of number_of
record_number g disk c h = grind arith

pub record_by_number : (n t : ℕ) (disk : List ℕ) (l : Lent) → number_of (record_by n t disk l) ≡ (asked_by n t disk l).number
record_by_number n t disk l = record_number _ _ _ (small_unmarked _ disk l)

pub record_marked_number : (n t : ℕ) (disk marks : List ℕ) (l : Lent) → number_of (record_marked n t disk marks l) ≡ (asked_marked n t disk marks l).number
record_marked_number n t disk marks l = record_number _ _ _ (small_marked _ disk marks l)

-- with these listed, a proof finds the number of a no
pub ruleset bounds = (small_list, small_entry, small_unpack, small_entries, small_write, small_interval, small_journal, small_length, small_numbers_in, small_superblock, small_frozen, small_replay, small_numbers, small_ask, number_no)
