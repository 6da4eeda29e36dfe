-- A disk's bytes and the record that they hold. An image has the sectors of the two slots, at 0 and 4,096, and the N blocks of the journal,
-- from 8,192 on. Its record is the entries of the interval that the selected superblock names: the ranges in it, from the first to the last
-- byte. Assumes nothing.
use Rattle.std.specs.Prelude.{None, Some, Result, Ok, Err}
use Rattle.std.specs.declared.option.Option as code
use Rattle.std.specs.Prelude.{ℕ, ◌+◌, ◌*◌, Bool, cond, List, ◌++◌, eqb, leb, length, take, drop, replicate}
use Rattle.std.specs.Borrow.{MutBor}
use denote.Triple.Both.{Both}
use Rattle.laws.specs.Choice.{also, ask, and_then, unless}
use Rattle.laws.specs.Cut.{flat, lengths}
use Rattle.laws.specs.Fold.{sum}
use Rattle.laws.specs.Splice.{splice}
use Rattle.layout.specs.declared.Geometry.{Geometry}
use Rattle.layout.specs.Geometry.{num_journal_blocks, journal_start_addr, ask_geometry}
use Rattle.interval.specs.declared.JournalInterval.{JournalInterval}
use Rattle.interval.specs.Interval.{interval}
use Rattle.superblock.specs.declared.Superblock.{Superblock}
use Rattle.superblock.specs.Superblock.{select_superblock, select_superblock_index, wf_superblock}
use Rattle.journal.specs.Memory.{slice_bytes, ask_marks, ask_readable}
use Rattle.range.specs.Form.{Entry, all_entries, all_parse}
use Rattle.refusal.specs.Refusal as answer
use Rattle.refusal.specs.Refusal.{number_of}
use Rattle.refusal.specs.declared.Refusal.{Refusal}
use Rattle.sector.specs.Answer.{read_sector}
use Rattle.sector.specs.Sector.{sector_size, encode_superblock}
use Rattle.image.specs.declared.Choice.{Choice}
use Rattle.image.specs.declared.Held.{Held}
use Rattle.image.specs.declared.Refused.{Refused}

-- what is lent to be written: pieces, and replay memory
pub record Lent : Type 0 where
  pub pieces : List ℕ
  pub rbytes : List ℕ
  pub rlens : List ℕ

abbrev pub lent : List ℕ → List ℕ → List ℕ → Lent
lent pieces rbytes rlens = record { pieces = pieces; rbytes = rbytes; rlens = rlens }

-- the same of a function's parameters, at its entry and at its exit
abbrev Slice : Type 0
Slice = Both (MutBor (List ℕ)) (MutBor (List ℕ))

abbrev pub before : Slice → Slice → Slice → Lent
before pieces rbytes rlens = lent pieces.entry.now rbytes.entry.now rlens.entry.now

abbrev pub after : Slice → Slice → Slice → Lent
after pieces rbytes rlens = lent pieces.exit.now rbytes.exit.now rlens.exit.now

-- what the sector says that begins at a byte, cut where the image ends
unfoldable pub slot_read : List ℕ → ℕ → Result Superblock Refusal
slot_read disk at = read_sector (take sector_size (drop at disk))

-- the superblock, of zeros where there was a no
abbrev pub no_superblock : Superblock
no_superblock = record { counter = 0; journalStart = 0; journalLen = 0; indirectionTableLoc = record { addr = 0; len = 0 } }

unfoldable pub sector_superblock : Result Superblock Refusal → Superblock
sector_superblock (Ok s) = s
sector_superblock (Err e) = no_superblock

-- the two superblocks, and the one that is selected: its slot is 0, the first, or 1, the second
abbrev pub superblock1 : List ℕ → Superblock
superblock1 disk = sector_superblock (slot_read disk 0)

abbrev pub superblock2 : List ℕ → Superblock
superblock2 disk = sector_superblock (slot_read disk sector_size)

abbrev pub selected : List ℕ → Superblock
selected disk = select_superblock (superblock1 disk) (superblock2 disk)

abbrev pub which : List ℕ → ℕ
which disk = select_superblock_index (superblock1 disk) (superblock2 disk)

-- the journal's blocks, and those of a superblock's interval in order, going round; it lies straight where it doesn't pass the ring's end
abbrev pub journal_of : Geometry → List ℕ → List ℕ
journal_of g disk = take (num_journal_blocks g * 4096) (drop journal_start_addr disk)

abbrev pub interval_of : Superblock → JournalInterval
interval_of s = interval s.journalStart s.journalLen

unfoldable pub interval_bytes : Geometry → List ℕ → Superblock → List ℕ
interval_bytes g disk s = slice_bytes (journal_of g disk) (interval_of s)

unfoldable pub straight : Geometry → Superblock → Bool
straight g s = leb (s.journalStart + s.journalLen) (num_journal_blocks g)

-- question 1, by lengths
unfoldable pub image_lent : Geometry → (disk pieces rbytes rlens : ℕ) → Bool
image_lent g disk pieces rbytes rlens =
    also (eqb disk (journal_start_addr + num_journal_blocks g * 4096))
    (also (eqb pieces (num_journal_blocks g * 4096))
    (also (eqb rbytes (num_journal_blocks g * 4096))
    (eqb rlens (num_journal_blocks g * 4096))))

unfoldable pub ask_image : Geometry → (disk pieces rbytes rlens : ℕ) → ℕ
ask_image g disk pieces rbytes rlens = and_then (ask_geometry g) (ask 1 (image_lent g disk pieces rbytes rlens))

abbrev pub ask_lent : Geometry → List ℕ → Lent → ℕ
ask_lent g disk l = ask_image g (length disk) (length l.pieces) (length l.rbytes) (length l.rlens)

-- the first no: its number, 0 where there is none, with its slot
pub record No : Type 0 where
  pub number : ℕ
  pub slot : ℕ

abbrev pub refusal : ℕ → ℕ → No
refusal q slot = record { number = q; slot = slot }

unfoldable pub first_no : ℕ → ℕ → No → No
first_no q slot next = cond (eqb q 0) next (refusal q slot)

-- what is answered then: the value, or that no
abbrev pub refused : No → Refused
refused n = record { no = answer.refusal n.number; slot = n.slot }

abbrev pub no_unless : {A : Type 0} → No → A → Result A Refused
no_unless n a = cond (eqb n.number 0) (Ok a) (Err (refused n))

-- an answer of a slot
abbrev pub of_slot : {A : Type 0} → Result A Refusal → ℕ → Result A Refused
of_slot (Ok a) slot = Ok a
of_slot (Err e) slot = Err (record { no = e; slot = slot })

-- of slot 1 and then of slot 2 the sector's 10, 11, 12; then 1; then 2 for a superblock that isn't well formed
unfoldable pub ask_slots : Geometry → Result Superblock Refusal → Result Superblock Refusal → ℕ → No
ask_slots g first second lent =
    first_no (number_of first) 1
    (first_no (number_of second) 2
    (first_no lent 0
    (first_no (ask 2 (wf_superblock g (sector_superblock first))) 1
    (first_no (ask 2 (wf_superblock g (sector_superblock second))) 2
    (refusal 0 0)))))

-- what the sectors come to, the first no beside the selected superblock and its slot
pub record Chosen : Type 0 where
  pub no : No
  pub superblock : Superblock
  pub which : ℕ

abbrev pub choice_of : Chosen → Result Choice Refused
choice_of c = no_unless c.no (record { superblock = c.superblock; which = c.which })

-- after question 1's number; and then 6 for a block of the selected interval that can't be read
unfoldable pub chosen : Geometry → List ℕ → ℕ → Chosen
chosen g disk q =
    record {
      no = ask_slots g (slot_read disk 0) (slot_read disk sector_size) q;
      superblock = selected disk;
      which = which disk;
    }

unfoldable pub readable : List ℕ → Chosen → Chosen
readable marks c =
    record {
      no = first_no c.no.number c.no.slot (refusal (ask_readable (interval_of c.superblock) marks) 0);
      superblock = c.superblock;
      which = c.which;
    }

-- the choice of `record`, and of `record_marked`
abbrev pub unmarked : Geometry → List ℕ → Lent → Chosen
unmarked g disk l = chosen g disk (ask_lent g disk l)

abbrev pub marked : Geometry → List ℕ → List ℕ → Lent → Chosen
marked g disk marks l = readable marks (chosen g disk (and_then (ask_lent g disk l) (ask_marks g marks)))

-- the entries of a superblock's interval; 7 where it isn't ranges to the last byte
abbrev pub interval_entries : Geometry → List ℕ → Superblock → List Entry
interval_entries g disk s = all_entries (interval_bytes g disk s)

abbrev pub ask_parse : Geometry → List ℕ → Superblock → ℕ
ask_parse g disk s = ask 7 (all_parse (interval_bytes g disk s))

unfoldable pub ask_record : Geometry → List ℕ → Chosen → No
ask_record g disk c = first_no c.no.number c.no.slot (refusal (ask_parse g disk c.superblock) 0)

-- the answer
abbrev pub held : Superblock → ℕ → List Entry → Held
held s which es = record { superblock = s; which = which; entries = length es; bytes = sum (lengths es) }

unfoldable pub record_of : Geometry → List ℕ → Chosen → Result Held Refused
record_of g disk c = no_unless (ask_record g disk c) (held c.superblock c.which (interval_entries g disk c.superblock))

-- what is lent after it: an interval that goes round is copied to pieces, unless it was refused before question 7; the entries lie in replay memory
unfoldable pub pieces_after : Geometry → List ℕ → Superblock → List ℕ → List ℕ
pieces_after g disk s pieces = cond (straight g s) pieces (splice pieces 0 (interval_bytes g disk s))

unfoldable pub record_lent : Geometry → List ℕ → Chosen → Lent → Lent
record_lent g disk c l =
    lent
    (unless c.no.number l.pieces (pieces_after g disk c.superblock l.pieces))
    (unless (ask_record g disk c).number l.rbytes (splice l.rbytes 0 (flat (interval_entries g disk c.superblock))))
    (unless (ask_record g disk c).number l.rlens (splice l.rlens 0 (lengths (interval_entries g disk c.superblock))))

-- the other way: the image of what two slots hold, zeros where a slot holds nothing, and of the journal's blocks
unfoldable pub slot_bytes : code.Option Superblock → List ℕ
slot_bytes (Some s) = encode_superblock s
slot_bytes None = replicate sector_size 0

unfoldable pub image_of : code.Option Superblock → code.Option Superblock → List ℕ → List ℕ
image_of first second blocks = slot_bytes first ++ (slot_bytes second ++ blocks)
