-- What is said of the record of a disk that the code keeps: when bytes picture a store, how the record is asked for, and what it is that a record is a store's.
use Rattle.std.specs.Prelude.{ℕ, ◌<◌, true, ◌≡◌, List, get_or, None, Some, Ok}
use Rattle.std.specs.declared.option.Option as code
use Rattle.laws.specs.Cut.{flat, lengths}
use Rattle.laws.specs.Splice.{splice}
use Rattle.laws.specs.Optional.{option_of}
use Rattle.layout.specs.declared.Geometry.{Geometry}
use Rattle.superblock.specs.declared.Superblock.{Superblock}
use Rattle.journal.specs.Memory.{is_one, ask_journal}
use Rattle.journal.specs.Cells.{block_at}
use Rattle.codec.specs.Codec.{JournalEntry}
use Rattle.sector.specs.Round.{Fits}
use Rattle.sector.specs.Sector.{sector_size}
use Rattle.image.specs.Image.{Lent, slot_read, journal_of, ask_lent, unmarked, marked, record_of, record_lent, Chosen, held}
use Rattle.machine.specs.declared.Kind.TheVariants as kind
use Rattle.requests.specs.Slots.{Slots}
use Rattle.store.specs.Lent as store
use Rattle.refine.specs.Store.Fresh.{fresh, fresh_sized}
use Rattle.refine.specs.Store.History.{State, ready_seen}
use Rattle.refine.specs.Store.Loads.{Load}
use Rattle.records.specs.Pictures.{said}

-- Bytes picture a store: the slots' sectors say what they hold, and in the place of each block that can be read the block lies
pub record StorePictures (g : Geometry) (disk : List ℕ) (s : State) : Type 0 where
  pub first : option_of s.store.disk.slots.first ≡ said (slot_read disk 0)
  pub second : option_of s.store.disk.slots.second ≡ said (slot_read disk sector_size)
  pub blocks : (i : ℕ) → i < g.blocks → is_one (get_or s.lent.marks i 0) ≡ true → block_at (journal_of g disk) i ≡ block_at s.lent.blocks i

-- The record is asked for by `record`, or by `record_marked` with the store's own marks; question 1 is answered yes
pub data Asks (g : Geometry) (disk : List ℕ) (l : Lent) (s : State) : Chosen → Type 0 where
  plainly : ask_lent g disk l ≡ 0 → Asks g disk l s (unmarked g disk l)
  by_marks : ask_lent g disk l ≡ 0 → ask_journal g s.lent.blocks s.lent.marks ≡ 0 → Asks g disk l s (marked g disk s.lent.marks l)

-- The record is a store's: its machine is at Ready, the answer has its superblock, its slot, how many replay entries it has and how many bytes these
-- have; and replay memory begins with their bytes, and with their lengths
abbrev pub replay_of : State → List JournalEntry
replay_of s = (ready_seen s).replay_journal

pub record CodeRecordIs (g : Geometry) (disk : List ℕ) (c : Chosen) (l : Lent) (s : State) : Type 0 where
  pub ready : s.store.machine.kind ≡ kind.Ready
  pub answer : record_of g disk c ≡ Ok (held s.store.machine.ready.superblock s.store.machine.ready.whichSuperblock (replay_of s))
  pub bytes : (record_lent g disk c l).rbytes ≡ splice l.rbytes 0 (flat (replay_of s))
  pub lens : (record_lent g disk c l).rlens ≡ splice l.rlens 0 (lengths (replay_of s))

-- `Store::initial` over lent memory of its lengths

abbrev pub initial_state : store.Lent → Slots → State
initial_state m slots = record { store = fresh slots; lent = m; sized = fresh_sized slots }

-- a load of the code, every call of it taken, and the record of what it brings
pub record CodeBrought (g : Geometry) (disk : List ℕ) (c : Chosen) (l : Lent) (s : State) : Type 0 where
  pub load : Load g s
  pub same : CodeRecordIs g disk c l load.end

-- a slot holds 64-bit numbers, or nothing
pub data SlotFits : code.Option Superblock → Type 0 where
  held_fits : {v : Superblock} → Fits v → SlotFits (Some v)
  nothing_held : SlotFits None
