-- What is said of the record of a disk: when bytes picture a disk, what a load may consist of, and what it is that a record is a machine's.
use Rattle.std.specs.Prelude.{ℕ, Bool, true, false, ◌≡◌, List, [], ◌∷◌, get_or, Ok, Err, Result}
use Rattle.std.proofs.Math.Option.{Option, none, some}
use Rattle.laws.specs.Cut.{flat, lengths}
use Rattle.laws.specs.Sets.{Two, at}
use Rattle.laws.specs.Splice.{splice}
use Rattle.refusal.specs.declared.Refusal.{Refusal}
use Rattle.layout.specs.declared.Geometry.{Geometry}
use Rattle.interval.specs.Journal.{JournalBlock}
use Rattle.superblock.specs.declared.Superblock.{Superblock}
use Rattle.journal.specs.Cells.{block_at}
use Rattle.sector.specs.Sector.{sector_size}
use Rattle.image.specs.declared.Held.{Held}
use Rattle.image.specs.declared.Refused.{Refused}
use Rattle.image.specs.Image.{Lent, slot_read, journal_of, record_of, record_lent, Chosen, held}
use Rattle.codec.specs.Format.{format}
use Rattle.source.specs.JournalDisk as D
use Rattle.source.specs.JournalCache as M
use Rattle.source.specs.JournalSystem as Y
use Rattle.source.specs.Limits.{limits}
use Rattle.history.specs.Ledger.{Call, write_journal, journal_written, commit_log, commit_location, superblock_written, read_journal, journal_read, read_superblock, superblock_read, finish_superblocks, finish_other, freeze, receive, add, replay, push_sync, pop_sync, no_op, ask_again, land, crash, nonsense}
use Rattle.history.specs.Statement.{Trace, OnlyLoads}
use Rattle.history.proofs.Journal.Slots.{bit}
use Rattle.history.proofs.Loads.Comes.{taken}
use Rattle.history.proofs.Loads.Superblocks.{resting}

-- Bytes picture a disk: what a slot's sector says, where it says anything, is what the slot holds; what lies in the place of a block that can be
-- read is the block. In the place of one that can't be read anything may lie.

abbrev pub said : Result Superblock Refusal → Option Superblock
said (Ok s) = some s
said (Err q) = none

pub record Pictures (g : Geometry) (disk : List ℕ) (d : D.Variables) : Type 0 where
  pub first : at d.superblocks false ≡ said (slot_read disk 0)
  pub second : at d.superblocks true ≡ said (slot_read disk sector_size)
  pub blocks : (i : ℕ) (b : JournalBlock) → get_or d.journal i none ≡ some b → block_at (journal_of g disk) i ≡ b

-- A load: reads and their answers, whole or damaged, ask again, the two finishing steps; beside them sync requests and no-ops. No other step is
-- taken in it; whatever is refused may stand between.

unfoldable pub of_load : Call → Bool
of_load (write_journal id1 id2) = false
of_load (journal_written id) = false
of_load (commit_log id) = false
of_load (commit_location id) = false
of_load (superblock_written id) = false
of_load (read_journal which id) = true
of_load (journal_read id whole) = true
of_load (read_superblock which id) = true
of_load (superblock_read which id whole) = true
of_load finish_superblocks = true
of_load finish_other = true
of_load freeze = false
of_load (receive loc) = false
of_load (add es) = false
of_load (replay es) = false
of_load (push_sync id) = true
of_load (pop_sync id) = true
of_load no_op = true
of_load (ask_again which) = true
of_load (land which) = false
of_load crash = false
of_load nonsense = false

abbrev pub OnlyOfLoad : List Call → List Bool → Type 0
OnlyOfLoad [] bs = Unit {0}
OnlyOfLoad (x ∷ xs) [] = Unit {0}
OnlyOfLoad (x ∷ xs) (b ∷ bs) = (b ≡ true → of_load x ≡ true) × OnlyOfLoad xs bs

-- The record by a choice c, with l lent, is a machine's at Ready: the answer has its superblock, its slot, how many replay entries it has and how many
-- bytes these have; and replay memory begins with their bytes, and with their lengths.

abbrev pub shown_by : M.ReadyVariables → Result Held Refused
shown_by r = Ok (held r.superblock (bit r.whichSuperblock) r.replay_journal)

pub record RecordIs (g : Geometry) (disk : List ℕ) (c : Chosen) (l : Lent) (r : M.ReadyVariables) : Type 0 where
  pub answer : record_of g disk c ≡ shown_by r
  pub bytes : (record_lent g disk c l).rbytes ≡ splice l.rbytes 0 (flat r.replay_journal)
  pub lens : (record_lent g disk c l).rlens ≡ splice l.rlens 0 (lengths r.replay_journal)

-- A disk at rest, and a store that begins with it; and that a load of it comes to a machine whose record it is: reads answered whole and the two
-- finishing steps, every call taken.

abbrev pub at_rest : Two (Option Superblock) → List (Option JournalBlock) → Y.Variables
at_rest slots j = record { machine = M.Variables.LoadingSuperblock M.initial; disk = resting slots j }

pub record Brought (g : Geometry) (disk : List ℕ) (c : Chosen) (l : Lent) (slots : Two (Option Superblock)) (j : List (Option JournalBlock)) : Type 0 where
  pub calls : List Call
  pub end : Y.Variables
  pub ready : M.ReadyVariables
  pub load : Trace g format limits (at_rest slots j) calls (taken calls) end
  pub only_loads : OnlyLoads calls (taken calls)
  pub ready_is : end.machine ≡ M.Variables.Ready ready
  pub same : RecordIs g disk c l ready
