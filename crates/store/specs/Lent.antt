-- The memory that is lent to a store: the machine's, and the disk's blocks and marks. And questions 1 and 2, of all that a call is handed.
use Rattle.std.specs.Prelude.{ℕ, List, ◌≡◌}
use Rattle.laws.specs.Choice.{and_then, ask}
use Rattle.layout.specs.declared.Geometry.{Geometry}
use Rattle.journal.specs.Memory.{ask_journal}
use Rattle.machine.specs.Lent as machine
use Rattle.machine.specs.Questions.{ask_machine}
use Rattle.disk.specs.Questions.{ask_state}
use Rattle.joined.specs.Joined.{joined_ok}
use Rattle.store.specs.declared.Store.{Store}
use Rattle.store.specs.declared.lending.Lent as slices
use Rattle.store.specs.declared.lending.LentMut as altered

-- pending bytes and lengths, pieces, replay bytes and lengths; blocks and marks
pub record Lent : Type 0 where
  pub bytes : List ℕ
  pub lens : List ℕ
  pub pieces : List ℕ
  pub rbytes : List ℕ
  pub rlens : List ℕ
  pub blocks : List ℕ
  pub marks : List ℕ

abbrev pub lent : (bytes lens pieces rbytes rlens blocks marks : List ℕ) → Lent
lent bytes lens pieces rbytes rlens blocks marks =
    record { bytes = bytes; lens = lens; pieces = pieces; rbytes = rbytes; rlens = rlens; blocks = blocks; marks = marks }

-- what the code's slices hold: those that it looks at, and those that it may alter
abbrev pub lent_of : slices.Lent → Lent
lent_of l = lent l.machine.bytes.now l.machine.lens.now l.machine.pieces.now l.machine.rbytes.now l.machine.rlens.now l.blocks.now l.marks.now

abbrev pub lent_in : altered.LentMut → Lent
lent_in l = lent l.bytes.now l.lens.now l.pieces.now l.rbytes.now l.rlens.now l.blocks.now l.marks.now

-- the slices are those that were lent: what is written in them is written in the caller's memory
pub record SameSlices (l m : altered.LentMut) : Type 0 where
  pub bytes : m.bytes.ghost_name ≡ l.bytes.ghost_name
  pub lens : m.lens.ghost_name ≡ l.lens.ghost_name
  pub pieces : m.pieces.ghost_name ≡ l.pieces.ghost_name
  pub rbytes : m.rbytes.ghost_name ≡ l.rbytes.ghost_name
  pub rlens : m.rlens.ghost_name ≡ l.rlens.ghost_name
  pub blocks : m.blocks.ghost_name ≡ l.blocks.ghost_name
  pub marks : m.marks.ghost_name ≡ l.marks.ghost_name

abbrev pub machine_lent : Lent → machine.Lent
machine_lent l = record { bytes = l.bytes; lens = l.lens; pieces = l.pieces; rbytes = l.rbytes; rlens = l.rlens }

-- l.(pending := ..), and so for each memory
abbrev pub with_pending : Lent → List ℕ → List ℕ → Lent
with_pending l bytes lens = record { bytes = bytes; lens = lens; pieces = l.pieces; rbytes = l.rbytes; rlens = l.rlens; blocks = l.blocks; marks = l.marks }

abbrev pub with_pieces : Lent → List ℕ → Lent
with_pieces l pieces = record { bytes = l.bytes; lens = l.lens; pieces = pieces; rbytes = l.rbytes; rlens = l.rlens; blocks = l.blocks; marks = l.marks }

abbrev pub with_replay : Lent → List ℕ → List ℕ → Lent
with_replay l rbytes rlens = record { bytes = l.bytes; lens = l.lens; pieces = l.pieces; rbytes = rbytes; rlens = rlens; blocks = l.blocks; marks = l.marks }

abbrev pub with_journal : Lent → List ℕ → List ℕ → Lent
with_journal l blocks marks = record { bytes = l.bytes; lens = l.lens; pieces = l.pieces; rbytes = l.rbytes; rlens = l.rlens; blocks = blocks; marks = marks }

-- question 2 of the disk, and of both together
unfoldable pub ask_rest : Geometry → Store → ℕ
ask_rest g s = and_then (ask_state g s.disk) (ask 2 (joined_ok g s.machine s.disk))

-- questions 1 and 2: the disk's memory and the machine's; the machine, the disk, and both together
unfoldable pub ask_store : Geometry → Lent → Store → ℕ
ask_store g l s =
    and_then (ask_journal g l.blocks l.marks)
    (and_then (ask_machine g (machine_lent l) s.machine)
    (ask_rest g s))
