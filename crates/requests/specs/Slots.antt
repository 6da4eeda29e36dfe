-- What the disk has twice, once for each superblock slot. The source's `which` is 0 or 1: where question 4 has not asked, any number but 0
-- is read as 1.
use Rattle.superblock.specs.declared.Superblock.{Superblock}
use Rattle.std.specs.Prelude.{None, Some}
use Rattle.std.specs.declared.option.Option as code
use Rattle.std.specs.Prelude.{ℕ, Bool, false, cond, leb, eqb}
use Rattle.laws.specs.Choice.{ask}
use Rattle.tables.specs.declared.IdTable.{IdTable}
use Rattle.requests.specs.declared.BySlot.{BySlot}
use Rattle.requests.specs.declared.SuperblockWrite.{SuperblockWrite}

-- what the slots hold, the reads of them that wait, the writes of them in flight
abbrev pub Slots : Type 0
Slots = BySlot (code.Option Superblock)

abbrev pub SuperblockReads : Type 0
SuperblockReads = BySlot IdTable

abbrev pub SuperblockWrites : Type 0
SuperblockWrites = BySlot (code.Option SuperblockWrite)

-- question 4
unfoldable pub ask_which : ℕ → ℕ
ask_which which = ask 4 (leb which 1)

-- the first for 0, else the second
abbrev pub chosen : {A : Type 0} → ℕ → A → A → A
chosen which first second = cond (eqb which 0) first second

unfoldable pub slot_at : {A : Type 0} → BySlot A → ℕ → A
slot_at s which = chosen which s.first s.second

unfoldable pub put_slot : {A : Type 0} → BySlot A → ℕ → A → BySlot A
put_slot s which x = record { first = chosen which x s.first; second = chosen which s.second x }

-- a write in flight
abbrev pub writing : ℕ → Superblock → code.Option SuperblockWrite
writing id s = Some (record { id = id; superblock = s })

-- the write has this id
unfoldable pub is_write : code.Option SuperblockWrite → ℕ → Bool
is_write (Some w) id = eqb w.id id
is_write None id = false

-- the slot whose write in flight has this id; the first where neither has
unfoldable pub slot_of : SuperblockWrites → ℕ → ℕ
slot_of w id = cond (is_write w.second id) 1 0
