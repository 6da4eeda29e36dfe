-- The landing of a superblock write, after questions 1 and 2: 001's ProcessWriteSuperblock. `which`; a write in flight there.
use Rattle.superblock.specs.declared.Superblock.{Superblock}
use Rattle.std.specs.Prelude.{None, Some}
use Rattle.std.specs.declared.option.Option as code
use Rattle.std.specs.Prelude.{ℕ, Bool, true, false}
use Rattle.laws.specs.Choice.{ask, and_then}
use Rattle.requests.specs.declared.SuperblockWrite.{SuperblockWrite}
use Rattle.requests.specs.Slots.{Slots, SuperblockWrites, ask_which, slot_at, put_slot}

unfoldable pub in_flight : code.Option SuperblockWrite → Bool
in_flight (Some w) = true
in_flight None = false

unfoldable pub ask_land : SuperblockWrites → ℕ → ℕ
ask_land w which = and_then (ask_which which) (ask 6 (in_flight (slot_at w which)))

-- the slot holds the write's superblock; the write stays
unfoldable pub landing_on : code.Option Superblock → code.Option SuperblockWrite → code.Option Superblock
landing_on x (Some w) = Some w.superblock
landing_on x None = x

unfoldable pub slots_landed : Slots → SuperblockWrites → ℕ → Slots
slots_landed s w which = put_slot s which (landing_on (slot_at s which) (slot_at w which))
