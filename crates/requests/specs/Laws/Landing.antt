-- The landing: what a yes to its questions tells, and back, and the disk after it.
use Rattle.std.specs.Prelude.{None, Some}
use Rattle.std.specs.declared.option.Option as code
use Rattle.std.specs.Prelude.{ℕ, ◌≤◌, true, ◌≡◌, refl}
use Rattle.std.proofs.Common.{arith}
use Rattle.laws.specs.Choice.{and_then_left, and_then_right, and_then_both, ask, ask_yes, ask_holds, false_true}
use Rattle.superblock.specs.declared.Superblock.{Superblock}
use Rattle.requests.specs.declared.SuperblockWrite.{SuperblockWrite}
use Rattle.requests.specs.Slots.{Slots, SuperblockWrites, ask_which, slot_at, put_slot, writing}
use Rattle.requests.specs.Landing.{in_flight, ask_land, landing_on, slots_landed}
use Rattle.requests.specs.Laws.Pairs.{which_asked, asked_which}

pub record LandAsked (w : SuperblockWrites) (which : ℕ) : Type 0 where
  pub which_in : which ≤ 1
  pub in_flight_is : in_flight (slot_at w which) ≡ true

module _ (w : SuperblockWrites) (which : ℕ) where
  pub land_asked : ask_land w which ≡ 0 → LandAsked w which
  unfolding ask_land
  land_asked e =
      record {
        which_in = which_asked which (and_then_left (ask_which which) (ask 6 (in_flight (slot_at w which))) e);
        in_flight_is = ask_yes 6 (in_flight (slot_at w which)) (omega arith) (and_then_right (ask_which which) (ask 6 (in_flight (slot_at w which))) e);
      }

  pub asks_land : LandAsked w which → ask_land w which ≡ 0
  unfolding ask_land
  asks_land a =
      and_then_both (ask_which which) (ask 6 (in_flight (slot_at w which))) (asked_which which a.which_in) (ask_holds 6 (in_flight (slot_at w which)) a.in_flight_is)

-- a write in flight, and what it leaves in its slot
pub flight_write : (x : code.Option SuperblockWrite) → in_flight x ≡ true → (id : ℕ) × (s : Superblock) × (x ≡ writing id s)
unfolding in_flight
flight_write (Some w) e = (w.id, w.superblock, refl)
flight_write None e = false_true e

pub write_flight : (id : ℕ) (s : Superblock) → in_flight (writing id s) ≡ true
unfolding in_flight
write_flight id s = refl

pub landing_holds : (x : code.Option Superblock) (id : ℕ) (s : Superblock) → landing_on x (writing id s) ≡ Some s
unfolding landing_on
landing_holds x id s = refl

-- the slots after it
pub slots_landed_is : (s : Slots) (w : SuperblockWrites) (which : ℕ) → slots_landed s w which ≡ put_slot s which (landing_on (slot_at s which) (slot_at w which))
unfolding slots_landed
slots_landed_is s w which = refl
