-- The ids under which something waits at a disk, and the least of the others.
use Rattle.std.specs.declared.option.Option as code
use Rattle.std.specs.Prelude.{None, Some}
use Rattle.std.specs.Prelude.{ℕ, ◌<◌, Bool, true, false, cond, ◌≡◌, List, [], ◌∷◌, eqb, length, take}
use Rattle.std.proofs.Common.{ap, arith, length-take}
use Rattle.laws.specs.Choice.{either}
use Rattle.laws.specs.Least.{least_from, least_lower, least_free}
use Rattle.laws.specs.Sets.{ids_of, AtMost, none_few, listed_few, either_few}
use Rattle.tables.specs.IdTable.{id_set, SizedIds}
use Rattle.tables.specs.IntervalTable.{SizedIntervals}
use Rattle.requests.specs.declared.SuperblockWrite.{SuperblockWrite}
use Rattle.requests.specs.Slots.{SuperblockWrites}
use Rattle.disk.specs.declared.Disk.{Disk}

abbrev pub writes_id : code.Option SuperblockWrite → ℕ → Bool
writes_id (Some w) id = eqb w.id id
writes_id None id = false

abbrev pub writes_hold : SuperblockWrites → ℕ → Bool
writes_hold w id = either (writes_id w.first id) (writes_id w.second id)

-- a superblock read of either slot, a journal read, a journal write or a superblock write waits under it
unfoldable pub holds : Disk → ℕ → Bool
holds d id =
    either (either (either (either (id_set d.superblockReads.first id)
    (id_set d.superblockReads.second id))
    (ids_of (take d.journalReads.count d.journalReads.ids) id))
    (ids_of (take d.journalWrites.count d.journalWrites.ids) id))
    (writes_hold d.superblockWrites id)

-- a disk's tables have 66 places
abbrev pub least_new : Disk → ℕ
least_new d = least_from (holds d) 66 0

-- The least: every lower one is held, and it isn't

pub lower_held : (d : Disk) (id : ℕ) → id < least_new d → holds d id ≡ true
lower_held d id h = least_lower (holds d) 66 0 id (omega arith) h

table_few : (count : ℕ) (ids : List ℕ) → length ids ≡ 16 → AtMost 16 (ids_of (take count ids))
table_few count ids h = listed_few 16 (take count ids) (simp length-take (omega (arith, h)))

write_few : (w : code.Option SuperblockWrite) → AtMost 1 (writes_id w)
unfolding ids_of
write_few (Some w) = record { listed = w.id ∷ []; few = omega arith; all = λ i e. ap (λ (b : Bool). cond b true false) e }
write_few None = none_few 1

-- the arrays' lengths are their type's
pub least_is_new : (d : Disk) → SizedIds d.superblockReads.first → SizedIds d.superblockReads.second → SizedIntervals d.journalReads → SizedIntervals d.journalWrites
    → holds d (least_new d) ≡ false
unfolding holds
least_is_new d a b c e =
    least_free (holds d) 66
    (either_few 64 2 _ _
    (either_few 48 16 _ _
    (either_few 32 16 _ _
    (either_few 16 16 _ _
    (table_few d.superblockReads.first.count d.superblockReads.first.ids a.ids_long)
    (table_few d.superblockReads.second.count d.superblockReads.second.ids b.ids_long))
    (table_few d.journalReads.count d.journalReads.ids c.ids_long))
    (table_few d.journalWrites.count d.journalWrites.ids e.ids_long))
    (either_few 1 1 _ _ (write_few d.superblockWrites.first) (write_few d.superblockWrites.second)))
