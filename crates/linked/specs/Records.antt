-- The record of a disk as numbers: what a caller is told of an answer. Assumes nothing.
use Rattle.std.specs.Prelude.{ℕ, List, ◌≡◌, Result, Ok, Err}
use Rattle.std.proofs.Common.{subst}
use Rattle.refusal.specs.Refusal.{number}
use Rattle.image.specs.declared.Held.{Held}
use Rattle.image.specs.declared.Refused.{Refused}
use Rattle.image.specs.Image.{No, Lent, unmarked, marked, ask_record, record_of, record_lent}
use Rattle.linked.specs.Numbers.{geometry_of}

-- what a record answers
abbrev pub Recorded : Type 0
Recorded = Result Held Refused

-- the record of N, T and an image, and what is lent after it; and by a caller who knows which blocks can be read
abbrev pub record_by : ℕ → ℕ → List ℕ → Lent → Recorded
record_by n t disk l = record_of (geometry_of n t) disk (unmarked (geometry_of n t) disk l)

abbrev pub lent_by : ℕ → ℕ → List ℕ → Lent → Lent
lent_by n t disk l = record_lent (geometry_of n t) disk (unmarked (geometry_of n t) disk l) l

abbrev pub record_marked : ℕ → ℕ → (disk marks : List ℕ) → Lent → Recorded
record_marked n t disk marks l = record_of (geometry_of n t) disk (marked (geometry_of n t) disk marks l)

abbrev pub lent_marked : ℕ → ℕ → (disk marks : List ℕ) → Lent → Lent
lent_marked n t disk marks l = record_lent (geometry_of n t) disk (marked (geometry_of n t) disk marks l) l

-- what they ask: the first no with its slot, and a 0 where there is none
abbrev pub asked_by : ℕ → ℕ → List ℕ → Lent → No
asked_by n t disk l = ask_record (geometry_of n t) disk (unmarked (geometry_of n t) disk l)

abbrev pub asked_marked : ℕ → ℕ → (disk marks : List ℕ) → Lent → No
asked_marked n t disk marks l = ask_record (geometry_of n t) disk (marked (geometry_of n t) disk marks l)

-- the number of the question that was answered no, or 0; and of which slot, 0 where it is of none
unfoldable pub number_of : Recorded → ℕ
number_of (Ok r) = 0
number_of (Err r) = number r.no

unfoldable pub slot_of : Recorded → ℕ
slot_of (Ok r) = 0
slot_of (Err r) = r.slot

-- the selected slot, how many entries, how many bytes: after a refusal what they were
unfoldable pub which_after : Recorded → ℕ → ℕ
which_after (Ok r) old = r.which
which_after (Err r) old = old

unfoldable pub found_after : Recorded → ℕ → ℕ
found_after (Ok r) old = r.entries
found_after (Err r) old = old

unfoldable pub size_after : Recorded → ℕ → ℕ
size_after (Ok r) old = r.bytes
size_after (Err r) old = old

-- all that is told of an answer, after numbers that were `w`, `f` and `b`; and of what the answer is
abbrev Told : (q which found size slot w f b : ℕ) → Recorded → Type 0
Told q which found size slot w f b r =
    (q ≡ number_of r)
    × ((which ≡ which_after r w)
    × ((found ≡ found_after r f)
    × ((size ≡ size_after r b) × (slot ≡ slot_of r))))

pub told_of : (q which found size slot w f b : ℕ) (r x : Recorded) → r ≡ x → Told q which found size slot w f b r → Told q which found size slot w f b x
told_of q which found size slot w f b r x = subst (Told q which found size slot w f b)
