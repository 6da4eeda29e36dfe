-- Which of two sectors a store would load from, and why: by the source's selection where both are read, and none where one is refused.
use Rattle.std.specs.Prelude.{◌≡◌, ℕ, Bool, true, false, cond, ◌==◌, refl, Result, Ok, Err}
use Rattle.superblock.specs.declared.Superblock.{Superblock}
use Rattle.superblock.specs.Superblock.{increments1, select_superblock_index}
use Rattle.sector.specs.declared.Selection.{Selection}
use Rattle.sector.specs.declared.Selection.TheVariants as selects

unfoldable pub by_counters : ℕ → ℕ → Selection
by_counters first second =
    cond (increments1 first second) selects.SecondFollows
    (cond (first == second) selects.EqualCounters
    (cond (increments1 second first) selects.FirstFollows
    selects.NeitherFollows))

unfoldable pub selection : {E : Type 0} → Result Superblock E → Result Superblock E → Selection
selection (Ok s) (Ok t) = by_counters s.counter t.counter
selection (Ok s) (Err q) = selects.SecondRefused
selection (Err p) (Ok t) = selects.FirstRefused
selection (Err p) (Err q) = selects.BothRefused

-- the slot that two superblocks' selection names is the loader's: 0 the first, 1 the second
unfoldable pub slot_of : Selection → ℕ
slot_of selects.SecondFollows = 1
slot_of selects.EqualCounters = 0
slot_of selects.FirstFollows = 0
slot_of selects.NeitherFollows = 0
slot_of selects.FirstRefused = 0
slot_of selects.SecondRefused = 0
slot_of selects.BothRefused = 0

pub selects_loaded : (E : Type 0) (s t : Superblock) → slot_of (selection {E = E} (Ok s) (Ok t)) ≡ select_superblock_index s t
unfolding selection by_counters slot_of select_superblock_index
selects_loaded E s t = go (increments1 s.counter t.counter) (s.counter == t.counter) (increments1 t.counter s.counter)
  where
    go : (a b c : Bool) → slot_of (cond a selects.SecondFollows (cond b selects.EqualCounters (cond c selects.FirstFollows selects.NeitherFollows))) ≡ cond a 1 0
    go true b c = refl
    go false true c = refl
    go false false true = refl
    go false false false = refl
