-- What a store asks of a superblock that was read, by its five numbers; and the selected slot, by two counters.
use Rattle.std.specs.Prelude.{ℕ, List, ◌≡◌, length, eqb}
use Rattle.std.proofs.Common.{sym, ◌∙◌}
use Rattle.laws.specs.Choice.{and_then, ask, by_eqb}
use Rattle.layout.specs.Geometry.{ask_geometry}
use Rattle.superblock.specs.declared.Superblock.{Superblock}
use Rattle.superblock.specs.Superblock.{increment_superblock_counter, select_superblock_index, wf_superblock}
use Rattle.superblock.specs.Laws.{selects_second, selects_first}
use Rattle.sector.specs.Sector.{number_count, superblock_of}
use Rattle.linked.specs.Numbers.{geometry_of}

-- question 1: N and T, and five numbers; question 2: a well-formed superblock
unfoldable pub ask_superblock : ℕ → ℕ → List ℕ → ℕ
ask_superblock n t numbers =
    and_then (ask_geometry (geometry_of n t))
    (and_then (ask 1 (eqb (length numbers) number_count))
    (ask 2 (wf_superblock (geometry_of n t) (superblock_of numbers))))

-- a superblock of which the counter alone is known: the selection looks at nothing else
abbrev pub counted_by : ℕ → Superblock
counted_by counter = record { counter = counter; journalStart = 0; journalLen = 0; indirectionTableLoc = record { addr = 0; len = 0 } }

abbrev pub select_of : ℕ → ℕ → ℕ
select_of counter1 counter2 = select_superblock_index (counted_by counter1) (counted_by counter2)

-- it is the selection of any two superblocks with these counters
pub selected_by : (a b : Superblock) → select_superblock_index a b ≡ select_of a.counter b.counter
selected_by a b =
    by_eqb (λ (n : ℕ). select_superblock_index a b ≡ select_of a.counter b.counter) b.counter (increment_superblock_counter a.counter) 0 0
    (λ e. selects_second a b e ∙ sym (selects_second (counted_by a.counter) (counted_by b.counter) e))
    (λ h. selects_first a b h ∙ sym (selects_first (counted_by a.counter) (counted_by b.counter) h))
