-- What a crash makes of lent memory: "Blocks and marks covered by a journal write in flight are then taken from a lent picture of N blocks and
-- N marks, the others kept" (document 01, Disk).
use Rattle.std.specs.Prelude.{ℕ, ◌+◌, ◌/◌, Bool, false, cond, List, [], ◌∷◌, leb, ltb, length, take, get_or}
use Rattle.laws.specs.Choice.{also, either}
use Rattle.laws.specs.Part.{tab}
use Rattle.interval.specs.declared.JournalInterval.{JournalInterval}
use Rattle.tables.specs.declared.IntervalTable.{IntervalTable}

-- block p lies in an interval that does not pass the ring's end, and in one of several
unfoldable pub in_row : JournalInterval → ℕ → Bool
in_row v p = also (leb v.start p) (ltb p (v.start + v.len))

unfoldable pub in_rows : List JournalInterval → ℕ → Bool
in_rows [] p = false
in_rows (v ∷ vs) p = either (in_row v p) (in_rows vs p)

-- block p is covered by a journal write in flight: it lies in the interval of a row in use
unfoldable pub covered : IntervalTable → ℕ → Bool
covered t p = in_rows (take t.count t.intervals) p

-- place by place: the new list's element where the test holds and it has one there, else the old one's
unfoldable pub picked : (ℕ → Bool) → List ℕ → List ℕ → List ℕ
picked test new old = tab (length old) (λ p. cond (test p) (get_or new p (get_or old p 0)) (get_or old p 0))

-- byte p is of block p / 4096
unfoldable pub crashed_blocks : IntervalTable → List ℕ → List ℕ → List ℕ
crashed_blocks t picture blocks = picked (λ p. covered t (p / 4096)) picture blocks

unfoldable pub crashed_marks : IntervalTable → List ℕ → List ℕ → List ℕ
crashed_marks t pictured marks = picked (covered t) pictured marks
