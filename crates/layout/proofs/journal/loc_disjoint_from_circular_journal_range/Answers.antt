use Rattle.laws.specs.Choice.{tests, either}
use Rattle.refusal.specs.Refusal.{said}
use Rattle.layout.specs.Journal.{loc_disjoint_from_circular_journal_range}
use Rattle.layout.proofs.journal.loc_disjoint_from_circular_journal_range.Goals as goal

pub returns-then-start-len : goal.returns-then-start-len
unfolding loc_disjoint_from_circular_journal_range either
returns-then-start-len c = said _ _ _ _ _ c.in_ok-ask_circular.ensures (search (tests, ← c.ends_by-a.ensures, ← c.point-to.ensures, ← c.point-from.ensures))

pub returns : goal.returns
unfolding loc_disjoint_from_circular_journal_range either
returns c = said _ _ _ _ _ c.in_ok-ask_circular.ensures (search (tests, ← c.between-d.ensures, ← c.ends_by-a-2.ensures, ← c.point-to-2.ensures, ← c.point-end.ensures, ← c.point-from.ensures))
