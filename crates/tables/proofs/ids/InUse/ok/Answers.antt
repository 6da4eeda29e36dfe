use Rattle.laws.specs.Choice.{tests, also}
use Rattle.tables.specs.Rows.{counted}
use Rattle.tables.proofs.ids.InUse.ok.Goals as goal

pub returns-then-self : goal.returns-then-self
unfolding counted also
returns-then-self c = search (tests, ← c.distinct.ensures, ← c.used.ensures)

pub returns-else-self : goal.returns-else-self
unfolding counted also
returns-else-self c = search tests

pub returns-else-self-most : goal.returns-else-self-most
unfolding counted also
returns-else-self-most c = search tests
