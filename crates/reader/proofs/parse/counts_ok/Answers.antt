use Rattle.laws.specs.Choice.{tests, also}
use Rattle.reader.specs.Range.{counts_ok}
use Rattle.reader.proofs.parse.counts_ok.Goals as goal

pub returns-then-c-lt1 : goal.returns-then-c-lt1
unfolding counts_ok also
returns-then-c-lt1 c = search tests

pub returns-then-c-gt-MOST_ENTRIES : goal.returns-then-c-gt-MOST_ENTRIES
unfolding counts_ok also
returns-then-c-gt-MOST_ENTRIES c = search tests

pub returns : goal.returns
unfolding counts_ok also
returns c = search (tests, ← c.blocks_of-fewest.ensures)
