use Rattle.laws.specs.Choice.{tests, also}
use Rattle.layout.specs.Location.{valid_journal_location}
use Rattle.layout.proofs.Location.in_journal.Goals as goal

pub returns-then-self-lt-JOURNAL_START_ADDR : goal.returns-then-self-lt-JOURNAL_START_ADDR
unfolding valid_journal_location also
returns-then-self-lt-JOURNAL_START_ADDR c = search (tests, c.if-whole.true, ← c.whole_blocks-whole.ensures)

pub returns-then-g-self : goal.returns-then-g-self
unfolding valid_journal_location also
returns-then-g-self c = search (tests, c.if-whole.true, ← c.whole_blocks-whole.ensures)

pub returns-then-self : goal.returns-then-self
unfolding valid_journal_location also
returns-then-self c = search (tests, c.if-whole.true, ← c.whole_blocks-whole.ensures)

pub returns-then-whole : goal.returns-then-whole
unfolding valid_journal_location also
returns-then-whole c = search (tests, ← c.ends_by.ensures, c.if-whole.true, ← c.whole_blocks-whole.ensures)

pub returns : goal.returns
unfolding valid_journal_location also
returns c = search (tests, c.if-whole.false, ← c.whole_blocks-whole.ensures)
