use Rattle.laws.specs.Choice.{tests}
use Rattle.ready.specs.Laws.Ring.{pos_before, pos_from}
use Rattle.ready.proofs.ring.is_pos_add.Goals as goal

pub returns-then-start-g : goal.returns-then-start-g
returns-then-start-g c = search (tests, ← c.pos_add-p.ensures)

pub returns-then-place-past : goal.returns-then-place-past
returns-then-place-past c = let a = c.args in pos_before a.g a.start a.span a.place c.if-start-g.false c.if-place-past.true

pub returns : goal.returns
returns c = let a = c.args in pos_from a.g a.start a.span a.place c.if-start-g.false c.if-place-past.false
