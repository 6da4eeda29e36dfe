use Rattle.joined.proofs.Laws.Walks.{apart_no, apart_yes, apart_end}
use Rattle.joined.proofs.apart.rows_apart.Goals as goal

pub returns-then-not-apart_from : goal.returns-then-not-apart_from
returns-then-not-apart_from c = apart_no _ _ _ c.loop-i-test.true _ c.apart_from.ensures c.loop-i.invariant c.if-not-apart_from.true

pub loop-i-preserved : goal.loop-i-preserved
loop-i-preserved c = apart_yes _ _ _ c.loop-i-test.true _ c.apart_from.ensures c.loop-i.invariant c.if-not-apart_from.false

pub returns : goal.returns
returns c = apart_end _ _ c.loop-i-test.false c.loop-i.invariant
