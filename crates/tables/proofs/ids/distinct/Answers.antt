use Rattle.tables.proofs.Laws.Places.{distinct_no, distinct_yes, distinct_end}
use Rattle.tables.proofs.ids.distinct.Goals as goal

pub returns-then-member : goal.returns-then-member
returns-then-member c = distinct_no _ _ _ c.loop-i-test.true c.member.ensures c.if-member.true c.loop-i.invariant

pub loop-i-preserved : goal.loop-i-preserved
loop-i-preserved c = distinct_yes _ _ _ c.loop-i-test.true c.member.ensures c.if-member.false c.loop-i.invariant

pub returns : goal.returns
returns c = distinct_end _ _ c.loop-i-test.false c.loop-i.invariant
