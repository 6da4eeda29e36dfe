use mathlib.Core.Path.{sym, ◌∙◌}
use native.Mathlib.Omega.{arith}
use Rattle.reader.specs.Front.{front_facts, scan_none, scan_short, scan_whole}
use Rattle.reader.proofs.parse.scan_range.Goals as goal

pub returns-in_default : goal.returns-in_default
returns-in_default c = scan_none _ (sym c.in_default.is ∙ c.range_in_front.ensures)

pub overflow_mul-c : goal.overflow_mul-c
overflow_mul-c c = let f = front_facts _ _ (sym c.in-Some.is ∙ c.range_in_front.ensures) in omega arith

pub returns-then-s-c : goal.returns-then-s-c
returns-then-s-c c = scan_short _ _ (sym c.in-Some.is ∙ c.range_in_front.ensures) c.if-s-c.true

pub returns : goal.returns
returns c = scan_whole _ _ (sym c.in-Some.is ∙ c.range_in_front.ensures) c.if-s-c.false
