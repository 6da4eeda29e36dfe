use mathlib.Core.Path.{sym, ◌∙◌}
use native.Mathlib.Omega.{arith}
use Rattle.writer.specs.Ring.{puts_start, puts_facts, put_no, put_yes}
use Rattle.writer.proofs.ring.put_range.Goals as goal

pub overflow_mul-start : goal.overflow_mul-start
overflow_mul-start c = omega (arith, puts_start c.args.bytes.now c.args.lens.now _ _ c.args.journal.now _ (sym c.puts-ok.ensures ∙ c.if-ok.true))

pub put-requires : goal.put-requires
put-requires c = puts_facts _ _ _ _ _ _ _ (sym c.puts-ok.ensures ∙ c.if-ok.true) c.blocks_of-blocks.ensures

pub returns-then-ok : goal.returns-then-ok
returns-then-ok c = put_yes _ _ _ _ _ _ _ (sym c.puts-ok.ensures ∙ c.if-ok.true) c.put.ensures

pub returns-else-ok : goal.returns-else-ok
returns-else-ok c = put_no _ _ _ _ _ _ (sym c.puts-ok.ensures ∙ c.if-ok.false)
