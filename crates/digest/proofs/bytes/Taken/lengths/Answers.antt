use native.Mathlib.Omega.{arith}
use Rattle.digest.specs.Laws.Turns.{length_turn, length_end}
use Rattle.digest.proofs.bytes.Taken.lengths.Goals as goal

pub loop-n-preserved : goal.loop-n-preserved
loop-n-preserved c = length_turn c.args.lens.now c.loop-n.n-index _ _ (omega arith) c.loop-n.invariant c.length-v.ensures

pub returns : goal.returns
returns c = length_end c.args.lens.now c.loop-n.n-index _ (omega arith) c.loop-n.invariant
