use native.Mathlib.Omega.{arith}
use Rattle.digest.specs.Laws.Turns.{byte_turn, byte_end}
use Rattle.digest.proofs.bytes.Taken.singles.Goals as goal

pub loop-b-preserved : goal.loop-b-preserved
loop-b-preserved c = byte_turn c.args.s.now c.loop-b.b-index _ _ (omega arith) c.loop-b.invariant c.byte-v.ensures

pub returns : goal.returns
returns c = byte_end c.args.s.now c.loop-b.b-index _ (omega arith) c.loop-b.invariant
