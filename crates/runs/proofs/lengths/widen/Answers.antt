use Rattle.std.proofs.Common.{◌-◌, refl, arith, length-set}
use Rattle.laws.specs.Splice.{splice_none, copy_turn, copy_end}
use Rattle.runs.proofs.lengths.widen.Goals as goal

pub loop-j-init : goal.loop-j-init
loop-j-init c = (omega arith, refl, splice_none _ _)

pub loop-j-preserved : goal.loop-j-preserved
loop-j-preserved c =
    let a = c.args in
    rw c.from.ensures
    (omega arith, simp length-set (omega arith), copy_turn _ a.dst.now a.at a.src.now c.loop-j.j 0 c.loop-j.invariant.2 (omega arith) (omega arith))

pub returns : goal.returns
returns c = copy_end _ c.args.dst.now c.args.at c.args.src.now c.loop-j.j c.loop-j.invariant.2 (omega arith)
