use Rattle.std.proofs.Common.{ℕ, ◌-◌, ◌%◌, refl, arith, length-set}
use Rattle.laws.specs.Splice.{splice_none, map_turn, copy_end}
use Rattle.runs.specs.Low.{low_bytes, length_low_bytes}
use Rattle.runs.proofs.lengths.narrow.Goals as goal

pub loop-j-init : goal.loop-j-init
loop-j-init c = (omega arith, refl, splice_none _ _)

pub loop-j-preserved : goal.loop-j-preserved
unfolding low_bytes
loop-j-preserved c =
    let a = c.args in
    (omega arith, simp length-set (omega arith), map_turn (λ (m : ℕ). m % 256) _ a.dst.now a.at a.src.now c.loop-j.j 0 c.loop-j.invariant.2 (omega arith) (omega arith))

pub returns : goal.returns
returns c =
    let a = c.args in
    copy_end _ a.dst.now a.at (low_bytes a.src.now) c.loop-j.j c.loop-j.invariant.2 (omega (arith, length_low_bytes a.src.now))
