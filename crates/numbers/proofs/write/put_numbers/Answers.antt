use Rattle.std.proofs.Common.{rules, arith, ◌<◌, ◌∙◌, ap, refl, length}
use Rattle.laws.specs.Splice.{length_clipped}
use Rattle.numbers.specs.Laws.{put_none, put_turn}
use Rattle.numbers.proofs.write.put_numbers.Goals as goal

pub loop-n-init : goal.loop-n-init
loop-n-init c = let a = c.args in (refl, omega arith, put_none 8 a.dst.now a.at)

pub loop-n-preserved : goal.loop-n-preserved
loop-n-preserved c =
    let a = c.args in
    let i = c.loop-n in
    let p = c.put_number.ensures in
    let l : i.n-index < length a.numbers.now = search rules in (
      ap length p ∙ length_clipped _ _ _ ∙ i.invariant.0,
      omega arith,
      put_turn 8 _ _ a.dst.now a.at i.place i.n-index a.numbers.now i.invariant.2 i.invariant.0 i.invariant.1 l p,
    )
