use Rattle.std.proofs.Common.{rules, arith, ◌<◌, ◌≤◌, length}
use Rattle.laws.specs.Fold.{sum_step, sum_end}
use Rattle.reader.proofs.walk.total_in.Goals as goal

pub loop-length-preserved : goal.loop-length-preserved
loop-length-preserved c =
    let s = c.args.lengths.now in
    let i = c.loop-length in
    let l : i.length-index < length s = search rules in
    let b : c.from-bytes.result < 256 = search rules in
    (omega arith, omega (arith, sum_step s i.length-index l))

pub returns : goal.returns
returns c =
    let s = c.args.lengths.now in
    let i = c.loop-length in
    let l : length s ≤ i.length-index = search rules in
    let m : i.length-index ≤ length s = search rules in
    (omega (arith, sum_end s i.length-index l), omega (arith, sum_end s i.length-index l))
