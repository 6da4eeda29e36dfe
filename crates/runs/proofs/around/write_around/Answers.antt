use native.Mathlib.Omega.{arith}
use Rattle.laws.specs.Around.{around_two}
use Rattle.runs.proofs.around.write_around.Goals as goal

pub returns : goal.returns
returns g c =
    let s = c in
    let first = c.min-first.result in
    let end = c.min-end.result in
    around_two c.args.dst.now _ _ c.args.at c.args.src.now first end (omega arith) (omega arith) c.write.ensures c.write-2.ensures
