use native.Mathlib.Omega.{arith}
use Rattle.laws.specs.Around.{around_fill}
use Rattle.runs.proofs.around.fill_around.Goals as goal

pub returns : goal.returns
returns c =
    let s = c in
    let first = c.min-first.result in
    let end = c.min-end.result in
    around_fill c.args.dst.now _ _ c.args.at c.args.count c.args.value first end (omega arith) (omega arith) c.fill.ensures c.fill-2.ensures
