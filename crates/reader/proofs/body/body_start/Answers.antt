use native.Mathlib.Omega.{arith}
use Rattle.reader.specs.Entry.{start_is, start_within}
use Rattle.reader.proofs.body.body_start.Goals as goal

pub returns : goal.returns
returns c =
    let st = c in
    let k = start_is c.args.s.now c.args.i c.requires.0 _ _ c.requires.1 c.entry_count-entries.ensures.0 c.total-before.ensures.0 in
    (k, omega (arith, k, start_within c.args.s.now c.args.i c.requires.0 c.requires.1))
