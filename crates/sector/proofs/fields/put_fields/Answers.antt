use Rattle.std.proofs.Common.{arith}
use Rattle.sector.specs.Fields.{put_runs}
use Rattle.sector.proofs.fields.put_fields.Goals as goal

pub overflow_sub-head : goal.overflow_sub-head
overflow_sub-head c = omega (arith, c.requires.0.long, c.requires.0.few)

pub returns : goal.returns
returns c =
    let c5 = c in
    let c4 = c in
    let c3 = c in
    let c2 = c in
    let c1 = c in
    let k = c in
    let s = c in
    put_runs c.args.contents.now c.args.numbers.now c.args.sector.now _ _ _ _ _ c.check_number-check.result c.requires.0 c.requires.1
    c.check_number-check.ensures c.write.ensures c.fill.ensures c.put_numbers.ensures c.put_number.ensures c.fill-2.ensures
