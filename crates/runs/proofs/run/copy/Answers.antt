use Rattle.std.specs.Prelude.{◌+◌, ◌-◌}
use Rattle.std.proofs.Common.{ap, ◌∙◌, arith}
use Rattle.laws.specs.Part.{part_cut}
use Rattle.laws.specs.Splice.{clipped}
use Rattle.runs.proofs.run.copy.Goals as goal

pub returns : goal.returns
returns g c =
    let a = c.args in
    let start = c.min-start.result in
    let size = c.min-size.result in
    c.write.ensures
    ∙ ap (clipped a.dst.now a.at) (part_cut a.src.now a.from a.count start size (start + size - start) (omega arith) (omega arith) (omega arith))
