use Rattle.std.specs.Prelude.{ℕ, ◌+◌, ◌-◌, List, ◌++◌, take, drop, length}
use Rattle.std.proofs.Common.{rules, sym, ap, ◌∙◌, arith}
use Rattle.laws.specs.Part.{part_cut, length_part}
use Rattle.laws.specs.Splice.{splice}
use Rattle.runs.proofs.Parts.{pasted}
use Rattle.runs.proofs.front.move_front.Goals as goal

pub returns : goal.returns
returns g c =
    let i = c.min-start.result in
    let n = c.min-n.result in
    let d = c.args.a.now in
    c.copy_within.ensures.after
    ∙ pasted d i (i + n) 0 (omega arith) (omega arith)
    ∙ ap (splice d 0) (part_cut d c.args.from c.args.count i n (i + n - i) (omega arith) (omega arith) (omega arith))
