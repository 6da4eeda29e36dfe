use Rattle.std.proofs.Common.{rules, ℕ, ◌+◌, ◌-◌, ◌≡◌, length, ap, ◌∙◌, arith, length-take-le, length-drop}
use Rattle.laws.specs.Splice.{splice, copy_from}
use Rattle.runs.proofs.Parts.{part_spliced}
use Rattle.runs.proofs.run.write.Goals as goal

pub returns : goal.returns
returns g c =
    let p = c.min-place.result in
    let n = c.min-n.result in
    let d = c.args.dst.now in
    copy_from _ d c.args.at p n c.args.src.now (omega arith) (omega arith)
    (part_spliced d p (p + n) c.copy_from_slice.new.self (omega arith) (search rules) ∙ ap (splice d p) c.copy_from_slice.ensures.after)
