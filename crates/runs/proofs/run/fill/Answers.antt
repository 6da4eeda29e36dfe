use Rattle.std.specs.Prelude.{ℕ, ◌+◌, ◌-◌, replicate, length}
use Rattle.std.proofs.Common.{rules, ap, ◌∙◌, arith}
use Rattle.laws.specs.Splice.{splice, clipped, fill_end, clipped_min}
use Rattle.runs.proofs.Parts.{part_spliced}
use Rattle.runs.proofs.run.fill.Goals as goal

pub returns : goal.returns
returns c =
    let p = c.min-place.result in
    let n = c.min-n.result in
    let d = c.args.dst.now in
    let v = c.args.value in
    let long = part_spliced d p (p + n) c.fill.new.self (omega arith) (search rules) in
    fill_end _ d p c.args.count n v (long ∙ ap (splice d p) (c.fill.ensures.after (λ y e. e) ∙ ap (λ (m : ℕ). replicate m v) (search rules))) (omega arith)
    ∙ ap (λ (q : ℕ). clipped d q (replicate c.args.count v)) (omega arith)
    ∙ clipped_min d c.args.at (replicate c.args.count v)
