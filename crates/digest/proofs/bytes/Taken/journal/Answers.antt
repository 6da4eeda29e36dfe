use native.Mathlib.Omega.{arith}
use mathlib.Core.List.{List}
use mathlib.Core.Path.{◌∙◌, ap}
use Rattle.std.specs.Prelude.{ℕ, get_or}
use Rattle.laws.specs.Part.{tail_is}
use Rattle.digest.specs.Take.{takes}
use Rattle.digest.specs.Visible.{marked_bytes}
use Rattle.digest.specs.Laws.Turns.{mark_turn, mark_end}
use Rattle.digest.proofs.bytes.Taken.journal.Goals as goal

pub loop-i-preserved : goal.loop-i-preserved
loop-i-preserved c =
    let blocks = c.args.blocks.now in
    let mark = get_or c.args.marks.now c.loop-i.i 0 in
    mark_turn blocks c.args.marks.now c.loop-i.i c.bytes_of-at.result c.loop-i.v.number c.marked-v.result.number (omega arith) c.loop-i.invariant c.bytes_of-at.ensures
    (c.marked-v.ensures ∙ ap (λ (ys : List ℕ). takes c.loop-i.v.number (marked_bytes mark ys)) (tail_is blocks c.bytes_of-at.result))

pub returns : goal.returns
returns c = mark_end c.args.blocks.now c.args.marks.now c.loop-i.i _ (omega arith) c.loop-i.invariant
