use Rattle.std.proofs.Common.{rules, ◌<◌, ◌≤◌, length}
use Rattle.laws.specs.Choice.{true_also}
use Rattle.laws.specs.Fold.{flag_turn, flag_end}
use Rattle.range.specs.Form.{ok_length}
use Rattle.lengths.proofs.walk.every_length_ok.Goals as goal

pub loop-length-init : goal.loop-length-init
loop-length-init c = true_also _

pub loop-length-preserved : goal.loop-length-preserved
loop-length-preserved c =
    let a = c.args in
    let i = c.loop-length in
    let l : i.length-index < length a.lens.now = search rules in
    flag_turn (ok_length a.most) a.lens.now i.length-index 0 _ _ l i.invariant c.and_ok-ok.ensures

pub returns : goal.returns
returns c =
    let a = c.args in
    let i = c.loop-length in
    let l : length a.lens.now ≤ i.length-index = search rules in
    flag_end (ok_length a.most) a.lens.now i.length-index _ l i.invariant
