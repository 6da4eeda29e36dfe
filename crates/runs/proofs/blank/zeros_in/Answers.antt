use Rattle.std.specs.Prelude.{max}
use Rattle.std.proofs.Common.{rules, ap, ◌∙◌, arith}
use Rattle.laws.specs.Choice.{tests}
use Rattle.std.specs.List.{fold}
use Rattle.std.proofs.lemmas.Iterator.{YieldsList-from_slice}
use Rattle.std.proofs.lemmas.Iterator.Consumers.{fold_from_yields_List}
use Rattle.laws.specs.Bytes.{is_zero}
use Rattle.runs.proofs.Parts.{all_zero}
use Rattle.runs.proofs.blank.zeros_in.Goals as goal

pub returns : goal.returns
unfolding is_zero
returns c =
    let r = fold_from_yields_List _ max 0 c.fold-greatest.result c.fold-greatest.ensures.ran (YieldsList-from_slice c.args.s.now cc) (λ a x b q k. search (rules, tests)) in
    ap is_zero r ∙ all_zero c.args.s.now
