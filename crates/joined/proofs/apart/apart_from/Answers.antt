use Rattle.std.proofs.Common.{rules, tests, ◌∙◌}
use Rattle.std.proofs.lemmas.Iterator.{YieldsList-from_slice}
use Rattle.std.proofs.lemmas.Iterator.Search.{all_from_yields_List}
use Rattle.laws.specs.Chains.{all_every}
use Rattle.joined.specs.Apart.{apart_from}
use Rattle.joined.proofs.apart.apart_from.Goals as goal

pub returns : goal.returns
returns c =
    let p = apart_from c.args.v in
    let xs = c.args.rows.now in
    let r = all_from_yields_List p _ _ c.all.result c.all.ensures.ran (YieldsList-from_slice xs cc) (λ x b q k. search (rules, tests)) in
    r ∙ all_every p xs
