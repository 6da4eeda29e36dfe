use Rattle.std.proofs.Common.{rules, tests, ◌∙◌}
use Rattle.std.proofs.lemmas.Iterator.{YieldsList-from_slice}
use Rattle.std.proofs.lemmas.Iterator.Search.{all_from_yields_List}
use Rattle.laws.specs.Chains.{all_every}
use Rattle.laws.specs.Sets.{ids_of}
use Rattle.tables.specs.Rows.{within}
use Rattle.tables.proofs.ids.within.Goals as goal

pub returns : goal.returns
unfolding within
returns c =
    let r = all_from_yields_List (ids_of c.args.others.now) _ _ c.all.result c.all.ensures.ran (YieldsList-from_slice c.args.ids.now cc) (λ x b q k. search (rules, tests)) in
    r ∙ all_every (ids_of c.args.others.now) c.args.ids.now
