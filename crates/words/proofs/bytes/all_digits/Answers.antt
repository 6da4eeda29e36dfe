use Rattle.std.proofs.Common.{rules, tests, ◌∙◌}
use Rattle.std.proofs.lemmas.Iterator.{YieldsList-from_slice}
use Rattle.std.proofs.lemmas.Iterator.Search.{all_from_yields_List}
use Rattle.laws.specs.Chains.{all_every}
use Rattle.words.specs.Hex.{is_hex}
use Rattle.words.proofs.bytes.all_digits.Goals as goal

pub returns : goal.returns
unfolding is_hex
returns c =
    let r = all_from_yields_List is_hex _ _ c.all.result c.all.ensures.ran (YieldsList-from_slice c.args.digits.now cc) (λ x b q k. search (rules, tests)) in
    r ∙ all_every is_hex c.args.digits.now
