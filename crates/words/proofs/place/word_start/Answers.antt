use Rattle.std.proofs.Common.{rules, tests, length}
use Rattle.std.proofs.lemmas.Iterator.{YieldsList-from_slice}
use Rattle.std.proofs.lemmas.Iterator.Search.{position_from_yields_List}
use Rattle.words.specs.Place.{not_blank, place_some, place_nowhere}
use Rattle.words.proofs.place.word_start.Goals as goal

pub returns-in-Some : goal.returns-in-Some
unfolding not_blank
returns-in-Some c =
    let r = position_from_yields_List not_blank _ _ _ c.in-Some.ensures.ran (YieldsList-from_slice c.rest.result.now cc) (λ x b q k. search (rules, tests)) in
    place_some not_blank c.args.line.now c.rest.result.now c.args.at (length c.args.line.now) c.rest.ensures c.in-Some.i r

pub returns-in-None : goal.returns-in-None
unfolding not_blank
returns-in-None c =
    let r = position_from_yields_List not_blank _ _ _ c.in-None.ensures.ran (YieldsList-from_slice c.rest.result.now cc) (λ x b q k. search (rules, tests)) in
    place_nowhere not_blank c.args.line.now c.rest.result.now c.args.at (length c.args.line.now) c.rest.ensures r
