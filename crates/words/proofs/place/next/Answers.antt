use Rattle.std.proofs.Common.{rules, tests, ℕ, take, drop, ap, refl, ◌∙◌}
use Rattle.std.proofs.lemmas.Iterator.{YieldsList-from_slice}
use Rattle.std.proofs.lemmas.Iterator.Search.{position_from_yields_List}
use Rattle.laws.specs.Part.{take_min}
use Rattle.words.specs.Place.{is_byte, place_some, place_nowhere}
use Rattle.words.proofs.place.next.Goals as goal

pub returns-in-Some : goal.returns-in-Some
unfolding is_byte
returns-in-Some c =
    let r = position_from_yields_List (is_byte c.args.stop) _ _ _ c.in-Some.ensures.ran (YieldsList-from_slice c.rest.result.now cc) (λ x b q k. search (rules, tests)) in
    place_some (is_byte c.args.stop) (take c.args.end c.args.input.now) c.rest.result.now c.args.from c.args.end (c.rest.ensures ∙ ap (λ (n : ℕ). drop c.args.from (take n c.args.input.now)) c.min-last.ensures ∙ ap (drop c.args.from) (take_min c.args.input.now c.args.end _ refl)) c.in-Some.i r

pub returns-in-None : goal.returns-in-None
unfolding is_byte
returns-in-None c =
    let r = position_from_yields_List (is_byte c.args.stop) _ _ _ c.in-None.ensures.ran (YieldsList-from_slice c.rest.result.now cc) (λ x b q k. search (rules, tests)) in
    place_nowhere (is_byte c.args.stop) (take c.args.end c.args.input.now) c.rest.result.now c.args.from c.args.end (c.rest.ensures ∙ ap (λ (n : ℕ). drop c.args.from (take n c.args.input.now)) c.min-last.ensures ∙ ap (drop c.args.from) (take_min c.args.input.now c.args.end _ refl)) r
