use Rattle.std.proofs.Common.{rules, tests, ◌∙◌, ap, eqb, ℕ, length}
use Rattle.std.proofs.lemmas.Iterator.{YieldsList-from_slice}
use Rattle.std.proofs.lemmas.Iterator.Search.{position_from_yields_List}
use Rattle.std.specs.declared.option.Option as code
use Rattle.std.specs.Prelude.{unwrap_or}
use Rattle.tables.proofs.Laws.Places.{place_found}
use Rattle.tables.proofs.ids.find.Goals as goal

pub returns : goal.returns
returns c =
    let ids = c.args.ids.now in
    let r = position_from_yields_List (λ (k : ℕ). eqb k c.args.id) _ _ c.position.result c.position.ensures.ran (YieldsList-from_slice ids cc) (λ x b q k. search (rules, tests)) in
    c.unwrap_or.ensures ∙ ap (λ (o : code.Option ℕ). unwrap_or o (length ids)) r ∙ place_found c.args.id ids
