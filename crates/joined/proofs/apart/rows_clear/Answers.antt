use Rattle.std.proofs.Common.{rules, tests, ◌≡◌, ◌∙◌, length, take}
use Rattle.std.proofs.lemmas.Iterator.{YieldsList-from_slice}
use Rattle.std.proofs.lemmas.Iterator.Search.{all_from_yields_List}
use Rattle.laws.specs.Chains.{all_every}
use Rattle.laws.specs.Fold.{every}
use Rattle.tables.proofs.Laws.Walks.{cut_front, mapped}
use Rattle.joined.specs.Apart.{clear_of, rows_clear}
use Rattle.joined.proofs.apart.rows_clear.Goals as goal

pub returns : goal.returns
unfolding rows_clear
returns c =
    let t = c.args.table in
    let p = clear_of c.args.g c.args.v in
    let n = c.min-n.result in
    let z : length t.intervals ≡ 16 = search (rules, mapped) in
    let r = all_from_yields_List p _ _ c.all.result c.all.ensures.ran (YieldsList-from_slice (take n t.intervals) cc) (λ x b q k. search (rules, tests)) in
    r ∙ all_every p (take n t.intervals) ∙ cut_front (every p) t.intervals t.count n 16 z c.min-n.ensures
