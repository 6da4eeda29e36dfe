use Rattle.std.proofs.Common.{rules, ◌≡◌, ◌∙◌, ℕ, List, length, take}
use Rattle.std.proofs.Math.Path.{ap}
use Rattle.std.specs.Prelude.{Bool}
use Rattle.laws.specs.Choice.{also, and_also}
use Rattle.tables.specs.Rows.{within, same_ids}
use Rattle.tables.proofs.Laws.Walks.{cut_front}
use Rattle.joined.specs.Held.{same_tables}
use Rattle.joined.proofs.held.same_tables.Goals as goal

pub returns : goal.returns
unfolding same_tables same_ids
returns c =
    let a = c.args.a in
    let b = c.args.b in
    let m = c.min.result in
    let n = c.min-2.result in
    let x : length a.ids ≡ 16 = search rules in
    let y : length b.ids ≡ 16 = search rules in
    let xs = take a.count a.ids in
    let ys = take b.count b.ids in
    let there =
    c.within-there.ensures ∙ cut_front (λ (us : List ℕ). within us (take n b.ids)) a.ids a.count m 16 x c.min.ensures
    ∙ cut_front (within xs) b.ids b.count n 16 y c.min-2.ensures in
    let back =
    c.within-back.ensures ∙ cut_front (λ (us : List ℕ). within us (take m a.ids)) b.ids b.count n 16 y c.min-2.ensures
    ∙ cut_front (within ys) a.ids a.count m 16 x c.min.ensures in
    and_also _ _ ∙ ap (λ (t : Bool). also t c.within-back.result) there ∙ ap (also (within xs ys)) back
