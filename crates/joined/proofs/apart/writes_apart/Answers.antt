use Rattle.std.proofs.Common.{rules, ◌≡◌, ◌∙◌, length}
use Rattle.tables.proofs.Laws.Walks.{cut_front, mapped}
use Rattle.joined.specs.Apart.{apart, writes_apart}
use Rattle.joined.proofs.apart.writes_apart.Goals as goal

pub returns : goal.returns
unfolding writes_apart
returns c =
    let t = c.args.table in
    let z : length t.intervals ≡ 16 = search (rules, mapped) in
    c.rows_apart.ensures ∙ cut_front apart t.intervals t.count c.min-n.result 16 z c.min-n.ensures
