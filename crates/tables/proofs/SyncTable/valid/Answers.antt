use Rattle.std.proofs.Common.{rules, tests, ◌≡◌, ◌∙◌, length, take}
use Rattle.std.proofs.lemmas.Iterator.{YieldsList-from_slice}
use Rattle.std.proofs.lemmas.Iterator.Search.{all_from_yields_List}
use Rattle.laws.specs.Chains.{all_every}
use Rattle.laws.specs.Fold.{every}
use Rattle.tables.specs.SyncTable.{ok_state, valid_states}
use Rattle.tables.proofs.Laws.Walks.{cut_front, state_low, state_high, state_ok}
use Rattle.tables.proofs.SyncTable.valid.Goals as goal

pub returns : goal.returns
unfolding valid_states
returns c =
    let t = c.args.self in
    let n = c.min-n.result in
    let z : length t.states ≡ 32 = search rules in
    let r = all_from_yields_List ok_state _ _ c.all.result c.all.ensures.ran (YieldsList-from_slice (take n t.states) cc) (λ x b q k. search (rules, tests, state_low, state_high, state_ok)) in
    r ∙ all_every ok_state (take n t.states) ∙ cut_front (every ok_state) t.states t.count n 32 z c.min-n.ensures
