use Rattle.std.proofs.Common.{rules, ℕ, ◌<◌, ◌≤◌, ◌∙◌, ap, length, set}
use Rattle.tables.proofs.Laws.Walks.{changed_more, changed_all}
use Rattle.tables.specs.SyncTable.{moved, moved_syncs}
use Rattle.tables.proofs.SyncTable.move_states.Goals as goal

pub loop-state-preserved : goal.loop-state-preserved
loop-state-preserved c =
    let s = c.args.self.states in
    let l : c.loop-state.state-index < length s = search rules in
    ap (λ (n : ℕ). set c.loop-state.state-items c.loop-state.state-index n) c.moved.ensures ∙ changed_more (moved c.args.from c.args.to) _ s _ 0 c.loop-state.invariant l

pub returns : goal.returns
unfolding moved_syncs
returns c =
    let a = c.args in
    let l : length a.self.states ≤ c.loop-state.state-index = search rules in
    λ j. record { ids = a.self.ids; states = changed_all (moved a.from a.to) _ _ c.loop-state.state-index c.loop-state.invariant l j; count = a.self.count }
