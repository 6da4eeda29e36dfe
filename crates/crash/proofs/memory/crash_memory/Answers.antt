use Rattle.std.proofs.Common.{rules, ◌≡◌, ◌∙◌, ◌/◌, length}
use Rattle.crash.specs.Laws.Memory.{rows_start, blocks_row, marks_row, taken_blocks_end, taken_marks_end}
use Rattle.tables.proofs.Laws.Walks.{mapped}
use Rattle.crash.proofs.memory.crash_memory.Goals as goal
use Rattle.crash.proofs.memory.crash_memory.Goals.{Start}

intervals_long : (c : Start) → length c.args.writes.intervals ≡ 16
intervals_long c = search (rules, mapped)

pub loop-v-init : goal.loop-v-init
loop-v-init c = (rows_start (λ p. p / 4096) _ _ _, rows_start (λ p. p) _ _ _)

pub loop-v-preserved : goal.loop-v-preserved
loop-v-preserved c =
    let h = c.loop-v-test.true in
    (blocks_row _ _ _ _ _ h _ _ c.loop-v.invariant.0 c.copy_blocks.ensures, marks_row _ _ _ _ _ h _ _ c.loop-v.invariant.1 c.copy.ensures)

pub returns : goal.returns
returns c =
    let l = intervals_long (goal.at.returns c).Start in
    let h = c.loop-v-test.false in
    record {
      blocks_after = c.loop-v.invariant.0 ∙ taken_blocks_end c.args.writes _ _ _ _ 16 l c.min-n.ensures h;
      marks_after = c.loop-v.invariant.1 ∙ taken_marks_end c.args.writes _ _ _ _ 16 l c.min-n.ensures h;
    }
