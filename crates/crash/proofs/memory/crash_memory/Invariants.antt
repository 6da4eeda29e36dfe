use Rattle.std.proofs.Common.{◌≡◌}
use Rattle.crash.specs.Laws.Memory.{blocks_after, marks_after}
use Rattle.crash.proofs.memory.crash_memory.Given as goal

abbrev pub invariant-loop-v : goal.invariant-loop-v
invariant-loop-v l =
    (l.blocks ≡ blocks_after l.rows l.v-index l.picture l.initial.blocks) × (l.marks ≡ marks_after l.rows l.v-index l.pictured l.initial.marks)
