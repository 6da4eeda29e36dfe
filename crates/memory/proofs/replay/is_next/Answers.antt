use Rattle.std.proofs.Common.{◌∙◌, arith}
use Rattle.runs.specs.Compare.{pointwise_same}
use Rattle.memory.specs.ReplayLaws.{next_test}
use Rattle.memory.proofs.replay.is_next.Goals as goal

pub returns : goal.returns
returns c = next_test _ _ _ _ _ _ _ _ _ (omega arith) (c.same_at-lengths.ensures ∙ pointwise_same _ _) (c.same_at-body.ensures ∙ pointwise_same _ _)
