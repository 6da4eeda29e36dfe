use Rattle.std.proofs.Common.{◌∙◌}
use Rattle.laws.specs.Choice.{and_also, also}
use Rattle.tables.specs.Rows.{within, same_ids}
use Rattle.tables.proofs.ids.InUse.same.Goals as goal

pub returns : goal.returns
unfolding same_ids
returns c =
    and_also _ _
    ∙ (λ j. also
    ((c.within-there.ensures ∙ (λ i. within (c.used.ensures i) (c.used-2.ensures i))) j)
    ((c.within-back.ensures ∙ (λ i. within (c.used-3.ensures i) (c.used-4.ensures i))) j))
