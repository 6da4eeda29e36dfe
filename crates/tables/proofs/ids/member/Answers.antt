use Rattle.std.proofs.Common.{◌∙◌}
use Rattle.laws.specs.Chains.{any_ids}
use Rattle.tables.proofs.ids.member.Goals as goal

pub returns : goal.returns
returns c = c.contains.ensures.value ∙ any_ids c.args.ids.now c.args.id
