use Rattle.std.specs.Prelude.{ℕ, ◌+◌, ◌%◌, ◌^◌}
use Rattle.std.proofs.Common.{rules, ◌∙◌}
use Rattle.std.proofs.lemmas.Iterator.{YieldsList-from_slice}
use Rattle.std.proofs.lemmas.Iterator.Consumers.{fold_from_yields_List}
use Rattle.sector.specs.Laws.{check_fold}
use Rattle.sector.proofs.check.check_number.Goals as goal

pub returns : goal.returns
returns c =
    fold_from_yields_List _ (λ (sum n : ℕ). (sum + n) % 2 ^ 64) 0 c.fold.result c.fold.ensures.ran (YieldsList-from_slice c.args.numbers.now cc) (λ a x b q k. search rules)
    ∙ check_fold c.args.numbers.now
