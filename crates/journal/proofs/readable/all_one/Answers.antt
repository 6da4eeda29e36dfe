use Rattle.std.specs.Prelude.{Bool, true, ℕ}
use Rattle.std.proofs.Common.{rules, ◌∙◌}
use Rattle.std.proofs.lemmas.Iterator.{YieldsList-from_slice}
use Rattle.std.proofs.lemmas.Iterator.Consumers.{fold_from_yields_List}
use Rattle.laws.specs.Choice.{tests, also, and_also}
use Rattle.laws.specs.Fold.{every_fold}
use Rattle.journal.specs.Memory.{is_one}
use Rattle.journal.proofs.readable.all_one.Goals as goal

pub returns : goal.returns
unfolding also is_one
returns c =
    fold_from_yields_List _ (λ (ok : Bool) (mark : ℕ). also ok (is_one mark)) true c.fold.result c.fold.ensures.ran (YieldsList-from_slice c.args.marks.now cc) (λ a x b q k. search (rules, tests, and_also))
    ∙ every_fold is_one true c.args.marks.now
