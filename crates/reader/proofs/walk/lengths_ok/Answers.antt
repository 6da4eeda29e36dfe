use Rattle.std.specs.Prelude.{Bool, true, ℕ, leb}
use Rattle.std.proofs.Common.{rules, arith, ◌∙◌, sym, refl, get_or}
use Rattle.std.proofs.lemmas.Iterator.{YieldsList-from_slice}
use Rattle.std.proofs.lemmas.Iterator.Consumers.{fold_from_yields_List}
use Rattle.laws.specs.Choice.{tests, also, and_also}
use Rattle.laws.specs.Fold.{every_fold, every_same}
use Rattle.range.specs.Form.{most_entry_length, ok_length}
use Rattle.range.specs.Lengths.{ok_byte}
use Rattle.reader.proofs.walk.lengths_ok.Goals as goal

pub returns : goal.returns
unfolding also
returns c =
    fold_from_yields_List _ (λ (ok : Bool) (length : ℕ). also ok (leb 1 length)) true c.fold.result c.fold.ensures.ran (YieldsList-from_slice c.args.lengths.now cc)
    (λ a x b q k. search (rules, tests, and_also))
    ∙ every_fold (leb 1) true c.args.lengths.now
    ∙ every_same (leb 1) (ok_length most_entry_length) c.args.lengths.now c.args.lengths.now 0 0 refl (λ i h. sym (ok_byte (get_or c.args.lengths.now i 0) (omega (arith, c.type_inv.lengths i))))
