use Rattle.std.specs.Prelude.{Err}
use Rattle.std.proofs.Common.{◌∙◌, ap, arith}
use Rattle.refusal.specs.Refusal.{handed_on, some_of, none_of}
use Rattle.memory.specs.Given.{given_no, given_yes}
use Rattle.memory.proofs.given.count_given.Goals as goal

pub returns-in_err-bytes : goal.returns-in_err-bytes
returns-in_err-bytes c =
    let n = none_of _ _ _ c.in_err-bytes.ensures.value in
    handed_on _ _ c.from_residual.ensures.1 ∙ ap Err n.1 ∙ given_no _ (n.0 ∙ c.entries_held.ensures)

pub returns : goal.returns
returns c = given_yes _ _ (omega arith) (some_of _ _ _ c.in_ok-bytes.ensures.value ∙ c.entries_held.ensures)
