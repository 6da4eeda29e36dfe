use Rattle.std.specs.Prelude.{Err}
use Rattle.std.proofs.Common.{◌∙◌, ap, arith}
use Rattle.refusal.specs.Refusal.{yes, handed_on, some_of, none_of}
use Rattle.memory.specs.Given.{memory}
use Rattle.memory.specs.PendingLaws.{count_unlent, count_front_no, count_first, count_back_no, count_rest, count_all}
use Rattle.memory.proofs.pending.count_pending.Goals as goal

pub returns-in_err-ask_lent : goal.returns-in_err-ask_lent
returns-in_err-ask_lent c = handed_on _ _ c.from_residual.ensures.1 ∙ count_unlent _ _ _ _ c.in_err-ask_lent.ensures

pub returns-in_err-first : goal.returns-in_err-first
returns-in_err-first c =
    let a = c.args in
    let n = none_of _ _ _ c.in_err-first.ensures.value in
    handed_on _ _ c.from_residual-in_err-first.ensures.1 ∙ ap Err n.1
    ∙ count_front_no a.limits (memory a.bytes.now a.lens.now a.n) a.frozen (yes _ _ _ c.in_ok-ask_lent.ensures) (n.0 ∙ c.entries_held.ensures)

pub overflow_sub-limits : goal.overflow_sub-limits
overflow_sub-limits c =
    let a = c.args in
    count_first a.limits (memory a.bytes.now a.lens.now a.n) a.frozen (yes _ _ _ c.in_ok-ask_lent.ensures)
    _ (some_of _ _ _ c.in_ok-first.ensures.value ∙ c.entries_held.ensures)

pub returns-in_err-others : goal.returns-in_err-others
returns-in_err-others c =
    let a = c.args in
    let n = none_of _ _ _ c.in_err-others.ensures.value in
    handed_on _ _ c.from_residual-in_err-others.ensures.1 ∙ ap Err n.1
    ∙ count_back_no a.limits (memory a.bytes.now a.lens.now a.n) a.frozen (yes _ _ _ c.in_ok-ask_lent.ensures)
    _ (some_of _ _ _ c.in_ok-first.ensures.value ∙ c.entries_held.ensures) (n.0 ∙ c.entries_held-2.ensures)

pub overflow_add-result : goal.overflow_add-result
overflow_add-result c =
    let a = c.args in
    omega (
      arith,
      count_rest a.limits (memory a.bytes.now a.lens.now a.n) a.frozen (yes _ _ _ c.in_ok-ask_lent.ensures)
          _ (some_of _ _ _ c.in_ok-first.ensures.value ∙ c.entries_held.ensures)
          _ (some_of _ _ _ c.in_ok-others.ensures.value ∙ c.entries_held-2.ensures),
    )

pub returns : goal.returns
returns c =
    let a = c.args in
    count_all a.limits (memory a.bytes.now a.lens.now a.n) a.frozen (yes _ _ _ c.in_ok-ask_lent.ensures)
    _ (some_of _ _ _ c.in_ok-first.ensures.value ∙ c.entries_held.ensures)
    _ (some_of _ _ _ c.in_ok-others.ensures.value ∙ c.entries_held-2.ensures)
