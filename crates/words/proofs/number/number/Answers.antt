use Rattle.std.proofs.Common.{eqb-true, sym, length}
use Rattle.std.proofs.lemmas.Bool.{eqb-false}
use mathlib.Core.Path.{refl, ◌∙◌}
use native.Mathlib.Omega.{arith}
use Rattle.words.specs.Decimal.{more_small, digit_is, digit_not, digits_end, no_digits}
use Rattle.words.proofs.number.number.Goals as goal

pub returns-then-is_empty : goal.returns-then-is_empty
returns-then-is_empty c = no_digits c.args.digits.now (eqb-true (length c.args.digits.now) 0 (sym c.is_empty.ensures ∙ c.if-is_empty.true))

pub returns-in_err-v : goal.returns-in_err-v
returns-in_err-v c = c.from_residual.ensures ∙ digit_not c.args.digits.now c.loop-c.c-index c.loop-c.v c.loop-c.invariant.1 (omega arith) c.in_err-v.ensures refl

pub loop-c-preserved : goal.loop-c-preserved
loop-c-preserved c = (
  more_small c.loop-c.v _ _ c.in_ok-v.ensures refl,
  digit_is c.args.digits.now c.loop-c.c-index c.loop-c.v c.loop-c.invariant.1 _ (omega arith) c.in_ok-v.ensures refl,
)

pub returns : goal.returns
returns c =
    let n = eqb-false (length c.args.digits.now) 0 (sym c.is_empty.ensures ∙ c.if-is_empty.false) in
    digits_end c.args.digits.now c.loop-c.c-index c.loop-c.v c.loop-c.invariant.1 (omega arith) (omega (arith, n)) (omega arith)
