use Rattle.std.proofs.Common.{refl, ap, ◌∙◌}
use Rattle.words.specs.Decimal.{number_of, decimal_in, decimal_out}
use Rattle.words.proofs.number.decimal.Goals as goal

pub returns-in_err-digits : goal.returns-in_err-digits
returns-in_err-digits c = c.from_residual.ensures ∙ decimal_out c.args.line.now c.args.w refl c.in_err-digits.ensures

pub returns : goal.returns
returns c =
    let e = c.in_ok-digits.ensures in
    decimal_in c.args.line.now c.args.w refl e.0 (c.number.ensures ∙ ap number_of e.1)
