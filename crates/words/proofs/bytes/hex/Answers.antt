use Rattle.std.proofs.Common.{refl, ap, ◌∙◌, ℕ, List, length}
use Rattle.words.specs.Hex.{count_of, written, hex_in, hex_out, hex_written_is, hex_kept}
use Rattle.words.proofs.bytes.hex.Goals as goal

pub returns-in_err-digits-clause-value : goal.returns-in_err-digits-clause-value
returns-in_err-digits-clause-value c =
    let a = c.args in
    c.from_residual.ensures ∙ hex_out a.line.now a.w refl (length a.out.now) a.at c.in_err-digits.ensures

pub returns-in_err-digits-clause-out_after : goal.returns-in_err-digits-clause-out_after
returns-in_err-digits-clause-out_after c =
    let a = c.args in
    hex_kept a.line.now a.w refl a.out.now a.at c.in_err-digits.ensures

pub returns-clause-value : goal.returns-clause-value
returns-clause-value c =
    let a = c.args in
    let e = c.in_ok-digits.ensures in
    hex_in a.line.now a.w refl (length a.out.now) a.at e.0 (c.put.ensures.value ∙ ap (λ (ds : List ℕ). count_of ds (length a.out.now) a.at) e.1)

pub returns-clause-out_after : goal.returns-clause-out_after
returns-clause-out_after c =
    let a = c.args in
    let e = c.in_ok-digits.ensures in
    hex_written_is a.line.now a.w refl a.out.now a.at e.0 (c.put.ensures.out_after ∙ ap (λ (ds : List ℕ). written ds a.out.now a.at) e.1)
