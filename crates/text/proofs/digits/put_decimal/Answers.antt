use Prim.Native.Nat.{ℕ}
use lib.ListN.{length}
use mathlib.Core.List.{List}
use mathlib.Core.Path.{◌∙◌, ap}
use native.Mathlib.Omega.{arith}
use Rattle.laws.specs.Splice.{clipped}
use Rattle.text.specs.Text.{after}
use Rattle.text.specs.Laws.{decimal_fewest}
use Rattle.text.proofs.digits.put_decimal.Goals as goal

pub returns : goal.returns
returns c =
    let r = c.put in
    let d = c.decimal-k in
    let a = c.args in
    let e = c.decimal-k.ensures.digits ∙ decimal_fewest c.decimal-k.result 19 a.n (omega arith) c.decimal-k.ensures.len in record { value = c.put.ensures.value ∙ ap (λ (xs : List ℕ). after a.at (length xs) (length a.text.now)) e; text_after = c.put.ensures.text_after ∙ ap (clipped a.text.now a.at) e }
