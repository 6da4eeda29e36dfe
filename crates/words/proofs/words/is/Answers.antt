use Rattle.std.proofs.Common.{refl, ap, ◌∙◌, ℕ, List}
use Rattle.laws.specs.Fold.{same}
use Rattle.runs.specs.Compare.{pointwise_same}
use Rattle.words.specs.Line.{says_in, says_out}
use Rattle.words.proofs.words.is.Goals as goal

pub returns-in-Some : goal.returns-in-Some
returns-in-Some c =
    let a = c.args in
    let e = c.in-Some.ensures in
    says_in a.line.now a.word.now a.w refl e.0 (c.eq.ensures ∙ pointwise_same _ _ ∙ ap (λ (xs : List ℕ). same xs a.word.now) e.1)

pub returns-in-None : goal.returns-in-None
returns-in-None c = says_out c.args.line.now c.args.word.now c.args.w refl c.in-None.ensures
