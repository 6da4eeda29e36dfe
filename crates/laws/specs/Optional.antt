-- The mathematics' option and the code's: the definitions of the sources use the one, what a function answers is the other.
use Rattle.std.specs.Prelude.{◌≡◌, refl, Some, None}
use Rattle.std.proofs.Common.{sym, ◌∙◌, ap}
use Rattle.std.proofs.Math.Option.{Option, none, some}
use Rattle.std.specs.declared.option.Option as code
use Rattle.laws.specs.Choice.{ruin}

-- the code's, of the mathematics'
abbrev pub optional : {A : Type 0} → Option A → code.Option A
optional none = None
optional (some a) = Some a

-- the mathematics', of the code's
abbrev pub option_of : {A : Type 0} → code.Option A → Option A
option_of None = none
option_of (Some a) = some a

pub option_of_optional : {A : Type 0} (o : Option A) → option_of (optional o) ≡ o
option_of_optional none = refl
option_of_optional (some a) = refl

pub optional_of_option : {A : Type 0} (o : code.Option A) → optional (option_of o) ≡ o
optional_of_option None = refl
optional_of_option (Some a) = refl

-- what the code's option tells of the mathematics'
pub optional_some : {A : Type 0} (o : Option A) (a : A) → optional o ≡ Some a → o ≡ some a
optional_some none a e = ruin (cc)
optional_some (some b) a e = cc

pub optional_none : {A : Type 0} (o : Option A) → optional o ≡ None → o ≡ none
optional_none none e = refl
optional_none (some b) e = ruin (cc)

-- the code's is known by the mathematics'
pub option_same : {A : Type 0} (o p : code.Option A) → option_of o ≡ option_of p → o ≡ p
option_same o p e = sym (optional_of_option o) ∙ ap optional e ∙ optional_of_option p
