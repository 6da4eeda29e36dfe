-- The refusals and their numbers, and what an answer is whose questions come to a number: 0 where every one was answered yes.
use Rattle.std.specs.Prelude.{ℕ, Bool, true, false, cond, ◌≤◌, eqb, ◌≡◌, refl, ⊤, Some, None, ok_or, Ok, Err, Result, IsErrAnd}
use Rattle.std.specs.declared.option.Option.{Option}
use Rattle.std.proofs.Common.{sym, ap, ◌∙◌, arith, eq-eqb, ne_eqb, eqb-true}
use Rattle.std.proofs.lemmas.Bool.{eqb-false}
use Rattle.std.proofs.lemmas.Result.{err_from_is_err_and}
use Rattle.laws.specs.Choice.{and_then, ask}
use Rattle.refusal.specs.declared.Refusal.{Refusal}
use Rattle.refusal.specs.declared.Refusal.TheVariants.{Sizes, State, Kind, Argument, Id, Condition, Parse, Room, SecondId, Contents, Padding, CheckNumber, Blank}

abbrev pub number : Refusal → ℕ
number Sizes = 1
number State = 2
number Kind = 3
number Argument = 4
number Id = 5
number Condition = 6
number Parse = 7
number Room = 8
number SecondId = 9
number Contents = 10
number Padding = 11
number CheckNumber = 12
number Blank = 13

-- the refusal of a number from 1 to 13
abbrev pub refusal : ℕ → Refusal
refusal q =
    cond (eqb q 1) Sizes
    (cond (eqb q 2) State
    (cond (eqb q 3) Kind
    (cond (eqb q 4) Argument
    (cond (eqb q 5) Id
    (cond (eqb q 6) Condition
    (cond (eqb q 7) Parse
    (cond (eqb q 8) Room
    (cond (eqb q 9) SecondId
    (cond (eqb q 10) Contents
    (cond (eqb q 11) Padding
    (cond (eqb q 12) CheckNumber
    Blank)))))))))))

-- the answer: the value, or the no of that number
abbrev pub ok_unless : {A : Type 0} → ℕ → A → Result A Refusal
ok_unless q a = cond (eqb q 0) (Ok a) (Err (refusal q))

-- the answer where there is no value
abbrev pub asked : ℕ → Result ⊤ Refusal
asked q = ok_unless q record {}

-- what an answer tells that was taken apart
pub unless_yes : {A : Type 0} (q : ℕ) (a v : A) → ok_unless q a ≡ Ok v → (q ≡ 0) × (a ≡ v)
unless_yes q a v e = go (eqb q 0) refl e
  where
    go : (b : Bool) → eqb q 0 ≡ b → cond b (Ok a) (Err (refusal q)) ≡ Ok v → (q ≡ 0) × (a ≡ v)
    go true t h = (eqb-true q 0 t, grind arith)
    go false t h = absurd (grind arith)

pub unless_no : {A : Type 0} (q : ℕ) (a : A) (r : Refusal) → ok_unless q a ≡ Err r → (q ≡ 0 → ⊥) × (refusal q ≡ r)
unless_no q a r e = go (eqb q 0) refl e
  where
    go : (b : Bool) → eqb q 0 ≡ b → cond b (Ok a) (Err (refusal q)) ≡ Err r → (q ≡ 0 → ⊥) × (refusal q ≡ r)
    go true t h = absurd (grind arith)
    go false t h = (eqb-false q 0 t, grind arith)

-- of the number of a no: the answer is that no
pub unless_err : {A : Type 0} (q : ℕ) (a : A) → (q ≡ 0 → ⊥) → ok_unless q a ≡ Err (refusal q)
unless_err q a n = search (ne_eqb)

pub unless_ok : {A : Type 0} (q : ℕ) (a : A) → q ≡ 0 → ok_unless q a ≡ Ok a
unless_ok q a n = search (eq-eqb)

-- at a `?`: a yes to every question, with the value, or the no that goes on
pub yes : {A : Type 0} (q : ℕ) (x v : A) → Ok x ≡ ok_unless q v → q ≡ 0
yes q x v e = (unless_yes q v x (sym e)).0

pub yes_value : {A : Type 0} (q : ℕ) (x v : A) → Ok x ≡ ok_unless q v → x ≡ v
yes_value q x v e = sym (unless_yes q v x (sym e)).1

pub no : {A B : Type 0} (q k : ℕ) (e : Refusal) (v : A) (w : B) (r : Result B Refusal) → Err e ≡ ok_unless q v → IsErrAnd r (λ (y : Refusal). y ≡ e) → r ≡ ok_unless (and_then q k) w
unfolding and_then
no q k e v w r h i =
    let n = unless_no q v e (sym h) in
    let p = err_from_is_err_and r i in
    p.1 ∙ ap Err (p.2 ∙ sym n.1) ∙ search (ne_eqb, n.0)

pub no_same : {A B : Type 0} (q : ℕ) (e : Refusal) (v : A) (w : B) (r : Result B Refusal) → Err e ≡ ok_unless q v → IsErrAnd r (λ (y : Refusal). y ≡ e) → r ≡ ok_unless q w
no_same q e v w r h i =
    let n = unless_no q v e (sym h) in
    let p = err_from_is_err_and r i in
    p.1 ∙ ap Err (p.2 ∙ sym n.1) ∙ search (ne_eqb, n.0)

pub ruleset questions = (yes, yes_value, no, no_same)

-- the number of an answer: its no's, and 0 where there is none
abbrev pub number_of : {A : Type 0} → Result A Refusal → ℕ
number_of (Ok a) = 0
number_of (Err e) = number e

-- questions have the numbers of the refusals
pub small_ask : (n : ℕ) (b : Bool) → n ≤ 13 → ask n b ≤ 13
unfolding ask
small_ask n true h = omega arith
small_ask n false h = h

pub small_then : (q r : ℕ) → q ≤ 13 → r ≤ 13 → and_then q r ≤ 13
unfolding and_then
small_then q r hq hr = grind arith

-- so the number of an answer is that of its questions
pub number_asked : {A : Type 0} (q : ℕ) (a : A) → q ≤ 13 → number_of (ok_unless q a) ≡ q
number_asked q a h = grind arith

pub number_refusal : (q : ℕ) → 1 ≤ q → q ≤ 13 → number (refusal q) ≡ q
number_refusal q l h = grind arith

-- and a no of questions has their number
pub number_no : {A : Type 0} (q : ℕ) (v : A) (e : Refusal) → Err e ≡ ok_unless q v → q ≤ 13 → (number e ≡ q) × (q ≡ 0 → ⊥)
number_no q v e h l =
    let n = unless_no q v e (sym h) in
    let p : (q ≡ 0 → ⊥) = n.0 in
    (ap number (sym n.1) ∙ number_refusal q (omega (arith, p)) l, p)

-- a no has a number, and is the one of its number
pub number_some : (e : Refusal) → number e ≡ 0 → ⊥
number_some e h = grind arith

pub refusal_number : (e : Refusal) → refusal (number e) ≡ e
refusal_number e = grind arith

-- the answer after a yes: of the same questions, with its own value
pub said : {A B : Type 0} (q : ℕ) (x v : A) (r w : B) → Ok x ≡ ok_unless q v → r ≡ w → Ok r ≡ ok_unless q w
said q x v r w h e = ap Ok e ∙ sym (unless_ok q w (yes q x v h))

-- a no is told whatever the value is, by any questions of the same number
pub no_told : {A B : Type 0} (p q : ℕ) (e : Refusal) (v : A) (w : B) → Err e ≡ ok_unless p v → q ≡ p → Err e ≡ ok_unless q w
no_told p q e v w h s =
    let n = unless_no p v e (sym h) in
    ap Err (sym n.1 ∙ ap refusal (sym s)) ∙ sym (unless_err q w (λ z. n.0 (sym s ∙ z)))

pub no_some : {A : Type 0} (q : ℕ) (e : Refusal) (v : A) → Err e ≡ ok_unless q v → q ≡ 0 → ⊥
no_some q e v h = (unless_no q v e (sym h)).0

-- what `?` hands on
pub handed_on : {B : Type 0} (e : Refusal) (r : Result B Refusal) → IsErrAnd r (λ (y : Refusal). y ≡ e) → r ≡ Err e
handed_on e r i = let p = err_from_is_err_and r i in p.1 ∙ ap Err p.2

-- what an `ok_or` tells that was taken apart
pub some_of : {A : Type 0} (o : Option A) (e : Refusal) (a : A) → Ok a ≡ ok_or o e → Some a ≡ o
some_of None e a h = absurd (grind arith)
some_of (Some b) e a h = grind arith

pub none_of : {A : Type 0} (o : Option A) (e r : Refusal) → Err r ≡ ok_or o e → (None ≡ o) × (r ≡ e)
none_of None e r h = (refl, grind arith)
none_of (Some b) e r h = absurd (grind arith)
