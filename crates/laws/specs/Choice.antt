-- Choices and questions. A choice between two values is the library's `cond`. Here are the conjunction and the disjunction of two
-- tests and the first no among questions, with the laws that take them apart and put them together, and the case of each test on
-- numbers. Assumes nothing.
use Rattle.std.specs.Prelude.{ℕ, suc, ◌+◌, ◌-◌, ◌≤◌, ◌<◌, Bool, true, false, cond, ◌&&◌, not, ◌≡◌, refl, ◌⊎◌, leb, ltb, eqb}
use Rattle.std.proofs.Common.{sym, ◌∙◌, ap, inl, inr, arith, lt-ltb, le-ltb, le-leb, eq-eqb, ne_eqb, leb-true, leb-false, ltb-true, ltb-false, eqb-true}
use Rattle.std.proofs.Math.Option.{none, some}
use Rattle.std.proofs.lemmas.Bool.{lt-leb, eqb-false}

-- the tests on numbers, each value from its fact: with these listed, a proof finds the facts in what it knows
pub ruleset tests = (lt-ltb, le-ltb, le-leb, lt-leb, eq-eqb, ne_eqb)

-- both tests hold
unfoldable pub also : Bool → Bool → Bool
also true b = b
also false b = false

-- one of the tests holds
unfoldable pub either : Bool → Bool → Bool
either true b = true
either false b = b

-- the first no: a refusal number, or where that is 0 the next answer
unfoldable pub and_then : ℕ → ℕ → ℕ
and_then q r = cond (eqb q 0) r q

-- a question: 0 where the test holds, else the number of its refusal
unfoldable pub ask : ℕ → Bool → ℕ
ask n b = cond b 0 n

-- the old value after a refusal, the new one where nothing was refused
unfoldable pub unless {ℓ} : {A : Type ℓ} → ℕ → A → A → A
unless q old new = cond (eqb q 0) new old

-- what two different numbers, or two different answers of a test, prove
pub ruin {ℓ} : {G : Type ℓ} → ◌≡◌ {A = ℕ} 0 1 → G
ruin e = absurd (omega arith)

pub false_true {ℓ} : {G : Type ℓ} → false ≡ true → G
false_true e = ruin (ap (λ (b : Bool). cond b 1 0) e)

pub true_false {ℓ} : {G : Type ℓ} → true ≡ false → G
true_false e = false_true (sym e)

-- the code's `&` of two tests
pub and_also : (a b : Bool) → a && b ≡ also a b
unfolding also
and_also true b = refl
and_also false b = refl

-- a conjunction, taken apart and put together
pub also_left : (a b : Bool) → also a b ≡ true → a ≡ true
unfolding also
also_left true b e = refl
also_left false b e = e

pub also_right : (a b : Bool) → also a b ≡ true → b ≡ true
unfolding also
also_right true b e = e
also_right false b e = false_true e

pub also_both : (a b : Bool) → a ≡ true → b ≡ true → also a b ≡ true
unfolding also
also_both true b p q = q
also_both false b p q = p

pub also_comm : (a b : Bool) → also a b ≡ also b a
unfolding also
also_comm true true = refl
also_comm true false = refl
also_comm false true = refl
also_comm false false = refl

pub also_assoc : (a b c : Bool) → also (also a b) c ≡ also a (also b c)
unfolding also
also_assoc true b c = refl
also_assoc false b c = refl

pub also_true : (a : Bool) → also a true ≡ a
unfolding also
also_true true = refl
also_true false = refl

pub also_false : (a : Bool) → also a false ≡ false
unfolding also
also_false true = refl
also_false false = refl

pub false_also : (b : Bool) → also false b ≡ false
unfolding also
false_also b = refl

pub true_also : (b : Bool) → also true b ≡ b
unfolding also
true_also b = refl

-- a disjunction
pub either_left : (a b : Bool) → a ≡ true → either a b ≡ true
unfolding either
either_left true b p = refl
either_left false b p = false_true p

pub either_right : (a b : Bool) → b ≡ true → either a b ≡ true
unfolding either
either_right true b p = refl
either_right false b p = p

pub either_cases : (a b : Bool) → either a b ≡ true → (a ≡ true) ⊎ (b ≡ true)
unfolding either
either_cases true b e = inl refl
either_cases false b e = inr e

pub neither_left : (a b : Bool) → either a b ≡ false → a ≡ false
unfolding either
neither_left true b e = e
neither_left false b e = refl

pub neither_right : (a b : Bool) → either a b ≡ false → b ≡ false
unfolding either
neither_right true b e = true_false e
neither_right false b e = e

pub either_neither : (a b : Bool) → a ≡ false → b ≡ false → either a b ≡ false
unfolding either
either_neither true b p q = p
either_neither false b p q = q

-- nothing was refused exactly where neither question was
pub and_then_left : (q r : ℕ) → and_then q r ≡ 0 → q ≡ 0
unfolding and_then
and_then_left q r = go (eqb q 0) refl
  where
    go : (b : Bool) → eqb q 0 ≡ b → cond b r q ≡ 0 → q ≡ 0
    go true e h = eqb-true q 0 e
    go false e h = h

pub and_then_right : (q r : ℕ) → and_then q r ≡ 0 → r ≡ 0
unfolding and_then
and_then_right q r = go (eqb q 0) refl
  where
    go : (b : Bool) → eqb q 0 ≡ b → cond b r q ≡ 0 → r ≡ 0
    go true e h = h
    go false e h = absurd (eqb-false q 0 e h)

pub and_then_both : (q r : ℕ) → q ≡ 0 → r ≡ 0 → and_then q r ≡ 0
unfolding and_then
and_then_both q r hq hr = simp (eq-eqb q 0 hq) hr

-- a yes leaves the answer to the next question, and a last yes changes nothing
pub and_then_done : (q r : ℕ) → q ≡ 0 → and_then q r ≡ r
unfolding and_then
and_then_done q r h = simp (eq-eqb q 0 h)

pub and_then_end : (q : ℕ) → and_then q 0 ≡ q
unfolding and_then
and_then_end q = go (eqb q 0) refl
  where
    go : (b : Bool) → eqb q 0 ≡ b → cond b 0 q ≡ q
    go true e = sym (eqb-true q 0 e)
    go false e = refl

-- the first no is the answer
pub and_then_first : (q r : ℕ) → (q ≡ 0 → ⊥) → and_then q r ≡ q
unfolding and_then
and_then_first q r h = simp (ne_eqb q 0 h)

-- a question that was answered yes, and one whose test holds
pub ask_yes : (n : ℕ) (b : Bool) → (n ≡ 0 → ⊥) → ask n b ≡ 0 → b ≡ true
unfolding ask
ask_yes n true h e = refl
ask_yes n false h e = absurd (h e)

pub ask_holds : (n : ℕ) (b : Bool) → b ≡ true → ask n b ≡ 0
unfolding ask
ask_holds n true e = refl
ask_holds n false e = false_true e

pub ask_fails : (n : ℕ) (b : Bool) → b ≡ false → ask n b ≡ n
unfolding ask
ask_fails n true e = true_false e
ask_fails n false e = refl

-- the same of a question before others: its no is the answer, and its yes leaves the answer to them
pub asks_no : (n : ℕ) (b : Bool) (r : ℕ) → (n ≡ 0 → ⊥) → b ≡ false → n ≡ and_then (ask n b) r
asks_no n b r h e = sym (ap (λ (q : ℕ). and_then q r) (ask_fails n b e) ∙ and_then_first n r h)

pub asks_yes : (n : ℕ) (b : Bool) (r : ℕ) → b ≡ true → and_then (ask n b) r ≡ r
asks_yes n b r e = and_then_done (ask n b) r (ask_holds n b e)

-- the two cases of a test: a fact about the chosen value follows from one about each
pub by_leb {ℓ κ} : {A : Type ℓ} (P : A → Type κ) (m n : ℕ) (x y : A) → (m ≤ n → P x) → (n < m → P y) → P (cond (leb m n) x y)
by_leb P m n x y f g = go (leb m n) refl
  where
    go : (b : Bool) → leb m n ≡ b → P (cond b x y)
    go true e = f (leb-true m n e)
    go false e = g (leb-false m n e)

pub by_ltb {ℓ κ} : {A : Type ℓ} (P : A → Type κ) (m n : ℕ) (x y : A) → (m < n → P x) → (n ≤ m → P y) → P (cond (ltb m n) x y)
by_ltb P m n x y f g = go (ltb m n) refl
  where
    go : (b : Bool) → ltb m n ≡ b → P (cond b x y)
    go true e = f (ltb-true m n e)
    go false e = g (ltb-false m n e)

pub by_eqb {ℓ κ} : {A : Type ℓ} (P : A → Type κ) (m n : ℕ) (x y : A) → (m ≡ n → P x) → ((m ≡ n → ⊥) → P y) → P (cond (eqb m n) x y)
by_eqb P m n x y f g = go (eqb m n) refl
  where
    go : (b : Bool) → eqb m n ≡ b → P (cond b x y)
    go true e = f (eqb-true m n e)
    go false e = g (eqb-false m n e)

-- an answer that one number decides, one thing where it is 0 and another where it isn't: from the number to the answer, and back
module _ {ℓ} {A : Type ℓ} (q : ℕ) (yes no : A) where
  pub asked_yes : q ≡ 0 → cond (eqb q 0) yes no ≡ yes
  asked_yes h = simp (eq-eqb q 0 h)

  pub asked_no : (q ≡ 0 → ⊥) → cond (eqb q 0) yes no ≡ no
  asked_no h = simp (ne_eqb q 0 h)

  pub asked_either : (r : A) → cond (eqb q 0) yes no ≡ r → ((q ≡ 0) × (yes ≡ r)) ⊎ ((q ≡ 0 → ⊥) × (no ≡ r))
  asked_either r =
      by_eqb (λ (a : A). a ≡ r → ((q ≡ 0) × (yes ≡ r)) ⊎ ((q ≡ 0 → ⊥) × (no ≡ r))) q 0 yes no
      (λ h e. inl (h, e))
      (λ h e. inr (h, e))

pub unless_kept {ℓ} : {A : Type ℓ} (q : ℕ) (old new : A) → (q ≡ 0 → ⊥) → unless q old new ≡ old
unfolding unless
unless_kept q old new h = asked_no q new old h

pub unless_done {ℓ} : {A : Type ℓ} (q : ℕ) (old new : A) → q ≡ 0 → unless q old new ≡ new
unfolding unless
unless_done q old new h = asked_yes q new old h

pub unless_same {ℓ} : {A : Type ℓ} (q : ℕ) (x : A) → x ≡ unless q x x
unfolding unless
unless_same {A = A} q x = by_eqb (λ (y : A). x ≡ y) q 0 x x (λ h. refl) (λ h. refl)

-- the same for a step that has the refusal in a number of its own
pub refused_kept {ℓ} : {A : Type ℓ} (r q : ℕ) (old new : A) → r ≡ q → (r ≡ 0 → ⊥) → old ≡ unless q old new
refused_kept r q old new e h = sym (unless_kept q old new (λ z. h (e ∙ z)))

-- and what it answers with that number
pub refused_said {ℓ} : {A : Type ℓ} (r q : ℕ) (x : A) (f : ℕ → A) → r ≡ q → (r ≡ 0 → ⊥) → f r ≡ cond (eqb q 0) x (f q)
refused_said r q x f e h = ap f e ∙ sym (asked_no q x (f q) (λ z. h (e ∙ z)))

-- a bare dichotomy of two numbers, and of a test
pub split_le {κ} : {P : Type κ} (m n : ℕ) → (m ≤ n → P) → (n < m → P) → P
split_le {P = P} m n f g = by_leb (λ (u : Unit {0}). P) m n tt tt f g

pub split_eq {κ} : {P : Type κ} (m n : ℕ) → (m ≡ n → P) → ((m ≡ n → ⊥) → P) → P
split_eq {P = P} m n f g = by_eqb (λ (u : Unit {0}). P) m n tt tt f g

pub split_bool {κ} : {P : Type κ} (b : Bool) → (b ≡ true → P) → (b ≡ false → P) → P
split_bool true f g = f refl
split_bool false f g = g refl

-- a test that can't hold
pub not_so : (b : Bool) → (b ≡ true → ⊥) → b ≡ false
not_so true h = absurd (h refl)
not_so false h = refl

-- the other answer of a test
pub not_true : (b : Bool) → not b ≡ true → b ≡ false
not_true true e = false_true e
not_true false e = refl

pub not_false : (b : Bool) → not b ≡ false → b ≡ true
not_false true e = refl
not_false false e = true_false e

-- an option that is given where a test holds
pub cond_some {ℓ} : {A : Type ℓ} (b : Bool) (x y : A) → cond b (some x) none ≡ some y → (b ≡ true) × (x ≡ y)
cond_some true x y e = (refl, cc)
cond_some false x y e = ruin (cc)

-- two tests that hold in the same cases are equal
pub same_test : (a b : Bool) → (a ≡ true → b ≡ true) → (b ≡ true → a ≡ true) → a ≡ b
same_test true b f g = sym (f refl)
same_test false true f g = g refl
same_test false false f g = refl

-- tests on numbers that hold in the same cases
pub leb_same : (m n p q : ℕ) → (m ≤ n → p ≤ q) → (p ≤ q → m ≤ n) → leb m n ≡ leb p q
leb_same m n p q f g = same_test (leb m n) (leb p q) (λ e. le-leb p q (f (leb-true m n e))) (λ e. le-leb m n (g (leb-true p q e)))

pub eqb_same : (m n p q : ℕ) → (m ≡ n → p ≡ q) → (p ≡ q → m ≡ n) → eqb m n ≡ eqb p q
eqb_same m n p q f g = same_test (eqb m n) (eqb p q) (λ e. eq-eqb p q (f (eqb-true m n e))) (λ e. eq-eqb m n (g (eqb-true p q e)))

-- a sum against a bound, told by a difference that does not wrap
pub leb_less : (a l e : ℕ) → a ≤ e → leb l (e - a) ≡ leb (a + l) e
leb_less a l e h = leb_same l (e - a) (a + l) e (omega arith) (omega arith)

pub ltb_less : (a l x : ℕ) → a ≤ x → ltb (x - a) l ≡ ltb x (a + l)
ltb_less a l x h = leb_same (suc (x - a)) l (suc x) (a + l) (omega arith) (omega arith)
