-- The least number of which a test isn't true, looked for from below: every lower one passes it, and where it is true of at most n, one of the first
-- n + 1 is found.
use Rattle.std.specs.Prelude.{ℕ, zero, suc, ◌+◌, ◌-◌, ◌≤◌, ◌<◌, Bool, true, false, cond, ◌≡◌, refl, List, [], ◌∷◌, length}
use Rattle.std.proofs.Common.{sym, ◌∙◌, ap, arith}
use Rattle.laws.specs.Choice.{split_eq, true_false, false_true}
use Rattle.laws.specs.Sets.{ids_of, Distinct, AtMost, distinct_few, few_within, ids_of_there, out_cons}

-- from i on, n numbers are looked at
unfoldable pub least_from : (ℕ → Bool) → ℕ → ℕ → ℕ
least_from p zero i = i
least_from p (suc n) i = cond (p i) (least_from p n (i + 1)) i

-- The walk of looking for it

pub least_hit : (p : ℕ → Bool) (n i : ℕ) → p i ≡ false → least_from p n i ≡ i
unfolding least_from
least_hit p zero i h = refl
least_hit p (suc n) i h = ap (λ (b : Bool). cond b (least_from p n (i + 1)) i) h

pub least_turn : (p : ℕ → Bool) (most i : ℕ) → i < most → p i ≡ true → least_from p (most - i) i ≡ least_from p (most - (i + 1)) (i + 1)
unfolding least_from
least_turn p most i h e =
    let k : most - i ≡ suc (most - (i + 1)) = omega (arith, h) in
    ap (λ (n : ℕ). least_from p n i) k ∙ ap (λ (b : Bool). cond b (least_from p (most - (i + 1)) (i + 1)) i) e

pub least_end : (p : ℕ → Bool) (most i : ℕ) → most ≤ i → least_from p (most - i) i ≡ i
unfolding least_from
least_end p most i h = let k : most - i ≡ 0 = omega (arith, h) in ap (λ (n : ℕ). least_from p n i) k

-- What it is

-- every lower one passes
pub least_lower : (p : ℕ → Bool) (n i j : ℕ) → i ≤ j → j < least_from p n i → p j ≡ true
unfolding least_from
least_lower p zero i j h k = absurd (omega (arith, h, k))
least_lower p (suc n) i j h k = by (λ a b. least_lower p n (i + 1) j a b) (p i) refl
  where
    by : (i + 1 ≤ j → j < least_from p n (i + 1) → p j ≡ true) → (b : Bool) → p i ≡ b → p j ≡ true
    by rest false e = let q : least_from p (suc n) i ≡ i = least_hit p (suc n) i e in absurd (omega (arith, h, k, q))
    by rest true e =
        split_eq i j (λ q. ap p (sym q) ∙ e)
        (λ q.
        let f : least_from p (suc n) i ≡ least_from p n (i + 1) = ap (λ (b : Bool). cond b (least_from p n (i + 1)) i) e in
        rest (omega (arith, h, q)) (omega (arith, k, f)))

-- itself it doesn't, unless all were looked at in vain
least_or_all : (p : ℕ → Bool) (n i : ℕ) → p (least_from p n i) ≡ true → least_from p n i ≡ i + n
unfolding least_from
least_or_all p zero i h = omega arith
least_or_all p (suc n) i h = by (least_or_all p n (i + 1)) (p i) refl
  where
    by : (p (least_from p n (i + 1)) ≡ true → least_from p n (i + 1) ≡ (i + 1) + n) → (b : Bool) → p i ≡ b → least_from p (suc n) i ≡ i + suc n
    by rest false e = true_false (sym h ∙ ap p (least_hit p (suc n) i e) ∙ e)
    by rest true e =
        let f : least_from p (suc n) i ≡ least_from p n (i + 1) = ap (λ (b : Bool). cond b (least_from p n (i + 1)) i) e in
        let r = rest (sym (ap p f) ∙ h) in
        omega (arith, f, r)

-- the numbers below n
below : ℕ → List ℕ
below zero = []
below (suc n) = n ∷ below n

below_long : (n : ℕ) → length (below n) ≡ n
unfolding below
below_long zero = refl
below_long (suc n) = ap suc (below_long n)

below_less : (n i : ℕ) → ids_of (below n) i ≡ true → i < n
unfolding below ids_of
below_less zero i e = false_true e
below_less (suc n) i e = split_eq n i (λ q. omega (arith, q)) (λ q. let r = below_less n i (sym (ids_of_there n i (below n) q) ∙ e) in omega (arith, r))

below_out : (n i : ℕ) → n ≤ i → ids_of (below n) i ≡ false
unfolding below ids_of
below_out zero i h = refl
below_out (suc n) i h = out_cons n i (below n) (λ q. absurd (omega (arith, h, q))) (below_out n i (omega (arith, h)))

below_distinct : (n : ℕ) → Distinct (below n)
unfolding below Distinct
below_distinct zero = tt
below_distinct (suc n) = (below_out n n (omega arith), below_distinct n)

-- of at most n it is found
pub least_free : (p : ℕ → Bool) (n : ℕ) → AtMost n p → p (least_from p n 0) ≡ false
least_free p n few = by (p (least_from p n 0)) refl
  where
    by : (b : Bool) → p (least_from p n 0) ≡ b → p (least_from p n 0) ≡ false
    by false e = e
    by true e =
        let all : least_from p n 0 ≡ n = let a = least_or_all p n 0 e in omega (arith, a) in
        let held : (i : ℕ) → i < suc n → p i ≡ true = λ i h.
        split_eq n i (λ q. ap p (sym (all ∙ q)) ∙ e) (λ q. least_lower p n 0 i (omega arith) (omega (arith, h, q, all)))
        in
        let d = distinct_few n (below (suc n)) (below_distinct (suc n)) (few_within n (ids_of (below (suc n))) p few (λ i q. held i (below_less (suc n) i q))) in
        let l = below_long (suc n) in
        absurd (omega (arith, d, l))
