-- Dafny's sets and maps as functions of the key, so that `==` is a path, and by content; and its pairs `x1`, `x2` as one record that a
-- Bool reads and writes: false is the first (`which` 0), true the second (`which` 1), and "0 or 1" is met by the type. Assumes nothing.
use Rattle.std.specs.Prelude.{ℕ, suc, ◌+◌, ◌≤◌, ◌<◌, Bool, true, false, cond, not, ◌≡◌, refl, List, [], ◌∷◌, ◌++◌, eqb, length}
use Rattle.std.proofs.Common.{sym, ◌∙◌, ap, ⊎_elim, arith, length-append, eq-eqb, ne_eqb}
use Rattle.std.proofs.Math.Option.{Option, none, some, map, some-injective, none-ne-some}
use Rattle.laws.specs.Choice.{either, either_cases, split_eq, true_false, false_true, same_test}

-- set<uint64>
abbrev pub Ids : Type 0
Ids = ℕ → Bool

abbrev pub empty_ids : Ids
empty_ids i = false

-- s + {k}, s - {k}
abbrev pub join : Ids → ℕ → Ids
join s k i = cond (eqb k i) true (s i)

abbrev pub leave : Ids → ℕ → Ids
leave s k i = cond (eqb k i) false (s i)

-- map<uint64, A>
abbrev pub Map : Type 0 → Type 0
Map A = ℕ → Option A

abbrev pub no_keys : {A : Type 0} → Map A
no_keys i = none

-- m[k := a], MapRemove1(m, k)
abbrev pub bind : {A : Type 0} → Map A → ℕ → A → Map A
bind m k a i = cond (eqb k i) (some a) (m i)

abbrev pub unbind : {A : Type 0} → Map A → ℕ → Map A
unbind m k i = cond (eqb k i) none (m i)

-- map id | id in m :: f(m[id])
abbrev pub each : {A B : Type 0} → (A → B) → Map A → Map B
each f m i = map f (m i)

-- m.Keys
abbrev pub is_key : {A : Type 0} → Option A → Bool
is_key none = false
is_key (some a) = true

abbrev pub keys : {A : Type 0} → Map A → Ids
keys m i = is_key (m i)

-- the set of a list's numbers
unfoldable pub ids_of : List ℕ → Ids
ids_of [] i = false
ids_of (k ∷ ks) i = cond (eqb k i) true (ids_of ks i)

-- the map of two lists side by side, keys and values: the first of equal keys counts
unfoldable pub map_of : {A : Type 0} → List ℕ → List A → Map A
map_of [] vs i = none
map_of (k ∷ ks) [] i = none
map_of (k ∷ ks) (v ∷ vs) i = cond (eqb k i) (some v) (map_of ks vs i)

-- a list without repeats
unfoldable pub Distinct : List ℕ → Type 0
Distinct [] = Unit {0}
Distinct (k ∷ ks) = (ids_of ks k ≡ false) × Distinct ks

-- |s| <= n: some list of at most n numbers has every one of s
pub record AtMost (n : ℕ) (s : Ids) : Type 0 where
  pub listed : List ℕ
  pub few : length listed ≤ n
  pub all : (i : ℕ) → s i ≡ true → ids_of listed i ≡ true

-- a pair of like things
pub record Two (A : Type 0) : Type 0 where
  pub first : A
  pub second : A

abbrev pub both : {A : Type 0} → A → Two A
both a = record { first = a; second = a }

abbrev pub at : {A : Type 0} → Two A → Bool → A
at t false = t.first
at t true = t.second

abbrev pub put : {A : Type 0} → Two A → Bool → A → Two A
put t false a = record { first = a; second = t.second }
put t true a = record { first = t.first; second = a }

-- the same done to both
abbrev pub each_of : {A B : Type 0} → (A → B) → Two A → Two B
each_of f t = record { first = f t.first; second = f t.second }

-- a key's own place, and every other
pub join_here : (s : Ids) (k : ℕ) → join s k k ≡ true
join_here s k = ap (λ (b : Bool). cond b true (s k)) (eq-eqb k k refl)

pub join_there : (s : Ids) (k i : ℕ) → (k ≡ i → ⊥) → join s k i ≡ s i
join_there s k i h = ap (λ (b : Bool). cond b true (s i)) (ne_eqb k i h)

pub leave_here : (s : Ids) (k : ℕ) → leave s k k ≡ false
leave_here s k = ap (λ (b : Bool). cond b false (s k)) (eq-eqb k k refl)

pub leave_there : (s : Ids) (k i : ℕ) → (k ≡ i → ⊥) → leave s k i ≡ s i
leave_there s k i h = ap (λ (b : Bool). cond b false (s i)) (ne_eqb k i h)

module _ {A : Type 0} where
  pub bind_here : (m : Map A) (k : ℕ) (a : A) → bind m k a k ≡ some a
  bind_here m k a = ap (λ (b : Bool). cond b (some a) (m k)) (eq-eqb k k refl)

  pub bind_there : (m : Map A) (k i : ℕ) (a : A) → (k ≡ i → ⊥) → bind m k a i ≡ m i
  bind_there m k i a h = ap (λ (b : Bool). cond b (some a) (m i)) (ne_eqb k i h)

  pub unbind_here : (m : Map A) (k : ℕ) → unbind m k k ≡ none
  unbind_here m k = ap (λ (b : Bool). cond b none (m k)) (eq-eqb k k refl)

  pub unbind_there : (m : Map A) (k i : ℕ) → (k ≡ i → ⊥) → unbind m k i ≡ m i
  unbind_there m k i h = ap (λ (b : Bool). cond b none (m i)) (ne_eqb k i h)

  -- one value, for two readings of the same place
  pub same_value : {o : Option A} {a b : A} → o ≡ some a → o ≡ some b → a ≡ b
  same_value {a = a} {b = b} p q = some-injective a b (sym p ∙ q)

  pub none_some {ℓ} : {G : Type ℓ} {o : Option A} {a : A} → o ≡ none → o ≡ some a → G
  none_some {a = a} p q = absurd (none-ne-some a (sym p ∙ q))

  -- a pair's own place, the other one, and a pair by its places
  pub at_both : (a : A) (w : Bool) → at (both a) w ≡ a
  at_both a true = refl
  at_both a false = refl

  pub at_put : (t : Two A) (w : Bool) (a : A) → at (put t w a) w ≡ a
  at_put t true a = refl
  at_put t false a = refl

  pub at_put_other : (t : Two A) (w : Bool) (a : A) → at (put t w a) (not w) ≡ at t (not w)
  at_put_other t true a = refl
  at_put_other t false a = refl

  pub put_put : (t : Two A) (w : Bool) (a b : A) → put (put t w a) w b ≡ put t w b
  put_put t true a b = refl
  put_put t false a b = refl

  pub put_at : (t : Two A) (w : Bool) → put t w (at t w) ≡ t
  put_at t true = refl
  put_at t false = refl

  pub two_same : (t u : Two A) → ((w : Bool) → at t w ≡ at u w) → t ≡ u
  two_same t u f = λ i. record { first = f false i; second = f true i }

module _ {A B : Type 0} (f : A → B) where
  pub at_each : (t : Two A) (w : Bool) → at (each_of f t) w ≡ f (at t w)
  at_each t true = refl
  at_each t false = refl

  pub each_put : (t : Two A) (w : Bool) (a : A) → each_of f (put t w a) ≡ put (each_of f t) w (f a)
  each_put t true a = refl
  each_put t false a = refl

-- a number's own place in a list's set, and every other
pub ids_of_here : (k : ℕ) (ks : List ℕ) → ids_of (k ∷ ks) k ≡ true
unfolding ids_of
ids_of_here k ks = join_here (ids_of ks) k

pub ids_of_there : (k i : ℕ) (ks : List ℕ) → (k ≡ i → ⊥) → ids_of (k ∷ ks) i ≡ ids_of ks i
unfolding ids_of
ids_of_there k i ks h = join_there (ids_of ks) k i h

-- the list without one of its numbers is one shorter and has every other
record Without (x : ℕ) (ks : List ℕ) : Type 0 where
  rest : List ℕ
  shorter : suc (length rest) ≡ length ks
  others : (i : ℕ) → (x ≡ i → ⊥) → ids_of ks i ≡ true → ids_of rest i ≡ true

without_step : (x k : ℕ) (ks : List ℕ) → (k ≡ x → ⊥) → Without x ks → Without x (k ∷ ks)
without_step x k ks h w =
    record {
      rest = k ∷ w.rest;
      shorter = ap suc w.shorter;
      others = λ i d e.
          split_eq k i
          (λ q. ap (λ (j : ℕ). ids_of (k ∷ w.rest) j) (sym q) ∙ ids_of_here k w.rest)
          (λ n. ids_of_there k i w.rest n ∙ w.others i d (sym (ids_of_there k i ks n) ∙ e));
    }

without : (x : ℕ) (ks : List ℕ) → ids_of ks x ≡ true → Without x ks
unfolding ids_of
without x [] e = false_true e
without x (k ∷ ks) e =
    split_eq k x
    (λ q. record { rest = ks; shorter = refl; others = λ i d f. sym (ids_of_there k i ks (λ n. d (sym q ∙ n))) ∙ f })
    (λ n. without_step x k ks n (without x ks (sym (ids_of_there k x ks n) ∙ e)))

-- distinct numbers that all stand in a list are no more than it has
pub distinct_within : (xs ks : List ℕ) → Distinct xs → ((i : ℕ) → ids_of xs i ≡ true → ids_of ks i ≡ true) → length xs ≤ length ks
unfolding Distinct
distinct_within [] ks d f = omega arith
distinct_within (x ∷ xs) ks d f =
    let w : Without x ks = without x ks (f x (ids_of_here x xs)) in
    let h : length xs ≤ length w.rest =
    distinct_within xs w.rest d.1
    (λ i e.
    w.others i
    (λ q. true_false (sym e ∙ ap (ids_of xs) (sym q) ∙ d.0))
    (f i
    (split_eq x i
    (λ q. ap (ids_of (x ∷ xs)) (sym q) ∙ ids_of_here x xs)
    (λ n. ids_of_there x i xs n ∙ e)))) in
    let l = w.shorter in
    omega arith

-- a table of distinct ids is within its bound, and one that holds them all is the bound's witness
pub distinct_few : (n : ℕ) (xs : List ℕ) → Distinct xs → AtMost n (ids_of xs) → length xs ≤ n
distinct_few n xs d m = let h = distinct_within xs m.listed d m.all in let l = m.few in omega arith

-- the ids of a set, each once: it has at most n where they are at most n
pub record Listed (s : Ids) (ids : List ℕ) : Type 0 where
  pub distinct : Distinct ids
  pub are : s ≡ ids_of ids

pub few_listed : (n : ℕ) (s : Ids) (ids : List ℕ) → Listed s ids → AtMost n s → length ids ≤ n
few_listed n s ids l m = distinct_few n ids l.distinct (record { listed = m.listed; few = m.few; all = λ i e. m.all i (ap (λ (t : Ids). t i) l.are ∙ e) })

pub listed_at_most : (n : ℕ) (s : Ids) (ids : List ℕ) → Listed s ids → length ids ≤ n → AtMost n s
listed_at_most n s ids l h = record { listed = ids; few = h; all = λ i e. sym (ap (λ (t : Ids). t i) l.are) ∙ e }

pub none_few : (n : ℕ) → AtMost n empty_ids
none_few n = record { listed = []; few = omega arith; all = λ i e. false_true e }

pub listed_few : (n : ℕ) (xs : List ℕ) → length xs ≤ n → AtMost n (ids_of xs)
listed_few n xs h = record { listed = xs; few = h; all = λ i e. e }

-- neither of two tests holds
neither : (a b : Bool) → a ≡ false → b ≡ false → cond a true b ≡ false
neither true b p q = p
neither false b p q = q

not_first : (a b : Bool) → cond a true b ≡ false → a ≡ false
not_first true b e = e
not_first false b e = refl

not_second : (a b : Bool) → cond a true b ≡ false → b ≡ false
not_second true b e = true_false e
not_second false b e = e

-- the set of two lists, and of a list with one number more at its end
pub ids_of_append : (xs ys : List ℕ) (i : ℕ) → ids_of (xs ++ ys) i ≡ cond (ids_of xs i) true (ids_of ys i)
unfolding ids_of
ids_of_append [] ys i = refl
ids_of_append (x ∷ xs) ys i = go (eqb x i) (ids_of_append xs ys i)
  where
    go : (b : Bool) → ids_of (xs ++ ys) i ≡ cond (ids_of xs i) true (ids_of ys i)
        → cond b true (ids_of (xs ++ ys) i) ≡ cond (cond b true (ids_of xs i)) true (ids_of ys i)
    go true e = refl
    go false e = e

pub ids_of_snoc : (xs : List ℕ) (k : ℕ) → ids_of (xs ++ (k ∷ [])) ≡ join (ids_of xs) k
unfolding ids_of
ids_of_snoc xs k = λ j i. (ids_of_append xs (k ∷ []) i ∙ go (ids_of xs i) (eqb k i)) j
  where
    go : (a b : Bool) → cond a true (cond b true false) ≡ cond b true a
    go true true = refl
    go true false = refl
    go false true = refl
    go false false = refl

-- a number that stands in neither part
pub out_append : (xs ys : List ℕ) (i : ℕ) → ids_of xs i ≡ false → ids_of ys i ≡ false → ids_of (xs ++ ys) i ≡ false
out_append xs ys i p q = ids_of_append xs ys i ∙ neither (ids_of xs i) (ids_of ys i) p q

pub out_left : (xs ys : List ℕ) (i : ℕ) → ids_of (xs ++ ys) i ≡ false → ids_of xs i ≡ false
out_left xs ys i e = not_first (ids_of xs i) (ids_of ys i) (sym (ids_of_append xs ys i) ∙ e)

pub out_right : (xs ys : List ℕ) (i : ℕ) → ids_of (xs ++ ys) i ≡ false → ids_of ys i ≡ false
out_right xs ys i e = not_second (ids_of xs i) (ids_of ys i) (sym (ids_of_append xs ys i) ∙ e)

pub out_head : (k i : ℕ) (ks : List ℕ) → ids_of (k ∷ ks) i ≡ false → k ≡ i → ⊥
out_head k i ks e q = true_false (sym (ids_of_here k ks) ∙ ap (ids_of (k ∷ ks)) q ∙ e)

pub out_tail : (k i : ℕ) (ks : List ℕ) → ids_of (k ∷ ks) i ≡ false → ids_of ks i ≡ false
out_tail k i ks e = sym (ids_of_there k i ks (out_head k i ks e)) ∙ e

pub out_cons : (k i : ℕ) (ks : List ℕ) → (k ≡ i → ⊥) → ids_of ks i ≡ false → ids_of (k ∷ ks) i ≡ false
out_cons k i ks n e = ids_of_there k i ks n ∙ e

-- distinct numbers with a new one at their end, and without the last one
pub distinct_snoc : (xs : List ℕ) (k : ℕ) → Distinct xs → ids_of xs k ≡ false → Distinct (xs ++ (k ∷ []))
unfolding Distinct ids_of
distinct_snoc [] k d e = (refl, tt)
distinct_snoc (x ∷ xs) k d e =
    (out_append xs (k ∷ []) x d.0 (out_cons k x [] (λ q. out_head x k xs e (sym q)) refl), distinct_snoc xs k d.1 (out_tail x k xs e))

pub distinct_front : (xs : List ℕ) (k : ℕ) → Distinct (xs ++ (k ∷ [])) → Distinct xs
unfolding Distinct
distinct_front [] k d = tt
distinct_front (x ∷ xs) k d = (out_left xs (k ∷ []) x d.0, distinct_front xs k d.1)

pub distinct_last : (xs : List ℕ) (k : ℕ) → Distinct (xs ++ (k ∷ [])) → ids_of xs k ≡ false
unfolding Distinct ids_of
distinct_last [] k d = refl
distinct_last (x ∷ xs) k d = out_cons x k xs (λ q. out_head k x [] (out_right xs (k ∷ []) x d.0) (sym q)) (distinct_last xs k d.1)

-- distinct numbers with the last one in the place of another
pub distinct_swap : (xs ys : List ℕ) (k l : ℕ) → Distinct (xs ++ k ∷ (ys ++ (l ∷ []))) → Distinct (xs ++ l ∷ ys)
unfolding Distinct
distinct_swap [] ys k l d = (distinct_last ys l d.1, distinct_front ys l d.1)
distinct_swap (x ∷ xs) ys k l d =
    let r = out_tail k x (ys ++ (l ∷ [])) (out_right xs (k ∷ (ys ++ (l ∷ []))) x d.0) in
    let n = out_head l x [] (out_right ys (l ∷ []) x r) in
    (out_append xs (l ∷ ys) x (out_left xs (k ∷ (ys ++ (l ∷ []))) x d.0) (out_cons l x ys n (out_left ys (l ∷ []) x r)), distinct_swap xs ys k l d.1)

-- a bound at its edge: a number new to distinct ones joins them within n exactly where they are fewer than n
pub joined_few : (n : ℕ) (xs : List ℕ) (k : ℕ) → length xs < n → AtMost n (join (ids_of xs) k)
unfolding ids_of
joined_few n xs k h = listed_few n (k ∷ xs) h

pub few_joined : (n : ℕ) (xs : List ℕ) (k : ℕ) → Distinct xs → ids_of xs k ≡ false → AtMost n (join (ids_of xs) k) → length xs < n
unfolding ids_of Distinct
few_joined n xs k d e m = distinct_few n (k ∷ xs) (e, d) m

-- a part of few is few
pub few_within : (n : ℕ) (s t : Ids) → AtMost n t → ((i : ℕ) → s i ≡ true → t i ≡ true) → AtMost n s
few_within n s t m f = record { listed = m.listed; few = m.few; all = λ i e. m.all i (f i e) }

pub few_before : (n : ℕ) (s : Ids) (k : ℕ) → AtMost n (join s k) → AtMost n s
few_before n s k m = few_within n s (join s k) m (λ i e. go (eqb k i) (s i) e)
  where
    go : (a b : Bool) → b ≡ true → cond a true b ≡ true
    go true b e = refl
    go false b e = e

-- two sets together
pub either_few : (m n : ℕ) (s t : Ids) → AtMost m s → AtMost n t → AtMost (m + n) (λ i. either (s i) (t i))
either_few m n s t a b =
    record {
      listed = a.listed ++ b.listed;
      few = simp length-append (omega (arith, a.few, b.few));
      all = λ i e.
          ⊎_elim
          (λ h. ids_of_append a.listed b.listed i ∙ ap (λ (c : Bool). cond c true (ids_of b.listed i)) (a.all i h))
          (λ h. ids_of_append a.listed b.listed i ∙ ap (λ (c : Bool). cond (ids_of a.listed i) true c) (b.all i h) ∙ so (ids_of a.listed i))
          (either_cases (s i) (t i) e);
    }
  where
    so : (c : Bool) → cond c true true ≡ true
    so true = refl
    so false = refl

-- a number that is there already joins as it stands, and one that isn't leaves as it stands
pub join_same : (s : Ids) (k : ℕ) → s k ≡ true → join s k ≡ s
join_same s k e = λ j i. split_eq k i (λ q. ap (join s k) (sym q) ∙ join_here s k ∙ sym e ∙ ap s q) (λ n. join_there s k i n) j

pub leave_same : (s : Ids) (k : ℕ) → s k ≡ false → leave s k ≡ s
leave_same s k e = λ j i. split_eq k i (λ q. ap (leave s k) (sym q) ∙ leave_here s k ∙ sym e ∙ ap s q) (λ n. leave_there s k i n) j

-- a list that makes the empty set is empty
pub none_listed : (xs : List ℕ) → ids_of xs ≡ empty_ids → length xs ≡ 0
none_listed [] e = refl
none_listed (x ∷ xs) e = true_false (sym (ids_of_here x xs) ∙ ap (λ (s : Ids). s x) e)

-- two sets with the same numbers are equal
pub same_ids_is : (s t : Ids) → ((i : ℕ) → s i ≡ true → t i ≡ true) → ((i : ℕ) → t i ≡ true → s i ≡ true) → s ≡ t
same_ids_is s t f g = λ j i. same_test (s i) (t i) (f i) (g i) j
