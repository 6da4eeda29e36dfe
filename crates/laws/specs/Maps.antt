-- Laws of sets and maps as functions of the key: the keys of a map with one more and one less, what holds of every value, two changes in
-- either order, a change undone, every value changed; and of the map of two lists side by side. Over any value. Assumes nothing.
use Rattle.std.specs.Prelude.{ℕ, ◌≤◌, Bool, true, false, cond, ◌≡◌, eqb, length}
use Rattle.std.proofs.Math.Path.{refl, sym, ap}
use Rattle.std.proofs.Common.{◌∙◌, subst, arith, eqb-true}
use mathlib.Core.List.{List, [], ◌∷◌, ◌++◌, map}
use Rattle.std.proofs.Math.Option
use Rattle.std.proofs.Math.Option.{Option, none, some, some-injective}
use Rattle.laws.specs.Choice.{ruin, true_false, split_eq, also_left, also_right, also_both}
use Rattle.laws.specs.Sets.{Ids, empty_ids, join, leave, Map, no_keys, bind, unbind, is_key, keys, AtMost, ids_of, none_some, join_there, leave_here, leave_there, bind_there, unbind_here, unbind_there, each, map_of, Distinct, bind_here, out_head, out_tail, out_right, distinct_last}
use Rattle.laws.specs.Fold.{every}

-- one id, and a new id put in and taken out again
pub one_few : (n k : ℕ) → 1 ≤ n → AtMost n (join empty_ids k)
unfolding ids_of
one_few n k h = record { listed = k ∷ []; few = h; all = λ i e. e }

pub leave_join : (s : Ids) (k : ℕ) → s k ≡ false → leave (join s k) k ≡ s
leave_join s k e = λ z x. go x z
  where
    go : (x : ℕ) → leave (join s k) k x ≡ s x
    go x = split_eq k x (λ n. ap (leave (join s k) k) (sym n) ∙ leave_here (join s k) k ∙ sym e ∙ ap s n) (λ n. leave_there (join s k) k x n ∙ join_there s k x n)

pub join_leave : (k : ℕ) → leave (join empty_ids k) k ≡ empty_ids
join_leave k = leave_join empty_ids k refl

-- every value of a map has the property
abbrev pub Values : {A : Type 0} → (A → Type 0) → Map A → Type 0
Values {A} P m = (id : ℕ) (v : A) → m id ≡ some v → P v

module _ {A : Type 0} where
  -- an option that can't be a value
  pub none_if : (o : Option A) → ((a : A) → o ≡ some a → ⊥) → o ≡ none
  none_if none f = refl
  none_if (some a) f = absurd (f a refl)

  pub keys_bind : (m : Map A) (k : ℕ) (a : A) → keys (bind m k a) ≡ join (keys m) k
  keys_bind m k a = λ i x. go (eqb k x) (m x) i
    where
      go : (b : Bool) (o : Option A) → is_key (cond b (some a) o) ≡ cond b true (is_key o)
      go true o = refl
      go false o = refl

  pub keys_unbind : (m : Map A) (k : ℕ) → keys (unbind m k) ≡ leave (keys m) k
  keys_unbind m k = λ i x. go (eqb k x) (m x) i
    where
      go : (b : Bool) (o : Option A) → is_key (cond b none o) ≡ cond b false (is_key o)
      go true o = refl
      go false o = refl

  pub keys_one : (k : ℕ) (a : A) → keys (bind no_keys k a) ≡ join empty_ids k
  keys_one k a = keys_bind no_keys k a

  -- a map without keys has no value
  pub no_keys_some : {G : Type 0} (m : Map A) (id : ℕ) (v : A) → m ≡ no_keys → m id ≡ some v → G
  no_keys_some m id v e q = none_some (ap (λ (f : Map A). f id) e) q

  pub no_keys_of : (m : Map A) → keys m ≡ empty_ids → m ≡ no_keys
  no_keys_of m e = λ i x. go (m x) (ap (λ (f : Ids). f x) e) i
    where
      go : (o : Option A) → is_key o ≡ false → o ≡ none
      go none q = refl
      go (some v) q = true_false q

  pub values_bind : (P : A → Type 0) (m : Map A) (k : ℕ) (a : A) → Values P m → P a → Values P (bind m k a)
  values_bind P m k a f h id v = go (eqb k id)
    where
      go : (b : Bool) → cond b (some a) (m id) ≡ some v → P v
      go true e = subst P (some-injective a v e) h
      go false e = f id v e

  pub values_unbind : (P : A → Type 0) (m : Map A) (k : ℕ) → Values P m → Values P (unbind m k)
  values_unbind P m k f id v = go (eqb k id)
    where
      go : (b : Bool) → cond b none (m id) ≡ some v → P v
      go true e = ruin (cc)
      go false e = f id v e

  -- changes at two keys, in either order
  module _ (m : Map A) (k i : ℕ) where
    pub bind_comm : (a b : A) → (k ≡ i → ⊥) → bind (bind m k a) i b ≡ bind (bind m i b) k a
    bind_comm a b n = λ z x. go (m x) (eqb k x) (eqb i x) (λ p q. n (eqb-true k x p ∙ sym (eqb-true i x q))) z
      where
        go : (o : Option A) (p q : Bool) → (p ≡ true → q ≡ true → ⊥) → cond q (some b) (cond p (some a) o) ≡ cond p (some a) (cond q (some b) o)
        go o true true f = absurd (f refl refl)
        go o true false f = refl
        go o false true f = refl
        go o false false f = refl

    pub unbind_bind_there : (a : A) → (k ≡ i → ⊥) → unbind (bind m k a) i ≡ bind (unbind m i) k a
    unbind_bind_there a n = λ z x. go (m x) (eqb k x) (eqb i x) (λ p q. n (eqb-true k x p ∙ sym (eqb-true i x q))) z
      where
        go : (o : Option A) (p q : Bool) → (p ≡ true → q ≡ true → ⊥) → cond q none (cond p (some a) o) ≡ cond p (some a) (cond q none o)
        go o true true f = absurd (f refl refl)
        go o true false f = refl
        go o false true f = refl
        go o false false f = refl

  -- a new key, bound and unbound
  pub unbind_bind : (m : Map A) (k : ℕ) (a : A) → m k ≡ none → unbind (bind m k a) k ≡ m
  unbind_bind m k a e = λ z x. go x z
    where
      go : (x : ℕ) → unbind (bind m k a) k x ≡ m x
      go x = split_eq k x (λ n. ap (unbind (bind m k a) k) (sym n) ∙ unbind_here (bind m k a) k ∙ sym e ∙ ap m n) (λ n. unbind_there (bind m k a) k x n ∙ bind_there m k x a n)

  -- a key that isn't there, unbound
  pub unbind_same : (m : Map A) (k : ℕ) → m k ≡ none → unbind m k ≡ m
  unbind_same m k e = λ z x. split_eq k x (λ q. ap (unbind m k) (sym q) ∙ unbind_here m k ∙ sym e ∙ ap m q) (λ n. unbind_there m k x n) z

  pub bind_unbind : (k : ℕ) (a : A) → unbind (bind no_keys k a) k ≡ no_keys
  bind_unbind k a = unbind_bind no_keys k a refl

-- every value changed: the keys stay, and one more, one less and a second change go through
module _ {A B : Type 0} (f : A → B) where
  pub keys_each : (m : Map A) → keys (each f m) ≡ keys m
  keys_each m = λ j i. go (m i) j
    where
      go : (o : Option A) → is_key (Option.map f o) ≡ is_key o
      go none = refl
      go (some a) = refl

  pub each_bind : (m : Map A) (k : ℕ) (a : A) → each f (bind m k a) ≡ bind (each f m) k (f a)
  each_bind m k a = λ j i. go (eqb k i) (m i) j
    where
      go : (b : Bool) (o : Option A) → Option.map f (cond b (some a) o) ≡ cond b (some (f a)) (Option.map f o)
      go true o = refl
      go false o = refl

  pub each_unbind : (m : Map A) (k : ℕ) → each f (unbind m k) ≡ unbind (each f m) k
  each_unbind m k = λ j i. go (eqb k i) (m i) j
    where
      go : (b : Bool) (o : Option A) → Option.map f (cond b none o) ≡ cond b none (Option.map f o)
      go true o = refl
      go false o = refl

  -- a key of the changed map, and one that isn't
  pub each_none : (m : Map A) (k : ℕ) → each f m k ≡ none → m k ≡ none
  each_none m k = go (m k)
    where
      go : (o : Option A) → Option.map f o ≡ none → o ≡ none
      go none e = refl
      go (some a) e = ruin (cc)

  pub each_some : (m : Map A) (k : ℕ) (b : B) → each f m k ≡ some b → (a : A) × (m k ≡ some a) × (f a ≡ b)
  each_some m k b = go (m k)
    where
      go : (o : Option A) → Option.map f o ≡ some b → (a : A) × (o ≡ some a) × (f a ≡ b)
      go none e = ruin (cc)
      go (some a) e = (a, refl, cc)

  -- two changes in a row where the second, seen after f, is g
  pub each_through : (h : A → A) (g : B → B) → ((a : A) → f (h a) ≡ g (f a)) → (m : Map A) → each f (each h m) ≡ each g (each f m)
  each_through h g e m = λ j i. go (m i) j
    where
      go : (o : Option A) → Option.map f (Option.map h o) ≡ Option.map g (Option.map f o)
      go none = refl
      go (some a) = ap some (e a)

  pub each_map : (ks : List ℕ) (vs : List A) → map_of ks (map f vs) ≡ each f (map_of ks vs)
  unfolding map_of
  each_map [] vs = refl
  each_map (k ∷ ks) [] = refl
  each_map (k ∷ ks) (v ∷ vs) = ap (λ (m : Map B). bind m k (f v)) (each_map ks vs) ∙ sym (each_bind (map_of ks vs) k v)

-- the map of two lists: its keys, a key that isn't there, one more at the end, the last one in another's place
module _ {A : Type 0} where
  pub map_of_keys : (ks : List ℕ) (vs : List A) → length ks ≡ length vs → keys (map_of ks vs) ≡ ids_of ks
  unfolding map_of ids_of
  map_of_keys [] vs e = refl
  map_of_keys (k ∷ ks) [] e = ruin (omega arith)
  map_of_keys (k ∷ ks) (v ∷ vs) e = keys_bind (map_of ks vs) k v ∙ ap (λ (s : Ids). join s k) (map_of_keys ks vs (omega arith))

  pub map_of_none : (ks : List ℕ) (vs : List A) (i : ℕ) → ids_of ks i ≡ false → map_of ks vs i ≡ none
  unfolding map_of
  map_of_none [] vs i e = refl
  map_of_none (k ∷ ks) [] i e = refl
  map_of_none (k ∷ ks) (v ∷ vs) i e = bind_there (map_of ks vs) k i v (out_head k i ks e) ∙ map_of_none ks vs i (out_tail k i ks e)

  pub map_of_snoc : (ks : List ℕ) (vs : List A) (k : ℕ) (v : A) → length ks ≡ length vs → ids_of ks k ≡ false
      → map_of (ks ++ (k ∷ [])) (vs ++ (v ∷ [])) ≡ bind (map_of ks vs) k v
  unfolding map_of
  map_of_snoc [] [] k v h e = refl
  map_of_snoc [] (u ∷ vs) k v h e = ruin (omega arith)
  map_of_snoc (i ∷ ks) [] k v h e = ruin (omega arith)
  map_of_snoc (i ∷ ks) (u ∷ vs) k v h e =
      ap (λ (m : Map A). bind m i u) (map_of_snoc ks vs k v (omega arith) (out_tail i k ks e))
      ∙ bind_comm (map_of ks vs) k i v u (λ q. out_head i k ks e (sym q))

  pub map_of_last : (xs : List ℕ) (us : List A) (k : ℕ) (u : A) → length xs ≡ length us → Distinct (xs ++ (k ∷ []))
      → map_of xs us ≡ unbind (map_of (xs ++ (k ∷ [])) (us ++ (u ∷ []))) k
  map_of_last xs us k u h d =
      let e = distinct_last xs k d in
      sym (unbind_bind (map_of xs us) k u (map_of_none xs us k e))
      ∙ ap (λ (m : Map A). unbind m k) (sym (map_of_snoc xs us k u h e))

  pub map_of_swap : (xs ys : List ℕ) (us vs : List A) (k l : ℕ) (u v : A) → length xs ≡ length us → length ys ≡ length vs
      → Distinct (xs ++ k ∷ (ys ++ (l ∷ [])))
      → map_of (xs ++ l ∷ ys) (us ++ v ∷ vs) ≡ unbind (map_of (xs ++ k ∷ (ys ++ (l ∷ []))) (us ++ u ∷ (vs ++ (v ∷ [])))) k
  unfolding map_of Distinct
  map_of_swap [] ys [] vs k l u v p q d =
      sym (map_of_snoc ys vs l v q (distinct_last ys l d.1))
      ∙ sym (unbind_bind (map_of (ys ++ (l ∷ [])) (vs ++ (v ∷ []))) k u (map_of_none (ys ++ (l ∷ [])) (vs ++ (v ∷ [])) k d.0))
  map_of_swap [] ys (w ∷ us) vs k l u v p q d = ruin (omega arith)
  map_of_swap (x ∷ xs) ys [] vs k l u v p q d = ruin (omega arith)
  map_of_swap (x ∷ xs) ys (w ∷ us) vs k l u v p q d =
      ap (λ (m : Map A). bind m x w) (map_of_swap xs ys us vs k l u v (omega arith) q d.1)
      ∙ sym (unbind_bind_there (map_of (xs ++ k ∷ (ys ++ (l ∷ []))) (us ++ u ∷ (vs ++ (v ∷ [])))) x k w (λ e. out_head k x (ys ++ (l ∷ [])) (out_right xs (k ∷ (ys ++ (l ∷ []))) x d.0) (sym e)))

  -- a test of the values in the list and of the map's
  pub values_of : (p : A → Bool) (ks : List ℕ) (vs : List A) → every p vs ≡ true → Values (λ v. p v ≡ true) (map_of ks vs)
  unfolding map_of every
  values_of p [] vs e = λ id v q. none_some refl q
  values_of p (k ∷ ks) [] e = λ id v q. none_some refl q
  values_of p (k ∷ ks) (u ∷ vs) e = values_bind (λ v. p v ≡ true) (map_of ks vs) k u (values_of p ks vs (also_right (p u) (every p vs) e)) (also_left (p u) (every p vs) e)

  pub of_values : (p : A → Bool) (ks : List ℕ) (vs : List A) → length ks ≡ length vs → Distinct ks → Values (λ v. p v ≡ true) (map_of ks vs) → every p vs ≡ true
  unfolding map_of every Distinct
  of_values p [] [] h d f = refl
  of_values p [] (v ∷ vs) h d f = ruin (omega arith)
  of_values p (k ∷ ks) [] h d f = ruin (omega arith)
  of_values p (k ∷ ks) (v ∷ vs) h d f =
      also_both (p v) (every p vs)
      (f k v (bind_here (map_of ks vs) k v))
      (of_values p ks vs (omega arith) d.1
      (λ id w e. f id w (bind_there (map_of ks vs) k id v (λ q. none_some (map_of_none ks vs k d.0) (ap (map_of ks vs) q ∙ e)) ∙ e)))
