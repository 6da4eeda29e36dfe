-- A list picked from two, place by place: its length, an element of it, and how it grows by a run that is copied from the same place of the
-- new list. Assumes nothing.
use Rattle.std.specs.Prelude.{ℕ, ◌+◌, ◌-◌, ◌≤◌, ◌<◌, Bool, ◌≡◌, leb, ltb, length, take, drop}
use Rattle.std.proofs.Math.Bool.{true, false, cond}
use Rattle.std.proofs.Math.Path.{refl, sym, ap}
use Rattle.std.proofs.Common.{◌∙◌, le-leb, lt-ltb, le-ltb, ext_get_or}
use mathlib.Core.List.{List}
use native.Mathlib.Omega.{arith}
use Rattle.std.proofs.lemmas.Bool.{lt-leb}
use Rattle.std.proofs.Math.ListN.{get_or, length-take, length-drop, get_or-eq_default}
use Rattle.std.proofs.Math.Seq.{get_or-take, get_or-drop}
use Rattle.laws.specs.Choice.{also, also_both, also_false, false_also, either, split_le, split_bool}
use Rattle.laws.specs.Fold.{every, every_at, every_all}
use Rattle.laws.specs.Part.{length_tab, get_d_tab, tab_same, get_d_any}
use Rattle.laws.specs.Splice.{splice, clipped, clipped_past, length_clipped, get_d_splice_before, get_d_splice_here, get_d_splice_after}
use Rattle.crash.specs.Picture.{picked}

module _ (test : ℕ → Bool) (new old : List ℕ) where
  pub length_picked : length (picked test new old) ≡ length old
  unfolding picked
  length_picked = length_tab (length old) (λ p. cond (test p) (get_or new p (get_or old p 0)) (get_or old p 0))

  -- an element: as it is defined, where it is the new one, and where it is the old one
  pub get_d_picked : (p : ℕ) → p < length old → get_or (picked test new old) p 0 ≡ cond (test p) (get_or new p (get_or old p 0)) (get_or old p 0)
  unfolding picked
  get_d_picked p h = get_d_tab (length old) (λ p. cond (test p) (get_or new p (get_or old p 0)) (get_or old p 0)) p 0 h

  pub picked_new : (p : ℕ) → p < length old → p < length new → test p ≡ true → get_or (picked test new old) p 0 ≡ get_or new p 0
  picked_new p h k e =
      get_d_picked p h
      ∙ (λ i. cond (e i) (get_or new p (get_or old p 0)) (get_or old p 0))
      ∙ get_d_any new p (get_or old p 0) 0 k

  pub picked_old : (p : ℕ) → p < length old → test p ≡ false → get_or (picked test new old) p 0 ≡ get_or old p 0
  picked_old p h e = get_d_picked p h ∙ (λ i. cond (e i) (get_or new p (get_or old p 0)) (get_or old p 0))

  -- a test that holds nowhere
  pub picked_none : ((p : ℕ) → p < length old → test p ≡ false) → picked test new old ≡ old
  picked_none f = ext_get_or 0 (picked test new old) old length_picked (λ p l. let h : p < length old = omega (arith, l, length_picked) in picked_old p h (f p h))

-- what holds of every element of both
pub picked_every : (f test : ℕ → Bool) (new old : List ℕ) → every f new ≡ true → every f old ≡ true → every f (picked test new old) ≡ true
picked_every f test new old en eo =
    every_all f (picked test new old) 0
    (λ p l.
    let h : p < length old = omega (arith, l, length_picked test new old) in
    let was : f (get_or old p 0) ≡ true = every_at f old p 0 eo h in
    ap f (get_d_picked test new old p h) ∙ one (test p) p was)
  where
    there : (p x : ℕ) → f x ≡ true → f (get_or new p x) ≡ true
    there p x e =
        split_le (length new) p
        (λ k. ap f (get_or-eq_default new x k) ∙ e)
        (λ k. every_at f new p x en k)

    one : (b : Bool) (p : ℕ) → f (get_or old p 0) ≡ true → f (cond b (get_or new p (get_or old p 0)) (get_or old p 0)) ≡ true
    one true p e = there p (get_or old p 0) e
    one false p e = e

-- tests that hold in the same places
pub picked_same : (f h : ℕ → Bool) (new old : List ℕ) → ((p : ℕ) → p < length old → f p ≡ h p) → picked f new old ≡ picked h new old
unfolding picked
picked_same f h new old e =
    tab_same (length old) (λ p. cond (f p) (get_or new p (get_or old p 0)) (get_or old p 0)) (λ p. cond (h p) (get_or new p (get_or old p 0)) (get_or old p 0))
    (λ p l i. cond (e p l i) (get_or new p (get_or old p 0)) (get_or old p 0))

-- a list picked from itself
pub picked_own : (test : ℕ → Bool) (old : List ℕ) → picked test old old ≡ old
picked_own test old =
    ext_get_or 0 (picked test old old) old (length_picked test old old)
    (λ p l.
    let h : p < length old = omega (arith, l, length_picked test old old) in
    split_bool (test p)
    (λ e. picked_new test old old p h h e)
    (λ e. picked_old test old old p h e))

-- place p lies in the run of n places from `at` on
abbrev pub in_run : ℕ → ℕ → ℕ → Bool
in_run at n p = also (leb at p) (ltb p (at + n))

module _ (at n p : ℕ) where
  run_in : at ≤ p → p < at + n → in_run at n p ≡ true
  run_in h k = also_both (leb at p) (ltb p (at + n)) (le-leb at p h) (lt-ltb p (at + n) k)

  run_before : p < at → in_run at n p ≡ false
  run_before h = ap (λ (b : Bool). also b (ltb p (at + n))) (lt-leb at p h) ∙ false_also (ltb p (at + n))

  run_after : at + n ≤ p → in_run at n p ≡ false
  run_after h = ap (also (leb at p)) (le-ltb p (at + n) h) ∙ also_false (leb at p)

-- an element after a run was copied from the same place of another memory
module _ (src dst : List ℕ) (at n p : ℕ) (h : p < length dst) where
  run : List ℕ
  run = take (length dst - at) (take n (drop at src))

  chosen : Bool → ℕ
  chosen b = cond b (get_or src p (get_or dst p 0)) (get_or dst p 0)

  past : length src ≤ p → (b : Bool) → get_or dst p 0 ≡ chosen b
  unfolding chosen
  past k true = sym (get_or-eq_default src (get_or dst p 0) k)
  past k false = refl

  here : at ≤ p → p - at < length run → get_or (clipped dst at (take n (drop at src))) p 0 ≡ chosen (in_run at n p)
  unfolding clipped chosen run
  here k l =
      let e : at + (p - at) ≡ p = omega arith in
      let w = length-take (length dst - at) (take n (drop at src)) in
      let v = length-take n (drop at src) in
      let u = length-drop at src in
      ap (λ (i : ℕ). get_or (splice dst at run) i 0) (sym e)
      ∙ get_d_splice_here dst at run (p - at) 0 l (omega arith)
      ∙ get_or-take (length dst - at) (take n (drop at src)) (p - at) 0 (omega arith)
      ∙ get_or-take n (drop at src) (p - at) 0 (omega (arith, l, w, v))
      ∙ get_or-drop at src (p - at) 0
      ∙ ap (λ (i : ℕ). get_or src i 0) e
      ∙ get_d_any src p 0 (get_or dst p 0) (omega (arith, l, w, v, u))
      ∙ sym (ap chosen (run_in at n p k (omega (arith, l, w, v))))

  after : at ≤ p → length run ≤ p - at → get_or (clipped dst at (take n (drop at src))) p 0 ≡ chosen (in_run at n p)
  unfolding clipped chosen run
  after k l =
      let w = length-take (length dst - at) (take n (drop at src)) in
      let v = length-take n (drop at src) in
      let u = length-drop at src in
      get_d_splice_after dst at run p 0 (omega arith) (omega arith)
      ∙ split_le (at + n) p
      (λ m. sym (ap chosen (run_after at n p m)))
      (λ m. past (omega (arith, m, l, w, v, u)) (in_run at n p))

  pub get_d_copied : get_or (clipped dst at (take n (drop at src))) p 0 ≡ cond (in_run at n p) (get_or src p (get_or dst p 0)) (get_or dst p 0)
  unfolding clipped chosen
  get_d_copied =
      split_le at p
      (λ k. split_le (length run) (p - at) (after k) (here k))
      (λ k.
      split_le at (length dst)
      (λ l. get_d_splice_before dst at (take (length dst - at) (take n (drop at src))) p 0 k l)
      (λ l. ap (λ (x : List ℕ). get_or x p 0) (clipped_past dst at (take n (drop at src)) (omega arith)))
      ∙ sym (ap chosen (run_before at n p k)))

-- one run more: what was picked and then overwritten by the run is picked there too
pub picked_run : (test : ℕ → Bool) (new old : List ℕ) (at n : ℕ)
    → clipped (picked test new old) at (take n (drop at new)) ≡ picked (λ p. either (in_run at n p) (test p)) new old
unfolding either
picked_run test new old at n =
    ext_get_or 0 (clipped was at (take n (drop at new))) (picked (λ p. either (in_run at n p) (test p)) new old) (long ∙ sym (length_picked (λ p. either (in_run at n p) (test p)) new old))
    (λ p l.
    let h : p < length old = omega (arith, l, long) in
    get_d_copied new was at n p (omega (arith, h, length_picked test new old))
    ∙ ap (λ (x : ℕ). cond (in_run at n p) (get_or new p x) x) (get_d_picked test new old p h)
    ∙ joined p (get_or old p 0) (in_run at n p) (test p)
    ∙ sym (get_d_picked (λ p. either (in_run at n p) (test p)) new old p h))
  where
    was : List ℕ
    was = picked test new old

    long : length (clipped (picked test new old) at (take n (drop at new))) ≡ length old
    long = length_clipped (picked test new old) at (take n (drop at new)) ∙ length_picked test new old

    twice : (p x : ℕ) → get_or new p (get_or new p x) ≡ get_or new p x
    twice p x =
        split_le (length new) p
        (λ k. get_or-eq_default new (get_or new p x) k)
        (λ k. get_d_any new p (get_or new p x) x k)

    joined : (p x : ℕ) (r t : Bool) → cond r (get_or new p (cond t (get_or new p x) x)) (cond t (get_or new p x) x) ≡ cond (either r t) (get_or new p x) x
    joined p x true true = twice p x
    joined p x true false = refl
    joined p x false t = refl
