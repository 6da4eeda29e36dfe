-- A list as a ring of S elements, S its length: the elements from a place on, going round, and a write that goes round. Every law holds for
-- every S: facts go by index. Assumes nothing.
use Rattle.std.specs.Prelude.{ℕ, ◌+◌, ◌-◌, ◌≤◌, ◌<◌, min, Bool, true, ◌≡◌, ltb, replicate}
use Rattle.std.proofs.Math.Bool.{cond}
use Rattle.std.proofs.Math.Path.{refl, sym, ap}
use Rattle.std.proofs.Common.{◌∙◌, zero-add, add-sub_of_le, sub-le, le_of_lt, lt-ltb, le-ltb, length-append, drop_at, ext_get_or}
use mathlib.Core.List.{List, [], ◌∷◌, ◌++◌, append-nil}
use Rattle.std.proofs.Math.Nat.{min-eq_left, min-eq_right}
use native.Mathlib.Omega.{arith}
use Rattle.std.proofs.Math.ListN.{length, take, drop, get_or, length-take, length-drop, get_or-append}
use Rattle.std.proofs.lemmas.List.{length-replicate}
use Rattle.std.proofs.Math.Seq.{length-take-le, take_all, take-take, take-append-le, take-append-add, take-nil, drop-nil, get_or-take, get_or-drop, get_or-append-add}
use Rattle.laws.specs.Choice.{also, also_both, by_ltb, split_le}
use Rattle.laws.specs.Fold.{every, every_append, every_take, every_drop}
use Rattle.laws.specs.Part.{min_less, drop_end, take_min, drop_min, take_front, drop_take, length_part, part_replicate}
use Rattle.laws.specs.Splice.{splice, clipped, clipped_fits, clipped_then, length_clipped, length_splice, get_d_splice_before, get_d_splice_here, get_d_splice_after, splice_none}
use Rattle.laws.specs.Ring.{wrap, off, by_wrap, by_off, wrap_in, off_in, wrap_add, wrap_off, off_wrap, off_shift}

-- the n elements from `at` on, going round
unfoldable pub around {ℓ} : {A : Type ℓ} → List A → ℕ → ℕ → List A
around s at n = take n (drop at s ++ take at s)

-- d with the elements of s from `at` on, up to d's end, and the rest of s from d's front on
unfoldable pub splice_around {ℓ} : {A : Type ℓ} → List A → ℕ → List A → List A
splice_around d at s = splice (splice d at (take (length d - at) s)) 0 (drop (length d - at) s)

-- the same of the first elements of s, as many as d has: what a write does that goes round once at most
abbrev pub clipped_around {ℓ} : {A : Type ℓ} → List A → ℕ → List A → List A
clipped_around d at s = splice_around d at (take (length d) s)

module _ {ℓ} {A : Type ℓ} where
  pub length_around : (s : List A) (at n : ℕ) → at ≤ length s → n ≤ length s → length (around s at n) ≡ n
  unfolding around
  length_around s at n h k = length-take-le n (drop at s ++ take at s) (simp (length-append, length-drop, length-take-le at s h) (omega arith))

  -- element t
  pub get_d_around : (s : List A) (at n t : ℕ) (x : A) → at < length s → n ≤ length s → t < n → get_or (around s at n) t x ≡ get_or s (wrap (length s) (at + t)) x
  unfolding around
  get_d_around s at n t x h k l =
      get_or-take n (drop at s ++ take at s) t x l
      ∙ by_wrap (λ (w : ℕ). get_or (drop at s ++ take at s) t x ≡ get_or s w x) (length s) (at + t)
      (λ m.
      let e : length (drop at s) + (at + t - length s) ≡ t = simp length-drop (omega arith) in
      ap (λ (j : ℕ). get_or (drop at s ++ take at s) j x) (sym e)
      ∙ get_or-append-add (drop at s) (take at s) (at + t - length s) x
      ∙ get_or-take at s (at + t - length s) x (omega arith))
      (λ m. get_or-append (drop at s) (take at s) x t (simp length-drop (omega arith)) ∙ get_or-drop at s t x)

  pub length_splice_around : (d : List A) (at : ℕ) (s : List A) → at ≤ length d → length s ≤ length d → length (splice_around d at s) ≡ length d
  unfolding splice_around
  length_splice_around d at s h k =
      length_splice (splice d at (take (length d - at) s)) 0 (drop (length d - at) s) (omega (arith, first, rest)) ∙ first
    where
      first : length (splice d at (take (length d - at) s)) ≡ length d
      first = length_splice d at (take (length d - at) s) (simp length-take (omega arith))

      rest : length (drop (length d - at) s) ≡ length s - (length d - at)
      rest = length-drop (length d - at) s

  -- element i: the write's, where i lies within it, else what was there
  pub get_d_splice_around : (d : List A) (at : ℕ) (s : List A) (i : ℕ) (x : A) → at < length d → length s ≤ length d → i < length d
      → get_or (splice_around d at s) i x ≡ cond (ltb (off (length d) at i) (length s)) (get_or s (off (length d) at i) x) (get_or d i x)
  unfolding splice_around
  get_d_splice_around d at s i x h k l =
      by_off (λ (o : ℕ). get_or (splice_around d at s) i x ≡ cond (ltb o (length s)) (get_or s o x) (get_or d i x)) (length d) at i
      (λ m.
      by_ltb (λ (y : A). get_or (splice_around d at s) i x ≡ y) (i - at) (length s) (get_or s (i - at) x) (get_or d i x)
      (λ n.
      let e : at + (i - at) ≡ i = omega arith in
      get_d_splice_after mid 0 rest i x (omega (arith, length_rest)) (omega arith)
      ∙ ap (λ (j : ℕ). get_or mid j x) (sym e)
      ∙ get_d_splice_here d at first (i - at) x (omega (arith, length_first)) (omega arith)
      ∙ get_or-take (length d - at) s (i - at) x (omega arith))
      (λ n.
      get_d_splice_after mid 0 rest i x (omega (arith, length_rest)) (omega arith)
      ∙ get_d_splice_after d at first i x (omega (arith, length_first)) (omega arith)))
      (λ m.
      by_ltb (λ (y : A). get_or (splice_around d at s) i x ≡ y) (i + length d - at) (length s) (get_or s (i + length d - at) x) (get_or d i x)
      (λ n.
      let e : length d - at + i ≡ i + length d - at = omega arith in
      ap (λ (j : ℕ). get_or (splice mid 0 rest) j x) (sym (zero-add i))
      ∙ get_d_splice_here mid 0 rest i x (omega (arith, length_rest)) (omega arith)
      ∙ get_or-drop (length d - at) s i x
      ∙ ap (λ (j : ℕ). get_or s j x) e)
      (λ n.
      get_d_splice_after mid 0 rest i x (omega (arith, length_rest)) (omega arith)
      ∙ get_d_splice_before d at first i x m (omega arith)))
    where
      first : List A
      first = take (length d - at) s

      rest : List A
      rest = drop (length d - at) s

      mid : List A
      mid = splice d at first

      length_first : length first ≡ min (length d - at) (length s)
      length_first = length-take (length d - at) s

      length_rest : length rest ≡ length s - (length d - at)
      length_rest = length-drop (length d - at) s

  -- a write of nothing, and a run after a run going round
  pub splice_around_none : (d : List A) (at : ℕ) → splice_around d at [] ≡ d
  unfolding splice_around
  splice_around_none d at =
      (λ i. splice (splice d at (take-nil {A = A} (length d - at) i)) 0 (drop-nil {A = A} (length d - at) i))
      ∙ sym (splice_none (splice d at []) 0)
      ∙ sym (splice_none d at)

  -- a write from a place past the end is a write from the front
  pub splice_around_past : (d : List A) (at : ℕ) (s : List A) → length d ≤ at → splice_around d at s ≡ splice d 0 s
  unfolding splice_around
  splice_around_past d at s h =
      let e : length d - at ≡ 0 = omega arith in
      (λ i. splice (splice d at (take (e i) s)) 0 (drop (e i) s)) ∙ ap (λ (l : List A). splice l 0 s) (sym (splice_none d at))

  -- so a place past the end may be told as the end
  pub splice_around_min : (d : List A) (at : ℕ) (s : List A) → splice_around d (min at (length d)) s ≡ splice_around d at s
  splice_around_min d at s =
      split_le at (length d)
      (λ h. rw (min-eq_left h))
      (λ h. rw (min-eq_right (le_of_lt h)) (splice_around_past d (length d) s (omega arith) ∙ sym (splice_around_past d at s (omega arith))))

  -- nothing is cut off a write that is no longer than the ring
  pub clipped_around_fits : (d : List A) (at : ℕ) (s : List A) → length s ≤ length d → clipped_around d at s ≡ splice_around d at s
  clipped_around_fits d at s h = ap (splice_around d at) (take_all (length d) s h)

  -- what stands at offset o of a ring of S places after a run s and then a run t behind it, y having stood there before
  abbrev twice : List A → List A → ℕ → ℕ → A → A → A
  twice s t S o x y = cond (ltb (off S (length s) o) (length t)) (get_or t (off S (length s) o) x) (cond (ltb o (length s)) (get_or s o x) y)

  twice_is : (s t : List A) (S o : ℕ) (x y : A) → length s + length t ≤ S → twice s t S o x y ≡ cond (ltb o (length (s ++ t))) (get_or (s ++ t) o x) y
  twice_is s t S o x y k =
      by_off (λ (q : ℕ). cond (ltb q (length t)) (get_or t q x) (cond (ltb o (length s)) (get_or s o x) y) ≡ cond (ltb o (length (s ++ t))) (get_or (s ++ t) o x) y) S (length s) o
      (λ m.
      by_ltb (λ (z : A). z ≡ cond (ltb o (length (s ++ t))) (get_or (s ++ t) o x) y) (o - length s) (length t) (get_or t (o - length s) x) (cond (ltb o (length s)) (get_or s o x) y)
      (λ l.
      let e : length s + (o - length s) ≡ o = omega arith in
      sym
      (simp (lt-ltb o (length (s ++ t)) (omega (arith, length-append s t)))
      (ap (λ (j : ℕ). get_or (s ++ t) j x) (sym e) ∙ get_or-append-add s t (o - length s) x)))
      (λ l. simp (le-ltb o (length s) m, le-ltb o (length (s ++ t)) (omega (arith, length-append s t)))))
      (λ m.
      simp (le-ltb (o + S - length s) (length t) (omega arith), lt-ltb o (length s) m, lt-ltb o (length (s ++ t)) (omega (arith, length-append s t)))
      (sym (get_or-append s t x o m)))

  pub splice_around_then : (d : List A) (at : ℕ) (s t : List A) → at < length d → length s + length t ≤ length d
      → splice_around (splice_around d at s) (wrap (length d) (at + length s)) t ≡ splice_around d at (s ++ t)
  splice_around_then d at s [] h k = splice_around_none (splice_around d at s) (wrap (length d) (at + length s)) ∙ ap (splice_around d at) (sym (append-nil s))
  splice_around_then d at s (x ∷ xs) h k =
      ext_get_or x (splice_around w next t) (splice_around d at (s ++ t)) (long2 ∙ sym long_both)
      (λ i l.
      let m : i < length d = omega (arith, l, long2) in
      second i m
      ∙ twice_is s t (length d) (off (length d) at i) x (get_or d i x) k
      ∙ sym (get_d_splice_around d at (s ++ t) i x h (omega (arith, k, both)) m))
    where
      t : List A
      t = x ∷ xs

      w : List A
      w = splice_around d at s

      next : ℕ
      next = wrap (length d) (at + length s)

      next_in : next < length d
      next_in = wrap_in (length d) (at + length s) (omega (arith, h, k))

      long : length w ≡ length d
      long = length_splice_around d at s (omega (arith, h)) (omega (arith, k))

      long2 : length (splice_around w next t) ≡ length d
      long2 = length_splice_around w next t (omega (arith, next_in, long)) (omega (arith, k, long)) ∙ long

      both : length (s ++ t) ≡ length s + length t
      both = length-append s t

      long_both : length (splice_around d at (s ++ t)) ≡ length d
      long_both = length_splice_around d at (s ++ t) (omega (arith, h)) (omega (arith, k, both))

      second : (i : ℕ) → i < length d → get_or (splice_around w next t) i x ≡ twice s t (length d) (off (length d) at i) x (get_or d i x)
      second i l =
          get_d_splice_around w next t i x (omega (arith, next_in, long)) (omega (arith, k, long)) (omega (arith, l, long))
          ∙ ap (λ (n : ℕ). cond (ltb (off n next i) (length t)) (get_or t (off n next i) x) (get_or w i x)) long
          ∙ (λ j. cond (ltb (offset j) (length t)) (get_or t (offset j) x) (get_d_splice_around d at s i x h (omega (arith, k)) l j))
        where
          offset : off (length d) next i ≡ off (length d) (length s) (off (length d) at i)
          offset =
              ap (off (length d) next) (sym (wrap_off (length d) at i h l))
              ∙ off_shift (length d) at (length s) (off (length d) at i) h (omega (arith, k)) (off_in (length d) at i h l)

  -- a run after a run, as a writer has it: cut where the memory ends, which it does not reach
  pub around_run : (d x y s t : List A) (at p : ℕ) → at < length d → length s + length t ≤ length d → x ≡ splice_around d at s → p ≡ wrap (length d) (at + length s)
      → y ≡ splice_around x p (take (length x) t) → y ≡ splice_around d at (s ++ t)
  around_run d x y s t at p h k e q f =
      f
      ∙ ap (splice_around x p) (take_all (length x) t (omega (arith, k, long)))
      ∙ (λ i. splice_around (e i) (q i) t)
      ∙ splice_around_then d at s t h k
    where
      long : length x ≡ length d
      long = ap length e ∙ length_splice_around d at s (omega (arith, h)) (omega (arith, k))

  -- as many elements as the ring has, written by two writes that are cut at the end: from `at` on, and the rest from the front on
  pub around_two : (d x y : List A) (at : ℕ) (s : List A) (first end : ℕ) → first ≡ min (length d - at) (length s) → end ≡ min (length d) (length s)
      → x ≡ clipped d at s → y ≡ clipped x 0 (take (end - first) (drop first s)) → y ≡ splice_around d at (take (length d) s)
  unfolding clipped splice_around
  around_two d x y at s first end ef ee ex ey =
      ey
      ∙ clipped_fits x 0 (take (end - first) (drop first s)) short
      ∙ (λ i. splice (front i) 0 (rest i))
    where
      long : length x ≡ length d
      long = ap length ex ∙ length_clipped d at s

      short : 0 + length (take (end - first) (drop first s)) ≤ length x
      short = simp (length-take, length-drop) (omega (arith, long, ee))

      front : x ≡ splice d at (take (length d - at) (take (length d) s))
      front = ex ∙ ap (splice d at) (sym (take-take (length d - at) (length d) s (omega arith)))

      rest : take (end - first) (drop first s) ≡ drop (length d - at) (take (length d) s)
      rest =
          split_le (length s) (length d - at)
          (λ h.
          let e : length s ≤ first = omega (arith, ef) in
          ap (take (end - first)) (drop_end s first e)
          ∙ take-nil {A = A} (end - first)
          ∙ sym (ap (drop (length d - at)) (take_all (length d) s (omega arith)) ∙ drop_end s (length d - at) h))
          (λ h.
          let f : first ≡ length d - at = omega (arith, ef) in
          let g : end - first ≡ min (length d - (length d - at)) (length s - (length d - at)) =
          (λ i. ee i - f i) ∙ min_less (length d - at) (length d) (length s) (sub-le (length d) at) (omega arith) in
          (λ i. take (g i) (drop (f i) s))
          ∙ take_min (drop (length d - at) s) (length d - (length d - at)) (length s - (length d - at)) (length-drop (length d - at) s)
          ∙ sym (drop_take (length d - at) (length d - (length d - at)) s)
          ∙ ap (λ (n : ℕ). drop (length d - at) (take n s)) (add-sub_of_le (sub-le (length d) at)))

  pub around_fill : (d x y : List A) (at n : ℕ) (v : A) (first end : ℕ) → first ≡ min (length d - at) n → end ≡ min (length d) n
      → x ≡ clipped d at (replicate n v) → y ≡ clipped x 0 (replicate (end - first) v) → y ≡ splice_around d at (take (length d) (replicate n v))
  around_fill d x y at n v first end ef ee ex ey =
      let l : length (replicate n v) ≡ n = length-replicate n v in
      around_two d x y at (replicate n v) first end (ef ∙ ap (min (length d - at)) (sym l)) (ee ∙ ap (min (length d)) (sym l)) ex
      (ey ∙ ap (clipped x 0) (sym (part_replicate first (end - first) n v (omega arith))))

  -- the interval that a write covered shows the write
  around_here_by : (d : List A) (at : ℕ) (s : List A) (x : A) → at < length d → length s ≤ length d → around (splice_around d at s) at (length s) ≡ s
  around_here_by d at s x h k =
      ext_get_or x (around w at (length s)) s
      (length_around w at (length s) (omega (arith, long)) (omega (arith, long)))
      (λ t l.
      let lt : t < length s = omega (arith, l, length_around w at (length s) (omega (arith, long)) (omega (arith, long))) in
      get_d_around w at (length s) t x (omega (arith, long)) (omega (arith, long)) lt
      ∙ ap (λ (n : ℕ). get_or w (wrap n (at + t)) x) long
      ∙ get_d_splice_around d at s (wrap (length d) (at + t)) x h k (wrap_in (length d) (at + t) (omega arith))
      ∙ ap (λ (o : ℕ). cond (ltb o (length s)) (get_or s o x) (get_or d (wrap (length d) (at + t)) x)) (off_wrap (length d) at t h (omega arith))
      ∙ simp (lt-ltb t (length s) lt))
    where
      w : List A
      w = splice_around d at s

      long : length w ≡ length d
      long = length_splice_around d at s (omega (arith, h)) k

  -- two rings that agree at each place of an interval show the same there
  pub around_same : (d e : List A) (q m : ℕ) (x : A) → length e ≡ length d → q < length d → m ≤ length d
      → ((t : ℕ) → t < m → get_or e (wrap (length d) (q + t)) x ≡ get_or d (wrap (length d) (q + t)) x) → around e q m ≡ around d q m
  around_same d e q m x h k l f =
      ext_get_or x (around e q m) (around d q m) (le ∙ sym ld)
      (λ t n.
      let lt : t < m = omega (arith, n, le) in
      get_d_around e q m t x (omega (arith, h)) (omega (arith, h)) lt
      ∙ ap (λ (z : ℕ). get_or e (wrap z (q + t)) x) h
      ∙ f t lt
      ∙ sym (get_d_around d q m t x k l lt))
    where
      le : length (around e q m) ≡ m
      le = length_around e q m (omega (arith, h, k)) (omega (arith, h, l))

      ld : length (around d q m) ≡ m
      ld = length_around d q m (omega (arith, k)) l

  -- a write that covers no place of an interval leaves what the interval shows
  around_elsewhere_by : (d : List A) (p : ℕ) (s : List A) (q m : ℕ) (x : A) → p < length d → length s ≤ length d → q < length d → m ≤ length d
      → ((t : ℕ) → t < m → length s ≤ off (length d) p (wrap (length d) (q + t))) → around (splice_around d p s) q m ≡ around d q m
  around_elsewhere_by d p s q m x hp hs hq hm f =
      around_same d (splice_around d p s) q m x (length_splice_around d p s (omega arith) hs) hq hm
      (λ t l.
      get_d_splice_around d p s (wrap (length d) (q + t)) x hp hs (wrap_in (length d) (q + t) (omega arith))
      ∙ simp (le-ltb (off (length d) p (wrap (length d) (q + t))) (length s) (f t l)))

  -- an interval and the one after it
  around_append_by : (s : List A) (at n m : ℕ) (x : A) → at < length s → n + m ≤ length s → around s at (n + m) ≡ around s at n ++ around s (wrap (length s) (at + n)) m
  around_append_by s at n m x h k =
      ext_get_or x (around s at (n + m)) (around s at n ++ around s next m) (both ∙ sym joined)
      (λ t l.
      let lt : t < n + m = omega (arith, l, both) in
      get_d_around s at (n + m) t x h k lt ∙ go t lt)
    where
      next : ℕ
      next = wrap (length s) (at + n)

      next_in : next < length s
      next_in = wrap_in (length s) (at + n) (omega (arith, h, k))

      both : length (around s at (n + m)) ≡ n + m
      both = length_around s at (n + m) (omega (arith, h)) k

      first : length (around s at n) ≡ n
      first = length_around s at n (omega (arith, h)) (omega (arith, k))

      second : length (around s next m) ≡ m
      second = length_around s next m (omega (arith, next_in)) (omega (arith, k))

      joined : length (around s at n ++ around s next m) ≡ n + m
      joined = length-append (around s at n) (around s next m) ∙ (λ i. first i + second i)

      go : (t : ℕ) → t < n + m → get_or s (wrap (length s) (at + t)) x ≡ get_or (around s at n ++ around s next m) t x
      go t lt =
          split_le n t
          (λ l.
          let e : n + (t - n) ≡ t = omega arith in
          sym
          (ap (λ (j : ℕ). get_or (around s at n ++ around s next m) j x) (sym e)
          ∙ ap (λ (j : ℕ). get_or (around s at n ++ around s next m) (j + (t - n)) x) (sym first)
          ∙ get_or-append-add (around s at n) (around s next m) (t - n) x
          ∙ get_d_around s next m (t - n) x next_in (omega (arith, k)) (omega arith)
          ∙ ap (λ (j : ℕ). get_or s j x) (wrap_add (length s) at n (t - n) h (omega (arith, k)))
          ∙ ap (λ (j : ℕ). get_or s (wrap (length s) (at + j)) x) e))
          (λ l.
          sym
          (get_or-append (around s at n) (around s next m) x t (omega (arith, first))
          ∙ get_d_around s at n t x h (omega (arith, k)) l))

  -- an interval that does not pass the end, and one that does
  pub around_straight : (s : List A) (at n : ℕ) → at + n ≤ length s → around s at n ≡ take n (drop at s)
  unfolding around
  around_straight s at n h = take-append-le n (drop at s) (take at s) (simp length-drop (omega arith))

  pub around_past : (s : List A) (at n : ℕ) → at ≤ length s → length s ≤ at + n → n ≤ length s → around s at n ≡ drop at s ++ take (at + n - length s) s
  unfolding around
  around_past s at n h k l =
      let e : length (drop at s) + (at + n - length s) ≡ n = simp length-drop (omega arith) in
      ap (λ (j : ℕ). take j (drop at s ++ take at s)) (sym e)
      ∙ take-append-add (drop at s) (take at s) (at + n - length s)
      ∙ ap (λ (z : List A). drop at s ++ z) (take-take (at + n - length s) at s (omega arith))

  -- a place past the end is the end
  pub around_min : (s : List A) (at n : ℕ) → around s (min at (length s)) n ≡ around s at n
  unfolding around
  around_min s at n = λ i. take n (drop_min s at (length s) refl i ++ take_min s at (length s) refl i)

  -- in two parts, whatever the place and the count: up to the end, and the rest from the front
  pub around_parts : (s : List A) (at n place first rest : ℕ) → place ≡ min at (length s) → first ≡ min n (length s - place) → rest ≡ min (n - first) place
      → around s at n ≡ take first (drop place s) ++ take rest s
  unfolding around
  around_parts s at n place first rest ep ef er =
      sym (around_min s at n)
      ∙ ap (λ (p : ℕ). around s p n) (sym ep)
      ∙ split_le n (length s - place)
      (λ h.
      let e : n ≡ first = omega arith in
      let z : rest ≡ 0 = omega arith in
      take-append-le n (drop place s) (take place s) (simp length-drop h)
      ∙ ap (λ (m : ℕ). take m (drop place s)) e
      ∙ sym (append-nil (take first (drop place s)))
      ∙ ap (λ (m : ℕ). take first (drop place s) ++ take m s) (sym z))
      (λ h.
      let e : length (drop place s) + (n - first) ≡ n = simp length-drop (omega arith) in
      let all : take first (drop place s) ≡ drop place s = take_all first (drop place s) (simp length-drop (omega arith)) in
      ap (λ (m : ℕ). take m (drop place s ++ take place s)) (sym e)
      ∙ take-append-add (drop place s) (take place s) (n - first)
      ∙ (λ i. sym all i ++ back i))
    where
      back : take (n - first) (take place s) ≡ take rest s
      back = take_front (n - first) place s ∙ ap (λ (m : ℕ). take m s) (sym er)

  -- read in these two parts: copied one behind the other to the front of d, or tested
  module _ (s : List A) (at n place first rest k m : ℕ) (ep : place ≡ min at (length s)) (ef : first ≡ min n (length s - place)) (er : rest ≡ min (n - first) place)
      (ek : k ≡ first) (em : m ≡ rest) where
    parts : take k (drop place s) ++ take m s ≡ around s at n
    parts = (λ i. take (ek i) (drop place s) ++ take (em i) s) ∙ sym (around_parts s at n place first rest ep ef er)

    pub around_copied : (d x y : List A) → x ≡ clipped d 0 (take k (drop place s)) → y ≡ clipped x first (take m s) → y ≡ clipped d 0 (around s at n)
    around_copied d x y ex ey =
        let l : first ≡ 0 + length (take k (drop place s)) = omega (arith, ek, length_part s place k (omega arith)) in
        ey
        ∙ (λ i. clipped (ex i) (l i) (take m s))
        ∙ clipped_then d 0 (take k (drop place s)) (take m s)
        ∙ ap (clipped d 0) parts

    pub every_around : (p : A → Bool) (a b : Bool) → a ≡ every p (take k (drop place s)) → b ≡ every p (take m s) → also a b ≡ every p (around s at n)
    every_around p a b ea eb = (λ i. also (ea i) (eb i)) ∙ sym (every_append p (take k (drop place s)) (take m s)) ∙ ap (every p) parts

  -- what every element meets is met by every element of it
  pub around_every : (p : A → Bool) (s : List A) (at n : ℕ) → every p s ≡ true → every p (around s at n) ≡ true
  unfolding around
  around_every p s at n h =
      every_take p n (drop at s ++ take at s)
      (every_append p (drop at s) (take at s) ∙ also_both (every p (drop at s)) (every p (take at s)) (every_drop p at s h) (every_take p at s h))

  pub around_none : (s : List A) (at : ℕ) → around s at 0 ≡ []
  unfolding around
  around_none s at = refl

  -- the first part of an interval, and the interval whose start is moved on by k within it
  pub around_take : (s : List A) (at n k : ℕ) → k ≤ n → take k (around s at n) ≡ around s at k
  unfolding around
  around_take s at n k h = take-take k n (drop at s ++ take at s) h

  around_drop_by : (s : List A) (at n k : ℕ) (x : A) → at < length s → n ≤ length s → k ≤ n → drop k (around s at n) ≡ around s (wrap (length s) (at + k)) (n - k)
  around_drop_by s at n k x h l m =
      let e : k + (n - k) ≡ n = omega arith in
      ap (λ (j : ℕ). drop k (around s at j)) (sym e)
      ∙ ap (drop k) (around_append_by s at k (n - k) x h (omega arith))
      ∙ drop_at (around s at k) (around s (wrap (length s) (at + k)) (n - k)) k (length_around s at k (omega arith) (omega arith))

-- the last laws again, with no element to name: a ring with a place has one
module _ {ℓ} {A : Type ℓ} where
  pub around_here : (d : List A) (at : ℕ) (s : List A) → at < length d → length s ≤ length d → around (splice_around d at s) at (length s) ≡ s
  around_here [] at s h k = absurd (omega arith)
  around_here (y ∷ d) at s h k = around_here_by (y ∷ d) at s y h k

  pub around_append : (s : List A) (at n m : ℕ) → at < length s → n + m ≤ length s → around s at (n + m) ≡ around s at n ++ around s (wrap (length s) (at + n)) m
  around_append [] at n m h k = absurd (omega arith)
  around_append (y ∷ s) at n m h k = around_append_by (y ∷ s) at n m y h k

  pub around_elsewhere : (d : List A) (p : ℕ) (s : List A) (q m : ℕ) → p < length d → length s ≤ length d → q < length d → m ≤ length d
      → ((t : ℕ) → t < m → length s ≤ off (length d) p (wrap (length d) (q + t))) → around (splice_around d p s) q m ≡ around d q m
  around_elsewhere [] p s q m hp hs hq hm f = absurd (omega arith)
  around_elsewhere (y ∷ d) p s q m hp hs hq hm f = around_elsewhere_by (y ∷ d) p s q m y hp hs hq hm f

  pub around_drop : (s : List A) (at n k : ℕ) → at < length s → n ≤ length s → k ≤ n → drop k (around s at n) ≡ around s (wrap (length s) (at + k)) (n - k)
  around_drop [] at n k h l m = absurd (omega arith)
  around_drop (y ∷ s) at n k h l m = around_drop_by (y ∷ s) at n k y h l m
