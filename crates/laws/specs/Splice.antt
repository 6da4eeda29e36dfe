-- Writes. Every write to lent memory is one definition, `splice`: the list with a run of elements from a place on. Its laws say what a
-- loop's next store does, how a run follows a run, and what a reader finds before, in and after it. Over any element. Assumes nothing.
use Prim.Native.Nat.{ℕ, suc, ◌+◌, ◌-◌, ◌≤◌, ◌<◌, min}
use Rattle.std.specs.Prelude.{◌≡◌, get_or, set}
use Rattle.std.proofs.Math.Path.{refl, sym, ap}
use Rattle.std.proofs.Common.{◌∙◌, zero-add, add_assoc, le_of_lt, length-drop, take-append-drop, take_all, take-add, drop-drop, take-take, drop-cons, get_or-drop}
use mathlib.Core.List.{List, [], ◌∷◌, ◌++◌, append_assoc, append-nil, map}
use Rattle.std.proofs.Math.Nat.{add-zero, min-eq_left, min-eq_right}
use native.Mathlib.Omega.{arith}
use Rattle.std.proofs.Math.ListN.{length, take, drop, replicate, length-append, length-take, get_or-append, get_or-map}
use Rattle.std.proofs.lemmas.List.{length-replicate, replicate-append-replicate, length-map, take-append-le, set_at}
use Rattle.std.proofs.Math.Seq.{length-take-le, take_at, drop_at, take-append-add, get_or-take}
use Rattle.laws.specs.Choice.{split_le}
use Rattle.laws.specs.Part.{take_step, take_min, length_part, drop_take, drop_end, take_replicate}

-- d with the elements of s from the place `at` on
unfoldable pub splice {ℓ} : {A : Type ℓ} → List A → ℕ → List A → List A
splice d at s = take at d ++ s ++ drop (at + length s) d

-- the same, cut where d ends: what a write does that never leaves its memory
unfoldable pub clipped {ℓ} : {A : Type ℓ} → List A → ℕ → List A → List A
clipped d at s = splice d at (take (length d - at) s)

module _ {ℓ} {A : Type ℓ} where
  -- the definition, as a law
  pub splice_is : (d : List A) (at : ℕ) (s : List A) → splice d at s ≡ take at d ++ s ++ drop (at + length s) d
  unfolding splice
  splice_is d at s = refl

  -- a write of nothing
  pub splice_none : (d : List A) (at : ℕ) → d ≡ splice d at []
  unfolding splice
  splice_none d at = sym (rw (append-nil (take at d), add-zero at) (take-append-drop at d))

  pub length_splice : (d : List A) (at : ℕ) (s : List A) → at + length s ≤ length d → length (splice d at s) ≡ length d
  unfolding splice
  length_splice d at s h = simp (length-append, length-take-le at d (omega arith), length-drop) (omega arith)

  -- what stands before the run, the run, and what stands after it
  pub take_splice : (d : List A) (at : ℕ) (s : List A) → at ≤ length d → take at (splice d at s) ≡ take at d
  unfolding splice
  take_splice d at s h = rw append_assoc (take_at (take at d) (s ++ drop (at + length s) d) at (length-take-le at d h))

  pub drop_splice : (d : List A) (at : ℕ) (s : List A) → at ≤ length d → drop (at + length s) (splice d at s) ≡ drop (at + length s) d
  unfolding splice
  drop_splice d at s h = drop_at (take at d ++ s) (drop (at + length s) d) (at + length s) (simp (length-append, length-take-le at d h))

  pub part_splice : (d : List A) (at : ℕ) (s : List A) → at ≤ length d → take (length s) (drop at (splice d at s)) ≡ s
  unfolding splice
  part_splice d at s h =
      rw append_assoc
      (rw (drop_at (take at d) (s ++ drop (at + length s) d) at (length-take-le at d h)) (take_at s (drop (at + length s) d) (length s) refl))

  -- an element of a write, by where it stands
  pub get_d_splice_before : (d : List A) (at : ℕ) (s : List A) (i : ℕ) (x : A) → i < at → at ≤ length d → get_or (splice d at s) i x ≡ get_or d i x
  unfolding splice
  get_d_splice_before d at s i x h k =
      rw append_assoc
      (get_or-append (take at d) (s ++ drop (at + length s) d) x i (rw (length-take-le at d k) h) ∙ get_or-take at d i x h)

  pub get_d_splice_here : (d : List A) (at : ℕ) (s : List A) (i : ℕ) (x : A) → i < length s → at ≤ length d → get_or (splice d at s) (at + i) x ≡ get_or s i x
  get_d_splice_here d at s i x h k =
      sym (get_or-drop at (splice d at s) i x)
      ∙ sym (get_or-take (length s) (drop at (splice d at s)) i x h)
      ∙ ap (λ (l : List A). get_or l i x) (part_splice d at s k)

  pub get_d_splice_after : (d : List A) (at : ℕ) (s : List A) (i : ℕ) (x : A) → at + length s ≤ i → at ≤ length d → get_or (splice d at s) i x ≡ get_or d i x
  get_d_splice_after d at s i x h k =
      let e : at + length s + (i - (at + length s)) ≡ i = omega arith in
      rw (← e)
      (sym (get_or-drop (at + length s) (splice d at s) (i - (at + length s)) x)
      ∙ ap (λ (l : List A). get_or l (i - (at + length s)) x) (drop_splice d at s k)
      ∙ get_or-drop (at + length s) d (i - (at + length s)) x)

  -- a store at the end of a run makes the run one element longer
  pub splice_store : (d : List A) (at : ℕ) (s : List A) (v : A) → at + length s < length d → set (splice d at s) (at + length s) v ≡ splice d at (s ++ (v ∷ []))
  unfolding splice
  splice_store d at s v h =
      rw (drop-cons d (at + length s) v h)
      (set_at (take at d ++ s) (get_or d (at + length s) v) (drop (suc (at + length s)) d) v (at + length s) (simp (length-append, length-take-le at d (omega arith)))
      ∙ rest)
    where
      more : suc (at + length s) ≡ at + length (s ++ (v ∷ []))
      more = simp length-append (omega arith)

      rest : take at d ++ s ++ v ∷ drop (suc (at + length s)) d ≡ take at d ++ (s ++ (v ∷ [])) ++ drop (at + length (s ++ (v ∷ []))) d
      rest = rw (← more) (simp append_assoc)

  -- the front up to the end of the run
  pub take_splice_through : (d : List A) (at : ℕ) (s : List A) → at ≤ length d → take (at + length s) (splice d at s) ≡ take at d ++ s
  unfolding splice
  take_splice_through d at s h = take_at (take at d ++ s) (drop (at + length s) d) (at + length s) (simp (length-append, length-take-le at d h))

  -- a run after a run is one run
  pub splice_then : (d : List A) (at : ℕ) (s t : List A) → at + length s ≤ length d → splice (splice d at s) (at + length s) t ≡ splice d at (s ++ t)
  splice_then d at s t h = opened ∙ sym whole
    where
      head : take (at + length s) (splice d at s) ≡ take at d ++ s
      head = take_splice_through d at s (omega arith)

      tail : drop (at + length s + length t) (splice d at s) ≡ drop (at + length s + length t) d
      tail =
          sym (drop-drop (length t) (at + length s) (splice d at s))
          ∙ ap (drop (length t)) (drop_splice d at s (omega arith))
          ∙ drop-drop (length t) (at + length s) d

      opened : splice (splice d at s) (at + length s) t ≡ take at d ++ s ++ t ++ drop (at + length s + length t) d
      opened = splice_is (splice d at s) (at + length s) t ∙ (λ i. head i ++ t ++ tail i)

      more : at + length (s ++ t) ≡ at + length s + length t
      more = simp length-append (omega arith)

      whole : splice d at (s ++ t) ≡ take at d ++ s ++ t ++ drop (at + length s + length t) d
      whole = splice_is d at (s ++ t) ∙ rw more (simp append_assoc)

  -- the front of a run, then the next part of it
  pub splice_more : (d f : List A) (t : ℕ) (x y : List A) → t ≤ length f → drop t f ≡ x ++ y → t + length x ≤ length d
      → splice (splice d 0 (take t f)) t x ≡ splice d 0 (take (t + length x) f)
  splice_more d f t x y h e k =
      ap (λ (n : ℕ). splice (splice d 0 (take t f)) n x) (sym (zero-add (length (take t f)) ∙ long))
      ∙ splice_then d 0 (take t f) x (omega (arith, long))
      ∙ ap (splice d 0) (sym (take-add t (length x) f ∙ ap (λ (l : List A). take t f ++ l) (ap (take (length x)) e ∙ take_at x y (length x) refl)))
    where
      long : length (take t f) ≡ t
      long = length-take-le t f h

  -- a run over the whole of a memory
  pub splice_whole : (d s : List A) → length s ≡ length d → splice d 0 s ≡ s
  splice_whole d s h =
      splice_is d 0 s
      ∙ ap (λ (l : List A). s ++ l) (drop_end d (0 + length s) (omega arith))
      ∙ append-nil s

  -- a second run over the same places covers the first
  pub splice_over : (d : List A) (at : ℕ) (s t : List A) → at + length s ≤ length d → length s ≤ length t → splice (splice d at s) at t ≡ splice d at t
  splice_over d at s t h k =
      splice_is (splice d at s) at t
      ∙ (λ i. take_splice d at s (omega arith) i ++ t ++ tail i)
      ∙ sym (splice_is d at t)
    where
      e : at + length s + (length t - length s) ≡ at + length t
      e = omega (arith, k)

      tail : drop (at + length t) (splice d at s) ≡ drop (at + length t) d
      tail =
          ap (λ (n : ℕ). drop n (splice d at s)) (sym e)
          ∙ sym (drop-drop (length t - length s) (at + length s) (splice d at s))
          ∙ ap (drop (length t - length s)) (drop_splice d at s (omega arith))
          ∙ drop-drop (length t - length s) (at + length s) d
          ∙ ap (λ (n : ℕ). drop n d) e

  -- the next turn of a loop that copies, fills, or moves to the front: each takes the list as it is by its equation
  pub copy_turn : (x d : List A) (at : ℕ) (s : List A) (j : ℕ) (z : A) → x ≡ splice d at (take j s) → j < length s → at + j < length d
      → set x (at + j) (get_or s j z) ≡ splice d at (take (j + 1) s)
  copy_turn x d at s j z e h k =
      ap (λ (l : List A). set l (at + j) (get_or s j z)) e
      ∙ ap (λ (n : ℕ). set (splice d at (take j s)) (at + n) (get_or s j z)) (sym long)
      ∙ splice_store d at (take j s) (get_or s j z) (omega (arith, long))
      ∙ ap (splice d at) (sym (take_step s j z h))
    where
      long : length (take j s) ≡ j
      long = length-take-le j s (omega (arith, h))

  -- the same by parts: the next m elements of s, from the part of it that is left
  pub copy_part : (x d : List A) (at : ℕ) (s : List A) (j m k : ℕ) → x ≡ splice d at (take j s) → m ≤ k → j + m ≤ length s → at + j ≤ length d
      → splice x (at + j) (take m (take k (drop j s))) ≡ splice d at (take (j + m) s)
  copy_part x d at s j m k e h l r =
      (λ i. splice (e i) (at + sym long i) (take-take m k (drop j s) h i))
      ∙ splice_then d at (take j s) (take m (drop j s)) (omega (arith, long))
      ∙ ap (splice d at) (sym (take-add j m s))
    where
      long : length (take j s) ≡ j
      long = length-take-le j s (omega (arith, l))

  -- what was copied to the front of a memory lies there
  pub copied_front : (x d s : List A) (n : ℕ) → x ≡ splice d 0 (take n s) → n ≤ length s → take n x ≡ take n s
  copied_front x d s n e h =
      (λ i. take ((sym long ∙ sym (zero-add (length (take n s)))) i) (e i))
      ∙ take_splice_through d 0 (take n s) (omega arith)
    where
      long : length (take n s) ≡ n
      long = length-take-le n s h

  pub fill_turn : (x d : List A) (at j : ℕ) (v : A) → x ≡ splice d at (replicate j v) → at + j < length d
      → set x (at + j) v ≡ splice d at (replicate (j + 1) v)
  fill_turn x d at j v e k =
      ap (λ (l : List A). set l (at + j) v) e
      ∙ ap (λ (n : ℕ). set (splice d at (replicate j v)) (at + n) v) (sym (length-replicate j v))
      ∙ splice_store d at (replicate j v) v (omega (arith, length-replicate j v))
      ∙ ap (splice d at) (replicate-append-replicate j 1 v)

  pub move_turn : (x d : List A) (m j : ℕ) (z : A) → x ≡ splice d 0 (take j (drop m d)) → m + j < length d
      → set x j (get_or x (m + j) z) ≡ splice d 0 (take (j + 1) (drop m d))
  move_turn x d m j z e k =
      ap (λ (v : A). set x j v) same
      ∙ ap (λ (n : ℕ). set x n (get_or (drop m d) j z)) (sym (zero-add j))
      ∙ copy_turn x d 0 (drop m d) j z e (simp length-drop (omega arith)) (omega arith)
    where
      long : length (take j (drop m d)) ≡ j
      long = length_part d m j (omega (arith, k))

      same : get_or x (m + j) z ≡ get_or (drop m d) j z
      same =
          ap (λ (l : List A). get_or l (m + j) z) e
          ∙ get_d_splice_after d 0 (take j (drop m d)) (m + j) z (omega (arith, long)) (omega arith)
          ∙ sym (get_or-drop m d j z)

  -- a lent part is back: a run in the part is a run in the whole
  pub splice_back : (d : List A) (a k at : ℕ) (s e : List A) → a + k ≤ length d → at + length s ≤ k
      → e ≡ splice (take k (drop a d)) at s → take a d ++ (e ++ drop k (drop a d)) ≡ splice d (a + at) s
  splice_back d a k at s e h l q = ap (λ (x : List A). take a d ++ (x ++ drop k (drop a d))) q ∙ opened ∙ sym (splice_is d (a + at) s)
    where
      head : take at (take k (drop a d)) ≡ take at (drop a d)
      head = take-take at k (drop a d) (omega (arith, l))

      sum : at + length s + (k - (at + length s)) ≡ k
      sum = omega (arith, l)

      tail : drop (at + length s) (take k (drop a d)) ++ drop k (drop a d) ≡ drop (a + at + length s) d
      tail =
          ap (λ (n : ℕ). drop (at + length s) (take n (drop a d)) ++ drop k (drop a d)) (sym sum)
          ∙ ap (λ (x : List A). x ++ drop k (drop a d)) (drop_take (at + length s) (k - (at + length s)) (drop a d))
          ∙ ap (λ (n : ℕ). take (k - (at + length s)) (drop (at + length s) (drop a d)) ++ drop n (drop a d)) (sym sum)
          ∙ ap (λ (x : List A). take (k - (at + length s)) (drop (at + length s) (drop a d)) ++ x) (sym (drop-drop (k - (at + length s)) (at + length s) (drop a d)))
          ∙ take-append-drop (k - (at + length s)) (drop (at + length s) (drop a d))
          ∙ drop-drop (at + length s) a d
          ∙ ap (λ (n : ℕ). drop n d) (sym (add_assoc a at (length s)))

      opened : take a d ++ (splice (take k (drop a d)) at s ++ drop k (drop a d)) ≡ take (a + at) d ++ s ++ drop (a + at + length s) d
      opened =
          ap (λ (x : List A). take a d ++ (x ++ drop k (drop a d))) (splice_is (take k (drop a d)) at s)
          ∙ simp append_assoc
          (ap (λ (x : List A). take a d ++ (x ++ (s ++ (drop (at + length s) (take k (drop a d)) ++ drop k (drop a d))))) head
          ∙ ap (λ (x : List A). take a d ++ (take at (drop a d) ++ (s ++ x))) tail
          ∙ sym (append_assoc (take a d) (take at (drop a d)) (s ++ drop (a + at + length s) d))
          ∙ ap (λ (x : List A). x ++ (s ++ drop (a + at + length s) d)) (sym (take-add a at d)))

  -- a clipped write keeps the length, and is the whole write where it fits
  pub length_clipped : (d : List A) (at : ℕ) (s : List A) → length (clipped d at s) ≡ length d
  unfolding clipped
  length_clipped d at s =
      split_le at (length d)
      (λ h. length_splice d at (take (length d - at) s) (simp length-take (omega arith)))
      (λ h. rw (zero_room h) (ap length (sym (splice_none d at))))
    where
      zero_room : length d < at → take (length d - at) s ≡ []
      zero_room h = ap (λ (n : ℕ). take n s) (none h)
        where
          none : length d < at → length d - at ≡ 0
          none h = omega arith

  pub clipped_fits : (d : List A) (at : ℕ) (s : List A) → at + length s ≤ length d → clipped d at s ≡ splice d at s
  unfolding clipped
  clipped_fits d at s h = ap (splice d at) (take_all (length d - at) s (omega arith))

  -- nothing is written from the end on, so a place past it may be told as the end
  pub clipped_past : (d : List A) (at : ℕ) (s : List A) → length d ≤ at → clipped d at s ≡ d
  unfolding clipped
  clipped_past d at s h = let e : length d - at ≡ 0 = omega arith in ap (λ (n : ℕ). splice d at (take n s)) e ∙ sym (splice_none d at)

  pub clipped_min : (d : List A) (at : ℕ) (s : List A) → clipped d (min at (length d)) s ≡ clipped d at s
  clipped_min d at s =
      split_le at (length d)
      (λ h. rw (min-eq_left h))
      (λ h. rw (min-eq_right (le_of_lt h)) (clipped_past d (length d) s (omega arith) ∙ sym (clipped_past d at s (omega arith))))

  -- a run after a run is one run, wherever it is cut
  pub clipped_then : (d : List A) (at : ℕ) (s t : List A) → clipped (clipped d at s) (at + length s) t ≡ clipped d at (s ++ t)
  unfolding clipped
  clipped_then d at s t =
      split_le (at + length s) (length d)
      (λ h.
      let e : length s + (length d - (at + length s)) ≡ length d - at = omega arith in
      (λ i. splice (clipped_fits d at s h i) (at + length s) (take (length_clipped d at s i - (at + length s)) t))
      ∙ splice_then d at s (take (length d - (at + length s)) t) h
      ∙ ap (splice d at) (sym (take-append-add s t (length d - (at + length s))) ∙ ap (λ (n : ℕ). take n (s ++ t)) e))
      (λ h.
      clipped_past (clipped d at s) (at + length s) t (omega (arith, length_clipped d at s))
      ∙ ap (splice d at) (sym (take-append-le (length d - at) s t (omega arith))))

  -- the same from the front on, each run at the place where the last one ended, and a run over the whole of a memory
  pub clipped_next : (d x y s t : List A) (at : ℕ) → at ≡ length s → x ≡ clipped d 0 s → y ≡ clipped x at t → y ≡ clipped d 0 (s ++ t)
  clipped_next d x y s t at h e f = f ∙ (λ i. clipped (e i) ((h ∙ sym (zero-add (length s))) i) t) ∙ clipped_then d 0 s t

  pub clipped_whole : (d s : List A) → length s ≡ length d → clipped d 0 s ≡ s
  clipped_whole d s h = clipped_fits d 0 s (omega arith) ∙ splice_whole d s h

  -- the end of a loop that copies, fills, or moves to the front, at the lesser of what there is and what there is room for
  pub copy_end : (x d : List A) (at : ℕ) (s : List A) (j : ℕ) → x ≡ splice d at (take j s) → j ≡ min (length d - at) (length s) → x ≡ clipped d at s
  unfolding clipped
  copy_end x d at s j e h = e ∙ ap (splice d at) (ap (λ (n : ℕ). take n s) h ∙ take_min s (length d - at) (length s) refl)

  -- the same from the lesser of the place and the memory's end on
  pub copy_from : (x d : List A) (at place n : ℕ) (s : List A) → place ≡ min at (length d) → n ≡ min (length d - place) (length s) → x ≡ splice d place (take n s) → x ≡ clipped d at s
  copy_from x d at place n s hp hn e = copy_end x d place s n e hn ∙ ap (λ (p : ℕ). clipped d p s) hp ∙ clipped_min d at s

  -- a loop that ends at the number it was given
  pub copy_all : (x d : List A) (at : ℕ) (s : List A) (j n : ℕ) → x ≡ splice d at (take j s) → j ≡ n → x ≡ splice d at (take n s)
  copy_all x d at s j n e h = e ∙ ap (λ (m : ℕ). splice d at (take m s)) h

  pub fill_end : (x d : List A) (at n j : ℕ) (v : A) → x ≡ splice d at (replicate j v) → j ≡ min (length d - at) n → x ≡ clipped d at (replicate n v)
  unfolding clipped
  fill_end x d at n j v e h =
      e ∙ ap (splice d at) (ap (λ (i : ℕ). replicate i v) h ∙ sym (take_replicate (length d - at) n v))

  pub move_end : (x d : List A) (m n j : ℕ) → x ≡ splice d 0 (take j (drop m d)) → j ≡ min n (length d - m) → x ≡ splice d 0 (take n (drop m d))
  move_end x d m n j e h =
      e ∙ ap (splice d 0) (ap (λ (i : ℕ). take i (drop m d)) h ∙ take_min (drop m d) n (length d - m) (length-drop m d))

-- the next turn of a loop that copies the images of the elements
pub map_turn {ℓ κ} : {A : Type ℓ} {B : Type κ} (f : A → B) (x d : List B) (at : ℕ) (s : List A) (j : ℕ) (z : A)
    → x ≡ splice d at (take j (map f s)) → j < length s → at + j < length d → set x (at + j) (f (get_or s j z)) ≡ splice d at (take (j + 1) (map f s))
map_turn f x d at s j z e h k =
    ap (set x (at + j)) (sym (get_or-map f s j z))
    ∙ copy_turn x d at (map f s) j (f z) e (omega (arith, length-map s f)) k
