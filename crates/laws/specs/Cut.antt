-- Cutting a run of elements by lengths, and joining the pieces again: the entries that lengths and bytes in lent memory stand for, and
-- the bodies of a range. Over any element. Assumes nothing.
use Prim.Native.Nat.{ℕ, zero, suc, ◌+◌, ◌-◌, ◌*◌, ◌≤◌, ◌<◌}
use Rattle.std.specs.Prelude.{◌≡◌, get_or, replicate}
use Rattle.std.proofs.Math.Path.{refl, sym, ap}
use Rattle.std.proofs.Common.{◌∙◌, add_comm, zero-mul, suc-mul, arith, take_all, drop_at, take-add, drop-drop}
use mathlib.Core.List.{List, [], ◌∷◌, ◌++◌, append_assoc}
use Rattle.std.proofs.Math.ListN.{length, take, drop, length-append, length-drop}
use Rattle.std.proofs.Math.Seq.{length-take-le, take_at, take-take}
use Rattle.laws.specs.Fold.{sum, sum_replicate}
use Rattle.laws.specs.Part.{drop_take, tab}

module _ {ℓ} {A : Type ℓ} where
  -- the pieces of the given lengths, one after another from the front
  unfoldable pub cut : List ℕ → List A → List (List A)
  cut [] bs = []
  cut (n ∷ ns) bs = take n bs ∷ cut ns (drop n bs)

  -- the pieces joined again
  unfoldable pub flat : List (List A) → List A
  flat [] = []
  flat (e ∷ es) = e ++ flat es

  -- the pieces' lengths
  unfoldable pub lengths : List (List A) → List ℕ
  lengths [] = []
  lengths (e ∷ es) = length e ∷ lengths es

  pub length_cut : (ns : List ℕ) (bs : List A) → length (cut ns bs) ≡ length ns
  unfolding cut
  length_cut [] bs = refl
  length_cut (n ∷ ns) bs = ap suc (length_cut ns (drop n bs))

  pub length_lengths : (es : List (List A)) → length (lengths es) ≡ length es
  unfolding lengths
  length_lengths [] = refl
  length_lengths (e ∷ es) = ap suc (length_lengths es)

  pub length_flat : (es : List (List A)) → length (flat es) ≡ sum (lengths es)
  unfolding flat lengths sum
  length_flat [] = refl
  length_flat (e ∷ es) = length-append e (flat es) ∙ ap (λ (n : ℕ). length e + n) (length_flat es)

  pub flat_append : (xs ys : List (List A)) → flat (xs ++ ys) ≡ flat xs ++ flat ys
  unfolding flat
  flat_append [] ys = refl
  flat_append (x ∷ xs) ys = rw (flat_append xs ys) (sym (append_assoc x (flat xs) (flat ys)))

  pub lengths_append : (xs ys : List (List A)) → lengths (xs ++ ys) ≡ lengths xs ++ lengths ys
  unfolding lengths
  lengths_append [] ys = refl
  lengths_append (x ∷ xs) ys = ap (λ (l : List ℕ). length x ∷ l) (lengths_append xs ys)

  -- cutting gives the lengths and the elements back
  pub lengths_cut : (ns : List ℕ) (bs : List A) → sum ns ≤ length bs → lengths (cut ns bs) ≡ ns
  unfolding cut lengths sum
  lengths_cut [] bs h = refl
  lengths_cut (n ∷ ns) bs h =
      λ i. length-take-le n bs (omega arith) i ∷ lengths_cut ns (drop n bs) (simp length-drop (omega arith)) i

  pub flat_cut : (ns : List ℕ) (bs : List A) → flat (cut ns bs) ≡ take (sum ns) bs
  unfolding cut flat sum
  flat_cut [] bs = refl
  flat_cut (n ∷ ns) bs = ap (λ (l : List A). take n bs ++ l) (flat_cut ns (drop n bs)) ∙ sym (take-add n (sum ns) bs)

  -- joining and then cutting gives the pieces back, whatever follows
  pub cut_flat : (es : List (List A)) (rest : List A) → cut (lengths es) (flat es ++ rest) ≡ es
  unfolding cut flat lengths
  cut_flat [] rest = refl
  cut_flat (e ∷ es) rest =
      rw append_assoc
      (λ i.
      take_at e (flat es ++ rest) (length e) refl i
      ∷ (ap (cut (lengths es)) (drop_at e (flat es ++ rest) (length e) refl) ∙ cut_flat es rest) i)

  -- piece i
  pub cut_at : (ns : List ℕ) (bs : List A) (i : ℕ) → i < length ns → get_or (cut ns bs) i [] ≡ take (get_or ns i 0) (drop (sum (take i ns)) bs)
  unfolding cut sum
  cut_at [] bs i h = absurd (omega arith)
  cut_at (n ∷ ns) bs zero h = refl
  cut_at (n ∷ ns) bs (suc i) h =
      cut_at ns (drop n bs) i (omega arith)
      ∙ ap (take (get_or ns i 0)) (drop-drop (sum (take i ns)) n bs)

  -- some lengths after others
  pub cut_append : (ns ms : List ℕ) (bs : List A) → cut (ns ++ ms) bs ≡ cut ns bs ++ cut ms (drop (sum ns) bs)
  unfolding cut sum
  cut_append [] ms bs = refl
  cut_append (n ∷ ns) ms bs =
      ap (λ (l : List (List A)). take n bs ∷ l)
      (cut_append ns ms (drop n bs) ∙ ap (λ (l : List A). cut ns (drop n bs) ++ cut ms l) (drop-drop (sum ns) n bs))

  -- elements past the lengths' sum are not looked at
  pub cut_enough : (ns : List ℕ) (bs : List A) (k : ℕ) → sum ns ≤ k → cut ns (take k bs) ≡ cut ns bs
  unfolding cut sum
  cut_enough [] bs k h = refl
  cut_enough (n ∷ ns) bs k h =
      λ i. take-take n k bs (omega arith) i ∷ (ap (cut ns) rest ∙ cut_enough ns (drop n bs) (k - n) (omega arith)) i
    where
      e : n + (k - n) ≡ k
      e = omega (arith, h)

      rest : drop n (take k bs) ≡ take (k - n) (drop n bs)
      rest = ap (λ (m : ℕ). drop n (take m bs)) (sym e) ∙ drop_take n (k - n) bs

  -- the first pieces, and those after them
  pub cut_take : (k : ℕ) (ns : List ℕ) (bs : List A) → take k (cut ns bs) ≡ cut (take k ns) bs
  unfolding cut
  cut_take zero ns bs = refl
  cut_take (suc k) [] bs = refl
  cut_take (suc k) (n ∷ ns) bs = ap (λ (l : List (List A)). take n bs ∷ l) (cut_take k ns (drop n bs))

  pub cut_drop : (k : ℕ) (ns : List ℕ) (bs : List A) → drop k (cut ns bs) ≡ cut (drop k ns) (drop (sum (take k ns)) bs)
  unfolding cut sum
  cut_drop zero ns bs = refl
  cut_drop (suc k) [] bs = refl
  cut_drop (suc k) (n ∷ ns) bs = cut_drop k ns (drop n bs) ∙ ap (cut (drop k ns)) (drop-drop (sum (take k ns)) n bs)

  -- pieces of one length: how many, joined again, and by their place
  pub flat_even : (n k : ℕ) (bs : List A) → length bs ≡ n * k → flat (cut (replicate n k) bs) ≡ bs
  flat_even n k bs h = flat_cut (replicate n k) bs ∙ take_all (sum (replicate n k)) bs (omega (arith, h, sum_replicate n k))

  pub cut_even : (n k : ℕ) (bs : List A) → cut (replicate n k) bs ≡ tab n (λ i. take k (drop (i * k) bs))
  unfolding cut tab
  cut_even zero k bs = refl
  cut_even (suc n) k bs =
      λ i.
      take k (drop (sym (zero-mul k) i) bs)
      ∷ (cut_even n k (drop k bs) ∙ (λ j. tab n (λ m. take k ((drop-drop (m * k) k bs ∙ ap (λ (x : ℕ). drop x bs) (add_comm k (m * k) ∙ sym (suc-mul m k))) j)))) i
