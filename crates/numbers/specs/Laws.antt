-- Laws of the loops: a number read from its highest byte down, and numbers of w bytes written and read one after another. Assumes nothing.
use Prim.Native.Nat.{ℕ, ◌+◌, ◌*◌, ◌-◌, ◌^◌, ◌≤◌, ◌<◌, min}
use Rattle.std.specs.Prelude.{◌≡◌, refl, take, drop, get_or}
use Rattle.std.proofs.Math.Path.{sym, ap}
use Rattle.std.proofs.Common.{◌∙◌, add_comm, arith, length-drop, get_or-take, get_or-drop, length-take-le, take_all}
use mathlib.Core.List.{List, [], ◌∷◌, ◌++◌, append-nil}
use Rattle.std.proofs.Math.ListN.{length}
use Rattle.std.proofs.Math.Seq.{take-nil}
use Rattle.laws.specs.Digits.{from_digits, from_digits_turn}
use Rattle.laws.specs.Fold.{every_take, every_drop}
use Rattle.laws.specs.Bytes.{is_byte, Bytes}
use Rattle.laws.specs.LowFirst.{from_low, low_first, each_low, each_from_low, from_low_small, length_each_low, length_each_from_low, each_low_append, each_from_low_tab}
use Rattle.laws.specs.Part.{drop_end, drop_min, take_step, length_part, get_d_tab}
use Rattle.laws.specs.Splice.{splice, clipped, splice_none, splice_whole, clipped_min, clipped_then}

-- what was read so far is the number of the bytes from `left` on, of the m bytes from `start` on
module _ (xs : List ℕ) (start m : ℕ) (inside : start + m ≤ length xs) where
  long : length (take m (drop start xs)) ≡ m
  long = length_part xs start m inside

  pub read_none : 0 ≡ from_low (drop m (take m (drop start xs)))
  unfolding from_digits
  read_none = ap from_low (sym (drop_end (take m (drop start xs)) m (omega (arith, long))))

  pub read_turn : (left n b : ℕ) → 1 ≤ left → left ≤ m → n ≡ from_low (drop left (take m (drop start xs))) → b ≡ get_or xs (start + (left - 1)) 0
      → n * 256 + b ≡ from_low (drop (left - 1) (take m (drop start xs)))
  read_turn left n b h k e f =
      let l : left - 1 + 1 ≡ left = omega arith in
      add_comm (n * 256) b
      ∙ (λ i. (f ∙ sym (get_or-take m (drop start xs) (left - 1) 0 (omega arith) ∙ get_or-drop start xs (left - 1) 0)) i + (e ∙ ap (λ (j : ℕ). from_low (drop j (take m (drop start xs)))) (sym l)) i * 256)
      ∙ sym (from_digits_turn 256 (take m (drop start xs)) (left - 1) (omega (arith, long)))

  -- before the last of at most 8 bytes there is room for one more
  pub read_small : Bytes xs → m ≤ 8 → (left n : ℕ) → 1 ≤ left → n ≡ from_low (drop left (take m (drop start xs))) → n < 256 ^ 7
  read_small b h left n k e =
      rw e
      (from_low_small 7 (drop left (take m (drop start xs)))
      (every_drop is_byte left (take m (drop start xs)) (every_take is_byte m (drop start xs) (every_drop is_byte start xs b)))
      (simp length-drop (omega (arith, long))))

-- numbers one after another, each at its place or at the memory's end
module _ (w : ℕ) where
  pub put_none : (d : List ℕ) (at : ℕ) → d ≡ clipped d at (each_low w [])
  unfolding clipped each_low
  put_none d at = splice_none d at ∙ ap (splice d at) (sym (take-nil (length d - at)))

  pub put_turn : (x y d : List ℕ) (at place i : ℕ) (ns : List ℕ) → x ≡ clipped d at (each_low w (take i ns)) → length x ≡ length d → place ≡ min (at + i * w) (length d)
      → i < length ns → y ≡ clipped x place (low_first w (get_or ns i 0)) → y ≡ clipped d at (each_low w (take (i + 1) ns))
  unfolding each_low
  put_turn x y d at place i ns e l p h f =
      f
      ∙ ap (λ (m : ℕ). clipped x m (low_first w (get_or ns i 0))) (p ∙ (λ j. min (here j) (sym l j)))
      ∙ clipped_min x (at + length (each_low w (take i ns))) (low_first w (get_or ns i 0))
      ∙ ap (λ (z : List ℕ). clipped z (at + length (each_low w (take i ns))) (low_first w (get_or ns i 0))) e
      ∙ clipped_then d at (each_low w (take i ns)) (low_first w (get_or ns i 0))
      ∙ ap (clipped d at) (sym more)
    where
      here : at + i * w ≡ at + length (each_low w (take i ns))
      here = ap (λ (m : ℕ). at + m) (ap (λ (m : ℕ). m * w) (sym (length-take-le i ns (omega (arith, h)))) ∙ sym (length_each_low w (take i ns)))

      more : each_low w (take (i + 1) ns) ≡ each_low w (take i ns) ++ low_first w (get_or ns i 0)
      more =
          ap (each_low w) (take_step ns i 0 h)
          ∙ each_low_append w (take i ns) (get_or ns i 0 ∷ [])
          ∙ ap (λ (z : List ℕ). each_low w (take i ns) ++ z) (append-nil (low_first w (get_or ns i 0)))

  pub put_end : (x d : List ℕ) (at i : ℕ) (ns : List ℕ) → x ≡ clipped d at (each_low w (take i ns)) → length ns ≤ i → x ≡ clipped d at (each_low w ns)
  put_end x d at i ns e h = e ∙ ap (λ (z : List ℕ). clipped d at (each_low w z)) (take_all i ns h)

  -- the number at place i of those that are read, and all of them
  pub read_at : (n at i place : ℕ) (xs : List ℕ) → i < n → place ≡ min (at + i * w) (length xs)
      → from_low (take w (drop place xs)) ≡ get_or (each_from_low w n (drop at xs)) i 0
  read_at n at i place xs h p =
      ap (λ (m : ℕ). from_low (take w (drop m xs))) p
      ∙ ap (λ (z : List ℕ). from_low (take w z)) (drop_min xs (at + i * w) (length xs) refl)
      ∙ sym (ap (λ (z : List ℕ). get_or z i 0) (each_from_low_tab w n at xs) ∙ get_d_tab n (λ j. from_low (take w (drop (at + j * w) xs))) i 0 h)

  pub read_end : (x d : List ℕ) (i : ℕ) (xs : List ℕ) → x ≡ splice d 0 (take i (each_from_low w (length d) xs)) → length d ≤ i → x ≡ each_from_low w (length d) xs
  read_end x d i xs e h =
      let l = length_each_from_low w (length d) xs in
      e
      ∙ ap (splice d 0) (take_all i (each_from_low w (length d) xs) (omega arith))
      ∙ splice_whole d (each_from_low w (length d) xs) l
