-- What a write to a part of a slice leaves, as the writes of laws; and the greatest of some bytes.
use Rattle.std.specs.Prelude.{ℕ, ◌+◌, ◌-◌, ◌≤◌, ◌≡◌, refl, min, max, Bool, List, [], ◌∷◌, ◌++◌, length, take, drop}
use Rattle.std.proofs.Common.{sym, ap, ◌∙◌, arith, drop-drop, append_assoc}
use borrow.Rule.Slice.PartMut.{put_mid, post_of}
use Rattle.std.specs.List.{fold}
use lib.Seq.{paste}
use Rattle.laws.specs.Part.{length_part}
use Rattle.laws.specs.Choice.{also, also_assoc, also_true}
use Rattle.laws.specs.Bytes.{is_zero}
use Rattle.laws.specs.Fold.{every}
use Rattle.laws.specs.Splice.{splice}

module _ {A : Type 0} where
  pub part_spliced : (d : List A) (p e : ℕ) (ys : List A) → p ≤ e → length ys ≡ e - p → put_mid p (e - p) d ys ≡ splice d p ys
  unfolding splice
  part_spliced d p e ys h k =
      rw append_assoc
      (ap (λ (l : List A). take p d ++ (ys ++ l)) (drop-drop (e - p) p d ∙ ap (λ (n : ℕ). drop n d) (ap (λ (n : ℕ). p + n) (sym k))))

  pub pasted : (d : List A) (i j at : ℕ) → i ≤ j → j ≤ length d → paste d at (drop i d) (j - i) ≡ splice d at (take (j - i) (drop i d))
  unfolding splice
  pasted d i j at h k = ap (λ (n : ℕ). take at d ++ take (j - i) (drop i d) ++ drop (at + n) d) (sym (length_part d i (j - i) (omega arith)))

-- the greatest of some numbers is zero where they all are
greatest_zero : (a b : ℕ) → is_zero (max a b) ≡ also (is_zero a) (is_zero b)
unfolding is_zero also
greatest_zero a b = grind arith

greatest_of : (a : ℕ) (xs : List ℕ) → is_zero (fold max a xs) ≡ also (is_zero a) (every is_zero xs)
unfolding every
greatest_of a [] = sym (also_true (is_zero a))
greatest_of a (x ∷ xs) =
    greatest_of (max a x) xs
    ∙ ap (λ (b : Bool). also b (every is_zero xs)) (greatest_zero a x)
    ∙ also_assoc (is_zero a) (is_zero x) (every is_zero xs)

pub all_zero : (xs : List ℕ) → is_zero (fold max 0 xs) ≡ every is_zero xs
unfolding is_zero also
all_zero xs = greatest_of 0 xs
