-- Entries of zeros only, as some probes send after a brownout: an add that brings one is refused (document 02, S-6). The form of a range knows nothing
-- of this: an entry that was stored before is read as it is. Assumes nothing.
use Rattle.std.specs.Prelude.{ℕ, suc, ◌<◌, Bool, true, false, not, ◌≡◌, refl, List, [], ◌∷◌, length, get_or, replicate}
use Rattle.std.proofs.Common.{sym, ◌∙◌, ap, arith, eqb-true}
use Rattle.laws.specs.Choice.{also, true_also, also_left, also_right, also_both, not_true, split_bool, true_false}
use Rattle.laws.specs.Fold.{every, Each, every_done, every_at, every_replicate}
use Rattle.laws.specs.Bytes.{is_zero, zeros_are}
use Rattle.range.specs.Form.{Entry}

unfoldable pub blank : Entry → Bool
blank e = every is_zero e

-- a byte of it isn't 0; and each of the entries has one
abbrev pub some_byte : Entry → Bool
some_byte e = not (blank e)

unfoldable pub none_blank : List Entry → Bool
none_blank es = every some_byte es

-- one of the entries is of zeros only
pub record SomeBlank (es : List Entry) : Type 0 where
  pub place : ℕ
  pub there : place < length es
  pub zeros : get_or es place [] ≡ replicate (length (get_or es place [])) 0

pub some_blank : (es : List Entry) → none_blank es ≡ false → SomeBlank es
unfolding none_blank blank every
some_blank [] e = true_false e
some_blank (x ∷ xs) e =
    split_bool (blank x)
    (λ z. record { place = 0; there = omega arith; zeros = zeros_are x z })
    (λ n.
    let r = some_blank xs (sym (true_also (none_blank xs)) ∙ ap (λ (b : Bool). also (not b) (none_blank xs)) (sym n) ∙ e) in
    record { place = suc r.place; there = omega (arith, r.there); zeros = r.zeros })

pub blank_some : (es : List Entry) → SomeBlank es → none_blank es ≡ false
unfolding none_blank blank is_zero
blank_some es s =
    let z : blank (get_or es s.place []) ≡ true = ap blank s.zeros ∙ every_replicate is_zero (length (get_or es s.place [])) 0 refl in
    split_bool (none_blank es)
    (λ e. true_false (sym (every_at some_byte es s.place [] e s.there) ∙ ap not z))
    (λ e. e)

-- said of each entry
pub none_blank_each : (es : List Entry) → none_blank es ≡ true → Each (λ e. blank e ≡ false) es
unfolding none_blank every
none_blank_each [] e = tt
none_blank_each (x ∷ xs) e = (not_true (blank x) (also_left (some_byte x) (every some_byte xs) e), none_blank_each xs (also_right (some_byte x) (every some_byte xs) e))

pub each_none_blank : (es : List Entry) → Each (λ e. blank e ≡ false) es → none_blank es ≡ true
unfolding none_blank every
each_none_blank [] h = refl
each_none_blank (x ∷ xs) h = also_both (some_byte x) (every some_byte xs) (ap not h.0) (each_none_blank xs h.1)

-- what the length tells, and a byte at any place
pub no_byte : (e : Entry) → length e ≡ 0 → true ≡ blank e
unfolding blank
no_byte e h = every_done is_zero e 0 (omega (arith, h)) refl

pub some_byte_is : (e : Entry) (i : ℕ) → i < length e → (get_or e i 0 ≡ 0 → ⊥) → false ≡ blank e
unfolding blank is_zero
some_byte_is e i h n = split_bool (blank e) (λ t. absurd (n (eqb-true (get_or e i 0) 0 (every_at is_zero e i 0 t h)))) (λ f. sym f)
