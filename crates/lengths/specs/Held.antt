-- Lengths that are held: each is allowed, and they sum to at most so much. The answer of a walk over them, and the walk part after part.
use Rattle.std.specs.Prelude.{None, Some}
use Rattle.std.specs.declared.option.Option as code
use Rattle.std.specs.Prelude.{ℕ, ◌+◌, ◌-◌, ◌≤◌, Bool, true, false, cond, ◌≡◌, refl, List, [], ◌∷◌, ◌++◌, length, take, drop, leb}
use Rattle.std.proofs.Common.{sym, ◌∙◌, arith, take-add, take_all, append_assoc, append-nil}
use Rattle.std.proofs.Math.Path.{ap}
use borrow.Author.Tests.{leb-true, le-leb}
use Rattle.laws.specs.Choice.{also, also_left, also_right, also_both, not_so, false_true, ruin}
use Rattle.laws.specs.Fold.{sum, every, sum_append, sum_split, every_append, every_take, every_drop}
use Rattle.range.specs.Form.{ok_length}

-- each from 1 to the greatest, and no more than `room` together: as a test, and as facts
unfoldable pub held_ok : ℕ → ℕ → List ℕ → Bool
held_ok most room lens = also (every (ok_length most) lens) (leb (sum lens) room)

pub record AreHeld (most room : ℕ) (lens : List ℕ) : Type 0 where
  pub each : every (ok_length most) lens ≡ true
  pub fit : sum lens ≤ room

-- the answer: what they sum to
abbrev pub answer : Bool → ℕ → code.Option ℕ
answer ok bytes = cond ok (Some bytes) None

unfoldable pub held_of : ℕ → ℕ → List ℕ → code.Option ℕ
held_of most room lens = answer (held_ok most room lens) (sum lens)

-- the test and the sum, from the case
pub answer_bytes : (ok : Bool) (bytes t : ℕ) → Some t ≡ answer ok bytes → (ok ≡ true) × (t ≡ bytes)
answer_bytes true bytes t e = (refl, cc)
answer_bytes false bytes t e = ruin (cc)

pub answer_nothing : (ok : Bool) (bytes : ℕ) → None ≡ answer ok bytes → ok ≡ false
answer_nothing true bytes e = ruin (cc)
answer_nothing false bytes e = refl

module _ (most room : ℕ) (lens : List ℕ) where
  pub held_facts : held_ok most room lens ≡ true → AreHeld most room lens
  unfolding held_ok
  held_facts e = record { each = also_left _ _ e; fit = leb-true (sum lens) room (also_right _ _ e) }

  pub facts_held : AreHeld most room lens → held_ok most room lens ≡ true
  unfolding held_ok
  facts_held f = also_both _ _ f.each (le-leb (sum lens) room f.fit)

  -- the ways out of a walk
  held_no : (AreHeld most room lens → ⊥) → None ≡ held_of most room lens
  unfolding held_of
  held_no h = ap (λ (b : Bool). answer b (sum lens)) (sym (not_so (held_ok most room lens) (λ e. h (held_facts e))))

  held_yes : (t : ℕ) → AreHeld most room lens → t ≡ sum lens → Some t ≡ held_of most room lens
  unfolding held_of
  held_yes t f e = ap Some e ∙ ap (λ (b : Bool). answer b (sum lens)) (sym (facts_held f))

  held_bytes : (t : ℕ) → Some t ≡ held_of most room lens → AreHeld most room lens × (t ≡ sum lens)
  unfolding held_of
  held_bytes t e = let a = answer_bytes (held_ok most room lens) (sum lens) t e in (held_facts a.0, a.1)

  held_nothing : None ≡ held_of most room lens → AreHeld most room lens → ⊥
  unfolding held_of
  held_nothing e f = false_true (sym (answer_nothing (held_ok most room lens) (sum lens) e) ∙ facts_held f)

-- the lengths before the place `at` are held, and sum to s
pub record SoFar (most room : ℕ) (lens : List ℕ) (at s : ℕ) : Type 0 where
  pub within : at ≤ length lens
  pub each : every (ok_length most) (take at lens) ≡ true
  pub total : s ≡ sum (take at lens)
  pub fit : s ≤ room

pub so_far_none : (most room : ℕ) (lens : List ℕ) → SoFar most room lens 0 0
unfolding every sum
so_far_none most room lens = record { within = omega arith; each = refl; total = refl; fit = omega arith }

module _ (most room : ℕ) (lens : List ℕ) (at s : ℕ) (f : SoFar most room lens at s) where
  -- the next part isn't held, or it is, or there is none
  module _ (k : ℕ) where
    pub so_far_no : None ≡ held_of most (room - s) (take k (drop at lens)) → None ≡ held_of most room lens
    so_far_no e =
        held_no most room lens
        (λ h.
        held_nothing most (room - s) (take k (drop at lens)) e
        (record {
          each = every_take (ok_length most) k (drop at lens) (every_drop (ok_length most) at lens h.each);
          fit = omega (arith, f.total, h.fit, sum_split at lens, sum_split k (drop at lens));
        }))

    pub so_far_next : (end b : ℕ) → end ≡ at + k → end ≤ length lens → Some b ≡ held_of most (room - s) (take k (drop at lens))
        → SoFar most room lens end (s + b)
    so_far_next end b he hl e =
        let p = held_bytes most (room - s) (take k (drop at lens)) b e in
        let more : take end lens ≡ take at lens ++ take k (drop at lens) = ap (λ (n : ℕ). take n lens) he ∙ take-add at k lens in
        record {
          within = hl;
          each =
              ap (every (ok_length most)) more
              ∙ every_append (ok_length most) (take at lens) (take k (drop at lens))
              ∙ also_both _ _ f.each p.0.each;
          total = (λ i. f.total i + p.1 i) ∙ sym (ap sum more ∙ sum_append (take at lens) (take k (drop at lens)));
          fit = omega (arith, f.fit, p.1, p.0.fit);
        }

  pub so_far_all : length lens ≤ at → Some s ≡ held_of most room lens
  so_far_all h =
      let all : take at lens ≡ lens = take_all at lens h in
      let t : s ≡ sum lens = f.total ∙ ap sum all in
      held_yes most room lens s (record { each = sym (ap (every (ok_length most)) all) ∙ f.each; fit = omega (arith, t, f.fit) }) t

-- the parts before the rest are held, and sum to s
pub record PartsHeld (most room : ℕ) (lens rest : List ℕ) (s : ℕ) : Type 0 where
  pub before : List ℕ
  pub split : lens ≡ before ++ rest
  pub each : every (ok_length most) before ≡ true
  pub total : s ≡ sum before
  pub fit : s ≤ room

pub parts_none : (most room : ℕ) (lens : List ℕ) → PartsHeld most room lens lens 0
unfolding every sum
parts_none most room lens = record { before = []; split = refl; each = refl; total = refl; fit = omega arith }

module _ (most room : ℕ) (lens rest : List ℕ) (s : ℕ) (f : PartsHeld most room lens rest s) where
  -- the next part isn't held, or it is, or there is none
  module _ (part next : List ℕ) (e : rest ≡ part ++ next) where
    each_part : every (ok_length most) lens ≡ true → every (ok_length most) part ≡ true
    each_part h =
        let all : also (every (ok_length most) f.before) (every (ok_length most) rest) ≡ true = sym (ap (every (ok_length most)) f.split ∙ every_append (ok_length most) f.before rest) ∙ h in
        also_left _ _ (sym (ap (every (ok_length most)) e ∙ every_append (ok_length most) part next) ∙ also_right _ _ all)

    pub parts_no : None ≡ held_of most (room - s) part → None ≡ held_of most room lens
    parts_no n =
        held_no most room lens
        (λ h.
        held_nothing most (room - s) part n
        (record {
          each = each_part h.each;
          fit = omega (arith, f.total, h.fit, ap sum f.split, sum_append f.before rest, ap sum e, sum_append part next);
        }))

    pub parts_next : (b : ℕ) → Some b ≡ held_of most (room - s) part → PartsHeld most room lens next (s + b)
    parts_next b h =
        let p = held_bytes most (room - s) part b h in
        record {
          before = f.before ++ part;
          split = f.split ∙ ap (λ (xs : List ℕ). f.before ++ xs) e ∙ sym (append_assoc f.before part next);
          each = every_append (ok_length most) f.before part ∙ also_both _ _ f.each p.0.each;
          total = omega (arith, f.total, p.1, sum_append f.before part);
          fit = omega (arith, f.fit, p.1, p.0.fit);
        }

pub parts_all : (most room : ℕ) (lens rest : List ℕ) (s : ℕ) → PartsHeld most room lens rest s → length rest ≡ 0 → Some s ≡ held_of most room lens
parts_all most room lens [] s f h =
    let all : lens ≡ f.before = f.split ∙ append-nil f.before in
    let t : s ≡ sum lens = f.total ∙ ap sum (sym all) in
    held_yes most room lens s (record { each = ap (every (ok_length most)) all ∙ f.each; fit = omega (arith, t, f.fit) }) t
parts_all most room lens (x ∷ xs) s f h = absurd (omega arith)
