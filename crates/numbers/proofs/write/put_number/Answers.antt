use Rattle.std.proofs.Common.{arith, ℕ, ◌+◌, ◌∙◌, ap, refl, set, length-set}
use native.Mathlib.Nat.{sub-zero}
use Rattle.laws.specs.Digits.{digits, digits_turn}
use Rattle.laws.specs.LowFirst.{low_first, length_low_first}
use Rattle.laws.specs.Splice.{clipped, splice_none, copy_turn, copy_end, clipped_min}
use Rattle.numbers.proofs.write.put_number.Goals as goal

pub loop-j-init : goal.loop-j-init
loop-j-init c = let a = c.args in (refl, splice_none _ _, ap (λ (m : ℕ). digits 256 m a.n) (sub-zero a.width))

pub loop-j-preserved : goal.loop-j-preserved
loop-j-preserved c =
    let a = c.args in
    let i = c.loop-j in
    let t = digits_turn 256 a.width a.n i.j i.rest (omega arith) i.invariant.2 in (
      simp length-set (omega arith),
      ap (set i.dst (c.min-start.result + i.j)) t.0
          ∙ copy_turn _ a.dst.now c.min-start.result (low_first a.width a.n) i.j 0 i.invariant.1 (omega (arith, length_low_first a.width a.n)) (omega arith),
      t.1,
    )

pub returns : goal.returns
returns c =
    let a = c.args in
    copy_end _ a.dst.now c.min-start.result (low_first a.width a.n) c.loop-j.j c.loop-j.invariant.1 (omega (arith, length_low_first a.width a.n))
    ∙ ap (λ (m : ℕ). clipped a.dst.now m (low_first a.width a.n)) c.min-start.ensures
    ∙ clipped_min a.dst.now a.at (low_first a.width a.n)
