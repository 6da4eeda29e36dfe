use Rattle.std.proofs.Common.{rules, arith, ℕ, ◌<◌, ◌≤◌, ◌∙◌, ap, sym, refl, length, drop, get_or, set, length-set, zero-add}
use Rattle.laws.specs.LowFirst.{each_from_low, length_each_from_low}
use Rattle.laws.specs.Splice.{splice_none, copy_turn}
use Rattle.numbers.specs.Laws.{read_at, read_end}
use Rattle.numbers.proofs.read.read_numbers.Goals as goal

pub loop-number-init : goal.loop-number-init
loop-number-init c = (refl, omega arith, splice_none _ _)

pub loop-number-preserved : goal.loop-number-preserved
loop-number-preserved c =
    let a = c.args in
    let i = c.loop-number in
    let k = i.number-index in
    let r = each_from_low 8 (length a.numbers.now) (drop a.at a.src.now) in
    let l : k < length a.numbers.now = search rules in (
      simp length-set (omega arith),
      omega arith,
      ap (set i.number-items k) (c.number_at.ensures ∙ read_at 8 (length a.numbers.now) a.at k i.place a.src.now l i.invariant.1)
          ∙ ap (λ (n : ℕ). set i.number-items n (get_or r k 0)) (sym (zero-add k))
          ∙ copy_turn _ a.numbers.now 0 r k 0 i.invariant.2 (omega (arith, l, length_each_from_low 8 (length a.numbers.now) (drop a.at a.src.now))) (omega (arith, l)),
    )

pub returns : goal.returns
returns c =
    let a = c.args in
    let i = c.loop-number in
    let l : length a.numbers.now ≤ i.number-index = search rules in
    read_end 8 _ a.numbers.now i.number-index (drop a.at a.src.now) i.invariant.2 l
