use Rattle.std.specs.Prelude.{Some}
use Prim.Native.Nat.{◌+◌, ◌*◌, ◌-◌}
use lib.ListN.{drop}
use mathlib.Core.Path.{◌≡◌, sym, ◌∙◌}
use native.Mathlib.Omega.{arith}
use Rattle.reader.specs.Front.{front_of, front_there, front_facts}
use Rattle.unpacker.specs.Walked.{Walked, walked_none, walked_all, walked_no, walked_next, front_rest}
use Rattle.unpacker.proofs.ranges.scan.Goals as goal
use Rattle.unpacker.proofs.ranges.scan.Goals.{In-Some}

stands : (c : In-Some) → Some c.in-Some.c ≡ front_of (drop c.loop-at.at c.args.s.now)
stands c =
    sym c.in-Some.is
    ∙ c.range_in_front.ensures
    ∙ front_rest c.args.s.now c.loop-at.at

next : (c : In-Some)
    → Walked c.args.s.now (c.loop-at.at + c.in-Some.c.blocks * 4096) (c.loop-at.entries + c.in-Some.c.entries) (c.loop-at.bytes + c.in-Some.c.bytes)
next c =
    walked_next _ _ _ _ c.loop-at.invariant c.loop-at-test.true (front_there _ _ (stands c)) _ _ _ (front_facts _ _ (stands c))

pub loop-at-init : goal.loop-at-init
loop-at-init c = walked_none _

pub returns-in_default : goal.returns-in_default
returns-in_default c =
    let l = c in
    walked_no _ _ _ _ c.loop-at.invariant c.loop-at-test.true (sym c.in_default.is ∙ c.range_in_front.ensures ∙ front_rest c.args.s.now c.loop-at.at)

pub overflow_add-entries : goal.overflow_add-entries
overflow_add-entries c = let w = next (goal.at.overflow_add-entries c).In-Some in omega arith

pub overflow_add-bytes : goal.overflow_add-bytes
overflow_add-bytes c = let w = next (goal.at.overflow_add-bytes c).In-Some in omega arith

pub overflow_mul-at : goal.overflow_mul-at
overflow_mul-at c = let w = next (goal.at.overflow_mul-at c).In-Some in omega arith

pub overflow_add-at : goal.overflow_add-at
overflow_add-at c = let w = next (goal.at.overflow_add-at c).In-Some in omega arith

pub loop-at-smaller : goal.loop-at-smaller
loop-at-smaller c = let w = next (goal.at.loop-at-smaller c).In-Some in let f = front_facts _ _ (stands (goal.at.loop-at-smaller c).In-Some) in omega arith

pub loop-at-preserved : goal.loop-at-preserved
loop-at-preserved c = next (goal.at.loop-at-preserved c).In-Some

pub returns : goal.returns
returns c = walked_all _ _ _ _ c.loop-at.invariant c.loop-at-test.false
