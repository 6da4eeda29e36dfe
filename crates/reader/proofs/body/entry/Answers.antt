use Prim.Native.Nat.{◌<◌}
use mathlib.Core.Path.{◌≡◌}
use native.Mathlib.Omega.{arith}
use Rattle.range.specs.Form.{length_width, most_entry_length, entry_count}
use Rattle.range.specs.Shape.{Shape}
use Rattle.reader.specs.Entry.{ask_entry, entry_shape, entry_index, entry_body, body_within}
use Rattle.reader.proofs.body.entry.Goals as goal
use Rattle.reader.proofs.body.entry.Goals.{Else-is_err}

asked : (c : Else-is_err) → ask_entry c.args.s.now c.args.i ≡ 0
asked c = grind (arith, c.is_err.ensures.value, c.if-is_err.false, c.entry_refusal.ensures)

shape : (c : Else-is_err) → Shape length_width most_entry_length c.args.s.now
shape c = entry_shape _ _ (asked c)

index : (c : Else-is_err) → c.args.i < entry_count c.args.s.now
index c = entry_index _ _ (asked c)

pub overflow_add-at : goal.overflow_add-at
overflow_add-at c = let s = shape (goal.at.overflow_add-at c).Else-is_err in omega (arith, index (goal.at.overflow_add-at c).Else-is_err)

pub body_start-start-requires : goal.body_start-start-requires
body_start-start-requires c = (shape (goal.at.body_start-start-requires c).Else-is_err, omega (arith, index (goal.at.body_start-start-requires c).Else-is_err))

pub bounds-s-at : goal.bounds-s-at
bounds-s-at c = let s = shape (goal.at.bounds-s-at c).Else-is_err in omega (arith, index (goal.at.bounds-s-at c).Else-is_err)

pub slice_bounds-result-end-2 : goal.slice_bounds-result-end-2
slice_bounds-result-end-2 c =
    let d = (goal.at.slice_bounds-result-end-2 c).Else-is_err in
    omega (arith, body_within c.args.s.now c.args.i (shape d) (index d), c.body_start-start.ensures.0)

pub returns : goal.returns
returns c = entry_body _ _ (asked (goal.at.returns c).Else-is_err) _ _ c.body_start-start.ensures.0 c.body_end-end.ensures
