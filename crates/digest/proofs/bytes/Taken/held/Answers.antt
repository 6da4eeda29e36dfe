use Rattle.std.specs.Prelude.{Some}
use lib.ListN.{length}
use mathlib.Core.Path.{◌≡◌, sym, ◌∙◌}
use native.Mathlib.Omega.{arith}
use Rattle.digest.specs.Laws.Parts.{held_yes, held_no}
use Rattle.lengths.specs.Entries.{entries_held, Entries, entries_bytes}
use Rattle.digest.proofs.bytes.Taken.held.Goals as goal
use Rattle.digest.proofs.bytes.Taken.held.Goals.{In-Some}

found : (c : In-Some)
    → Some c.in-Some.n ≡ entries_held (length c.args.bytes.now) c.args.lens.now c.args.taken.entries c.args.to
found c = sym c.in-Some.is ∙ c.entries_held-found.ensures

facts : (c : In-Some) → Entries (length c.args.bytes.now) c.args.lens.now c.args.taken.entries c.args.to
facts c = (entries_bytes _ _ _ _ _ (found c)).0

pub offset_bounds-lens-start : goal.offset_bounds-lens-start
offset_bounds-lens-start c = let f = facts (goal.at.offset_bounds-lens-start c).In-Some in omega arith

pub slice_bounds-lengths-count : goal.slice_bounds-lengths-count
slice_bounds-lengths-count c = let f = facts (goal.at.slice_bounds-lengths-count c).In-Some in omega arith

pub slice_bounds-lengths-start : goal.slice_bounds-lengths-start
slice_bounds-lengths-start c = let f = facts (goal.at.slice_bounds-lengths-start c).In-Some in omega arith

pub slice_bounds-lengths-end : goal.slice_bounds-lengths-end
slice_bounds-lengths-end c = let f = facts (goal.at.slice_bounds-lengths-end c).In-Some in omega arith

pub returns-in-Some : goal.returns-in-Some
returns-in-Some c = held_yes _ _ _ _ _ _ (found (goal.at.returns-in-Some c).In-Some) c.lengths-v.ensures c.part.ensures

pub returns-in-None : goal.returns-in-None
returns-in-None c = held_no _ _ _ _ _ (sym c.in-None.is ∙ c.entries_held-found.ensures)
