use lib.ListN.{length-set}
use mathlib.Core.Path.{refl}
use native.Mathlib.Omega.{arith}
use Rattle.laws.specs.Splice.{splice_none}
use Rattle.range.specs.Form.{length_width}
use Rattle.reader.specs.Entry.{start_within}
use Rattle.reader.specs.Listing.{list_turn, list_end, first_start, next_start}
use Rattle.reader.proofs.listing.list_bodies.Goals as goal

pub loop-i-init : goal.loop-i-init
loop-i-init c = let st = c in (omega arith, refl, splice_none _ _, first_start c.args.s.now _ c.requires.1)

pub body_end-at-requires : goal.body_end-at-requires
body_end-at-requires c =
    let i = c.loop-i in
    let st = c in
    omega (arith, c.loop-i.invariant.3, start_within c.args.s.now c.loop-i.i c.requires.0 (omega arith))

pub loop-i-preserved : goal.loop-i-preserved
loop-i-preserved c =
    let i = c.loop-i in
    let st = c in (
      omega arith,
      simp length-set (omega arith),
      list_turn length_width c.args.s.now _ c.args.starts.now c.loop-i.i _ c.loop-i.invariant.2 c.loop-i.invariant.3 (omega arith) (omega arith),
      next_start c.args.s.now c.loop-i.i _ _ c.requires.0 (omega arith) c.loop-i.invariant.3 c.body_end-at.ensures,
    )

pub returns : goal.returns
returns c =
    let st = c in
    list_end length_width c.args.s.now _ c.args.starts.now c.loop-i.i c.loop-i.invariant.2 (omega arith)
