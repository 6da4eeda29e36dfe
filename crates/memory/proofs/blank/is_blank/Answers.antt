use Prim.Native.Nat.{◌-◌}
use lib.ListN.{length}
use native.Mathlib.Omega.{arith}
use Rattle.range.specs.Blank.{blank, no_byte, some_byte_is}
use Rattle.memory.proofs.blank.is_blank.Goals as goal

pub returns-then-entry-eq0 : goal.returns-then-entry-eq0
returns-then-entry-eq0 c = no_byte _ c.if-entry-eq0.true

pub returns-then-entry-ne0 : goal.returns-then-entry-ne0
returns-then-entry-ne0 c =
    let n = c.if-entry-eq0.false in
    some_byte_is _ 0 (omega (arith, n)) c.if-entry-ne0.true

pub returns-then-entry-ne0-2 : goal.returns-then-entry-ne0-2
returns-then-entry-ne0-2 c =
    let n = c.if-entry-eq0.false in
    let e = c.args.entry.now in
    some_byte_is e (length e - 1) (omega (arith, n)) c.if-entry-ne0-2.true

pub returns : goal.returns
unfolding blank
returns c = c.zeros.ensures
