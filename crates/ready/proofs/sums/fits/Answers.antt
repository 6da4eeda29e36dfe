use Prim.Native.Nat.{◌+◌}
use mathlib.Core.Path.{sym}
use native.Mathlib.Omega.{arith}
use borrow.Author.Tests.{lt-leb}
use Rattle.laws.specs.Choice.{leb_less}
use Rattle.ready.proofs.sums.fits.Goals as goal

pub returns-then-most-a : goal.returns-then-most-a
returns-then-most-a c = let a = c.args in sym (lt-leb (a.a + a.b) a.most (omega arith))

pub returns : goal.returns
returns c = let a = c.args in leb_less a.a a.b a.most c.if-most-a.false
