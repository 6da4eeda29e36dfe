use native.Mathlib.Omega.{arith}
use Rattle.reader.specs.Range.{counted_shape, counted_is}
use Rattle.reader.proofs.listing.list.Goals as goal

pub list_bodies-requires : goal.list_bodies-requires
list_bodies-requires c = (counted_shape _ _ c.in_ok-n.ensures, counted_is _ _ c.in_ok-n.ensures, omega arith)
