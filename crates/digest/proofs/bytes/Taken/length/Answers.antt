use mathlib.Core.Path.{◌≡◌}
use Rattle.std.specs.Int.{to_le_bytes, w16}
use Rattle.laws.specs.LowFirst.{low_first}
use Rattle.digest.specs.Laws.Takes.{low_first_bytes}
use Rattle.digest.proofs.bytes.Taken.length.Goals as goal

pub returns : goal.returns
returns c = let e : to_le_bytes w16 c.args.len ≡ low_first 2 c.args.len = low_first_bytes 2 c.args.len in cc
