use mathlib.Core.Path.{◌≡◌}
use Rattle.std.specs.Int.{to_le_bytes, w64}
use Rattle.laws.specs.LowFirst.{low_first}
use Rattle.digest.specs.Laws.Takes.{low_first_bytes}
use Rattle.digest.proofs.bytes.Taken.number.Goals as goal

pub returns : goal.returns
returns c = let e : to_le_bytes w64 c.args.n ≡ low_first 8 c.args.n = low_first_bytes 8 c.args.n in cc
