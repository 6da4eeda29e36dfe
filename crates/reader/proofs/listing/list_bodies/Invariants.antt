use Prim.Native.Nat.{◌≤◌}
use lib.ListN.{length, take}
use mathlib.Core.Path.{◌≡◌}
use Rattle.laws.specs.Splice.{splice}
use Rattle.range.specs.Form.{length_width}
use Rattle.reader.specs.Entry.{body_start}
use Rattle.reader.specs.Listing.{body_starts}
use Rattle.reader.proofs.listing.list_bodies.Given as goal

abbrev pub invariant-loop-i : goal.invariant-loop-i
invariant-loop-i l =
    (l.i ≤ l.n) × (length l.starts ≡ length l.initial.starts) × (l.starts ≡ splice l.initial.starts 0 (take l.i (body_starts length_width l.s))) × (l.at ≡ body_start length_width l.s l.i)
