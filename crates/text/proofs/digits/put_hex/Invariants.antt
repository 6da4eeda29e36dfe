use Rattle.std.proofs.Common.{◌≡◌, ◌*◌, length, take}
use Rattle.laws.specs.Splice.{clipped}
use Rattle.text.specs.Text.{after, hex_of}
use Rattle.text.proofs.digits.put_hex.Given as goal

abbrev pub invariant-loop-b : goal.invariant-loop-b
invariant-loop-b l =
    (length l.text ≡ length l.initial.text) × (l.place ≡ after l.at (l.b-index * 2) (length l.initial.text)) × (l.text ≡ clipped l.initial.text l.at (hex_of (take l.b-index l.bytes)))
