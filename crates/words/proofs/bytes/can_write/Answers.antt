use mathlib.Core.Path.{refl}
use Rattle.words.specs.Hex.{fits_joined}
use Rattle.words.proofs.bytes.can_write.Goals as goal

pub returns : goal.returns
returns c =
    let a = c.args in
    fits_joined a.digits.now a.len a.at _ _ _ refl c.has_room-room.ensures c.all_digits-ok.ensures
