use Rattle.std.proofs.Common.{arith, ◌+◌, sym, ◌∙◌, ap, leb}
use Rattle.std.proofs.lemmas.Bool.{lt-leb}
use Rattle.laws.specs.Choice.{leb_less}
use Rattle.tables.specs.Rows.{has_room}
use Rattle.tables.proofs.ids.InUse.room.Goals as goal

pub returns-then-self-n : goal.returns-then-self-n
unfolding has_room
returns-then-self-n c =
    let a = c.args in
    leb_less a.self.count a.more _ c.if-self-n.true ∙ ap (leb (a.self.count + a.more)) c.min-n.ensures

pub returns : goal.returns
unfolding has_room
returns c =
    let a = c.args in
    sym (lt-leb (a.self.count + a.more) _ (let e = c.min-n.ensures in let h = c.if-self-n.false in omega arith))
