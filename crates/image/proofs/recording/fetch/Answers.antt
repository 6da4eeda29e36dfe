use Rattle.image.specs.Found.{found_lent}
use Rattle.image.proofs.FoundLaws.{straight_part, found, pieces_straight, pieces_round}
use Rattle.image.specs.Image.{lent}
use native.Mathlib.Omega.{arith}
use Prim.Native.Nat.{ℕ, ◌+◌, ◌*◌, ◌-◌}
use mathlib.Core.List.{List}
use mathlib.Core.Path.{refl, sym, ◌∙◌, ap}
use Rattle.image.proofs.recording.fetch.Goals as goal

pub returns-then-s-g : goal.returns-then-s-g
returns-then-s-g c =
    let st = c in
    let a = c.args in
    let l = lent a.pieces.now a.rbytes.now a.rlens.now in
    let all = found a.g a.s a.disk.now l c.requires _
    (straight_part a.g a.s a.disk.now l c.requires c.if-s-g.true (8192 + a.s.journalStart * 4096) (8192 + a.s.journalStart * 4096 + a.s.journalLen * 4096 - (8192 + a.s.journalStart * 4096)) refl (omega arith)) _ _ _ _ _
    (sym (pieces_straight a.g a.disk.now a.s a.pieces.now c.if-s-g.true)) (c.unpack.ensures.value, (c.unpack.ensures.bytes_after, c.unpack.ensures.lens_after)) in record { value = all.0; lent_after = all.1 }

pub returns : goal.returns
returns c =
    let st = c in
    let a = c.args in
    let l = lent a.pieces.now a.rbytes.now a.rlens.now in
    let h = c.fetch_round.ensures in record { value = c.fetch_round.ensures.value; lent_after = c.fetch_round.ensures.lent_after ∙ ap (λ (p : List ℕ). found_lent a.g a.disk.now a.s p l) (sym (pieces_round a.g a.disk.now a.s a.pieces.now (omega (arith, c.if-s-g.false)))) }
