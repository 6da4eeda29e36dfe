use Rattle.image.proofs.FoundLaws.{journal_part, fetched, fetched_front, found}
use Rattle.image.specs.Image.{lent}
use Prim.Native.Nat.{◌*◌}
use mathlib.Core.Path.{refl}
use Rattle.image.proofs.recording.fetch_round.Goals as goal

pub returns : goal.returns
returns c =
    let st = c in
    let a = c.args in
    let l = lent a.pieces.now a.rbytes.now a.rlens.now in
    let x = fetched a.g a.s a.disk.now l c.requires _ _ (journal_part a.g a.s a.disk.now l c.requires) c.cyclic_slice_bytes-copied.ensures.out_after in
    let all = found a.g a.s a.disk.now l c.requires _ (fetched_front a.g a.s a.disk.now l c.requires _ x (a.s.journalLen * 4096) refl) _ _ _ _ _ x (c.unpack.ensures.value, (c.unpack.ensures.bytes_after, c.unpack.ensures.lens_after)) in record { value = all.0; lent_after = all.1 }
