use Rattle.refusal.specs.Refusal.{yes}
use Rattle.image.specs.Written.{written_runs}
use Rattle.image.proofs.writing.write_image.Goals as goal

pub returns-clause-disk_after : goal.returns-clause-disk_after
returns-clause-disk_after c =
    let a = c.args in
    written_runs a.g a.first a.second a.blocks.now a.disk.now _ _ _ (yes _ _ _ c.in_ok-ask_image.ensures) c.put_slot.ensures c.put_slot-2.ensures c.write.ensures
