use native.Mathlib.Omega.{arith}
use Rattle.laws.specs.Choice.{tests, also, and_then, ask}
use Rattle.refusal.specs.Refusal.{yes}
use Rattle.writer.specs.Entries.{ask_entries, size_bodies, size_blocks}
use Rattle.writer.specs.Ring.{ask_write, write_put}
use Rattle.writer.proofs.ring.write_range.Goals as goal

pub returns-clause-journal_after : goal.returns-clause-journal_after
unfolding ask_write ask_entries and_then ask also
returns-clause-journal_after c =
    let b = size_blocks _ _ _ _ c.in_ok-size.ensures in
    write_put _ _ _ _ _ _ _ (grind (arith, tests, yes _ _ _ c.in_ok-ask_journal.ensures, yes _ _ _ c.in_ok-size.ensures, b))
    (size_bodies _ _ _ _ c.in_ok-size.ensures) c.put_range.ensures
