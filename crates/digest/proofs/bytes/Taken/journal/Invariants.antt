use Rattle.std.specs.Prelude.{◌≡◌, ◌*◌, drop}
use Rattle.digest.specs.Take.{takes}
use Rattle.digest.specs.Visible.{journal_bytes}
use Rattle.digest.proofs.bytes.Taken.journal.Given as goal

abbrev pub invariant-loop-i : goal.invariant-loop-i
invariant-loop-i l = takes l.v.number (journal_bytes (drop (l.i * 4096) l.blocks) (drop l.i l.marks)) ≡ takes l.fn.self.number (journal_bytes l.blocks l.marks)
