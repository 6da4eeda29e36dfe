use mathlib.Core.Path.{sym, ◌∙◌, ap}
use native.Mathlib.Omega.{arith}
use Rattle.std.specs.Prelude.{Ok}
use Rattle.laws.specs.Choice.{ask}
use Rattle.refusal.specs.Refusal.{unless_ok}
use Rattle.writer.specs.Entries.{ask_entries, unheld, asked_entries, held_fits, held_size}
use Rattle.writer.proofs.size.size_of_range.Goals as goal

pub returns-in_default : goal.returns-in_default
unfolding ask_entries ask
returns-in_default c = search (unheld _ _ _ (sym c.in_default.is ∙ c.entries_held.ensures))

pub returns : goal.returns
returns c =
    let h = sym c.in-Some.is ∙ c.entries_held.ensures in
    ap Ok (held_size _ _ _ _ _ (omega arith) (omega arith) h c.blocks_of-blocks.ensures)
    ∙ sym (unless_ok _ _ (asked_entries _ _ _ (held_fits _ _ _ _ _ (omega arith) (omega arith) h c.blocks_of-blocks.ensures)))
