use Rattle.std.proofs.Common.{ℕ, List, ◌∙◌, ap}
use Rattle.range.specs.Form.{all_entries}
use Rattle.reader.specs.Answer.{scanned}
use Rattle.unpacker.specs.Unpack.{ask_unpack}
use Rattle.machine.specs.Laws.Memory.{first_part}
use Rattle.machine.proofs.loading_steps.unpack_blocks.Goals as goal

pub returns-clause-value : goal.returns-clause-value
returns-clause-value c =
    c.unpack.ensures.value
    ∙ ap (λ (xs : List ℕ). scanned (ask_unpack xs c.args.rbytes.now c.args.rlens.now) (all_entries xs)) (first_part _ _ _ c.bytes_of-n.ensures)
