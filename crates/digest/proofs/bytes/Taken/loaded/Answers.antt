use Rattle.interval.specs.declared.JournalInterval.{JournalInterval}
use Rattle.std.specs.declared.option.Option as code
use mathlib.Core.Path.{◌∙◌, ap}
use Rattle.digest.specs.Laws.Parts.{takes_loaded}
use Rattle.loading.specs.Other.{front_blocks, back_blocks}
use Rattle.loading.specs.Pieces.{blocks_of}
use Rattle.digest.proofs.bytes.Taken.loaded.Goals as goal

pub returns : goal.returns
unfolding front_blocks back_blocks
returns c =
    let first = c.blocks_of-first.ensures ∙ ap (λ (x : code.Option JournalInterval). blocks_of x) c.front.ensures in
    let second = c.blocks_of-second.ensures ∙ ap (λ (x : code.Option JournalInterval). blocks_of x) c.back.ensures in
    takes_loaded _ _ c.args.other _ _ _ first second c.piece-a.ensures c.piece.ensures
