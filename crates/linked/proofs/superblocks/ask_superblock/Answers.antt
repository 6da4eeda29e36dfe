use Rattle.refusal.specs.Refusal.{no}
use Rattle.linked.specs.Superblocks.{ask_superblock}
use Rattle.linked.proofs.superblocks.ask_superblock.Goals as goal

pub returns-in_err-ask : goal.returns-in_err-ask
unfolding ask_superblock
returns-in_err-ask c = no _ _ _ _ _ _ c.in_err-ask.ensures c.from_residual.ensures.1
