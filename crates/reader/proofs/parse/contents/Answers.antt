use native.Mathlib.Omega.{arith}
use Rattle.reader.specs.Range.{contents_is, contents_short}
use Rattle.reader.proofs.parse.contents.Goals as goal

pub returns-then-s-lt-HEAD_SIZE : goal.returns-then-s-lt-HEAD_SIZE
returns-then-s-lt-HEAD_SIZE c = contents_short _ (omega arith)

pub returns-then-s-bodies : goal.returns-then-s-bodies
returns-then-s-bodies c = contents_short _ (omega (arith, c.entry_count-entries.ensures.0))

pub returns : goal.returns
returns c = contents_is _ _ _ _ c.block_count-blocks.ensures.0 c.entry_count-entries.ensures.0 (omega arith) c.total-bytes.ensures.0
