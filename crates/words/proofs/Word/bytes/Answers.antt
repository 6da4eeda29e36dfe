use Rattle.words.specs.Line.{bytes_lent}
use Rattle.words.proofs.Word.bytes.Goals as goal

pub returns : goal.returns
returns c = bytes_lent c.args.line.now c.args.self c.get.result c.get.ensures.lookup
