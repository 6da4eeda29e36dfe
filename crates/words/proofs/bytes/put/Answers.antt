use Rattle.std.proofs.Common.{length}
use Rattle.words.specs.Hex.{fits_facts}
use Rattle.words.proofs.bytes.put.Goals as goal

pub write-requires : goal.write-requires
write-requires c = fits_facts c.args.digits.now (length c.args.out.now) c.args.at c.can_write-ok.ensures c.if-ok.true
