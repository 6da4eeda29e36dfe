use Rattle.std.proofs.Common.{arith, refl, length-set}
use Rattle.laws.specs.Fold.{every_at}
use Rattle.laws.specs.Splice.{splice_none}
use Rattle.words.specs.Hex.{is_hex, bytes_turn, bytes_end}
use Rattle.words.proofs.bytes.write.Goals as goal

pub loop-j-init : goal.loop-j-init
loop-j-init c = (refl, splice_none _ _)

pub byte-requires : goal.byte-requires
byte-requires c =
    (every_at is_hex c.args.digits.now _ 0 c.requires.digits (omega arith), every_at is_hex c.args.digits.now _ 0 c.requires.digits (omega arith))

pub loop-j-preserved : goal.loop-j-preserved
loop-j-preserved c =
    let a = c.args in (
      simp length-set (omega arith),
      bytes_turn _ a.out.now a.digits.now a.at c.loop-j.j c.loop-j.invariant.1 _ c.byte.ensures (omega arith) (omega arith),
    )

pub returns : goal.returns
returns c =
    let a = c.args in
    bytes_end _ a.out.now a.digits.now a.at c.loop-j.j c.loop-j.invariant.1 (omega arith)
