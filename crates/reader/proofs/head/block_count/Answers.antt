use native.Mathlib.Omega.{arith}
use Rattle.laws.specs.Bytes.{bytes_all}
use Rattle.range.specs.Form.{block_count}
use Rattle.range.specs.Lengths.{block_count_small}
use Rattle.reader.proofs.head.block_count.Goals as goal

pub returns : goal.returns
unfolding block_count
returns c =
    let s = c in
    let xs = c.args.s.now in
    (c.number_at.ensures, rw c.number_at.ensures (block_count_small xs (bytes_all xs (λ k h. omega (arith, c.shared_slice_known-1.given k)))))
