use Rattle.sector.specs.Sector.{superblock_of}
use Rattle.sector.proofs.read.superblock_of.Goals as goal

pub returns : goal.returns
unfolding superblock_of
returns c =
    let d = c in
    let e = c in
    let f = c in
    let g = c in
    λ i.
    record {
      counter = c.number_or_zero-counter.ensures i;
      journalStart = c.number_or_zero-start.ensures i;
      journalLen = c.number_or_zero-len.ensures i;
      indirectionTableLoc = record { addr = c.number_or_zero.ensures i; len = c.number_or_zero-2.ensures i };
    }
