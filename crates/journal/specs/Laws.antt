-- Laws of the journal in lent memory: where the questions were answered yes, nothing of a copy or a write is cut off.
use Rattle.std.specs.Prelude.{ℕ, ◌+◌, ◌*◌, ◌≤◌, ◌≡◌, List, length, replicate}
use Rattle.std.proofs.Common.{sym, ◌∙◌, ap, arith}
use Rattle.std.proofs.Math.ListN.{length-replicate}
use Rattle.laws.specs.Splice.{splice, clipped, clipped_fits}
use Rattle.laws.specs.Around.{around, length_around, around_straight, splice_around, clipped_around_fits}
use Rattle.layout.specs.declared.Geometry.{Geometry}
use Rattle.interval.specs.declared.JournalInterval.{JournalInterval}
use Rattle.interval.specs.Facts.{ContiguousJournalInterval}
use Rattle.journal.specs.Memory.{slice_bytes, slice_marks, update_bytes, update_marks, copy_blocks}
use Rattle.journal.specs.Asked.{Blocks, SliceBytes, SliceMarks, Update}

-- what an update writes is all that it was given
module _ (g : Geometry) (v : JournalInterval) (new blocks marks : List ℕ) (u : Update g v new blocks marks) where
  pub update_bytes_is : update_bytes blocks v new ≡ splice_around blocks (v.start * 4096) new
  unfolding update_bytes
  update_bytes_is = clipped_around_fits blocks (v.start * 4096) new (omega arith)

  pub update_marks_is : update_marks marks v ≡ splice_around marks v.start (replicate v.len 1)
  unfolding update_marks
  update_marks_is = clipped_around_fits marks v.start (replicate v.len 1) (omega (arith, length-replicate {A = ℕ} v.len 1))

-- a slice that is copied to the front has room there
pub copied_bytes : (g : Geometry) (v : JournalInterval) (blocks out : List ℕ) → SliceBytes g v blocks out → clipped out 0 (slice_bytes blocks v) ≡ splice out 0 (slice_bytes blocks v)
unfolding slice_bytes
copied_bytes g v blocks out s =
    let l = length_around blocks (v.start * 4096) (v.len * 4096) (omega arith) (omega arith) in
    clipped_fits out 0 (around blocks (v.start * 4096) (v.len * 4096)) (omega (arith, l))

pub copied_marks : (g : Geometry) (v : JournalInterval) (marks out : List ℕ) → SliceMarks g v marks out → clipped out 0 (slice_marks marks v) ≡ splice out 0 (slice_marks marks v)
unfolding slice_marks
copied_marks g v marks out s =
    let l = length_around marks v.start v.len (omega arith) (omega arith) in
    clipped_fits out 0 (around marks v.start v.len) (omega (arith, l))

-- the blocks of a contiguous interval, copied to where there is room for them: they stand there, and the rest is as it was
pub copied_slice : (g : Geometry) (v : JournalInterval) (blocks out : List ℕ) (at : ℕ) → Blocks g blocks → ContiguousJournalInterval g v
    → (at + v.len) * 4096 ≤ length out → copy_blocks blocks v.start v.len out at ≡ splice out (at * 4096) (slice_bytes blocks v)
unfolding copy_blocks slice_bytes
copied_slice g v blocks out at hb f h =
    ap (clipped out (at * 4096)) (sym (around_straight blocks (v.start * 4096) (v.len * 4096) (omega (arith, hb.size, f.end_in))))
    ∙ clipped_fits out (at * 4096) (around blocks (v.start * 4096) (v.len * 4096)) (omega (arith, long))
  where
    long : length (around blocks (v.start * 4096) (v.len * 4096)) ≡ v.len * 4096
    long = length_around blocks (v.start * 4096) (v.len * 4096) (omega (arith, hb.size, f.end_in)) (omega (arith, hb.size, f.end_in))
