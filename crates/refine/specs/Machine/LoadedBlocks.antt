-- Blocks in lent memory: how many bytes they have, one run of blocks behind another, and what a run that is written from a block on leaves of
-- the others.
use Rattle.std.specs.Prelude.{ℕ, ◌+◌, ◌*◌, ◌≤◌, ◌≡◌, List, [], ◌++◌, length, take, drop, replicate}
use Rattle.std.proofs.Common.{sym, ◌∙◌, ap, append-nil, arith, length-drop}
use Rattle.std.proofs.lemmas.List.{replicate-append-replicate}
use Rattle.laws.specs.Fold.{sum, sum_replicate}
use Rattle.laws.specs.Cut.{cut, flat, lengths, lengths_cut, flat_cut, cut_flat, cut_append, cut_enough, length_flat}
use Rattle.laws.specs.Splice.{splice, take_splice, drop_splice, part_splice}
use Rattle.layout.specs.declared.Geometry.{Geometry}
use Rattle.superblock.specs.declared.Superblock.{Superblock}
use Rattle.superblock.specs.Laws.{WFSuperblock}
use Rattle.codec.specs.Codec.{JournalRange}
use Rattle.loading.specs.Other.{front_blocks, back_blocks}
use Rattle.loading.specs.Laws.Other.{blocks_add}
use Rattle.refine.specs.Machine.LoadingView.{blocks_in}

-- n blocks are n times 4,096 bytes, each has 4,096, and blocks of that length are those of their bytes
pub flat_blocks : (n : ℕ) (bytes : List ℕ) → flat (blocks_in n bytes) ≡ take (n * 4096) bytes
flat_blocks n bytes = flat_cut (replicate n 4096) bytes ∙ ap (λ (k : ℕ). take k bytes) (sum_replicate n 4096)

pub blocks_sized : (n : ℕ) (bytes : List ℕ) → n * 4096 ≤ length bytes → lengths (blocks_in n bytes) ≡ replicate n 4096
blocks_sized n bytes h = lengths_cut (replicate n 4096) bytes (omega (arith, h, sum_replicate n 4096))

pub sized_flat : (n : ℕ) (jr : JournalRange) → lengths jr ≡ replicate n 4096 → length (flat jr) ≡ n * 4096
sized_flat n jr e = length_flat jr ∙ ap sum e ∙ sum_replicate n 4096

pub sized_blocks : (n : ℕ) (jr : JournalRange) → lengths jr ≡ replicate n 4096 → blocks_in n (flat jr) ≡ jr
sized_blocks n jr e = (λ i. cut (sym e i) (sym (append-nil (flat jr)) i)) ∙ cut_flat jr []

-- one run behind another
pub blocks_append : (n m : ℕ) (bytes : List ℕ) → blocks_in n bytes ++ blocks_in m (drop (n * 4096) bytes) ≡ blocks_in (n + m) bytes
blocks_append n m bytes =
    ap (λ (k : ℕ). blocks_in n bytes ++ blocks_in m (drop k bytes)) (sym (sum_replicate n 4096))
    ∙ sym (cut_append (replicate n 4096) (replicate m 4096) bytes)
    ∙ ap (λ (ns : List ℕ). cut ns bytes) (replicate-append-replicate n m 4096)

-- bytes past the blocks are not looked at
pub blocks_enough : (n k : ℕ) (bytes : List ℕ) → n * 4096 ≤ k → blocks_in n (take k bytes) ≡ blocks_in n bytes
blocks_enough n k bytes h = cut_enough (replicate n 4096) bytes k (omega (arith, h, sum_replicate n 4096))

-- a run of n blocks, written from block a on: the run, what stands before it, and what stands behind it
module _ (pieces : List ℕ) (a n : ℕ) (bytes : List ℕ) (fits : a * 4096 ≤ length pieces) (size : length bytes ≡ n * 4096) where
  pub blocks_here : blocks_in n (drop (a * 4096) (splice pieces (a * 4096) bytes)) ≡ blocks_in n bytes
  blocks_here =
      sym (blocks_enough n (length bytes) (drop (a * 4096) (splice pieces (a * 4096) bytes)) (omega arith))
      ∙ ap (blocks_in n) (part_splice pieces (a * 4096) bytes fits)

  pub blocks_before : blocks_in a (splice pieces (a * 4096) bytes) ≡ blocks_in a pieces
  blocks_before =
      sym (blocks_enough a (a * 4096) (splice pieces (a * 4096) bytes) (omega arith))
      ∙ ap (blocks_in a) (take_splice pieces (a * 4096) bytes fits)
      ∙ blocks_enough a (a * 4096) pieces (omega arith)

  pub blocks_behind : (m : ℕ) → blocks_in m (drop ((a + n) * 4096) (splice pieces (a * 4096) bytes)) ≡ blocks_in m (drop ((a + n) * 4096) pieces)
  blocks_behind m =
      let e : a * 4096 + length bytes ≡ (a + n) * 4096 = omega arith in
      ap (blocks_in m) (ap (λ (k : ℕ). drop k (splice pieces (a * 4096) bytes)) (sym e) ∙ drop_splice pieces (a * 4096) bytes fits ∙ ap (λ (k : ℕ). drop k pieces) e)

-- the pieces of a well-formed superblock lie within memory of N blocks
module _ (g : Geometry) (pieces : List ℕ) (superblock : Superblock) (wf : WFSuperblock g superblock) (size : length pieces ≡ g.blocks * 4096) where
  pub front_room : front_blocks g superblock * 4096 ≤ length pieces
  front_room = let e = blocks_add g superblock wf in let l = wf.len_in in omega arith

  pub back_room : back_blocks g superblock * 4096 ≤ length (drop (front_blocks g superblock * 4096) pieces)
  back_room = let e = blocks_add g superblock wf in let l = wf.len_in in simp length-drop (omega arith)
