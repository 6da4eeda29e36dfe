-- Bytes as blocks: how many and how large they are, at the front of a longer memory, and blocks as the bytes that they are made of.
use Rattle.std.specs.Prelude.{ℕ, ◌+◌, ◌*◌, ◌≤◌, ◌<◌, min, ◌≡◌, List, [], length, take, drop, get_or, replicate}
use Rattle.std.proofs.Common.{sym, ◌∙◌, ap, append-nil, zero-add, arith, ext_get_or}
use Rattle.std.proofs.Math.Option.{none, some}
use Rattle.std.proofs.lemmas.List.{length-replicate, get_or-replicate}
use Rattle.std.proofs.Math.ListN.{get_or-eq_default}
use Rattle.laws.specs.Choice.{split_le, cond_some}
use Rattle.laws.specs.Sets.{none_some}
use Rattle.laws.specs.Fold.{sum, sum_replicate}
use Rattle.laws.specs.Cut.{cut, flat, lengths, length_lengths, length_flat, cut_flat, cut_at, cut_even, flat_even}
use Rattle.laws.specs.Part.{length_tab, get_d_tab, tab_same, length_part, take_replicate}
use Rattle.laws.specs.Splice.{splice, length_splice, get_d_splice_here}
use Rattle.interval.specs.Journal.{JournalBlock}
use Rattle.journal.specs.Memory.{is_one}
use Rattle.journal.specs.Cells.{block_at, blocks_in, cell_at, cells_in, length_cells, cell_at_is, same_block}

pub length_blocks : (n : ℕ) (bytes : List ℕ) → length (blocks_in n bytes) ≡ n
unfolding blocks_in
length_blocks n bytes = length_tab n (block_at bytes)

pub block_in : (n : ℕ) (bytes : List ℕ) (i : ℕ) → i < n → get_or (blocks_in n bytes) i [] ≡ block_at bytes i
unfolding blocks_in
block_in n bytes i h = get_d_tab n (block_at bytes) i [] h

-- blocks joined again are their bytes
pub flat_blocks : (n : ℕ) (bytes : List ℕ) → length bytes ≡ n * 4096 → flat (blocks_in n bytes) ≡ bytes
unfolding blocks_in
flat_blocks n bytes h = ap flat (sym (cut_even n 4096 bytes)) ∙ flat_even n 4096 bytes h

-- a readable block has 4,096 bytes
pub cell_size : (n : ℕ) (bytes marks : List ℕ) → length bytes ≡ n * 4096 → (i : ℕ) (b : JournalBlock) → get_or (cells_in n bytes marks) i none ≡ some b → length b ≡ 4096
cell_size n bytes marks h i b e =
    split_le n i
    (λ l. none_some (get_or-eq_default (cells_in n bytes marks) none (omega (arith, l, length_cells n bytes marks))) e)
    (λ l.
    let k : cell_at bytes marks i ≡ some b = sym (cell_at_is n bytes marks i l) ∙ e in
    ap length (sym (cond_some (is_one (get_or marks i 0)) (block_at bytes i) b k).1) ∙ length_part bytes (i * 4096) 4096 (omega arith))

-- blocks copied to the front are the blocks there
pub blocks_front : (n : ℕ) (bytes out : List ℕ) → length bytes ≡ n * 4096 → n * 4096 ≤ length out → blocks_in n (splice out 0 bytes) ≡ blocks_in n bytes
unfolding blocks_in
blocks_front n bytes out h l =
    tab_same n (block_at (splice out 0 bytes)) (block_at bytes)
    (λ i k.
    same_block (splice out 0 bytes) bytes i i (omega (arith, long)) (omega arith)
    (λ r m.
    ap (λ (j : ℕ). get_or (splice out 0 bytes) j 0) (sym (zero-add (i * 4096 + r)))
    ∙ get_d_splice_here out 0 bytes (i * 4096 + r) 0 (omega arith) (omega arith)))
  where
    long : length (splice out 0 bytes) ≡ length out
    long = length_splice out 0 bytes (omega arith)

-- blocks of their size are the blocks of their bytes
module _ (n : ℕ) (jr : List JournalBlock) (h : lengths jr ≡ replicate n 4096) where
  count : length jr ≡ n
  count = sym (length_lengths jr) ∙ ap length h ∙ length-replicate n 4096

  pub flat_size : length (flat jr) ≡ n * 4096
  flat_size = length_flat jr ∙ ap sum h ∙ sum_replicate n 4096

  before : (i : ℕ) → i < n → sum (take i (lengths jr)) ≡ i * 4096
  before i l =
      let e : min i n ≡ i = omega arith in
      ap (λ (ns : List ℕ). sum (take i ns)) h ∙ ap sum (take_replicate i n 4096) ∙ sum_replicate (min i n) 4096 ∙ ap (λ (k : ℕ). k * 4096) e

  pub blocks_flat : blocks_in n (flat jr) ≡ jr
  blocks_flat =
      ext_get_or [] (blocks_in n (flat jr)) jr (length_blocks n (flat jr) ∙ sym count)
      (λ i l.
      let k : i < n = omega (arith, l, length_blocks n (flat jr)) in
      let size : get_or (lengths jr) i 0 ≡ 4096 = ap (λ (ns : List ℕ). get_or ns i 0) h ∙ get_or-replicate n i 4096 0 k in
      block_in n (flat jr) i k
      ∙ sym
      (cut_at (lengths jr) (flat jr) i (omega (arith, k, count, length_lengths jr))
      ∙ (λ j. take (size j) (drop (before i k j) (flat jr))))
      ∙ ap (λ (bs : List ℕ). get_or (cut (lengths jr) bs) i []) (sym (append-nil (flat jr)))
      ∙ ap (λ (l : List JournalBlock). get_or l i []) (cut_flat jr []))
