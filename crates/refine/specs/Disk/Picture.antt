-- Any picture of N blocks (`Picture`) is what some lent blocks and marks show: so a crash of the source, whatever its picture, is a call.
use Rattle.std.specs.Prelude.{ℕ, suc, ◌<◌, true, cond, ◌≡◌, length, replicate}
use Rattle.std.proofs.Math.Path.{refl, sym, ap}
use Rattle.std.proofs.Common.{◌∙◌, arith, ext_get_or}
use mathlib.Core.List.{List, [], ◌∷◌, map}
use Rattle.std.proofs.Math.Option.{Option, none, some}
use Rattle.std.proofs.Math.ListN.{get_or}
use Rattle.std.proofs.lemmas.List.{length-map, length-replicate}
use Rattle.laws.specs.Choice.{also_both}
use Rattle.laws.specs.Fold.{every}
use Rattle.laws.specs.Cut.{flat, lengths}
use Rattle.laws.specs.Part.{get_d_tab, get_d_map_in}
use Rattle.layout.specs.declared.Geometry.{Geometry}
use Rattle.layout.specs.Geometry.{ValidGeometry}
use Rattle.interval.specs.Journal.{JournalBlock}
use Rattle.journal.specs.Memory.{is_mark, is_one, ask_journal}
use Rattle.journal.specs.Asked.{journal_blocks, journal_marks}
use Rattle.journal.specs.Cells.{block_at, blocks_in, cells, length_cells, cell_at_is}
use Rattle.journal.specs.Blocks.{flat_size, blocks_flat}
use Rattle.codec.specs.Codec.{Sized}
use Rattle.source.specs.Within.{Picture}
use Rattle.refine.specs.Disk.View.{Lent}

-- lent blocks and marks that pass question 1
pub journal_lent : (g : Geometry) (blocks marks : List ℕ) → ask_journal g blocks marks ≡ 0 → Lent g blocks marks
journal_lent g blocks marks e = record { blocks_right = journal_blocks g blocks marks e; marks_right = journal_marks g blocks marks e }

-- the bytes and the mark of a block; one that is not readable is zeros
abbrev pub bytes_in : Option JournalBlock → JournalBlock
bytes_in (some b) = b
bytes_in none = replicate 4096 0

abbrev pub mark_in : Option JournalBlock → ℕ
mark_in (some b) = 1
mark_in none = 0

-- and of a picture
abbrev pub picture_bytes : List (Option JournalBlock) → List ℕ
picture_bytes picture = flat (map bytes_in picture)

abbrev pub picture_marks : List (Option JournalBlock) → List ℕ
picture_marks picture = map mark_in picture

-- blocks of their size, and marks of 0 or 1
sizes : (picture : List (Option JournalBlock)) → Sized picture → lengths (map bytes_in picture) ≡ replicate (length picture) 4096
unfolding lengths
sizes [] s = refl
sizes (x ∷ xs) s = λ i. size x (λ b e. s 0 b e) i ∷ sizes xs (λ k b e. s (suc k) b e) i
  where
    size : (x : Option JournalBlock) → ((b : JournalBlock) → x ≡ some b → length b ≡ 4096) → length (bytes_in x) ≡ 4096
    size (some b) f = f b refl
    size none f = length-replicate {A = ℕ} 4096 0

marks_each : (picture : List (Option JournalBlock)) → every is_mark (picture_marks picture) ≡ true
unfolding every is_mark
marks_each [] = refl
marks_each (x ∷ xs) = also_both (is_mark (mark_in x)) (every is_mark (map mark_in xs)) (mark x) (marks_each xs)
  where
    mark : (x : Option JournalBlock) → is_mark (mark_in x) ≡ true
    mark (some b) = refl
    mark none = refl

module _ (g : Geometry) (picture : List (Option JournalBlock)) (h : Picture g picture) where
  blocks_size : lengths (map bytes_in picture) ≡ replicate g.blocks 4096
  blocks_size = sizes picture h.block_size ∙ ap (λ (n : ℕ). replicate n 4096) h.size

  pub picture_lent : ValidGeometry g → Lent g (picture_bytes picture) (picture_marks picture)
  picture_lent v =
      record {
        blocks_right = record { geometry = v; size = flat_size g.blocks (map bytes_in picture) blocks_size };
        marks_right = record { geometry = v; size = length-map picture mark_in ∙ h.size; each = marks_each picture };
      }

  block_is : (i : ℕ) → i < g.blocks → block_at (picture_bytes picture) i ≡ bytes_in (get_or picture i none)
  unfolding blocks_in
  block_is i l =
      sym (get_d_tab g.blocks (block_at (picture_bytes picture)) i [] l)
      ∙ ap (λ (bs : List JournalBlock). get_or bs i []) (blocks_flat g.blocks (map bytes_in picture) blocks_size)
      ∙ get_d_map_in bytes_in picture i none [] (omega (arith, l, h.size))

  cell_is : (x : Option JournalBlock) → cond (is_one (mark_in x)) (some (bytes_in x)) none ≡ x
  unfolding is_one
  cell_is (some b) = refl
  cell_is none = refl

  pub picture_cells : cells g (picture_bytes picture) (picture_marks picture) ≡ picture
  picture_cells =
      ext_get_or none (cells g (picture_bytes picture) (picture_marks picture)) picture (length_cells g.blocks (picture_bytes picture) (picture_marks picture) ∙ sym h.size)
      (λ i l.
      let k : i < g.blocks = omega (arith, l, length_cells g.blocks (picture_bytes picture) (picture_marks picture)) in
      cell_at_is g.blocks (picture_bytes picture) (picture_marks picture) i k
      ∙ (λ j. cond (is_one (get_d_map_in mark_in picture i none 0 (omega (arith, k, h.size)) j)) (some (block_is i k j)) none)
      ∙ cell_is (get_or picture i none))
