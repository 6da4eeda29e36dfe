-- Pieces and entries, from what was taken of their parts.
use Rattle.std.specs.Prelude.{None, Some}
use Rattle.std.specs.declared.option.Option as code
use Rattle.std.specs.Prelude.{ℕ, ◌-◌, ◌≡◌, List, ◌++◌, length, drop}
use Rattle.std.proofs.Common.{sym, ◌∙◌}
use Rattle.std.proofs.Math.Path.{ap}
use Rattle.std.proofs.Math.ListN.{take}
use Rattle.laws.specs.LowFirst.{each_low}
use Rattle.layout.specs.declared.Geometry.{Geometry}
use Rattle.loading.specs.declared.LoadingOther.{LoadingOther}
use Rattle.loading.specs.Other.{front_blocks, back_blocks}
use Rattle.lengths.specs.Entries.{part, part_is, entries_held, entries_bytes}
use Rattle.range.specs.declared.Count.{Count}
use Rattle.digest.specs.Take.{takes}
use Rattle.digest.specs.Visible.{piece_bytes, loaded_bytes, held_as, held_bytes}
use Rattle.digest.specs.Laws.Takes.{takes_then}

-- the pieces
pub takes_loaded : (h : ℕ) (g : Geometry) (s : LoadingOther) (pieces : List ℕ) (first second : ℕ) {v w : ℕ}
    → first ≡ front_blocks g s.superblock → second ≡ back_blocks g s.superblock
    → v ≡ takes h (piece_bytes s.front pieces 0 first) → w ≡ takes v (piece_bytes s.back pieces first second)
    → w ≡ takes h (loaded_bytes g s pieces)
unfolding loaded_bytes
takes_loaded h g s pieces first second a b p q =
    takes_then h (piece_bytes s.front pieces 0 first) (piece_bytes s.back pieces first second) p q
    ∙ (λ i. takes h (piece_bytes s.front pieces 0 (a i) ++ piece_bytes s.back pieces (a i) (b i)))

-- entries that are held, and that aren't
module _ (h : ℕ) (bytes lens : List ℕ) (taken : Count) (to : ℕ) where
  pub held_yes : (n : ℕ) {v w : ℕ} → Some n ≡ entries_held (length bytes) lens taken.entries to
      → v ≡ takes h (each_low 2 (take (to - taken.entries) (drop taken.entries lens))) → w ≡ takes v (take n (drop taken.bytes bytes))
      → w ≡ takes h (held_bytes bytes lens taken to)
  unfolding held_bytes held_as
  held_yes n e p q =
      let f = (entries_bytes (length bytes) lens taken.entries to n e).0 in
      let l = each_low 2 (take (to - taken.entries) (drop taken.entries lens)) in
      takes_then h l (take n (drop taken.bytes bytes)) p q
      ∙ (λ i. takes h (each_low 2 (sym (part_is taken.entries to lens f.order) i) ++ take n (drop taken.bytes bytes)))
      ∙ ap (λ (a : code.Option ℕ). takes h (held_as a (part taken.entries to lens) (drop taken.bytes bytes))) e

  pub held_no : None ≡ entries_held (length bytes) lens taken.entries to → h ≡ takes h (held_bytes bytes lens taken to)
  unfolding held_bytes held_as takes
  held_no e = ap (λ (a : code.Option ℕ). takes h (held_as a (part taken.entries to lens) (drop taken.bytes bytes))) e
