-- An update of lent memory is source 002's, for every N: the journal that the written bytes and marks show is the source's updated one.
use Prim.Native.Nat.{ℕ, ◌+◌, ◌*◌, ◌≤◌, ◌<◌}
use Rattle.std.proofs.Math.Bool.{cond}
use Rattle.std.specs.Prelude.{◌≡◌, ltb, eqb, length, replicate}
use Rattle.std.proofs.Math.Path.{sym}
use Rattle.std.proofs.Common.{◌∙◌, ap, subst, lt-ltb, le-ltb, ext_get_or}
use mathlib.Core.List.{List, []}
use Rattle.std.proofs.Math.Option.{Option, none, some}
use native.Mathlib.Omega.{arith}
use Rattle.std.proofs.Math.ListN.{get_or}
use Rattle.std.proofs.lemmas.List.{length-replicate, get_or-replicate}
use Rattle.laws.specs.Choice.{split_le}
use Rattle.laws.specs.Part.{length_tab, get_d_tab}
use Rattle.laws.specs.Ring.{off, off_scaled}
use Rattle.laws.specs.Around.{splice_around, length_splice_around, get_d_splice_around}
use Rattle.layout.specs.declared.Geometry.{Geometry}
use Rattle.interval.specs.declared.JournalInterval.{JournalInterval}
use Rattle.interval.specs.Journal.{JournalBlock, JournalUpdate}
use Rattle.interval.proofs.Laws.{splice_value_off}
use Rattle.interval.proofs.Update.{updated, updated_at, length_updated, updated_is}
use Rattle.journal.specs.Memory.{is_one, update_bytes, update_marks, ask_update}
use Rattle.journal.specs.Asked.{Update, update_asked}
use Rattle.journal.specs.Laws.{update_bytes_is, update_marks_is}
use Rattle.journal.specs.Cells.{block_at, blocks_in, cell_at, cells, length_cells, cell_at_is, same_block}

-- an update of lent memory is the source's
module _ (g : Geometry) (v : JournalInterval) (new blocks marks : List ℕ) (u : Update g v new blocks marks) where
  size : length blocks ≡ g.blocks * 4096
  size = u.blocks_size.size

  ones : length (replicate {A = ℕ} v.len 1) ≡ v.len
  ones = length-replicate v.len 1

  -- the mark and the bytes of block i
  mark_after : (i : ℕ) → i < g.blocks
      → get_or (update_marks marks v) i 0 ≡ cond (ltb (off g.blocks v.start i) v.len) (get_or (replicate v.len 1) (off g.blocks v.start i) 0) (get_or marks i 0)
  mark_after i h =
      ap (λ (l : List ℕ). get_or l i 0) (update_marks_is g v new blocks marks u)
      ∙ get_d_splice_around marks v.start (replicate v.len 1) i 0 (omega arith) (omega (arith, ones)) (omega arith)
      ∙ (λ j.
      cond (ltb (off (u.marks_size.size j) v.start i) (ones j)) (get_or (replicate v.len 1) (off (u.marks_size.size j) v.start i) 0) (get_or marks i 0))

  byte_after : (i r : ℕ) → i < g.blocks → r < 4096
      → get_or (update_bytes blocks v new) (i * 4096 + r) 0
      ≡ cond (ltb (off g.blocks v.start i * 4096 + r) (v.len * 4096)) (get_or new (off g.blocks v.start i * 4096 + r) 0) (get_or blocks (i * 4096 + r) 0)
  byte_after i r h l =
      ap (λ (x : List ℕ). get_or x (i * 4096 + r) 0) (update_bytes_is g v new blocks marks u)
      ∙ get_d_splice_around blocks (v.start * 4096) new (i * 4096 + r) 0 (omega (arith, size)) (omega (arith, size)) (omega (arith, size))
      ∙ (λ j.
      cond (ltb (off (size j) (v.start * 4096) (i * 4096 + r)) (u.new_size j)) (get_or new (off (size j) (v.start * 4096) (i * 4096 + r)) 0) (get_or blocks (i * 4096 + r) 0))
      ∙ ap (λ (o : ℕ). cond (ltb o (v.len * 4096)) (get_or new o 0) (get_or blocks (i * 4096 + r) 0))
      (off_scaled g.blocks v.start i r u.valid.start_in h l)

  length_after : length (update_bytes blocks v new) ≡ g.blocks * 4096
  length_after =
      ap length (update_bytes_is g v new blocks marks u) ∙ length_splice_around blocks (v.start * 4096) new (omega (arith, size)) (omega (arith, size)) ∙ size

  in_blocks : (i : ℕ) → i < v.len → get_or (blocks_in v.len new) i [] ≡ block_at new i
  unfolding blocks_in
  in_blocks i h = get_d_tab v.len (block_at new) i [] h

  cell_after : (i : ℕ) → i < g.blocks
      → cell_at (update_bytes blocks v new) (update_marks marks v) i
      ≡ cond (ltb (off g.blocks v.start i) v.len) (some (get_or (blocks_in v.len new) (off g.blocks v.start i) [])) (cell_at blocks marks i)
  unfolding is_one
  cell_after i h =
      split_le v.len o
      (λ l.
      let m : get_or (update_marks marks v) i 0 ≡ get_or marks i 0 = mark_after i h ∙ simp (le-ltb o v.len l) in
      let b : block_at (update_bytes blocks v new) i ≡ block_at blocks i =
      same_block (update_bytes blocks v new) blocks i i (omega (arith, length_after)) (omega (arith, size))
      (λ r k. let n : v.len * 4096 ≤ o * 4096 + r = omega arith in byte_after i r h k ∙ simp (le-ltb (o * 4096 + r) (v.len * 4096) n))
      in
      (λ j. cond (eqb (m j) 1) (some (b j)) none) ∙ sym (simp (le-ltb o v.len l)))
      (λ l.
      let m : get_or (update_marks marks v) i 0 ≡ 1 = mark_after i h ∙ simp (lt-ltb o v.len l) (get_or-replicate v.len o 1 0 l) in
      let b : block_at (update_bytes blocks v new) i ≡ get_or (blocks_in v.len new) o [] =
      same_block (update_bytes blocks v new) new i o (omega (arith, length_after)) (omega (arith, u.new_size))
      (λ r k. let n : o * 4096 + r < v.len * 4096 = omega arith in byte_after i r h k ∙ simp (lt-ltb (o * 4096 + r) (v.len * 4096) n))
      ∙ sym (in_blocks o l)
      in
      (λ j. cond (eqb (m j) 1) (some (b j)) none) ∙ sym (simp (lt-ltb o v.len l)))
    where
      o : ℕ
      o = off g.blocks v.start i

  long : v.len ≡ length (blocks_in v.len new)
  unfolding blocks_in
  long = sym (length_tab v.len (block_at new))

  pub cells_update : cells g (update_bytes blocks v new) (update_marks marks v) ≡ updated (cells g blocks marks) v (blocks_in v.len new)
  cells_update =
      ext_get_or none after (updated (cells g blocks marks) v (blocks_in v.len new)) (la ∙ sym (length_updated g (cells g blocks marks) v (blocks_in v.len new) lb u.valid long))
      (λ i l.
      let h : i < g.blocks = omega (arith, l, la) in
      cell_at_is g.blocks (update_bytes blocks v new) (update_marks marks v) i h
      ∙ cell_after i h
      ∙ ap (cond (ltb (off g.blocks v.start i) v.len) (some (get_or (blocks_in v.len new) (off g.blocks v.start i) []))) (sym (cell_at_is g.blocks blocks marks i h))
      ∙ sym (splice_value_off g v u.valid i h (cells g blocks marks) (blocks_in v.len new))
      ∙ sym (updated_at g (cells g blocks marks) v (blocks_in v.len new) lb u.valid long i (omega (arith, lb, h))))
    where
      after : List (Option JournalBlock)
      after = cells g (update_bytes blocks v new) (update_marks marks v)

      la : length after ≡ g.blocks
      la = length_cells g.blocks (update_bytes blocks v new) (update_marks marks v)

      lb : length (cells g blocks marks) ≡ g.blocks
      lb = length_cells g.blocks blocks marks

  pub update_cells : JournalUpdate g (cells g blocks marks) (cells g (update_bytes blocks v new) (update_marks marks v)) v (blocks_in v.len new)
  update_cells =
      subst (λ (j : List (Option JournalBlock)). JournalUpdate g (cells g blocks marks) j v (blocks_in v.len new)) (sym cells_update)
      (updated_is g (cells g blocks marks) v (blocks_in v.len new) (length_cells g.blocks blocks marks) u.valid long)

-- so an update that is accepted is one that the source allows
pub update_done : (g : Geometry) (v : JournalInterval) (new blocks marks : List ℕ) → ask_update g v new blocks marks ≡ 0
    → JournalUpdate g (cells g blocks marks) (cells g (update_bytes blocks v new) (update_marks marks v)) v (blocks_in v.len new)
update_done g v new blocks marks e = update_cells g v new blocks marks (update_asked g v new blocks marks e)
