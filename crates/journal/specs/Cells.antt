-- The lent blocks and marks as source 002's journal: a list of N blocks, each readable or none. Its slices are the slices of lent bytes
-- and marks, whatever the marks, for every N.
use Rattle.std.specs.Prelude.{ℕ, ◌+◌, ◌*◌, ◌≤◌, ◌<◌, Bool, true, ◌≡◌, List, [], map, length, take, drop}
use Rattle.std.proofs.Math.Bool.{cond}
use Rattle.std.proofs.Common.{sym, ◌∙◌, ext_get_or, get_or-take, get_or-drop}
use Rattle.std.proofs.Math.Path.{ap}
use Rattle.std.proofs.Math.Option.{Option, none, some}
use native.Mathlib.Omega.{arith}
use Rattle.std.proofs.Math.ListN.{get_or}
use Rattle.std.proofs.lemmas.List.{length-map}
use Rattle.laws.specs.Choice.{split_bool}
use Rattle.laws.specs.Fold.{every, every_at, every_same}
use Rattle.laws.specs.Part.{tab, length_tab, get_d_tab, tab_same, get_d_map_in, length_part}
use Rattle.laws.specs.Ring.{wrap, wrap_in, wrap_scaled}
use Rattle.laws.specs.Around.{length_around, get_d_around, around_every}
use Rattle.layout.specs.declared.Geometry.{Geometry}
use Rattle.layout.specs.Geometry.{num_journal_blocks}
use Rattle.interval.specs.declared.JournalInterval.{JournalInterval}
use Rattle.interval.specs.Facts.{ValidJournalInterval}
use Rattle.interval.specs.Journal.{JournalBlock, cyclic_slice, readable, full_range}
use Rattle.interval.proofs.Laws.{slice_around, slice_tab}
use Rattle.journal.specs.Memory.{is_one, slice_bytes, slice_marks, full_marks}
use Rattle.journal.specs.Asked.{Blocks, Marks}

-- block i of bytes, and the first n blocks
abbrev pub block_at : List ℕ → ℕ → JournalBlock
block_at bytes i = take 4096 (drop (i * 4096) bytes)

unfoldable pub blocks_in : ℕ → List ℕ → List JournalBlock
blocks_in n bytes = tab n (block_at bytes)

-- the first n blocks with their marks: a block is there where its mark is 1
abbrev pub cell_at : List ℕ → List ℕ → ℕ → Option JournalBlock
cell_at bytes marks i = cond (is_one (get_or marks i 0)) (some (block_at bytes i)) none

unfoldable pub cells_in : ℕ → List ℕ → List ℕ → List (Option JournalBlock)
cells_in n bytes marks = tab n (cell_at bytes marks)

-- the journal
abbrev pub cells : Geometry → List ℕ → List ℕ → List (Option JournalBlock)
cells g blocks marks = cells_in (num_journal_blocks g) blocks marks

pub length_cells : (n : ℕ) (bytes marks : List ℕ) → length (cells_in n bytes marks) ≡ n
unfolding cells_in
length_cells n bytes marks = length_tab n (cell_at bytes marks)

pub cell_at_is : (n : ℕ) (bytes marks : List ℕ) (i : ℕ) → i < n → get_or (cells_in n bytes marks) i none ≡ cell_at bytes marks i
unfolding cells_in
cell_at_is n bytes marks i h = get_d_tab n (cell_at bytes marks) i none h

-- two blocks are the same where their bytes are
pub same_block : (xs ys : List ℕ) (i j : ℕ) → i * 4096 + 4096 ≤ length xs → j * 4096 + 4096 ≤ length ys
    → ((r : ℕ) → r < 4096 → get_or xs (i * 4096 + r) 0 ≡ get_or ys (j * 4096 + r) 0) → block_at xs i ≡ block_at ys j
same_block xs ys i j h k f =
    ext_get_or 0 (block_at xs i) (block_at ys j) (lx ∙ sym ly)
    (λ r l.
    let lt : r < 4096 = omega (arith, l, lx) in
    get_or-take 4096 (drop (i * 4096) xs) r 0 lt
    ∙ get_or-drop (i * 4096) xs r 0
    ∙ f r lt
    ∙ sym (get_or-take 4096 (drop (j * 4096) ys) r 0 lt ∙ get_or-drop (j * 4096) ys r 0))
  where
    lx : length (block_at xs i) ≡ 4096
    lx = length_part xs (i * 4096) 4096 h

    ly : length (block_at ys j) ≡ 4096
    ly = length_part ys (j * 4096) 4096 k

-- what every byte meets is met by every byte of an interval
pub slice_every : (p : ℕ → Bool) (blocks : List ℕ) (v : JournalInterval) → every p blocks ≡ true → every p (slice_bytes blocks v) ≡ true
unfolding slice_bytes
slice_every p blocks v h = around_every p blocks (v.start * 4096) (v.len * 4096) h

-- every block is readable exactly where every mark is 1, and then the cells are the blocks
readable_is : (bytes marks : List ℕ) (i : ℕ) → readable (cell_at bytes marks i) ≡ is_one (get_or marks i 0)
readable_is bytes marks i =
    split_bool (is_one (get_or marks i 0))
    (λ e. (λ j. readable (cond (e j) (some (block_at bytes i)) none)) ∙ sym e)
    (λ e. (λ j. readable (cond (e j) (some (block_at bytes i)) none)) ∙ sym e)

pub full_is : (n : ℕ) (bytes marks : List ℕ) → length marks ≡ n → full_range (cells_in n bytes marks) ≡ every is_one marks
unfolding full_range
full_is n bytes marks h =
    every_same readable is_one (cells_in n bytes marks) marks none 0 (length_cells n bytes marks ∙ sym h)
    (λ i l. ap readable (cell_at_is n bytes marks i (omega (arith, l, length_cells n bytes marks))) ∙ readable_is bytes marks i)

pub full_cells : (n : ℕ) (bytes marks : List ℕ) → length marks ≡ n → every is_one marks ≡ true → cells_in n bytes marks ≡ map some (blocks_in n bytes)
unfolding cells_in blocks_in
full_cells n bytes marks h e =
    ext_get_or none (tab n (cell_at bytes marks)) (map some (tab n (block_at bytes)))
    (length_tab n (cell_at bytes marks) ∙ sym (length-map (tab n (block_at bytes)) some ∙ length_tab n (block_at bytes)))
    (λ i l.
    let k : i < n = omega (arith, l, length_tab n (cell_at bytes marks)) in
    let one : is_one (get_or marks i 0) ≡ true = every_at is_one marks i 0 e (omega arith) in
    get_d_tab n (cell_at bytes marks) i none k
    ∙ (λ j. cond (one j) (some (block_at bytes i)) none)
    ∙ sym (get_d_map_in some (tab n (block_at bytes)) i [] none (omega (arith, length_tab n (block_at bytes))) ∙ ap some (get_d_tab n (block_at bytes) i [] k)))

-- the slices of a valid interval
module _ (g : Geometry) (v : JournalInterval) (f : ValidJournalInterval g v) where
  -- of marks
  module _ (marks : List ℕ) (hm : length marks ≡ g.blocks) where
    mark_at : (t : ℕ) → t < v.len → get_or (slice_marks marks v) t 0 ≡ get_or marks (wrap g.blocks (v.start + t)) 0
    unfolding slice_marks
    mark_at t h =
        get_d_around marks v.start v.len t 0 (omega arith) (omega arith) h
        ∙ ap (λ (n : ℕ). get_or marks (wrap n (v.start + t)) 0) hm

    pub length_marks : length (slice_marks marks v) ≡ v.len
    unfolding slice_marks
    length_marks = length_around marks v.start v.len (omega arith) (omega arith)

    pub slice_marks_is : cyclic_slice g marks v ≡ slice_marks marks v
    unfolding slice_marks
    slice_marks_is = slice_around g marks hm v f

  -- of bytes
  module _ (blocks : List ℕ) (hb : length blocks ≡ g.blocks * 4096) where
    pub length_bytes : length (slice_bytes blocks v) ≡ v.len * 4096
    unfolding slice_bytes
    length_bytes = length_around blocks (v.start * 4096) (v.len * 4096) (omega arith) (omega arith)

    byte_at : (t r : ℕ) → t < v.len → r < 4096 → get_or (slice_bytes blocks v) (t * 4096 + r) 0 ≡ get_or blocks (wrap g.blocks (v.start + t) * 4096 + r) 0
    unfolding slice_bytes
    byte_at t r h l =
        let e : v.start * 4096 + (t * 4096 + r) ≡ (v.start + t) * 4096 + r = omega arith in
        get_d_around blocks (v.start * 4096) (v.len * 4096) (t * 4096 + r) 0 (omega arith) (omega arith) (omega arith)
        ∙ (λ j. get_or blocks (wrap (hb j) (e j)) 0)
        ∙ ap (λ (w : ℕ). get_or blocks w 0) (wrap_scaled g.blocks (v.start + t) r l)

    block_at_is : (t : ℕ) → t < v.len → block_at blocks (wrap g.blocks (v.start + t)) ≡ block_at (slice_bytes blocks v) t
    block_at_is t h =
        let w : wrap g.blocks (v.start + t) < g.blocks = wrap_in g.blocks (v.start + t) (omega arith) in
        same_block blocks (slice_bytes blocks v) (wrap g.blocks (v.start + t)) t (omega arith) (omega (arith, length_bytes)) (λ r k. sym (byte_at t r h k))

    pub slice_blocks : cyclic_slice g (blocks_in g.blocks blocks) v ≡ blocks_in v.len (slice_bytes blocks v)
    unfolding blocks_in
    slice_blocks =
        slice_tab g (block_at blocks) v f
        ∙ tab_same v.len (λ t. block_at blocks (wrap g.blocks (v.start + t))) (block_at (slice_bytes blocks v)) block_at_is

    -- of both: whatever the marks
    module _ (marks : List ℕ) (hm : length marks ≡ g.blocks) where
      pub slice_cells : cyclic_slice g (cells g blocks marks) v ≡ cells_in v.len (slice_bytes blocks v) (slice_marks marks v)
      unfolding cells_in
      slice_cells =
          slice_tab g (cell_at blocks marks) v f
          ∙ tab_same v.len (λ t. cell_at blocks marks (wrap g.blocks (v.start + t))) (cell_at (slice_bytes blocks v) (slice_marks marks v))
          (λ t h j. cond (is_one (sym (mark_at marks hm t h) j)) (some (block_at_is t h j)) none)

      -- a full range of lent marks is the source's, and then its slice is the blocks
      pub full_marks_is : full_range (cyclic_slice g (cells g blocks marks) v) ≡ full_marks marks v
      unfolding full_marks
      full_marks_is = ap full_range slice_cells ∙ full_is v.len (slice_bytes blocks v) (slice_marks marks v) (length_marks marks hm)

      pub slice_full : full_marks marks v ≡ true → cyclic_slice g (cells g blocks marks) v ≡ map some (blocks_in v.len (slice_bytes blocks v))
      unfolding full_marks
      slice_full e = slice_cells ∙ full_cells v.len (slice_bytes blocks v) (slice_marks marks v) (length_marks marks hm) e
