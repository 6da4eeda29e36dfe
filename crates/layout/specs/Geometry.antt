-- The geometry: document 01's "Location", and the sizes and addresses of source 003.
use Rattle.std.specs.Prelude.{ℕ, ◌+◌, ◌*◌, ◌≤◌, Bool, true, cond, ◌≡◌, leb, eqb}
use Rattle.std.proofs.Common.{arith, leb-true, le-leb}
use Rattle.laws.specs.Choice.{also, ask, also_left, also_right, also_both, ask_yes, ask_holds}
use Rattle.layout.specs.declared.Geometry.{Geometry}

-- a block's bytes, and the most blocks of a journal
abbrev pub block_size : ℕ
block_size = 4096

abbrev pub most_blocks : ℕ
most_blocks = 4096

-- N and T
abbrev pub num_journal_blocks : Geometry → ℕ
num_journal_blocks g = g.blocks

abbrev pub indirection_table_max_length : Geometry → ℕ
indirection_table_max_length g = g.table

-- the addresses
abbrev pub indirection_table1_addr : Geometry → ℕ
indirection_table1_addr g = 2 * block_size + num_journal_blocks g * block_size

abbrev pub indirection_table2_addr : Geometry → ℕ
indirection_table2_addr g = indirection_table1_addr g + indirection_table_max_length g

abbrev pub journal_start_addr : ℕ
journal_start_addr = 2 * block_size

abbrev pub journal_end_addr : Geometry → ℕ
journal_end_addr g = journal_start_addr + num_journal_blocks g * block_size

-- for a point up to N
abbrev pub journal_point : Geometry → ℕ → ℕ
journal_point g point = journal_start_addr + point * block_size

-- the other of the two table addresses
unfoldable pub other_indirection_table_addr : Geometry → ℕ → ℕ
other_indirection_table_addr g addr = cond (eqb addr (indirection_table1_addr g)) (indirection_table2_addr g) (indirection_table1_addr g)

-- question 1, of N and T: as a test, and as facts
unfoldable pub geometry_ok : Geometry → Bool
geometry_ok g =
    also (leb 1 (num_journal_blocks g))
    (also (leb (num_journal_blocks g) most_blocks)
    (also (leb 1 (indirection_table_max_length g))
    (leb (indirection_table_max_length g) 16777216)))

unfoldable pub ask_geometry : Geometry → ℕ
ask_geometry g = ask 1 (geometry_ok g)

pub record ValidGeometry (g : Geometry) : Type 0 where
  pub some_block : 1 ≤ g.blocks
  pub at_most_blocks : g.blocks ≤ most_blocks
  pub some_table : 1 ≤ g.table
  pub most_table : g.table ≤ 16777216

pub geometry_facts : (g : Geometry) → geometry_ok g ≡ true → ValidGeometry g
unfolding geometry_ok
geometry_facts g e =
    let e1 = also_right _ _ e in
    let e2 = also_right _ _ e1 in
    record {
      some_block = leb-true 1 g.blocks (also_left _ _ e);
      at_most_blocks = leb-true g.blocks most_blocks (also_left _ _ e1);
      some_table = leb-true 1 g.table (also_left _ _ e2);
      most_table = leb-true g.table 16777216 (also_right _ _ e2);
    }

pub facts_geometry : (g : Geometry) → ValidGeometry g → geometry_ok g ≡ true
unfolding geometry_ok
facts_geometry g v =
    also_both _ _ (le-leb 1 g.blocks v.some_block)
    (also_both _ _ (le-leb g.blocks most_blocks v.at_most_blocks)
    (also_both _ _ (le-leb 1 g.table v.some_table) (le-leb g.table 16777216 v.most_table)))

-- question 1 was answered yes exactly for a valid geometry
pub geometry_asked : (g : Geometry) → ask_geometry g ≡ 0 → ValidGeometry g
unfolding ask_geometry
geometry_asked g e = geometry_facts g (ask_yes 1 (geometry_ok g) (omega arith) e)

pub asked_geometry : (g : Geometry) → ValidGeometry g → ask_geometry g ≡ 0
unfolding ask_geometry
asked_geometry g v = ask_holds 1 (geometry_ok g) (facts_geometry g v)
