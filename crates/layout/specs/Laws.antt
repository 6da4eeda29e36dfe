-- Laws of source 003: its predicates as records of facts, and what it states as `ensures`.
use Rattle.std.specs.Prelude.{ℕ, ◌+◌, ◌-◌, ◌*◌, ◌/◌, ◌%◌, ◌≤◌, ◌<◌, true, ◌≡◌, refl, ◌⊎◌}
use Rattle.std.proofs.Common.{ap, inl, inr, ⊎_elim, arith, leb-true, le-leb, ltb-true, lt-ltb, eqb-true, eq-eqb}
use Rattle.laws.specs.Choice.{also_left, also_right, also_both, either_left, either_right, either_cases, ask_yes, ask_holds, and_then_left, and_then_right, and_then_both}
use Rattle.laws.specs.Ring.{wrap}
use Rattle.layout.specs.declared.Geometry.{Geometry}
use Rattle.layout.specs.declared.Location.{Location}
use Rattle.layout.specs.Geometry.{indirection_table1_addr, indirection_table2_addr, journal_point, ValidGeometry, geometry_asked, asked_geometry}
use Rattle.layout.specs.Location.{valid_indirection_table_addr, whole_blocks, valid_journal_location, valid_indirection_table_location, same_location, superblock1_location, superblock2_location, valid_superblock1_location, valid_superblock2_location, valid_superblock_location}
use Rattle.layout.specs.Journal.{journal_range_location, journal_pos_add, journal_block_idx, ask_point, ask_range, ask_circular, ask_journal_location}

-- the clauses of `ValidJournalLocation`
pub record ValidJournalLocation (g : Geometry) (loc : Location) : Type 0 where
  pub addr_whole : loc.addr % 4096 ≡ 0
  pub len_whole : loc.len % 4096 ≡ 0
  pub from_start : 2 * 4096 ≤ loc.addr
  pub block_in : (loc.addr - 2 * 4096) / 4096 < g.blocks
  pub end_fits : loc.addr ≤ 18446744073709551615 - loc.len
  pub end_in : loc.addr + loc.len ≤ (2 + g.blocks) * 4096

pub journal_location_facts : (g : Geometry) (loc : Location) → valid_journal_location g loc ≡ true → ValidJournalLocation g loc
unfolding valid_journal_location whole_blocks
journal_location_facts g loc e =
    let e1 = also_left _ _ e in
    let e2 = also_right _ _ e in
    let e3 = also_right _ _ e2 in
    let e4 = also_right _ _ e3 in
    record {
      addr_whole = eqb-true (loc.addr % 4096) 0 (also_left _ _ e1);
      len_whole = eqb-true (loc.len % 4096) 0 (also_right _ _ e1);
      from_start = leb-true (2 * 4096) loc.addr (also_left _ _ e2);
      block_in = ltb-true ((loc.addr - 2 * 4096) / 4096) g.blocks (also_left _ _ e3);
      end_fits = leb-true loc.addr (18446744073709551615 - loc.len) (also_left _ _ e4);
      end_in = leb-true (loc.addr + loc.len) ((2 + g.blocks) * 4096) (also_right _ _ e4);
    }

pub facts_journal_location : (g : Geometry) (loc : Location) → ValidJournalLocation g loc → valid_journal_location g loc ≡ true
unfolding valid_journal_location whole_blocks
facts_journal_location g loc v =
    also_both _ _ (also_both _ _ (eq-eqb (loc.addr % 4096) 0 v.addr_whole) (eq-eqb (loc.len % 4096) 0 v.len_whole))
    (also_both _ _ (le-leb (2 * 4096) loc.addr v.from_start)
    (also_both _ _ (lt-ltb ((loc.addr - 2 * 4096) / 4096) g.blocks v.block_in)
    (also_both _ _ (le-leb loc.addr (18446744073709551615 - loc.len) v.end_fits)
    (le-leb (loc.addr + loc.len) ((2 + g.blocks) * 4096) v.end_in))))

-- the clauses of `ValidIndirectionTableLocation`
pub record ValidIndirectionTableLocation (g : Geometry) (loc : Location) : Type 0 where
  pub addr_valid : (loc.addr ≡ indirection_table1_addr g) ⊎ (loc.addr ≡ indirection_table2_addr g)
  pub len_from : 0 < loc.len
  pub len_to : loc.len ≤ g.table

pub table_location_facts : (g : Geometry) (loc : Location) → valid_indirection_table_location g loc ≡ true → ValidIndirectionTableLocation g loc
unfolding valid_indirection_table_location valid_indirection_table_addr
table_location_facts g loc e =
    let e1 = also_right _ _ e in
    record {
      addr_valid =
          ⊎_elim
          (λ h. inl (eqb-true loc.addr (indirection_table1_addr g) h))
          (λ h. inr (eqb-true loc.addr (indirection_table2_addr g) h))
          (either_cases _ _ (also_left _ _ e));
      len_from = ltb-true 0 loc.len (also_left _ _ e1);
      len_to = leb-true loc.len g.table (also_right _ _ e1);
    }

pub facts_table_location : (g : Geometry) (loc : Location) → ValidIndirectionTableLocation g loc → valid_indirection_table_location g loc ≡ true
unfolding valid_indirection_table_location valid_indirection_table_addr
facts_table_location g loc v =
    also_both _ _
    (⊎_elim
    (λ h. either_left _ _ (eq-eqb loc.addr (indirection_table1_addr g) h))
    (λ h. either_right _ _ (eq-eqb loc.addr (indirection_table2_addr g) h))
    v.addr_valid)
    (also_both _ _ (lt-ltb 0 loc.len v.len_from) (le-leb loc.len g.table v.len_to))

-- a table location is never a journal location
pub table_not_journal : (g : Geometry) (loc : Location) → ValidIndirectionTableLocation g loc → ValidJournalLocation g loc → ⊥
table_not_journal g loc t j = ⊎_elim (λ h. omega arith) (λ h. omega arith) t.addr_valid

-- the two superblock locations are the places that they name, and neither in the journal nor a table
pub same_location_is : (a b : Location) → same_location a b ≡ true → a ≡ b
unfolding same_location
same_location_is a b e =
    λ i. record { addr = eqb-true a.addr b.addr (also_left _ _ e) i; len = eqb-true a.len b.len (also_right _ _ e) i }

pub location_same : (a b : Location) → a ≡ b → same_location a b ≡ true
unfolding same_location
location_same a b e =
    also_both _ _ (eq-eqb a.addr b.addr (ap (λ (l : Location). l.addr) e)) (eq-eqb a.len b.len (ap (λ (l : Location). l.len) e))

-- whatever lies below the journal's start is neither
pub below_not_journal : (g : Geometry) (loc : Location) → loc.addr < 2 * 4096 → ValidJournalLocation g loc → ⊥
below_not_journal g loc h j = omega arith

pub below_not_table : (g : Geometry) (loc : Location) → loc.addr < 2 * 4096 → ValidIndirectionTableLocation g loc → ⊥
below_not_table g loc h t = ⊎_elim (λ (e : loc.addr ≡ indirection_table1_addr g). omega arith) (λ (e : loc.addr ≡ indirection_table2_addr g). omega arith) t.addr_valid

superblock_below : (loc : Location) → valid_superblock_location loc ≡ true → loc.addr < 2 * 4096
unfolding valid_superblock_location
superblock_below loc e =
    ⊎_elim
    (λ h. let k : loc.addr ≡ 0 = ap (λ (l : Location). l.addr) (same_location_is loc superblock1_location h) in omega arith)
    (λ h. let k : loc.addr ≡ 4096 = ap (λ (l : Location). l.addr) (same_location_is loc superblock2_location h) in omega arith)
    (either_cases _ _ e)

pub superblock_not_journal : (g : Geometry) (loc : Location) → valid_superblock_location loc ≡ true → ValidJournalLocation g loc → ⊥
superblock_not_journal g loc e j = below_not_journal g loc (superblock_below loc e) j

pub superblock_not_table : (g : Geometry) (loc : Location) → valid_superblock_location loc ≡ true → ValidIndirectionTableLocation g loc → ⊥
superblock_not_table g loc e t = below_not_table g loc (superblock_below loc e) t

-- a superblock location is the first or the second
pub superblock_cases : (loc : Location) → valid_superblock_location loc ≡ true → (valid_superblock1_location loc ≡ true) ⊎ (valid_superblock2_location loc ≡ true)
unfolding valid_superblock_location valid_superblock1_location valid_superblock2_location
superblock_cases loc e = either_cases _ _ e

pub superblock1_is : (loc : Location) → valid_superblock1_location loc ≡ true → valid_superblock_location loc ≡ true
unfolding valid_superblock_location valid_superblock1_location
superblock1_is loc e = either_left _ _ e

pub superblock2_is : (loc : Location) → valid_superblock2_location loc ≡ true → valid_superblock_location loc ≡ true
unfolding valid_superblock_location valid_superblock2_location
superblock2_is loc e = either_right _ _ e

-- what source 003 ensures of its two locations and of the two tests: no table, and not in the journal
module _ (g : Geometry) where
  pub superblock1_location_not_table : ValidIndirectionTableLocation g superblock1_location → ⊥
  superblock1_location_not_table t = below_not_table g superblock1_location (omega arith) t

  pub superblock1_location_not_journal : ValidJournalLocation g superblock1_location → ⊥
  superblock1_location_not_journal j = below_not_journal g superblock1_location (omega arith) j

  pub superblock2_location_not_table : ValidIndirectionTableLocation g superblock2_location → ⊥
  superblock2_location_not_table t = below_not_table g superblock2_location (omega arith) t

  pub superblock2_location_not_journal : ValidJournalLocation g superblock2_location → ⊥
  superblock2_location_not_journal j = below_not_journal g superblock2_location (omega arith) j

  pub superblock1_not_journal : (loc : Location) → valid_superblock1_location loc ≡ true → ValidJournalLocation g loc → ⊥
  superblock1_not_journal loc e j = superblock_not_journal g loc (superblock1_is loc e) j

  pub superblock1_not_table : (loc : Location) → valid_superblock1_location loc ≡ true → ValidIndirectionTableLocation g loc → ⊥
  superblock1_not_table loc e t = superblock_not_table g loc (superblock1_is loc e) t

  pub superblock2_not_journal : (loc : Location) → valid_superblock2_location loc ≡ true → ValidJournalLocation g loc → ⊥
  superblock2_not_journal loc e j = superblock_not_journal g loc (superblock2_is loc e) j

  pub superblock2_not_table : (loc : Location) → valid_superblock2_location loc ≡ true → ValidIndirectionTableLocation g loc → ⊥
  superblock2_not_table loc e t = superblock_not_table g loc (superblock2_is loc e) t

-- the location of a range is valid
pub range_location_valid : (g : Geometry) → ValidGeometry g → (start len : ℕ) → start < g.blocks → start + len ≤ g.blocks → ValidJournalLocation g (journal_range_location g start len)
range_location_valid g v start len h k = omega arith

-- the block index of a journal location is in range, and points back to it
pub block_idx_in : (g : Geometry) (loc : Location) → ValidJournalLocation g loc → journal_block_idx loc < g.blocks
block_idx_in g loc v = v.block_in

pub block_idx_points : (g : Geometry) (loc : Location) → ValidJournalLocation g loc → loc.addr ≡ journal_point g (journal_block_idx loc)
block_idx_points g loc v = omega arith

-- a position moved on is the ring's
pub pos_add_wrap : (g : Geometry) (start span : ℕ) → journal_pos_add g start span ≡ wrap g.blocks (start + span)
unfolding journal_pos_add wrap
pos_add_wrap g start span = refl

-- what a yes to questions 1 and 4 tells
pub record Circular (g : Geometry) (start len : ℕ) : Type 0 where
  pub geometry : ValidGeometry g
  pub start_in : start < g.blocks
  pub len_in : len ≤ g.blocks

pub circular_asked : (g : Geometry) (start len : ℕ) → ask_circular g start len ≡ 0 → Circular g start len
unfolding ask_circular
circular_asked g start len e =
    let t = ask_yes 4 _ (omega arith) (and_then_right _ _ e) in
    record {
      geometry = geometry_asked g (and_then_left _ _ e);
      start_in = ltb-true start g.blocks (also_left _ _ t);
      len_in = leb-true len g.blocks (also_right _ _ t);
    }

pub asked_circular : (g : Geometry) (start len : ℕ) → Circular g start len → ask_circular g start len ≡ 0
unfolding ask_circular
asked_circular g start len v =
    and_then_both _ _ (asked_geometry g v.geometry)
    (ask_holds 4 _ (also_both _ _ (lt-ltb start g.blocks v.start_in) (le-leb len g.blocks v.len_in)))

pub record Straight (g : Geometry) (start len : ℕ) : Type 0 where
  pub geometry : ValidGeometry g
  pub start_in : start < g.blocks
  pub end_in : len ≤ g.blocks - start

pub range_asked : (g : Geometry) (start len : ℕ) → ask_range g start len ≡ 0 → Straight g start len
unfolding ask_range
range_asked g start len e =
    let t = ask_yes 4 _ (omega arith) (and_then_right _ _ e) in
    record {
      geometry = geometry_asked g (and_then_left _ _ e);
      start_in = ltb-true start g.blocks (also_left _ _ t);
      end_in = leb-true len (g.blocks - start) (also_right _ _ t);
    }

pub record Point (g : Geometry) (point : ℕ) : Type 0 where
  pub geometry : ValidGeometry g
  pub point_in : point ≤ g.blocks

pub point_asked : (g : Geometry) (point : ℕ) → ask_point g point ≡ 0 → Point g point
unfolding ask_point
point_asked g point e =
    record {
      geometry = geometry_asked g (and_then_left _ _ e);
      point_in = leb-true point g.blocks (ask_yes 4 _ (omega arith) (and_then_right _ _ e));
    }

pub journal_location_asked : (g : Geometry) (loc : Location) → ask_journal_location g loc ≡ 0 → ValidJournalLocation g loc
unfolding ask_journal_location
journal_location_asked g loc e = journal_location_facts g loc (ask_yes 4 _ (omega arith) (and_then_right _ _ e))
