-- Locations: the definitions of source 003 over a byte address and a length, in its order. Node locations are left out: their sizes are
-- not given. Each is a test; those that proofs take apart have their clauses as a record of facts in Laws.
use Rattle.std.specs.Prelude.{ℕ, ◌+◌, ◌-◌, ◌*◌, ◌/◌, ◌%◌, Bool, leb, ltb, eqb}
use Rattle.laws.specs.Choice.{also, either}
use Rattle.layout.specs.declared.Geometry.{Geometry}
use Rattle.layout.specs.declared.Location.{Location}
use Rattle.layout.specs.Geometry.{num_journal_blocks, indirection_table_max_length, indirection_table1_addr, indirection_table2_addr}

unfoldable pub valid_indirection_table_addr : Geometry → ℕ → Bool
valid_indirection_table_addr g addr =
    either (eqb addr (indirection_table1_addr g))
    (eqb addr (indirection_table2_addr g))

-- the first two clauses of the next
unfoldable pub whole_blocks : Location → Bool
whole_blocks loc =
    also (eqb (loc.addr % 4096) 0)
    (eqb (loc.len % 4096) 0)

unfoldable pub valid_journal_location : Geometry → Location → Bool
valid_journal_location g loc =
    also (whole_blocks loc)
    (also (leb (2 * 4096) loc.addr)
    (also (ltb ((loc.addr - 2 * 4096) / 4096) (num_journal_blocks g))
    (also (leb loc.addr (18446744073709551615 - loc.len))
    (leb (loc.addr + loc.len) ((2 + num_journal_blocks g) * 4096)))))

unfoldable pub valid_indirection_table_location : Geometry → Location → Bool
valid_indirection_table_location g loc =
    also (valid_indirection_table_addr g loc.addr)
    (also (ltb 0 loc.len)
    (leb loc.len (indirection_table_max_length g)))

abbrev pub superblock1_location : Location
superblock1_location = record { addr = 0; len = 4096 }

abbrev pub superblock2_location : Location
superblock2_location = record { addr = 4096; len = 4096 }

-- two locations are the same
unfoldable pub same_location : Location → Location → Bool
same_location a b =
    also (eqb a.addr b.addr)
    (eqb a.len b.len)

unfoldable pub valid_superblock1_location : Location → Bool
valid_superblock1_location loc = same_location loc superblock1_location

unfoldable pub valid_superblock2_location : Location → Bool
valid_superblock2_location loc = same_location loc superblock2_location

unfoldable pub valid_superblock_location : Location → Bool
valid_superblock_location loc =
    either (same_location loc superblock1_location)
    (same_location loc superblock2_location)

unfoldable pub valid_location : Geometry → Location → Bool
valid_location g loc =
    either (valid_superblock1_location loc)
    (either (valid_superblock2_location loc)
    (either (valid_journal_location g loc)
    (valid_indirection_table_location g loc)))

unfoldable pub overlap : Location → Location → Bool
overlap a b =
    also (ltb b.addr (a.addr + a.len))
    (ltb a.addr (b.addr + b.len))

unfoldable pub location_sub : Location → Location → Bool
location_sub a b =
    also (leb b.addr a.addr)
    (leb (a.addr + a.len) (b.addr + b.len))
