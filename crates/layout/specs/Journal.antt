-- The journal's locations: the definitions of source 003 over blocks of the ring, in its order, and the questions that they ask.
use Rattle.std.specs.Prelude.{ℕ, ◌+◌, ◌-◌, ◌*◌, ◌/◌, Bool, cond, leb, ltb, eqb}
use Rattle.std.proofs.Math.Option.{Option, none, some}
use Rattle.laws.specs.Choice.{also, either, ask, and_then}
use Rattle.layout.specs.declared.Geometry.{Geometry}
use Rattle.layout.specs.declared.Location.{Location}
use Rattle.layout.specs.Geometry.{num_journal_blocks, journal_point, ask_geometry}
use Rattle.layout.specs.Location.{valid_journal_location}

-- for start + len up to N
abbrev pub journal_range_location : Geometry → ℕ → ℕ → Location
journal_range_location g start len = record { addr = journal_point g start; len = len * 4096 }

unfoldable pub loc_contained_in_circular_journal_range : Geometry → Location → ℕ → ℕ → Bool
loc_contained_in_circular_journal_range g loc start len =
    cond (leb (start + len) (num_journal_blocks g))
    (also (leb (journal_point g start) loc.addr)
    (leb (loc.addr + loc.len) (journal_point g (start + len))))
    (either
    (also (leb (journal_point g start) loc.addr)
    (leb (loc.addr + loc.len) (journal_point g (num_journal_blocks g))))
    (also (leb (journal_point g 0) loc.addr)
    (leb (loc.addr + loc.len) (journal_point g (start + len - num_journal_blocks g)))))

unfoldable pub loc_disjoint_from_circular_journal_range : Geometry → Location → ℕ → ℕ → Bool
loc_disjoint_from_circular_journal_range g loc start len =
    cond (leb (start + len) (num_journal_blocks g))
    (either (leb (loc.addr + loc.len) (journal_point g start))
    (leb (journal_point g (start + len)) loc.addr))
    (either (leb (loc.addr + loc.len) (journal_point g 0))
    (either (leb (journal_point g (num_journal_blocks g)) loc.addr)
    (also (leb (journal_point g (start + len - num_journal_blocks g)) loc.addr)
    (leb (loc.addr + loc.len) (journal_point g start)))))

unfoldable pub journal_pos_add : Geometry → ℕ → ℕ → ℕ
journal_pos_add g start span =
    cond (leb (num_journal_blocks g) (start + span))
    (start + span - num_journal_blocks g)
    (start + span)

unfoldable pub journal_front_location : Geometry → ℕ → ℕ → Option Location
journal_front_location g start len =
    cond (eqb len 0)
    none
    (some (journal_range_location g start (cond (leb len (num_journal_blocks g - start)) len (num_journal_blocks g - start))))

unfoldable pub journal_back_location : Geometry → ℕ → ℕ → Option Location
journal_back_location g start len =
    cond (eqb len 0)
    none
    (cond (leb len (num_journal_blocks g - start))
    none
    (some (journal_range_location g 0 (len - (num_journal_blocks g - start)))))

-- for a valid journal location
abbrev pub journal_block_idx : Location → ℕ
journal_block_idx loc = (loc.addr - 2 * 4096) / 4096

-- questions 1 and 4 of a point, a straight range, a circular range and a journal location
unfoldable pub ask_point : Geometry → ℕ → ℕ
ask_point g point = and_then (ask_geometry g) (ask 4 (leb point (num_journal_blocks g)))

unfoldable pub ask_range : Geometry → ℕ → ℕ → ℕ
ask_range g start len = and_then (ask_geometry g) (ask 4 (also (ltb start (num_journal_blocks g)) (leb len (num_journal_blocks g - start))))

unfoldable pub ask_circular : Geometry → ℕ → ℕ → ℕ
ask_circular g start len = and_then (ask_geometry g) (ask 4 (also (ltb start (num_journal_blocks g)) (leb len (num_journal_blocks g))))

unfoldable pub ask_journal_location : Geometry → Location → ℕ
ask_journal_location g loc = and_then (ask_geometry g) (ask 4 (valid_journal_location g loc))
