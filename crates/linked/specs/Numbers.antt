-- The records that a caller's numbers are: what a program in another language passes one by one.
use Rattle.std.specs.Prelude.{ℕ, Bool, cond, None, Some}
use Rattle.std.specs.declared.option.Option as code
use Rattle.layout.specs.declared.Geometry.{Geometry}
use Rattle.range.specs.declared.Count.{Count}

-- N journal blocks, and tables of at most T bytes
abbrev pub geometry_of : ℕ → ℕ → Geometry
geometry_of n t = record { blocks = n; table = t }

-- a number of entries, and of their bytes
abbrev pub counts : ℕ → ℕ → Count
counts entries bytes = record { entries = entries; bytes = bytes }

-- a second id, where there is one
unfoldable pub second_id : Bool → ℕ → code.Option ℕ
second_id two id = cond two (Some id) None
