-- What a sector is read as: the superblock where nothing was refused, else the question that was answered no.
use Rattle.std.specs.Prelude.{ℕ, List, Result}
use Rattle.refusal.specs.Refusal.{ok_unless}
use Rattle.refusal.specs.declared.Refusal.{Refusal}
use Rattle.superblock.specs.declared.Superblock.{Superblock}
use Rattle.sector.specs.Sector.{ask_sector, superblock_in}

abbrev pub read_sector : List ℕ → Result Superblock Refusal
read_sector xs = ok_unless (ask_sector xs) (superblock_in xs)
