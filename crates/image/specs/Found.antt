-- What is found in the selected interval, as the functions that find it promise it.
use Rattle.std.specs.Prelude.{ℕ, ◌-◌, ◌≡◌, Result}
use mathlib.Core.List.{List}
use Rattle.laws.specs.Choice.{unless}
use Rattle.laws.specs.Cut.{flat, lengths}
use Rattle.laws.specs.Splice.{splice}
use Rattle.layout.specs.declared.Geometry.{Geometry}
use Rattle.superblock.specs.declared.Superblock.{Superblock}
use Rattle.superblock.specs.Laws.{WFSuperblock}
use Rattle.refusal.specs.declared.Refusal.{Refusal}
use Rattle.range.specs.declared.Count.{Count}
use Rattle.reader.specs.Answer.{scanned}
use Rattle.image.specs.declared.Choice.{Choice}
use Rattle.image.specs.declared.Held.{Held}
use Rattle.image.specs.declared.Refused.{Refused}
use Rattle.image.specs.Image.{Lent, lent, refusal, no_unless, held, interval_entries, ask_parse}
use Rattle.image.specs.Asked.{Imaged}

-- what is found in a superblock's interval, and what is lent then, pieces being as they are left
abbrev pub found_in : Geometry → List ℕ → Superblock → Result Count Refusal
found_in g disk s = scanned (ask_parse g disk s) (interval_entries g disk s)

abbrev pub found_lent : Geometry → List ℕ → Superblock → List ℕ → Lent → Lent
found_lent g disk s pieces l =
    lent pieces
    (unless (ask_parse g disk s) l.rbytes (splice l.rbytes 0 (flat (interval_entries g disk s))))
    (unless (ask_parse g disk s) l.rlens (splice l.rlens 0 (lengths (interval_entries g disk s))))

-- the record's answer from it, by a choice
abbrev pub held_in : Geometry → List ℕ → Choice → Result Held Refused
held_in g disk c = no_unless (refusal (ask_parse g disk c.superblock) 0) (held c.superblock c.which (interval_entries g disk c.superblock))

-- the lent lengths, and a superblock whose interval is fetched
pub record Fetches (g : Geometry) (s : Superblock) (disk pieces rbytes rlens : ℕ) : Type 0 where
  pub lent : Imaged g disk pieces rbytes rlens
  pub formed : WFSuperblock g s
