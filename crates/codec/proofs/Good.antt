-- Ranges that are good by document 01's words are good by the relations' `Codec`.
use Rattle.std.specs.Prelude.{List, [], ◌∷◌}
use Rattle.laws.specs.Fold.{Each}
use Rattle.range.specs.Form as Form
use Rattle.range.specs.Form.{most_entry_length}
use Rattle.codec.specs.Ranges.{Range, Good}
use Rattle.codec.specs.Format.{format, facts_good}

pub each_good : (rs : List Range) → Each (Form.Good most_entry_length) rs → Each (Good format) rs
each_good [] h = tt
each_good (r ∷ rs) h = (facts_good r h.0, each_good rs h.1)
