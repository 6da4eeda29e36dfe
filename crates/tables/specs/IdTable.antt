-- A table of ids (`set<ReqId>`), and the set that it stands for.
use Rattle.std.specs.Prelude.{ℕ, ◌+◌, ◌-◌, cond, ◌≡◌, ltb, length, take, set, replicate}
use Rattle.laws.specs.Sets.{Ids, ids_of}
use Rattle.tables.specs.declared.IdTable.{IdTable}
use Rattle.tables.specs.Rows.{filled, in_use}

-- the source's set
abbrev pub id_set : IdTable → Ids
id_set t = ids_of (take t.count t.ids)

abbrev pub no_ids : IdTable
no_ids = record { ids = replicate 16 0; count = 0 }

-- what the type says and the record doesn't
pub record SizedIds (t : IdTable) : Type 0 where
  pub ids_long : length t.ids ≡ 16

-- one more at the end; a full table stays as it is
unfoldable pub added_id : IdTable → ℕ → IdTable
added_id t id =
    cond (ltb t.count (length t.ids))
    (record { ids = set t.ids t.count id; count = t.count + 1 })
    t

-- as in a set: an id that is there changes nothing
unfoldable pub joined_id : IdTable → ℕ → IdTable
joined_id t id = cond (id_set t id) t (added_id t id)

-- the last one takes place i; a place that isn't in use changes nothing
unfoldable pub removed_id : IdTable → ℕ → IdTable
removed_id t i =
    cond (in_use t.count i t.ids)
    (record { ids = filled 0 t.count i t.ids; count = t.count - 1 })
    t
