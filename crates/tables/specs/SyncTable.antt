-- The table of sync requests (`map<uint64, SyncReqStatus>`): ids with a state each, a number from 1 to 3.
use Rattle.std.specs.Prelude.{ℕ, Bool, cond, ◌≡◌, map, leb, eqb, length, take, replicate}
use Rattle.std.proofs.Math.Option.{Option, none, some}
use Rattle.laws.specs.Choice.{also}
use Rattle.laws.specs.Fold.{every}
use Rattle.laws.specs.Sets.{Map, each}
use Rattle.tables.specs.declared.SyncTable.{SyncTable}
use Rattle.tables.specs.Rows.{Rows, row_map, added_row, removed_row}

-- the table as rows and back
abbrev pub sync_rows : SyncTable → Rows ℕ
sync_rows t = record { ids = t.ids; values = t.states; count = t.count }

abbrev pub sync_table : Rows ℕ → SyncTable
sync_table r = record { ids = r.ids; states = r.values; count = r.count }

-- the map of ids to state numbers, and through f, which says what a number stands for, the source's map
abbrev pub state_map : SyncTable → Map ℕ
state_map t = row_map (sync_rows t)

abbrev pub sync_map : {A : Type 0} → (ℕ → A) → SyncTable → Map A
sync_map f t = each f (state_map t)

abbrev pub no_syncs : SyncTable
no_syncs = record { ids = replicate 32 0; states = replicate 32 0; count = 0 }

-- what the type says and the record doesn't
pub record SizedSyncs (t : SyncTable) : Type 0 where
  pub ids_long : length t.ids ≡ 32
  pub states_long : length t.states ≡ 32

-- every state in use is State1, State2 or State3
unfoldable pub ok_state : ℕ → Bool
ok_state n = also (leb 1 n) (leb n 3)

unfoldable pub valid_states : SyncTable → Bool
valid_states t = every ok_state (take t.count t.states)

-- the state of an id, 0 where it isn't there
abbrev pub or_zero : Option ℕ → ℕ
or_zero none = 0
or_zero (some n) = n

-- one more at the end, and the last one in the place of another
unfoldable pub added_sync : SyncTable → ℕ → ℕ → SyncTable
added_sync t id state = sync_table (added_row (sync_rows t) id state)

unfoldable pub removed_sync : SyncTable → ℕ → SyncTable
removed_sync t i = sync_table (removed_row 0 (sync_rows t) i)

-- one state goes on to another, everywhere
unfoldable pub moved : (from to : ℕ) → ℕ → ℕ
moved from to n = cond (eqb n from) to n

unfoldable pub moved_syncs : (from to : ℕ) → SyncTable → SyncTable
moved_syncs from to t = record { ids = t.ids; states = map (moved from to) t.states; count = t.count }
