-- Sync requests, in every kind of machine: PushSyncReq and PopSyncReq, after questions 1 and 2.
use Rattle.std.specs.Prelude.{ℕ, eqb, take}
use Rattle.laws.specs.Choice.{ask, and_then}
use Rattle.laws.specs.Sets.{ids_of}
use Rattle.tables.specs.declared.SyncTable.{SyncTable}
use Rattle.tables.specs.Rows.{place_of, ask_add}
use Rattle.tables.specs.SyncTable.{state_map, or_zero, added_sync, removed_sync}
use Rattle.machine.specs.declared.Machine.{Machine}
use Rattle.machine.specs.Machine.{most_sync_reqs, with_sync}

-- PushSyncReq: 5 an id that is there; 8. It begins at State3
unfoldable pub ask_push_sync_req : SyncTable → ℕ → ℕ
ask_push_sync_req t id = ask_add most_sync_reqs t.count t.ids id

unfoldable pub push_sync_req_machine : Machine → ℕ → Machine
push_sync_req_machine m id = with_sync m (added_sync m.sync id 3)

-- PopSyncReq: 5 an id that isn't there; 6 unless it is at State1
unfoldable pub ask_pop_sync_req : SyncTable → ℕ → ℕ
ask_pop_sync_req t id =
    and_then (ask 5 (ids_of (take t.count t.ids) id))
    (ask 6 (eqb (or_zero (state_map t id)) 1))

unfoldable pub pop_sync_req_machine : Machine → ℕ → Machine
pop_sync_req_machine m id = with_sync m (removed_sync m.sync (place_of id (take m.sync.count m.sync.ids)))
