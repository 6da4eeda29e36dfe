-- Questions 1 and 2 of a machine, by parts; and what a look at pending memory finds, so that a step need not look again. The answer is
-- `ok_unless (ask_machine g l m) (bodies_of l.lens m)`.
use Rattle.std.specs.Prelude.{ℕ, Bool, List}
use Rattle.laws.specs.Choice.{also, and_then, ask}
use Rattle.layout.specs.declared.Geometry.{Geometry}
use Rattle.layout.specs.Geometry.{num_journal_blocks}
use Rattle.tables.specs.declared.SyncTable.{SyncTable}
use Rattle.tables.specs.Rows.{counted}
use Rattle.tables.specs.SyncTable.{valid_states}
use Rattle.range.specs.Memory.{total}
use Rattle.memory.specs.declared.Limits.{Limits}
use Rattle.memory.specs.Given.{memory}
use Rattle.memory.specs.Pending.{ask_frozen}
use Rattle.memory.specs.Replay.{ask_replay}
use Rattle.loading.specs.Superblocks.{loading_superblock_ok}
use Rattle.loading.specs.Other.{loading_other_ok}
use Rattle.ready.specs.declared.Entries.{Entries}
use Rattle.ready.specs.declared.Bodies.{Bodies}
use Rattle.ready.specs.Inv.{ready_ok}
use Rattle.machine.specs.declared.Machine.{Machine}
use Rattle.machine.specs.Machine.{most_sync_reqs, limits_of, by_kind}
use Rattle.machine.specs.Lent.{Lent, ask_lent}

-- the sync requests: as many as may be, ids that differ, states 1 to 3
unfoldable pub sync_ok : SyncTable → Bool
sync_ok t =
    also (counted most_sync_reqs t.count t.ids)
    (valid_states t)

-- question 2 of the record: of the sync requests, and of the record of its kind
unfoldable pub kind_ok : Geometry → Machine → Bool
kind_ok g m = by_kind m.kind (loading_superblock_ok g m.superblocks) (loading_other_ok g m.other) (ready_ok g m.ready)

unfoldable pub machine_ok : Geometry → Machine → Bool
machine_ok g m =
    also (sync_ok m.sync)
    (kind_ok g m)

-- question 2 of what pending and replay memory hold
unfoldable pub ask_entries : Geometry → Limits → (bytes lens rbytes rlens : List ℕ) → Entries → ℕ
ask_entries g limits bytes lens rbytes rlens e =
    and_then (ask_frozen limits (memory bytes lens e.pending) e.frozen)
    (ask_replay (num_journal_blocks g) (memory rbytes rlens e.replay) e.taken)

-- a machine that loads holds no entries
unfoldable pub ask_held : Geometry → (bytes lens rbytes rlens : List ℕ) → Machine → ℕ
ask_held g bytes lens rbytes rlens m = by_kind {A = ℕ} m.kind 0 0 (ask_entries g (limits_of m) bytes lens rbytes rlens m.ready.entries)

-- questions 1 and 2
unfoldable pub ask_machine : Geometry → Lent → Machine → ℕ
ask_machine g l m =
    and_then (ask_lent g (limits_of m) l)
    (and_then (ask 2 (machine_ok g m))
    (ask_held g l.bytes l.lens l.rbytes l.rlens m))

-- the bytes of the pending entries: of the frozen ones, and of all
abbrev pub bodies : ℕ → ℕ → Bodies
bodies frozen pending = record { frozen = frozen; pending = pending }

abbrev pub entry_bodies : List ℕ → Entries → Bodies
entry_bodies lens e = bodies (total lens e.frozen) (total lens e.pending)

unfoldable pub bodies_of : List ℕ → Machine → Bodies
bodies_of lens m = by_kind {A = Bodies} m.kind (bodies 0 0) (bodies 0 0) (entry_bodies lens m.ready.entries)
