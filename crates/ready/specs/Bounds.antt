-- The questions of a machine at work have the numbers of refusals, so a no's number is its question's. Assumes nothing.
use Rattle.std.specs.declared.option.Option as code
use Rattle.std.specs.Prelude.{ℕ, ◌≤◌, Some, None}
use Rattle.std.proofs.Common.{rules, arith}
use Rattle.refusal.specs.Refusal.{small_ask, small_then}
use Rattle.layout.specs.declared.Geometry.{Geometry}
use Rattle.layout.specs.declared.Location.{Location}
use Rattle.tables.specs.declared.IdTable.{IdTable}
use Rattle.tables.specs.Bounds.{small_join}
use Rattle.range.specs.declared.Count.{Count}
use Rattle.memory.specs.declared.Limits.{Limits}
use Rattle.ready.specs.declared.Bodies.{Bodies}
use Rattle.ready.specs.declared.Ready.{Ready}
use Rattle.ready.specs.JournalSteps.{ask_second, ask_ids, ask_room, ask_write_back_journal_req}
use Rattle.ready.specs.CommitSteps.{ask_advance_log, ask_advance_location}
use Rattle.ready.specs.FreezeSteps.{ask_freeze, ask_receive_frozen_loc}
use Rattle.ready.specs.EntrySteps.{ask_advance}

-- of a journal write
pub small_second : (writes : IdTable) (id1 : ℕ) (id2 : code.Option ℕ) → ask_second writes id1 id2 ≤ 13
small_second writes id1 None = omega arith
small_second writes id1 (Some id2) = small_join _ _ _ _

pub small_ids : (writes : IdTable) (id1 : ℕ) (id2 : code.Option ℕ) → ask_ids writes id1 id2 ≤ 13
unfolding ask_ids
small_ids writes id1 id2 = search (rules, small_then, small_join, small_second)

pub small_room : (g : Geometry) (r : Ready) (id1 : ℕ) (id2 : code.Option ℕ) (blocks : ℕ) → ask_room g r id1 id2 blocks ≤ 13
unfolding ask_room
small_room g r id1 id2 blocks = search (rules, small_then, small_ask, small_ids)

pub small_write_back_journal_req : (g : Geometry) (r : Ready) (id1 : ℕ) (id2 : code.Option ℕ) (b : Bodies) → ask_write_back_journal_req g r id1 id2 b ≤ 13
unfolding ask_write_back_journal_req
small_write_back_journal_req g r id1 id2 b = search (rules, small_then, small_ask, small_room)

-- of the commits
pub small_advance_log : (g : Geometry) (r : Ready) → ask_advance_log g r ≤ 13
unfolding ask_advance_log
small_advance_log g r = search (rules, small_ask)

pub small_advance_location : (g : Geometry) (r : Ready) → ask_advance_location g r ≤ 13
unfolding ask_advance_location
small_advance_location g r = search (rules, small_ask)

-- of the frozen journal
pub small_freeze : (r : Ready) → ask_freeze r ≤ 13
unfolding ask_freeze
small_freeze r = search (rules, small_ask)

pub small_receive_frozen_loc : (g : Geometry) (r : Ready) (loc : Location) → ask_receive_frozen_loc g r loc ≤ 13
unfolding ask_receive_frozen_loc
small_receive_frozen_loc g r loc = search (rules, small_then, small_ask)

-- of an add
pub small_advance : (limits : Limits) (r : Ready) (held : ℕ) (new : Count) → ask_advance limits r held new ≤ 13
unfolding ask_advance
small_advance limits r held new = search (rules, small_then, small_ask)
