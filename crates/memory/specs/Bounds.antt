-- The questions of pending and replay memory, and of what is brought, have the numbers of refusals, so a no's number is its question's.
-- Assumes nothing.
use Rattle.std.specs.Prelude.{ℕ, ◌≤◌}
use Rattle.std.proofs.Common.{rules, arith}
use Rattle.range.specs.declared.Count.{Count}
use Rattle.refusal.specs.Refusal.{small_ask, small_then}
use Rattle.memory.specs.declared.Limits.{Limits}
use Rattle.memory.specs.Limits.{ask_pending_lent, ask_room}
use Rattle.memory.specs.Given.{Memory, ask_given, ask_added}
use Rattle.memory.specs.Pending.{ask_pending, ask_frozen, ask_append, ask_take_front}
use Rattle.memory.specs.Replay.{ask_replay_lent, ask_replay, ask_next}

-- of what is lent, and of what is brought
pub small_pending_lent : (l : Limits) (bytes lens : ℕ) → ask_pending_lent l bytes lens ≤ 13
unfolding ask_pending_lent
small_pending_lent l bytes lens = search (rules, small_ask)

pub small_replay_lent : (blocks bytes lens : ℕ) → ask_replay_lent blocks bytes lens ≤ 13
unfolding ask_replay_lent
small_replay_lent blocks bytes lens = search (rules, small_ask)

pub small_given : (e : Memory) → ask_given e ≤ 13
unfolding ask_given
small_given e = search (rules, small_ask)

pub small_added : (e : Memory) → ask_added e ≤ 13
unfolding ask_added
small_added e = search (rules, small_then, small_ask, small_given)

pub small_room : (l : Limits) (c : Count) → ask_room l c ≤ 13
unfolding ask_room
small_room l c = search (rules, small_ask)

-- of pending memory
pub small_pending : (l : Limits) (m : Memory) → ask_pending l m ≤ 13
unfolding ask_pending
small_pending l m = search (rules, small_then, small_ask, small_pending_lent)

pub small_frozen : (l : Limits) (m : Memory) (frozen : ℕ) → ask_frozen l m frozen ≤ 13
unfolding ask_frozen
small_frozen l m frozen = search (rules, small_then, small_ask, small_pending)

pub small_append : (l : Limits) (m e : Memory) → ask_append l m e ≤ 13
unfolding ask_append
small_append l m e = search (rules, small_then, small_pending, small_given, small_room)

pub small_take_front : (l : Limits) (m : Memory) (k : ℕ) → ask_take_front l m k ≤ 13
unfolding ask_take_front
small_take_front l m k = search (rules, small_then, small_ask, small_pending)

-- of replay memory
pub small_replay : (blocks : ℕ) (m : Memory) (taken : Count) → ask_replay blocks m taken ≤ 13
unfolding ask_replay
small_replay blocks m taken = search (rules, small_then, small_ask, small_replay_lent)

pub small_next : (blocks : ℕ) (m : Memory) (taken : Count) (e : Memory) → ask_next blocks m taken e ≤ 13
unfolding ask_next
small_next blocks m taken e = search (rules, small_then, small_ask, small_replay, small_given)
