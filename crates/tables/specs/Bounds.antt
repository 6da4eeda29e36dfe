-- The questions of a table have the numbers of refusals, so a no's number is its question's. Assumes nothing.
use Rattle.std.specs.Prelude.{ℕ, ◌≤◌, Bool, true, false, cond, List, take}
use Rattle.std.proofs.Common.{rules, arith}
use Rattle.laws.specs.Choice.{ask}
use Rattle.laws.specs.Sets.{ids_of}
use Rattle.refusal.specs.Refusal.{small_ask, small_then}
use Rattle.tables.specs.Rows.{has_room, ask_add, ask_join}

pub small_add : (most count : ℕ) (ids : List ℕ) (id : ℕ) → ask_add most count ids id ≤ 13
unfolding ask_add
small_add most count ids id = search (rules, small_then, small_ask)

pub small_join : (most count : ℕ) (ids : List ℕ) (id : ℕ) → ask_join most count ids id ≤ 13
unfolding ask_join
small_join most count ids id = go (ids_of (take count ids) id)
  where
    go : (b : Bool) → cond b 0 (ask 8 (has_room most count 1 ids)) ≤ 13
    go true = omega arith
    go false = small_ask 8 _ (omega arith)
