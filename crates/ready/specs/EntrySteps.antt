-- The questions and the effect of Advance and of Replay on the record. Entries lie in lent memory: question 4 of those that a step brings,
-- and question 6 of a replay, that they are the next ones, are asked there.
use Rattle.std.specs.Prelude.{ℕ, ◌+◌, Result, leb}
use Rattle.laws.specs.Choice.{also, and_then, ask}
use Rattle.range.specs.declared.Count.{Count}
use Rattle.memory.specs.declared.Limits.{Limits}
use Rattle.refusal.specs.declared.Refusal.{Refusal}
use Rattle.refusal.specs.Refusal.{ok_unless}
use Rattle.ready.specs.declared.Ready.{Ready}
use Rattle.ready.specs.State.{replayed, count, counts, with_entries}

-- what pending memory holds with the new entries, if the pending ones take `held` bytes
abbrev pub advanced : Ready → ℕ → Count → Count
advanced r held new = count (r.entries.pending + new.entries) (held + new.bytes)

-- Advance: questions 6 and 8
unfoldable pub ask_advance : Limits → Ready → ℕ → Count → ℕ
ask_advance limits r held new =
    and_then (ask 6 (replayed r.entries))
    (ask 8
    (also (leb (advanced r held new).entries limits.entries)
    (leb (advanced r held new).bytes limits.bytes)))

unfoldable pub advance : Limits → Ready → ℕ → Count → Result Count Refusal
advance limits r held new = ok_unless (ask_advance limits r held new) (advanced r held new)

unfoldable pub advance_next : Ready → ℕ → Ready
advance_next r pending = with_entries r (counts pending r.entries.frozen r.entries.replay r.entries.taken)

-- Replay
unfoldable pub replay_next : Ready → Count → Ready
replay_next r taken = with_entries r (counts r.entries.pending r.entries.frozen r.entries.replay taken)
