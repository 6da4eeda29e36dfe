-- The machine's steps of the machine that a caller's 16 numbers make: what each call answers, and which numbers it sets.
use Rattle.std.specs.declared.option.Option as code
use Rattle.std.specs.Prelude.{ℕ, List, set}
use Rattle.laws.specs.Choice.{and_then, unless}
use Rattle.memory.specs.Given.{memory, count_of}
use Rattle.machine.specs.declared.Machine.{Machine}
use Rattle.machine.specs.Lent.{Lent}
use Rattle.machine.specs.Questions.{ask_machine, bodies_of}
use Rattle.machine.specs.Working.{given_of, advance_machine, ask_replay_step, replay_machine, write_back_journal_req_machine}
use Rattle.machine.specs.Whole.{ask_add, ask_write}
use Rattle.linked.specs.State.{ask_numbers, geometry_at, machine_of}

-- Advance: the pending entries are counted anew
unfoldable pub ask_add_of : List ℕ → Lent → (brought sizes : List ℕ) → ℕ → ℕ
ask_add_of xs l brought sizes k = and_then (ask_numbers xs) (ask_add (geometry_at xs) l (machine_of xs) brought sizes k)

abbrev pub added : List ℕ → Lent → (brought sizes : List ℕ) → ℕ → Machine
added xs l brought sizes k = advance_machine (machine_of xs) (bodies_of l.lens (machine_of xs)) (given_of brought sizes k)

unfoldable pub added_numbers : List ℕ → Lent → (brought sizes : List ℕ) → ℕ → List ℕ
added_numbers xs l brought sizes k = unless (ask_add_of xs l brought sizes k) xs (set xs 11 (added xs l brought sizes k).ready.entries.pending)

-- Replay: what is taken is counted anew
unfoldable pub ask_replay_of : List ℕ → Lent → (brought sizes : List ℕ) → ℕ → ℕ
ask_replay_of xs l brought sizes k =
    and_then (ask_numbers xs)
    (and_then (ask_machine (geometry_at xs) l (machine_of xs))
    (ask_replay_step (machine_of xs) l.rbytes l.rlens brought sizes k))

abbrev pub replayed_to : List ℕ → (brought sizes : List ℕ) → ℕ → Machine
replayed_to xs brought sizes k = replay_machine (machine_of xs) (count_of (memory brought sizes k))

unfoldable pub replayed_numbers : List ℕ → Lent → (brought sizes : List ℕ) → ℕ → List ℕ
replayed_numbers xs l brought sizes k =
    unless (ask_replay_of xs l brought sizes k) xs
    (set (set xs 14 (replayed_to xs brought sizes k).ready.entries.taken.entries) 15 (replayed_to xs brought sizes k).ready.entries.taken.bytes)

-- WriteBackJournalReq: the blocks that are written, the frozen position, and the entries pending and frozen are counted anew
unfoldable pub ask_write_of : List ℕ → Lent → ℕ → code.Option ℕ → List ℕ → ℕ
ask_write_of xs l id1 id2 out = and_then (ask_numbers xs) (ask_write (geometry_at xs) l (machine_of xs) id1 id2 out)

abbrev pub written_to : List ℕ → Lent → ℕ → code.Option ℕ → Machine
written_to xs l id1 id2 = write_back_journal_req_machine (machine_of xs) id1 id2 (bodies_of l.lens (machine_of xs))

-- the four numbers, as a machine has them
abbrev pub with_written : List ℕ → Machine → List ℕ
with_written xs m =
    set (set (set (set xs 8 m.ready.writtenJournalLen)
    10 m.ready.frozen.frozenJournalPosition)
    11 m.ready.entries.pending)
    12 m.ready.entries.frozen

unfoldable pub written_numbers : List ℕ → Lent → ℕ → code.Option ℕ → List ℕ → List ℕ
written_numbers xs l id1 id2 out = unless (ask_write_of xs l id1 id2 out) xs (with_written xs (written_to xs l id1 id2))
