-- Pending memory: the questions of its steps, what each step leaves in lent memory, and its answer.
use Rattle.std.specs.Prelude.{ℕ, ◌+◌, ◌-◌, Result, length, take, drop, leb}
use Rattle.laws.specs.Choice.{ask, and_then, unless}
use Rattle.laws.specs.Splice.{splice}
use Rattle.range.specs.Memory.{total}
use Rattle.lengths.specs.Entries.{entries_ok}
use Rattle.memory.specs.declared.Limits.{Limits}
use Rattle.range.specs.declared.Count.{Count}
use Rattle.memory.specs.declared.PendingCount.{PendingCount}
use Rattle.memory.specs.Limits.{ask_pending_lent, ask_room}
use Rattle.refusal.specs.declared.Refusal.{Refusal}
use Rattle.refusal.specs.Refusal.{ok_unless}
use Rattle.memory.specs.Given.{Memory, bytes_of, count_of, ask_given}

-- questions 1 and 2 of pending memory: the lent lengths are the limits, so entries whose lengths are there are few enough
unfoldable pub ask_pending : Limits → Memory → ℕ
ask_pending l m =
    and_then (ask_pending_lent l (length m.bytes) (length m.lens))
    (ask 2 (entries_ok l.bytes m.lens 0 m.count))

-- and of its frozen entries, the first ones
unfoldable pub ask_frozen : Limits → Memory → ℕ → ℕ
ask_frozen l m frozen = and_then (ask_pending l m) (ask 2 (leb frozen m.count))

-- the first k entries
abbrev pub first_of : Memory → ℕ → Count
first_of m k = record { entries = k; bytes = total m.lens k }

-- and what all of m holds beside them
abbrev pub counts_of : Memory → ℕ → PendingCount
counts_of m frozen = record { frozen = first_of m frozen; all = count_of m }

-- entries e come behind those of m
abbrev pub both : Memory → Memory → Count
both m e = record { entries = m.count + e.count; bytes = bytes_of m + bytes_of e }

unfoldable pub ask_append : Limits → Memory → Memory → ℕ
ask_append l m e =
    and_then (ask_pending l m)
    (and_then (ask_given e)
    (ask_room l (both m e)))

abbrev pub appended : Memory → Memory → Memory
appended m e =
    record {
      bytes = splice m.bytes (bytes_of m) (take (bytes_of e) e.bytes);
      lens = splice m.lens m.count (take e.count e.lens);
      count = m.count + e.count;
    }

unfoldable pub append_lent : Limits → Memory → Memory → Memory
append_lent l m e = unless (ask_append l m e) m (appended m e)

unfoldable pub append_answer : Limits → Memory → Memory → Result Count Refusal
append_answer l m e = ok_unless (ask_append l m e) (both m e)

-- the first k entries of m leave
unfoldable pub ask_take_front : Limits → Memory → ℕ → ℕ
ask_take_front l m k = and_then (ask_pending l m) (ask 4 (leb k m.count))

abbrev pub front_taken : Memory → ℕ → Memory
front_taken m k =
    record {
      bytes = splice m.bytes 0 (take (bytes_of m - total m.lens k) (drop (total m.lens k) m.bytes));
      lens = splice m.lens 0 (take (m.count - k) (drop k m.lens));
      count = m.count - k;
    }

abbrev pub others : Memory → ℕ → Count
others m k = record { entries = m.count - k; bytes = bytes_of m - total m.lens k }

unfoldable pub take_front_lent : Limits → Memory → ℕ → Memory
take_front_lent l m k = unless (ask_take_front l m k) m (front_taken m k)

unfoldable pub take_front_answer : Limits → Memory → ℕ → Result Count Refusal
take_front_answer l m k = ok_unless (ask_take_front l m k) (others m k)
