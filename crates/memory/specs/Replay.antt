-- Replay memory: N blocks of bytes and as many lengths, of whose entries the first ones are taken. The state is what is left, and nothing
-- lent changes.
use Rattle.std.specs.Prelude.{ℕ, ◌+◌, ◌*◌, ◌-◌, Bool, Result, List, length, take, drop, leb, eqb}
use Rattle.laws.specs.Choice.{also, ask, and_then}
use Rattle.laws.specs.Fold.{sum, same}
use Rattle.layout.specs.Geometry.{block_size, most_blocks}
use Rattle.range.specs.Form.{Entry}
use Rattle.range.specs.Memory.{view}
use Rattle.lengths.specs.Entries.{part, entries_ok}
use Rattle.range.specs.declared.Count.{Count}
use Rattle.refusal.specs.declared.Refusal.{Refusal}
use Rattle.refusal.specs.Refusal.{ok_unless}
use Rattle.memory.specs.Given.{Memory, bytes_of, count_of, ask_given}

-- question 1: N is 1 to 4,096, and N blocks of bytes and as many lengths are lent
unfoldable pub replay_lent : ℕ → ℕ → ℕ → Bool
replay_lent blocks bytes lens =
    also (leb 1 blocks)
    (also (leb blocks most_blocks)
    (also (eqb bytes (blocks * block_size))
    (eqb lens (blocks * block_size))))

unfoldable pub ask_replay_lent : ℕ → ℕ → ℕ → ℕ
ask_replay_lent blocks bytes lens = ask 1 (replay_lent blocks bytes lens)

-- the entries from what is taken on, as many, and their bytes
abbrev pub left_entries : Memory → Count → List Entry
left_entries m taken = view (drop taken.bytes m.bytes) (drop taken.entries m.lens) (m.count - taken.entries)

abbrev pub left_of : Memory → Count → Count
left_of m taken = record { entries = m.count - taken.entries; bytes = sum (part taken.entries m.count m.lens) }

-- they are held by the bytes from what is taken on
unfoldable pub left_ok : Memory → Count → Bool
left_ok m taken =
    also (leb taken.bytes (length m.bytes))
    (entries_ok (length m.bytes - taken.bytes) m.lens taken.entries m.count)

-- questions 1 and 2
unfoldable pub ask_replay : ℕ → Memory → Count → ℕ
ask_replay blocks m taken =
    and_then (ask_replay_lent blocks (length m.bytes) (length m.lens))
    (ask 2 (left_ok m taken))

-- the new entries are the next ones: as many are left, their lengths are the same, and so are their bytes
unfoldable pub is_next : List ℕ → List ℕ → ℕ → Count → List ℕ → List ℕ → Count → Bool
is_next bytes lens left taken bodies sizes new =
    also (leb new.entries left)
    (also (same (take new.entries sizes) (take new.entries (drop taken.entries lens)))
    (same (take new.bytes bodies) (take new.bytes (drop taken.bytes bytes))))

abbrev pub next_of_replay : Memory → Count → Memory → Bool
next_of_replay m taken e = is_next m.bytes m.lens (m.count - taken.entries) taken e.bytes e.lens (count_of e)

-- questions 1, 2, 4 and 6
unfoldable pub ask_next : ℕ → Memory → Count → Memory → ℕ
ask_next blocks m taken e =
    and_then (ask_replay blocks m taken)
    (and_then (ask_given e)
    (ask 6 (next_of_replay m taken e)))

abbrev pub taken_then : Count → Memory → Count
taken_then taken e = record { entries = taken.entries + e.count; bytes = taken.bytes + bytes_of e }

unfoldable pub next_answer : ℕ → Memory → Count → Memory → Result Count Refusal
next_answer blocks m taken e = ok_unless (ask_next blocks m taken e) (taken_then taken e)
