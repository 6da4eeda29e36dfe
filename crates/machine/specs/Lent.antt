-- The memory that is lent to a machine, and question 1 of it.
use Rattle.std.specs.Prelude.{ℕ, List, length}
use Rattle.laws.specs.Choice.{and_then}
use Rattle.layout.specs.declared.Geometry.{Geometry}
use Rattle.layout.specs.Geometry.{num_journal_blocks}
use Rattle.journal.specs.Memory.{ask_blocks}
use Rattle.memory.specs.declared.Limits.{Limits}
use Rattle.memory.specs.Limits.{ask_pending_lent}
use Rattle.memory.specs.Replay.{ask_replay_lent}
use Rattle.machine.specs.declared.Lent as slices

-- pending bytes and lengths, pieces read while loading, replay bytes and lengths
pub record Lent : Type 0 where
  pub bytes : List ℕ
  pub lens : List ℕ
  pub pieces : List ℕ
  pub rbytes : List ℕ
  pub rlens : List ℕ

abbrev pub lent : List ℕ → List ℕ → List ℕ → List ℕ → List ℕ → Lent
lent bytes lens pieces rbytes rlens = record { bytes = bytes; lens = lens; pieces = pieces; rbytes = rbytes; rlens = rlens }

-- what the code's slices hold
abbrev pub lent_of : slices.Lent → Lent
lent_of l = lent l.bytes.now l.lens.now l.pieces.now l.rbytes.now l.rlens.now

-- question 1: N and T, pieces of N blocks, pending memory as large as the limits, replay memory of N blocks and as many lengths
unfoldable pub ask_lent : Geometry → Limits → Lent → ℕ
ask_lent g limits l =
    and_then (ask_blocks g l.pieces)
    (and_then (ask_pending_lent limits (length l.bytes) (length l.lens))
    (ask_replay_lent (num_journal_blocks g) (length l.rbytes) (length l.rlens)))
