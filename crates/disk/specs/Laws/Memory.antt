-- The operations that touch lent blocks: what a yes to a journal write's questions tells, and back, and the buffer after a read's answer.
use Rattle.std.specs.declared.option.Option as code
use Rattle.std.specs.Prelude.{ℕ, ◌*◌, true, false, ◌≡◌, List, length}
use Rattle.std.proofs.Math.Path.{refl}
use Rattle.std.proofs.Common.{◌∙◌}
use Rattle.laws.specs.Choice.{and_then_left, and_then_right, and_then_both, and_then_done}
use Rattle.layout.specs.declared.Geometry.{Geometry}
use Rattle.interval.specs.declared.JournalInterval.{JournalInterval}
use Rattle.journal.specs.Memory.{ask_size, copy_blocks}
use Rattle.journal.specs.Asked.{size_asked, asked_size}
use Rattle.tables.specs.declared.IntervalTable.{IntervalTable}
use Rattle.requests.specs.Receive.{ask_recv_write_journal}
use Rattle.disk.specs.Memory.{ask_new_blocks, read_out}

module _ (g : Geometry) (t : IntervalTable) (id1 : ℕ) (id2 : code.Option ℕ) (v : JournalInterval) (new : List ℕ) where
  pub new_blocks_size : ask_new_blocks g t id1 id2 v new ≡ 0 → length new ≡ v.len * 4096
  unfolding ask_new_blocks
  new_blocks_size e = size_asked v new (and_then_left (ask_size v new) (ask_recv_write_journal g t id1 id2 v) e)

  pub new_blocks_rows : ask_new_blocks g t id1 id2 v new ≡ 0 → ask_recv_write_journal g t id1 id2 v ≡ 0
  unfolding ask_new_blocks
  new_blocks_rows e = and_then_right (ask_size v new) (ask_recv_write_journal g t id1 id2 v) e

  pub asks_new_blocks : length new ≡ v.len * 4096 → ask_recv_write_journal g t id1 id2 v ≡ 0 → ask_new_blocks g t id1 id2 v new ≡ 0
  unfolding ask_new_blocks
  asks_new_blocks h e = and_then_both (ask_size v new) (ask_recv_write_journal g t id1 id2 v) (asked_size v new h) e

  -- with blocks of their size the rows decide
  pub new_blocks_full : length new ≡ v.len * 4096 → ask_recv_write_journal g t id1 id2 v ≡ 8 → ask_new_blocks g t id1 id2 v new ≡ 8
  unfolding ask_new_blocks
  new_blocks_full h e = and_then_done (ask_size v new) (ask_recv_write_journal g t id1 id2 v) (asked_size v new h) ∙ e

module _ (v : JournalInterval) (blocks out : List ℕ) where
  pub out_whole : read_out true v blocks out ≡ copy_blocks blocks v.start v.len out 0
  unfolding read_out
  out_whole = refl

  pub out_damaged : read_out false v blocks out ≡ out
  unfolding read_out
  out_damaged = refl
