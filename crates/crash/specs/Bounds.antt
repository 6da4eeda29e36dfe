-- The questions of a crash have the numbers of refusals, so a no's number is its question's. Assumes nothing.
use Rattle.std.specs.Prelude.{ℕ, ◌≤◌, List}
use Rattle.std.proofs.Common.{rules}
use Rattle.refusal.specs.Refusal.{small_then}
use Rattle.layout.specs.declared.Geometry.{Geometry}
use Rattle.journal.specs.Bounds.{small_journal}
use Rattle.disk.specs.declared.Disk.{Disk}
use Rattle.disk.specs.Bounds.{small_state}
use Rattle.crash.specs.Whole.{ask_crash}

pub small_crash : (g : Geometry) (d : Disk) (picture pictured blocks marks : List ℕ) → ask_crash g d picture pictured blocks marks ≤ 13
unfolding ask_crash
small_crash g d picture pictured blocks marks = search (rules, small_then, small_journal, small_state)
