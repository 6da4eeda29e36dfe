-- The record that FinishLoadingOtherPhase makes of the selected superblock, its slot and n replay entries, against 000.
use Rattle.std.specs.Prelude.{ℕ, false, ◌≡◌}
use Rattle.std.proofs.Math.Option.{none}
use Rattle.std.proofs.Math.Nat.{sub-zero}
use Rattle.superblock.specs.declared.Superblock.{Superblock}
use Rattle.tables.proofs.Laws.IdTables.{ids_empty}
use Rattle.range.specs.Memory.{view, view_none}
use Rattle.loading.specs.Which.{is_second}
use Rattle.ready.specs.State.{loaded}
use Rattle.source.specs.JournalCache as M
use Rattle.source.specs.JournalCache.{LoadingOtherVariables}
use Rattle.source.proofs.Laws.Loaded.{loaded_state}
use Rattle.refine.specs.Machine.ReadyView.{ReadyLent, ready_of}

-- the view of the record
pub loaded_view : (l : ReadyLent) (s : LoadingOtherVariables) (superblock : Superblock) (which n : ℕ) → superblock ≡ s.superblock → is_second which ≡ s.whichSuperblock
    → ready_of l s.sync_reqs (loaded superblock which n) ≡ loaded_state s (view l.rbytes l.rlens n)
unfolding loaded
loaded_view l s superblock which n e w =
    λ i.
    record {
      frozenLoc = none;
      isFrozen = false;
      frozenJournalPosition = 0;
      superblock_write = none;
      in_memory_journal_frozen = view_none l.bytes l.lens i;
      in_memory_journal = view_none l.bytes l.lens i;
      outstanding_journal_writes = ids_empty i;
      writtenJournalLen = (e i).journalLen;
      replay_journal = view l.rbytes l.rlens (sub-zero n i);
      superblock = e i;
      whichSuperblock = w i;
      commit_status = M.CommitStatus.CommitNone;
      new_superblock = none;
      sync_reqs = s.sync_reqs;
    }
