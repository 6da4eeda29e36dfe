-- The state that FinishLoadingOtherPhase leaves, with departure 2's position, and its clauses: those of the loading side are all that they ask.
use Rattle.std.specs.Prelude.{◌≤◌, ◌<◌, true, false, ◌≡◌, refl, List, []}
use Rattle.std.proofs.Common.{sym}
use Rattle.std.proofs.Math.Option.{none, some}
use Rattle.laws.specs.Sets.{at, empty_ids}
use Rattle.layout.specs.declared.Geometry.{Geometry}
use Rattle.layout.specs.Geometry.{num_journal_blocks}
use Rattle.interval.specs.declared.JournalInterval.{JournalInterval}
use Rattle.superblock.specs.Superblock.{journal_front_interval_of_superblock, journal_back_interval_of_superblock}
use Rattle.codec.specs.Codec.{JournalEntry, JournalRange, Codec, JournalRangeParses}
use Rattle.source.specs.JournalDisk.{DiskOp, NoDiskOp}
use Rattle.source.specs.JournalCache as M
use Rattle.source.specs.JournalCache.{ReadyVariables, LoadingOtherVariables, FinishLoadingOtherPhaseClauses}

-- 000's next state, with the departure's position 0
abbrev pub loaded_state : LoadingOtherVariables → List JournalEntry → ReadyVariables
loaded_state s es =
    record {
      frozenLoc = none;
      isFrozen = false;
      frozenJournalPosition = 0;
      superblock_write = none;
      in_memory_journal_frozen = [];
      in_memory_journal = [];
      outstanding_journal_writes = empty_ids;
      writtenJournalLen = s.superblock.journalLen;
      replay_journal = es;
      superblock = s.superblock;
      whichSuperblock = s.whichSuperblock;
      commit_status = M.CommitStatus.CommitNone;
      new_superblock = none;
      sync_reqs = s.sync_reqs;
    }

-- its clauses: those of the loading side are given
pub record Loads (g : Geometry) (C : Codec) (s : LoadingOtherVariables) (es : List JournalEntry) : Type 0 where
  pub start_in : s.superblock.journalStart < num_journal_blocks g
  pub len_in : s.superblock.journalLen ≤ num_journal_blocks g
  pub front_in_is : (v : JournalInterval) → journal_front_interval_of_superblock g s.superblock ≡ some v → (jr : JournalRange) × (at s.journal_pieces false ≡ some jr)
  pub back_in_is : (v : JournalInterval) → journal_back_interval_of_superblock g s.superblock ≡ some v → (jr : JournalRange) × (at s.journal_pieces true ≡ some jr)
  pub parses : JournalRangeParses C (M.loaded g s) es

pub loaded_clauses : (g : Geometry) (C : Codec) (s : LoadingOtherVariables) (es : List JournalEntry) → Loads g C s es → FinishLoadingOtherPhaseClauses g C s (loaded_state s es) NoDiskOp
loaded_clauses g C s es h =
    record {
      op = refl;
      start_in = h.start_in;
      len_in = h.len_in;
      front_in_is = h.front_in_is;
      back_in_is = h.back_in_is;
      superblock_write_is = refl;
      in_memory_journal_frozen_is = refl;
      in_memory_journal_is = refl;
      outstanding_journal_writes_is = refl;
      written_journal_len_is = refl;
      parses = h.parses;
      superblock_is = refl;
      which_superblock_is = refl;
      new_superblock_is = refl;
      sync_reqs_is = refl;
      is_frozen_is = refl;
      frozen_loc_is = refl;
      commit_status_is = refl;
    }

pub clauses_loaded : (g : Geometry) (C : Codec) (s : LoadingOtherVariables) (s' : ReadyVariables) (dop : DiskOp) → FinishLoadingOtherPhaseClauses g C s s' dop
    → s'.frozenJournalPosition ≡ 0 → Loads g C s s'.replay_journal × (loaded_state s s'.replay_journal ≡ s') × (dop ≡ NoDiskOp)
clauses_loaded g C s s' dop h z = (
  record { start_in = h.start_in; len_in = h.len_in; front_in_is = h.front_in_is; back_in_is = h.back_in_is; parses = h.parses },
  (λ i.
      record {
        frozenLoc = sym h.frozen_loc_is i;
        isFrozen = sym h.is_frozen_is i;
        frozenJournalPosition = sym z i;
        superblock_write = sym h.superblock_write_is i;
        in_memory_journal_frozen = sym h.in_memory_journal_frozen_is i;
        in_memory_journal = sym h.in_memory_journal_is i;
        outstanding_journal_writes = sym h.outstanding_journal_writes_is i;
        writtenJournalLen = sym h.written_journal_len_is i;
        replay_journal = s'.replay_journal;
        superblock = sym h.superblock_is i;
        whichSuperblock = sym h.which_superblock_is i;
        commit_status = sym h.commit_status_is i;
        new_superblock = sym h.new_superblock_is i;
        sync_reqs = sym h.sync_reqs_is i;
      }),
  h.op,
)
