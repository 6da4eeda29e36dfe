-- Document 01's limits: the numbers, as a value that the facts take; the counts of a machine's and of a disk's state, which question 8 keeps
-- within them; what a step may bring; and what limits and range format have to do with each other. That the ids within one table differ is
-- said of the table: a set or a map has no id twice.
use Rattle.std.specs.Prelude.{ℕ, ◌+◌, ◌≤◌, ◌<◌, Bool, true, ◌≡◌, List, [], length}
use Rattle.std.proofs.Math.Option.{some}
use Rattle.laws.specs.Fold.{sum}
use Rattle.laws.specs.Cut.{lengths}
use Rattle.laws.specs.Sets.{Map, keys, AtMost, at}
use Rattle.codec.specs.Codec.{JournalEntry, JournalRange, EntriesFit, Codec}
use Rattle.source.specs.JournalDisk as D
use Rattle.source.specs.JournalCache as M

pub record Limits : Type 0 where
  pub sync_reqs : ℕ
  pub outstanding_journal_writes : ℕ
  pub pending_entries : ℕ
  pub pending_bytes : ℕ
  pub entry_bytes : ℕ
  pub step_entries : ℕ
  pub superblockReads : ℕ
  pub journalReads : ℕ
  pub journalWrites : ℕ

abbrev pub limits : Limits
limits =
    record {
      sync_reqs = 32;
      outstanding_journal_writes = 16;
      pending_entries = 1024;
      pending_bytes = 65536;
      entry_bytes = 255;
      step_entries = 16;
      superblockReads = 8;
      journalReads = 8;
      journalWrites = 16;
    }

-- the counts of a machine
pub record ReadyCounts (L : Limits) (s : M.ReadyVariables) : Type 0 where
  pub sync_few : AtMost L.sync_reqs (keys s.sync_reqs)
  pub writes_few : AtMost L.outstanding_journal_writes s.outstanding_journal_writes
  pub pending_few : length s.in_memory_journal_frozen + length s.in_memory_journal ≤ L.pending_entries
  pub pending_small : sum (lengths s.in_memory_journal_frozen) + sum (lengths s.in_memory_journal) ≤ L.pending_bytes

pub record LoadingCounts (L : Limits) (sync_reqs : Map M.SyncReqStatus) : Type 0 where
  pub sync_few : AtMost L.sync_reqs (keys sync_reqs)

abbrev pub MachineCounts : Limits → M.Variables → Type 0
MachineCounts L (M.Variables.Ready s) = ReadyCounts L s
MachineCounts L (M.Variables.LoadingOther s) = LoadingCounts L s.sync_reqs
MachineCounts L (M.Variables.LoadingSuperblock s) = LoadingCounts L s.sync_reqs

-- the counts of a disk; one superblock write for each slot is met by the type
pub record DiskCounts (L : Limits) (d : D.Variables) : Type 0 where
  pub superblock_reads_few : (which : Bool) → AtMost L.superblockReads (at d.req_read_superblocks which)
  pub journal_reads_few : AtMost L.journalReads (keys d.req_read_journals)
  pub journal_writes_few : AtMost L.journalWrites (keys d.req_write_journals)

-- the entries that a step brings: few, and each of an allowed length
abbrev pub entries_of : M.Step → List JournalEntry
entries_of (M.Step.AdvanceStep new-je) = new-je
entries_of (M.Step.ReplayStep replayed-je) = replayed-je
entries_of (M.Step.WriteBackJournalReqStep jr) = []
entries_of M.Step.WriteBackJournalRespStep = []
entries_of M.Step.WriteBackSuperblockReq-AdvanceLog-Step = []
entries_of M.Step.WriteBackSuperblockReq-AdvanceLocation-Step = []
entries_of M.Step.WriteBackSuperblockRespStep = []
entries_of (M.Step.PageInJournalReqStep which) = []
entries_of (M.Step.PageInJournalRespStep which) = []
entries_of (M.Step.PageInSuperblockReqStep which) = []
entries_of (M.Step.PageInSuperblockRespStep which) = []
entries_of M.Step.FinishLoadingSuperblockPhaseStep = []
entries_of M.Step.FinishLoadingOtherPhaseStep = []
entries_of M.Step.FreezeStep = []
entries_of (M.Step.ReceiveFrozenLocStep loc) = []
entries_of (M.Step.PushSyncReqStep id) = []
entries_of (M.Step.PopSyncReqStep id) = []
entries_of M.Step.NoOpStep = []

pub record StepLimits (L : Limits) (step : M.Step) : Type 0 where
  pub few : length (entries_of step) ≤ L.step_entries
  pub fit : EntriesFit L.entry_bytes (entries_of step)

-- limits and range format fit: some entries within the limits of what is pending make a range, and entries that were read have an allowed
-- length
pub record Fitting (C : Codec) (L : Limits) : Type 0 where
  pub pending_good : (es : List JournalEntry) → 0 < length es → length es ≤ L.pending_entries → sum (lengths es) ≤ L.pending_bytes → EntriesFit L.entry_bytes es
      → C.good es ≡ true
  pub parse_fit : (jr : JournalRange) (es : List JournalEntry) → C.parse_journal_range jr ≡ some es → EntriesFit L.entry_bytes es
