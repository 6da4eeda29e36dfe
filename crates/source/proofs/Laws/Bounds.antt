-- Document 01's numbers, each at its bound: a state is within the limits exactly up to the number that stands here. A table's count is that of
-- its ids, which differ (`Listed`).
use Rattle.std.specs.Prelude.{ℕ, ◌+◌, ◌*◌, ◌≤◌, Bool, true, false, List, ◌↔◌, length}
use Rattle.std.proofs.Common.{arith}
use Rattle.laws.specs.Fold.{sum}
use Rattle.laws.specs.Cut.{lengths}
use Rattle.laws.specs.Sets.{Map, keys, AtMost, Listed, few_listed, listed_at_most, at}
use Rattle.layout.specs.declared.Geometry.{Geometry}
use Rattle.codec.specs.Codec.{JournalEntry, EntryFits, EntriesFit}
use Rattle.source.specs.JournalDisk as D
use Rattle.source.specs.JournalCache as M
use Rattle.source.specs.Limits.{limits, ReadyCounts, LoadingCounts, DiskCounts, StepLimits, entries_of}
use Rattle.source.specs.Meets.{ReplayShape}

-- 32 sync requests, 16 outstanding journal writes, 1,024 pending entries, 65,536 bytes of them
pub ready_bounds : (s : M.ReadyVariables) (sync writes : List ℕ) → Listed (keys s.sync_reqs) sync → Listed s.outstanding_journal_writes writes
    → ReadyCounts limits s
    ↔ ((length sync ≤ 32)
    × (length writes ≤ 16)
    × (length s.in_memory_journal_frozen + length s.in_memory_journal ≤ 1024)
    × (sum (lengths s.in_memory_journal_frozen) + sum (lengths s.in_memory_journal) ≤ 65536))
ready_bounds s sync writes l w = (
  λ c. (
    omega (arith, few_listed limits.sync_reqs (keys s.sync_reqs) sync l c.sync_few),
    omega (arith, few_listed limits.outstanding_journal_writes s.outstanding_journal_writes writes w c.writes_few),
    omega (arith, c.pending_few),
    omega (arith, c.pending_small),
  ),
  λ b.
      record {
        sync_few = listed_at_most limits.sync_reqs (keys s.sync_reqs) sync l (omega (arith, b.0));
        writes_few = listed_at_most limits.outstanding_journal_writes s.outstanding_journal_writes writes w (omega (arith, b.1));
        pending_few = omega (arith, b.2);
        pending_small = omega (arith, b.3);
      },
)

pub loading_bounds : (sync_reqs : Map M.SyncReqStatus) (sync : List ℕ) → Listed (keys sync_reqs) sync → LoadingCounts limits sync_reqs ↔ (length sync ≤ 32)
loading_bounds sync_reqs sync l = (
  λ c. omega (arith, few_listed limits.sync_reqs (keys sync_reqs) sync l c.sync_few),
  λ b. record { sync_few = listed_at_most limits.sync_reqs (keys sync_reqs) sync l (omega (arith, b)) },
)

-- 8 superblock reads for each slot, 8 journal reads, 16 journal writes
pub disk_bounds : (d : D.Variables) (first second reads writes : List ℕ) → Listed (at d.req_read_superblocks false) first → Listed (at d.req_read_superblocks true) second
    → Listed (keys d.req_read_journals) reads → Listed (keys d.req_write_journals) writes
    → DiskCounts limits d
    ↔ ((length first ≤ 8)
    × (length second ≤ 8)
    × (length reads ≤ 8)
    × (length writes ≤ 16))
disk_bounds d first second reads writes f s r w = (
  λ c. (
    omega (arith, few_listed limits.superblockReads (at d.req_read_superblocks false) first f (c.superblock_reads_few false)),
    omega (arith, few_listed limits.superblockReads (at d.req_read_superblocks true) second s (c.superblock_reads_few true)),
    omega (arith, few_listed limits.journalReads (keys d.req_read_journals) reads r c.journal_reads_few),
    omega (arith, few_listed limits.journalWrites (keys d.req_write_journals) writes w c.journal_writes_few),
  ),
  λ b.
      record {
        superblock_reads_few = slots b.0 b.1;
        journal_reads_few = listed_at_most limits.journalReads (keys d.req_read_journals) reads r (omega (arith, b.2));
        journal_writes_few = listed_at_most limits.journalWrites (keys d.req_write_journals) writes w (omega (arith, b.3));
      },
)
  where
    slots : length first ≤ 8 → length second ≤ 8 → (which : Bool) → AtMost limits.superblockReads (at d.req_read_superblocks which)
    slots p q false = listed_at_most limits.superblockReads (at d.req_read_superblocks false) first f (omega (arith, p))
    slots p q true = listed_at_most limits.superblockReads (at d.req_read_superblocks true) second s (omega (arith, q))

-- an entry of 1 to 255 bytes, 16 entries a step
pub entry_bounds : (e : JournalEntry) → EntryFits limits.entry_bytes e ↔ ((1 ≤ length e) × (length e ≤ 255))
entry_bounds e = (λ f. (omega (arith, f.some_byte), omega (arith, f.most_bytes)), λ b. record { some_byte = omega (arith, b.0); most_bytes = omega (arith, b.1) })

pub step_bounds : (step : M.Step) → StepLimits limits step ↔ ((length (entries_of step) ≤ 16) × EntriesFit limits.entry_bytes (entries_of step))
step_bounds step = (λ l. (omega (arith, l.few), l.fit), λ b. record { few = omega (arith, b.0); fit = b.1 })

-- replay memory of N blocks
pub replay_bounds : (g : Geometry) (es : List JournalEntry)
    → ReplayShape g limits es
    ↔ ((length es ≤ g.blocks * 4096)
    × (sum (lengths es) ≤ g.blocks * 4096)
    × EntriesFit limits.entry_bytes es)
replay_bounds g es = (
  λ r. (omega (arith, r.few), omega (arith, r.small), r.fit),
  λ b. record { few = omega (arith, b.0); small = omega (arith, b.1); fit = b.2 },
)
