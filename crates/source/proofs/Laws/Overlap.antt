-- What question 2 asks of overlap, and what it is good for. The less overlaps, the more states meet it: so each that met it with the source's
-- overlap meets it now, and so does each that it turned away only for an empty interval. In every state that meets it, handed or reached,
-- writes in flight share no block with one another, none is in flight beside a read, and a crash leaves the selected interval as it was.
use Rattle.std.specs.Prelude.{ℕ, ◌<◌, Bool, true, false, ◌≡◌, ◌⊎◌, length, get_or}
use Rattle.std.proofs.Common.{sym, ◌∙◌, ap, ⊎_elim, arith}
use Rattle.std.proofs.Math.Option.{none, some}
use Rattle.laws.specs.Choice.{true_false, not_so}
use Rattle.laws.specs.Sets.{Ids, empty_ids, keys, is_key}
use Rattle.laws.specs.Maps.{no_keys_some}
use Rattle.layout.specs.declared.Geometry.{Geometry}
use Rattle.interval.specs.declared.JournalInterval.{JournalInterval}
use Rattle.interval.specs.Facts.{ValidJournalInterval, InCyclicRange}
use Rattle.interval.proofs.Update.{Shares}
use Rattle.interval.specs.Overlap.{source_interval_overlap, source_cyclic_interval_overlap}
use Rattle.interval.proofs.Meets.{plain_source, cyclic_source, plain_empty, cyclic_empty, cyclic_clear, plain_iff, apart}
use Rattle.source.specs.JournalDisk as D
use Rattle.source.specs.JournalDisk.{ReqId}
use Rattle.source.specs.JournalCache as M
use Rattle.source.specs.JournalSystem as Y
use Rattle.source.specs.JournalSystem.{persistent_interval, superblock_of_disk_wf}
use Rattle.source.specs.Limits.{Limits}
use Rattle.source.specs.Meets.{awaited_journal_reads, awaited_journal_writes, JoinedBy, MachineMeets, DiskMeets, SystemMeets}
use Rattle.source.specs.Before.{MeetsBefore}

-- fewer overlaps, more states
joined_by_fewer : {plain plain' : JournalInterval → JournalInterval → Bool} {cyclic cyclic' : Geometry → JournalInterval → JournalInterval → Bool} (g : Geometry) (s : Y.Variables)
    → ((a b : JournalInterval) → plain' a b ≡ true → plain a b ≡ true) → ((a b : JournalInterval) → cyclic g a b ≡ false → cyclic' g a b ≡ false)
    → JoinedBy plain cyclic g s → JoinedBy plain' cyclic' g s
joined_by_fewer g s p c h =
    record {
      wf = h.wf;
      superblock_reads_is = h.superblock_reads_is;
      journal_reads_is = h.journal_reads_is;
      superblock_writes = h.superblock_writes;
      journal_writes_is = h.journal_writes_is;
      writes_apart = λ id1 id2 v1 v2 e q o. h.writes_apart id1 id2 v1 v2 e q (p v1 v2 o);
      writes_clear_is = λ id v e. c v _ (h.writes_clear_is id v e);
    }

-- a state that met question 2 before request S-3 meets it now
pub before_meets : (g : Geometry) (L : Limits) (s : Y.Variables) → MeetsBefore g L s → SystemMeets g L s
before_meets g L s h =
    record {
      machine = h.machine;
      disk = h.disk;
      joined = joined_by_fewer g s (λ a b o. (plain_source a b o).2) (cyclic_clear g) h.joined;
    }

-- one of the two is empty
abbrev pub OneEmpty : JournalInterval → JournalInterval → Type 0
OneEmpty a b = (a.len ≡ 0) ⊎ (b.len ≡ 0)

-- a state that met all else of question 2 (`rest`), and was turned away only for overlaps of empty intervals, meets it now
pub only_empty_meets : (g : Geometry) (L : Limits) (s : Y.Variables) → MachineMeets g L s.machine → DiskMeets g L s.disk
    → (rest : JoinedBy (λ a b. false) (λ g a b. false) g s)
    → ((id1 id2 : ReqId) (v1 v2 : JournalInterval) → s.disk.req_write_journals id1 ≡ some v1 → s.disk.req_write_journals id2 ≡ some v2 → source_interval_overlap v1 v2 ≡ true
    → (id1 ≡ id2) ⊎ OneEmpty v1 v2)
    → ((id : ReqId) (v : JournalInterval) → s.disk.req_write_journals id ≡ some v → source_cyclic_interval_overlap g v (persistent_interval g s.disk rest.wf) ≡ true
    → OneEmpty v (persistent_interval g s.disk rest.wf))
    → SystemMeets g L s
only_empty_meets g L s m d rest apart clear =
    record {
      machine = m;
      disk = d;
      joined =
          record {
            wf = rest.wf;
            superblock_reads_is = rest.superblock_reads_is;
            journal_reads_is = rest.journal_reads_is;
            superblock_writes = rest.superblock_writes;
            journal_writes_is = rest.journal_writes_is;
            writes_apart = λ id1 id2 v1 v2 e q o.
                ⊎_elim (λ same. same) (λ one. absurd (true_false (sym o ∙ plain_empty v1 v2 one))) (apart id1 id2 v1 v2 e q (plain_source v1 v2 o).2);
            writes_clear_is = λ id v e. not_so _ (λ o. true_false (sym o ∙ cyclic_empty g v _ (clear id v e (cyclic_source g v _ o).2)));
          };
    }

-- no journal read waits beside a journal write, so that none overlap (004's ReadWritesJournalDontOverlap), whatever overlap is
pub reads_or_writes : {plain : JournalInterval → JournalInterval → Bool} {cyclic : Geometry → JournalInterval → JournalInterval → Bool} (g : Geometry) (s : Y.Variables)
    → JoinedBy plain cyclic g s → (id1 id2 : ReqId) (v1 v2 : JournalInterval) → s.disk.req_read_journals id1 ≡ some v1 → s.disk.req_write_journals id2 ≡ some v2 → ⊥
reads_or_writes g s h id1 id2 v1 v2 p q = by s.machine h.journal_reads_is h.journal_writes_is
  where
    none_written : keys s.disk.req_write_journals ≡ empty_ids → ⊥
    none_written e = true_false (ap is_key (sym q) ∙ ap (λ (f : Ids). f id2) e)

    by : (m : M.Variables) → s.disk.req_read_journals ≡ awaited_journal_reads g m → keys s.disk.req_write_journals ≡ awaited_journal_writes m → ⊥
    by (M.Variables.Ready m) e k = no_keys_some s.disk.req_read_journals id1 v1 e p
    by (M.Variables.LoadingOther m) e k = none_written k
    by (M.Variables.LoadingSuperblock m) e k = none_written k

module _ (g : Geometry) (L : Limits) (s : Y.Variables) (m : SystemMeets g L s) where
  -- no block is in two journal writes in flight
  pub writes_share_none : (id1 id2 : ReqId) (v1 v2 : JournalInterval) → s.disk.req_write_journals id1 ≡ some v1 → s.disk.req_write_journals id2 ≡ some v2 → Shares g v1 v2 → id1 ≡ id2
  writes_share_none id1 id2 v1 v2 p q h =
      m.joined.writes_apart id1 id2 v1 v2 p q ((plain_iff g v1 v2 (m.disk.shape.writes_contiguous id1 v1 p) (m.disk.shape.writes_contiguous id2 v2 q)).1 h)

  -- no block of the selected interval is in a journal write in flight, and so a crash, whatever it takes of the others, leaves each as it was
  selected_valid : ValidJournalInterval g (persistent_interval g s.disk m.joined.wf)
  selected_valid = let w = superblock_of_disk_wf g s.disk m.joined.wf in record { start_in = w.start_in; len_in = w.len_in }

  pub selected_untouched : (i : ℕ) → i < g.blocks → InCyclicRange g i (persistent_interval g s.disk m.joined.wf) → D.JournalUntouched g i s.disk.req_write_journals
  selected_untouched i l h id v e r =
      apart g v (persistent_interval g s.disk m.joined.wf) (m.disk.shape.writes_contiguous id v e).valid selected_valid (m.joined.writes_clear_is id v e)
      (record { block = i; block_in = l; first = r; second = h })

  pub crash_keeps_selected : (d' : D.Variables) → D.Crash g s.disk d' → (i : ℕ) → i < g.blocks → InCyclicRange g i (persistent_interval g s.disk m.joined.wf)
      → get_or s.disk.journal i none ≡ get_or d'.journal i none
  crash_keeps_selected d' c i l h = c.journal_kept.kept i (omega (arith, m.disk.shape.size)) (selected_untouched i l h)
