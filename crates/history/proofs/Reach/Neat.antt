-- What question 2 asks of machine and disk together: reads stand at the disk as the machine awaits them, and journal writes in flight lie
-- apart, behind what is kept. With the relation and both halves' own question 2 it is a system's.
use Rattle.std.specs.Prelude.{ℕ, ◌<◌, Bool, true, false, not, ◌≡◌, refl}
use Rattle.std.proofs.Common.{sym, ◌∙◌, ap}
use Rattle.std.proofs.Math.Option.{Option, none, some}
use Rattle.laws.specs.Ring.{off}
use Rattle.layout.specs.declared.Geometry.{Geometry}
use Rattle.interval.specs.declared.JournalInterval.{JournalInterval}
use Rattle.interval.specs.Interval.{interval}
use Rattle.interval.specs.Facts.{ContiguousJournalInterval, InCyclicRange}
use Rattle.interval.specs.Overlap.{source_cyclic_interval_overlap, journal_interval_overlap}
use Rattle.interval.proofs.Meets.{plain_same}
use Rattle.superblock.specs.declared.Superblock.{Superblock}
use Rattle.superblock.specs.Superblock.{select_superblock}
use Rattle.laws.specs.Sets.{keys, both, at, put}
use Rattle.codec.specs.Codec.{Codec}
use Rattle.source.specs.JournalDisk as D
use Rattle.source.specs.JournalDisk.{ReqId, ReqWriteSuperblockId}
use Rattle.source.specs.JournalCache as M
use Rattle.source.specs.Limits.{Limits}
use Rattle.source.specs.Meets.{SystemMeets, awaited_superblock_reads, awaited_journal_reads, awaited_superblock_writes, awaited_journal_writes, new_write}
use Rattle.source.specs.Before.{MeetsBefore}
use Rattle.source.proofs.Laws.Overlap.{before_meets}
use Rattle.source.proofs.Laws.Kept.{HalvesMeet}
use Rattle.history.specs.Ledger.{blocks, Kept, Ledger}
use Rattle.history.proofs.Journal.Slots.{Slots, picked_is}
use Rattle.history.proofs.Simulation.Relation.{super_of, kept_interval, Phase, quiet, waits, done, Flight, flight_of, idle, busy, Sim}

abbrev pub written_len : M.Variables → ℕ
written_len (M.Variables.Ready s) = s.writtenJournalLen
written_len (M.Variables.LoadingOther s) = 0
written_len (M.Variables.LoadingSuperblock s) = 0

-- a piece of a journal write in flight: it lies within what was written, and behind what is kept, in the source's overlap too, in which an
-- empty kept interval must not be strictly inside of it
pub record Piece (g : Geometry) (kept : JournalInterval) (len : ℕ) (v : JournalInterval) : Type 0 where
  pub contiguous : ContiguousJournalInterval g v
  pub some_block : 0 < v.len
  pub inside : (i : ℕ) → i < g.blocks → InCyclicRange g i v → off g.blocks kept.start i < len
  pub clear : source_cyclic_interval_overlap g v kept ≡ false

pub record Neat (g : Geometry) (C : Codec) (m : M.Variables) (d : D.Variables) (k : Kept) : Type 0 where
  pub reads : d.req_read_superblocks ≡ awaited_superblock_reads m
  pub pages : d.req_read_journals ≡ awaited_journal_reads g m
  pub pieces : (id : ReqId) (v : JournalInterval) → d.req_write_journals id ≡ some v → Piece g (kept_interval C k) (written_len m) v
  pub apart : (id1 id2 : ReqId) (v1 v2 : JournalInterval) → d.req_write_journals id1 ≡ some v1 → d.req_write_journals id2 ≡ some v2 → journal_interval_overlap v1 v2 ≡ true → id1 ≡ id2

-- no superblock write is awaited
none_awaited : (w : Bool) → both {A = Option ReqWriteSuperblockId} none ≡ put (both none) (not w) none
none_awaited true = refl
none_awaited false = refl

not_of : (a w : Bool) → a ≡ not w → w ≡ not a
not_of true true e = e
not_of true false e = refl
not_of false true e = refl
not_of false false e = e

module _ (g : Geometry) (C : Codec) (p : ℕ) where
  pub sim_superblock_writes : (m : M.Variables) (d : D.Variables) (l : Ledger) → Sim g C p m d l → d.req_write_superblocks ≡ awaited_superblock_writes m
  sim_superblock_writes (M.Variables.LoadingSuperblock s) d l z = z.runs.0.writes_are
  sim_superblock_writes (M.Variables.LoadingOther s) d l z = z.runs.0.writes_are
  sim_superblock_writes (M.Variables.Ready s) d l z = go z.runs.phase
    where
      -- the three fields, where they are known
      by_flight : (f : Flight) → flight_of s ≡ f → new_write s.superblock_write s.new_superblock ≡ new_write f.superblock_write f.new_superblock
      by_flight f e = λ i. new_write (e i).superblock_write (e i).new_superblock

      go : Phase g C (flight_of s) s.superblock s.whichSuperblock s.writtenJournalLen s.frozenJournalPosition d.req_write_superblocks d.req_write_journals d.journal
          l.request l.kept l.draft.before l.draft.after z.slot → d.req_write_superblocks ≡ put (both none) (not s.whichSuperblock) (new_write s.superblock_write s.new_superblock)
      go (quiet q st) = q.writes_are ∙ none_awaited s.whichSuperblock ∙ ap (put (both none) (not s.whichSuperblock)) (sym (by_flight idle q.flight_is))
      go (waits a st) =
          a.writes_are
          ∙ sym (λ i. put (both none) (not (st.which_is i)) (by_flight (busy a.commit a.id a.new) a.flight_is i))
      go (done a) =
          a.writes_are
          ∙ sym (λ i. put (both none) (sym (not_of s.whichSuperblock z.slot a.which_is) i) (by_flight (busy a.commit a.id a.new) a.flight_is i))

  pub sim_journal_writes : (m : M.Variables) (d : D.Variables) (l : Ledger) → Sim g C p m d l → keys d.req_write_journals ≡ awaited_journal_writes m
  sim_journal_writes (M.Variables.LoadingSuperblock s) d l z = λ i. keys (z.runs.0.none_writing i)
  sim_journal_writes (M.Variables.LoadingOther s) d l z = λ i. keys (z.runs.0.none_writing i)
  sim_journal_writes (M.Variables.Ready s) d l z = z.runs.ids

  -- question 2, with the source's overlap too: no write in flight is empty, and what is kept is clear of them in the source
  pub neat_before : (L : Limits) (m : M.Variables) (d : D.Variables) (l : Ledger) → Sim g C p m d l → Neat g C m d l.kept → HalvesMeet g L (record { machine = m; disk = d })
      → MeetsBefore g L (record { machine = m; disk = d })
  neat_before L m d l z n h =
      record {
        machine = h.machine;
        disk = h.disk;
        joined =
            record {
              wf =
                  record {
                    first = record { value = selected.values.first; holds = selected.holds false; wf = selected.wf false };
                    second = record { value = selected.values.second; holds = selected.holds true; wf = selected.wf true };
                  };
              superblock_reads_is = n.reads;
              journal_reads_is = n.pages;
              superblock_writes = sim_superblock_writes m d l z;
              journal_writes_is = sim_journal_writes m d l z;
              writes_apart = λ id1 id2 v1 v2 e q o. n.apart id1 id2 v1 v2 e q (plain_same v1 v2 (n.pieces id1 v1 e).some_block (n.pieces id2 v2 q).some_block ∙ o);
              writes_clear_is = λ id v e. ap (λ (x : Superblock). source_cyclic_interval_overlap g v (interval x.journalStart x.journalLen)) is ∙ (n.pieces id v e).clear;
            };
      }
    where
      selected : Slots g d.superblocks z.slot (super_of C l.kept)
      selected = z.disk.selected

      is : select_superblock selected.values.first selected.values.second ≡ super_of C l.kept
      is = picked_is selected.values ∙ ap (at selected.values) selected.picks ∙ selected.is

  pub neat_meets : (L : Limits) (m : M.Variables) (d : D.Variables) (l : Ledger) → Sim g C p m d l → Neat g C m d l.kept → HalvesMeet g L (record { machine = m; disk = d })
      → SystemMeets g L (record { machine = m; disk = d })
  neat_meets L m d l z n h = before_meets g L (record { machine = m; disk = d }) (neat_before L m d l z n h)
