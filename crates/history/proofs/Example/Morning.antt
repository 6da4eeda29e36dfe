-- The example's morning: from the first disk a superblock read that comes back damaged, ask again, and the load to Ready.
use Rattle.std.specs.Prelude.{Bool, true, false, refl, []}
use Rattle.std.proofs.Common.{sym, ◌∙◌, ap, subst, inl, arith}
use Rattle.std.proofs.Math.Option.{none, some}
use Rattle.interval.specs.Interval.{journal_front_interval, journal_back_interval}
use Rattle.superblock.specs.declared.Superblock.{Superblock}
use Rattle.superblock.specs.Superblock.{increment_superblock_counter, increments1, select_superblock_index, select_superblock}
use Rattle.superblock.specs.Laws.{WFSuperblock}
use Rattle.laws.specs.Sets.{Ids, empty_ids, no_keys, AtMost, none_few, Two, both, at, put, none_some, at_both}
use Rattle.source.specs.JournalDisk.{RespReadSuperblockOp, NoDiskOp}
use Rattle.source.specs.JournalCache as M
use Rattle.source.specs.JournalCache.{SuperblockReadResult, SuperblockSuccess, SuperblockUnfinished, SuperblockCorruption, PageInSuperblockRespStep, FinishLoadingSuperblockPhaseStep}
use Rattle.source.specs.JournalSystem as Y
use Rattle.source.specs.Limits.{limits, DiskCounts}
use Rattle.source.specs.Departures.{Source, AskAgainStep, MachineStep}
use Rattle.history.specs.Ledger.{superblock_read, finish_superblocks, finish_other, ask_again, read_superblock}
use Rattle.history.proofs.Journal.Slots.{Slots}
use Rattle.history.proofs.Simulation.Relation.{idle}
use Rattle.history.specs.Statement.{tied_corrupt, tied_again, tied_finish_superblocks}
use Rattle.codec.specs.Format.{format}
use Rattle.history.proofs.Loads.Superblocks.{reading, resting, limits_room, Read, read_put, superblocks_at, one, one_ids, ones_few, ones_waiting, ones_answered, slot_ask, slot_answer}
use Rattle.history.proofs.Calls.Finish.{finish_takes}
use Rattle.history.proofs.Loads.Journal.{other_at}
use Rattle.history.proofs.Example.Walk.{Somewhere, Step, onward}
use Rattle.history.proofs.Example.Setting.{sb0_wf, first, init, g, table1, sb0, slots0, j0, j0_sized, none_pending, counts, day_at}
use Rattle.history.proofs.Reach.Reachable.{reached_init}

selected0 : Slots g slots0 false sb0
unfolding select_superblock_index increments1 increment_superblock_counter
selected0 = record { values = both sb0; holds = λ b. at_both (some sb0) b ∙ ap (λ (x : Superblock). some x) (sym (at_both sb0 b)); wf = λ b. subst (WFSuperblock g) (sym (at_both sb0 b)) sb0_wf; picks = refl; is = refl }

-- the disk while only superblocks are read
disk_reading : (reads : Two Ids) → ((which : Bool) → AtMost 8 (at reads which)) → DiskCounts limits (reading reads no_keys slots0 j0)
disk_reading reads few = record { superblock_reads_few = few; journal_reads_few = none_few 8; journal_writes_few = none_few 16 }

rest_few : (which : Bool) → AtMost 8 (at (both empty_ids) which)
rest_few which = subst (AtMost 8) (sym (at_both empty_ids which)) (none_few 8)

abbrev reading1 : Y.Variables
reading1 = record { machine = superblocks_at (one false) (both SuperblockUnfinished); disk = reading (one_ids false) no_keys slots0 j0 }

abbrev corrupt1 : Y.Variables
corrupt1 = record { machine = superblocks_at (both none) (put (both SuperblockUnfinished) false SuperblockCorruption); disk = resting slots0 j0 }

unread : Read (both SuperblockUnfinished) selected0.values
unread b = inl (at_both SuperblockUnfinished b)

-- a read, damaged
d0 : Somewhere first
d0 = (_, reached_init g format limits first table1 init j0_sized)

asks : Somewhere first → Step first (read_superblock false 1) reading1
asks r =
    onward (read_superblock false 1) r (λ q. slot_ask g format limits limits_room slots0 j0 false sb0 selected0 refl j0_sized false (both SuperblockUnfinished) unread refl)
    tt (record { sync_few = none_few 32 }) (disk_reading (one_ids false) (λ b. ones_few 8 false b (omega arith)))

pub d1 : Step first (read_superblock false 1) reading1
d1 = asks d0

pub d2 : Step reading1 (superblock_read false 1 false) corrupt1
d2 =
    onward (superblock_read false 1 false) d1.1
    (λ q.
    record {
      event = MachineStep (RespReadSuperblockOp 1 false none) (Source (PageInSuperblockRespStep false));
      tied = tied_corrupt;
      allowed =
          record {
            meets = q;
            step =
                record {
                  machine = record { id = 1; superblock = none; op = refl; waiting = refl; next = refl };
                  disk = record { waiting = ones_waiting false; whole = λ v e. none_some refl e; next = λ i. reading (ones_answered false i) no_keys slots0 j0 };
                };
          };
    })
    tt (record { sync_few = none_few 32 }) (disk_reading (both empty_ids) rest_few)

-- asked again
pub d3 : Step corrupt1 (ask_again false) first
d3 =
    onward (ask_again false) d2.1
    (λ q.
    record {
      event = MachineStep NoDiskOp (AskAgainStep false);
      tied = tied_again;
      allowed = record { meets = q; step = record { machine = record { op = refl; corrupt = refl; next = refl }; disk = record { next = refl } } };
    })
    tt (record { sync_few = none_few 32 }) (disk_reading (both empty_ids) rest_few)

-- both slots whole
abbrev results1 : Two SuperblockReadResult
results1 = put (both SuperblockUnfinished) false (SuperblockSuccess sb0)

abbrev results2 : Two SuperblockReadResult
results2 = put results1 true (SuperblockSuccess sb0)

abbrev read1 : Y.Variables
read1 = record { machine = superblocks_at (both none) results1; disk = resting slots0 j0 }

abbrev reading2 : Y.Variables
reading2 = record { machine = superblocks_at (one true) results1; disk = reading (one_ids true) no_keys slots0 j0 }

abbrev read2 : Y.Variables
read2 = record { machine = superblocks_at (both none) results2; disk = resting slots0 j0 }

abbrev chosen : Y.Variables
chosen = record { machine = other_at sb0 false (both none) (both none); disk = resting slots0 j0 }

half_read : Read results1 (both sb0)
half_read = read_put (both SuperblockUnfinished) (both sb0) false (λ b. inl (at_both SuperblockUnfinished b))

pub d4 : Step first (read_superblock false 1) reading1
d4 = asks d3.1

pub d5 : Step reading1 (superblock_read false 1 true) read1
unfolding selected0
d5 =
    onward (superblock_read false 1 true) d4.1 (λ q. slot_answer g format limits limits_room slots0 j0 false sb0 selected0 refl j0_sized false (both SuperblockUnfinished) unread refl)
    tt (record { sync_few = none_few 32 }) (disk_reading (both empty_ids) rest_few)

pub d6 : Step read1 (read_superblock true 1) reading2
unfolding selected0
d6 =
    onward (read_superblock true 1) d5.1 (λ q. slot_ask g format limits limits_room slots0 j0 false sb0 selected0 refl j0_sized true results1 half_read refl)
    tt (record { sync_few = none_few 32 }) (disk_reading (one_ids true) (λ b. ones_few 8 true b (omega arith)))

pub d7 : Step reading2 (superblock_read true 1 true) read2
unfolding selected0
d7 =
    onward (superblock_read true 1 true) d6.1 (λ q. slot_answer g format limits limits_room slots0 j0 false sb0 selected0 refl j0_sized true results1 half_read refl)
    tt (record { sync_few = none_few 32 }) (disk_reading (both empty_ids) rest_few)

pub d8 : Step read2 finish_superblocks chosen
unfolding select_superblock select_superblock_index increments1 increment_superblock_counter
d8 =
    onward finish_superblocks d7.1
    (λ q.
    record {
      event = MachineStep NoDiskOp (Source FinishLoadingSuperblockPhaseStep);
      tied = tied_finish_superblocks;
      allowed =
          record {
            meets = q;
            step =
                record {
                  machine = record { op = refl; superblock1 = sb0; success1 = refl; superblock2 = sb0; success2 = refl; one_success = inl refl; next = refl; loc = table1; loc_is = refl };
                  disk = record { next = refl };
                };
          };
    })
    tt (record { sync_few = none_few 32 })
    (disk_reading (both empty_ids) rest_few)

abbrev pub started : Y.Variables
started = record { machine = M.Variables.Ready (day_at no_keys sb0 false 0 0 false none [] [] empty_ids idle); disk = resting slots0 j0 }

pub d9 : Step chosen finish_other started
unfolding journal_front_interval journal_back_interval
d9 =
    onward finish_other d8.1
    (λ q. finish_takes g format limits _ (resting slots0 j0) [] q (λ v e. none_some refl e) (λ v e. none_some refl e) format.parse_empty)
    tt (counts (none_few 32) (none_few 16) none_pending) (disk_reading (both empty_ids) rest_few)
