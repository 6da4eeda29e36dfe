-- The example day, whole: entries frozen, commits of both kinds, ranges that go round the ring of four blocks, a damaged read, three calls that
-- are refused because they are not allowed, and a crash with a write in flight, which leaves its block unreadable. Then it is loaded, and
-- shows its ledger. So what demand 3 speaks of is there.
use Rattle.std.specs.Prelude.{ℕ, zero, suc, ◌+◌, ◌%◌, ◌<◌, Bool, true, false, ◌≡◌, refl, List, [], ◌∷◌, ◌++◌, length, get_or}
use Rattle.std.proofs.Common.{subst, sym, ◌∙◌, ap, append-nil, inl, ⊎_elim, arith}
use Rattle.std.proofs.Math.Option.{Option, none, some}
use Rattle.laws.specs.Cut.{flat}
use Rattle.laws.specs.Sets.{Map, no_keys, bind, none_some, bind_here}
use Rattle.laws.specs.Maps.{values_bind}
use Rattle.interval.specs.declared.JournalInterval.{JournalInterval}
use Rattle.interval.specs.Interval.{interval, journal_front_interval, journal_back_interval}
use Rattle.interval.specs.Facts.{InCyclicRange}
use Rattle.interval.specs.Journal.{JournalBlock}
use Rattle.superblock.specs.declared.Superblock.{Superblock}
use Rattle.superblock.specs.Superblock.{increment_superblock_counter}
use Rattle.codec.specs.Format.{format}
use Rattle.source.specs.JournalDisk.{JournalUntouched}
use Rattle.source.specs.JournalCache as M
use Rattle.source.specs.JournalCache.{State1, sync_reqs_of}
use Rattle.source.specs.JournalSystem as Y
use Rattle.source.specs.JournalSystem.{superblock_of_disk}
use Rattle.source.specs.Limits.{limits}
use Rattle.source.specs.Departures.{CrashStep}
use Rattle.history.specs.Ledger.{Call, write_journal, journal_written, commit_log, commit_location, superblock_written, read_superblock, superblock_read, finish_superblocks, finish_other, freeze, receive, add, push_sync, ask_again, land, crash, nonsense, blocks, read_journal, journal_read, Kept, fresh, begin, tell, books, Shown, shown}
use Rattle.history.specs.Statement.{tied_crash, Takes, shows, Loaded}
use Rattle.history.specs.Coverage.{first_page, said, pages, enter, Covered}
use Rattle.history.proofs.Demand.{demand_3}
use Rattle.history.proofs.Sync.{sync_covered}
use Rattle.history.proofs.Whole.Lists.{books_append, books_loads}
use Rattle.history.proofs.Loads.Comes.{load_calls, taken}
use Rattle.history.proofs.Simulation.Relation.{super_of}
use Rattle.history.proofs.Loads.Superblocks.{resting, limits_room}
use Rattle.codec.specs.Codec.{Sized}
use Rattle.history.proofs.Loads.Loads.{crash_loads_from}
use Rattle.history.proofs.Example.Setting.{g, table1, table2, sb0, first, init, init_super, small, large, one_block, two_blocks}
use Rattle.history.proofs.Example.Walk.{Walk, there, ◌then◌, ◌refused-then◌, walked}
use Rattle.history.proofs.Example.Morning.{d1, d2, d3, d4, d5, d6, d7, d8, d9}
use Rattle.history.proofs.Example.States.{sb2, slots2, j4, s29}
use Rattle.history.proofs.Example.Day.{d10, pushed8, d11, d12, d13, d14, d15, d16, d17, d18, d19, again, d20, d21, d22, d23, d24, pushed9, d25, d26, d27, d28, d29, early, outstanding, third_slot}

-- the calls: a location commit before a location was received, a log commit with writes outstanding and nonsense are refused
unfoldable pub day : List Call
day =
    read_superblock false 1 ∷ superblock_read false 1 false ∷ ask_again false
    ∷ read_superblock false 1 ∷ superblock_read false 1 true ∷ read_superblock true 1 ∷ superblock_read true 1 true ∷ finish_superblocks ∷ finish_other
    ∷ add large ∷ push_sync 8 ∷ freeze ∷ add small ∷ write_journal 1 none ∷ journal_written 1 ∷ write_journal 2 none ∷ journal_written 2
    ∷ commit_location 9 ∷ receive table2 ∷ commit_location 3 ∷ land true ∷ land true ∷ superblock_written 3
    ∷ add large ∷ write_journal 4 (some 5) ∷ commit_log 8 ∷ journal_written 5 ∷ journal_written 4 ∷ push_sync 9 ∷ commit_log 6 ∷ land false ∷ superblock_written 6
    ∷ add small ∷ nonsense ∷ write_journal 7 none ∷ []

unfoldable pub answers : List Bool
answers =
    true ∷ true ∷ true
    ∷ true ∷ true ∷ true ∷ true ∷ true ∷ true
    ∷ true ∷ true ∷ true ∷ true ∷ true ∷ true ∷ true ∷ true
    ∷ false ∷ true ∷ true ∷ true ∷ true ∷ true
    ∷ true ∷ true ∷ false ∷ true ∷ true ∷ true ∷ true ∷ true ∷ true
    ∷ true ∷ false ∷ true ∷ []

pub walk : Walk first day answers s29
unfolding day answers
walk =
    d1 then d2 then d3 then d4 then d5 then d6 then d7 then d8 then d9
    then d10 then pushed8 then d11 then d12 then d13 then d14 then d15 then d16
    then early refused-then d17 then d18 then d19 then again then d20
    then d21 then d22 then outstanding refused-then d23 then d24 then pushed9 then d25 then d26 then d27
    then d28 then third_slot refused-then d29 then there

-- the crash leaves block 1 unreadable, as its picture has it
abbrev flying : Map JournalInterval
flying = bind no_keys 7 (interval 1 1)

abbrev picture : List (Option JournalBlock)
picture = none ∷ none ∷ none ∷ none ∷ []

abbrev j5 : List (Option JournalBlock)
j5 = get_or j4 0 none ∷ none ∷ get_or j4 2 none ∷ get_or j4 3 none ∷ []

abbrev s30 : Y.Variables
s30 = record { machine = M.Variables.LoadingSuperblock M.initial; disk = resting slots2 j5 }

j5_sized : Sized j5
j5_sized zero b e = d29.1.1.meets.disk.shape.block_size 0 b e
j5_sized (suc zero) b e = none_some refl e
j5_sized (suc (suc zero)) b e = d29.1.1.meets.disk.shape.block_size 2 b e
j5_sized (suc (suc (suc zero))) b e = d29.1.1.meets.disk.shape.block_size 3 b e
j5_sized (suc (suc (suc (suc i)))) b e = none_some refl e

-- a block that the write does not cover
untouched : (i : ℕ) → (InCyclicRange g i (interval 1 1) → ⊥) → JournalUntouched g i flying
untouched i f = values_bind (λ (v : JournalInterval). InCyclicRange g i v → ⊥) no_keys 7 (interval 1 1) (λ id v e. none_some refl e) f

kept_blocks : (i : ℕ) → i < 4 → JournalUntouched g i flying → get_or j4 i none ≡ get_or j5 i none
kept_blocks zero h f = refl
kept_blocks (suc zero) h f = absurd (f 7 (interval 1 1) (bind_here no_keys 7 (interval 1 1)) (inl (omega arith, omega arith)))
kept_blocks (suc (suc zero)) h f = refl
kept_blocks (suc (suc (suc zero))) h f = refl
kept_blocks (suc (suc (suc (suc i)))) h f = absurd (omega arith)

pictured_blocks : (i : ℕ) → i < 4 → (JournalUntouched g i flying → ⊥) → get_or j5 i none ≡ get_or picture i none
pictured_blocks zero h f = absurd (f (untouched 0 (⊎_elim (λ r. omega arith) (λ r. omega arith))))
pictured_blocks (suc zero) h f = refl
pictured_blocks (suc (suc zero)) h f = absurd (f (untouched 2 (⊎_elim (λ r. omega arith) (λ r. omega arith))))
pictured_blocks (suc (suc (suc zero))) h f = absurd (f (untouched 3 (⊎_elim (λ r. omega arith) (λ r. omega arith))))
pictured_blocks (suc (suc (suc (suc i)))) h f = absurd (omega arith)

j4_size : length j4 ≡ 4
j4_size = d29.1.1.meets.disk.shape.size

crashed : Takes g format limits s29 s30 crash
crashed =
    record {
      event = CrashStep picture;
      tied = tied_crash;
      allowed =
          record {
            meets = d29.1.1.meets;
            step =
                record {
                  machine = refl;
                  disk =
                      record {
                        source =
                            record {
                              no_superblock_reads = refl;
                              no_journal_reads = refl;
                              no_superblock_writes = refl;
                              no_journal_writes = refl;
                              superblocks_kept = refl;
                              journal_kept = record { size = sym j4_size; kept = λ i h f. kept_blocks i (omega (arith, h, j4_size)) f };
                            };
                        from_picture = λ i h f. pictured_blocks i (omega (arith, h, j4_size)) f;
                      };
                };
          };
    }

-- what its ledger keeps: counter 2, start 2, table 2, the range after the mark and the one that passes the ring's end
abbrev kept : Superblock → Kept
kept v = (books g format (begin v) day answers).kept

kept_is : super_of format (kept sb0) ≡ sb2
unfolding day answers tell books blocks increment_superblock_counter large
kept_is = λ i. record { counter = 2; journalStart = (0 + (two_blocks i + 0)) % 4; journalLen = one_block i + (two_blocks i + 0); indirectionTableLoc = table2 }

-- so it tells three blocks, the short entry and then the sixteen long ones
abbrev pub told : Shown
told = record { counter = 2; start = 2; loc = table2; blocks = 3; entries = small ++ large }

told_is : shown format (fresh (kept sb0)) ≡ told
unfolding day answers tell books blocks flat increment_superblock_counter large
told_is =
    λ i. record { counter = 2; start = (0 + (two_blocks i + 0)) % 4; loc = table2; blocks = one_block i + (two_blocks i + 0); entries = small ++ append-nil large i }

-- the load: both slots, and the interval in two pieces
unfoldable pub evening : List Call
evening =
    read_superblock false 1 ∷ superblock_read false 1 true ∷ read_superblock true 1 ∷ superblock_read true 1 true ∷ finish_superblocks
    ∷ read_journal false 1 ∷ journal_read 1 true ∷ read_journal true 1 ∷ journal_read 1 true ∷ finish_other ∷ []

two_pieces : load_calls g sb2 ≡ evening
unfolding evening journal_front_interval journal_back_interval
two_pieces = refl

calls_are : load_calls g (super_of format (kept (superblock_of_disk g first.disk init.wf))) ≡ evening
calls_are = ap (λ (v : Superblock). load_calls g (super_of format (kept v))) init_super ∙ ap (load_calls g) kept_is ∙ two_pieces

-- the day, loaded
pub example_loads : (r : M.ReadyVariables) × (h : Loaded g format limits first day answers evening (taken evening) r) × (h.before ≡ s29)
example_loads =
    subst (λ (xs : List Call). (r : M.ReadyVariables) × (h : Loaded g format limits first day answers xs (taken xs) r) × (h.before ≡ s29)) calls_are
    (crash_loads_from g format limits limits_room first table1 init day answers s29 s30 (walked walk) crashed j5_sized)

-- the machine at Ready shows what the ledger tells
pub example_shows : shows example_loads.0 ≡ told
unfolding books tell
example_shows =
    (demand_3 g first table1 init day answers evening (taken evening) example_loads.0 day answers evening (taken evening) example_loads.0 example_loads.1 example_loads.1).first_shows
    ∙ ap (shown format)
    (books_append g format (begin (superblock_of_disk g first.disk init.wf)) _ first s29 day answers (crash ∷ evening) (true ∷ taken evening) (walked walk)
    ∙ books_loads g format limits (fresh (kept (superblock_of_disk g first.disk init.wf))) evening (taken evening) example_loads.1.only_loads)
    ∙ ap (λ (v : Superblock). shown format (fresh (kept v))) init_super
    ∙ told_is

pub example : (r : M.ReadyVariables) × Loaded g format limits first day answers evening (taken evening) r × (shows r ≡ told)
example = (example_loads.0, example_loads.1, example_shows)

-- Both sync requests are at State1 at the end. The first was pushed behind the long entries, which the location commit's landing then dropped; the
-- second with nothing in memory, so that the log commit's request moved it.
pub example_saved : (sync_reqs_of s29.machine 8 ≡ some State1) × (sync_reqs_of s29.machine 9 ≡ some State1)
example_saved = (refl, refl)

-- so each was covered by a landing (Coverage)
pub example_covered : (id : ℕ) → sync_reqs_of s29.machine id ≡ some State1 → Covered g format (first_page (begin (superblock_of_disk g first.disk init.wf))) (said day answers) id
example_covered = sync_covered g first table1 init day answers s29 (walked walk)

-- the day's account: nothing was loaded, four lots were added, and the first of them was dropped
pub example_account : (pages g format (first_page (begin sb0)) (said day answers)).account ≡ record { loaded = []; added = large ++ (small ++ (large ++ small)); dropped = large }
unfolding day answers pages enter tell books blocks flat large small
example_account = λ i. record { loaded = []; added = large ++ (small ++ (large ++ small)); dropped = append-nil large i }
