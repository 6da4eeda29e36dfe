-- The example day's states: its superblocks and journals, and the store after each call that is taken.
use Rattle.std.specs.Prelude.{true, false, ◌≡◌, List, [], ◌∷◌}
use Rattle.std.proofs.Common.{sym, ◌∙◌, ap, subst, arith}
use Rattle.std.proofs.Math.Option.{Option, none, some}
use Rattle.laws.specs.Sets.{Ids, empty_ids, join, Map, no_keys, bind, each, keys, ids_of, AtMost, listed_few, Two, both}
use Rattle.laws.specs.Maps.{one_few, keys_bind, keys_one, keys_each}
use Rattle.interval.specs.Journal.{JournalBlock}
use Rattle.superblock.specs.declared.Superblock.{Superblock}
use Rattle.codec.specs.Format.{encode_blocks}
use Rattle.source.specs.JournalDisk as D
use Rattle.source.specs.JournalCache.{SyncReqStatus, State3, status3to2, status2to1, sync_reqs3to2, sync_reqs2to1}
use Rattle.source.specs.JournalSystem as Y
use Rattle.history.proofs.Simulation.Relation.{idle, busy, to_slot}
use Rattle.interval.specs.Interval.{interval}
use Rattle.interval.proofs.Update.{updated}
use Rattle.history.specs.Ledger.{log, location}
use Rattle.history.proofs.Calls.Can.{store}
use Rattle.history.proofs.Example.Setting.{table2, sb0, slots0, j0, small, large, day_at, day_disk}

-- superblocks, slots and journals
abbrev pub sb1 : Superblock
sb1 = record { counter = 1; journalStart = 2; journalLen = 1; indirectionTableLoc = table2 }

abbrev pub sb2 : Superblock
sb2 = record { counter = 2; journalStart = 2; journalLen = 3; indirectionTableLoc = table2 }

abbrev pub slots1 : Two (Option Superblock)
slots1 = record { first = some sb0; second = some sb1 }

abbrev pub slots2 : Two (Option Superblock)
slots2 = record { first = some sb2; second = some sb1 }

unfoldable pub j1 : List (Option JournalBlock)
j1 = updated j0 (interval 0 2) (encode_blocks large)

unfoldable pub j2 : List (Option JournalBlock)
j2 = updated j1 (interval 2 1) (encode_blocks small)

unfoldable pub j3 : List (Option JournalBlock)
j3 = updated j2 (interval 3 2) (encode_blocks large)

unfoldable pub j4 : List (Option JournalBlock)
j4 = updated j3 (interval 1 1) (encode_blocks small)

-- sync requests: 8 is pushed and moved by the freeze, by writes of entries in memory, by the location commit's request with none there, and by its answer;
-- 9 is pushed with nothing in memory and moved by the log commit's request and its answer
abbrev pub r1 : Map SyncReqStatus
r1 = bind no_keys 8 State3

abbrev pub r2 : Map SyncReqStatus
r2 = sync_reqs3to2 r1

abbrev pub r3 : Map SyncReqStatus
r3 = sync_reqs3to2 r2

abbrev pub r4 : Map SyncReqStatus
r4 = sync_reqs3to2 r3

abbrev pub r5 : Map SyncReqStatus
r5 = sync_reqs2to1 r4

abbrev pub r6 : Map SyncReqStatus
r6 = sync_reqs3to2 r5

abbrev pub r7 : Map SyncReqStatus
r7 = bind r6 9 State3

abbrev pub r8 : Map SyncReqStatus
r8 = sync_reqs3to2 r7

abbrev pub r9 : Map SyncReqStatus
r9 = sync_reqs2to1 r8

abbrev pub r10 : Map SyncReqStatus
r10 = sync_reqs3to2 r9

-- they are few: a move leaves which there are
moved_few : (f : SyncReqStatus → SyncReqStatus) (m : Map SyncReqStatus) → AtMost 32 (keys m) → AtMost 32 (keys (each f m))
moved_few f m h = subst (AtMost 32) (sym (keys_each f m)) h

pub few1 : AtMost 32 (keys r1)
few1 = subst (AtMost 32) (sym (keys_one 8 State3)) (one_few 32 8 (omega arith))

pub few2 : AtMost 32 (keys r2)
few2 = moved_few status3to2 r1 few1

pub few3 : AtMost 32 (keys r3)
few3 = moved_few status3to2 r2 few2

pub few4 : AtMost 32 (keys r4)
few4 = moved_few status3to2 r3 few3

pub few5 : AtMost 32 (keys r5)
few5 = moved_few status2to1 r4 few4

pub few6 : AtMost 32 (keys r6)
few6 = moved_few status3to2 r5 few5

only_8 : keys r6 ≡ join empty_ids 8
only_8 = keys_each status3to2 r5 ∙ keys_each status2to1 r4 ∙ keys_each status3to2 r3 ∙ keys_each status3to2 r2 ∙ keys_each status3to2 r1 ∙ keys_one 8 State3

pub few7 : AtMost 32 (keys r7)
unfolding ids_of
few7 = subst (AtMost 32) (sym (keys_bind r6 9 State3 ∙ ap (λ (s : Ids). join s 9) only_8)) (listed_few 32 (9 ∷ 8 ∷ []) (omega arith))

pub few8 : AtMost 32 (keys r8)
few8 = moved_few status3to2 r7 few7

pub few9 : AtMost 32 (keys r9)
few9 = moved_few status2to1 r8 few8

pub few10 : AtMost 32 (keys r10)
few10 = moved_few status3to2 r9 few9

-- the store after each call that is taken; p10 and p24 are after a push
abbrev pub s9 : Y.Variables
s9 = store (day_at no_keys sb0 false 0 0 false none [] [] empty_ids idle) (day_disk (both none) no_keys slots0 j0)

abbrev pub s10 : Y.Variables
s10 = store (day_at no_keys sb0 false 0 0 false none [] large empty_ids idle) (day_disk (both none) no_keys slots0 j0)

abbrev pub p10 : Y.Variables
p10 = store (day_at r1 sb0 false 0 0 false none [] large empty_ids idle) (day_disk (both none) no_keys slots0 j0)

abbrev pub s11 : Y.Variables
s11 = store (day_at r2 sb0 false 0 0 true none large [] empty_ids idle) (day_disk (both none) no_keys slots0 j0)

abbrev pub s12 : Y.Variables
s12 = store (day_at r2 sb0 false 0 0 true none large small empty_ids idle) (day_disk (both none) no_keys slots0 j0)

abbrev pub s13 : Y.Variables
s13 = store (day_at r2 sb0 false 2 2 true none [] small (join empty_ids 1) idle) (day_disk (both none) (bind no_keys 1 (interval 0 2)) slots0 j1)

abbrev pub s14 : Y.Variables
s14 = store (day_at r2 sb0 false 2 2 true none [] small empty_ids idle) (day_disk (both none) no_keys slots0 j1)

abbrev pub s15 : Y.Variables
s15 = store (day_at r3 sb0 false 3 2 true none [] [] (join empty_ids 2) idle) (day_disk (both none) (bind no_keys 2 (interval 2 1)) slots0 j2)

abbrev pub s16 : Y.Variables
s16 = store (day_at r3 sb0 false 3 2 true none [] [] empty_ids idle) (day_disk (both none) no_keys slots0 j2)

abbrev pub s17 : Y.Variables
s17 = store (day_at r3 sb0 false 3 2 true (some table2) [] [] empty_ids idle) (day_disk (both none) no_keys slots0 j2)

abbrev pub s18 : Y.Variables
s18 = store (day_at r4 sb0 false 3 2 true (some table2) [] [] empty_ids (busy location 3 sb1)) (day_disk (to_slot true 3 sb1) no_keys slots0 j2)

abbrev pub s19 : Y.Variables
s19 = store (day_at r4 sb0 false 3 2 true (some table2) [] [] empty_ids (busy location 3 sb1)) (day_disk (to_slot true 3 sb1) no_keys slots1 j2)

abbrev pub s20 : Y.Variables
s20 = store (day_at r5 sb1 true 1 0 false none [] [] empty_ids idle) (day_disk (both none) no_keys slots1 j2)

abbrev pub s21 : Y.Variables
s21 = store (day_at r5 sb1 true 1 0 false none [] large empty_ids idle) (day_disk (both none) no_keys slots1 j2)

abbrev pub s22 : Y.Variables
s22 = store (day_at r6 sb1 true 3 0 false none [] [] (join (join empty_ids 4) 5) idle) (day_disk (both none) (bind (bind no_keys 4 (interval 3 1)) 5 (interval 0 1)) slots1 j3)

abbrev pub s23 : Y.Variables
s23 = store (day_at r6 sb1 true 3 0 false none [] [] (join empty_ids 4) idle) (day_disk (both none) (bind no_keys 4 (interval 3 1)) slots1 j3)

abbrev pub s24 : Y.Variables
s24 = store (day_at r6 sb1 true 3 0 false none [] [] empty_ids idle) (day_disk (both none) no_keys slots1 j3)

abbrev pub p24 : Y.Variables
p24 = store (day_at r7 sb1 true 3 0 false none [] [] empty_ids idle) (day_disk (both none) no_keys slots1 j3)

abbrev pub s25 : Y.Variables
s25 = store (day_at r8 sb1 true 3 0 false none [] [] empty_ids (busy log 6 sb2)) (day_disk (to_slot false 6 sb2) no_keys slots1 j3)

abbrev pub s26 : Y.Variables
s26 = store (day_at r8 sb1 true 3 0 false none [] [] empty_ids (busy log 6 sb2)) (day_disk (to_slot false 6 sb2) no_keys slots2 j3)

abbrev pub s27 : Y.Variables
s27 = store (day_at r9 sb2 false 3 0 false none [] [] empty_ids idle) (day_disk (both none) no_keys slots2 j3)

abbrev pub s28 : Y.Variables
s28 = store (day_at r9 sb2 false 3 0 false none [] small empty_ids idle) (day_disk (both none) no_keys slots2 j3)

abbrev pub s29 : Y.Variables
s29 = store (day_at r10 sb2 false 4 0 false none [] [] (join empty_ids 7) idle) (day_disk (both none) (bind no_keys 7 (interval 1 1)) slots2 j4)
