-- The example day's steps: entries frozen and written from there, a location commit that keeps what was written after the mark and lands
-- twice, a write that passes the ring's end, a log commit, and a last write; a sync request before either commit. Each step is allowed, and each
-- state meets question 2.
use Rattle.std.specs.Prelude.{ℕ, true, false, ◌≡◌, refl}
use Rattle.std.proofs.Math.Option.{none, some}
use Rattle.std.proofs.Common.{arith}
use Rattle.laws.specs.Sets.{empty_ids, join, no_keys, bind, none_few, none_some, join_here, bind_here}
use Rattle.laws.specs.Maps.{leave_join, join_leave, unbind_bind, bind_unbind}
use Rattle.layout.specs.Journal.{journal_pos_add}
use Rattle.interval.specs.Interval.{interval}
use Rattle.superblock.specs.Superblock.{increment_superblock_counter}
use Rattle.codec.specs.Format.{format}
use Rattle.source.specs.Limits.{limits}
use Rattle.source.proofs.Laws.Format.{limits_fit}
use Rattle.history.specs.Ledger.{write_journal, journal_written, commit_log, commit_location, superblock_written, freeze, receive, add, push_sync, land, nonsense}
use Rattle.history.proofs.Calls.Called.{nonsense_refused}
use Rattle.history.proofs.Calls.Can.{can_add, can_push, can_freeze, can_receive, can_write, can_wrap, can_written, can_log, can_location, can_land, can_answer_log, can_answer_location, no_location, no_log}
use Rattle.history.proofs.Example.Setting.{g, table2, table2_valid, small, large, one_block, two_blocks, small_none_blank, large_none_blank, small_few, small_fit, large_few, large_fit, none_pending, small_pending, large_pending, large_frozen, both_pending, counts, writing, one_id_is, one_write, two_ids, two_writes}
use Rattle.history.proofs.Example.Walk.{Step, onward, Refused}
use Rattle.history.proofs.Example.Morning.{d9}
use Rattle.history.proofs.Example.States.{sb1, sb2, j1, j2, j3, j4, few1, few2, few3, few4, few5, few6, few7, few8, few9, few10, s9, s10, p10, s11, s12, s13, s14, s15, s16, s17, s18, s19, s20, s21, s22, s23, s24, p24, s25, s26, s27, s28, s29}

-- sixteen long entries, frozen: they are written from what is frozen, though a short one stands in memory, and the mark goes after them
pub d10 : Step s9 (add large) s10
d10 =
    onward (add large) d9.1 (λ q. can_add q large refl large_none_blank) (large_few, large_fit)
    (counts (none_few 32) (none_few 16) large_pending) (writing (none_few 16))

-- a sync request behind them
pub pushed8 : Step s10 (push_sync 8) p10
pushed8 =
    onward (push_sync 8) d10.1 (λ q. can_push q 8 refl) tt
    (counts few1 (none_few 16) large_pending) (writing (none_few 16))

pub d11 : Step p10 freeze s11
d11 =
    onward freeze pushed8.1 (λ q. can_freeze q refl (λ e. none_some refl e) refl) tt
    (counts few2 (none_few 16) large_frozen) (writing (none_few 16))

pub d12 : Step s11 (add small) s12
d12 =
    onward (add small) d11.1 (λ q. can_add q small refl small_none_blank) (small_few, small_fit)
    (counts few2 (none_few 16) both_pending) (writing (none_few 16))

pub d13 : Step s12 (write_journal 1 none) s13
unfolding journal_pos_add j1 large
d13 =
    onward (write_journal 1 none) d12.1 (λ q. can_write q limits_fit (omega arith) refl 0 2 refl two_blocks (omega arith) 1 refl (omega arith)) tt
    (counts few2 (one_id_is 1) small_pending) (writing (one_write 1 (interval 0 2)))

pub d14 : Step s13 (journal_written 1) s14
d14 =
    onward (journal_written 1) d13.1 (λ q. can_written q 1 (interval 0 2) (join_here empty_ids 1) (bind_here no_keys 1 (interval 0 2)) empty_ids (join_leave 1) no_keys (bind_unbind 1 (interval 0 2))) tt
    (counts few2 (none_few 16) small_pending) (writing (none_few 16))

-- the short one, written after the mark
pub d15 : Step s14 (write_journal 2 none) s15
unfolding journal_pos_add j2 small
d15 =
    onward (write_journal 2 none) d14.1 (λ q. can_write q limits_fit (omega arith) refl 2 1 refl one_block (omega arith) 2 refl (omega arith)) tt
    (counts few3 (one_id_is 2) none_pending) (writing (one_write 2 (interval 2 1)))

pub d16 : Step s15 (journal_written 2) s16
d16 =
    onward (journal_written 2) d15.1 (λ q. can_written q 2 (interval 2 1) (join_here empty_ids 2) (bind_here no_keys 2 (interval 2 1)) empty_ids (join_leave 2) no_keys (bind_unbind 2 (interval 2 1))) tt
    (counts few3 (none_few 16) none_pending) (writing (none_few 16))

-- a location received, and a location commit, which lands twice: the start goes on by two blocks, and the range after the mark stays
pub d17 : Step s16 (receive table2) s17
d17 =
    onward (receive table2) d16.1 (λ q. can_receive q table2 refl refl table2_valid) tt
    (counts few3 (none_few 16) none_pending) (writing (none_few 16))

pub d18 : Step s17 (commit_location 3) s18
unfolding increment_superblock_counter journal_pos_add
d18 =
    onward (commit_location 3) d17.1 (λ q. can_location q refl refl refl 3 (λ w e. none_some refl e) (λ w e. none_some refl e) table2 refl) tt
    (counts few4 (none_few 16) none_pending) (writing (none_few 16))

pub d19 : Step s18 (land true) s19
d19 =
    onward (land true) d18.1 (λ q. can_land q true (record { id = 3; req = record { superblock = sb1 } }) refl) tt
    (counts few4 (none_few 16) none_pending) (writing (none_few 16))

pub again : Step s19 (land true) s19
again =
    onward (land true) d19.1 (λ q. can_land q true (record { id = 3; req = record { superblock = sb1 } }) refl) tt
    (counts few4 (none_few 16) none_pending) (writing (none_few 16))

pub d20 : Step s19 (superblock_written 3) s20
d20 =
    onward (superblock_written 3) again.1 (λ q. can_answer_location q 3 true sb1 refl refl refl refl refl) tt
    (counts few5 (none_few 16) none_pending) (writing (none_few 16))

-- the long entries again: this write passes the ring's end
pub d21 : Step s20 (add large) s21
d21 =
    onward (add large) d20.1 (λ q. can_add q large refl large_none_blank) (large_few, large_fit)
    (counts few5 (none_few 16) large_pending) (writing (none_few 16))

pub d22 : Step s21 (write_journal 4 (some 5)) s22
unfolding journal_pos_add j3 large
d22 =
    onward (write_journal 4 (some 5)) d21.1 (λ q. can_wrap q limits_fit (omega arith) refl 3 2 refl two_blocks (omega arith) 4 refl 5 (λ (e : ◌≡◌ {A = ℕ} 5 4). omega arith) refl (omega arith)) tt
    (counts few6 (two_ids 4 5) none_pending) (writing (two_writes 4 5 (interval 3 1) (interval 0 1)))

pub d23 : Step s22 (journal_written 5) s23
d23 =
    onward (journal_written 5) d22.1 (λ q. can_written q 5 (interval 0 1) (join_here (join empty_ids 4) 5) (bind_here (bind no_keys 4 (interval 3 1)) 5 (interval 0 1)) (join empty_ids 4) (leave_join (join empty_ids 4) 5 refl) (bind no_keys 4 (interval 3 1)) (unbind_bind (bind no_keys 4 (interval 3 1)) 5 (interval 0 1) refl)) tt
    (counts few6 (one_id_is 4) none_pending) (writing (one_write 4 (interval 3 1)))

pub d24 : Step s23 (journal_written 4) s24
d24 =
    onward (journal_written 4) d23.1 (λ q. can_written q 4 (interval 3 1) (join_here empty_ids 4) (bind_here no_keys 4 (interval 3 1)) empty_ids (join_leave 4) no_keys (bind_unbind 4 (interval 3 1))) tt
    (counts few6 (none_few 16) none_pending) (writing (none_few 16))

-- a sync request with nothing in memory
pub pushed9 : Step s24 (push_sync 9) p24
pushed9 =
    onward (push_sync 9) d24.1 (λ q. can_push q 9 refl) tt
    (counts few7 (none_few 16) none_pending) (writing (none_few 16))

-- a log commit keeps both ranges
pub d25 : Step p24 (commit_log 6) s25
unfolding increment_superblock_counter
d25 =
    onward (commit_log 6) pushed9.1 (λ q. can_log q refl refl refl 6 (λ w e. none_some refl e) (λ w e. none_some refl e)) tt
    (counts few8 (none_few 16) none_pending) (writing (none_few 16))

pub d26 : Step s25 (land false) s26
d26 =
    onward (land false) d25.1 (λ q. can_land q false (record { id = 6; req = record { superblock = sb2 } }) refl) tt
    (counts few8 (none_few 16) none_pending) (writing (none_few 16))

pub d27 : Step s26 (superblock_written 6) s27
d27 =
    onward (superblock_written 6) d26.1 (λ q. can_answer_log q 6 false sb2 refl refl refl refl refl) tt
    (counts few9 (none_few 16) none_pending) (writing (none_few 16))

-- a last write, into the one block that is free
pub d28 : Step s27 (add small) s28
d28 =
    onward (add small) d27.1 (λ q. can_add q small refl small_none_blank) (small_few, small_fit)
    (counts few9 (none_few 16) small_pending) (writing (none_few 16))

pub d29 : Step s28 (write_journal 7 none) s29
unfolding journal_pos_add j4 small
d29 =
    onward (write_journal 7 none) d28.1 (λ q. can_write q limits_fit (omega arith) refl 1 1 refl one_block (omega arith) 7 refl (omega arith)) tt
    (counts few10 (one_id_is 7) none_pending) (writing (one_write 7 (interval 1 1)))

-- what is refused: a location commit before a location was received, a log commit with writes outstanding, a third slot
pub early : Refused s16 (commit_location 9)
early t = no_location t 9 refl

pub outstanding : Refused s22 (commit_log 8)
outstanding t = no_log t 8 4 refl

pub third_slot : Refused s28 nonsense
third_slot t = nonsense_refused g format limits s28 t
