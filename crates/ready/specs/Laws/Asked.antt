-- A step's questions as facts: what a yes tells, and that nothing more is asked.
use Rattle.std.specs.declared.option.Option as code
use Rattle.std.specs.Prelude.{ℕ, ◌+◌, ◌≤◌, ◌<◌, Bool, true, false, ◌≡◌, refl}
use Rattle.std.proofs.Math.Bool.{not}
use Rattle.std.proofs.Common.{ap, arith}
use borrow.Author.Tests.{leb-true, le-leb, ltb-true, lt-ltb, eqb-true, eq-eqb}
use Rattle.laws.specs.Choice.{also_left, also_right, also_both, and_then_left, and_then_right, and_then_both, ask_yes, ask_holds, false_true}
use Rattle.layout.specs.declared.Geometry.{Geometry}
use Rattle.layout.specs.declared.Location.{Location}
use Rattle.layout.specs.Laws.{ValidIndirectionTableLocation, table_location_facts, facts_table_location}
use Rattle.range.specs.declared.Count.{Count}
use Rattle.memory.specs.declared.Limits.{Limits}
use Rattle.ready.specs.declared.Bodies.{Bodies}
use Rattle.ready.specs.declared.Ready.{Ready}
use Rattle.ready.specs.State.{is_received, is_location, no_commit, sent}
use Rattle.ready.specs.JournalSteps.{sent_blocks, may_write, ask_ids, ask_room, ask_write_back_journal_req}
use Rattle.ready.specs.CommitSteps.{may_commit, ask_advance_log, ask_advance_location}
use Rattle.ready.specs.FreezeSteps.{ask_freeze, ask_receive_frozen_loc}
use Rattle.ready.specs.EntrySteps.{ask_advance}

not_false : (b : Bool) → not b ≡ true → b ≡ false
not_false true e = false_true e
not_false false e = refl

-- WriteBackJournalReq
pub record MayWrite (g : Geometry) (r : Ready) (id1 : ℕ) (id2 : code.Option ℕ) (b : Bodies) : Type 0 where
  pub no_commit_is : no_commit r.commit ≡ true
  pub some_pending : 0 < (sent r.entries b).entries
  pub start_in : r.superblock.journalStart < g.blocks
  pub written_in : r.writtenJournalLen ≤ g.blocks
  pub fits : sent_blocks r b + r.writtenJournalLen ≤ g.blocks
  pub ids_fit : ask_ids r.writes id1 id2 ≡ 0

module _ (g : Geometry) (r : Ready) (id1 : ℕ) (id2 : code.Option ℕ) (b : Bodies) where
  pub write_asked : ask_write_back_journal_req g r id1 id2 b ≡ 0 → MayWrite g r id1 id2 b
  unfolding ask_write_back_journal_req may_write ask_room
  write_asked q =
      let q8 = and_then_right _ _ q in
      let e = ask_yes 6 _ (omega arith) (and_then_left _ _ q) in
      let e1 = also_left _ _ e in
      let e2 = also_left _ _ e1 in
      record {
        no_commit_is = also_left _ _ e2;
        some_pending = ltb-true 0 (sent r.entries b).entries (also_right _ _ e2);
        start_in = ltb-true r.superblock.journalStart g.blocks (also_right _ _ e1);
        written_in = leb-true r.writtenJournalLen g.blocks (also_right _ _ e);
        fits = leb-true (sent_blocks r b + r.writtenJournalLen) g.blocks (ask_yes 8 _ (omega arith) (and_then_left _ _ q8));
        ids_fit = and_then_right _ _ q8;
      }

  pub asks_write : MayWrite g r id1 id2 b → ask_write_back_journal_req g r id1 id2 b ≡ 0
  unfolding ask_write_back_journal_req may_write ask_room
  asks_write m =
      and_then_both _ _
      (ask_holds 6 _
      (also_both _ _
      (also_both _ _
      (also_both _ _ m.no_commit_is (lt-ltb 0 (sent r.entries b).entries m.some_pending))
      (lt-ltb r.superblock.journalStart g.blocks m.start_in))
      (le-leb r.writtenJournalLen g.blocks m.written_in)))
      (and_then_both _ _ (ask_holds 8 _ (le-leb (sent_blocks r b + r.writtenJournalLen) g.blocks m.fits)) m.ids_fit)

-- both commits
pub record MayCommit (r : Ready) : Type 0 where
  pub no_commit_is : no_commit r.commit ≡ true
  pub none_outstanding_is : r.writes.count ≡ 0
  pub none_frozen_is : r.entries.frozen ≡ 0

commit_facts : (r : Ready) → may_commit r ≡ true → MayCommit r
unfolding may_commit
commit_facts r e =
    let e1 = also_left _ _ e in
    record {
      no_commit_is = also_left _ _ e1;
      none_outstanding_is = eqb-true r.writes.count 0 (also_right _ _ e1);
      none_frozen_is = eqb-true r.entries.frozen 0 (also_right _ _ e);
    }

facts_commit : (r : Ready) → MayCommit r → may_commit r ≡ true
unfolding may_commit
facts_commit r m =
    also_both _ _ (also_both _ _ m.no_commit_is (eq-eqb r.writes.count 0 m.none_outstanding_is)) (eq-eqb r.entries.frozen 0 m.none_frozen_is)

-- WriteBackSuperblockReq_AdvanceLog
pub record MayAdvanceLog (g : Geometry) (r : Ready) : Type 0 where
  pub commit : MayCommit r
  pub written_in : r.writtenJournalLen ≤ g.blocks

module _ (g : Geometry) (r : Ready) where
  pub log_asked : ask_advance_log g r ≡ 0 → MayAdvanceLog g r
  unfolding ask_advance_log
  log_asked q =
      let e = ask_yes 6 _ (omega arith) q in
      record { commit = commit_facts r (also_left _ _ e); written_in = leb-true r.writtenJournalLen g.blocks (also_right _ _ e) }

  pub asks_log : MayAdvanceLog g r → ask_advance_log g r ≡ 0
  unfolding ask_advance_log
  asks_log m = ask_holds 6 _ (also_both _ _ (facts_commit r m.commit) (le-leb r.writtenJournalLen g.blocks m.written_in))

-- WriteBackSuperblockReq_AdvanceLocation
pub record MayAdvanceLocation (g : Geometry) (r : Ready) : Type 0 where
  pub received : is_received r.frozen.frozenLoc ≡ true
  pub commit : MayCommit r
  pub start_in : r.superblock.journalStart < g.blocks
  pub position_in : r.frozen.frozenJournalPosition ≤ r.writtenJournalLen
  pub written_in : r.writtenJournalLen ≤ g.blocks

module _ (g : Geometry) (r : Ready) where
  pub location_asked : ask_advance_location g r ≡ 0 → MayAdvanceLocation g r
  unfolding ask_advance_location
  location_asked q =
      let e = ask_yes 6 _ (omega arith) q in
      let e1 = also_left _ _ e in
      let e2 = also_left _ _ e1 in
      let e3 = also_left _ _ e2 in
      record {
        received = also_left _ _ e3;
        commit = commit_facts r (also_right _ _ e3);
        start_in = ltb-true r.superblock.journalStart g.blocks (also_right _ _ e2);
        position_in = leb-true r.frozen.frozenJournalPosition r.writtenJournalLen (also_right _ _ e1);
        written_in = leb-true r.writtenJournalLen g.blocks (also_right _ _ e);
      }

  pub asks_location : MayAdvanceLocation g r → ask_advance_location g r ≡ 0
  unfolding ask_advance_location
  asks_location m =
      ask_holds 6 _
      (also_both _ _
      (also_both _ _
      (also_both _ _ (also_both _ _ m.received (facts_commit r m.commit))
      (lt-ltb r.superblock.journalStart g.blocks m.start_in))
      (le-leb r.frozen.frozenJournalPosition r.writtenJournalLen m.position_in))
      (le-leb r.writtenJournalLen g.blocks m.written_in))

-- Freeze
pub record MayFreeze (r : Ready) : Type 0 where
  pub no_commit_is : no_commit r.commit ≡ true
  pub other_loc : is_location r.frozen.frozenLoc r.superblock.indirectionTableLoc ≡ false
  pub all_replayed : r.entries.replay ≤ r.entries.taken.entries

module _ (r : Ready) where
  pub freeze_asked : ask_freeze r ≡ 0 → MayFreeze r
  unfolding ask_freeze
  freeze_asked q =
      let e = ask_yes 6 _ (omega arith) q in
      let e1 = also_left _ _ e in
      record {
        no_commit_is = also_left _ _ e1;
        other_loc = not_false _ (also_right _ _ e1);
        all_replayed = leb-true r.entries.replay r.entries.taken.entries (also_right _ _ e);
      }

  pub asks_freeze : MayFreeze r → ask_freeze r ≡ 0
  unfolding ask_freeze
  asks_freeze m =
      ask_holds 6 _
      (also_both _ _ (also_both _ _ m.no_commit_is (ap not m.other_loc))
      (le-leb r.entries.replay r.entries.taken.entries m.all_replayed))

-- ReceiveFrozenLoc
pub record MayReceive (g : Geometry) (r : Ready) (loc : Location) : Type 0 where
  pub loc_valid : ValidIndirectionTableLocation g loc
  pub frozen : r.frozen.isFrozen ≡ true
  pub none_received : is_received r.frozen.frozenLoc ≡ false

module _ (g : Geometry) (r : Ready) (loc : Location) where
  pub receive_asked : ask_receive_frozen_loc g r loc ≡ 0 → MayReceive g r loc
  unfolding ask_receive_frozen_loc
  receive_asked q =
      let e = ask_yes 6 _ (omega arith) (and_then_right _ _ q) in
      record {
        loc_valid = table_location_facts g loc (ask_yes 4 _ (omega arith) (and_then_left _ _ q));
        frozen = also_left _ _ e;
        none_received = not_false _ (also_right _ _ e);
      }

  pub asks_receive : MayReceive g r loc → ask_receive_frozen_loc g r loc ≡ 0
  unfolding ask_receive_frozen_loc
  asks_receive m =
      and_then_both _ _ (ask_holds 4 _ (facts_table_location g loc m.loc_valid)) (ask_holds 6 _ (also_both _ _ m.frozen (ap not m.none_received)))

-- Advance
pub record MayAdvance (limits : Limits) (r : Ready) (held : ℕ) (new : Count) : Type 0 where
  pub all_replayed : r.entries.replay ≤ r.entries.taken.entries
  pub entries_fit : r.entries.pending + new.entries ≤ limits.entries
  pub bytes_fit : held + new.bytes ≤ limits.bytes

module _ (limits : Limits) (r : Ready) (held : ℕ) (new : Count) where
  pub advance_asked : ask_advance limits r held new ≡ 0 → MayAdvance limits r held new
  unfolding ask_advance
  advance_asked q =
      let e = ask_yes 8 _ (omega arith) (and_then_right _ _ q) in
      record {
        all_replayed = leb-true r.entries.replay r.entries.taken.entries (ask_yes 6 _ (omega arith) (and_then_left _ _ q));
        entries_fit = leb-true (r.entries.pending + new.entries) limits.entries (also_left _ _ e);
        bytes_fit = leb-true (held + new.bytes) limits.bytes (also_right _ _ e);
      }

  pub asks_advance : MayAdvance limits r held new → ask_advance limits r held new ≡ 0
  unfolding ask_advance
  asks_advance m =
      and_then_both _ _ (ask_holds 6 _ (le-leb r.entries.replay r.entries.taken.entries m.all_replayed))
      (ask_holds 8 _
      (also_both _ _ (le-leb (r.entries.pending + new.entries) limits.entries m.entries_fit) (le-leb (held + new.bytes) limits.bytes m.bytes_fit)))
