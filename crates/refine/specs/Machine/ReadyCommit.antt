-- Both commit requests and a commit's answer against 000.
use Rattle.std.specs.Prelude.{◌-◌, ◌≤◌, Bool, cond, not, ◌≡◌, refl, [], eqb, Some}
use Rattle.std.proofs.Math.Bool.{true, false}
use Rattle.std.proofs.Math.Path.{sym, ap}
use Rattle.std.proofs.Common.{◌∙◌, eqb-true}
use Rattle.std.proofs.Math.Option.{none, some, some-injective}
use Rattle.laws.specs.Choice.{ruin, false_true, true_false}
use Rattle.laws.specs.Sets.{Map, none_some}
use Rattle.laws.specs.Optional.{option_of, option_same}
use Rattle.layout.specs.declared.Geometry.{Geometry}
use Rattle.layout.specs.declared.Location.{Location}
use Rattle.superblock.specs.declared.Superblock.{Superblock}
use Rattle.tables.proofs.Laws.IdTables.{ids_none}
use Rattle.loading.specs.Which.{is_second}
use Rattle.ready.specs.declared.Commit.{Commit}
use Rattle.ready.specs.declared.Commit.TheVariants as commit
use Rattle.ready.specs.declared.Ready.{Ready}
use Rattle.ready.specs.State.{awaits_id, commit_slot, with_commit}
use Rattle.ready.specs.CommitSteps.{ask_advance_log, advanced_log, advance_log_next, ask_advance_location, advanced_location, advance_location_next, log_committed, location_committed, answered, write_back_superblock_resp_next}
use Rattle.ready.specs.Laws.Asked.{MayCommit, log_asked, asks_log, location_asked, asks_location}
use Rattle.source.specs.JournalDisk.{ReqId, DiskOp, ReqWriteSuperblockOp, RespWriteSuperblockOp}
use Rattle.source.specs.JournalCache as M
use Rattle.source.specs.JournalCache.{SyncReqStatus, ReadyVariables, sync_reqs2to1, to_new_superblock, to_superblock_write, to_commit_status, to_superblock, to_which_superblock, to_sync_reqs, to_written_journal_len, to_frozen_journal_position, to_frozen_loc, to_is_frozen, WriteBackSuperblockReq-AdvanceLogClauses, WriteBackSuperblockReq-AdvanceLocationClauses, WriteBackSuperblockRespClauses}
use Rattle.refine.specs.Machine.ReadyView.{ReadyLent, status_of, ready_of}
use Rattle.refine.specs.Machine.ReadyCases.{seen_received, commit_status_is, none_flight, flight_none, slot_other, seen_awaits}
use Rattle.refine.specs.Machine.ReadyForm.{ReadyForm, table_none, none_frozen_is, frozen_none}

-- the operation of either commit: the other slot, and the new superblock
abbrev pub commit_op : Ready → ReqId → Superblock → DiskOp
commit_op r id s = ReqWriteSuperblockOp id (is_second (commit_slot r)) (record { superblock = s })

module _ (g : Geometry) (l : ReadyLent) (sync : Map SyncReqStatus) (r : Ready) (f : ReadyForm l r) where
  may_commit_is : status_of r.commit ≡ M.CommitStatus.CommitNone → M.NoneOutstanding (ready_of l sync r) → (ready_of l sync r).in_memory_journal_frozen ≡ [] → MayCommit r
  may_commit_is c w n =
      record {
        no_commit_is = flight_none r.commit ((commit_status_is r.commit).1 c);
        none_outstanding_is = table_none r.writes f.writes w;
        none_frozen_is = frozen_none l r.entries f.pending n;
      }

  -- a log commit
  pub log_sound : (id : ReqId) → ask_advance_log g r ≡ 0
      → WriteBackSuperblockReq-AdvanceLogClauses g (ready_of l sync r) (M.Variables.Ready (ready_of l sync (advance_log_next r id (advanced_log r)))) (commit_op r id (advanced_log r))
  unfolding advanced_log
  log_sound id q =
      let m = log_asked g r q in
      record {
        id = id;
        which = is_second (commit_slot r);
        req = record { superblock = advanced_log r };
        op = refl;
        no_commit_is = (commit_status_is r.commit).0 (none_flight r.commit m.commit.no_commit_is);
        all_written = ids_none r.writes m.commit.none_outstanding_is;
        none_frozen_is = none_frozen_is l r.entries f.pending m.commit.none_frozen_is;
        which_is = slot_other r.whichSuperblock f.which_in;
        written_in = m.written_in;
        superblock_is = refl;
        next = refl;
      }

  pub log_complete : (s' : M.Variables) (dop : DiskOp) (h : WriteBackSuperblockReq-AdvanceLogClauses g (ready_of l sync r) s' dop)
      → (ask_advance_log g r ≡ 0) × (M.Variables.Ready (ready_of l sync (advance_log_next r h.id (advanced_log r))) ≡ s') × (dop ≡ commit_op r h.id (advanced_log r))
  unfolding advanced_log
  log_complete s' dop h = (
    asks_log g r (record { commit = may_commit_is h.no_commit_is h.all_written h.none_frozen_is; written_in = h.written_in }),
    sym h.next,
    h.op ∙ (λ i. ReqWriteSuperblockOp h.id ((h.which_is ∙ sym (slot_other r.whichSuperblock f.which_in)) i) (record { superblock = h.superblock_is i })),
  )

  -- a location commit
  pub location_sound : (id : ReqId) (loc : Location) → r.frozen.frozenLoc ≡ Some loc → ask_advance_location g r ≡ 0
      → WriteBackSuperblockReq-AdvanceLocationClauses g (ready_of l sync r) (M.Variables.Ready (ready_of l sync (advance_location_next r id (advanced_location g r loc))))
      (commit_op r id (advanced_location g r loc))
  unfolding advanced_location
  location_sound id loc e q =
      let m = location_asked g r q in
      record {
        id = id;
        which = is_second (commit_slot r);
        req = record { superblock = advanced_location g r loc };
        op = refl;
        loc = loc;
        received = ap option_of e;
        no_commit_is = (commit_status_is r.commit).0 (none_flight r.commit m.commit.no_commit_is);
        all_written = ids_none r.writes m.commit.none_outstanding_is;
        none_frozen_is = none_frozen_is l r.entries f.pending m.commit.none_frozen_is;
        which_is = slot_other r.whichSuperblock f.which_in;
        start_in = m.start_in;
        position_in = m.position_in;
        written_in = m.written_in;
        superblock_is = refl;
        next = refl;
      }

  pub location_complete : (s' : M.Variables) (dop : DiskOp) (h : WriteBackSuperblockReq-AdvanceLocationClauses g (ready_of l sync r) s' dop)
      → (r.frozen.frozenLoc ≡ Some h.loc)
      × (ask_advance_location g r ≡ 0)
      × (M.Variables.Ready (ready_of l sync (advance_location_next r h.id (advanced_location g r h.loc))) ≡ s')
      × (dop ≡ commit_op r h.id (advanced_location g r h.loc))
  unfolding advanced_location
  location_complete s' dop h = (
    option_same r.frozen.frozenLoc (Some h.loc) h.received,
    asks_location g r
        (record {
          received = seen_received r.frozen.frozenLoc (h.loc, h.received);
          commit = may_commit_is h.no_commit_is h.all_written h.none_frozen_is;
          start_in = h.start_in;
          position_in = h.position_in;
          written_in = h.written_in;
        }),
    sym h.next,
    h.op ∙ (λ i. ReqWriteSuperblockOp h.id ((h.which_is ∙ sym (slot_other r.whichSuperblock f.which_in)) i) (record { superblock = h.superblock_is i })),
  )

-- a commit's answer, by the commit in flight; it needs nothing of the state but `which`
module _ (l : ReadyLent) (sync : Map SyncReqStatus) (r : Ready) (w : r.whichSuperblock ≤ 1) where
  -- 000's next states
  abbrev log_answered : ReadyVariables → Superblock → M.Variables
  log_answered s new =
      M.Variables.Ready
      (to_superblock_write none
      (to_superblock new
      (to_new_superblock none
      (to_which_superblock (not s.whichSuperblock)
      (to_sync_reqs (sync_reqs2to1 s.sync_reqs)
      (to_commit_status M.CommitStatus.CommitNone s))))))

  abbrev location_answered : ReadyVariables → Superblock → M.Variables
  location_answered s new =
      M.Variables.Ready
      (to_superblock_write none
      (to_superblock new
      (to_new_superblock none
      (to_which_superblock (not s.whichSuperblock)
      (to_sync_reqs (sync_reqs2to1 s.sync_reqs)
      (to_written_journal_len (s.writtenJournalLen - s.frozenJournalPosition)
      (to_frozen_journal_position 0
      (to_frozen_loc none
      (to_is_frozen false
      (to_commit_status M.CommitStatus.CommitNone s))))))))))

  log_done : (c : Commit) (new : Superblock) (b : Bool) → b ≡ true
      → M.Variables.Ready (ready_of l (sync_reqs2to1 sync) (cond {A = Ready} b (log_committed (with_commit r c) new) (with_commit r c))) ≡ log_answered (ready_of l sync (with_commit r c)) new
  unfolding log_committed
  log_done c new true e =
      λ i.
      M.Variables.Ready
      (to_superblock_write none
      (to_superblock new
      (to_new_superblock none
      (to_which_superblock (slot_other r.whichSuperblock w i)
      (to_sync_reqs (sync_reqs2to1 sync)
      (to_commit_status M.CommitStatus.CommitNone (ready_of l sync (with_commit r c))))))))
  log_done c new false e = false_true e

  location_done : (c : Commit) (new : Superblock) (b : Bool) → b ≡ true
      → M.Variables.Ready (ready_of l (sync_reqs2to1 sync) (cond {A = Ready} b (location_committed (with_commit r c) new) (with_commit r c))) ≡ location_answered (ready_of l sync (with_commit r c)) new
  unfolding location_committed
  location_done c new true e =
      λ i.
      M.Variables.Ready
      (to_superblock_write none
      (to_superblock new
      (to_new_superblock none
      (to_which_superblock (slot_other r.whichSuperblock w i)
      (to_sync_reqs (sync_reqs2to1 sync)
      (to_written_journal_len (r.writtenJournalLen - r.frozen.frozenJournalPosition)
      (to_frozen_journal_position 0
      (to_frozen_loc none
      (to_is_frozen false
      (to_commit_status M.CommitStatus.CommitNone (ready_of l sync (with_commit r c))))))))))))
  location_done c new false e = false_true e

  answer_sound : (c : Commit) (id : ReqId) (which : Bool) → awaits_id c id ≡ true
      → WriteBackSuperblockRespClauses (ready_of l sync (with_commit r c)) (M.Variables.Ready (ready_of l (sync_reqs2to1 sync) (answered (with_commit r c) id c))) (RespWriteSuperblockOp id which)
  answer_sound commit.CommitNone id which e = false_true e
  answer_sound (commit.CommitAdvanceLog k new) id which e =
      record {
        id = id;
        which = which;
        op = refl;
        waiting = ap some (sym (eqb-true k id e));
        new = new;
        new_is = refl;
        still_ready = tt;
        advance_location_is = λ q. ruin (cc);
        advance_log_is = λ q. log_done (commit.CommitAdvanceLog k new) new (eqb k id) e;
      }
  answer_sound (commit.CommitAdvanceLocation k new) id which e =
      record {
        id = id;
        which = which;
        op = refl;
        waiting = ap some (sym (eqb-true k id e));
        new = new;
        new_is = refl;
        still_ready = tt;
        advance_location_is = λ q. location_done (commit.CommitAdvanceLocation k new) new (eqb k id) e;
        advance_log_is = λ q. ruin (cc);
      }

  -- awaited
  pub superblock_resp_sound : (id : ReqId) (which : Bool) → awaits_id r.commit id ≡ true
      → WriteBackSuperblockRespClauses (ready_of l sync r) (M.Variables.Ready (ready_of l (sync_reqs2to1 sync) (write_back_superblock_resp_next r id))) (RespWriteSuperblockOp id which)
  unfolding write_back_superblock_resp_next
  superblock_resp_sound id which e = answer_sound r.commit id which e

  answer_complete : (c : Commit) (s' : M.Variables) (dop : DiskOp) (h : WriteBackSuperblockRespClauses (ready_of l sync (with_commit r c)) s' dop)
      → (awaits_id c h.id ≡ true) × (M.Variables.Ready (ready_of l (sync_reqs2to1 sync) (answered (with_commit r c) h.id c)) ≡ s') × (dop ≡ RespWriteSuperblockOp h.id h.which)
  answer_complete commit.CommitNone s' dop h = none_some refl h.new_is
  answer_complete (commit.CommitAdvanceLog k new) s' dop h =
      let a = seen_awaits (commit.CommitAdvanceLog k new) h.id (sym h.waiting) in (
        a,
        log_done (commit.CommitAdvanceLog k new) new (eqb k h.id) a
            ∙ ap (log_answered (ready_of l sync (with_commit r (commit.CommitAdvanceLog k new)))) (some-injective new h.new h.new_is)
            ∙ sym (h.advance_log_is refl),
        h.op,
      )
  answer_complete (commit.CommitAdvanceLocation k new) s' dop h =
      let a = seen_awaits (commit.CommitAdvanceLocation k new) h.id (sym h.waiting) in (
        a,
        location_done (commit.CommitAdvanceLocation k new) new (eqb k h.id) a
            ∙ ap (location_answered (ready_of l sync (with_commit r (commit.CommitAdvanceLocation k new)))) (some-injective new h.new h.new_is)
            ∙ sym (h.advance_location_is refl),
        h.op,
      )

  pub superblock_resp_complete : (s' : M.Variables) (dop : DiskOp) (h : WriteBackSuperblockRespClauses (ready_of l sync r) s' dop)
      → (awaits_id r.commit h.id ≡ true) × (M.Variables.Ready (ready_of l (sync_reqs2to1 sync) (write_back_superblock_resp_next r h.id)) ≡ s') × (dop ≡ RespWriteSuperblockOp h.id h.which)
  unfolding write_back_superblock_resp_next
  superblock_resp_complete s' dop h = answer_complete r.commit s' dop h

-- awaited by nobody: nothing is altered, and the view awaits no such id
pub superblock_unawaited : (l : ReadyLent) (sync : Map SyncReqStatus) (r : Ready) (id : ReqId) → awaits_id r.commit id ≡ false
    → (write_back_superblock_resp_next r id ≡ r) × ((ready_of l sync r).superblock_write ≡ some id → ⊥)
unfolding write_back_superblock_resp_next
superblock_unawaited l sync r id e = (go r.commit e, λ h. true_false (sym (seen_awaits r.commit id h) ∙ e))
  where
    keeps : (b : Bool) (s : Ready) → b ≡ false → cond {A = Ready} b s r ≡ r
    keeps true s q = true_false q
    keeps false s q = refl

    go : (c : Commit) → awaits_id c id ≡ false → answered r id c ≡ r
    go commit.CommitNone q = refl
    go (commit.CommitAdvanceLog k new) q = keeps (eqb k id) (log_committed r new) q
    go (commit.CommitAdvanceLocation k new) q = keeps (eqb k id) (location_committed r new) q
