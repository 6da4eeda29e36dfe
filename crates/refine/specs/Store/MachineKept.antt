-- A step of the machine that is taken keeps its form, in every kind.
use Rattle.std.specs.Prelude.{ℕ, ◌≤◌, Bool, ◌≡◌, refl, take}
use Rattle.std.specs.declared.option.Option as code
use Rattle.std.proofs.Math.Bool.{true, false}
use Rattle.std.proofs.Common.{sym, subst, arith}
use Rattle.laws.specs.Choice.{also, and_then_left, and_then_right}
use Rattle.layout.specs.declared.Geometry.{Geometry}
use Rattle.layout.specs.declared.Location.{Location}
use Rattle.tables.specs.declared.SyncTable.{SyncTable}
use Rattle.tables.specs.Rows.{place_of, Counted}
use Rattle.tables.specs.SyncTable.{SizedSyncs, ok_state, valid_states, added_sync, removed_sync, moved_syncs}
use Rattle.tables.proofs.Laws.Counts.{add_asked}
use Rattle.tables.proofs.Laws.SyncTables.{syncs_added_ok, syncs_added_valid, syncs_removed_ok, syncs_removed_valid, syncs_moved_ok, syncs_moved_valid}
use Rattle.ready.specs.declared.Bodies.{Bodies}
use Rattle.ready.specs.declared.Ready.{Ready}
use Rattle.ready.specs.declared.Commit.{Commit}
use Rattle.ready.specs.declared.Commit.TheVariants as commit
use Rattle.ready.specs.State.{none_frozen, none_in_memory, awaits_id, with_commit}
use Rattle.ready.specs.JournalSteps.{write_back_journal_resp_next}
use Rattle.ready.specs.CommitSteps.{advanced_log, advanced_location, write_back_superblock_resp_next}
use Rattle.ready.specs.FreezeSteps.{freeze_next, receive_frozen_loc_next}
use Rattle.ready.specs.Laws.Asked.{write_asked}
use Rattle.machine.specs.declared.Kind.{Kind}
use Rattle.machine.specs.declared.Kind.TheVariants as kind
use Rattle.machine.specs.declared.Machine.{Machine}
use Rattle.machine.specs.Machine.{by_kind, ask_ready}
use Rattle.machine.specs.Lent.{Lent}
use Rattle.machine.specs.Sync.{ask_push_sync_req, push_sync_req_machine, pop_sync_req_machine}
use Rattle.machine.specs.Working.{sent_sync, moved_bytes, moved_lens, ask_write_back_journal_req_step, written_machine, write_back_journal_req_machine, write_back_journal_resp_machine, commit_requested, new_location, advance_log_machine, advance_location_machine, answered_sync, commit_answered, write_back_superblock_resp_machine, ask_freeze_step, freeze_machine, ask_receive_frozen_loc_step, receive_frozen_loc_machine}
use Rattle.refine.specs.Machine.ReadyForm.{ReadyForm}
use Rattle.refine.specs.Machine.MachineView.{ready_lent, SizedMachine, SyncForm, MachineForm}
use Rattle.refine.specs.Machine.MachineKinds.{by_kind_is}
use Rattle.refine.specs.Machine.MachineWork.{work_asked, work_form}
use Rattle.refine.specs.Store.ReadyKept.{write_form, written_form, committed_form, freeze_form, receive_form}

-- The sync requests

pub sync_counted : (t : SyncTable) → SizedSyncs t → SyncForm t → Counted 32 t.count t.ids
sync_counted t z f = record { few = omega (arith, f.in_array, z.ids_long); in_array = f.in_array; differ = f.differ }

ok_one : ok_state 1 ≡ true
unfolding ok_state also
ok_one = refl

ok_two : ok_state 2 ≡ true
unfolding ok_state also
ok_two = refl

ok_three : ok_state 3 ≡ true
unfolding ok_state also
ok_three = refl

counted_sync : (t : SyncTable) → Counted 32 t.count t.ids → valid_states t ≡ true → SyncForm t
counted_sync t c v = record { in_array = c.in_array; differ = c.differ; states = v }

module _ (t : SyncTable) (z : SizedSyncs t) (f : SyncForm t) where
  added_form : (id : ℕ) → ask_push_sync_req t id ≡ 0 → SyncForm (added_sync t id 3)
  unfolding ask_push_sync_req
  added_form id q =
      counted_sync (added_sync t id 3) (syncs_added_ok t 32 (sync_counted t z f) id 3 (add_asked 32 t.count t.ids id q)) (syncs_added_valid t z id 3 f.states ok_three)

  removed_form : (i : ℕ) → SyncForm (removed_sync t i)
  removed_form i = counted_sync (removed_sync t i) (syncs_removed_ok t 32 (sync_counted t z f) i) (syncs_removed_valid t z 32 i (sync_counted t z f) f.states)

  moved_form : (from to : ℕ) → ok_state to ≡ true → SyncForm (moved_syncs from to t)
  moved_form from to h = counted_sync (moved_syncs from to t) (syncs_moved_ok t 32 (sync_counted t z f) from to) (syncs_moved_valid t from to h f.states)

  sent_form : (b : Bool) → SyncForm (sent_sync b t)
  unfolding sent_sync
  sent_form true = moved_form 3 2 ok_two
  sent_form false = f

  answered_form : (b : Bool) → SyncForm (answered_sync b t)
  unfolding answered_sync
  answered_form true = moved_form 2 1 ok_one
  answered_form false = f

-- A machine at work

pub work_kind : (l : Lent) (m : Machine) (r : Ready) → m.kind ≡ kind.Ready → ReadyForm (ready_lent l) r
    → by_kind m.kind (Unit {0}) (m.other.whichSuperblock ≤ 1) (ReadyForm (ready_lent l) r)
work_kind l m r e f = subst (λ (k : Kind). by_kind k (Unit {0}) (m.other.whichSuperblock ≤ 1) (ReadyForm (ready_lent l) r)) (sym e) f

-- an answer is taken in every kind
kind_form : (l : Lent) (m x : Machine) → MachineForm l m → (m.kind ≡ kind.Ready → MachineForm l x) → MachineForm l (by_kind {A = Machine} m.kind m m x)
kind_form l m x f h =
    by_kind_is (λ y. MachineForm l y → (y.kind ≡ kind.Ready → MachineForm l x) → MachineForm l (by_kind {A = Machine} y.kind y y x)) m
    (λ f h. f)
    (λ f h. f)
    (λ f h. h refl)
    f h

module _ (g : Geometry) (l : Lent) (m : Machine) (z : SizedMachine m) (f : MachineForm l m) where
  -- lent memory with what is left of pending memory
  abbrev moved : Bodies → Lent
  moved b = record { bytes = moved_bytes m b l.bytes; lens = moved_lens m b l.lens; pieces = l.pieces; rbytes = l.rbytes; rlens = l.rlens }

  pub write_kept : (id1 : ℕ) (id2 : code.Option ℕ) (b : Bodies) → ask_write_back_journal_req_step g m id1 id2 b ≡ 0 → MachineForm (moved b) (write_back_journal_req_machine m id1 id2 b)
  unfolding ask_write_back_journal_req_step written_machine
  write_kept id1 id2 b q =
      let e = work_asked m (and_then_left _ _ q) in
      let a = write_asked g m.ready id1 id2 b (and_then_right _ _ q) in
      record {
        sync = sent_form m.sync z.syncs f.sync (none_frozen m.ready.entries);
        kind = work_kind (moved b) m (write_back_journal_req_machine m id1 id2 b).ready e (write_form (ready_lent l) m.ready (work_form g l m e f) z.writes id1 id2 b _ a.ids_fit);
      }

  pub journal_written_kept : (id : ℕ) → MachineForm l (write_back_journal_resp_machine m id)
  unfolding write_back_journal_resp_machine
  journal_written_kept id =
      kind_form l m _ f
      (λ e. record { sync = f.sync; kind = work_kind l m (write_back_journal_resp_next m.ready id) e (written_form (ready_lent l) m.ready (work_form g l m e f) z.writes id) })

  commit_form : (c : Commit) → m.kind ≡ kind.Ready → by_kind m.kind (Unit {0}) (m.other.whichSuperblock ≤ 1) (ReadyForm (ready_lent l) (with_commit m.ready c))
  commit_form c e =
      let r = work_form g l m e f in
      work_kind l m (with_commit m.ready c) e (record { which_in = r.which_in; pending = r.pending; replay = r.replay; writes = r.writes })

  pub commit_log_kept : (id : ℕ) → ask_ready m ≡ 0 → MachineForm l (advance_log_machine m id)
  unfolding advance_log_machine commit_requested
  commit_log_kept id q = record { sync = sent_form m.sync z.syncs f.sync (none_in_memory m.ready.entries); kind = commit_form (commit.CommitAdvanceLog id (advanced_log m.ready)) (work_asked m q) }

  pub commit_location_kept : (id : ℕ) → ask_ready m ≡ 0 → MachineForm l (advance_location_machine g m id)
  unfolding advance_location_machine commit_requested
  commit_location_kept id q =
      record { sync = sent_form m.sync z.syncs f.sync (none_in_memory m.ready.entries); kind = commit_form (commit.CommitAdvanceLocation id (advanced_location g m.ready (new_location m))) (work_asked m q) }

  pub superblock_written_kept : (id : ℕ) → MachineForm l (write_back_superblock_resp_machine m id)
  unfolding write_back_superblock_resp_machine commit_answered
  superblock_written_kept id =
      kind_form l m _ f
      (λ e.
      record {
        sync = answered_form m.sync z.syncs f.sync (awaits_id m.ready.commit id);
        kind = work_kind l m (write_back_superblock_resp_next m.ready id) e (committed_form (ready_lent l) m.ready (work_form g l m e f) id);
      })

  pub freeze_kept : ask_freeze_step m ≡ 0 → MachineForm l (freeze_machine m)
  unfolding ask_freeze_step freeze_machine
  freeze_kept q =
      let e = work_asked m (and_then_left _ _ q) in
      record { sync = moved_form m.sync z.syncs f.sync 3 2 ok_two; kind = work_kind l m (freeze_next m.ready) e (freeze_form (ready_lent l) m.ready (work_form g l m e f)) }

  pub receive_kept : (loc : Location) → ask_receive_frozen_loc_step g m loc ≡ 0 → MachineForm l (receive_frozen_loc_machine m loc)
  unfolding ask_receive_frozen_loc_step receive_frozen_loc_machine
  receive_kept loc q =
      let e = work_asked m (and_then_left _ _ q) in
      record { sync = f.sync; kind = work_kind l m (receive_frozen_loc_next m.ready loc) e (receive_form (ready_lent l) m.ready (work_form g l m e f) loc) }

  pub push_kept : (id : ℕ) → ask_push_sync_req m.sync id ≡ 0 → MachineForm l (push_sync_req_machine m id)
  unfolding push_sync_req_machine
  push_kept id q = record { sync = added_form m.sync z.syncs f.sync id q; kind = f.kind }

  pub pop_kept : (id : ℕ) → MachineForm l (pop_sync_req_machine m id)
  unfolding pop_sync_req_machine
  pop_kept id = record { sync = removed_form m.sync z.syncs f.sync (place_of id (take m.sync.count m.sync.ids)); kind = f.kind }
