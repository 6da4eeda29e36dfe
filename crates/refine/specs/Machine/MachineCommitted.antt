-- A commit's answer, WriteBackSuperblockResp, of a whole machine, in every kind: a commit awaits it, or nobody does.
use Rattle.std.specs.Prelude.{ℕ, ◌≤◌, Bool, false, ◌≡◌, refl, [], ◌⊎◌, Ok}
use Rattle.std.proofs.Math.Bool.{true, cond}
use Rattle.std.proofs.Math.Path.{sym, ap, subst}
use Rattle.std.proofs.Common.{◌∙◌, ⊎_elim, arith}
use Rattle.std.proofs.Math.Logic.{inl, inr}
use Rattle.std.proofs.Math.Option.{some}
use Rattle.laws.specs.Choice.{and_then, split_bool, not_so}
use Rattle.laws.specs.Sets.{Map}
use Rattle.layout.specs.declared.Geometry.{Geometry}
use Rattle.superblock.specs.declared.DiskOp.{DiskOp}
use Rattle.codec.specs.Format.{format}
use Rattle.tables.specs.SyncTable.{sync_map}
use Rattle.loading.specs.Laws.Which.{asked_which}
use Rattle.loading.specs.Which.{is_second}
use Rattle.ready.specs.State.{awaits_id}
use Rattle.ready.specs.CommitSteps.{write_back_superblock_resp_next}
use Rattle.source.specs.JournalDisk as D
use Rattle.source.specs.JournalDisk.{ReqId}
use Rattle.source.specs.JournalCache as M
use Rattle.source.specs.JournalCache.{Variables, SyncReqStatus, IsReady, WriteBackSuperblockRespStep, NoOpStep, WriteBackSuperblockRespClauses}
use Rattle.source.specs.Limits.{limits}
use Rattle.source.specs.Meets.{MachineMeets}
use Rattle.source.specs.Departures.{NoOp⁺, Source}
use Rattle.source.specs.Within.{MachineAllowed}
use Rattle.source.proofs.Laws.Cases.{by_ready}
use Rattle.machine.specs.declared.Kind.TheVariants as kind
use Rattle.machine.specs.declared.Machine.{Machine}
use Rattle.machine.specs.Lent.{Lent}
use Rattle.machine.specs.Questions.{ask_machine}
use Rattle.machine.specs.Working.{syncs2to1, answered_sync, commit_answered, ask_write_back_superblock_resp_step, write_back_superblock_resp_op, write_back_superblock_resp_machine}
use Rattle.machine.specs.Whole.{write_back_superblock_resp}
use Rattle.machine.specs.Laws.Answers.{next_asked}
use Rattle.refine.specs.Machine.ReadyView.{ready_of}
use Rattle.refine.specs.Machine.ReadyCases.{awaits_seen}
use Rattle.refine.specs.Machine.ReadyCommit as R
use Rattle.refine.specs.Machine.MachineView.{ready_lent, state_of, syncs_of, machine_of, operation_of, SizedMachine, MachineLent, MachineForm}
use Rattle.refine.specs.Machine.MachineCalls.{asks_met, sound_same, complete_same}
use Rattle.refine.specs.Machine.MachineWork.{by_work, work_taken, work_kept, work_of, work_seen, work_form, work_in, work_out, work_step, syncs_2to1}

module _ (g : Geometry) (l : Lent) (m : Machine) (id : ℕ) where
  -- somebody awaits it, in the source's words
  abbrev AwaitsCommit : Type 0
  AwaitsCommit = IsReady (machine_of g l m) (λ s. s.superblock_write ≡ some id)

  -- awaited: the view of the next machine
  answered_kind : m.kind ≡ kind.Ready → (commit_answered m id).kind ≡ kind.Ready
  unfolding commit_answered
  answered_kind e = e

  answered_syncs : awaits_id m.ready.commit id ≡ true → sync_map state_of (answered_sync (awaits_id m.ready.commit id) m.sync) ≡ M.sync_reqs2to1 (syncs_of m)
  unfolding answered_sync
  answered_syncs e = ap (λ (b : Bool). sync_map state_of (cond b (syncs2to1 m.sync) m.sync)) e ∙ syncs_2to1 m.sync

  answered_view : awaits_id m.ready.commit id ≡ true
      → Variables.Ready (ready_of (ready_lent l) (M.sync_reqs2to1 (syncs_of m)) (write_back_superblock_resp_next m.ready id)) ≡ Variables.Ready (work_of l (commit_answered m id))
  unfolding commit_answered
  answered_view e = ap (λ (sync : Map SyncReqStatus). Variables.Ready (ready_of (ready_lent l) sync (write_back_superblock_resp_next m.ready id))) (sym (answered_syncs e))

  -- awaited by nobody: the machine stays
  answered_same : awaits_id m.ready.commit id ≡ false → commit_answered m id ≡ m
  unfolding commit_answered answered_sync
  answered_same e =
      λ i.
      record {
        kind = m.kind;
        superblocks = m.superblocks;
        other = m.other;
        ready = (R.superblock_unawaited (ready_lent l) (syncs_of m) m.ready id e).0 i;
        sync = cond (e i) (syncs2to1 m.sync) m.sync;
      }

  unawaited_same : (AwaitsCommit → ⊥) → write_back_superblock_resp_machine m id ≡ m
  unfolding write_back_superblock_resp_machine
  unawaited_same n =
      by_work m
      (λ k.
      work_taken m (commit_answered m id) k
      ∙ answered_same (not_so (awaits_id m.ready.commit id) (λ e. n (work_in g l m (λ s. s.superblock_write ≡ some id) k (awaits_seen m.ready.commit id e)))))
      (work_kept m (commit_answered m id))

  module _ (which : ℕ) where
    abbrev dop : D.DiskOp
    dop = operation_of (write_back_superblock_resp_op which id) []

    no_op_by : (AwaitsCommit → ⊥) → NoOp⁺ (machine_of g l m) (machine_of g l (write_back_superblock_resp_machine m id)) dop
    no_op_by n = record { source = record { op = M.NoOpOp.superblock_written_is id (is_second which) refl n; next = ap (machine_of g l) (unawaited_same n) }; unawaited = n }

    pub superblock_resp_clauses : MachineForm l m
        → M.WriteBackSuperblockResp (machine_of g l m) (machine_of g l (write_back_superblock_resp_machine m id)) dop
        ⊎ NoOp⁺ (machine_of g l m) (machine_of g l (write_back_superblock_resp_machine m id)) dop
    unfolding write_back_superblock_resp_machine
    superblock_resp_clauses form =
        by_work m
        (λ k.
        split_bool (awaits_id m.ready.commit id)
        (λ e. inl (awaited k e))
        (λ e. inr (no_op_by (λ w. (R.superblock_unawaited (ready_lent l) (syncs_of m) m.ready id e).1 (work_out g l m (λ s. s.superblock_write ≡ some id) w).1))))
        (λ n. inr (no_op_by (λ w. n (work_out g l m (λ s. s.superblock_write ≡ some id) w).0)))
      where
        awaited : m.kind ≡ kind.Ready → awaits_id m.ready.commit id ≡ true
            → M.WriteBackSuperblockResp (machine_of g l m) (machine_of g l (write_back_superblock_resp_machine m id)) dop
        awaited k e =
            subst
            (λ (x : Machine). M.WriteBackSuperblockResp (machine_of g l m) (machine_of g l x) dop)
            (sym (work_taken m (commit_answered m id) k))
            (work_step g l l m (commit_answered m id) (λ s s'. WriteBackSuperblockRespClauses s s' dop) k (answered_kind k)
            (subst (λ (s' : Variables). WriteBackSuperblockRespClauses (work_of l m) s' dop) (answered_view e)
            (R.superblock_resp_sound (ready_lent l) (syncs_of m) m.ready (work_form g l m k form).which_in id (is_second which) e)))

    -- complete out of either
    pub clauses_superblock_resp : MachineForm l m → (s' : Variables) → M.WriteBackSuperblockResp (machine_of g l m) s' dop
        → machine_of g l (write_back_superblock_resp_machine m id) ≡ s'
    unfolding write_back_superblock_resp_machine
    clauses_superblock_resp form s' h =
        let k = work_out g l m (λ s. WriteBackSuperblockRespClauses s s' dop) h in
        let c = R.superblock_resp_complete (ready_lent l) (syncs_of m) m.ready (work_form g l m k.0 form).which_in s' dop k.1 in
        let o = k.1.op in
        let same : k.1.id ≡ id = cc in
        ap (machine_of g l) (work_taken m (commit_answered m id) k.0)
        ∙ work_seen g l (commit_answered m id) (answered_kind k.0)
        ∙ sym (answered_view (ap (awaits_id m.ready.commit) (sym same) ∙ c.0))
        ∙ ap (λ (x : ReqId). Variables.Ready (ready_of (ready_lent l) (M.sync_reqs2to1 (syncs_of m)) (write_back_superblock_resp_next m.ready x))) (sym same)
        ∙ c.1

    pub no_op_superblock_resp : (s' : Variables) → NoOp⁺ (machine_of g l m) s' dop → machine_of g l (write_back_superblock_resp_machine m id) ≡ s'
    no_op_superblock_resp s' h = ap (machine_of g l) (unawaited_same h.unawaited) ∙ sym h.source.next

-- the arguments of the call that says an answer
pub superblock_resp_said : (s s' : Variables) (dop : D.DiskOp) → M.WriteBackSuperblockResp s s' dop → (which id : ℕ) × (which ≤ 1) × (dop ≡ operation_of (write_back_superblock_resp_op which id) [])
superblock_resp_said s s' dop h =
    by_ready (λ v. (which id : ℕ) × (which ≤ 1) × (dop ≡ operation_of (write_back_superblock_resp_op which id) [])) s (λ r. WriteBackSuperblockRespClauses r s' dop)
    (λ r c. go c.which c.id c.op)
    h
  where
    go : (b : Bool) (id : ReqId) → dop ≡ D.RespWriteSuperblockOp id b → (which id : ℕ) × (which ≤ 1) × (dop ≡ operation_of (write_back_superblock_resp_op which id) [])
    go false id e = (0, id, omega arith, e)
    go true id e = (1, id, omega arith, e)

-- the whole step: a commit awaits it, or nobody does
module _ (g : Geometry) (l : Lent) (m : Machine) (z : SizedMachine m) (which id : ℕ) where
  pub superblock_resp_sound : (o : DiskOp) → (write_back_superblock_resp g l m which id).answer ≡ Ok o
      → MachineAllowed g format limits (machine_of g l m) (machine_of g l (write_back_superblock_resp g l m which id).machine) (operation_of o []) (Source WriteBackSuperblockRespStep)
      ⊎ MachineAllowed g format limits (machine_of g l m) (machine_of g l (write_back_superblock_resp g l m which id).machine) (operation_of o []) (Source NoOpStep)
  superblock_resp_sound o e =
      let k = next_asked (and_then (ask_machine g l m) (ask_write_back_superblock_resp_step which)) (write_back_superblock_resp_op which id) (write_back_superblock_resp_machine m id) m o e in
      let form = (asks_met g l m z (ask_write_back_superblock_resp_step which) k.0).form in
      ⊎_elim
      (λ h. inl (sound_same g l m z (ask_write_back_superblock_resp_step which) (write_back_superblock_resp_op which id) (write_back_superblock_resp_machine m id) [] (Source WriteBackSuperblockRespStep) o e (λ q r met. h)))
      (λ h. inr (sound_same g l m z (ask_write_back_superblock_resp_step which) (write_back_superblock_resp_op which id) (write_back_superblock_resp_machine m id) [] (Source NoOpStep) o e (λ q r met. h)))
      (superblock_resp_clauses g l m id which form)

  module _ (t : MachineLent g l) (form : MachineForm l m) (w : which ≤ 1) (s' : Variables) where
    taken : MachineMeets g limits (machine_of g l m) → machine_of g l (write_back_superblock_resp_machine m id) ≡ s'
        → ((write_back_superblock_resp g l m which id).answer ≡ Ok (write_back_superblock_resp_op which id)) × (machine_of g l (write_back_superblock_resp g l m which id).machine ≡ s')
    taken meets e =
        complete_same g l m z (ask_write_back_superblock_resp_step which) (write_back_superblock_resp_op which id) (write_back_superblock_resp_machine m id) s' t form meets (asked_which which w) e

    pub superblock_resp_complete : MachineAllowed g format limits (machine_of g l m) s' (operation_of (write_back_superblock_resp_op which id) []) (Source WriteBackSuperblockRespStep)
        → ((write_back_superblock_resp g l m which id).answer ≡ Ok (write_back_superblock_resp_op which id)) × (machine_of g l (write_back_superblock_resp g l m which id).machine ≡ s')
    superblock_resp_complete a = taken a.meets (clauses_superblock_resp g l m id which form s' a.step)

    pub superblock_resp_no_op : MachineAllowed g format limits (machine_of g l m) s' (operation_of (write_back_superblock_resp_op which id) []) (Source NoOpStep)
        → ((write_back_superblock_resp g l m which id).answer ≡ Ok (write_back_superblock_resp_op which id)) × (machine_of g l (write_back_superblock_resp g l m which id).machine ≡ s')
    superblock_resp_no_op a = taken a.meets (no_op_superblock_resp g l m id which s' a.step)
