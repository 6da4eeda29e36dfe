-- WriteBackJournalResp of a whole machine, in every kind: an answer that a journal write awaits, and one that nobody awaits.
use Rattle.std.specs.Prelude.{ℕ, true, ◌≡◌, refl, [], ◌⊎◌, Ok}
use Rattle.std.proofs.Math.Path.{sym, ap}
use Rattle.std.proofs.Common.{◌∙◌, subst, inl, inr, ⊎_elim}
use Rattle.laws.specs.Choice.{split_bool, not_so, true_false}
use Rattle.layout.specs.declared.Geometry.{Geometry}
use Rattle.superblock.specs.declared.DiskOp.{DiskOp}
use Rattle.tables.specs.IdTable.{id_set}
use Rattle.ready.specs.JournalSteps.{write_back_journal_resp_next}
use Rattle.codec.specs.Format.{format}
use Rattle.source.specs.JournalDisk as D
use Rattle.source.specs.JournalDisk.{ReqId}
use Rattle.source.specs.JournalCache as M
use Rattle.source.specs.JournalCache.{Variables, IsReady, WriteBackJournalRespStep, NoOpStep, WriteBackJournalRespClauses}
use Rattle.source.specs.Limits.{limits}
use Rattle.source.specs.Meets.{MachineMeets}
use Rattle.source.specs.Departures.{NoOp⁺, Source}
use Rattle.source.specs.Within.{MachineAllowed}
use Rattle.source.proofs.Laws.Cases.{by_ready}
use Rattle.machine.specs.declared.Kind.TheVariants as kind
use Rattle.machine.specs.declared.Machine.{Machine}
use Rattle.machine.specs.Machine.{with_ready}
use Rattle.machine.specs.Lent.{Lent}
use Rattle.machine.specs.Questions.{ask_machine}
use Rattle.machine.specs.Working.{write_back_journal_resp_op, write_back_journal_resp_machine}
use Rattle.machine.specs.Whole.{write_back_journal_resp}
use Rattle.machine.specs.Laws.Answers.{next_asked}
use Rattle.refine.specs.Machine.ReadyView.{ready_of}
use Rattle.refine.specs.Machine.ReadyJournal as R
use Rattle.refine.specs.Machine.MachineView.{ready_lent, syncs_of, machine_of, operation_of, SizedMachine, MachineLent, MachineForm}
use Rattle.refine.specs.Machine.MachineMeets.{machine_met, met_machine}
use Rattle.refine.specs.Machine.MachineCalls.{taken_by, answered_by_is}
use Rattle.refine.specs.Machine.MachineWork.{by_work, work_taken, work_kept, work_of, work_seen, work_form, work_in, work_out}

module _ (g : Geometry) (l : Lent) (m : Machine) (form : MachineForm l m) (id : ℕ) where
  -- somebody awaits it, in the source's words
  abbrev AwaitsWrite : Type 0
  AwaitsWrite = IsReady (machine_of g l m) (λ s. s.outstanding_journal_writes id ≡ true)

  abbrev dop : D.DiskOp
  dop = operation_of (write_back_journal_resp_op id) []

  -- the machine that took it
  abbrev taken : Machine
  taken = with_ready m (write_back_journal_resp_next m.ready id)

  taken_view : m.kind ≡ kind.Ready → machine_of g l (write_back_journal_resp_machine m id) ≡ Variables.Ready (work_of l taken)
  unfolding write_back_journal_resp_machine
  taken_view k = ap (machine_of g l) (work_taken m taken k) ∙ work_seen g l taken k

  -- awaited by nobody: the view stays
  unawaited_same : (AwaitsWrite → ⊥) → machine_of g l (write_back_journal_resp_machine m id) ≡ machine_of g l m
  unfolding write_back_journal_resp_machine
  unawaited_same n =
      by_work m
      (λ k.
      taken_view k
      ∙ R.journal_unawaited (ready_lent l) (syncs_of m) m.ready (work_form g l m k form).writes id
      (not_so (id_set m.ready.writes id) (λ e. n (work_in g l m (λ s. s.outstanding_journal_writes id ≡ true) k e)))
      ∙ sym (work_seen g l m k))
      (λ n. ap (machine_of g l) (work_kept m taken n))

  no_op_by : (AwaitsWrite → ⊥) → NoOp⁺ (machine_of g l m) (machine_of g l (write_back_journal_resp_machine m id)) dop
  no_op_by n = record { source = record { op = M.NoOpOp.journal_written_is id refl n; next = unawaited_same n }; unawaited = n }

  pub journal_resp_clauses : M.WriteBackJournalResp (machine_of g l m) (machine_of g l (write_back_journal_resp_machine m id)) dop
      ⊎ NoOp⁺ (machine_of g l m) (machine_of g l (write_back_journal_resp_machine m id)) dop
  journal_resp_clauses =
      by_work m
      (λ k.
      split_bool (id_set m.ready.writes id)
      (λ e. inl (awaited k e))
      (λ e. inr (no_op_by (λ w. true_false (sym (work_out g l m (λ s. s.outstanding_journal_writes id ≡ true) w).1 ∙ e)))))
      (λ n. inr (no_op_by (λ w. n (work_out g l m (λ s. s.outstanding_journal_writes id ≡ true) w).0)))
    where
      awaited : m.kind ≡ kind.Ready → id_set m.ready.writes id ≡ true → M.WriteBackJournalResp (machine_of g l m) (machine_of g l (write_back_journal_resp_machine m id)) dop
      awaited k e =
          work_in g l m (λ s. WriteBackJournalRespClauses s (machine_of g l (write_back_journal_resp_machine m id)) dop) k
          (subst (λ (s' : Variables). WriteBackJournalRespClauses (work_of l m) s' dop) (sym (taken_view k))
          (R.journal_resp_sound (ready_lent l) (syncs_of m) m.ready (work_form g l m k form).writes id e))

  -- complete out of either
  pub clauses_journal_resp : (s' : Variables) → M.WriteBackJournalResp (machine_of g l m) s' dop → machine_of g l (write_back_journal_resp_machine m id) ≡ s'
  clauses_journal_resp s' h =
      let k = work_out g l m (λ s. WriteBackJournalRespClauses s s' dop) h in
      let c = R.journal_resp_complete (ready_lent l) (syncs_of m) m.ready (work_form g l m k.0 form).writes s' dop k.1 in
      let o = k.1.op in
      let same : k.1.id ≡ id = cc in
      taken_view k.0 ∙ ap (λ (x : ReqId). Variables.Ready (ready_of (ready_lent l) (syncs_of m) (write_back_journal_resp_next m.ready x))) (sym same) ∙ c.1

  pub no_op_journal_resp : (s' : Variables) → NoOp⁺ (machine_of g l m) s' dop → machine_of g l (write_back_journal_resp_machine m id) ≡ s'
  no_op_journal_resp s' h = unawaited_same h.unawaited ∙ sym h.source.next

-- the argument of the call that says an answer
pub journal_resp_said : (s s' : Variables) (dop : D.DiskOp) → M.WriteBackJournalResp s s' dop → (id : ℕ) × (dop ≡ operation_of (write_back_journal_resp_op id) [])
journal_resp_said s s' dop h = by_ready (λ v. (id : ℕ) × (dop ≡ operation_of (write_back_journal_resp_op id) [])) s (λ r. WriteBackJournalRespClauses r s' dop) (λ r c. (c.id, c.op)) h

-- the whole step
module _ (g : Geometry) (l : Lent) (m : Machine) (z : SizedMachine m) (id : ℕ) where
  pub journal_resp_sound : (o : DiskOp) → (write_back_journal_resp g l m id).answer ≡ Ok o
      → MachineAllowed g format limits (machine_of g l m) (machine_of g l (write_back_journal_resp g l m id).machine) (operation_of o []) (Source WriteBackJournalRespStep)
      ⊎ MachineAllowed g format limits (machine_of g l m) (machine_of g l (write_back_journal_resp g l m id).machine) (operation_of o []) (Source NoOpStep)
  journal_resp_sound o e =
      let met = machine_met g l m z (next_asked (ask_machine g l m) (write_back_journal_resp_op id) (write_back_journal_resp_machine m id) m o e).0 in
      ⊎_elim
      (λ h. inl (taken_by g l m (ask_machine g l m) (write_back_journal_resp_op id) (write_back_journal_resp_machine m id) l l (λ k. refl) [] (Source WriteBackJournalRespStep) o e (λ k. (met, h))))
      (λ h. inr (taken_by g l m (ask_machine g l m) (write_back_journal_resp_op id) (write_back_journal_resp_machine m id) l l (λ k. refl) [] (Source NoOpStep) o e (λ k. (met, h))))
      (journal_resp_clauses g l m met.form id)

  module _ (t : MachineLent g l) (form : MachineForm l m) (s' : Variables) where
    taken_to : MachineMeets g limits (machine_of g l m) → machine_of g l (write_back_journal_resp_machine m id) ≡ s'
        → ((write_back_journal_resp g l m id).answer ≡ Ok (write_back_journal_resp_op id)) × (machine_of g l (write_back_journal_resp g l m id).machine ≡ s')
    taken_to meets e =
        answered_by_is g l m (ask_machine g l m) (write_back_journal_resp_op id) (write_back_journal_resp_machine m id) l l (λ k. refl) s'
        (met_machine g l m z (record { lent = t; form = form; meets = meets }))
        e

    pub journal_resp_complete : MachineAllowed g format limits (machine_of g l m) s' (operation_of (write_back_journal_resp_op id) []) (Source WriteBackJournalRespStep)
        → ((write_back_journal_resp g l m id).answer ≡ Ok (write_back_journal_resp_op id)) × (machine_of g l (write_back_journal_resp g l m id).machine ≡ s')
    journal_resp_complete a = taken_to a.meets (clauses_journal_resp g l m form id s' a.step)

    pub journal_resp_no_op : MachineAllowed g format limits (machine_of g l m) s' (operation_of (write_back_journal_resp_op id) []) (Source NoOpStep)
        → ((write_back_journal_resp g l m id).answer ≡ Ok (write_back_journal_resp_op id)) × (machine_of g l (write_back_journal_resp g l m id).machine ≡ s')
    journal_resp_no_op a = taken_to a.meets (no_op_journal_resp g l m form id s' a.step)
