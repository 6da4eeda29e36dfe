-- The request of a piece of the journal, whole: allowed where it is taken, and taken, with the state and the operation that the relation names,
-- where it is allowed and within limits. Its answer is in MachineJournalAnswers.
use Rattle.std.specs.Prelude.{ℕ, ◌≤◌, ◌≡◌, [], Ok}
use Rattle.std.proofs.Math.Path.{refl, sym}
use Rattle.laws.specs.Choice.{and_then_left, and_then_right, and_then_both}
use Rattle.layout.specs.declared.Geometry.{Geometry}
use Rattle.superblock.specs.declared.DiskOp.{DiskOp}
use Rattle.codec.specs.Format.{format}
use Rattle.source.specs.JournalDisk as D
use Rattle.source.specs.JournalCache.{Variables, PageInJournalReqStep, PageInJournalReq}
use Rattle.source.specs.Limits.{limits}
use Rattle.source.specs.Departures.{Source}
use Rattle.source.specs.Within.{MachineAllowed, MachineWithin}
use Rattle.loading.specs.Which.{is_second}
use Rattle.machine.specs.declared.Machine.{Machine}
use Rattle.machine.specs.Lent.{Lent}
use Rattle.machine.specs.Questions.{ask_machine}
use Rattle.machine.specs.Loading.{ask_page_in_journal_req_step, page_in_journal_req_op, page_in_journal_req_machine}
use Rattle.machine.specs.Whole.{page_in_journal_req}
use Rattle.refine.specs.Machine.LoadingOther as L
use Rattle.refine.specs.Machine.MachineView.{syncs_of, machine_of, operation_of, SizedMachine, MachineLent, MachineForm}
use Rattle.refine.specs.Machine.MachineMeets.{KindOk, machine_kind_ok}
use Rattle.refine.specs.Machine.MachineCalls.{sound_same, complete_same}
use Rattle.refine.specs.Machine.MachineKinds.{by_kind_is, asked_other_is}

module _ (g : Geometry) (l : Lent) (m : Machine) where
  -- PageInJournalReq

  module _ (which : ℕ) where
    pub page_in_journal_req_clauses : (id : ℕ) → ask_machine g l m ≡ 0 → ask_page_in_journal_req_step g m which ≡ 0
        → PageInJournalReq g (machine_of g l m) (machine_of g l (page_in_journal_req_machine m which id)) (operation_of (page_in_journal_req_op g m which id) []) (is_second which)
    unfolding ask_page_in_journal_req_step page_in_journal_req_machine
    page_in_journal_req_clauses id a e =
        asked_other_is
        (λ m.
        KindOk g m
        → PageInJournalReq g (machine_of g l m) (machine_of g l (page_in_journal_req_machine m which id)) (operation_of (page_in_journal_req_op g m which id) []) (is_second which))
        m (and_then_left _ _ e)
        (λ k. L.page_in_journal_req_sound g l.pieces m.other (syncs_of m) which id k (and_then_right _ _ e))
        (machine_kind_ok g l m a)

    pub clauses_page_in_journal_req : which ≤ 1 → (s' : Variables) (dop : D.DiskOp) → PageInJournalReq g (machine_of g l m) s' dop (is_second which)
        → (id : ℕ)
        × (ask_page_in_journal_req_step g m which ≡ 0)
        × (dop ≡ operation_of (page_in_journal_req_op g m which id) [])
        × (machine_of g l (page_in_journal_req_machine m which id) ≡ s')
    unfolding ask_page_in_journal_req_step page_in_journal_req_machine
    clauses_page_in_journal_req w s' dop =
        by_kind_is
        (λ m.
        PageInJournalReq g (machine_of g l m) s' dop (is_second which)
        → (id : ℕ)
        × (ask_page_in_journal_req_step g m which ≡ 0)
        × (dop ≡ operation_of (page_in_journal_req_op g m which id) [])
        × (machine_of g l (page_in_journal_req_machine m which id) ≡ s'))
        m
        (λ h. absurd h)
        (λ h.
        let c = L.page_in_journal_req_complete g l.pieces m.other (syncs_of m) which w s' dop h in
        (h.id, and_then_both 0 _ refl c.0, c.1, sym c.2))
        (λ h. absurd h)

    module _ (z : SizedMachine m) where
      pub page_in_journal_req_sound : (id : ℕ) (o : DiskOp) → (page_in_journal_req g l m which id).answer ≡ Ok o
          → MachineAllowed g format limits (machine_of g l m) (machine_of g l (page_in_journal_req g l m which id).machine) (operation_of o []) (Source (PageInJournalReqStep (is_second which)))
      page_in_journal_req_sound id o e =
          sound_same g l m z (ask_page_in_journal_req_step g m which) (page_in_journal_req_op g m which id) (page_in_journal_req_machine m which id) []
          (Source (PageInJournalReqStep (is_second which))) o e
          (λ a r h. page_in_journal_req_clauses id a r)

      pub page_in_journal_req_complete : MachineLent g l → MachineForm l m → which ≤ 1 → (s' : Variables) (dop : D.DiskOp)
          → MachineAllowed g format limits (machine_of g l m) s' dop (Source (PageInJournalReqStep (is_second which)))
          → MachineWithin g limits (machine_of g l m) s' dop (Source (PageInJournalReqStep (is_second which)))
          → (id : ℕ)
          × ((page_in_journal_req g l m which id).answer ≡ Ok (page_in_journal_req_op g m which id))
          × (dop ≡ operation_of (page_in_journal_req_op g m which id) [])
          × (machine_of g l (page_in_journal_req g l m which id).machine ≡ s')
      page_in_journal_req_complete t f w s' dop h i =
          let c = clauses_page_in_journal_req w s' dop h.step in
          let a =
          complete_same g l m z (ask_page_in_journal_req_step g m which) (page_in_journal_req_op g m which c.0) (page_in_journal_req_machine m which c.0)
          s' t f h.meets c.1 c.3 in
          (c.0, a.0, c.2, a.1)
