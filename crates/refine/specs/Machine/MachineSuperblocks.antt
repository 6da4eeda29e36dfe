-- The steps of a machine that loads its superblocks, whole: a request, ask again, and the end of the phase. Each is allowed where it is taken, and
-- taken, with the state and the operation that the relation names, where it is allowed and within limits.
use Rattle.std.specs.Prelude.{ℕ, ◌≤◌, ◌≡◌, [], Ok}
use Rattle.std.proofs.Math.Path.{refl, sym}
use Rattle.laws.specs.Choice.{and_then_left, and_then_right, and_then_both}
use Rattle.layout.specs.declared.Geometry.{Geometry}
use Rattle.superblock.specs.declared.DiskOp.{DiskOp}
use Rattle.superblock.specs.declared.DiskOp.TheVariants as op
use Rattle.codec.specs.Format.{format}
use Rattle.source.specs.JournalDisk as D
use Rattle.source.specs.JournalCache.{Variables, PageInSuperblockReqStep, FinishLoadingSuperblockPhaseStep, FinishLoadingSuperblockPhase}
use Rattle.source.specs.Limits.{limits}
use Rattle.source.specs.Departures.{Source, AskAgainStep, PageInSuperblockReq⁺, AskAgain}
use Rattle.source.specs.Within.{MachineAllowed, MachineWithin}
use Rattle.loading.specs.Which.{is_second}
use Rattle.machine.specs.declared.Machine.{Machine}
use Rattle.machine.specs.Lent.{Lent}
use Rattle.machine.specs.Loading.{ask_page_in_superblock_req_step, page_in_superblock_req_op, page_in_superblock_req_machine, ask_finish_loading_superblock_phase_step, finish_loading_superblock_phase_machine, ask_ask_again_step, ask_again_machine}
use Rattle.machine.specs.Whole.{page_in_superblock_req, finish_loading_superblock_phase, ask_again}
use Rattle.refine.specs.Machine.LoadingSuperblock as L
use Rattle.refine.specs.Machine.MachineView.{syncs_of, machine_of, operation_of, SizedMachine, MachineLent, MachineForm}
use Rattle.refine.specs.Machine.MachineCalls.{sound_same, complete_same}
use Rattle.refine.specs.Machine.MachineKinds.{by_kind_is, asked_superblocks}

module _ (g : Geometry) (l : Lent) (m : Machine) where
  -- PageInSuperblockReq

  module _ (which : ℕ) where
    pub page_in_superblock_req_clauses : (id : ℕ) → ask_page_in_superblock_req_step m which id ≡ 0
        → PageInSuperblockReq⁺ (machine_of g l m) (machine_of g l (page_in_superblock_req_machine m which id)) (operation_of (page_in_superblock_req_op which id) []) (is_second which)
    unfolding ask_page_in_superblock_req_step page_in_superblock_req_machine
    page_in_superblock_req_clauses id e =
        asked_superblocks
        (λ m. PageInSuperblockReq⁺ (machine_of g l m) (machine_of g l (page_in_superblock_req_machine m which id)) (operation_of (page_in_superblock_req_op which id) []) (is_second which))
        m (and_then_left _ _ e)
        (L.page_in_superblock_req_sound m.superblocks (syncs_of m) which id (and_then_right _ _ e))

    pub clauses_page_in_superblock_req : which ≤ 1 → (s' : Variables) (dop : D.DiskOp) → PageInSuperblockReq⁺ (machine_of g l m) s' dop (is_second which)
        → (id : ℕ)
        × (ask_page_in_superblock_req_step m which id ≡ 0)
        × (dop ≡ operation_of (page_in_superblock_req_op which id) [])
        × (machine_of g l (page_in_superblock_req_machine m which id) ≡ s')
    unfolding ask_page_in_superblock_req_step page_in_superblock_req_machine
    clauses_page_in_superblock_req w s' dop =
        by_kind_is
        (λ m.
        PageInSuperblockReq⁺ (machine_of g l m) s' dop (is_second which)
        → (id : ℕ)
        × (ask_page_in_superblock_req_step m which id ≡ 0)
        × (dop ≡ operation_of (page_in_superblock_req_op which id) [])
        × (machine_of g l (page_in_superblock_req_machine m which id) ≡ s'))
        m
        (λ h.
        let c = L.page_in_superblock_req_complete m.superblocks (syncs_of m) which w s' dop h in
        (h.source.id, and_then_both 0 _ refl c.0, h.source.op, sym c.1))
        (λ h. absurd h.source)
        (λ h. absurd h.source)

    module _ (z : SizedMachine m) where
      pub page_in_superblock_req_sound : (id : ℕ) (o : DiskOp) → (page_in_superblock_req g l m which id).answer ≡ Ok o
          → MachineAllowed g format limits (machine_of g l m) (machine_of g l (page_in_superblock_req g l m which id).machine) (operation_of o []) (Source (PageInSuperblockReqStep (is_second which)))
      page_in_superblock_req_sound id o e =
          sound_same g l m z (ask_page_in_superblock_req_step m which id) (page_in_superblock_req_op which id) (page_in_superblock_req_machine m which id) []
          (Source (PageInSuperblockReqStep (is_second which))) o e
          (λ a r h. page_in_superblock_req_clauses id r)

      pub page_in_superblock_req_complete : MachineLent g l → MachineForm l m → which ≤ 1 → (s' : Variables) (dop : D.DiskOp)
          → MachineAllowed g format limits (machine_of g l m) s' dop (Source (PageInSuperblockReqStep (is_second which)))
          → MachineWithin g limits (machine_of g l m) s' dop (Source (PageInSuperblockReqStep (is_second which)))
          → (id : ℕ)
          × ((page_in_superblock_req g l m which id).answer ≡ Ok (op.ReqReadSuperblock id which))
          × (dop ≡ operation_of (op.ReqReadSuperblock id which) [])
          × (machine_of g l (page_in_superblock_req g l m which id).machine ≡ s')
      page_in_superblock_req_complete t f w s' dop h i =
          let c = clauses_page_in_superblock_req w s' dop h.step in
          let a =
          complete_same g l m z (ask_page_in_superblock_req_step m which c.0) (page_in_superblock_req_op which c.0) (page_in_superblock_req_machine m which c.0)
          s' t f h.meets c.1 c.3 in
          (c.0, a.0, c.2, a.1)

  -- Ask again

  module _ (which : ℕ) where
    pub ask_again_clauses : ask_ask_again_step m which ≡ 0
        → AskAgain (machine_of g l m) (machine_of g l (ask_again_machine m which)) D.NoDiskOp (is_second which)
    unfolding ask_ask_again_step ask_again_machine
    ask_again_clauses e =
        asked_superblocks (λ m. AskAgain (machine_of g l m) (machine_of g l (ask_again_machine m which)) D.NoDiskOp (is_second which)) m (and_then_left _ _ e)
        (L.ask_again_sound m.superblocks (syncs_of m) which (and_then_right _ _ e))

    pub clauses_ask_again : which ≤ 1 → (s' : Variables) (dop : D.DiskOp) → AskAgain (machine_of g l m) s' dop (is_second which)
        → (ask_ask_again_step m which ≡ 0) × (dop ≡ D.NoDiskOp) × (machine_of g l (ask_again_machine m which) ≡ s')
    unfolding ask_ask_again_step ask_again_machine
    clauses_ask_again w s' dop =
        by_kind_is
        (λ m.
        AskAgain (machine_of g l m) s' dop (is_second which)
        → (ask_ask_again_step m which ≡ 0) × (dop ≡ D.NoDiskOp) × (machine_of g l (ask_again_machine m which) ≡ s'))
        m
        (λ h.
        let c = L.ask_again_complete m.superblocks (syncs_of m) which w s' dop h in
        (and_then_both 0 _ refl c.0, c.1, sym c.2))
        (λ h. absurd h)
        (λ h. absurd h)

    module _ (z : SizedMachine m) where
      pub ask_again_sound : (o : DiskOp) → (ask_again g l m which).answer ≡ Ok o
          → MachineAllowed g format limits (machine_of g l m) (machine_of g l (ask_again g l m which).machine) (operation_of o []) (AskAgainStep (is_second which))
      ask_again_sound o e =
          sound_same g l m z (ask_ask_again_step m which) op.NoDiskOp (ask_again_machine m which) [] (AskAgainStep (is_second which)) o e
          (λ a r h. ask_again_clauses r)

      pub ask_again_complete : MachineLent g l → MachineForm l m → which ≤ 1 → (s' : Variables) (dop : D.DiskOp)
          → MachineAllowed g format limits (machine_of g l m) s' dop (AskAgainStep (is_second which))
          → MachineWithin g limits (machine_of g l m) s' dop (AskAgainStep (is_second which))
          → ((ask_again g l m which).answer ≡ Ok op.NoDiskOp) × (dop ≡ operation_of op.NoDiskOp []) × (machine_of g l (ask_again g l m which).machine ≡ s')
      ask_again_complete t f w s' dop h i =
          let c = clauses_ask_again w s' dop h.step in
          let a = complete_same g l m z (ask_ask_again_step m which) op.NoDiskOp (ask_again_machine m which) s' t f h.meets c.0 c.2 in
          (a.0, c.1, a.1)

  -- FinishLoadingSuperblockPhase

  pub finish_loading_superblock_phase_clauses : ask_finish_loading_superblock_phase_step m ≡ 0
      → FinishLoadingSuperblockPhase (machine_of g l m) (machine_of g l (finish_loading_superblock_phase_machine m)) D.NoDiskOp
  unfolding ask_finish_loading_superblock_phase_step finish_loading_superblock_phase_machine
  finish_loading_superblock_phase_clauses e =
      asked_superblocks (λ m. FinishLoadingSuperblockPhase (machine_of g l m) (machine_of g l (finish_loading_superblock_phase_machine m)) D.NoDiskOp) m (and_then_left _ _ e)
      (L.finish_loading_superblock_phase_sound m.superblocks (syncs_of m) g l.pieces m.other (and_then_right _ _ e))

  pub clauses_finish_loading_superblock_phase : (s' : Variables) (dop : D.DiskOp) → FinishLoadingSuperblockPhase (machine_of g l m) s' dop
      → (ask_finish_loading_superblock_phase_step m ≡ 0) × (dop ≡ D.NoDiskOp) × (machine_of g l (finish_loading_superblock_phase_machine m) ≡ s')
  unfolding ask_finish_loading_superblock_phase_step finish_loading_superblock_phase_machine
  clauses_finish_loading_superblock_phase s' dop =
      by_kind_is
      (λ m.
      FinishLoadingSuperblockPhase (machine_of g l m) s' dop
      → (ask_finish_loading_superblock_phase_step m ≡ 0) × (dop ≡ D.NoDiskOp) × (machine_of g l (finish_loading_superblock_phase_machine m) ≡ s'))
      m
      (λ h.
      let c = L.finish_loading_superblock_phase_complete m.superblocks (syncs_of m) g l.pieces m.other s' dop h in
      (and_then_both 0 _ refl c.0, c.1, sym c.2))
      (λ h. absurd h)
      (λ h. absurd h)

  module _ (z : SizedMachine m) where
    pub finish_loading_superblock_phase_sound : (o : DiskOp) → (finish_loading_superblock_phase g l m).answer ≡ Ok o
        → MachineAllowed g format limits (machine_of g l m) (machine_of g l (finish_loading_superblock_phase g l m).machine) (operation_of o []) (Source FinishLoadingSuperblockPhaseStep)
    finish_loading_superblock_phase_sound o e =
        sound_same g l m z (ask_finish_loading_superblock_phase_step m) op.NoDiskOp (finish_loading_superblock_phase_machine m) [] (Source FinishLoadingSuperblockPhaseStep) o e
        (λ a r h. finish_loading_superblock_phase_clauses r)

    pub finish_loading_superblock_phase_complete : MachineLent g l → MachineForm l m → (s' : Variables) (dop : D.DiskOp)
        → MachineAllowed g format limits (machine_of g l m) s' dop (Source FinishLoadingSuperblockPhaseStep)
        → MachineWithin g limits (machine_of g l m) s' dop (Source FinishLoadingSuperblockPhaseStep)
        → ((finish_loading_superblock_phase g l m).answer ≡ Ok op.NoDiskOp)
        × (dop ≡ operation_of op.NoDiskOp [])
        × (machine_of g l (finish_loading_superblock_phase g l m).machine ≡ s')
    finish_loading_superblock_phase_complete t f s' dop h i =
        let c = clauses_finish_loading_superblock_phase s' dop h.step in
        let a = complete_same g l m z (ask_finish_loading_superblock_phase_step m) op.NoDiskOp (finish_loading_superblock_phase_machine m) s' t f h.meets c.0 c.2 in
        (a.0, c.1, a.1)
