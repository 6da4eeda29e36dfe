-- The answer of a superblock read, in every kind of machine: awaited, or by nobody, in which case it is a NoOp.
use Rattle.std.specs.Prelude.{ℕ, ◌≤◌, ◌≡◌, [], ◌⊎◌, Ok}
use Rattle.std.specs.declared.option.Option as code
use Rattle.std.proofs.Math.Path.{refl, sym}
use Rattle.std.proofs.Common.{◌∙◌, ap, subst, inl, inr, ⊎_elim}
use Rattle.laws.specs.Optional.{optional, option_of, option_of_optional}
use Rattle.layout.specs.declared.Geometry.{Geometry}
use Rattle.superblock.specs.declared.DiskOp.{DiskOp}
use Rattle.superblock.specs.declared.DiskOp.TheVariants as op
use Rattle.superblock.specs.declared.Superblock.{Superblock}
use Rattle.codec.specs.Format.{format}
use Rattle.source.specs.JournalDisk as D
use Rattle.source.specs.JournalCache as M
use Rattle.source.specs.JournalCache.{Variables, PageInSuperblockRespStep, NoOpStep, PageInSuperblockResp}
use Rattle.source.specs.Limits.{limits}
use Rattle.source.specs.Meets.{MachineMeets}
use Rattle.source.specs.Departures.{Source, NoOp⁺}
use Rattle.source.specs.Within.{MachineAllowed, MachineWithin}
use Rattle.loading.specs.Laws.Which.{asked_which}
use Rattle.loading.specs.Which.{is_second}
use Rattle.machine.specs.declared.Machine.{Machine}
use Rattle.machine.specs.Lent.{Lent}
use Rattle.machine.specs.Loading.{ask_page_in_superblock_resp_step, page_in_superblock_resp_op, page_in_superblock_resp_machine}
use Rattle.machine.specs.Whole.{page_in_superblock_resp}
use Rattle.refine.specs.Machine.LoadingSuperblock as L
use Rattle.refine.specs.Machine.MachineView.{syncs_of, machine_of, operation_of, SizedMachine, MachineLent, MachineForm}
use Rattle.refine.specs.Machine.MachineCalls.{sound_same, complete_same}
use Rattle.refine.specs.Machine.MachineKinds.{by_kind_is, seen_superblocks}

module _ (g : Geometry) (l : Lent) (m : Machine) where
  module _ (which id : ℕ) (r : code.Option Superblock) where
    abbrev resp_dop : D.DiskOp
    resp_dop = operation_of (page_in_superblock_resp_op which id r) []

    pub page-in-superblock-resp-clauses :
        PageInSuperblockResp g (machine_of g l m) (machine_of g l (page_in_superblock_resp_machine g m which id r)) resp_dop (is_second which)
        ⊎ NoOp⁺ (machine_of g l m) (machine_of g l (page_in_superblock_resp_machine g m which id r)) resp_dop
    unfolding page_in_superblock_resp_machine
    page-in-superblock-resp-clauses =
        by_kind_is
        (λ m.
        PageInSuperblockResp g (machine_of g l m) (machine_of g l (page_in_superblock_resp_machine g m which id r)) resp_dop (is_second which)
        ⊎ NoOp⁺ (machine_of g l m) (machine_of g l (page_in_superblock_resp_machine g m which id r)) resp_dop)
        m
        (L.page_in_superblock_resp_sound m.superblocks (syncs_of m) g which id r)
        (inr (record { source = record { op = M.NoOpOp.superblock_read_op id (is_second which) (option_of r) refl; next = refl }; unawaited = λ w. w }))
        (inr (record { source = record { op = M.NoOpOp.superblock_read_op id (is_second which) (option_of r) refl; next = refl }; unawaited = λ w. w }))

    pub clauses_page_in_superblock_resp : (s' : Variables) → PageInSuperblockResp g (machine_of g l m) s' resp_dop (is_second which) ⊎ NoOp⁺ (machine_of g l m) s' resp_dop
        → machine_of g l (page_in_superblock_resp_machine g m which id r) ≡ s'
    unfolding page_in_superblock_resp_machine
    clauses_page_in_superblock_resp s' =
        by_kind_is
        (λ m.
        PageInSuperblockResp g (machine_of g l m) s' resp_dop (is_second which) ⊎ NoOp⁺ (machine_of g l m) s' resp_dop
        → machine_of g l (page_in_superblock_resp_machine g m which id r) ≡ s')
        m
        (λ h. sym (L.page_in_superblock_resp_complete m.superblocks (syncs_of m) g which id r s' h))
        (⊎_elim (λ h. absurd h) (λ h. sym h.source.next))
        (⊎_elim (λ h. absurd h) (λ h. sym h.source.next))

    module _ (z : SizedMachine m) where
      pub page_in_superblock_resp_sound : (o : DiskOp) → (page_in_superblock_resp g l m which id r).answer ≡ Ok o
          → MachineAllowed g format limits (machine_of g l m) (machine_of g l (page_in_superblock_resp g l m which id r).machine) (operation_of o []) (Source (PageInSuperblockRespStep (is_second which)))
          ⊎ MachineAllowed g format limits (machine_of g l m) (machine_of g l (page_in_superblock_resp g l m which id r).machine) (operation_of o []) (Source NoOpStep)
      page_in_superblock_resp_sound o e =
          ⊎_elim
          (λ h.
          inl
          (sound_same g l m z (ask_page_in_superblock_resp_step which) (page_in_superblock_resp_op which id r) (page_in_superblock_resp_machine g m which id r) []
          (Source (PageInSuperblockRespStep (is_second which))) o e (λ a q k. h)))
          (λ h.
          inr
          (sound_same g l m z (ask_page_in_superblock_resp_step which) (page_in_superblock_resp_op which id r) (page_in_superblock_resp_machine g m which id r) []
          (Source NoOpStep) o e (λ a q k. h)))
          page-in-superblock-resp-clauses

      -- the answer of this call, by either predicate
      answers_it : MachineLent g l → MachineForm l m → which ≤ 1 → (s' : Variables) → MachineMeets g limits (machine_of g l m)
          → PageInSuperblockResp g (machine_of g l m) s' resp_dop (is_second which) ⊎ NoOp⁺ (machine_of g l m) s' resp_dop
          → ((page_in_superblock_resp g l m which id r).answer ≡ Ok (op.RespReadSuperblock id which r))
          × (machine_of g l (page_in_superblock_resp g l m which id r).machine ≡ s')
      answers_it t f w s' k h =
          complete_same g l m z (ask_page_in_superblock_resp_step which) (page_in_superblock_resp_op which id r) (page_in_superblock_resp_machine g m which id r)
          s' t f k (asked_which which w) (clauses_page_in_superblock_resp s' h)

      pub superblock_unawaited_complete : MachineLent g l → MachineForm l m → which ≤ 1 → (s' : Variables)
          → MachineAllowed g format limits (machine_of g l m) s' (operation_of (op.RespReadSuperblock id which r) []) (Source NoOpStep)
          → MachineWithin g limits (machine_of g l m) s' (operation_of (op.RespReadSuperblock id which r) []) (Source NoOpStep)
          → ((page_in_superblock_resp g l m which id r).answer ≡ Ok (op.RespReadSuperblock id which r))
          × (machine_of g l (page_in_superblock_resp g l m which id r).machine ≡ s')
      superblock_unawaited_complete t f w s' h i = answers_it t f w s' h.meets (inr h.step)

  -- an awaited answer brings an id and what was read
  pub names_page_in_superblock_resp : (which : ℕ) (s' : Variables) (dop : D.DiskOp) → PageInSuperblockResp g (machine_of g l m) s' dop (is_second which)
      → (id : ℕ) × (r : code.Option Superblock) × (dop ≡ operation_of (op.RespReadSuperblock id which r) [])
  names_page_in_superblock_resp which s' dop h =
      seen_superblocks (λ m. (id : ℕ) × (r : code.Option Superblock) × (dop ≡ operation_of (op.RespReadSuperblock id which r) [])) m g l
      (λ s. M.PageInSuperblockRespClauses g s s' dop (is_second which)) h
      (λ c. (c.id, optional c.superblock, c.op ∙ ap (D.RespReadSuperblockOp c.id (is_second which)) (sym (option_of_optional c.superblock))))

  module _ (which : ℕ) (z : SizedMachine m) where
    pub page_in_superblock_resp_complete : MachineLent g l → MachineForm l m → which ≤ 1 → (s' : Variables) (dop : D.DiskOp)
        → MachineAllowed g format limits (machine_of g l m) s' dop (Source (PageInSuperblockRespStep (is_second which)))
        → MachineWithin g limits (machine_of g l m) s' dop (Source (PageInSuperblockRespStep (is_second which)))
        → (id : ℕ)
        × (r : code.Option Superblock)
        × ((page_in_superblock_resp g l m which id r).answer ≡ Ok (op.RespReadSuperblock id which r))
        × (dop ≡ operation_of (op.RespReadSuperblock id which r) [])
        × (machine_of g l (page_in_superblock_resp g l m which id r).machine ≡ s')
    page_in_superblock_resp_complete t f w s' dop h i =
        let n = names_page_in_superblock_resp which s' dop h.step in
        let a =
        answers_it which n.0 n.1 z t f w s' h.meets
        (inl (subst (λ (d : D.DiskOp). PageInSuperblockResp g (machine_of g l m) s' d (is_second which)) n.2 h.step)) in
        (n.0, n.1, a.0, n.2, a.1)
