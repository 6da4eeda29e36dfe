-- Completeness of a store that loads: both reads, the answer of a superblock read, the end of the superblocks' phase, and ask again.
use Prim.Native.Nat.{ℕ}
use Rattle.std.proofs.Math.Bool.{Bool}
use Rattle.std.specs.Prelude.{true, ◌≡◌, None, Some}
use Rattle.std.specs.declared.option.Option as code
use Rattle.std.proofs.Math.Path.{refl, sym, ap, subst}
use Rattle.std.proofs.Common.{◌∙◌, inl}
use mathlib.Core.List.{[]}
use Rattle.laws.specs.Sets.{is_key}
use Rattle.laws.specs.Optional.{option_of}
use Rattle.layout.specs.declared.Geometry.{Geometry}
use Rattle.superblock.specs.declared.DiskOp.TheVariants as op
use Rattle.superblock.specs.declared.Superblock.{Superblock}
use Rattle.codec.specs.Format.{format}
use Rattle.loading.specs.Laws.Which.{asked_which}
use Rattle.loading.specs.Which.{is_second}
use Rattle.source.specs.JournalDisk as D
use Rattle.source.specs.JournalCache as M
use Rattle.source.specs.JournalCache.{PageInJournalReqStep, PageInSuperblockReqStep, PageInSuperblockRespStep, FinishLoadingSuperblockPhaseStep}
use Rattle.source.specs.JournalSystem as Y
use Rattle.source.specs.Limits.{limits}
use Rattle.source.specs.Departures.{PageInSuperblockReq⁺, AskAgain, Source, AskAgainStep, MachineStep, Allowed}
use Rattle.source.specs.Within.{Within}
use Rattle.history.specs.Ledger as ledger
use Rattle.history.specs.Statement.{Tied}
use Rattle.machine.specs.Loading.{ask_page_in_journal_req_step, page_in_journal_req_op, page_in_journal_req_machine, ask_page_in_superblock_req_step, page_in_superblock_req_op, page_in_superblock_req_machine, ask_page_in_superblock_resp_step, page_in_superblock_resp_op, page_in_superblock_resp_machine, ask_finish_loading_superblock_phase_step, finish_loading_superblock_phase_machine, ask_ask_again_step, ask_again_machine}
use Rattle.requests.specs.Slots.{slot_at}
use Rattle.requests.specs.Acknowledge.{read_from}
use Rattle.requests.specs.Laws.Pairs.{bit_of, which_of, which_in, bit_which}
use Rattle.requests.specs.Laws.Acknowledge.{read_whole, read_damaged}
use Rattle.store.specs.declared.Store.{Store}
use Rattle.store.specs.Lent.{Lent, machine_lent}
use Rattle.store.specs.Steps.{content_of}
use Rattle.calls.specs.declared.calls.Step.TheVariants as step
use Rattle.calls.specs.Step.{step_answer_with, step_lent_with, ask_picture}
use Rattle.refine.specs.Disk.SuperblockReads.{holds_of}
use Rattle.refine.specs.Machine.MachineView.{operation_of}
use Rattle.refine.specs.Machine.MachineJournal.{clauses_page_in_journal_req}
use Rattle.refine.specs.Machine.MachineSuperblocks.{clauses_page_in_superblock_req, clauses_ask_again, clauses_finish_loading_superblock_phase}
use Rattle.refine.specs.Machine.MachineSuperblockAnswers.{clauses_page_in_superblock_resp, names_page_in_superblock_resp}
use Rattle.refine.specs.Store.Seen.{seen, SizedStore}
use Rattle.refine.specs.Store.Done.{StoreForm, Done}
use Rattle.refine.specs.Store.Doing.{nothing, slot_which, tied_named, tied_op, both_done}

module _ (g : Geometry) (l : Lent) (s : Store) (z : SizedStore s) (f : StoreForm g l s) (t : Y.Variables) (dop : D.DiskOp) where
  abbrev machine_before : M.Variables
  machine_before = (seen g l s).machine

  -- FinishLoadingSuperblockPhase
  pub finish_superblocks_done : Allowed g format limits (seen g l s) t (MachineStep dop (Source FinishLoadingSuperblockPhaseStep))
      → Within g limits t (MachineStep dop (Source FinishLoadingSuperblockPhaseStep))
      → Done g l s t (MachineStep dop (Source FinishLoadingSuperblockPhaseStep))
  unfolding step_answer_with step_lent_with ask_picture
  finish_superblocks_done a w =
      let c = clauses_finish_loading_superblock_phase g (machine_lent l) s.machine t.machine dop a.step.machine in
      both_done g l s z f t dop (Source FinishLoadingSuperblockPhaseStep) a w step.FinishLoadingSuperblockPhase nothing (ask_finish_loading_superblock_phase_step s.machine) op.NoDiskOp
      (finish_loading_superblock_phase_machine s.machine)
      (record { answers = refl; keeps = refl; brings = refl }) tt tt (tied_op dop (Source FinishLoadingSuperblockPhaseStep) D.NoDiskOp c.1 Tied.tied_finish_superblocks)
      c.0 c.2 c.1

  module _ (which : Bool) where
    -- the slot as the calls name it
    abbrev n : ℕ
    n = which_of which

    -- PageInJournalReq
    pub read_journal_done : Allowed g format limits (seen g l s) t (MachineStep dop (Source (PageInJournalReqStep which)))
        → Within g limits t (MachineStep dop (Source (PageInJournalReqStep which)))
        → Done g l s t (MachineStep dop (Source (PageInJournalReqStep which)))
    unfolding step_answer_with step_lent_with ask_picture
    read_journal_done a w =
        let c =
        clauses_page_in_journal_req g (machine_lent l) s.machine n (which_in which) t.machine dop
        (subst (M.PageInJournalReq g machine_before t.machine dop) (sym (slot_which which)) a.step.machine) in
        both_done g l s z f t dop (Source (PageInJournalReqStep which)) a w (step.PageInJournalReq n c.0) nothing (ask_page_in_journal_req_step g s.machine n)
        (page_in_journal_req_op g s.machine n c.0) (page_in_journal_req_machine s.machine n c.0)
        (record { answers = refl; keeps = refl; brings = refl }) tt tt
        (tied_named which (λ b. ledger.read_journal b c.0) (MachineStep dop (Source (PageInJournalReqStep which)))
        (tied_op dop (Source (PageInJournalReqStep which)) (operation_of (page_in_journal_req_op g s.machine n c.0) []) c.2 Tied.tied_page))
        c.1 c.3 c.2

    -- PageInSuperblockReq
    pub read_superblock_done : Allowed g format limits (seen g l s) t (MachineStep dop (Source (PageInSuperblockReqStep which)))
        → Within g limits t (MachineStep dop (Source (PageInSuperblockReqStep which)))
        → Done g l s t (MachineStep dop (Source (PageInSuperblockReqStep which)))
    unfolding step_answer_with step_lent_with ask_picture
    read_superblock_done a w =
        let c =
        clauses_page_in_superblock_req g (machine_lent l) s.machine n (which_in which) t.machine dop
        (subst (PageInSuperblockReq⁺ machine_before t.machine dop) (sym (slot_which which)) a.step.machine) in
        both_done g l s z f t dop (Source (PageInSuperblockReqStep which)) a w (step.PageInSuperblockReq n c.0) nothing (ask_page_in_superblock_req_step s.machine n c.0)
        (page_in_superblock_req_op n c.0) (page_in_superblock_req_machine s.machine n c.0)
        (record { answers = refl; keeps = refl; brings = refl }) tt (which_in which)
        (tied_named which (λ b. ledger.read_superblock b c.0) (MachineStep dop (Source (PageInSuperblockReqStep which)))
        (tied_op dop (Source (PageInSuperblockReqStep which)) (D.ReqReadSuperblockOp c.0 which) (c.2 ∙ ap (D.ReqReadSuperblockOp c.0) (slot_which which)) Tied.tied_read))
        c.1 c.3 c.2

    -- ask again
    pub ask_again_done : Allowed g format limits (seen g l s) t (MachineStep dop (AskAgainStep which))
        → Within g limits t (MachineStep dop (AskAgainStep which))
        → Done g l s t (MachineStep dop (AskAgainStep which))
    unfolding step_answer_with step_lent_with ask_picture
    ask_again_done a w =
        let c =
        clauses_ask_again g (machine_lent l) s.machine n (which_in which) t.machine dop
        (subst (AskAgain machine_before t.machine dop) (sym (slot_which which)) a.step.machine) in
        both_done g l s z f t dop (AskAgainStep which) a w (step.AskAgain n) nothing (ask_ask_again_step s.machine n) op.NoDiskOp (ask_again_machine s.machine n)
        (record { answers = refl; keeps = refl; brings = refl }) tt tt
        (tied_named which ledger.ask_again (MachineStep dop (AskAgainStep which)) (tied_op dop (AskAgainStep which) D.NoDiskOp c.1 Tied.tied_again))
        c.0 c.2 c.1

    -- PageInSuperblockResp: what the slot holds is what the answer brings
    content_is : (id : ℕ) (r : code.Option Superblock) → D.AckReadSuperblock (seen g l s).disk t.disk id (bit_of n) (option_of r) → content_of s n (is_key (option_of r)) ≡ r
    content_is id (Some v) a = ap (read_from true) (holds_of g s.disk n id l.blocks l.marks v (a.whole v refl)) ∙ read_whole v
    content_is id None a = read_damaged (slot_at s.disk.slots n)

    answer_tied : (id : ℕ) (r : code.Option Superblock)
        → Tied (ledger.superblock_read which id (is_key (option_of r))) (MachineStep (D.RespReadSuperblockOp id which (option_of r)) (Source (PageInSuperblockRespStep which)))
    answer_tied id (Some v) = Tied.tied_superblock
    answer_tied id None = Tied.tied_corrupt

    pub superblock_read_done : Allowed g format limits (seen g l s) t (MachineStep dop (Source (PageInSuperblockRespStep which)))
        → Within g limits t (MachineStep dop (Source (PageInSuperblockRespStep which)))
        → Done g l s t (MachineStep dop (Source (PageInSuperblockRespStep which)))
    unfolding step_answer_with step_lent_with ask_picture
    superblock_read_done a w =
        let h = subst (M.PageInSuperblockResp g machine_before t.machine dop) (sym (slot_which which)) a.step.machine in
        let k = names_page_in_superblock_resp g (machine_lent l) s.machine n t.machine dop h in
        let id : ℕ = k.0 in
        let whole : Bool = is_key (option_of k.1) in
        let x : (code.Option Superblock) = content_of s n whole in
        let d : D.AckReadSuperblock (seen g l s).disk t.disk id (bit_of n) (option_of k.1) =
        subst (λ (b : Bool). D.AckReadSuperblock (seen g l s).disk t.disk id b (option_of k.1)) (slot_which which ∙ sym (bit_which which))
        (subst (D.Next g (seen g l s).disk t.disk) k.2 a.step.disk) in
        let same : x ≡ k.1 = content_is id k.1 d in
        let o : dop ≡ operation_of (page_in_superblock_resp_op n id x) [] = k.2 ∙ ap (λ (r : code.Option Superblock). operation_of (page_in_superblock_resp_op n id r) []) (sym same) in
        both_done g l s z f t dop (Source (PageInSuperblockRespStep which)) a w (step.PageInSuperblockResp n id whole) nothing (ask_page_in_superblock_resp_step n)
        (page_in_superblock_resp_op n id x) (page_in_superblock_resp_machine g s.machine n id x)
        (record { answers = refl; keeps = refl; brings = refl }) tt (which_in which)
        (tied_named which (λ b. ledger.superblock_read b id whole) (MachineStep dop (Source (PageInSuperblockRespStep which)))
        (tied_op dop (Source (PageInSuperblockRespStep which)) (D.RespReadSuperblockOp id which (option_of k.1))
        (k.2 ∙ ap (λ (b : Bool). D.RespReadSuperblockOp id b (option_of k.1)) (slot_which which)) (answer_tied id k.1)))
        (asked_which n (which_in which))
        (clauses_page_in_superblock_resp g (machine_lent l) s.machine n id x t.machine
        (inl (subst (λ (d : D.DiskOp). M.PageInSuperblockResp g machine_before t.machine d (is_second n)) o h)))
        o
