-- Calls of a store that loads: both reads, the answer of a superblock read, the end of the superblocks' phase, and ask again.
use Rattle.std.specs.Prelude.{ℕ, ◌≤◌, Bool, true, false, ◌≡◌, Ok}
use Rattle.std.specs.declared.option.Option as code
use Rattle.std.proofs.Common.{sym, ◌∙◌, ap, subst, ⊎_elim}
use Rattle.std.proofs.Math.Option.{Option, none, some}
use Rattle.laws.specs.Choice.{and_then_right}
use Rattle.laws.specs.Sets.{at}
use Rattle.laws.specs.Optional.{option_of}
use Rattle.layout.specs.declared.Geometry.{Geometry}
use Rattle.superblock.specs.declared.Superblock.{Superblock}
use Rattle.superblock.specs.declared.DiskOp.{DiskOp}
use Rattle.superblock.specs.declared.DiskOp.TheVariants as op
use Rattle.codec.specs.Format.{format}
use Rattle.loading.specs.Laws.Which.{which_asked}
use Rattle.loading.specs.Laws.Other.{page_in_journal_req_asked}
use Rattle.loading.specs.Laws.Superblocks.{ask_again_asked}
use Rattle.loading.specs.Which.{is_second}
use Rattle.source.specs.JournalDisk as D
use Rattle.source.specs.JournalCache.{PageInJournalReqStep, PageInSuperblockReqStep, PageInSuperblockRespStep, FinishLoadingSuperblockPhaseStep, NoOpStep}
use Rattle.source.specs.Limits.{limits}
use Rattle.source.specs.Departures.{Step⁺, Source, AskAgainStep, MachineStep}
use Rattle.history.specs.Ledger as ledger
use Rattle.history.specs.Ledger.{Call}
use Rattle.history.specs.Statement.{Tied, Takes}
use Rattle.machine.specs.declared.Machine.{Machine}
use Rattle.machine.specs.Loading.{ask_page_in_journal_req_step, page_in_journal_req_op, page_in_journal_req_machine, ask_page_in_superblock_req_step, page_in_superblock_req_op, page_in_superblock_req_machine, ask_page_in_superblock_resp_step, page_in_superblock_resp_op, page_in_superblock_resp_machine, ask_finish_loading_superblock_phase_step, finish_loading_superblock_phase_machine, ask_ask_again_step, ask_again_machine}
use Rattle.requests.specs.Slots.{slot_at}
use Rattle.requests.specs.Acknowledge.{read_from}
use Rattle.requests.specs.Laws.Pairs.{bit_of}
use Rattle.requests.specs.Laws.Receive.{recv_read_superblock_asked}
use Rattle.requests.specs.Laws.Acknowledge.{read_whole, read_damaged}
use Rattle.store.specs.declared.Store.{Store}
use Rattle.store.specs.Lent.{Lent, machine_lent, ask_store}
use Rattle.store.specs.Steps.{read_journal, read_superblock, content_of, superblock_read, finish_superblocks, ask_again}
use Rattle.calls.specs.declared.calls.Step.TheVariants as step
use Rattle.calls.specs.Given.{Given}
use Rattle.refine.specs.Disk.View.{disk_of}
use Rattle.refine.specs.Disk.SuperblockReads.{holds_of}
use Rattle.refine.specs.Machine.MachineMeets.{met_machine}
use Rattle.refine.specs.Machine.MachineJournal.{page_in_journal_req_clauses}
use Rattle.refine.specs.Machine.MachineSuperblocks.{page_in_superblock_req_clauses, ask_again_clauses, finish_loading_superblock_phase_clauses}
use Rattle.refine.specs.Machine.MachineSuperblockAnswers.{page-in-superblock-resp-clauses}
use Rattle.refine.specs.Store.Seen.{seen, SizedStore, StoreMet, named, call_of}
use Rattle.refine.specs.Store.Plain.{both_takes, named_is}

-- what the questions say of `which`
journal_which : (g : Geometry) (m : Machine) (which : ℕ) → ask_page_in_journal_req_step g m which ≡ 0 → which ≤ 1
unfolding ask_page_in_journal_req_step
journal_which g m which e = (page_in_journal_req_asked g m.other which (and_then_right _ _ e)).which_in

again_which : (m : Machine) (which : ℕ) → ask_ask_again_step m which ≡ 0 → which ≤ 1
unfolding ask_ask_again_step
again_which m which e = (ask_again_asked m.superblocks which (and_then_right _ _ e)).which_in

-- a slot of the joined disk holds a superblock, so that a whole answer brings one; a damaged answer brings none
module _ (g : Geometry) (l : Lent) (s : Store) (z : SizedStore s) (m : StoreMet g l s z) (which id : ℕ) where
  abbrev slots : Bool → Option Superblock
  slots w = at (disk_of g l.blocks l.marks s.disk).superblocks w

  slot_there : (w : Bool) → (x : Superblock) × (some x ≡ slots w)
  slot_there false = (m.joined.wf.first.value, sym m.joined.wf.first.holds)
  slot_there true = (m.joined.wf.second.value, sym m.joined.wf.second.holds)

  whole_content : (x : Superblock) × (option_of (content_of s which true) ≡ some x)
  whole_content =
      let k = slot_there (bit_of which) in (
        k.0,
        ap (λ (y : code.Option Superblock). option_of (read_from true y)) (holds_of g s.disk which id l.blocks l.marks k.0 k.1) ∙ ap option_of (read_whole k.0),
      )

  damaged_content : option_of (content_of s which false) ≡ none
  damaged_content = ap option_of (read_damaged (slot_at s.disk.slots which))

  awaited_tied : (whole : Bool)
      → Tied (ledger.superblock_read (is_second which) id whole)
      (MachineStep (D.RespReadSuperblockOp id (is_second which) (option_of (content_of s which whole))) (Source (PageInSuperblockRespStep (is_second which))))
  awaited_tied true =
      let k = whole_content in
      subst
      (λ (o : Option Superblock).
      Tied (ledger.superblock_read (is_second which) id true) (MachineStep (D.RespReadSuperblockOp id (is_second which) o) (Source (PageInSuperblockRespStep (is_second which)))))
      (sym k.1) Tied.tied_superblock
  awaited_tied false =
      subst
      (λ (o : Option Superblock).
      Tied (ledger.superblock_read (is_second which) id false) (MachineStep (D.RespReadSuperblockOp id (is_second which) o) (Source (PageInSuperblockRespStep (is_second which)))))
      (sym damaged_content) Tied.tied_corrupt

  unawaited_tied : (whole : Bool)
      → Tied (ledger.superblock_read (is_second which) id whole)
      (MachineStep (D.RespReadSuperblockOp id (is_second which) (option_of (content_of s which whole))) (Source NoOpStep))
  unawaited_tied true =
      let k = whole_content in
      subst (λ (o : Option Superblock). Tied (ledger.superblock_read (is_second which) id true) (MachineStep (D.RespReadSuperblockOp id (is_second which) o) (Source NoOpStep)))
      (sym k.1) Tied.unawaited_superblock
  unawaited_tied false =
      subst (λ (o : Option Superblock). Tied (ledger.superblock_read (is_second which) id false) (MachineStep (D.RespReadSuperblockOp id (is_second which) o) (Source NoOpStep)))
      (sym damaged_content) Tied.unawaited_corrupt

module _ (g : Geometry) (l : Lent) (v : Given) (s : Store) (z : SizedStore s) (e : ask_store g l s ≡ 0) where
  -- the call of a slot that is there
  said : (which : ℕ) (call : Bool → Call) → which ≤ 1 → (dop : D.DiskOp) (t : Step⁺) → Tied (call (is_second which)) (MachineStep dop t)
      → Tied (named which call) (MachineStep dop t)
  said which call w dop t h = subst (λ (x : Call). Tied x (MachineStep dop t)) (sym (named_is which call w)) h

  -- PageInJournalReq
  pub read_journal_takes : (which id : ℕ) (o : DiskOp) → (read_journal g s which id).answer ≡ Ok o
      → Takes g format limits (seen g l s) (seen g l (read_journal g s which id).store) (call_of v (step.PageInJournalReq which id))
  read_journal_takes which id o h =
      both_takes g l s z e (ask_page_in_journal_req_step g s.machine which) (page_in_journal_req_op g s.machine which id) (page_in_journal_req_machine s.machine which id)
      (call_of v (step.PageInJournalReq which id)) o h tt
      (λ m q d.
      record {
        step = Source (PageInJournalReqStep (is_second which));
        moves =
            page_in_journal_req_clauses g (machine_lent l) s.machine which id
            (met_machine g (machine_lent l) s.machine z.machine m.machine) q;
        tied = said which (λ w. ledger.read_journal w id) (journal_which g s.machine which q) _ _ Tied.tied_page;
      })

  -- PageInSuperblockReq
  pub read_superblock_takes : (which id : ℕ) (o : DiskOp) → (read_superblock g s which id).answer ≡ Ok o
      → Takes g format limits (seen g l s) (seen g l (read_superblock g s which id).store) (call_of v (step.PageInSuperblockReq which id))
  read_superblock_takes which id o h =
      both_takes g l s z e (ask_page_in_superblock_req_step s.machine which id) (page_in_superblock_req_op which id) (page_in_superblock_req_machine s.machine which id)
      (call_of v (step.PageInSuperblockReq which id)) o h tt
      (λ m q d.
      record {
        step = Source (PageInSuperblockReqStep (is_second which));
        moves = page_in_superblock_req_clauses g (machine_lent l) s.machine which id q;
        tied = said which (λ w. ledger.read_superblock w id) (recv_read_superblock_asked s.disk.superblockReads which id d).which_in _ _ Tied.tied_read;
      })

  -- PageInSuperblockResp: the machine awaits it, or nobody does
  pub superblock_read_takes : (which id : ℕ) (whole : Bool) (o : DiskOp) → (superblock_read g s which id whole).answer ≡ Ok o
      → Takes g format limits (seen g l s) (seen g l (superblock_read g s which id whole).store) (call_of v (step.PageInSuperblockResp which id whole))
  superblock_read_takes which id whole o h =
      both_takes g l s z e (ask_page_in_superblock_resp_step which) (page_in_superblock_resp_op which id (content_of s which whole))
      (page_in_superblock_resp_machine g s.machine which id (content_of s which whole))
      (call_of v (step.PageInSuperblockResp which id whole)) o h tt
      (λ m q d.
      ⊎_elim
      (λ c.
      record {
        step = Source (PageInSuperblockRespStep (is_second which));
        moves = c;
        tied = said which (λ w. ledger.superblock_read w id whole) (which_asked which q) _ _ (awaited_tied g l s z m which id whole);
      })
      (λ c.
      record {
        step = Source NoOpStep;
        moves = c;
        tied = said which (λ w. ledger.superblock_read w id whole) (which_asked which q) _ _ (unawaited_tied g l s z m which id whole);
      })
      (page-in-superblock-resp-clauses g (machine_lent l) s.machine which id (content_of s which whole)))

  -- FinishLoadingSuperblockPhase
  pub finish_superblocks_takes : (o : DiskOp) → (finish_superblocks g s).answer ≡ Ok o
      → Takes g format limits (seen g l s) (seen g l (finish_superblocks g s).store) (call_of v step.FinishLoadingSuperblockPhase)
  finish_superblocks_takes o h =
      both_takes g l s z e (ask_finish_loading_superblock_phase_step s.machine) op.NoDiskOp (finish_loading_superblock_phase_machine s.machine) ledger.finish_superblocks o h tt
      (λ m q d.
      record {
        step = Source FinishLoadingSuperblockPhaseStep;
        moves = finish_loading_superblock_phase_clauses g (machine_lent l) s.machine q;
        tied = Tied.tied_finish_superblocks;
      })

  -- ask again
  pub ask_again_takes : (which : ℕ) (o : DiskOp) → (ask_again g s which).answer ≡ Ok o
      → Takes g format limits (seen g l s) (seen g l (ask_again g s which).store) (call_of v (step.AskAgain which))
  ask_again_takes which o h =
      both_takes g l s z e (ask_ask_again_step s.machine which) op.NoDiskOp (ask_again_machine s.machine which) (call_of v (step.AskAgain which)) o h tt
      (λ m q d.
      record {
        step = AskAgainStep (is_second which);
        moves = ask_again_clauses g (machine_lent l) s.machine which q;
        tied = said which (λ w. ledger.ask_again w) (again_which s.machine which q) _ _ Tied.tied_again;
      })
