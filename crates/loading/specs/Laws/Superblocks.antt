-- Loading the superblocks: what each test of a slot tells, question 2's test as facts, what a yes to each step's questions tells, and what an
-- answer does; a law each way.
use Rattle.std.specs.declared.option.Option as code
use Rattle.std.specs.Prelude.{ℕ, ◌≤◌, Bool, true, false, not, ◌≡◌, refl}
use Rattle.std.proofs.Math.Bool.{cond}
use Rattle.std.proofs.Common.{sym, ◌∙◌, arith, eq-eqb, eqb-true}
use Rattle.std.proofs.Math.Path.{ap}
use Rattle.laws.specs.Choice.{false_true, also_left, also_right, also_both, ask_yes, ask_holds, and_then_left, and_then_right, and_then_both}
use Rattle.layout.specs.declared.Geometry.{Geometry}
use Rattle.superblock.specs.declared.Superblock.{Superblock}
use Rattle.superblock.specs.Laws.{WFSuperblock, superblock_facts, facts_superblock}
use Rattle.loading.specs.declared.SlotRead.{SlotRead}
use Rattle.loading.specs.declared.SlotRead.TheVariants as slot
use Rattle.loading.specs.declared.LoadingSuperblock.{LoadingSuperblock}
use Rattle.loading.specs.declared.LoadingOther.{LoadingOther}
use Rattle.loading.specs.Slots.{success_wf, slot_awaits, slot_unasked, slot_corrupt, slot_succeeded, slot_holds, slot_reads_differ, slot_read}
use Rattle.loading.specs.Other.{selected_other}
use Rattle.loading.specs.Superblocks.{loading_superblock_ok, slot_at, other_slot, to_slot, ask_page_in_superblock_req, superblock_awaited, page_in_superblock_resp_next, if_holds, ask_finish_loading_superblock_phase, finish_loading_superblock_phase_next, ask_ask_again}
use Rattle.loading.specs.Laws.Which.{which_asked, asked_which, not_true, true_not}

-- A slot

pub awaits_is : (r : SlotRead) (id : ℕ) → slot_awaits r id ≡ true → r ≡ slot.Awaited id
awaits_is slot.Unasked id e = false_true e
awaits_is (slot.Awaited k) id e = ap slot.Awaited (eqb-true k id e)
awaits_is (slot.Success superblock) id e = false_true e
awaits_is slot.Corruption id e = false_true e

pub is_awaits : (r : SlotRead) (id : ℕ) → r ≡ slot.Awaited id → slot_awaits r id ≡ true
is_awaits r id e = ap (λ (x : SlotRead). slot_awaits x id) e ∙ eq-eqb id id refl

pub unasked_is : (r : SlotRead) → slot_unasked r ≡ true → r ≡ slot.Unasked
unasked_is slot.Unasked e = refl
unasked_is (slot.Awaited id) e = false_true e
unasked_is (slot.Success superblock) e = false_true e
unasked_is slot.Corruption e = false_true e

pub corrupt_is : (r : SlotRead) → slot_corrupt r ≡ true → r ≡ slot.Corruption
corrupt_is slot.Unasked e = false_true e
corrupt_is (slot.Awaited id) e = false_true e
corrupt_is (slot.Success superblock) e = false_true e
corrupt_is slot.Corruption e = refl

pub succeeded_is : (r : SlotRead) → slot_succeeded r ≡ true → (superblock : Superblock) × (r ≡ slot.Success superblock)
succeeded_is slot.Unasked e = false_true e
succeeded_is (slot.Awaited id) e = false_true e
succeeded_is (slot.Success superblock) e = (superblock, refl)
succeeded_is slot.Corruption e = false_true e

module _ (g : Geometry) where
  pub success_facts : (r : SlotRead) → success_wf g r ≡ true → (superblock : Superblock) → r ≡ slot.Success superblock → WFSuperblock g superblock
  success_facts r h superblock e = superblock_facts g superblock (sym (ap (success_wf g) e) ∙ h)

  pub facts_success : (r : SlotRead) → ((superblock : Superblock) → r ≡ slot.Success superblock → WFSuperblock g superblock) → success_wf g r ≡ true
  facts_success slot.Unasked f = refl
  facts_success (slot.Awaited id) f = refl
  facts_success (slot.Success superblock) f = facts_superblock g superblock (f superblock refl)
  facts_success slot.Corruption f = refl

-- two reads
pub differ_apart : (a b : SlotRead) → slot_reads_differ a b ≡ true → (id : ℕ) → a ≡ slot.Awaited id → b ≡ slot.Awaited id → ⊥
differ_apart a b h id p q = not_true (slot_awaits b id) (sym (ap (λ (x : SlotRead). slot_reads_differ x b) p) ∙ h) (is_awaits b id q)

pub apart_differ : (a b : SlotRead) → ((id : ℕ) → a ≡ slot.Awaited id → b ≡ slot.Awaited id → ⊥) → slot_reads_differ a b ≡ true
apart_differ slot.Unasked b f = refl
apart_differ (slot.Awaited id) b f = true_not (slot_awaits b id) (λ e. f id refl (awaits_is b id e))
apart_differ (slot.Success superblock) b f = refl
apart_differ slot.Corruption b f = refl

-- Question 2

pub record LoadingSuperblockOk (g : Geometry) (s : LoadingSuperblock) : Type 0 where
  pub first_wf : (superblock : Superblock) → s.first ≡ slot.Success superblock → WFSuperblock g superblock
  pub second_wf : (superblock : Superblock) → s.second ≡ slot.Success superblock → WFSuperblock g superblock
  pub reads_differ : (id : ℕ) → s.first ≡ slot.Awaited id → s.second ≡ slot.Awaited id → ⊥

module _ (g : Geometry) (s : LoadingSuperblock) where
  pub loading_superblock_facts : loading_superblock_ok g s ≡ true → LoadingSuperblockOk g s
  unfolding loading_superblock_ok
  loading_superblock_facts e =
      let l = also_left _ _ e in
      record {
        first_wf = success_facts g s.first (also_left _ _ l);
        second_wf = success_facts g s.second (also_right _ _ l);
        reads_differ = differ_apart s.first s.second (also_right _ _ e);
      }

  pub facts_loading_superblock : LoadingSuperblockOk g s → loading_superblock_ok g s ≡ true
  unfolding loading_superblock_ok
  facts_loading_superblock f =
      also_both _ _ (also_both _ _ (facts_success g s.first f.first_wf) (facts_success g s.second f.second_wf))
      (apart_differ s.first s.second f.reads_differ)

-- PageInSuperblockReq

pub record PageInSuperblockReqAsked (s : LoadingSuperblock) (which id : ℕ) : Type 0 where
  pub which_in : which ≤ 1
  pub other_slot_is : other_slot s which ≡ slot.Awaited id → ⊥
  pub unasked : slot_at s which ≡ slot.Unasked

module _ (s : LoadingSuperblock) (which id : ℕ) where
  pub page_in_superblock_req_asked : ask_page_in_superblock_req s which id ≡ 0 → PageInSuperblockReqAsked s which id
  unfolding ask_page_in_superblock_req
  page_in_superblock_req_asked e =
      let r = and_then_right _ _ e in
      record {
        which_in = which_asked which (and_then_left _ _ e);
        other_slot_is = λ w. not_true (slot_awaits (other_slot s which) id) (ask_yes 5 (not (slot_awaits (other_slot s which) id)) (omega arith) (and_then_left _ _ r)) (is_awaits (other_slot s which) id w);
        unasked = unasked_is (slot_at s which) (ask_yes 6 (slot_unasked (slot_at s which)) (omega arith) (and_then_right _ _ r));
      }

  pub asked_page_in_superblock_req : PageInSuperblockReqAsked s which id → ask_page_in_superblock_req s which id ≡ 0
  unfolding ask_page_in_superblock_req
  asked_page_in_superblock_req a =
      and_then_both _ _ (asked_which which a.which_in)
      (and_then_both _ _
      (ask_holds 5 (not (slot_awaits (other_slot s which) id)) (true_not (slot_awaits (other_slot s which) id) (λ e. a.other_slot_is (awaits_is (other_slot s which) id e))))
      (ask_holds 6 (slot_unasked (slot_at s which)) (ap slot_unasked a.unasked)))

  -- PageInSuperblockResp

  pub superblock_awaited_is : superblock_awaited s which id ≡ true → slot_at s which ≡ slot.Awaited id
  unfolding superblock_awaited
  superblock_awaited_is e = awaits_is (slot_at s which) id e

  pub is_superblock_awaited : slot_at s which ≡ slot.Awaited id → superblock_awaited s which id ≡ true
  unfolding superblock_awaited
  is_superblock_awaited e = is_awaits (slot_at s which) id e

  pub resp_awaited : (g : Geometry) (r : code.Option Superblock) → superblock_awaited s which id ≡ true → page_in_superblock_resp_next g s which id r ≡ to_slot s which (slot_read g r)
  unfolding page_in_superblock_resp_next
  resp_awaited g r e = ap (λ (b : Bool). cond b (to_slot s which (slot_read g r)) s) e

  pub resp_unawaited : (g : Geometry) (r : code.Option Superblock) → superblock_awaited s which id ≡ false → page_in_superblock_resp_next g s which id r ≡ s
  unfolding page_in_superblock_resp_next
  resp_unawaited g r e = ap (λ (b : Bool). cond b (to_slot s which (slot_read g r)) s) e

-- FinishLoadingSuperblockPhase

pub record FinishLoadingSuperblockPhaseAsked (s : LoadingSuperblock) : Type 0 where
  pub superblock1 : Superblock
  pub superblock2 : Superblock
  pub success1 : s.first ≡ slot.Success superblock1
  pub success2 : s.second ≡ slot.Success superblock2

module _ (s : LoadingSuperblock) where
  pub finish_loading_superblock_phase_asked : ask_finish_loading_superblock_phase s ≡ 0 → FinishLoadingSuperblockPhaseAsked s
  unfolding ask_finish_loading_superblock_phase
  finish_loading_superblock_phase_asked e =
      let t = ask_yes 6 _ (omega arith) e in
      let a = succeeded_is s.first (also_left _ _ t) in
      let b = succeeded_is s.second (also_right _ _ t) in
      record { superblock1 = a.0; superblock2 = b.0; success1 = a.1; success2 = b.1 }

  pub asked_finish_loading_superblock_phase : FinishLoadingSuperblockPhaseAsked s → ask_finish_loading_superblock_phase s ≡ 0
  unfolding ask_finish_loading_superblock_phase
  asked_finish_loading_superblock_phase a = ask_holds 6 _ (also_both _ _ (ap slot_succeeded a.success1) (ap slot_succeeded a.success2))

  pub finished_selects : (other : LoadingOther) (a : FinishLoadingSuperblockPhaseAsked s) → finish_loading_superblock_phase_next s other ≡ selected_other a.superblock1 a.superblock2
  unfolding finish_loading_superblock_phase_next
  finished_selects other a =
      λ i. if_holds (slot_holds (a.success1 i)) (λ superblock1. if_holds (slot_holds (a.success2 i)) (λ superblock2. selected_other superblock1 superblock2) other) other

-- Ask again

pub record AskAgainAsked (s : LoadingSuperblock) (which : ℕ) : Type 0 where
  pub which_in : which ≤ 1
  pub corrupt : slot_at s which ≡ slot.Corruption

module _ (s : LoadingSuperblock) (which : ℕ) where
  pub ask_again_asked : ask_ask_again s which ≡ 0 → AskAgainAsked s which
  unfolding ask_ask_again
  ask_again_asked e =
      record {
        which_in = which_asked which (and_then_left _ _ e);
        corrupt = corrupt_is (slot_at s which) (ask_yes 6 (slot_corrupt (slot_at s which)) (omega arith) (and_then_right _ _ e));
      }

  pub asked_ask_again : AskAgainAsked s which → ask_ask_again s which ≡ 0
  unfolding ask_ask_again
  asked_ask_again a = and_then_both _ _ (asked_which which a.which_in) (ask_holds 6 (slot_corrupt (slot_at s which)) (ap slot_corrupt a.corrupt))
