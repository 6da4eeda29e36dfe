-- Loading the superblocks: question 2's test against 000's InvLoadingSuperblock, and each step against 000's predicate, amended where document
-- 01 departs. Sound: what is taken is what the predicate says of the views. Complete: what the predicate allows is taken, and leads to the
-- view of the next record.
use Rattle.std.specs.Prelude.{ℕ, ◌≤◌, Bool, true, false, cond, not, ◌≡◌, refl, List, ◌⊎◌}
use Rattle.std.specs.declared.option.Option as code
use Rattle.std.proofs.Math.Path.{sym, ap}
use Rattle.std.proofs.Common.{◌∙◌, inr}
use Rattle.std.proofs.Math.Option.{Option, none, some}
use Rattle.std.proofs.Math.Logic.{inl}
use Rattle.laws.specs.Choice.{split_bool, true_false, not_so}
use Rattle.laws.specs.Sets.{Map, no_keys, Two, at, put, put_at}
use Rattle.laws.specs.Optional.{option_of}
use Rattle.layout.specs.declared.Geometry.{Geometry}
use Rattle.superblock.specs.declared.Superblock.{Superblock}
use Rattle.superblock.specs.Laws.{WFSuperblock}
use Rattle.source.specs.JournalDisk.{ReqId, DiskOp, ReqReadSuperblockOp, RespReadSuperblockOp, NoDiskOp}
use Rattle.source.specs.JournalCache as M
use Rattle.source.specs.JournalCache.{SyncReqStatus, SuperblockReadResult, SuperblockSuccess, SuperblockUnfinished, SuperblockCorruption, Variables, superblock_read, PageInSuperblockResp, FinishLoadingSuperblockPhase}
use Rattle.source.specs.Departures.{NoOp⁺, PageInSuperblockReq⁺, AskAgain}
use Rattle.loading.specs.declared.SlotRead.{SlotRead}
use Rattle.loading.specs.declared.SlotRead.TheVariants as slot
use Rattle.loading.specs.declared.LoadingSuperblock.{LoadingSuperblock}
use Rattle.loading.specs.declared.LoadingOther.{LoadingOther}
use Rattle.loading.specs.Which.{is_second}
use Rattle.loading.specs.Slots.{slot_read}
use Rattle.loading.specs.Other.{selected_other}
use Rattle.loading.specs.Superblocks.{slots, initial, loading_superblock_ok, slot_at, other_slot, to_slot, ask_page_in_superblock_req, page_in_superblock_req_next, superblock_awaited, page_in_superblock_resp_next, ask_finish_loading_superblock_phase, finish_loading_superblock_phase_next, ask_ask_again, ask_again_next}
use Rattle.loading.specs.Laws.Superblocks.{LoadingSuperblockOk, loading_superblock_facts, facts_loading_superblock, page_in_superblock_req_asked, asked_page_in_superblock_req, superblock_awaited_is, is_superblock_awaited, resp_awaited, resp_unawaited, FinishLoadingSuperblockPhaseAsked, finish_loading_superblock_phase_asked, asked_finish_loading_superblock_phase, finished_selects, ask_again_asked, asked_ask_again}
use Rattle.refine.specs.Machine.LoadingSeen.{at_named, at_unnamed, outstanding_is, success_is, corruption_is, unasked_of, ended_none, ended_result}
use Rattle.refine.specs.Machine.LoadingView.{outstanding_read, read_result, loading_superblock_of, superblocks_seen, LoadingSuperblockMeets, loading_other_of, other_seen}

module _ (s : LoadingSuperblock) (y : Map SyncReqStatus) where
  abbrev reads : Two (Option ReqId)
  reads = (loading_superblock_of s y).outstanding_superblock_reads

  abbrev results : Two SuperblockReadResult
  results = (loading_superblock_of s y).superblocks

  module _ (which : ℕ) where
    read_at : at reads (is_second which) ≡ outstanding_read (slot_at s which)
    read_at = at_named outstanding_read s.first s.second (is_second which)

    result_at : at results (is_second which) ≡ read_result (slot_at s which)
    result_at = at_named read_result s.first s.second (is_second which)

    other_read : at reads (not (is_second which)) ≡ outstanding_read (other_slot s which)
    other_read = at_unnamed outstanding_read s.first s.second (is_second which)

    -- the view of the record with another read in a slot
    to_slot_is : (r : SlotRead)
        → loading_superblock_of (to_slot s which r) y
        ≡ record {
          outstanding_superblock_reads = put reads (is_second which) (outstanding_read r);
          superblocks = put results (is_second which) (read_result r);
          sync_reqs = y;
        }
    to_slot_is r = go (is_second which)
      where
        go : (w : Bool)
            → loading_superblock_of (cond w (slots s.first r) (slots r s.second)) y
            ≡ record { outstanding_superblock_reads = put reads w (outstanding_read r); superblocks = put results w (read_result r); sync_reqs = y }
        go true = refl
        go false = refl

  -- Question 2

  pub superblock_meets : (g : Geometry) → loading_superblock_ok g s ≡ true → LoadingSuperblockMeets g s y
  superblock_meets g e =
      record {
        inv = record { success_read = no_read; success_wf_is = wf; corruption_read = no_corrupt_read };
        reads_differ = λ id p q. f.reads_differ id (outstanding_is s.first id p) (outstanding_is s.second id q);
      }
    where
      f : LoadingSuperblockOk g s
      f = loading_superblock_facts g s e

      no_read : (which : Bool) (superblock : Superblock) → at results which ≡ SuperblockSuccess superblock → at reads which ≡ none
      no_read false superblock p = ap outstanding_read (success_is s.first superblock p)
      no_read true superblock p = ap outstanding_read (success_is s.second superblock p)

      wf : (which : Bool) (superblock : Superblock) → at results which ≡ SuperblockSuccess superblock → WFSuperblock g superblock
      wf false superblock p = f.first_wf superblock (success_is s.first superblock p)
      wf true superblock p = f.second_wf superblock (success_is s.second superblock p)

      no_corrupt_read : (which : Bool) → at results which ≡ SuperblockCorruption → at reads which ≡ none
      no_corrupt_read false p = ap outstanding_read (corruption_is s.first p)
      no_corrupt_read true p = ap outstanding_read (corruption_is s.second p)

  pub meets_superblock : (g : Geometry) → LoadingSuperblockMeets g s y → loading_superblock_ok g s ≡ true
  meets_superblock g h =
      facts_loading_superblock g s
      (record {
        first_wf = λ superblock e. h.inv.success_wf_is false superblock (ap read_result e);
        second_wf = λ superblock e. h.inv.success_wf_is true superblock (ap read_result e);
        reads_differ = λ id p q. h.reads_differ id (ap outstanding_read p) (ap outstanding_read q);
      })

  -- PageInSuperblockReq

  module _ (which : ℕ) where
    req_next : (id : ReqId) → slot_at s which ≡ slot.Unasked
        → loading_superblock_of (page_in_superblock_req_next s which id) y ≡ M.to_outstanding_superblock_reads (put reads (is_second which) (some id)) (loading_superblock_of s y)
    unfolding page_in_superblock_req_next
    req_next id e =
        to_slot_is which (slot.Awaited id)
        ∙ (λ i.
        record {
          outstanding_superblock_reads = put reads (is_second which) (some id);
          superblocks = (ap (put results (is_second which)) (sym (result_at which ∙ ap read_result e)) ∙ put_at results (is_second which)) i;
          sync_reqs = y;
        })

    pub page_in_superblock_req_sound : (id : ReqId) → ask_page_in_superblock_req s which id ≡ 0
        → PageInSuperblockReq⁺ (superblocks_seen s y) (superblocks_seen (page_in_superblock_req_next s which id) y) (ReqReadSuperblockOp id (is_second which)) (is_second which)
    page_in_superblock_req_sound id e =
        let a = page_in_superblock_req_asked s which id e in
        record {
          source =
              record {
                id = id;
                op = refl;
                no_read = read_at which ∙ ap outstanding_read a.unasked;
                unfinished = result_at which ∙ ap read_result a.unasked;
                next = ap Variables.LoadingSuperblock (req_next id a.unasked);
              };
          other_slot_is = λ w. a.other_slot_is (outstanding_is (other_slot s which) id (sym (other_read which) ∙ w.2 ∙ ap some (same_id w.0 w.1)));
        }
      where
        same_id : (k : ReqId) → ReqReadSuperblockOp id (is_second which) ≡ ReqReadSuperblockOp k (is_second which) → k ≡ id
        same_id k q = cc

    pub page_in_superblock_req_complete : which ≤ 1 → (s' : Variables) (dop : DiskOp) (h : PageInSuperblockReq⁺ (superblocks_seen s y) s' dop (is_second which))
        → (ask_page_in_superblock_req s which h.source.id ≡ 0)
        × (s' ≡ superblocks_seen (page_in_superblock_req_next s which h.source.id) y)
    page_in_superblock_req_complete l s' dop h =
        let u = unasked_of (slot_at s which) (sym (read_at which) ∙ h.source.no_read) (sym (result_at which) ∙ h.source.unfinished) in (
          asked_page_in_superblock_req s which h.source.id
              (record {
                which_in = l;
                other_slot_is = λ e. h.other_slot_is (h.source.id, h.source.op, other_read which ∙ ap outstanding_read e);
                unasked = u;
              }),
          h.source.next ∙ sym (ap Variables.LoadingSuperblock (req_next h.source.id u)),
        )

  -- PageInSuperblockResp: an answer that nobody awaits is a NoOp

  module _ (g : Geometry) (which id : ℕ) (r : code.Option Superblock) where
    resp_next : superblock_awaited s which id ≡ true
        → superblocks_seen (page_in_superblock_resp_next g s which id r) y
        ≡ Variables.LoadingSuperblock
        (M.to_outstanding_superblock_reads (put reads (is_second which) none)
        (M.to_superblocks (put results (is_second which) (superblock_read g (option_of r))) (loading_superblock_of s y)))
    resp_next e =
        ap Variables.LoadingSuperblock
        (ap (λ (x : LoadingSuperblock). loading_superblock_of x y) (resp_awaited s which id g r e)
        ∙ to_slot_is which (slot_read g r)
        ∙ (λ i.
        record {
          outstanding_superblock_reads = put reads (is_second which) (ended_none g r i);
          superblocks = put results (is_second which) (ended_result g r i);
          sync_reqs = y;
        }))

    waiting : superblock_awaited s which id ≡ true → at reads (is_second which) ≡ some id
    waiting e = read_at which ∙ ap outstanding_read (superblock_awaited_is s which id e)

    awaited : at reads (is_second which) ≡ some id → superblock_awaited s which id ≡ true
    awaited e = is_superblock_awaited s which id (outstanding_is (slot_at s which) id (sym (read_at which) ∙ e))

    unawaited : (at reads (is_second which) ≡ some id → ⊥) → superblock_awaited s which id ≡ false
    unawaited f = not_so (superblock_awaited s which id) (λ e. f (waiting e))

    pub page_in_superblock_resp_sound :
        PageInSuperblockResp g (superblocks_seen s y) (superblocks_seen (page_in_superblock_resp_next g s which id r) y) (RespReadSuperblockOp id (is_second which) (option_of r)) (is_second which)
        ⊎ NoOp⁺ (superblocks_seen s y) (superblocks_seen (page_in_superblock_resp_next g s which id r) y) (RespReadSuperblockOp id (is_second which) (option_of r))
    page_in_superblock_resp_sound =
        split_bool (superblock_awaited s which id)
        (λ e. inl (record { id = id; superblock = option_of r; op = refl; waiting = waiting e; next = resp_next e }))
        (λ e.
        inr
        (record {
          source =
              record {
                op = M.NoOpOp.superblock_read_op id (is_second which) (option_of r) refl;
                next = ap (λ (x : LoadingSuperblock). superblocks_seen x y) (resp_unawaited s which id g r e);
              };
          unawaited = λ w. true_false (sym (awaited w) ∙ e);
        }))

    pub page_in_superblock_resp_complete : (s' : Variables)
        → PageInSuperblockResp g (superblocks_seen s y) s' (RespReadSuperblockOp id (is_second which) (option_of r)) (is_second which)
        ⊎ NoOp⁺ (superblocks_seen s y) s' (RespReadSuperblockOp id (is_second which) (option_of r))
        → s' ≡ superblocks_seen (page_in_superblock_resp_next g s which id r) y
    page_in_superblock_resp_complete s' (inl h) =
        h.next
        ∙ ap (λ (o : Option Superblock). Variables.LoadingSuperblock (M.to_outstanding_superblock_reads (put reads (is_second which) none) (M.to_superblocks (put results (is_second which) (superblock_read g o)) (loading_superblock_of s y)))) (same_read h.id h.superblock h.op)
        ∙ sym (resp_next (awaited (h.waiting ∙ ap some (same_id h.id h.superblock h.op))))
      where
        same_id : (k : ReqId) (o : Option Superblock) → RespReadSuperblockOp id (is_second which) (option_of r) ≡ RespReadSuperblockOp k (is_second which) o → k ≡ id
        same_id k o q = cc

        same_read : (k : ReqId) (o : Option Superblock) → RespReadSuperblockOp id (is_second which) (option_of r) ≡ RespReadSuperblockOp k (is_second which) o → o ≡ option_of r
        same_read k o q = cc
    page_in_superblock_resp_complete s' (inr h) =
        h.source.next
        ∙ sym (ap (λ (x : LoadingSuperblock). superblocks_seen x y) (resp_unawaited s which id g r (unawaited h.unawaited)))

  -- FinishLoadingSuperblockPhase

  module _ (g : Geometry) (pieces : List ℕ) (other : LoadingOther) where
    finish_next : (a : FinishLoadingSuperblockPhaseAsked s)
        → loading_other_of g pieces (finish_loading_superblock_phase_next s other) y ≡ loading_other_of g pieces (selected_other a.superblock1 a.superblock2) y
    finish_next a = ap (λ (x : LoadingOther). loading_other_of g pieces x y) (finished_selects s other a)

    pub finish_loading_superblock_phase_sound : ask_finish_loading_superblock_phase s ≡ 0
        → FinishLoadingSuperblockPhase (superblocks_seen s y) (other_seen g pieces (finish_loading_superblock_phase_next s other) y) NoDiskOp
    unfolding selected_other
    finish_loading_superblock_phase_sound e =
        let a = finish_loading_superblock_phase_asked s e in
        record {
          op = refl;
          superblock1 = a.superblock1;
          success1 = ap read_result a.success1;
          superblock2 = a.superblock2;
          success2 = ap read_result a.success2;
          one_success = inl (ap read_result a.success1);
          next = ap Variables.LoadingOther (finish_next a);
          loc = _;
          loc_is = refl;
        }

    pub finish_loading_superblock_phase_complete : (s' : Variables) (dop : DiskOp) → FinishLoadingSuperblockPhase (superblocks_seen s y) s' dop
        → (ask_finish_loading_superblock_phase s ≡ 0)
        × (dop ≡ NoDiskOp)
        × (s' ≡ other_seen g pieces (finish_loading_superblock_phase_next s other) y)
    unfolding selected_other
    finish_loading_superblock_phase_complete s' dop h =
        (asked_finish_loading_superblock_phase s a, h.op, h.next ∙ sym (ap Variables.LoadingOther (finish_next a)))
      where
        a : FinishLoadingSuperblockPhaseAsked s
        a =
            record {
              superblock1 = h.superblock1;
              superblock2 = h.superblock2;
              success1 = success_is s.first h.superblock1 h.success1;
              success2 = success_is s.second h.superblock2 h.success2;
            }

  -- Ask again

  module _ (which : ℕ) where
    again_next : slot_at s which ≡ slot.Corruption
        → loading_superblock_of (ask_again_next s which) y ≡ M.to_superblocks (put results (is_second which) SuperblockUnfinished) (loading_superblock_of s y)
    unfolding ask_again_next
    again_next e =
        to_slot_is which slot.Unasked
        ∙ (λ i.
        record {
          outstanding_superblock_reads = (ap (put reads (is_second which)) (sym (read_at which ∙ ap outstanding_read e)) ∙ put_at reads (is_second which)) i;
          superblocks = put results (is_second which) SuperblockUnfinished;
          sync_reqs = y;
        })

    pub ask_again_sound : ask_ask_again s which ≡ 0
        → AskAgain (superblocks_seen s y) (superblocks_seen (ask_again_next s which) y) NoDiskOp (is_second which)
    ask_again_sound e =
        let a = ask_again_asked s which e in
        record { op = refl; corrupt = result_at which ∙ ap read_result a.corrupt; next = ap Variables.LoadingSuperblock (again_next a.corrupt) }

    pub ask_again_complete : which ≤ 1 → (s' : Variables) (dop : DiskOp) → AskAgain (superblocks_seen s y) s' dop (is_second which)
        → (ask_ask_again s which ≡ 0) × (dop ≡ NoDiskOp) × (s' ≡ superblocks_seen (ask_again_next s which) y)
    ask_again_complete l s' dop h =
        let c = corruption_is (slot_at s which) (sym (result_at which) ∙ h.corrupt) in
        (asked_ask_again s which (record { which_in = l; corrupt = c }), h.op, h.next ∙ sym (ap Variables.LoadingSuperblock (again_next c)))

-- Init

pub initial_view : loading_superblock_of initial no_keys ≡ M.initial
initial_view = refl
