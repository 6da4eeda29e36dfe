-- Loading the journal: what each test of a piece tells, question 2's test as facts, what a yes to each step's questions tells, what an answer
-- does by which piece awaits it, and how many blocks the pieces have; a law each way.
use Rattle.std.specs.declared.option.Option as code
use Rattle.std.specs.Prelude.{ℕ, ◌+◌, ◌≤◌, ◌<◌, Bool, true, false, not, ◌≡◌, refl}
use Rattle.std.proofs.Common.{sym, ◌∙◌, arith}
use Rattle.std.proofs.Math.Path.{ap}
use Rattle.std.proofs.Math.Option.{Option, none, some}
use borrow.Author.Tests.{leb-true, le-leb, eq-eqb, eqb-true}
use Rattle.laws.specs.Choice.{also, ruin, false_true, not_so, split_bool, also_left, also_right, also_both, ask_yes, ask_holds, and_then_left, and_then_right, and_then_both}
use Rattle.laws.specs.Sets.{none_some}
use Rattle.layout.specs.declared.Geometry.{Geometry}
use Rattle.interval.specs.declared.JournalInterval.{JournalInterval}
use Rattle.laws.specs.Optional.{optional}
use Rattle.interval.specs.Interval.{interval}
use Rattle.interval.proofs.Laws.{len_of, parts_none, parts_straight, parts_wrapped, parts_cases, parts_fit}
use Rattle.superblock.specs.declared.Superblock.{Superblock}
use Rattle.superblock.specs.declared.JournalRead.{JournalRead}
use Rattle.superblock.specs.Superblock.{journal_front_interval_of_superblock, journal_back_interval_of_superblock}
use Rattle.superblock.specs.Laws.{WFSuperblock, superblock_facts, facts_superblock}
use Rattle.loading.specs.declared.Piece.{Piece}
use Rattle.loading.specs.declared.Piece.TheVariants as piece
use Rattle.loading.specs.declared.LoadingOther.{LoadingOther}
use Rattle.loading.specs.Pieces.{is_there, blocks_of, piece_interval, piece_reads, piece_unread, piece_loaded, piece_reads_differ, piece_read}
use Rattle.loading.specs.Other.{front_of, back_of, front_blocks, back_blocks, pieces_ok, loading_other_ok, interval_at, piece_at, to_pieces, ask_page_in_journal_req, interval_of, page_in_journal_req_interval, place, place_of, page_in_journal_resp_next, ask_finish_loading_other_phase}
use Rattle.loading.specs.Laws.Which.{which_asked, asked_which, not_true, true_not}

-- question 2's test of the pieces, from its parts
pub pieces_ok_is : (g : Geometry) (o : LoadingOther) (first second : code.Option JournalInterval) (a b c : Bool) → first ≡ front_of g o.superblock → second ≡ back_of g o.superblock
    → a ≡ piece_interval o.front first → b ≡ piece_interval o.back second → c ≡ piece_reads_differ o.front o.back → also (also a b) c ≡ pieces_ok g o
unfolding pieces_ok
pieces_ok_is g o first second a b c hf hb ha hd hc =
    λ i. also (also ((ha ∙ ap (piece_interval o.front) hf) i) ((hd ∙ ap (piece_interval o.back) hb) i)) (hc i)

-- A piece

pub reads_is : (p : Piece) (id : ℕ) → piece_reads p id ≡ true → p ≡ piece.Reading id
reads_is piece.Unread id e = false_true e
reads_is (piece.Reading k) id e = ap piece.Reading (eqb-true k id e)
reads_is piece.In id e = false_true e

pub is_reads : (p : Piece) (id : ℕ) → p ≡ piece.Reading id → piece_reads p id ≡ true
is_reads p id e = ap (λ (x : Piece). piece_reads x id) e ∙ eq-eqb id id refl

pub unread_is : (p : Piece) → piece_unread p ≡ true → p ≡ piece.Unread
unread_is piece.Unread e = refl
unread_is (piece.Reading id) e = false_true e
unread_is piece.In e = false_true e

pub differ_apart : (a b : Piece) → piece_reads_differ a b ≡ true → (id : ℕ) → a ≡ piece.Reading id → b ≡ piece.Reading id → ⊥
differ_apart a b h id p q = not_true (piece_reads b id) (sym (ap (λ (x : Piece). piece_reads_differ x b) p) ∙ h) (is_reads b id q)

pub apart_differ : (a b : Piece) → ((id : ℕ) → a ≡ piece.Reading id → b ≡ piece.Reading id → ⊥) → piece_reads_differ a b ≡ true
apart_differ piece.Unread b f = refl
apart_differ (piece.Reading id) b f = true_not (piece_reads b id) (λ e. f id refl (reads_is b id e))
apart_differ piece.In b f = refl

-- it is there

abbrev pub There : Option JournalInterval → Type 0
There o = (v : JournalInterval) × (o ≡ some v)

pub there_is : (o : Option JournalInterval) → is_there (optional o) ≡ true → There o
there_is none e = false_true e
there_is (some v) e = (v, refl)

pub is_there_is : (o : Option JournalInterval) → There o → is_there (optional o) ≡ true
is_there_is o h = ap (λ (x : Option JournalInterval). is_there (optional x)) h.1

pub interval_facts : (p : Piece) (o : Option JournalInterval) → piece_interval p (optional o) ≡ true → (p ≡ piece.Unread → ⊥) → There o
interval_facts piece.Unread o e f = absurd (f refl)
interval_facts (piece.Reading id) o e f = there_is o e
interval_facts piece.In o e f = there_is o e

pub facts_interval : (p : Piece) (o : Option JournalInterval) → ((p ≡ piece.Unread → ⊥) → There o) → piece_interval p (optional o) ≡ true
facts_interval piece.Unread o f = refl
facts_interval (piece.Reading id) o f = is_there_is o (f (λ e. ruin (cc)))
facts_interval piece.In o f = is_there_is o (f (λ e. ruin (cc)))

-- its blocks
len_is : (o : Option JournalInterval) → blocks_of (optional o) ≡ len_of o
len_is none = refl
len_is (some v) = refl

-- it is in where it is there

no_none : (o : Option JournalInterval) → not (is_there (optional o)) ≡ true → {G : Type 0} → There o → G
no_none o e h = absurd (not_true (is_there (optional o)) e (is_there_is o h))

pub loaded_in : (p : Piece) (o : Option JournalInterval) → piece_loaded p (optional o) ≡ true → There o → p ≡ piece.In
loaded_in piece.Unread o e h = no_none o e h
loaded_in (piece.Reading id) o e h = no_none o e h
loaded_in piece.In o e h = refl

pub in_loaded : (p : Piece) (o : Option JournalInterval) → (There o → p ≡ piece.In) → piece_loaded p (optional o) ≡ true
in_loaded piece.Unread o f = true_not (is_there (optional o)) (λ e. ruin (cc (f (there_is o e))))
in_loaded (piece.Reading id) o f = true_not (is_there (optional o)) (λ e. ruin (cc (f (there_is o e))))
in_loaded piece.In o f = refl

-- Question 2

pub record LoadingOtherOk (g : Geometry) (s : LoadingOther) : Type 0 where
  pub superblock_wf : WFSuperblock g s.superblock
  pub which_in : s.whichSuperblock ≤ 1
  pub front_there : (s.front ≡ piece.Unread → ⊥) → There (journal_front_interval_of_superblock g s.superblock)
  pub back_there : (s.back ≡ piece.Unread → ⊥) → There (journal_back_interval_of_superblock g s.superblock)
  pub reads_differ : (id : ℕ) → s.front ≡ piece.Reading id → s.back ≡ piece.Reading id → ⊥

module _ (g : Geometry) (s : LoadingOther) where
  pub loading_other_facts : loading_other_ok g s ≡ true → LoadingOtherOk g s
  unfolding loading_other_ok pieces_ok
  loading_other_facts e =
      let l = also_left _ _ e in
      let r = also_right _ _ e in
      let m = also_left _ _ r in
      record {
        superblock_wf = superblock_facts g s.superblock (also_left _ _ l);
        which_in = leb-true s.whichSuperblock 1 (also_right _ _ l);
        front_there = interval_facts s.front (journal_front_interval_of_superblock g s.superblock) (also_left _ _ m);
        back_there = interval_facts s.back (journal_back_interval_of_superblock g s.superblock) (also_right _ _ m);
        reads_differ = differ_apart s.front s.back (also_right _ _ r);
      }

  pub facts_loading_other : LoadingOtherOk g s → loading_other_ok g s ≡ true
  unfolding loading_other_ok pieces_ok
  facts_loading_other f =
      also_both _ _ (also_both _ _ (facts_superblock g s.superblock f.superblock_wf) (le-leb s.whichSuperblock 1 f.which_in))
      (also_both _ _
      (also_both _ _
      (facts_interval s.front (journal_front_interval_of_superblock g s.superblock) f.front_there)
      (facts_interval s.back (journal_back_interval_of_superblock g s.superblock) f.back_there))
      (apart_differ s.front s.back f.reads_differ))

-- How many blocks each piece has: those of its interval, some where it is there, together the superblock's journalLen

module _ (g : Geometry) (superblock : Superblock) where
  pub front_blocks_is : front_blocks g superblock ≡ len_of (journal_front_interval_of_superblock g superblock)
  unfolding front_blocks
  front_blocks_is = len_is (journal_front_interval_of_superblock g superblock)

  pub back_blocks_is : back_blocks g superblock ≡ len_of (journal_back_interval_of_superblock g superblock)
  unfolding back_blocks
  back_blocks_is = len_is (journal_back_interval_of_superblock g superblock)

  module _ (w : WFSuperblock g superblock) where
    pub blocks_add : front_blocks g superblock + back_blocks g superblock ≡ superblock.journalLen
    blocks_add =
        (λ i. front_blocks_is i + back_blocks_is i)
        ∙ (parts_fit g (interval superblock.journalStart superblock.journalLen) (record { start_in = w.start_in; len_in = w.len_in })).lens_add

    pub front_some : There (journal_front_interval_of_superblock g superblock) → 0 < front_blocks g superblock
    front_some t =
        parts_cases g superblock.journalStart superblock.journalLen
        (λ h. none_some (parts_none g superblock.journalStart superblock.journalLen h).front_is t.1)
        (λ h k.
        let e = front_blocks_is ∙ ap len_of (parts_straight g superblock.journalStart superblock.journalLen h k).front_is in
        omega arith)
        (λ k.
        let e = front_blocks_is ∙ ap len_of (parts_wrapped g superblock.journalStart superblock.journalLen k).front_is in
        omega arith)

    pub back_some : There (journal_back_interval_of_superblock g superblock) → 0 < back_blocks g superblock
    back_some t =
        parts_cases g superblock.journalStart superblock.journalLen
        (λ h. none_some (parts_none g superblock.journalStart superblock.journalLen h).back_is t.1)
        (λ h k. none_some (parts_straight g superblock.journalStart superblock.journalLen h k).back_is t.1)
        (λ k.
        let e = back_blocks_is ∙ ap len_of (parts_wrapped g superblock.journalStart superblock.journalLen k).back_is in
        omega arith)

-- PageInJournalReq

pub record PageInJournalReqAsked (g : Geometry) (s : LoadingOther) (which : ℕ) : Type 0 where
  pub which_in : which ≤ 1
  pub there : There (interval_at g s which)
  pub unread : piece_at s which ≡ piece.Unread

module _ (g : Geometry) (s : LoadingOther) (which : ℕ) where
  pub page_in_journal_req_asked : ask_page_in_journal_req g s which ≡ 0 → PageInJournalReqAsked g s which
  unfolding ask_page_in_journal_req
  page_in_journal_req_asked e =
      let t = ask_yes 6 (also (is_there (optional (interval_at g s which))) (piece_unread (piece_at s which))) (omega arith) (and_then_right _ _ e) in
      record {
        which_in = which_asked which (and_then_left _ _ e);
        there = there_is (interval_at g s which) (also_left (is_there (optional (interval_at g s which))) (piece_unread (piece_at s which)) t);
        unread = unread_is (piece_at s which) (also_right (is_there (optional (interval_at g s which))) (piece_unread (piece_at s which)) t);
      }

  pub asked_page_in_journal_req : PageInJournalReqAsked g s which → ask_page_in_journal_req g s which ≡ 0
  unfolding ask_page_in_journal_req
  asked_page_in_journal_req a =
      and_then_both _ _ (asked_which which a.which_in)
      (ask_holds 6 (also (is_there (optional (interval_at g s which))) (piece_unread (piece_at s which)))
      (also_both (is_there (optional (interval_at g s which))) (piece_unread (piece_at s which)) (is_there_is (interval_at g s which) a.there) (ap piece_unread a.unread)))

  -- the interval that is asked for
  pub req_interval : (v : JournalInterval) → interval_at g s which ≡ some v → page_in_journal_req_interval g s which ≡ v
  unfolding page_in_journal_req_interval
  req_interval v e = ap (λ (o : Option JournalInterval). interval_of (optional o)) e

-- PageInJournalResp: the front piece takes the answer, or the back piece, or nobody does

pub data Awaiting (s : LoadingOther) (id : ℕ) : Type 0 where
  front : s.front ≡ piece.Reading id → Awaiting s id
  back : (s.front ≡ piece.Reading id → ⊥) → s.back ≡ piece.Reading id → Awaiting s id
  nobody : (s.front ≡ piece.Reading id → ⊥) → (s.back ≡ piece.Reading id → ⊥) → Awaiting s id

module _ (s : LoadingOther) (id : ℕ) where
  unreading : (p : Piece) → piece_reads p id ≡ false → p ≡ piece.Reading id → ⊥
  unreading p e h = false_true (sym e ∙ is_reads p id h)

  pub awaiting : Awaiting s id
  awaiting =
      split_bool (piece_reads s.front id)
      (λ e. front (reads_is s.front id e))
      (λ n. split_bool (piece_reads s.back id) (λ e. back (unreading s.front n) (reads_is s.back id e)) (λ e. nobody (unreading s.front n) (unreading s.back e)))

  not_reading : (p : Piece) → (p ≡ piece.Reading id → ⊥) → piece_reads p id ≡ false
  not_reading p h = not_so (piece_reads p id) (λ e. h (reads_is p id e))

  module _ (h : s.front ≡ piece.Reading id) where
    pub front_place : (g : Geometry) → place_of g s id ≡ place 0 (front_blocks g s.superblock)
    unfolding place_of
    front_place g = simp (is_reads s.front id h)

    pub front_next : (r : JournalRead) → page_in_journal_resp_next s id r ≡ to_pieces s (piece_read r) s.back
    unfolding page_in_journal_resp_next
    front_next r = simp (is_reads s.front id h)

  module _ (n : s.front ≡ piece.Reading id → ⊥) (h : s.back ≡ piece.Reading id) where
    pub back_place : (g : Geometry) → place_of g s id ≡ place (front_blocks g s.superblock) (back_blocks g s.superblock)
    unfolding place_of
    back_place g = simp (not_reading s.front n, is_reads s.back id h)

    pub back_next : (r : JournalRead) → page_in_journal_resp_next s id r ≡ to_pieces s s.front (piece_read r)
    unfolding page_in_journal_resp_next
    back_next r = simp (not_reading s.front n, is_reads s.back id h)

  module _ (n : s.front ≡ piece.Reading id → ⊥) (m : s.back ≡ piece.Reading id → ⊥) where
    pub nobody_place : (g : Geometry) → place_of g s id ≡ place 0 0
    unfolding place_of
    nobody_place g = simp (not_reading s.front n, not_reading s.back m)

    pub nobody_next : (r : JournalRead) → page_in_journal_resp_next s id r ≡ s
    unfolding page_in_journal_resp_next
    nobody_next r = simp (not_reading s.front n, not_reading s.back m)

-- the place lies within memory of N blocks
pub place_in : (g : Geometry) (s : LoadingOther) (id : ℕ) → WFSuperblock g s.superblock → (place_of g s id).place + (place_of g s id).len ≤ g.blocks
place_in g s id w = go (awaiting s id)
  where
    go : Awaiting s id → (place_of g s id).place + (place_of g s id).len ≤ g.blocks
    go (front h) = rw (front_place s id h g) (omega (arith, blocks_add g s.superblock w, w.len_in))
    go (back n h) = rw (back_place s id n h g) (omega (arith, blocks_add g s.superblock w, w.len_in))
    go (nobody n m) = rw (nobody_place s id n m g) (omega arith)

-- FinishLoadingOtherPhase

pub record FinishLoadingOtherPhaseAsked (g : Geometry) (s : LoadingOther) : Type 0 where
  pub front_in_is : There (journal_front_interval_of_superblock g s.superblock) → s.front ≡ piece.In
  pub back_in_is : There (journal_back_interval_of_superblock g s.superblock) → s.back ≡ piece.In

module _ (g : Geometry) (s : LoadingOther) where
  pub finish_loading_other_phase_asked : ask_finish_loading_other_phase g s ≡ 0 → FinishLoadingOtherPhaseAsked g s
  unfolding ask_finish_loading_other_phase
  finish_loading_other_phase_asked e =
      let t = ask_yes 6 (also (piece_loaded s.front (front_of g s.superblock)) (piece_loaded s.back (back_of g s.superblock))) (omega arith) e in
      record {
        front_in_is = loaded_in s.front (journal_front_interval_of_superblock g s.superblock) (also_left (piece_loaded s.front (front_of g s.superblock)) (piece_loaded s.back (back_of g s.superblock)) t);
        back_in_is = loaded_in s.back (journal_back_interval_of_superblock g s.superblock) (also_right (piece_loaded s.front (front_of g s.superblock)) (piece_loaded s.back (back_of g s.superblock)) t);
      }

  pub asked_finish_loading_other_phase : FinishLoadingOtherPhaseAsked g s → ask_finish_loading_other_phase g s ≡ 0
  unfolding ask_finish_loading_other_phase
  asked_finish_loading_other_phase a =
      ask_holds 6 _
      (also_both _ _
      (in_loaded s.front (journal_front_interval_of_superblock g s.superblock) a.front_in_is)
      (in_loaded s.back (journal_back_interval_of_superblock g s.superblock) a.back_in_is))
