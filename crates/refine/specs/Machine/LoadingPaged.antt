-- A journal answer as the machine asks and takes it: question 4 of the blocks that are lent, and the pieces after them. What LoadingAnswer shows for
-- any bytes, for these: the blocks that are lent are the answer's, so many as there are.
use Rattle.std.specs.Prelude.{ℕ, ◌+◌, ◌*◌, ◌/◌, ◌≤◌, true, ◌≡◌, refl, ◌⊎◌, length, take, replicate}
use Rattle.std.proofs.Math.Path.{sym, ap}
use Rattle.std.proofs.Common.{◌∙◌, subst, inl, inr, arith, take_all}
use mathlib.Core.List.{List, []}
use Rattle.std.proofs.Math.Option.{Option, none, some}
use Rattle.laws.specs.Choice.{asked_yes, asked_no, split_eq, split_le}
use Rattle.laws.specs.Cut.{flat, lengths}
use Rattle.laws.specs.Splice.{splice, clipped, clipped_fits, clipped_past, splice_none}
use Rattle.laws.specs.Sets.{Map}
use Rattle.layout.specs.declared.Geometry.{Geometry}
use Rattle.interval.specs.declared.JournalInterval.{JournalInterval}
use Rattle.interval.specs.Interval.{interval}
use Rattle.superblock.specs.declared.JournalRead.{JournalRead}
use Rattle.superblock.specs.declared.JournalRead.TheVariants as read
use Rattle.codec.specs.Codec.{JournalRange}
use Rattle.journal.specs.Memory.{ask_size, copy_blocks}
use Rattle.journal.specs.Asked.{size_asked, asked_size}
use Rattle.source.specs.JournalDisk.{ReqId, RespReadJournalOp}
use Rattle.source.specs.JournalCache.{SyncReqStatus, Variables, journal_interval_of_superblock}
use Rattle.source.specs.Departures.{NoOp⁺, PageInJournalResp⁺, DamagedJournal}
use Rattle.loading.specs.declared.LoadingOther.{LoadingOther}
use Rattle.loading.specs.declared.Paged.{Paged}
use Rattle.loading.specs.Other.{loading_other_ok, place, place_of, page_in_journal_resp_next}
use Rattle.loading.specs.Laws.Other.{loading_other_facts, place_in}
use Rattle.machine.specs.Loading.{whole_place, ask_piece, paged_pieces}
use Rattle.refine.specs.Machine.LoadingView.{blocks_in, other_seen, LoadingOtherMeets}
use Rattle.refine.specs.Machine.LoadingAnswer.{page_in_journal_resp_sound, page_in_journal_resp_complete, damaged_journal_sound, damaged_journal_complete, journal_unawaited_sound, journal_unawaited_complete}

-- question 4 of blocks that go to a place, and of blocks that go nowhere
module _ (p : Paged) (new : List ℕ) where
  pub piece_asked : (p.len ≡ 0 → ⊥) → ask_piece p new ≡ 0 → length new ≡ p.len * 4096
  unfolding ask_piece
  piece_asked n e = size_asked (interval p.place p.len) new (sym (asked_no {A = ℕ} p.len 0 (ask_size (interval p.place p.len) new) n) ∙ e)

  pub asked_piece : length new ≡ p.len * 4096 → ask_piece p new ≡ 0
  unfolding ask_piece
  asked_piece e =
      split_eq p.len 0
      (λ z. asked_yes {A = ℕ} p.len 0 (ask_size (interval p.place p.len) new) z)
      (λ n. asked_no {A = ℕ} p.len 0 (ask_size (interval p.place p.len) new) n ∙ asked_size (interval p.place p.len) new e)

  pub asked_nowhere : p.len ≡ 0 → ask_piece p new ≡ 0
  unfolding ask_piece
  asked_nowhere z = asked_yes {A = ℕ} p.len 0 (ask_size (interval p.place p.len) new) z

  -- the pieces after them
  module _ (pieces : List ℕ) where
    pub paged_there : length new ≡ p.len * 4096 → p.place * 4096 + length new ≤ length pieces → paged_pieces p new pieces ≡ splice pieces (p.place * 4096) new
    unfolding paged_pieces copy_blocks
    paged_there e h = ap (clipped pieces (p.place * 4096)) (take_all (p.len * 4096) new (omega arith)) ∙ clipped_fits pieces (p.place * 4096) new h

    pub paged_nowhere : p.len ≡ 0 → paged_pieces p new pieces ≡ pieces
    unfolding paged_pieces copy_blocks
    paged_nowhere z =
        ap (λ (n : ℕ). clipped pieces (p.place * 4096) (take (n * 4096) new)) z
        ∙ split_le (p.place * 4096) (length pieces)
        (λ h. clipped_fits pieces (p.place * 4096) [] (omega arith) ∙ sym (splice_none pieces (p.place * 4096)))
        (λ h. clipped_past pieces (p.place * 4096) [] (omega arith))

-- so many blocks as the bytes have
pub blocks_all_is : (n : ℕ) (bytes : List ℕ) → length bytes ≡ n * 4096 → blocks_in (length bytes / 4096) bytes ≡ blocks_in n bytes
blocks_all_is n bytes e = let d : length bytes / 4096 ≡ n = omega arith in ap (λ (k : ℕ). blocks_in k bytes) d

module _ (g : Geometry) (pieces : List ℕ) (s : LoadingOther) (y : Map SyncReqStatus) (id : ReqId) where
  -- the view after an answer: r decides where its blocks go
  abbrev pub paged_seen : JournalRead → List ℕ → Variables
  paged_seen r new = other_seen g (paged_pieces (whole_place r (place_of g s id)) new pieces) (page_in_journal_resp_next s id r) y

  -- nobody awaits it
  nowhere : (r : JournalRead) → (place_of g s id).len ≡ 0 → (whole_place r (place_of g s id)).len ≡ 0
  nowhere read.Whole z = z
  nowhere read.Damaged z = refl

  unawaited : (r : JournalRead) (new : List ℕ) (journal : Option JournalRange) → loading_other_ok g s ≡ true → (place_of g s id).len ≡ 0
      → NoOp⁺ (other_seen g pieces s y) (paged_seen r new) (RespReadJournalOp id journal)
  unawaited r new journal k z =
      subst (λ (ps : List ℕ). NoOp⁺ (other_seen g pieces s y) (other_seen g ps (page_in_journal_resp_next s id r) y) (RespReadJournalOp id journal))
      (sym (paged_nowhere (whole_place r (place_of g s id)) new pieces (nowhere r z)))
      (journal_unawaited_sound g pieces s y id k z r journal)

  pub paged_unawaited : (r : JournalRead) (new : List ℕ) (journal : Option JournalRange) (s' : Variables)
      → NoOp⁺ (other_seen g pieces s y) s' (RespReadJournalOp id journal)
      → (ask_piece (whole_place r (place_of g s id)) new ≡ 0) × (paged_seen r new ≡ s')
  paged_unawaited r new journal s' h =
      let c = journal_unawaited_complete g pieces s y id r journal s' h in (
        asked_nowhere (whole_place r (place_of g s id)) new (nowhere r c.0),
        ap (λ (ps : List ℕ). other_seen g ps (page_in_journal_resp_next s id r) y) (paged_nowhere (whole_place r (place_of g s id)) new pieces (nowhere r c.0)) ∙ sym c.1,
      )

  -- a whole answer
  module _ (size : length pieces ≡ g.blocks * 4096) where
    pub whole_sound : loading_other_ok g s ≡ true → (new : List ℕ) → ask_piece (place_of g s id) new ≡ 0
        → PageInJournalResp⁺ (other_seen g pieces s y) (paged_seen read.Whole new) (RespReadJournalOp id (some (blocks_in (length new / 4096) new)))
        ⊎ NoOp⁺ (other_seen g pieces s y) (paged_seen read.Whole new) (RespReadJournalOp id (some (blocks_in (length new / 4096) new)))
    whole_sound k new e =
        split_eq (place_of g s id).len 0
        (λ z. inr (unawaited read.Whole new (some (blocks_in (length new / 4096) new)) k z))
        (λ n.
        let long = piece_asked (place_of g s id) new n e in
        let room = place_in g s id (loading_other_facts g s k).superblock_wf in
        inl
        (subst (λ (d : JournalRange). PageInJournalResp⁺ (other_seen g pieces s y) (paged_seen read.Whole new) (RespReadJournalOp id (some d)))
        (sym (blocks_all_is (place_of g s id).len new long))
        (subst (λ (ps : List ℕ). PageInJournalResp⁺ (other_seen g pieces s y) (other_seen g ps (page_in_journal_resp_next s id read.Whole) y) (RespReadJournalOp id (some (blocks_in (place_of g s id).len new))))
        (sym (paged_there (place_of g s id) new pieces long (omega arith)))
        (page_in_journal_resp_sound g pieces s y id k size (omega arith) new long))))

    pub whole_complete : LoadingOtherMeets g pieces s y → (jr : JournalRange) (s' : Variables)
        (h : PageInJournalResp⁺ (other_seen g pieces s y) s' (RespReadJournalOp id (some jr)))
        → ((v : JournalInterval) → journal_interval_of_superblock g h.0 s.superblock ≡ some v → lengths jr ≡ replicate v.len 4096)
        → (ask_piece (place_of g s id) (flat jr) ≡ 0) × (paged_seen read.Whole (flat jr) ≡ s')
    whole_complete k jr s' h sized =
        let c = page_in_journal_resp_complete g pieces s y id k size jr s' h sized in
        let room = place_in g s id k.inv.superblock_wf in (
          asked_piece (place_of g s id) (flat jr) c.1,
          ap (λ (ps : List ℕ). other_seen g ps (page_in_journal_resp_next s id read.Whole) y) (paged_there (place_of g s id) (flat jr) pieces c.1 (omega (arith, c.1, room, size))) ∙ sym c.2,
        )

  -- a damaged one
  module _ (new : List ℕ) where
    same_pieces : paged_pieces (place 0 0) new pieces ≡ pieces
    same_pieces = paged_nowhere (place 0 0) new pieces refl

    pub damaged_sound : loading_other_ok g s ≡ true
        → DamagedJournal (other_seen g pieces s y) (paged_seen read.Damaged new) (RespReadJournalOp id none)
        ⊎ NoOp⁺ (other_seen g pieces s y) (paged_seen read.Damaged new) (RespReadJournalOp id none)
    damaged_sound k =
        split_eq (place_of g s id).len 0
        (λ z. inr (unawaited read.Damaged new none k z))
        (λ n.
        inl
        (subst (λ (ps : List ℕ). DamagedJournal (other_seen g pieces s y) (other_seen g ps (page_in_journal_resp_next s id read.Damaged) y) (RespReadJournalOp id none))
        (sym same_pieces)
        (damaged_journal_sound g pieces s y id k (omega arith))))

    pub damaged_complete : LoadingOtherMeets g pieces s y → (s' : Variables) → DamagedJournal (other_seen g pieces s y) s' (RespReadJournalOp id none)
        → paged_seen read.Damaged new ≡ s'
    damaged_complete k s' h =
        ap (λ (ps : List ℕ). other_seen g ps (page_in_journal_resp_next s id read.Damaged) y) same_pieces
        ∙ sym (damaged_journal_complete g pieces s y id k s' h).1
