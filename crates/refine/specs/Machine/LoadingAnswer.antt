-- A journal read's answer against 000's PageInJournalResp and document 01's departures: the piece whose read has the id takes it; a damaged one
-- clears that read; one that nobody awaits is a NoOp. The piece that awaits it has some blocks; where nobody does, `place_of` gives none.
use Rattle.std.specs.Prelude.{ℕ, ◌+◌, ◌*◌, ◌<◌, Bool, true, false, ◌≡◌, refl, List, length, drop, replicate}
use Rattle.std.proofs.Common.{sym, ◌∙◌, ap, arith}
use Rattle.std.proofs.Math.Option.{Option, none, some}
use Rattle.laws.specs.Cut.{flat, lengths}
use Rattle.laws.specs.Splice.{splice}
use Rattle.laws.specs.Sets.{Map, at, put}
use Rattle.layout.specs.declared.Geometry.{Geometry}
use Rattle.interval.specs.declared.JournalInterval.{JournalInterval}
use Rattle.interval.proofs.Laws.{len_of}
use Rattle.superblock.specs.declared.JournalRead.{JournalRead}
use Rattle.superblock.specs.declared.JournalRead.TheVariants as read
use Rattle.superblock.specs.Laws.{WFSuperblock}
use Rattle.codec.specs.Codec.{JournalRange}
use Rattle.source.specs.JournalDisk.{ReqId, RespReadJournalOp}
use Rattle.source.specs.JournalCache as M
use Rattle.source.specs.JournalCache.{SyncReqStatus, Variables, LoadingOtherVariables, journal_interval_of_superblock}
use Rattle.source.specs.Departures.{NoOp⁺, PageInJournalResp⁺, DamagedJournal}
use Rattle.loading.specs.declared.Piece.{Piece}
use Rattle.loading.specs.declared.Piece.TheVariants as piece
use Rattle.loading.specs.declared.LoadingOther.{LoadingOther}
use Rattle.loading.specs.declared.Paged.{Paged}
use Rattle.loading.specs.Which.{is_second}
use Rattle.loading.specs.Other.{front_blocks, back_blocks, loading_other_ok, to_pieces, place_of, page_in_journal_resp_next}
use Rattle.loading.specs.Laws.Other.{LoadingOtherOk, loading_other_facts, front_blocks_is, back_blocks_is, front_some, back_some, Awaiting, front, back, nobody, awaiting, front_place, front_next, back_place, back_next, nobody_place, nobody_next}
use Rattle.refine.specs.Machine.LoadingView.{two, blocks_in, front_in, back_in, awaited_read, loaded_piece, loading_other_of, other_seen, LoadingOtherMeets}
use Rattle.refine.specs.Machine.LoadingSeen.{awaited_is, reading_read}
use Rattle.refine.specs.Machine.LoadingOther.{meets_other_facts}
use Rattle.refine.specs.Machine.LoadedBlocks.{sized_flat, sized_blocks, blocks_here, blocks_before, blocks_behind, front_room}

module _ (g : Geometry) (pieces : List ℕ) (s : LoadingOther) (y : Map SyncReqStatus) where
  abbrev seen : LoadingOtherVariables
  seen = loading_other_of g pieces s y

  abbrev fronts : ℕ
  fronts = front_blocks g s.superblock

  abbrev backs : ℕ
  backs = back_blocks g s.superblock

  -- the view with the front piece in, and with the back piece in
  module _ (wf : WFSuperblock g s.superblock) (size : length pieces ≡ g.blocks * 4096) (bytes : List ℕ) where
    front_in_is : length bytes ≡ fronts * 4096
        → loading_other_of g (splice pieces 0 bytes) (to_pieces s piece.In s.back) y
        ≡ M.to_journal_reads (put seen.journalReads false none) (M.to_journal_pieces (put seen.journal_pieces false (some (blocks_in fronts bytes))) seen)
    front_in_is e =
        λ i.
        record {
          superblock = s.superblock;
          whichSuperblock = is_second s.whichSuperblock;
          journalReads = two none (awaited_read s.back);
          journal_pieces = two (some (blocks_here pieces 0 fronts bytes (omega arith) e i)) (loaded_piece s.back (behind i));
          sync_reqs = y;
        }
      where
        behind : back_in g (splice pieces 0 bytes) s.superblock ≡ back_in g pieces s.superblock
        behind =
            let z : (0 + fronts) * 4096 ≡ fronts * 4096 = omega arith in
            ap (λ (n : ℕ). blocks_in backs (drop n (splice pieces 0 bytes))) (sym z)
            ∙ blocks_behind pieces 0 fronts bytes (omega arith) e backs
            ∙ ap (λ (n : ℕ). blocks_in backs (drop n pieces)) z

    back_in_is : length bytes ≡ backs * 4096
        → loading_other_of g (splice pieces (fronts * 4096) bytes) (to_pieces s s.front piece.In) y
        ≡ M.to_journal_reads (put seen.journalReads true none) (M.to_journal_pieces (put seen.journal_pieces true (some (blocks_in backs bytes))) seen)
    back_in_is e =
        λ i.
        record {
          superblock = s.superblock;
          whichSuperblock = is_second s.whichSuperblock;
          journalReads = two (awaited_read s.front) none;
          journal_pieces =
              two (loaded_piece s.front (blocks_before pieces fronts backs bytes (front_room g pieces s.superblock wf size) e i))
              (some (blocks_here pieces fronts backs bytes (front_room g pieces s.superblock wf size) e i));
          sync_reqs = y;
        }

  module _ (id : ReqId) where
    abbrev waits : Bool → Type 0
    waits which = at seen.journalReads which ≡ some id

    -- where the awaited piece lies, and who awaits the id
    waits_front : waits false → s.front ≡ piece.Reading id
    waits_front h = awaited_is s.front id h

    waits_back : waits true → s.back ≡ piece.Reading id
    waits_back h = awaited_is s.back id h

    len_waits : 0 < (place_of g s id).len → (which : Bool) × waits which
    len_waits h = go (awaiting s id)
      where
        go : Awaiting s id → (which : Bool) × waits which
        go (front e) = (false, ap awaited_read e)
        go (back n e) = (true, ap awaited_read e)
        go (nobody n m) = let z = ap (λ (p : Paged). p.len) (nobody_place s id n m g) in absurd (omega arith)

    module _ (ok : LoadingOtherOk g s) where
      not_front : waits true → s.front ≡ piece.Reading id → ⊥
      not_front h e = ok.reads_differ id e (waits_back h)

      waits_interval : (which : Bool) → waits which → (v : JournalInterval) → journal_interval_of_superblock g which s.superblock ≡ some v → (place_of g s id).len ≡ v.len
      waits_interval false h v e = ap (λ (p : Paged). p.len) (front_place s id (waits_front h) g) ∙ front_blocks_is g s.superblock ∙ ap len_of e
      waits_interval true h v e = ap (λ (p : Paged). p.len) (back_place s id (not_front h) (waits_back h) g) ∙ back_blocks_is g s.superblock ∙ ap len_of e

      waits_len : (which : Bool) → waits which → 0 < (place_of g s id).len
      waits_len false h =
          let e = ap (λ (p : Paged). p.len) (front_place s id (waits_front h) g) in
          let l = front_some g s.superblock ok.superblock_wf (ok.front_there (reading_read s.front id (waits_front h))) in
          omega arith
      waits_len true h =
          let e = ap (λ (p : Paged). p.len) (back_place s id (not_front h) (waits_back h) g) in
          let l = back_some g s.superblock ok.superblock_wf (ok.back_there (reading_read s.back id (waits_back h))) in
          omega arith

      whole_next : length pieces ≡ g.blocks * 4096 → (bytes : List ℕ) → length bytes ≡ (place_of g s id).len * 4096 → (which : Bool) → waits which
          → loading_other_of g (splice pieces ((place_of g s id).place * 4096) bytes) (page_in_journal_resp_next s id read.Whole) y
          ≡ M.to_journal_reads (put seen.journalReads which none)
          (M.to_journal_pieces (put seen.journal_pieces which (some (blocks_in (place_of g s id).len bytes))) seen)
      whole_next size bytes l false h =
          let p = front_place s id (waits_front h) g in
          (λ i. loading_other_of g (splice pieces ((p i).place * 4096) bytes) (front_next s id (waits_front h) read.Whole i) y)
          ∙ front_in_is ok.superblock_wf size bytes (l ∙ ap (λ (x : Paged). x.len * 4096) p)
          ∙ (λ i. M.to_journal_reads (put seen.journalReads false none) (M.to_journal_pieces (put seen.journal_pieces false (some (blocks_in (sym p i).len bytes))) seen))
      whole_next size bytes l true h =
          let p = back_place s id (not_front h) (waits_back h) g in
          (λ i. loading_other_of g (splice pieces ((p i).place * 4096) bytes) (back_next s id (not_front h) (waits_back h) read.Whole i) y)
          ∙ back_in_is ok.superblock_wf size bytes (l ∙ ap (λ (x : Paged). x.len * 4096) p)
          ∙ (λ i. M.to_journal_reads (put seen.journalReads true none) (M.to_journal_pieces (put seen.journal_pieces true (some (blocks_in (sym p i).len bytes))) seen))

      damaged_next : (which : Bool) → waits which
          → loading_other_of g pieces (page_in_journal_resp_next s id read.Damaged) y ≡ M.to_journal_reads (put seen.journalReads which none) seen
      damaged_next false h =
          ap (λ (x : LoadingOther). loading_other_of g pieces x y) (front_next s id (waits_front h) read.Damaged)
          ∙ (λ i.
          M.to_journal_reads (put seen.journalReads false none)
          (M.to_journal_pieces (two (ap (λ (p : Piece). loaded_piece p (front_in g pieces s.superblock)) (sym (waits_front h)) i) seen.journal_pieces.second) seen))
      damaged_next true h =
          ap (λ (x : LoadingOther). loading_other_of g pieces x y) (back_next s id (not_front h) (waits_back h) read.Damaged)
          ∙ (λ i.
          M.to_journal_reads (put seen.journalReads true none)
          (M.to_journal_pieces (two seen.journal_pieces.first (ap (λ (p : Piece). loaded_piece p (back_in g pieces s.superblock)) (sym (waits_back h)) i)) seen))

    nobody_waits : ((which : Bool) → waits which → ⊥) → (r : JournalRead) → ((place_of g s id).len ≡ 0) × (page_in_journal_resp_next s id r ≡ s)
    nobody_waits f r = go (awaiting s id)
      where
        go : Awaiting s id → ((place_of g s id).len ≡ 0) × (page_in_journal_resp_next s id r ≡ s)
        go (front e) = absurd (f false (ap awaited_read e))
        go (back n e) = absurd (f true (ap awaited_read e))
        go (nobody n m) = (ap (λ (p : Paged). p.len) (nobody_place s id n m g), nobody_next s id n m r)

    -- a whole answer that is awaited: its bytes go to the piece's place
    pub page_in_journal_resp_sound : loading_other_ok g s ≡ true → length pieces ≡ g.blocks * 4096 → 0 < (place_of g s id).len
        → (bytes : List ℕ) → length bytes ≡ (place_of g s id).len * 4096
        → PageInJournalResp⁺ (other_seen g pieces s y) (other_seen g (splice pieces ((place_of g s id).place * 4096) bytes) (page_in_journal_resp_next s id read.Whole) y)
        (RespReadJournalOp id (some (blocks_in (place_of g s id).len bytes)))
    page_in_journal_resp_sound k size some_block bytes l =
        let w = len_waits some_block in (
          w.0,
          record {
            id = id;
            jr = blocks_in (place_of g s id).len bytes;
            op = refl;
            waiting = w.1;
            next = ap Variables.LoadingOther (whole_next (loading_other_facts g s k) size bytes l w.0 w.1);
          },
        )

    -- its blocks are those of the piece's interval (question 4)
    pub page_in_journal_resp_complete : LoadingOtherMeets g pieces s y → length pieces ≡ g.blocks * 4096
        → (jr : JournalRange) (s' : Variables) (h : PageInJournalResp⁺ (other_seen g pieces s y) s' (RespReadJournalOp id (some jr)))
        → ((v : JournalInterval) → journal_interval_of_superblock g h.0 s.superblock ≡ some v → lengths jr ≡ replicate v.len 4096)
        → (0 < (place_of g s id).len)
        × (length (flat jr) ≡ (place_of g s id).len * 4096)
        × (s' ≡ other_seen g (splice pieces ((place_of g s id).place * 4096) (flat jr)) (page_in_journal_resp_next s id read.Whole) y)
    page_in_journal_resp_complete k size jr s' h piece_size = (
      waits_len ok h.0 waiting,
      sized_flat (place_of g s id).len jr sized,
      h.1.next
          ∙ (λ i.
          Variables.LoadingOther
          (M.to_journal_reads (put seen.journalReads h.0 none)
          (M.to_journal_pieces (put seen.journal_pieces h.0 (some ((same_range h.1.id h.1.jr h.1.op ∙ sym (sized_blocks (place_of g s id).len jr sized)) i))) seen)))
          ∙ sym (ap Variables.LoadingOther (whole_next ok size (flat jr) (sized_flat (place_of g s id).len jr sized) h.0 waiting)),
    )
      where
        ok : LoadingOtherOk g s
        ok = meets_other_facts g pieces s y k

        same_id : (i : ReqId) (x : JournalRange) → RespReadJournalOp id (some jr) ≡ RespReadJournalOp i (some x) → i ≡ id
        same_id i x e = cc

        same_range : (i : ReqId) (x : JournalRange) → RespReadJournalOp id (some jr) ≡ RespReadJournalOp i (some x) → x ≡ jr
        same_range i x e = cc

        waiting : waits h.0
        waiting = h.1.waiting ∙ ap some (same_id h.1.id h.1.jr h.1.op)

        sized : lengths jr ≡ replicate (place_of g s id).len 4096
        sized =
            let t = k.inv.read_interval h.0 id waiting in
            piece_size t.0 t.1 ∙ ap (λ (n : ℕ). replicate n 4096) (sym (waits_interval ok h.0 waiting t.0 t.1))

    -- a damaged answer
    pub damaged_journal_sound : loading_other_ok g s ≡ true → 0 < (place_of g s id).len
        → DamagedJournal (other_seen g pieces s y) (other_seen g pieces (page_in_journal_resp_next s id read.Damaged) y) (RespReadJournalOp id none)
    damaged_journal_sound k some_block =
        let w = len_waits some_block in
        record { id = id; op = refl; which = w.0; waiting = w.1; next = ap Variables.LoadingOther (damaged_next (loading_other_facts g s k) w.0 w.1) }

    pub damaged_journal_complete : LoadingOtherMeets g pieces s y → (s' : Variables) → DamagedJournal (other_seen g pieces s y) s' (RespReadJournalOp id none)
        → (0 < (place_of g s id).len)
        × (s' ≡ other_seen g pieces (page_in_journal_resp_next s id read.Damaged) y)
    damaged_journal_complete k s' h =
        (waits_len ok h.which waiting, h.next ∙ sym (ap Variables.LoadingOther (damaged_next ok h.which waiting)))
      where
        ok : LoadingOtherOk g s
        ok = meets_other_facts g pieces s y k

        same_id : (i : ReqId) → RespReadJournalOp id none ≡ RespReadJournalOp i none → i ≡ id
        same_id i e = cc

        waiting : waits h.which
        waiting = h.waiting ∙ ap some (same_id h.id h.op)

    -- an answer that nobody awaits
    pub journal_unawaited_sound : loading_other_ok g s ≡ true → (place_of g s id).len ≡ 0 → (r : JournalRead) (journal : Option JournalRange)
        → NoOp⁺ (other_seen g pieces s y) (other_seen g pieces (page_in_journal_resp_next s id r) y) (RespReadJournalOp id journal)
    journal_unawaited_sound k none-placed r journal =
        record {
          source =
              record {
                op = M.NoOpOp.journal_read_is id journal refl;
                next = ap (λ (x : LoadingOther). other_seen g pieces x y) (nobody_waits nobody_does r).1;
              };
          unawaited = λ w. nobody_does w.0 w.1;
        }
      where
        nobody_does : (which : Bool) → waits which → ⊥
        nobody_does which h = let l = waits_len (loading_other_facts g s k) which h in omega arith

    pub journal_unawaited_complete : (r : JournalRead) (journal : Option JournalRange) (s' : Variables) → NoOp⁺ (other_seen g pieces s y) s' (RespReadJournalOp id journal)
        → ((place_of g s id).len ≡ 0)
        × (s' ≡ other_seen g pieces (page_in_journal_resp_next s id r) y)
    journal_unawaited_complete r journal s' h =
        let u = nobody_waits (λ which w. h.unawaited (which, w)) r in
        (u.0, h.source.next ∙ sym (ap (λ (x : LoadingOther). other_seen g pieces x y) u.1))
