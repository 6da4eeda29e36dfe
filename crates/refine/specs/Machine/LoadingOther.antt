-- Loading the journal: question 2's test against 000's InvLoadingOther and document 01's clauses, and the request of a piece against 000's
-- PageInJournalReq.
use Rattle.std.specs.Prelude.{ℕ, ◌*◌, ◌≤◌, Bool, not, ◌≡◌, refl, List, length, drop, replicate}
use Rattle.std.proofs.Math.Bool.{true, false, cond}
use Rattle.std.proofs.Common.{sym, ◌∙◌, ap}
use Rattle.std.proofs.Math.Option.{some}
use Rattle.laws.specs.Cut.{lengths}
use Rattle.laws.specs.Sets.{Map, at, put, none_some}
use Rattle.layout.specs.declared.Geometry.{Geometry}
use Rattle.interval.specs.declared.JournalInterval.{JournalInterval}
use Rattle.interval.proofs.Laws.{len_of}
use Rattle.superblock.specs.Superblock.{journal_front_interval_of_superblock, journal_back_interval_of_superblock}
use Rattle.superblock.specs.Laws.{WFSuperblock}
use Rattle.codec.specs.Codec.{JournalRange}
use Rattle.source.specs.JournalDisk.{ReqId, DiskOp, ReqReadJournalOp}
use Rattle.source.specs.JournalCache as M
use Rattle.source.specs.JournalCache.{SyncReqStatus, Variables, LoadingOtherVariables, journal_interval_of_superblock, unless_is, PageInJournalReq}
use Rattle.loading.specs.declared.Piece.{Piece}
use Rattle.loading.specs.declared.Piece.TheVariants as piece
use Rattle.loading.specs.declared.LoadingOther.{LoadingOther}
use Rattle.loading.specs.Which.{is_second}
use Rattle.loading.specs.Pieces.{without_read}
use Rattle.loading.specs.Other.{front_blocks, back_blocks, loading_other_ok, interval_at, piece_at, to_pieces, ask_page_in_journal_req, page_in_journal_req_interval, page_in_journal_req_next}
use Rattle.loading.specs.Laws.Other.{There, LoadingOtherOk, loading_other_facts, facts_loading_other, front_blocks_is, back_blocks_is, page_in_journal_req_asked, asked_page_in_journal_req, req_interval}
use Rattle.refine.specs.Machine.LoadingView.{two, front_in, back_in, awaited_read, loaded_piece, loading_other_of, other_seen, LoadingOtherMeets}
use Rattle.refine.specs.Machine.LoadingSeen.{at_named, awaited_is, loaded_is, in_blocks, unread_of, there_of, reading_read, in_read, without_read_is, without_piece, loaded_named, interval_named}
use Rattle.refine.specs.Machine.LoadedBlocks.{blocks_sized, front_room, back_room}

module _ (g : Geometry) (pieces : List ℕ) (s : LoadingOther) (y : Map SyncReqStatus) where
  abbrev seen : LoadingOtherVariables
  seen = loading_other_of g pieces s y

  -- Question 2

  pub other_meets : loading_other_ok g s ≡ true → LoadingOtherMeets g pieces s y
  other_meets e =
      record {
        inv = record { superblock_wf = f.superblock_wf; read_interval = of_read; piece_interval_is = of_piece };
        reads_differ = λ id p q. f.reads_differ id (awaited_is s.front id p) (awaited_is s.back id q);
        which_in = f.which_in;
      }
    where
      f : LoadingOtherOk g s
      f = loading_other_facts g s e

      of_read : (which : Bool) (id : ReqId) → at seen.journalReads which ≡ some id → There (journal_interval_of_superblock g which s.superblock)
      of_read false id p = f.front_there (reading_read s.front id (awaited_is s.front id p))
      of_read true id p = f.back_there (reading_read s.back id (awaited_is s.back id p))

      of_piece : (which : Bool) (jr : JournalRange) → at seen.journal_pieces which ≡ some jr → There (journal_interval_of_superblock g which s.superblock)
      of_piece false jr p = f.front_there (in_read s.front (loaded_is s.front (front_in g pieces s.superblock) jr p))
      of_piece true jr p = f.back_there (in_read s.back (loaded_is s.back (back_in g pieces s.superblock) jr p))

  pub meets_other_facts : LoadingOtherMeets g pieces s y → LoadingOtherOk g s
  meets_other_facts h =
      record {
        superblock_wf = h.inv.superblock_wf;
        which_in = h.which_in;
        front_there = there_of s.front (front_in g pieces s.superblock) (journal_front_interval_of_superblock g s.superblock) (h.inv.read_interval false) (h.inv.piece_interval_is false);
        back_there = there_of s.back (back_in g pieces s.superblock) (journal_back_interval_of_superblock g s.superblock) (h.inv.read_interval true) (h.inv.piece_interval_is true);
        reads_differ = λ id p q. h.reads_differ id (ap awaited_read p) (ap awaited_read q);
      }

  pub meets_other : LoadingOtherMeets g pieces s y → loading_other_ok g s ≡ true
  meets_other h = facts_loading_other g s (meets_other_facts h)

  -- met by the type: no read is awaited for a piece already in
  pub other_read_or_in : (which : Bool) (id : ReqId) (jr : JournalRange) → at (loading_other_of g pieces s y).journalReads which ≡ some id
      → at (loading_other_of g pieces s y).journal_pieces which ≡ some jr → ⊥
  other_read_or_in false id jr p q = none_some (ap awaited_read (loaded_is s.front (front_in g pieces s.superblock) jr q)) p
  other_read_or_in true id jr p q = none_some (ap awaited_read (loaded_is s.back (back_in g pieces s.superblock) jr q)) p

  -- met by lent memory's length: a piece that is in is its interval's blocks, of 4,096 bytes each
  module _ (wf : WFSuperblock g s.superblock) (size : length pieces ≡ g.blocks * 4096) where
    pub other_piece_size : (which : Bool) (jr : JournalRange) (v : JournalInterval) → at (loading_other_of g pieces s y).journal_pieces which ≡ some jr
        → journal_interval_of_superblock g which s.superblock ≡ some v → lengths jr ≡ replicate v.len 4096
    other_piece_size false jr v p q =
        ap lengths (in_blocks s.front (front_in g pieces s.superblock) jr p)
        ∙ blocks_sized (front_blocks g s.superblock) pieces (front_room g pieces s.superblock wf size)
        ∙ ap (λ (n : ℕ). replicate n 4096) (front_blocks_is g s.superblock ∙ ap len_of q)
    other_piece_size true jr v p q =
        ap lengths (in_blocks s.back (back_in g pieces s.superblock) jr p)
        ∙ blocks_sized (back_blocks g s.superblock) (drop (front_blocks g s.superblock * 4096) pieces) (back_room g pieces s.superblock wf size)
        ∙ ap (λ (n : ℕ). replicate n 4096) (back_blocks_is g s.superblock ∙ ap len_of q)

  -- PageInJournalReq

  module _ (which : ℕ) where
    read_at : at seen.journalReads (is_second which) ≡ awaited_read (piece_at s which)
    read_at = at_named awaited_read s.front s.back (is_second which)

    abbrev blocks_at : JournalRange
    blocks_at = cond (is_second which) (back_in g pieces s.superblock) (front_in g pieces s.superblock)

    piece_at_is : at seen.journal_pieces (is_second which) ≡ loaded_piece (piece_at s which) blocks_at
    piece_at_is = loaded_named s.front s.back (front_in g pieces s.superblock) (back_in g pieces s.superblock) (is_second which)

    interval_at_is : journal_interval_of_superblock g (is_second which) s.superblock ≡ interval_at g s which
    interval_at_is = interval_named g s.superblock (is_second which)

    req_next : (id : ReqId) → piece_at s which ≡ piece.Unread
        → loading_other_of g pieces (page_in_journal_req_next s which id) y
        ≡ M.to_journal_reads (put (put seen.journalReads (is_second which) (some id)) (not (is_second which)) (unless_is (at seen.journalReads (not (is_second which))) id)) seen
    unfolding page_in_journal_req_next
    req_next id = go (is_second which)
      where
        go : (w : Bool) → cond w s.back s.front ≡ piece.Unread
            → loading_other_of g pieces (cond w (to_pieces s (without_read s.front id) (piece.Reading id)) (to_pieces s (piece.Reading id) (without_read s.back id))) y
            ≡ M.to_journal_reads (put (put seen.journalReads w (some id)) (not w) (unless_is (at seen.journalReads (not w)) id)) seen
        go true u =
            λ i.
            record {
              superblock = s.superblock;
              whichSuperblock = is_second s.whichSuperblock;
              journalReads = two (without_read_is s.front id i) (some id);
              journal_pieces =
                  two (without_piece s.front id (front_in g pieces s.superblock) i)
                  (ap (λ (p : Piece). loaded_piece p (back_in g pieces s.superblock)) (sym u) i);
              sync_reqs = y;
            }
        go false u =
            λ i.
            record {
              superblock = s.superblock;
              whichSuperblock = is_second s.whichSuperblock;
              journalReads = two (some id) (without_read_is s.back id i);
              journal_pieces =
                  two (ap (λ (p : Piece). loaded_piece p (front_in g pieces s.superblock)) (sym u) i)
                  (without_piece s.back id (back_in g pieces s.superblock) i);
              sync_reqs = y;
            }

    pub page_in_journal_req_sound : (id : ReqId) → loading_other_ok g s ≡ true → ask_page_in_journal_req g s which ≡ 0
        → PageInJournalReq g (other_seen g pieces s y) (other_seen g pieces (page_in_journal_req_next s which id) y) (ReqReadJournalOp id (page_in_journal_req_interval g s which)) (is_second which)
    page_in_journal_req_sound id k e =
        let a = page_in_journal_req_asked g s which e in
        let w = (loading_other_facts g s k).superblock_wf in
        record {
          id = id;
          interval = page_in_journal_req_interval g s which;
          op = refl;
          start_in = w.start_in;
          len_in = w.len_in;
          interval_is = interval_at_is ∙ a.there.1 ∙ ap some (sym (req_interval g s which a.there.0 a.there.1));
          no_read = read_at ∙ ap awaited_read a.unread;
          no_piece = piece_at_is ∙ ap (λ (p : Piece). loaded_piece p blocks_at) a.unread;
          next = ap Variables.LoadingOther (req_next id a.unread);
        }

    pub page_in_journal_req_complete : which ≤ 1 → (s' : Variables) (dop : DiskOp) (h : PageInJournalReq g (other_seen g pieces s y) s' dop (is_second which))
        → (ask_page_in_journal_req g s which ≡ 0)
        × (dop ≡ ReqReadJournalOp h.id (page_in_journal_req_interval g s which))
        × (s' ≡ other_seen g pieces (page_in_journal_req_next s which h.id) y)
    page_in_journal_req_complete l s' dop h =
        let i = sym interval_at_is ∙ h.interval_is in
        let u = unread_of (piece_at s which) blocks_at (sym read_at ∙ h.no_read) (sym piece_at_is ∙ h.no_piece) in (
          asked_page_in_journal_req g s which (record { which_in = l; there = (h.interval, i); unread = u }),
          h.op ∙ ap (ReqReadJournalOp h.id) (sym (req_interval g s which h.interval i)),
          h.next ∙ sym (ap Variables.LoadingOther (req_next h.id u)),
        )
