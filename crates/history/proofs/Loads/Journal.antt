-- The second half of a load: each piece of the selected interval is asked for and answered whole, for its blocks are all readable. Every
-- state on the way meets question 2.
use Rattle.std.specs.Prelude.{Bool, true, false, not, ◌≡◌, List, length}
use Rattle.std.proofs.Math.Path.{refl}
use Rattle.std.proofs.Common.{sym, ◌∙◌, ap, subst}
use Rattle.std.proofs.Math.Option.{Option, none, some, some-injective}
use Rattle.laws.specs.Choice.{also, also_left, also_right}
use Rattle.layout.specs.declared.Geometry.{Geometry}
use Rattle.interval.specs.declared.JournalInterval.{JournalInterval}
use Rattle.interval.specs.Interval.{interval, journal_front_interval, journal_back_interval}
use Rattle.interval.specs.Facts.{ContiguousJournalInterval}
use Rattle.interval.specs.Journal.{JournalBlock, cyclic_slice, full_range, readable}
use Rattle.interval.proofs.Laws.{slice_of, front_back_slice}
use Rattle.superblock.specs.declared.Superblock.{Superblock}
use Rattle.superblock.specs.Laws.{WFSuperblock}
use Rattle.laws.specs.Sets.{empty_ids, no_keys, bind, AtMost, none_few, Two, both, at, put, none_some, same_value, at_both, at_put, bind_here}
use Rattle.laws.specs.Maps.{values_bind, keys_one, bind_unbind, one_few}
use Rattle.codec.specs.Codec.{JournalRange, Sized, Codec, disk_journal_range}
use Rattle.codec.specs.Sizes.{sized_held}
use Rattle.source.specs.JournalDisk.{ReqId, ReqReadJournalOp, RespReadJournalOp}
use Rattle.source.specs.JournalCache as M
use Rattle.source.specs.JournalCache.{PageInJournalReqStep, PageInJournalRespStep, journal_interval_of_superblock, unless_is}
use Rattle.source.specs.JournalSystem as Y
use Rattle.source.specs.Limits.{Limits}
use Rattle.source.specs.Meets.{MachineMeets, bind_read, awaited_journal_reads}
use Rattle.source.specs.Departures.{Source, MachineStep}
use Rattle.source.proofs.Laws.Pieces.{spanned_valid, piece_contiguous}
use Rattle.history.specs.Ledger.{read_journal, journal_read}
use Rattle.codec.specs.Ranges.{whole, full_append, full_whole}
use Rattle.history.proofs.Journal.Slots.{Slots, slots_wf_is}
use Rattle.history.proofs.Simulation.Relation.{Pieces}
use Rattle.history.proofs.Simulation.Loading.{pieces_put}
use Rattle.history.specs.Statement.{tied_page, tied_paged, Takes, loads}
use Rattle.history.proofs.Loads.Comes.{piece_calls, Comes, here, by}
use Rattle.history.proofs.Loads.Superblocks.{reading, resting, Room, disk_meets, joined, one, one_only, one_differs, one_answered}

-- the pieces of a superblock's interval
module _ (g : Geometry) (j : List (Option JournalBlock)) (v : Superblock) (wf : WFSuperblock g v) (size : length j ≡ g.blocks) where
  -- each is readable where the whole interval is
  pub piece_full : (which : Bool) (u : JournalInterval) → full_range (cyclic_slice g j (interval v.journalStart v.journalLen)) ≡ true
      → journal_interval_of_superblock g which v ≡ some u → full_range (cyclic_slice g j u) ≡ true
  piece_full which u h e = go which e
    where
      front : List (Option JournalBlock)
      front = slice_of g j (journal_front_interval g v.journalStart v.journalLen)

      back : List (Option JournalBlock)
      back = slice_of g j (journal_back_interval g v.journalStart v.journalLen)

      all : also (full_range front) (full_range back) ≡ true
      all = sym (full_append front back) ∙ ap full_range (sym (front_back_slice g j size (interval v.journalStart v.journalLen) (spanned_valid g v wf))) ∙ h

      go : (which : Bool) → journal_interval_of_superblock g which v ≡ some u → full_range (cyclic_slice g j u) ≡ true
      go false e = ap (λ (o : Option JournalInterval). full_range (slice_of g j o)) (sym e) ∙ also_left (full_range front) (full_range back) all
      go true e = ap (λ (o : Option JournalInterval). full_range (slice_of g j o)) (sym e) ∙ also_right (full_range front) (full_range back) all

abbrev pub other_at : Superblock → Bool → Two (Option ReqId) → Two (Option JournalRange) → M.Variables
other_at v w reads pieces = M.Variables.LoadingOther (record { superblock = v; whichSuperblock = w; journalReads = reads; journal_pieces = pieces; sync_reqs = no_keys })

-- a piece is in only where the interval has it
abbrev pub Owned : Geometry → Superblock → Two (Option JournalRange) → Type 0
Owned g v pieces = (b : Bool) (jr : JournalRange) → at pieces b ≡ some jr → (u : JournalInterval) × (journal_interval_of_superblock g b v ≡ some u)

owned_put : (g : Geometry) (v : Superblock) (pieces : Two (Option JournalRange)) (which : Bool) (u : JournalInterval) (jr : JournalRange) → Owned g v pieces
    → journal_interval_of_superblock g which v ≡ some u → Owned g v (put pieces which (some jr))
owned_put g v pieces true u jr f e true x q = (u, e)
owned_put g v pieces true u jr f e false x q = f false x q
owned_put g v pieces false u jr f e true x q = f true x q
owned_put g v pieces false u jr f e false x q = (u, e)

-- the request's own place, and the other's
asked_one : (which : Bool) → one which ≡ put (put (both none) which (some 1)) (not which) (unless_is (at (both none) (not which)) 1)
asked_one true = refl
asked_one false = refl

module _ (g : Geometry) (C : Codec) (L : Limits) (room : Room L) (slots : Two (Option Superblock)) (j : List (Option JournalBlock)) (w : Bool) (v : Superblock)
    (selected : Slots g slots w v) (size : length j ≡ g.blocks) (sized : Sized j) (full : full_range (cyclic_slice g j (interval v.journalStart v.journalLen)) ≡ true) where
  wf : WFSuperblock g v
  wf = slots_wf_is g slots w v selected

  pub machine_other : (reads : Two (Option ReqId)) (pieces : Two (Option JournalRange)) → Owned g v pieces → Pieces g v pieces j
      → ((b : Bool) (id : ReqId) → at reads b ≡ some id → (at pieces b ≡ none) × ((u : JournalInterval) × (journal_interval_of_superblock g b v ≡ some u)))
      → ((id : ReqId) → at reads false ≡ some id → at reads true ≡ some id → ⊥)
      → MachineMeets g L (other_at v w reads pieces)
  machine_other reads pieces owned held asked differ =
      record {
        inv = record { superblock_wf = wf; read_interval = λ b id e. (asked b id e).1; piece_interval_is = owned };
        counts = record { sync_few = none_few L.sync_reqs };
        shape =
            record {
              reads_differ = differ;
              read_or_in = λ b id jr p q. none_some (asked b id p).0 q;
              piece_size = λ b jr u p q. sized_held g j size sized u (piece_contiguous g v wf b u q).valid jr (held b jr u p q);
            };
      }

  awaited_one : (which : Bool) (u : JournalInterval) (pieces : Two (Option JournalRange)) → journal_interval_of_superblock g which v ≡ some u
      → bind no_keys 1 u ≡ awaited_journal_reads g (other_at v w (one which) pieces)
  awaited_one true u pieces e = λ i. bind_read (some 1) (sym e i) no_keys
  awaited_one false u pieces e = λ i. bind_read (some 1) (sym e i) no_keys

  -- a piece is asked for and answered whole
  pub page_read : (which : Bool) (u : JournalInterval) (pieces : Two (Option JournalRange)) → journal_interval_of_superblock g which v ≡ some u → at pieces which ≡ none
      → Owned g v pieces → Pieces g v pieces j
      → Comes g C L (record { machine = other_at v w (both none) pieces; disk = resting slots j }) (piece_calls which (some u))
      (record { machine = other_at v w (both none) (put pieces which (some (disk_journal_range g j u))); disk = resting slots j })
  unfolding loads
  page_read which u pieces e unread owned held = by ask refl (by answer refl here)
    where
      in_place : ContiguousJournalInterval g u
      in_place = piece_contiguous g v wf which u e

      asked : Y.Variables
      asked = record { machine = other_at v w (one which) pieces; disk = reading (both empty_ids) (bind no_keys 1 u) slots j }

      none_superblocks : (b : Bool) → AtMost L.superblockReads (at (both empty_ids) b)
      none_superblocks b = subst (AtMost L.superblockReads) (sym (at_both empty_ids b)) (none_few L.superblockReads)

      ask : Takes g C L (record { machine = other_at v w (both none) pieces; disk = resting slots j }) asked (read_journal which 1)
      ask =
          record {
            event = MachineStep (ReqReadJournalOp 1 u) (Source (PageInJournalReqStep which));
            tied = tied_page;
            allowed =
                record {
                  meets =
                      record {
                        machine = machine_other (both none) pieces owned held (λ b id q. none_some (at_both none b) q) (λ id p q. none_some refl p);
                        disk = disk_meets g L slots j w v selected size sized (both empty_ids) no_keys none_superblocks (none_few L.journalReads) (λ id x q. none_some refl q);
                        joined = joined g L slots j w v selected size sized (both empty_ids) no_keys (other_at v w (both none) pieces) refl refl refl refl;
                      };
                  step =
                      record {
                        machine =
                            record {
                              id = 1;
                              interval = u;
                              op = refl;
                              start_in = wf.start_in;
                              len_in = wf.len_in;
                              interval_is = e;
                              no_read = at_both none which;
                              no_piece = unread;
                              next = λ i. other_at v w (asked_one which i) pieces;
                            };
                        disk = record { new = refl; contiguous = in_place; next = refl };
                      };
                };
          }

      answer : Takes g C L asked (record { machine = other_at v w (both none) (put pieces which (some (disk_journal_range g j u))); disk = resting slots j }) (journal_read 1 true)
      answer =
          record {
            event = MachineStep (RespReadJournalOp 1 (some (disk_journal_range g j u))) (Source (PageInJournalRespStep which));
            tied = tied_paged;
            allowed =
                record {
                  meets =
                      record {
                        machine =
                            machine_other (one which) pieces owned held
                            (λ b id q.
                            let b-is = one_only which b id q in
                            (ap (at pieces) b-is ∙ unread, (u, ap (λ (x : Bool). journal_interval_of_superblock g x v) b-is ∙ e)))
                            (one_differs which);
                        disk =
                            disk_meets g L slots j w v selected size sized (both empty_ids) (bind no_keys 1 u) none_superblocks
                            (subst (AtMost L.journalReads) (sym (keys_one 1 u)) (one_few L.journalReads 1 room.journal_read_is))
                            (values_bind (ContiguousJournalInterval g) no_keys 1 u (λ id x q. none_some refl q) in_place);
                        joined = joined g L slots j w v selected size sized (both empty_ids) (bind no_keys 1 u) (other_at v w (one which) pieces) refl (awaited_one which u pieces e) refl refl;
                      };
                  step =
                      record {
                        machine = (
                          which,
                          record {
                            id = 1;
                            jr = disk_journal_range g j u;
                            op = refl;
                            waiting = at_put (both none) which (some 1);
                            next = λ i. other_at v w (one_answered which i) (put pieces which (some (disk_journal_range g j u)));
                          },
                        );
                        disk =
                            record {
                              ind = u;
                              waiting = bind_here no_keys 1 u;
                              end_in = in_place.end_in;
                              start_in = in_place.valid.start_in;
                              readable = λ jr q. record { size = size; full = piece_full g j v wf size which u full e };
                              whole = λ jr q. some-injective jr (disk_journal_range g j u) (sym q);
                              next = λ i. reading (both empty_ids) (sym (bind_unbind 1 u) i) slots j;
                            };
                      };
                };
          }

  -- the piece is then what its interval holds
  pub page_held : (which : Bool) (u : JournalInterval) (pieces : Two (Option JournalRange)) → journal_interval_of_superblock g which v ≡ some u → Pieces g v pieces j
      → Pieces g v (put pieces which (some (disk_journal_range g j u))) j
  page_held which u pieces e held =
      pieces_put g v pieces j which (disk_journal_range g j u) held
      (λ x q. full_whole (cyclic_slice g j u) (piece_full g j v wf size which u full e) ∙ ap (cyclic_slice g j) (same_value e q))

  pub page_owned : (which : Bool) (u : JournalInterval) (pieces : Two (Option JournalRange)) → journal_interval_of_superblock g which v ≡ some u → Owned g v pieces
      → Owned g v (put pieces which (some (disk_journal_range g j u)))
  page_owned which u pieces e owned = owned_put g v pieces which u (disk_journal_range g j u) owned e
