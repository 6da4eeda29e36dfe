-- Each step but the journal write keeps a store neat.
use Rattle.std.specs.Prelude.{ℕ, Bool, true, false, not, ◌≡◌, refl, List}
use Rattle.std.proofs.Common.{sym, ◌∙◌, ap, subst, subst₂}
use Rattle.std.proofs.Math.Option.{none, some}
use Rattle.layout.specs.declared.Geometry.{Geometry}
use Rattle.layout.specs.declared.Location.{Location}
use Rattle.interval.specs.declared.JournalInterval.{JournalInterval}
use Rattle.laws.specs.Sets.{Ids, empty_ids, leave, Map, no_keys, bind, unbind, both, at, put, none_some}
use Rattle.laws.specs.Maps.{values_unbind, no_keys_some, none_if}
use Rattle.codec.specs.Codec.{JournalEntry, JournalRange, Codec}
use Rattle.source.specs.JournalDisk as D
use Rattle.source.specs.JournalDisk.{ReqId, DiskOp}
use Rattle.source.specs.JournalCache as M
use Rattle.source.specs.JournalCache.{journal_interval_of_superblock}
use Rattle.source.specs.Limits.{Limits}
use Rattle.source.specs.Meets.{SystemMeets, awaited_journal_reads, one_id, bind_read}
use Rattle.source.specs.Departures.{FinishLoadingOtherPhase⁺, idle_sync, CommitReq⁺, NoOp⁺, Awaited, DamagedJournal, AskAgain}
use Rattle.history.specs.Ledger.{Kept, Ledger}
use Rattle.history.proofs.Simulation.Relation.{kept_interval, Flight, flight_of, Phase, quiet, waits, done, Sim}
use Rattle.history.proofs.Simulation.Commits.{none_there}
use Rattle.history.proofs.Simulation.Steps.{reads_stand}
use Rattle.history.proofs.Reach.Neat.{written_len, Piece, Neat}
use Rattle.source.proofs.Laws.Awaited.{page_asked, page_answered, slot_asked, slot_answered, slot_waits, page_waits}
use Rattle.history.proofs.Reach.NeatWrites.{lone_unbind}

module _ (g : Geometry) (C : Codec) where
  pub by_neat : (m m' : M.Variables) (d d' : D.Variables) (k : Kept) → m' ≡ m → d' ≡ d → Neat g C m d k → Neat g C m' d' k
  by_neat m m' d d' k e f n = subst₂ (λ (x : M.Variables) (y : D.Variables). Neat g C x y k) (sym e) (sym f) n

  -- a machine at Ready with no write in flight, whatever is kept
  pub neat_idle : (m : M.Variables) (d : D.Variables) (k : Kept) → M.IsReady m (λ s. Unit {0}) → d.req_read_superblocks ≡ both empty_ids → d.req_read_journals ≡ no_keys → d.req_write_journals ≡ no_keys → Neat g C m d k
  neat_idle (M.Variables.Ready s) d k h p q r =
      record {
        reads = p;
        pages = q;
        pieces = λ id v e. no_keys_some d.req_write_journals id v r e;
        apart = λ id1 id2 v1 v2 e f o. no_keys_some d.req_write_journals id1 v1 r e;
      }
  neat_idle (M.Variables.LoadingOther s) d k h p q r = absurd h
  neat_idle (M.Variables.LoadingSuperblock s) d k h p q r = absurd h

  -- the statement for a machine step that leaves what is kept
  abbrev pub Keeping : (M.Variables → M.Variables → DiskOp → Type 0) → Type 0
  Keeping R = (m m' : M.Variables) (d d' : D.Variables) (k : Kept) (dop : DiskOp) → Neat g C m d k → R m m' dop → D.Next g d d' dop → Neat g C m' d' k

  pub neat_superblock_req : (which : Bool) → Keeping (λ m m' dop. M.PageInSuperblockReq m m' dop which)
  neat_superblock_req which (M.Variables.LoadingSuperblock s) m' d d' k dop n h hd =
      by_neat _ m' _ d' k h.next (subst (D.Next g d d') h.op hd).next
      (record { reads = slot_asked s.outstanding_superblock_reads d.req_read_superblocks n.reads h.id which h.no_read; pages = n.pages; pieces = n.pieces; apart = n.apart })
  neat_superblock_req which (M.Variables.LoadingOther s) m' d d' k dop n h hd = absurd h
  neat_superblock_req which (M.Variables.Ready s) m' d d' k dop n h hd = absurd h

  pub neat_superblock_resp : (which : Bool) → Keeping (λ m m' dop. M.PageInSuperblockResp g m m' dop which)
  neat_superblock_resp which (M.Variables.LoadingSuperblock s) m' d d' k dop n h hd =
      by_neat _ m' _ d' k h.next (subst (D.Next g d d') h.op hd).next
      (record { reads = slot_answered s.outstanding_superblock_reads d.req_read_superblocks n.reads h.id which h.waiting; pages = n.pages; pieces = n.pieces; apart = n.apart })
  neat_superblock_resp which (M.Variables.LoadingOther s) m' d d' k dop n h hd = absurd h
  neat_superblock_resp which (M.Variables.Ready s) m' d d' k dop n h hd = absurd h

  pub neat_ask_again : (which : Bool) → Keeping (λ m m' dop. AskAgain m m' dop which)
  neat_ask_again which (M.Variables.LoadingSuperblock s) m' d d' k dop n h hd =
      by_neat _ m' _ d' k h.next (subst (D.Next g d d') h.op hd).next (record { reads = n.reads; pages = n.pages; pieces = n.pieces; apart = n.apart })
  neat_ask_again which (M.Variables.LoadingOther s) m' d d' k dop n h hd = absurd h
  neat_ask_again which (M.Variables.Ready s) m' d d' k dop n h hd = absurd h

  -- both slots were read, so no read of one is awaited
  pub neat_finish_superblocks : (m m' : M.Variables) (d d' : D.Variables) (k : Kept) (dop : DiskOp) → M.Inv g m → Neat g C m d k → M.FinishLoadingSuperblockPhase m m' dop → D.Next g d d' dop → Neat g C m' d' k
  neat_finish_superblocks (M.Variables.LoadingSuperblock s) m' d d' k dop inv n h hd =
      by_neat _ m' _ d' k h.next (subst (D.Next g d d') h.op hd).next
      (record {
        reads = n.reads ∙ (λ i. record { first = one_id (inv.success_read false h.superblock1 h.success1 i); second = one_id (inv.success_read true h.superblock2 h.success2 i) });
        pages = n.pages;
        pieces = n.pieces;
        apart = n.apart;
      })
  neat_finish_superblocks (M.Variables.LoadingOther s) m' d d' k dop inv n h hd = absurd h
  neat_finish_superblocks (M.Variables.Ready s) m' d d' k dop inv n h hd = absurd h

  pub neat_journal_req : (L : Limits) (which : Bool) (m m' : M.Variables) (d d' : D.Variables) (k : Kept) (dop : DiskOp) → SystemMeets g L (record { machine = m; disk = d }) → Neat g C m d k
      → M.PageInJournalReq g m m' dop which → D.Next g d d' dop → Neat g C m' d' k
  neat_journal_req L which (M.Variables.LoadingSuperblock s) m' d d' k dop a n h hd = absurd h
  neat_journal_req L which (M.Variables.LoadingOther s) m' d d' k dop a n h hd =
      by_neat _ m' _ d' k h.next r.next
      (record {
        reads = n.reads;
        pages =
            ap (λ (x : Map JournalInterval). bind x h.id h.interval) n.pages
            ∙ page_asked s.journalReads (λ b. journal_interval_of_superblock g b s.superblock) h.id h.interval which h.no_read h.interval_is other;
        pieces = n.pieces;
        apart = n.apart;
      })
    where
      r : D.RecvReadJournal g d d' h.id h.interval
      r = subst (D.Next g d d') h.op hd

      other : at s.journalReads (not which) ≡ some h.id → ⊥
      other e =
          let v = a.machine.inv.read_interval (not which) h.id e in
          none_some r.new (reads_stand g L (M.Variables.LoadingOther s) d a (not which) h.id v.0 e v.1)
  neat_journal_req L which (M.Variables.Ready s) m' d d' k dop a n h hd = absurd h

  -- a journal read that is answered or cleared
  page_off : (L : Limits) (s : M.LoadingOtherVariables) (d : D.Variables) (k : Kept) → SystemMeets g L (record { machine = M.Variables.LoadingOther s; disk = d })
      → Neat g C (M.Variables.LoadingOther s) d k → (which : Bool) (id : ReqId) → at s.journalReads which ≡ some id
      → unbind d.req_read_journals id ≡ awaited_journal_reads g (M.Variables.LoadingOther (M.to_journal_reads (put s.journalReads which none) s))
  page_off L s d k a n which id e =
      let v = a.machine.inv.read_interval which id e in
      ap (λ (x : Map JournalInterval). unbind x id) n.pages
      ∙ page_answered s.journalReads (λ b. journal_interval_of_superblock g b s.superblock) id v.0 which e v.1 (other which e)
    where
      other : (which : Bool) → at s.journalReads which ≡ some id → at s.journalReads (not which) ≡ some id → ⊥
      other false p q = a.machine.shape.reads_differ id p q
      other true p q = a.machine.shape.reads_differ id q p

  pub neat_journal_resp : (L : Limits) (which : Bool) (m m' : M.Variables) (d d' : D.Variables) (k : Kept) (dop : DiskOp) → SystemMeets g L (record { machine = m; disk = d }) → Neat g C m d k
      → M.PageInJournalResp m m' dop which → D.Next g d d' dop → Neat g C m' d' k
  neat_journal_resp L which (M.Variables.LoadingSuperblock s) m' d d' k dop a n h hd = absurd h
  neat_journal_resp L which (M.Variables.LoadingOther s) m' d d' k dop a n h hd =
      by_neat _ m' _ d' k h.next (subst (D.Next g d d') h.op hd).next
      (record { reads = n.reads; pages = page_off L s d k a n which h.id h.waiting; pieces = n.pieces; apart = n.apart })
  neat_journal_resp L which (M.Variables.Ready s) m' d d' k dop a n h hd = absurd h

  pub neat_damaged : (L : Limits) (m m' : M.Variables) (d d' : D.Variables) (k : Kept) (dop : DiskOp) → SystemMeets g L (record { machine = m; disk = d }) → Neat g C m d k → DamagedJournal m m' dop
      → D.Next g d d' dop → Neat g C m' d' k
  neat_damaged L (M.Variables.LoadingSuperblock s) m' d d' k dop a n h hd = absurd h
  neat_damaged L (M.Variables.LoadingOther s) m' d d' k dop a n h hd =
      by_neat _ m' _ d' k h.next (subst (D.Next g d d') h.op hd).next
      (record { reads = n.reads; pages = page_off L s d k a n h.which h.id h.waiting; pieces = n.pieces; apart = n.apart })
  neat_damaged L (M.Variables.Ready s) m' d d' k dop a n h hd = absurd h

  -- every piece that there is is in, so no read of one is awaited
  pub neat_finish_other : (L : Limits) (p : ℕ) (m m' : M.Variables) (d d' : D.Variables) (l : Ledger) (k : Kept) (dop : DiskOp) → Sim g C p m d l → SystemMeets g L (record { machine = m; disk = d })
      → Neat g C m d k → FinishLoadingOtherPhase⁺ g C m m' dop → D.Next g d d' dop → Neat g C m' d' k
  neat_finish_other L p (M.Variables.LoadingSuperblock s) m' d d' l k dop z a n h hd = absurd h.source
  neat_finish_other L p (M.Variables.LoadingOther s) (M.Variables.LoadingSuperblock s') d d' l k dop z a n h hd = absurd h.position_is
  neat_finish_other L p (M.Variables.LoadingOther s) (M.Variables.LoadingOther s') d d' l k dop z a n h hd = absurd h.position_is
  neat_finish_other L p (M.Variables.LoadingOther s) (M.Variables.Ready s') d d' l k dop z a n h hd =
      by_neat _ (M.Variables.Ready s') _ d' k refl (subst (D.Next g d d') h.source.op hd).next
      (neat_idle (M.Variables.Ready s') d k tt n.reads
      (n.pages ∙ (λ i. bind_read (none_of false i) (journal_interval_of_superblock g false s.superblock) (bind_read (none_of true i) (journal_interval_of_superblock g true s.superblock) no_keys)))
      z.runs.0.none_writing)
    where
      in_place : (b : Bool) (v : JournalInterval) → journal_interval_of_superblock g b s.superblock ≡ some v → (jr : JournalRange) × (at s.journal_pieces b ≡ some jr)
      in_place false v e = h.source.front_in_is v e
      in_place true v e = h.source.back_in_is v e

      none_of : (b : Bool) → at s.journalReads b ≡ none
      none_of b =
          none_if (at s.journalReads b)
          (λ id e.
          let v = a.machine.inv.read_interval b id e in
          let jr = in_place b v.0 v.1 in
          a.machine.shape.read_or_in b id jr.0 e jr.1)
  neat_finish_other L p (M.Variables.Ready s) m' d d' l k dop z a n h hd = absurd h.source

  -- sync requests and replay
  pub neat_sync : (m : M.Variables) (d : D.Variables) (k : Kept) (t : Map M.SyncReqStatus) → Neat g C m d k → Neat g C (M.with_sync_reqs t m) d k
  neat_sync (M.Variables.LoadingSuperblock s) d k t n = record { reads = n.reads; pages = n.pages; pieces = n.pieces; apart = n.apart }
  neat_sync (M.Variables.LoadingOther s) d k t n = record { reads = n.reads; pages = n.pages; pieces = n.pieces; apart = n.apart }
  neat_sync (M.Variables.Ready s) d k t n = record { reads = n.reads; pages = n.pages; pieces = n.pieces; apart = n.apart }

  pub neat_push : (id : ℕ) → Keeping (λ m m' dop. M.PushSyncReq m m' dop id)
  neat_push id m m' d d' k dop n h hd = by_neat _ m' _ d' k h.next (subst (D.Next g d d') h.op hd).next (neat_sync m d k (bind (M.sync_reqs_of m) id M.SyncReqStatus.State3) n)

  pub neat_pop : (id : ℕ) → Keeping (λ m m' dop. M.PopSyncReq m m' dop id)
  neat_pop id m m' d d' k dop n h hd = by_neat _ m' _ d' k h.next (subst (D.Next g d d') h.op hd).next (neat_sync m d k (unbind (M.sync_reqs_of m) id) n)

  pub neat_replay : (es : List JournalEntry) → Keeping (λ m m' dop. M.Replay m m' dop es)
  neat_replay es (M.Variables.LoadingSuperblock s) m' d d' k dop n h hd = absurd h
  neat_replay es (M.Variables.LoadingOther s) m' d d' k dop n h hd = absurd h
  neat_replay es (M.Variables.Ready s) (M.Variables.LoadingSuperblock s') d d' k dop n h hd = absurd h
  neat_replay es (M.Variables.Ready s) (M.Variables.LoadingOther s') d d' k dop n h hd = absurd h
  neat_replay es (M.Variables.Ready s) (M.Variables.Ready s') d d' k dop n h hd =
      by_neat _ (M.Variables.Ready s') _ d' k (ap M.Variables.Ready h.next) (subst (D.Next g d d') h.op hd).next
      (record { reads = n.reads; pages = n.pages; pieces = n.pieces; apart = n.apart })

  pub neat_add : (es : List JournalEntry) → Keeping (λ m m' dop. M.Advance m m' dop es)
  neat_add es (M.Variables.LoadingSuperblock s) m' d d' k dop n h hd = absurd h
  neat_add es (M.Variables.LoadingOther s) m' d d' k dop n h hd = absurd h
  neat_add es (M.Variables.Ready s) m' d d' k dop n h hd =
      by_neat _ m' _ d' k h.next (subst (D.Next g d d') h.op hd).next (record { reads = n.reads; pages = n.pages; pieces = n.pieces; apart = n.apart })

  pub neat_freeze : Keeping M.Freeze
  neat_freeze (M.Variables.LoadingSuperblock s) m' d d' k dop n h hd = absurd h
  neat_freeze (M.Variables.LoadingOther s) m' d d' k dop n h hd = absurd h
  neat_freeze (M.Variables.Ready s) m' d d' k dop n h hd =
      by_neat _ m' _ d' k h.next (subst (D.Next g d d') h.op hd).next (record { reads = n.reads; pages = n.pages; pieces = n.pieces; apart = n.apart })

  pub neat_receive : (loc : Location) → Keeping (λ m m' dop. M.ReceiveFrozenLoc g m m' dop loc)
  neat_receive loc (M.Variables.LoadingSuperblock s) m' d d' k dop n h hd = absurd h
  neat_receive loc (M.Variables.LoadingOther s) m' d d' k dop n h hd = absurd h
  neat_receive loc (M.Variables.Ready s) m' d d' k dop n h hd =
      by_neat _ m' _ d' k h.next (subst (D.Next g d d') h.op hd).next (record { reads = n.reads; pages = n.pages; pieces = n.pieces; apart = n.apart })

  pub neat_commit_log : Keeping (M.WriteBackSuperblockReqAdvanceLog g)
  neat_commit_log (M.Variables.LoadingSuperblock s) m' d d' k dop n h hd = absurd h
  neat_commit_log (M.Variables.LoadingOther s) m' d d' k dop n h hd = absurd h
  neat_commit_log (M.Variables.Ready s) m' d d' k dop n h hd =
      by_neat _ m' _ d' k h.next (subst (D.Next g d d') h.op hd).next (record { reads = n.reads; pages = n.pages; pieces = n.pieces; apart = n.apart })

  pub neat_commit_location : Keeping (M.WriteBackSuperblockReqAdvanceLocation g)
  neat_commit_location (M.Variables.LoadingSuperblock s) m' d d' k dop n h hd = absurd h
  neat_commit_location (M.Variables.LoadingOther s) m' d d' k dop n h hd = absurd h
  neat_commit_location (M.Variables.Ready s) m' d d' k dop n h hd =
      by_neat _ m' _ d' k h.next (subst (D.Next g d d') h.op hd).next (record { reads = n.reads; pages = n.pages; pieces = n.pieces; apart = n.apart })

  -- and with the sync requests as the departure has them
  pub neat_synced : (R : M.Variables → M.Variables → DiskOp → Type 0) → Keeping R → Keeping (CommitReq⁺ R)
  neat_synced R f m m' d d' k dop n h hd = by_neat _ m' d' d' k h.next refl (neat_sync h.asked d' k (idle_sync m) (f m h.asked d d' k dop n h.source hd))

  -- a write in flight is answered
  pub neat_write_off : (s : M.ReadyVariables) (d : D.Variables) (k : Kept) (id : ReqId) (ids : Ids) → Neat g C (M.Variables.Ready s) d k
      → Neat g C (M.Variables.Ready (M.to_outstanding_journal_writes ids s)) (D.to_req_write_journals (unbind d.req_write_journals id) d) k
  neat_write_off s d k id ids n =
      record {
        reads = n.reads;
        pages = n.pages;
        pieces = values_unbind (Piece g (kept_interval C k) s.writtenJournalLen) d.req_write_journals id n.pieces;
        apart = lone_unbind d.req_write_journals id n.apart;
      }

  pub neat_write_resp : Keeping M.WriteBackJournalResp
  neat_write_resp (M.Variables.LoadingSuperblock s) m' d d' k dop n h hd = absurd h
  neat_write_resp (M.Variables.LoadingOther s) m' d d' k dop n h hd = absurd h
  neat_write_resp (M.Variables.Ready s) m' d d' k dop n h hd =
      by_neat _ m' _ d' k h.next (subst (D.Next g d d') h.op hd).next (neat_write_off s d k h.id (leave s.outstanding_journal_writes h.id) n)

  -- a commit in flight goes with no journal write
  busy_none : (p : ℕ) (s : M.ReadyVariables) (d : D.Variables) (l : Ledger) (z : Sim g C p (M.Variables.Ready s) d l) (id : ReqId) → s.superblock_write ≡ some id → d.req_write_journals ≡ no_keys
  busy_none p s d l z id e = go z.runs.phase
    where
      go : Phase g C (flight_of s) s.superblock s.whichSuperblock s.writtenJournalLen s.frozenJournalPosition d.req_write_superblocks d.req_write_journals d.journal
          l.request l.kept l.draft.before l.draft.after z.slot → d.req_write_journals ≡ no_keys
      go (quiet q st) = none_some (ap (λ (f : Flight). f.superblock_write) q.flight_is) e
      go (waits a st) = a.none_writing
      go (done a) = a.none_writing

  pub neat_commit_resp : (p : ℕ) (m m' : M.Variables) (d d' : D.Variables) (l : Ledger) (k : Kept) (dop : DiskOp) → Sim g C p m d l → Neat g C m d k → M.WriteBackSuperblockResp m m' dop → D.Next g d d' dop
      → Neat g C m' d' k
  neat_commit_resp p (M.Variables.LoadingSuperblock s) m' d d' l k dop z n h hd = absurd h
  neat_commit_resp p (M.Variables.LoadingOther s) m' d d' l k dop z n h hd = absurd h
  neat_commit_resp p (M.Variables.Ready s) m' d d' l k dop z n h hd =
      by_neat _ m' _ d' k refl (subst (D.Next g d d') h.op hd).next
      (neat_idle m' (D.to_req_write_superblocks (put d.req_write_superblocks h.which none) d) k h.still_ready n.reads n.pages (busy_none p s d l z h.id (sym h.waiting)))

  -- a landing: no journal write is in flight either
  pub neat_land : (p : ℕ) (which : Bool) (m m' : M.Variables) (d d' : D.Variables) (l : Ledger) (k k' : Kept) → Sim g C p m d l → Neat g C m d k → m ≡ m' → D.ProcessWriteSuperblock d d' which → Neat g C m' d' k'
  neat_land p which (M.Variables.LoadingSuperblock s) m' d d' l k k' z n e h = none_there d.req_write_superblocks which h.write z.runs.0.writes_are h.waiting
  neat_land p which (M.Variables.LoadingOther s) m' d d' l k k' z n e h = none_there d.req_write_superblocks which h.write z.runs.0.writes_are h.waiting
  neat_land p which (M.Variables.Ready s) m' d d' l k k' z n e h =
      by_neat (M.Variables.Ready s) m' _ d' k' (sym e) h.next
      (neat_idle (M.Variables.Ready s) (D.to_superblocks (put d.superblocks which (some h.write.req.superblock)) d) k' tt n.reads n.pages (go z.runs.phase))
    where
      go : Phase g C (flight_of s) s.superblock s.whichSuperblock s.writtenJournalLen s.frozenJournalPosition d.req_write_superblocks d.req_write_journals d.journal
          l.request l.kept l.draft.before l.draft.after z.slot → d.req_write_journals ≡ no_keys
      go (quiet q st) = none_there d.req_write_superblocks which h.write q.writes_are h.waiting
      go (waits a st) = a.none_writing
      go (done a) = a.none_writing

  -- only an answer that is not there is awaited by nobody
  pub neat_no_op : (m m' : M.Variables) (d d' : D.Variables) (k : Kept) (dop : DiskOp) (p : ℕ) (l : Ledger) → Sim g C p m d l → Neat g C m d k → NoOp⁺ m m' dop → D.Next g d d' dop → Neat g C m' d' k
  neat_no_op m m' d d' k dop p l z n h hd = by_neat m m' d' d' k h.source.next refl (go h.source.op)
    where
      go : M.NoOpOp m dop → Neat g C m d' k
      go (M.NoOpOp.no_op_is e) = by_neat m m d d' k refl (subst (D.Next g d d') e hd).next n
      go (M.NoOpOp.superblock_read_op id which superblock e) =
          absurd (subst (λ (o : DiskOp). Awaited m o → ⊥) e h.unawaited (slot_waits m d.req_read_superblocks n.reads id which superblock (subst (D.Next g d d') e hd).waiting))
      go (M.NoOpOp.journal_read_is id journal e) =
          let r = subst (D.Next g d d') e hd in
          absurd (subst (λ (o : DiskOp). Awaited m o → ⊥) e h.unawaited (page_waits g m d.req_read_journals n.pages id r.ind journal r.waiting))
      go (M.NoOpOp.superblock_written_is id which e f) =
          by_neat m m _ d' k refl (subst (D.Next g d d') e hd).next (record { reads = n.reads; pages = n.pages; pieces = n.pieces; apart = n.apart })
      go (M.NoOpOp.journal_written_is id e f) =
          by_neat m m _ d' k refl (subst (D.Next g d d') e hd).next
          (record {
            reads = n.reads;
            pages = n.pages;
            pieces = values_unbind (Piece g (kept_interval C k) (written_len m)) d.req_write_journals id n.pieces;
            apart = lone_unbind d.req_write_journals id n.apart;
          })
