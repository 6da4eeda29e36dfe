-- 000's invariant is kept at Ready: each of the machine's steps there leads from a state that meets `Inv` to one that does.
use Rattle.std.specs.Prelude.{ℕ, ◌+◌, ◌≤◌, ◌≡◌, refl, List, [], ◌∷◌, length}
use Rattle.std.proofs.Common.{sym, ◌∙◌, ap, subst, inl, inr, ⊎_elim, arith}
use Rattle.std.proofs.Math.Option.{none, some, some-injective}
use Rattle.laws.specs.Choice.{ruin, true_false, false_true}
use Rattle.layout.specs.declared.Geometry.{Geometry}
use Rattle.layout.specs.declared.Location.{Location}
use Rattle.layout.specs.Laws.{ValidIndirectionTableLocation, pos_add_wrap}
use Rattle.laws.specs.Ring.{wrap_in}
use Rattle.superblock.specs.declared.Superblock.{Superblock}
use Rattle.laws.specs.Sets.{Ids, Map, none_some, same_value}
use Rattle.codec.specs.Codec.{JournalEntry, JournalRange, Codec}
use Rattle.source.specs.JournalDisk.{ReqId, DiskOp}
use Rattle.source.specs.JournalCache
use Rattle.source.specs.JournalCache.{Variables, ReadyVariables, SyncReqStatus, CommitStatus, CommitNone, CommitAdvanceLog, CommitAdvanceLocation}
use Rattle.source.specs.JournalCache.{to_in_memory_journal, to_replay_journal, to_sync_reqs, if_none, committing, advanced_log, advanced_location}
use Rattle.source.specs.JournalCache.{InvAdvanceLog, InvAdvanceLocation, InvNewSuperblock, InvReady, Inv}

module _ (g : Geometry) where
  pub by_next : {s s' : Variables} → s' ≡ s → Inv g s → Inv g s'
  by_next e h = subst (Inv g) (sym e) h

  -- entries in memory, replay and sync requests play no part
  pub inv_rest : (s : ReadyVariables) (memory replay : List JournalEntry) (sync : Map SyncReqStatus) → InvReady g s → InvReady g (to_in_memory_journal memory (to_replay_journal replay (to_sync_reqs sync s)))
  inv_rest s memory replay sync h =
      record {
        write_new = h.write_new;
        write_commit = h.write_commit;
        written_in = h.written_in;
        len_written = h.len_written;
        if_frozen = λ e. let k = h.if_frozen e in record { position_in = k.position_in; len_written = k.len_written; position_written = k.position_written };
        if_received = λ loc e. let k = h.if_received loc e in record { loc_valid = k.loc_valid; frozen = k.frozen };
        superblock_wf = h.superblock_wf;
        if_advance_log = λ e.
            let k = h.if_advance_log e in
            record { new = k.new; new_is = k.new_is; new_loc = k.new_loc; new_start = k.new_start; new_len = k.new_len };
        if_advance_location = λ e.
            let k = h.if_advance_location e in
            record { frozen = k.frozen; received = k.received; new = k.new; new_is = k.new_is; new_start = k.new_start; new_len = k.new_len; new_end = k.new_end };
        if_new = λ new e.
            let k = h.if_new new e in
            record { all_written = k.all_written; new_loc = k.new_loc; commit = k.commit; new_wf = k.new_wf; new_counter = k.new_counter; none_frozen_is = k.none_frozen_is };
        if_some_frozen = λ f. let k = h.if_some_frozen f in record { position_is = k.position_is; frozen = k.frozen };
      }

  -- no commit is in flight: so no new superblock either
  module _ (s : ReadyVariables) (h : InvReady g s) where
    idle_new : {G : Type 0} → s.superblock_write ≡ none → (new : Superblock) → s.new_superblock ≡ some new → G
    idle_new e new q = none_some e (h.write_new.1 (new, q)).1

    idle_log : {G : Type 0} → s.superblock_write ≡ none → s.commit_status ≡ CommitAdvanceLog → G
    idle_log e q = let z = h.write_commit.0 e in ruin (cc)

    idle_location : {G : Type 0} → s.superblock_write ≡ none → s.commit_status ≡ CommitAdvanceLocation → G
    idle_location e q = let z = h.write_commit.0 e in ruin (cc)

  pub inv_freeze : (s : ReadyVariables) (s' : Variables) (dop : DiskOp) → InvReady g s → JournalCache.FreezeClauses s s' dop → Inv g s'
  inv_freeze s s' dop h k =
      by_next k.next
      (record {
        write_new = h.write_new;
        write_commit = h.write_commit;
        written_in = h.written_in;
        len_written = h.len_written;
        if_frozen = λ e. record { position_in = h.written_in; len_written = h.len_written; position_written = omega arith };
        if_received = λ loc e. none_some refl e;
        superblock_wf = h.superblock_wf;
        if_advance_log = λ e. idle_log s h k.no_write e;
        if_advance_location = λ e. idle_location s h k.no_write e;
        if_new = λ new e. idle_new s h k.no_write new e;
        if_some_frozen = λ f. record { position_is = refl; frozen = refl };
      })

  pub inv_receive : (s : ReadyVariables) (s' : Variables) (dop : DiskOp) (loc : Location) → InvReady g s → JournalCache.ReceiveFrozenLocClauses g s s' dop loc → Inv g s'
  inv_receive s s' dop loc h k =
      by_next k.next
      (record {
        write_new = h.write_new;
        write_commit = h.write_commit;
        written_in = h.written_in;
        len_written = h.len_written;
        if_frozen = λ e. let r = h.if_frozen e in record { position_in = r.position_in; len_written = r.len_written; position_written = r.position_written };
        if_received = λ x e. record { loc_valid = subst (ValidIndirectionTableLocation g) (some-injective loc x e) k.loc_valid; frozen = k.frozen };
        superblock_wf = h.superblock_wf;
        if_advance_log = λ e. let r = h.if_advance_log e in record { new = r.new; new_is = r.new_is; new_loc = r.new_loc; new_start = r.new_start; new_len = r.new_len };
        if_advance_location = λ e. none_some k.none_received (h.if_advance_location e).received.1;
        if_new = λ new e.
            let r = h.if_new new e in
            record {
              all_written = r.all_written;
              new_loc = ⊎_elim inl (λ q. none_some k.none_received q) r.new_loc;
              commit = r.commit;
              new_wf = r.new_wf;
              new_counter = r.new_counter;
              none_frozen_is = r.none_frozen_is;
            };
        if_some_frozen = λ f. let r = h.if_some_frozen f in record { position_is = r.position_is; frozen = r.frozen };
      })

  pub inv_write : (C : Codec) (s : ReadyVariables) (s' : Variables) (dop : DiskOp) (jr : JournalRange) → InvReady g s → JournalCache.WriteBackJournalReqClauses g C s s' dop jr → Inv g s'
  inv_write C s s' dop jr h k =
      by_next k.next
      (record {
        write_new = h.write_new;
        write_commit = h.write_commit;
        written_in = omega (arith, k.fits);
        len_written = omega (arith, h.len_written);
        if_frozen = λ e.
            let r = h.if_frozen e in
            record {
              position_in = within s.in_memory_journal_frozen r.position_in (omega (arith, k.fits));
              len_written = omega (arith, h.len_written);
              position_written = within s.in_memory_journal_frozen (omega (arith, r.position_written)) (omega arith);
            };
        if_received = λ x e. let r = h.if_received x e in record { loc_valid = r.loc_valid; frozen = r.frozen };
        superblock_wf = h.superblock_wf;
        if_advance_log = λ e. idle_log s h k.no_write e;
        if_advance_location = λ e. idle_location s h k.no_write e;
        if_new = λ new e. idle_new s h k.no_write new e;
        if_some_frozen = λ f. absurd (f refl);
      })
    where
      within : {m : ℕ} (es : List JournalEntry) → s.frozenJournalPosition ≤ m → s.writtenJournalLen + length jr ≤ m
          → if_none es s.frozenJournalPosition (s.writtenJournalLen + length jr) ≤ m
      within [] p q = p
      within (e ∷ es) p q = q

  pub inv_write_resp : (s : ReadyVariables) (s' : Variables) (dop : DiskOp) → InvReady g s → JournalCache.WriteBackJournalRespClauses s s' dop → Inv g s'
  inv_write_resp s s' dop h k =
      by_next k.next
      (record {
        write_new = h.write_new;
        write_commit = h.write_commit;
        written_in = h.written_in;
        len_written = h.len_written;
        if_frozen = λ e. let r = h.if_frozen e in record { position_in = r.position_in; len_written = r.len_written; position_written = r.position_written };
        if_received = λ x e. let r = h.if_received x e in record { loc_valid = r.loc_valid; frozen = r.frozen };
        superblock_wf = h.superblock_wf;
        if_advance_log = λ e. let r = h.if_advance_log e in record { new = r.new; new_is = r.new_is; new_loc = r.new_loc; new_start = r.new_start; new_len = r.new_len };
        if_advance_location = λ e.
            let r = h.if_advance_location e in
            record { frozen = r.frozen; received = r.received; new = r.new; new_is = r.new_is; new_start = r.new_start; new_len = r.new_len; new_end = r.new_end };
        if_new = λ new e. true_false (sym k.waiting ∙ ap (λ (x : Ids). x k.id) (h.if_new new e).all_written);
        if_some_frozen = λ f. let r = h.if_some_frozen f in record { position_is = r.position_is; frozen = r.frozen };
      })

  -- a request: the three fields of a commit are set together
  module _ (s : ReadyVariables) (h : InvReady g s) (id : ReqId) (new : Superblock) (c : CommitStatus) (busy : c ≡ CommitNone → ⊥) where
    abbrev asked : ReadyVariables
    asked = committing c id new s

    inv_asked : (c ≡ CommitAdvanceLog → InvAdvanceLog asked) → (c ≡ CommitAdvanceLocation → InvAdvanceLocation g asked) → InvNewSuperblock g asked new → InvReady g asked
    inv_asked log location made =
        record {
          write_new = (λ p. (new, refl), λ p. (id, refl));
          write_commit = (λ e. none_some e refl, λ e. absurd (busy e));
          written_in = h.written_in;
          len_written = h.len_written;
          if_frozen = λ e. let r = h.if_frozen e in record { position_in = r.position_in; len_written = r.len_written; position_written = r.position_written };
          if_received = λ x e. let r = h.if_received x e in record { loc_valid = r.loc_valid; frozen = r.frozen };
          superblock_wf = h.superblock_wf;
          if_advance_log = log;
          if_advance_location = location;
          if_new = λ x e. subst (InvNewSuperblock g asked) (some-injective new x e) made;
          if_some_frozen = λ f. let r = h.if_some_frozen f in record { position_is = r.position_is; frozen = r.frozen };
        }

  pub inv_commit_log : (s : ReadyVariables) (s' : Variables) (dop : DiskOp) → InvReady g s → JournalCache.WriteBackSuperblockReq-AdvanceLogClauses g s s' dop → Inv g s'
  inv_commit_log s s' dop h k =
      by_next k.next
      (inv_asked s h k.id (advanced_log s) CommitAdvanceLog (λ e. ruin (cc))
      (λ e. record { new = advanced_log s; new_is = refl; new_loc = refl; new_start = refl; new_len = refl })
      (λ e. ruin (cc))
      (record {
        all_written = k.all_written;
        new_loc = inl refl;
        commit = inl refl;
        new_wf = record { start_in = h.superblock_wf.start_in; len_in = k.written_in; table_valid = h.superblock_wf.table_valid };
        new_counter = refl;
        none_frozen_is = k.none_frozen_is;
      }))

  pub inv_commit_location : (s : ReadyVariables) (s' : Variables) (dop : DiskOp) → InvReady g s → JournalCache.WriteBackSuperblockReq-AdvanceLocationClauses g s s' dop → Inv g s'
  inv_commit_location s s' dop h k =
      by_next k.next
      (inv_asked s h k.id (advanced_location g s k.loc) CommitAdvanceLocation (λ e. ruin (cc))
      (λ e. ruin (cc))
      (λ e.
      record {
        frozen = (h.if_received k.loc k.received).frozen;
        received = (k.loc, k.received);
        new = advanced_location g s k.loc;
        new_is = refl;
        new_start = refl;
        new_len = refl;
        new_end = omega (arith, k.position_in);
      })
      (record {
        all_written = k.all_written;
        new_loc = inr k.received;
        commit = inr refl;
        new_wf =
            record {
              start_in = rw (pos_add_wrap g s.superblock.journalStart s.frozenJournalPosition) (wrap_in g.blocks (s.superblock.journalStart + s.frozenJournalPosition) (omega (arith, k.start_in, k.position_in, k.written_in)));
              len_in = omega (arith, k.written_in);
              table_valid = (h.if_received k.loc k.received).loc_valid;
            };
        new_counter = refl;
        none_frozen_is = k.none_frozen_is;
      }))

  pub inv_commit_resp : (s : ReadyVariables) (s' : Variables) (dop : DiskOp) → InvReady g s → JournalCache.WriteBackSuperblockRespClauses s s' dop → Inv g s'
  inv_commit_resp s s' dop h k = ⊎_elim log location made.commit
    where
      made : InvNewSuperblock g s k.new
      made = h.if_new k.new k.new_is

      log : s.commit_status ≡ CommitAdvanceLog → Inv g s'
      log e =
          by_next (k.advance_log_is e)
          (record {
            write_new = (λ p. none_some refl p.1, λ p. none_some refl p.1);
            write_commit = (λ q. refl, λ q. refl);
            written_in = h.written_in;
            len_written = len;
            if_frozen = λ q. let r = h.if_frozen q in record { position_in = r.position_in; len_written = len; position_written = r.position_written };
            if_received = λ x q. let r = h.if_received x q in record { loc_valid = r.loc_valid; frozen = r.frozen };
            superblock_wf = made.new_wf;
            if_advance_log = λ q. ruin (cc);
            if_advance_location = λ q. ruin (cc);
            if_new = λ x q. none_some refl q;
            if_some_frozen = λ f. absurd (f made.none_frozen_is);
          })
        where
          a : InvAdvanceLog s
          a = h.if_advance_log e

          len : k.new.journalLen ≤ s.writtenJournalLen
          len = omega (arith, a.new_len, ap (λ (v : Superblock). v.journalLen) (same_value k.new_is a.new_is))

      location : s.commit_status ≡ CommitAdvanceLocation → Inv g s'
      location e =
          by_next (k.advance_location_is e)
          (record {
            write_new = (λ p. none_some refl p.1, λ p. none_some refl p.1);
            write_commit = (λ q. refl, λ q. refl);
            written_in = omega (arith, h.written_in);
            len_written = omega (arith, a.new_len, ap (λ (v : Superblock). v.journalLen) (same_value k.new_is a.new_is));
            if_frozen = λ q. false_true q;
            if_received = λ x q. none_some refl q;
            superblock_wf = made.new_wf;
            if_advance_log = λ q. ruin (cc);
            if_advance_location = λ q. ruin (cc);
            if_new = λ x q. none_some refl q;
            if_some_frozen = λ f. absurd (f made.none_frozen_is);
          })
        where
          a : InvAdvanceLocation g s
          a = h.if_advance_location e
