-- The relation through the answer to a commit, through answers that nobody awaits, a damaged journal answer, ask again, and the crash.
use Rattle.std.specs.Prelude.{ℕ, ◌-◌, Bool, true, false, not, ◌≡◌, refl, List, ◌++◌}
use Rattle.std.proofs.Common.{sym, ◌∙◌, ap, subst, arith}
use Rattle.std.proofs.Math.Option.{Option, none, some}
use Rattle.laws.specs.Choice.{ruin}
use Rattle.laws.specs.Fold.{Each}
use Rattle.layout.specs.declared.Geometry.{Geometry}
use Rattle.interval.specs.declared.JournalInterval.{JournalInterval}
use Rattle.interval.specs.Interval.{interval}
use Rattle.superblock.specs.declared.Superblock.{Superblock}
use Rattle.superblock.specs.Laws.{WFSuperblock}
use Rattle.laws.specs.Sets.{Ids, is_key, Map, Two, both, at, put, none_some, same_value}
use Rattle.laws.specs.Maps.{no_keys_some}
use Rattle.codec.specs.Codec.{Codec}
use Rattle.source.specs.JournalDisk as D
use Rattle.source.specs.JournalDisk.{ReqId, ReqWriteSuperblockId, DiskOp}
use Rattle.source.specs.JournalCache as M
use Rattle.source.specs.JournalCache.{SuperblockUnfinished, SuperblockSuccess}
use Rattle.source.specs.Departures.{DamagedJournal, AskAgain}
use Rattle.history.specs.Ledger.{Range, blocks, Kept, Commit, log, location, Ledger, fresh}
use Rattle.codec.specs.Ranges.{Good, codes, length_codes, blocks_none}
use Rattle.history.proofs.Journal.Holds.{Holds, Apart, holds_crashed}
use Rattle.history.proofs.Journal.Slots.{Slots, slots_wf_is, slots_not_yet}
use Rattle.history.proofs.Simulation.Relation.{super_of, OnDisk, Standing, Flight, busy, status_of, to_slot, Owes, Asked, Done, Phase, quiet, waits, done, flight_of, Sim}
use Rattle.history.proofs.Simulation.Loading.{by_next, Keeps, told_put}
use Rattle.history.proofs.Simulation.Commits.{at_slot, slot_answered, none_there}
use Rattle.history.proofs.Simulation.Landing.{kept_counter}

not_from : (a w : Bool) → a ≡ not w → not a ≡ w
not_from true true e = sym e
not_from true false e = refl
not_from false true e = refl
not_from false false e = sym e

module _ (g : Geometry) (C : Codec) (p : ℕ) where
  -- the machine after the answer: it stands on what is kept
  answered_standing : (superblock : Superblock) (which : Bool) (len position : ℕ) (d : D.Variables) (k : Kept) (before after : List Range) (w : Bool)
      → OnDisk g C p d.superblocks d.req_write_journals d.journal k w → superblock ≡ super_of C k → which ≡ w → k.ranges ≡ before ++ after
      → len ≡ blocks C (before ++ after) → position ≡ blocks C before
      → Standing g C superblock which len position d.journal k before after w
  answered_standing superblock which len position d k before after w disk hs hw hk hl hp =
      record {
        superblock_is = hs;
        which_is = hw;
        len_is = hl;
        position_is = hp;
        longer = omega (arith, hl, ap (blocks C) hk);
        len_in = omega (arith, hl, ap (blocks C) hk, (slots_wf_is g d.superblocks w (super_of C k) disk.selected).len_in);
        holds = subst (λ (rs : List Range). Holds g d.journal k.start (codes C rs)) hk disk.holds;
        good = subst (Each (Good C)) hk disk.good;
      }

  module _ (s : M.ReadyVariables) (m' : M.Variables) (d d' : D.Variables) (l : Ledger) (dop : DiskOp) (z : Sim g C p (M.Variables.Ready s) d l)
      (h : M.WriteBackSuperblockRespClauses s m' dop) (t : D.AckWriteSuperblock d d' h.id h.which) where
    -- the write cannot have been answered before it landed
    pub answered_early : Asked g C (flight_of s) d.req_write_superblocks d.req_write_journals l.request l.kept l.draft.before l.draft.after z.slot → ⊥
    answered_early a =
        slots_not_yet g d.superblocks z.slot (super_of C l.kept) z.disk.selected a.new
        (ap (λ (v : Superblock). v.counter) a.new_is ∙ kept_counter g C a.commit a.draft l.kept)
        ((λ i. some (sym here.1 i).req.superblock) ∙ t.landed ∙ ap (at d.superblocks) here.0)
      where
        here : (h.which ≡ not z.slot) × (t.write ≡ record { id = a.id; req = record { superblock = a.new } })
        here = at_slot (not z.slot) h.which a.id a.new t.write (subst (λ (x : Two (Option ReqWriteSuperblockId)). at x h.which ≡ some t.write) a.writes_are t.waiting)

    answered_done : Done C (flight_of s) d.req_write_superblocks d.req_write_journals s.whichSuperblock s.writtenJournalLen s.frozenJournalPosition l.request l.kept l.draft.before l.draft.after z.slot
        → Sim g C p m' d' l
    answered_done a = go a.commit (ap (λ (f : Flight). f.commit_status) a.flight_is) a.owes
      where
        here : (h.which ≡ z.slot) × (t.write ≡ record { id = a.id; req = record { superblock = a.new } })
        here = at_slot z.slot h.which a.id a.new t.write (subst (λ (x : Two (Option ReqWriteSuperblockId)). at x h.which ≡ some t.write) a.writes_are t.waiting)

        gone : put d.req_write_superblocks h.which none ≡ both none
        gone = (λ i. put (a.writes_are i) (here.0 i) none) ∙ slot_answered z.slot a.id a.new

        new_is : h.new ≡ super_of C l.kept
        new_is = same_value h.new_is (ap (λ (f : Flight). f.new_superblock) a.flight_is) ∙ a.new_is

        which_is : not s.whichSuperblock ≡ z.slot
        which_is = not_from s.whichSuperblock z.slot a.which_is

        go : (c : Commit) → s.commit_status ≡ status_of c → Owes C c s.writtenJournalLen s.frozenJournalPosition l.draft.before l.draft.after → Sim g C p m' d' l
        go log e owes =
            by_next g C p (h.advance_log_is e) t.next
            (record {
              slot = z.slot;
              disk = z.disk;
              runs =
                  record {
                    frozen_is = z.runs.frozen_is;
                    memory_is = z.runs.memory_is;
                    received = z.runs.received;
                    received_valid = z.runs.received_valid;
                    ids = z.runs.ids;
                    phase =
                        quiet (record { flight_is = refl; writes_are = gone; request_is = a.request_is })
                        (answered_standing h.new (not s.whichSuperblock) s.writtenJournalLen s.frozenJournalPosition d l.kept l.draft.before l.draft.after z.slot
                        z.disk new_is which_is a.kept_is owes.0 owes.1);
                  };
            })
        go location e owes =
            by_next g C p (h.advance_location_is e) t.next
            (record {
              slot = z.slot;
              disk = z.disk;
              runs =
                  record {
                    frozen_is = z.runs.frozen_is;
                    memory_is = z.runs.memory_is;
                    received = λ x q. none_some refl q;
                    received_valid = λ x q. none_some refl q;
                    ids = z.runs.ids;
                    phase =
                        quiet (record { flight_is = refl; writes_are = gone; request_is = a.request_is })
                        (answered_standing h.new (not s.whichSuperblock) (s.writtenJournalLen - s.frozenJournalPosition) 0 d l.kept l.draft.before l.draft.after z.slot
                        z.disk new_is which_is a.kept_is left (sym (ap (blocks C) owes.1 ∙ blocks_none C)));
                  };
            })
          where
            left : s.writtenJournalLen - s.frozenJournalPosition ≡ blocks C (l.draft.before ++ l.draft.after)
            left = omega (arith, owes.0) ∙ ap (λ (rs : List Range). blocks C (rs ++ l.draft.after)) (sym owes.1)

  pub sim_commit_resp : Keeps g C p M.WriteBackSuperblockResp (λ l. l)
  sim_commit_resp (M.Variables.LoadingSuperblock s) m' d d' l dop z h hd = absurd h
  sim_commit_resp (M.Variables.LoadingOther s) m' d d' l dop z h hd = absurd h
  sim_commit_resp (M.Variables.Ready s) m' d d' l dop z h hd = go z.runs.phase
    where
      t : D.AckWriteSuperblock d d' h.id h.which
      t = subst (D.Next g d d') h.op hd

      go : Phase g C (flight_of s) s.superblock s.whichSuperblock s.writtenJournalLen s.frozenJournalPosition d.req_write_superblocks d.req_write_journals d.journal
          l.request l.kept l.draft.before l.draft.after z.slot → Sim g C p m' d' l
      go (quiet q st) = none_some (ap (λ (f : Flight). f.superblock_write) q.flight_is) (sym h.waiting)
      go (waits a st) = absurd (answered_early s m' d d' l dop z h t a)
      go (done a) = answered_done s m' d d' l dop z h t a

  -- an answer to a superblock write is awaited, whenever there is one
  pub sim_superblock_unawaited : (m : M.Variables) (d d' : D.Variables) (l : Ledger) (id : ReqId) (which : Bool) → Sim g C p m d l → D.AckWriteSuperblock d d' id which
      → (M.IsReady m (λ s. s.superblock_write ≡ some id) → ⊥) → Sim g C p m d' l
  sim_superblock_unawaited (M.Variables.LoadingSuperblock s) d d' l id which z t f = none_there d.req_write_superblocks which t.write z.runs.0.writes_are t.waiting
  sim_superblock_unawaited (M.Variables.LoadingOther s) d d' l id which z t f = none_there d.req_write_superblocks which t.write z.runs.0.writes_are t.waiting
  sim_superblock_unawaited (M.Variables.Ready s) d d' l id which z t f = go z.runs.phase
    where
      awaited : (w : Bool) (c : Commit) (i : ReqId) (new : Superblock) → d.req_write_superblocks ≡ to_slot w i new → flight_of s ≡ busy c i new → s.superblock_write ≡ some id
      awaited w c i new e q =
          ap (λ (x : Flight). x.superblock_write) q
          ∙ (λ n. some (sym (t.id_is ∙ ap (λ (x : ReqWriteSuperblockId). x.id) (at_slot w which i new t.write (subst (λ (x : Two (Option ReqWriteSuperblockId)). at x which ≡ some t.write) e t.waiting)).1) n))

      go : Phase g C (flight_of s) s.superblock s.whichSuperblock s.writtenJournalLen s.frozenJournalPosition d.req_write_superblocks d.req_write_journals d.journal
          l.request l.kept l.draft.before l.draft.after z.slot → Sim g C p (M.Variables.Ready s) d' l
      go (quiet q st) = none_there d.req_write_superblocks which t.write q.writes_are t.waiting
      go (waits a st) = absurd (f (awaited (not z.slot) a.commit a.id a.new a.writes_are a.flight_is))
      go (done a) = absurd (f (awaited z.slot a.commit a.id a.new a.writes_are a.flight_is))

  -- and so is an answer to a journal write
  pub sim_journal_unawaited : (m : M.Variables) (d d' : D.Variables) (l : Ledger) (id : ReqId) → Sim g C p m d l → D.AckWriteJournal d d' id
      → (M.IsReady m (λ s. s.outstanding_journal_writes id ≡ true) → ⊥) → Sim g C p m d' l
  sim_journal_unawaited (M.Variables.LoadingSuperblock s) d d' l id z t f = no_keys_some d.req_write_journals id t.ind z.runs.0.none_writing t.waiting
  sim_journal_unawaited (M.Variables.LoadingOther s) d d' l id z t f = no_keys_some d.req_write_journals id t.ind z.runs.0.none_writing t.waiting
  sim_journal_unawaited (M.Variables.Ready s) d d' l id z t f = absurd (f (sym (ap (λ (x : Ids). x id) z.runs.ids) ∙ ap is_key t.waiting))

  -- a superblock read or a journal read taken off the disk's list
  sim_read_off : (m : M.Variables) (d : D.Variables) (l : Ledger) (reads : Two Ids) → Sim g C p m d l → Sim g C p m (D.to_req_read_superblocks reads d) l
  sim_read_off (M.Variables.LoadingSuperblock s) d l reads z = record { slot = z.slot; disk = z.disk; runs = z.runs }
  sim_read_off (M.Variables.LoadingOther s) d l reads z = record { slot = z.slot; disk = z.disk; runs = z.runs }
  sim_read_off (M.Variables.Ready s) d l reads z = record { slot = z.slot; disk = z.disk; runs = z.runs }

  sim_page_off : (m : M.Variables) (d : D.Variables) (l : Ledger) (reads : Map JournalInterval) → Sim g C p m d l → Sim g C p m (D.to_req_read_journals reads d) l
  sim_page_off (M.Variables.LoadingSuperblock s) d l reads z = record { slot = z.slot; disk = z.disk; runs = z.runs }
  sim_page_off (M.Variables.LoadingOther s) d l reads z = record { slot = z.slot; disk = z.disk; runs = z.runs }
  sim_page_off (M.Variables.Ready s) d l reads z = record { slot = z.slot; disk = z.disk; runs = z.runs }

  pub sim_no_op : Keeps g C p M.NoOp (λ l. l)
  sim_no_op m m' d d' l dop z h hd = by_next g C p h.next refl (go h.op)
    where
      go : M.NoOpOp m dop → Sim g C p m d' l
      go (M.NoOpOp.no_op_is e) = by_next g C p refl (subst (D.Next g d d') e hd).next z
      go (M.NoOpOp.superblock_read_op id which superblock e) = by_next g C p refl (subst (D.Next g d d') e hd).next (sim_read_off m d l _ z)
      go (M.NoOpOp.journal_read_is id journal e) = by_next g C p refl (subst (D.Next g d d') e hd).next (sim_page_off m d l _ z)
      go (M.NoOpOp.superblock_written_is id which e f) = sim_superblock_unawaited m d d' l id which z (subst (D.Next g d d') e hd) f
      go (M.NoOpOp.journal_written_is id e f) = sim_journal_unawaited m d d' l id z (subst (D.Next g d d') e hd) f

  pub sim_damaged : Keeps g C p DamagedJournal (λ l. l)
  sim_damaged (M.Variables.LoadingSuperblock s) m' d d' l dop z h hd = absurd h
  sim_damaged (M.Variables.LoadingOther s) m' d d' l dop z h hd =
      by_next g C p h.next (subst (D.Next g d d') h.op hd).next (record { slot = z.slot; disk = z.disk; runs = z.runs })
  sim_damaged (M.Variables.Ready s) m' d d' l dop z h hd = absurd h

  pub sim_ask_again : (which : Bool) → Keeps g C p (λ m m' dop. AskAgain m m' dop which) (λ l. l)
  sim_ask_again which (M.Variables.LoadingSuperblock s) m' d d' l dop z h hd =
      by_next g C p h.next (subst (D.Next g d d') h.op hd).next
      (record {
        slot = z.slot;
        disk = z.disk;
        runs = (z.runs.0, told_put s.superblocks d.superblocks which SuperblockUnfinished z.runs.1 (λ v e. ruin (cc)));
      })
  sim_ask_again which (M.Variables.LoadingOther s) m' d d' l dop z h hd = absurd h
  sim_ask_again which (M.Variables.Ready s) m' d d' l dop z h hd = absurd h

  -- a crash leaves what is kept
  pub sim_crash : (m m' : M.Variables) (d d' : D.Variables) (l : Ledger) → Sim g C p m d l → M.Init m' → D.Crash g d d' → Sim g C p m' d' (fresh l.kept)
  sim_crash m m' d d' l z hm hd =
      by_next g C p hm refl
      (record {
        slot = z.slot;
        disk =
            record {
              selected = subst (λ (t : Two (Option Superblock)). Slots g t z.slot (super_of C l.kept)) (sym hd.superblocks_kept) z.disk.selected;
              parity_is = z.disk.parity_is;
              size = hd.journal_kept.size ∙ z.disk.size;
              holds =
                  holds_crashed g d.journal z.disk.size d'.journal d.req_write_journals hd.journal_kept l.kept.start (codes C l.kept.ranges) wf.start_in
                  (omega (arith, wf.len_in, length_codes C l.kept.ranges))
                  (λ id v e. subst (λ (n : ℕ). Apart g v (interval l.kept.start n)) (sym (length_codes C l.kept.ranges)) (z.disk.clear id v e))
                  z.disk.holds;
              good = z.disk.good;
              clear = λ id v e. no_keys_some d'.req_write_journals id v hd.no_journal_writes e;
            };
        runs = (
          record { writes_are = hd.no_superblock_writes; none_writing = hd.no_journal_writes; ledger_is = refl },
          λ which v e. ruin (unread which v e),
        );
      })
    where
      wf : WFSuperblock g (super_of C l.kept)
      wf = slots_wf_is g d.superblocks z.slot (super_of C l.kept) z.disk.selected

      unread : (which : Bool) (v : Superblock) → at (both SuperblockUnfinished) which ≡ SuperblockSuccess v → ◌≡◌ {A = ℕ} 0 1
      unread true v e = cc
      unread false v e = cc
