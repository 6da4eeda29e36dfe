-- The relation through the two commit requests, their landing, and the answer. The landing is where the ledger keeps what was asked for;
-- the machine hears of it with the answer.
use Rattle.std.specs.Prelude.{ℕ, ◌+◌, ◌-◌, ◌%◌, Bool, true, false, not, ◌≡◌, refl}
use Rattle.std.proofs.Common.{sym, ◌∙◌, ap, subst, inr, arith}
use Rattle.std.proofs.Math.Option.{Option, none, some, get_or, some-injective}
use Rattle.laws.specs.Choice.{ruin}
use Rattle.layout.specs.declared.Geometry.{Geometry}
use Rattle.layout.specs.declared.Location.{Location}
use Rattle.layout.specs.Journal.{journal_pos_add}
use Rattle.superblock.specs.declared.Superblock.{Superblock}
use Rattle.superblock.specs.Superblock.{increment_superblock_counter}
use Rattle.superblock.specs.Laws.{WFSuperblock}
use Rattle.laws.specs.Sets.{empty_ids, Two, both, at, put, none_some, at_both}
use Rattle.laws.specs.Maps.{no_keys_of}
use Rattle.codec.specs.Codec.{Codec}
use Rattle.source.specs.JournalDisk as D
use Rattle.source.specs.JournalDisk.{ReqId, ReqWriteSuperblockId, DiskOp}
use Rattle.source.specs.JournalCache as M
use Rattle.source.specs.JournalCache.{advanced_log, advanced_location}
use Rattle.source.specs.Departures.{idle_sync, CommitReq⁺}
use Rattle.history.specs.Ledger.{blocks, Commit, log, location, Ledger, asked, kept_by}
use Rattle.codec.specs.Ranges.{blocks_append}
use Rattle.history.proofs.Journal.Holds.{pos_add_mod, pos_add_in}
use Rattle.history.proofs.Journal.Slots.{slots_wf_is}
use Rattle.history.proofs.Simulation.Relation.{super_of, Standing, status_of, to_slot, Quiet, waits, flight_of, Sim}
use Rattle.history.proofs.Simulation.Loading.{by_next, Keeps, sim_sync}
use Rattle.history.proofs.Simulation.Working.{on_quiet}

-- the one write in flight, by the slot that answers
pub at_slot : (w which : Bool) (id : ReqId) (new : Superblock) (r : ReqWriteSuperblockId) → at (to_slot w id new) which ≡ some r
    → (which ≡ w) × (r ≡ record { id = id; req = record { superblock = new } })
at_slot true true id new r e = (refl, some-injective r (record { id = id; req = record { superblock = new } }) (sym e))
at_slot true false id new r e = ruin (cc)
at_slot false true id new r e = ruin (cc)
at_slot false false id new r e = (refl, some-injective r (record { id = id; req = record { superblock = new } }) (sym e))

pub slot_answered : (w : Bool) (id : ReqId) (new : Superblock) → put (to_slot w id new) w none ≡ both none
slot_answered true id new = refl
slot_answered false id new = refl

-- no write is there
pub none_there : {G : Type 0} (t : Two (Option ReqWriteSuperblockId)) (which : Bool) (r : ReqWriteSuperblockId) → t ≡ both none → at t which ≡ some r → G
none_there t which r e q = none_some (ap (λ (x : Two (Option ReqWriteSuperblockId)). at x which) e ∙ at_both none which) q

pub not_not : (w : Bool) → w ≡ not (not w)
not_not true = refl
not_not false = refl

module _ (g : Geometry) (C : Codec) (p : ℕ) where
  -- what both requests have: no commit in flight and no journal write, and then one superblock write to the slot that is not selected
  module _ (s : M.ReadyVariables) (d : D.Variables) (l : Ledger) (z : Sim g C p (M.Variables.Ready s) d l) (no_commit_is : s.commit_status ≡ M.CommitStatus.CommitNone)
      (all_written : s.outstanding_journal_writes ≡ empty_ids) where
    asked_quiet : Quiet (flight_of s) d.req_write_superblocks l.request
    asked_quiet = (on_quiet z.runs.phase (inr no_commit_is)).0

    asked_standing : Standing g C s.superblock s.whichSuperblock s.writtenJournalLen s.frozenJournalPosition d.journal l.kept l.draft.before l.draft.after z.slot
    asked_standing = (on_quiet z.runs.phase (inr no_commit_is)).1

    asked_wf : WFSuperblock g s.superblock
    asked_wf = subst (WFSuperblock g) (sym asked_standing.superblock_is) (slots_wf_is g d.superblocks z.slot (super_of C l.kept) z.disk.selected)

    asked_sim : (c : Commit) (id : ReqId) (which : Bool) (req : D.ReqWriteSuperblock) (new : Superblock) → which ≡ not s.whichSuperblock → req.superblock ≡ new
        → new ≡ super_of C (kept_by g C c l.draft l.kept) → WFSuperblock g new
        → Sim g C p (M.Variables.Ready (M.to_new_superblock (some new) (M.to_superblock_write (some id) (M.to_commit_status (status_of c) s))))
        (D.to_req_write_superblocks (put d.req_write_superblocks which (some (record { id = id; req = req }))) d) (asked c l)
    asked_sim c id which req new which_is req_is new_is new_wf =
        record {
          slot = z.slot;
          disk = z.disk;
          runs =
              record {
                frozen_is = z.runs.frozen_is;
                memory_is = z.runs.memory_is;
                received = z.runs.received;
                received_valid = z.runs.received_valid;
                ids = z.runs.ids;
                phase =
                    waits
                    (record {
                      commit = c;
                      id = id;
                      new = new;
                      draft = l.draft;
                      flight_is = refl;
                      writes_are = λ i. put (asked_quiet.writes_are i) ((which_is ∙ ap not asked_standing.which_is) i) (some (record { id = id; req = record { superblock = req_is i } }));
                      none_writing = no_keys_of d.req_write_journals (z.runs.ids ∙ all_written);
                      request_is = refl;
                      before_is = refl;
                      after_is = refl;
                      new_is = new_is;
                      new_wf = new_wf;
                    })
                    asked_standing;
              };
        }

  pub sim_commit_log : Keeps g C p (M.WriteBackSuperblockReqAdvanceLog g) (asked log)
  sim_commit_log (M.Variables.LoadingSuperblock s) m' d d' l dop z h hd = absurd h
  sim_commit_log (M.Variables.LoadingOther s) m' d d' l dop z h hd = absurd h
  sim_commit_log (M.Variables.Ready s) m' d d' l dop z h hd =
      let st = asked_standing s d l z h.no_commit_is h.all_written in
      let wf = asked_wf s d l z h.no_commit_is h.all_written in
      by_next g C p h.next (subst (D.Next g d d') h.op hd).next
      (asked_sim s d l z h.no_commit_is h.all_written log h.id h.which h.req (advanced_log s) h.which_is h.superblock_is
      (λ i.
      record {
        counter = increment_superblock_counter (st.superblock_is i).counter;
        journalStart = (st.superblock_is i).journalStart;
        journalLen = st.len_is i;
        indirectionTableLoc = (st.superblock_is i).indirectionTableLoc;
      })
      (record { start_in = wf.start_in; len_in = h.written_in; table_valid = wf.table_valid }))

  pub sim_commit_location : Keeps g C p (M.WriteBackSuperblockReqAdvanceLocation g) (asked location)
  sim_commit_location (M.Variables.LoadingSuperblock s) m' d d' l dop z h hd = absurd h
  sim_commit_location (M.Variables.LoadingOther s) m' d d' l dop z h hd = absurd h
  sim_commit_location (M.Variables.Ready s) m' d d' l dop z h hd =
      by_next g C p h.next (subst (D.Next g d d') h.op hd).next
      (asked_sim s d l z h.no_commit_is h.all_written location h.id h.which h.req (advanced_location g s h.loc) h.which_is h.superblock_is
      (λ i.
      record {
        counter = increment_superblock_counter (st.superblock_is i).counter;
        journalStart = moved i;
        journalLen = rest i;
        indirectionTableLoc = sym (ap (λ (o : Option Location). get_or o l.kept.loc) (z.runs.received h.loc h.received)) i;
      })
      (record {
        start_in = pos_add_in g s.superblock.journalStart s.frozenJournalPosition wf.start_in (omega (arith, h.position_in, h.written_in));
        len_in = omega (arith, h.written_in);
        table_valid = z.runs.received_valid h.loc h.received;
      }))
    where
      st : Standing g C s.superblock s.whichSuperblock s.writtenJournalLen s.frozenJournalPosition d.journal l.kept l.draft.before l.draft.after z.slot
      st = asked_standing s d l z h.no_commit_is h.all_written

      wf : WFSuperblock g s.superblock
      wf = asked_wf s d l z h.no_commit_is h.all_written

      moved : journal_pos_add g s.superblock.journalStart s.frozenJournalPosition ≡ (l.kept.start + blocks C l.draft.before) % g.blocks
      moved =
          pos_add_mod g s.superblock.journalStart s.frozenJournalPosition wf.start_in (omega (arith, h.position_in, h.written_in))
          ∙ (λ i. ((st.superblock_is i).journalStart + st.position_is i) % g.blocks)

      rest : s.writtenJournalLen - s.frozenJournalPosition ≡ blocks C l.draft.after
      rest = omega (arith, st.len_is, st.position_is, blocks_append C l.draft.before l.draft.after)

  -- and with the sync requests as the departure has them
  pub sim_synced : (R : M.Variables → M.Variables → DiskOp → Type 0) (f : Ledger → Ledger) → Keeps g C p R f → Keeps g C p (CommitReq⁺ R) f
  sim_synced R f k m m' d d' l dop z h hd = by_next g C p h.next refl (sim_sync g C p h.asked d' (f l) (idle_sync m) (k m h.asked d d' l dop z h.source hd))
