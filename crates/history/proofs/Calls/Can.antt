-- A machine at Ready, from a state that meets question 2: a call whose conditions hold is allowed, and leads to the state written here; a call
-- that breaks a condition is not. Only what the example day and a save on an idle store take and refuse.
use Rattle.std.specs.Prelude.{ℕ, ◌+◌, ◌-◌, ◌≤◌, ◌<◌, Bool, true, false, not, ◌≡◌, List, [], ◌++◌, length}
use Rattle.std.proofs.Math.Path.{subst, refl, sym, ap}
use Rattle.std.proofs.Common.{◌∙◌, arith}
use Rattle.std.proofs.Math.Option.{Option, none, some}
use Rattle.laws.specs.Choice.{ruin, true_false}
use Rattle.layout.specs.declared.Geometry.{Geometry}
use Rattle.layout.specs.declared.Location.{Location}
use Rattle.layout.specs.Journal.{journal_pos_add}
use Rattle.layout.specs.Laws.{ValidIndirectionTableLocation}
use Rattle.interval.specs.declared.JournalInterval.{JournalInterval}
use Rattle.interval.specs.Interval.{interval}
use Rattle.interval.specs.Journal.{JournalUpdate}
use Rattle.interval.proofs.Update.{updated, updated_is}
use Rattle.superblock.specs.declared.Superblock.{Superblock}
use Rattle.laws.specs.Sets.{Ids, empty_ids, leave, Map, bind, unbind, at, put, none_some, same_value}
use Rattle.range.specs.Blank.{none_blank}
use Rattle.codec.specs.Codec.{JournalEntry, Codec}
use Rattle.source.specs.JournalDisk as D
use Rattle.source.specs.JournalDisk.{ReqId, ReqWriteJournal, ReqWriteSuperblockId, ReqWriteSuperblockOp, ReqWriteJournalOp, RespWriteSuperblockOp, RespWriteJournalOp, NoDiskOp, ProcessWriteSuperblockStep, written}
use Rattle.source.specs.JournalCache as M
use Rattle.source.specs.JournalCache.{CommitNone, CommitAdvanceLog, CommitAdvanceLocation, WriteBackJournalReqStep, WriteBackJournalRespStep, WriteBackSuperblockReq-AdvanceLog-Step, WriteBackSuperblockReq-AdvanceLocation-Step, WriteBackSuperblockRespStep, FreezeStep, ReceiveFrozenLocStep, AdvanceStep, PushSyncReqStep, State3, if_none, to_write, join_ids, advanced_log, advanced_location}
use Rattle.source.specs.JournalSystem as Y
use Rattle.source.specs.Limits.{Limits, Fitting}
use Rattle.source.specs.Meets.{SystemMeets}
use Rattle.source.proofs.Laws.Format.{write_good}
use Rattle.source.specs.Departures.{idle_sync, Source, MachineStep, DiskInternalStep, WriteBackJournalReq⁺, Event, Allowed}
use Rattle.history.specs.Ledger.{write_journal, journal_written, commit_log, commit_location, superblock_written, freeze, receive, add, push_sync, land}
use Rattle.history.proofs.Journal.Holds.{pos_add_in}
use Rattle.history.specs.Statement.{Tied, tied_write, tied_written, tied_log, tied_location, tied_committed, tied_freeze, tied_receive, tied_add, tied_push, tied_land, Takes}

abbrev pub store : M.ReadyVariables → D.Variables → Y.Variables
store s d = record { machine = M.Variables.Ready s; disk = d }

-- a freeze
abbrev pub frozen_now : M.ReadyVariables → M.ReadyVariables
frozen_now s =
    M.to_frozen_loc none
    (M.to_in_memory_journal_frozen (s.in_memory_journal_frozen ++ s.in_memory_journal)
    (M.to_in_memory_journal []
    (M.to_frozen_journal_position s.writtenJournalLen
    (M.to_sync_reqs (M.sync_reqs3to2 s.sync_reqs)
    (M.to_is_frozen true s)))))

-- a journal write of n blocks from place on, by the ids of its pieces: both sides after it
abbrev pub wrote_now : M.ReadyVariables → ℕ → ReqId → Option ReqId → M.ReadyVariables
wrote_now s n id1 id2 =
    M.to_outstanding_journal_writes (join_ids s.outstanding_journal_writes id1 id2)
    (M.to_written_journal_len (s.writtenJournalLen + n)
    (M.to_frozen_journal_position (if_none s.in_memory_journal_frozen s.frozenJournalPosition (s.writtenJournalLen + n))
    (M.to_in_memory_journal (if_none s.in_memory_journal_frozen [] s.in_memory_journal)
    (M.to_in_memory_journal_frozen []
    (M.to_sync_reqs (if_none s.in_memory_journal_frozen (M.sync_reqs3to2 s.sync_reqs) s.sync_reqs) s)))))

abbrev pub wrote_disk : Codec → M.ReadyVariables → D.Variables → ℕ → ℕ → Map JournalInterval → D.Variables
wrote_disk C s d place n writes = D.to_journal (updated d.journal (interval place n) (C.encode (to_write s))) (D.to_req_write_journals writes d)

-- a commit asked for: the machine, and the disk with the write in flight
abbrev pub asked_now : M.CommitStatus → ReqId → Superblock → M.ReadyVariables → M.ReadyVariables
asked_now c id new s = M.to_sync_reqs (idle_sync (M.Variables.Ready s)) (M.to_new_superblock (some new) (M.to_superblock_write (some id) (M.to_commit_status c s)))

abbrev pub asked_disk : M.ReadyVariables → D.Variables → ReqId → Superblock → D.Variables
asked_disk s d id new = D.to_req_write_superblocks (put d.req_write_superblocks (not s.whichSuperblock) (some (record { id = id; req = record { superblock = new } }))) d

-- a commit answered, of the log and of the location
abbrev pub logged_now : Superblock → M.ReadyVariables → M.ReadyVariables
logged_now new s =
    M.to_superblock_write none
    (M.to_superblock new
    (M.to_new_superblock none
    (M.to_which_superblock (not s.whichSuperblock)
    (M.to_sync_reqs (M.sync_reqs2to1 s.sync_reqs)
    (M.to_commit_status CommitNone s)))))

abbrev pub located_now : Superblock → M.ReadyVariables → M.ReadyVariables
located_now new s =
    M.to_superblock_write none
    (M.to_superblock new
    (M.to_new_superblock none
    (M.to_which_superblock (not s.whichSuperblock)
    (M.to_sync_reqs (M.sync_reqs2to1 s.sync_reqs)
    (M.to_written_journal_len (s.writtenJournalLen - s.frozenJournalPosition)
    (M.to_frozen_journal_position 0
    (M.to_frozen_loc none
    (M.to_is_frozen false
    (M.to_commit_status CommitNone s)))))))))

abbrev pub answered_disk : D.Variables → Bool → D.Variables
answered_disk d which = D.to_req_write_superblocks (put d.req_write_superblocks which none) d

module _ {g : Geometry} {C : Codec} {L : Limits} {s : M.ReadyVariables} {d : D.Variables} (q : SystemMeets g L (record { machine = M.Variables.Ready s; disk = d })) where
  pub can_add : (es : List JournalEntry) → s.replay_journal ≡ [] → none_blank es ≡ true → Takes g C L (store s d) (store (M.to_in_memory_journal (s.in_memory_journal ++ es) s) d) (add es)
  can_add es e b =
      record {
        event = MachineStep NoDiskOp (Source (AdvanceStep es));
        tied = tied_add;
        allowed =
            record {
              meets = q;
              step = record { machine = record { source = record { op = refl; replayed = e; next = refl }; none_blank_is = b }; disk = record { next = refl } };
            };
      }

  pub can_push : (id : ℕ) → s.sync_reqs id ≡ none → Takes g C L (store s d) (store (M.to_sync_reqs (bind s.sync_reqs id State3) s) d) (push_sync id)
  can_push id e =
      record {
        event = MachineStep NoDiskOp (Source (PushSyncReqStep id));
        tied = tied_push;
        allowed = record { meets = q; step = record { machine = record { op = refl; new = e; next = refl }; disk = record { next = refl } } };
      }

  pub can_freeze : s.superblock_write ≡ none → (s.frozenLoc ≡ some s.superblock.indirectionTableLoc → ⊥) → s.replay_journal ≡ [] → Takes g C L (store s d) (store (frozen_now s) d) freeze
  can_freeze a b c =
      record {
        event = MachineStep NoDiskOp (Source FreezeStep);
        tied = tied_freeze;
        allowed = record { meets = q; step = record { machine = record { op = refl; no_write = a; other_loc = b; replayed = c; next = refl }; disk = record { next = refl } } };
      }

  pub can_receive : (loc : Location) → s.isFrozen ≡ true → s.frozenLoc ≡ none → ValidIndirectionTableLocation g loc → Takes g C L (store s d) (store (M.to_frozen_loc (some loc) s) d) (receive loc)
  can_receive loc a b c =
      record {
        event = MachineStep NoDiskOp (Source (ReceiveFrozenLocStep loc));
        tied = tied_receive;
        allowed = record { meets = q; step = record { machine = record { op = refl; frozen = a; none_received = b; loc_valid = c; next = refl }; disk = record { next = refl } } };
      }

  -- a journal write that does not pass the ring's end, and one that does
  module _ (fitting : Fitting C L) (some-entry : 0 < length (to_write s)) (no_write : s.superblock_write ≡ none) (place n : ℕ) (place_is : journal_pos_add g s.superblock.journalStart s.writtenJournalLen ≡ place)
      (blocks_are : length (C.encode (to_write s)) ≡ n) (fits : n + s.writtenJournalLen ≤ g.blocks) (id1 : ReqId) (new1 : d.req_write_journals id1 ≡ none) where
    request : ReqWriteJournal
    request = record { start = place; journal = C.encode (to_write s) }

    good : C.good (to_write s) ≡ true
    good = write_good g C L fitting s q.machine some-entry

    writes : (id2 : Option ReqId) → WriteBackJournalReq⁺ g C (M.Variables.Ready s) (M.Variables.Ready (wrote_now s n id1 id2)) (ReqWriteJournalOp id1 id2 request) (C.encode (to_write s))
    unfolding request
    writes id2 =
        record {
          source =
              record {
                parses = C.parse_encode (to_write s) good;
                fits = omega (arith, fits, blocks_are);
                some_block = C.encode_some (to_write s);
                no_write = no_write;
                start_in = q.machine.inv.superblock_wf.start_in;
                written_in = q.machine.inv.written_in;
                id1 = id1;
                id2 = id2;
                req = request;
                op = refl;
                journal_is = refl;
                start_is = sym place_is;
                next = λ i. M.Variables.Ready (wrote_now s (sym blocks_are i) id1 id2);
              };
          one_range = record { good = good; range_is = refl };
        }

    update : JournalUpdate g d.journal (updated d.journal (interval place n) (C.encode (to_write s))) (written request) (C.encode (to_write s))
    unfolding request
    update =
        subst (λ (k : ℕ). JournalUpdate g d.journal (updated d.journal (interval place n) (C.encode (to_write s))) (interval place k) (C.encode (to_write s))) (sym blocks_are)
        (updated_is g d.journal (interval place n) (C.encode (to_write s)) q.disk.shape.size
        (record { start_in = subst (λ (k : ℕ). k < g.blocks) place_is (pos_add_in g s.superblock.journalStart s.writtenJournalLen q.machine.inv.superblock_wf.start_in q.machine.inv.written_in); len_in = omega (arith, fits) })
        (sym blocks_are))

    pub can_write : place + n ≤ g.blocks
        → Takes g C L (store s d) (store (wrote_now s n id1 none) (wrote_disk C s d place n (bind d.req_write_journals id1 (interval place n)))) (write_journal id1 none)
    unfolding request
    can_write straight =
        record {
          event = MachineStep (ReqWriteJournalOp id1 none request) (Source (WriteBackJournalReqStep (C.encode (to_write s))));
          tied = tied_write;
          allowed =
              record {
                meets = q;
                step =
                    record {
                      machine = writes none;
                      disk =
                          record {
                            new1 = new1;
                            new2 = λ id e. none_some refl e;
                            update = update;
                            straight = λ k. record { one_id_is = refl; next = λ i. wrote_disk C s d place n (bind d.req_write_journals id1 (interval place (sym blocks_are i))) };
                            wrapped = λ k. absurd (omega (arith, straight, blocks_are));
                          };
                    };
              };
        }

    pub can_wrap : (id2 : ReqId) → (id2 ≡ id1 → ⊥) → d.req_write_journals id2 ≡ none → g.blocks < place + n
        → Takes g C L (store s d) (store (wrote_now s n id1 (some id2)) (wrote_disk C s d place n (bind (bind d.req_write_journals id1 (interval place (g.blocks - place))) id2 (interval 0 (n - (g.blocks - place))))))
        (write_journal id1 (some id2))
    unfolding request
    can_wrap id2 differ new2 wrapped =
        record {
          event = MachineStep (ReqWriteJournalOp id1 (some id2) request) (Source (WriteBackJournalReqStep (C.encode (to_write s))));
          tied = tied_write;
          allowed =
              record {
                meets = q;
                step =
                    record {
                      machine = writes (some id2);
                      disk =
                          record {
                            new1 = new1;
                            new2 = λ id e. ap d.req_write_journals (sym (same_value refl e)) ∙ new2;
                            update = update;
                            straight = λ k. absurd (omega (arith, wrapped, blocks_are));
                            wrapped = λ k.
                                record {
                                  id = id2;
                                  two_ids = refl;
                                  differ = differ;
                                  next = λ i. wrote_disk C s d place n (bind (bind d.req_write_journals id1 (interval place (g.blocks - place))) id2 (interval 0 (sym blocks_are i - (g.blocks - place))));
                                };
                          };
                    };
              };
        }

  -- its answer, with what is left outstanding
  pub can_written : (id : ReqId) (v : JournalInterval) → s.outstanding_journal_writes id ≡ true → d.req_write_journals id ≡ some v → (ids : Ids) → leave s.outstanding_journal_writes id ≡ ids
      → (writes : Map JournalInterval) → unbind d.req_write_journals id ≡ writes
      → Takes g C L (store s d) (store (M.to_outstanding_journal_writes ids s) (D.to_req_write_journals writes d)) (journal_written id)
  can_written id v a b ids left writes less =
      record {
        event = MachineStep (RespWriteJournalOp id) (Source WriteBackJournalRespStep);
        tied = tied_written;
        allowed =
            record {
              meets = q;
              step =
                  record {
                    machine = record { id = id; op = refl; waiting = a; next = λ i. M.Variables.Ready (M.to_outstanding_journal_writes (sym left i) s) };
                    disk = record { ind = v; waiting = b; next = λ i. D.to_req_write_journals (sym less i) d };
                  };
            };
      }

  module _ (no_commit_is : s.commit_status ≡ CommitNone) (all_written : s.outstanding_journal_writes ≡ empty_ids) (none_frozen_is : s.in_memory_journal_frozen ≡ [])
      (id : ReqId) (new1 : (w : ReqWriteSuperblockId) → at d.req_write_superblocks false ≡ some w → w.id ≡ id → ⊥) (new2 : (w : ReqWriteSuperblockId) → at d.req_write_superblocks true ≡ some w → w.id ≡ id → ⊥) where
    pub can_log : Takes g C L (store s d) (store (asked_now CommitAdvanceLog id (advanced_log s) s) (asked_disk s d id (advanced_log s))) (commit_log id)
    can_log =
        record {
          event = MachineStep (ReqWriteSuperblockOp id (not s.whichSuperblock) (record { superblock = advanced_log s })) (Source WriteBackSuperblockReq-AdvanceLog-Step);
          tied = tied_log;
          allowed =
              record {
                meets = q;
                step =
                    record {
                      machine =
                          record {
                            asked = M.Variables.Ready (M.to_new_superblock (some (advanced_log s)) (M.to_superblock_write (some id) (M.to_commit_status CommitAdvanceLog s)));
                            source =
                                record {
                                  id = id;
                                  which = not s.whichSuperblock;
                                  req = record { superblock = advanced_log s };
                                  op = refl;
                                  no_commit_is = no_commit_is;
                                  all_written = all_written;
                                  none_frozen_is = none_frozen_is;
                                  which_is = refl;
                                  written_in = q.machine.inv.written_in;
                                  superblock_is = refl;
                                  next = refl;
                                };
                            next = refl;
                          };
                      disk = record { new1 = new1; new2 = new2; next = refl };
                    };
              };
        }

    pub can_location : (loc : Location) → s.frozenLoc ≡ some loc
        → Takes g C L (store s d) (store (asked_now CommitAdvanceLocation id (advanced_location g s loc) s) (asked_disk s d id (advanced_location g s loc))) (commit_location id)
    can_location loc received =
        record {
          event = MachineStep (ReqWriteSuperblockOp id (not s.whichSuperblock) (record { superblock = advanced_location g s loc })) (Source WriteBackSuperblockReq-AdvanceLocation-Step);
          tied = tied_location;
          allowed =
              record {
                meets = q;
                step =
                    record {
                      machine =
                          record {
                            asked = M.Variables.Ready (M.to_new_superblock (some (advanced_location g s loc)) (M.to_superblock_write (some id) (M.to_commit_status CommitAdvanceLocation s)));
                            source =
                                record {
                                  id = id;
                                  which = not s.whichSuperblock;
                                  req = record { superblock = advanced_location g s loc };
                                  op = refl;
                                  loc = loc;
                                  received = received;
                                  no_commit_is = no_commit_is;
                                  all_written = all_written;
                                  none_frozen_is = none_frozen_is;
                                  which_is = refl;
                                  start_in = q.machine.inv.superblock_wf.start_in;
                                  position_in = (q.machine.inv.if_frozen (q.machine.inv.if_received loc received).frozen).position_written;
                                  written_in = q.machine.inv.written_in;
                                  superblock_is = refl;
                                  next = refl;
                                };
                            next = refl;
                          };
                      disk = record { new1 = new1; new2 = new2; next = refl };
                    };
              };
        }

  pub can_land : (which : Bool) (w : ReqWriteSuperblockId) → at d.req_write_superblocks which ≡ some w
      → Takes g C L (store s d) (store s (D.to_superblocks (put d.superblocks which (some w.req.superblock)) d)) (land which)
  can_land which w e =
      record {
        event = DiskInternalStep (ProcessWriteSuperblockStep which);
        tied = tied_land;
        allowed = record { meets = q; step = record { machine = refl; disk = record { write = w; waiting = e; next = refl } } };
      }

  module _ (id : ReqId) (which : Bool) (new : Superblock) (waiting : s.superblock_write ≡ some id) (new_is : s.new_superblock ≡ some new)
      (there : at d.req_write_superblocks which ≡ some (record { id = id; req = record { superblock = new } })) (landed : at d.superblocks which ≡ some new) where
    -- the answer of a commit, by what it makes of the machine
    answers : (t : M.ReadyVariables) → (s.commit_status ≡ CommitAdvanceLocation → M.Variables.Ready t ≡ M.Variables.Ready (located_now new s))
        → (s.commit_status ≡ CommitAdvanceLog → M.Variables.Ready t ≡ M.Variables.Ready (logged_now new s)) → Takes g C L (store s d) (store t (answered_disk d which)) (superblock_written id)
    answers t advance_location_is advance_log_is =
        record {
          event = MachineStep (RespWriteSuperblockOp id which) (Source WriteBackSuperblockRespStep);
          tied = tied_committed;
          allowed =
              record {
                meets = q;
                step =
                    record {
                      machine =
                          record {
                            id = id;
                            which = which;
                            op = refl;
                            waiting = sym waiting;
                            new = new;
                            new_is = new_is;
                            still_ready = tt;
                            advance_location_is = advance_location_is;
                            advance_log_is = advance_log_is;
                          };
                      disk = record { write = record { id = id; req = record { superblock = new } }; waiting = there; id_is = refl; landed = sym landed; next = refl };
                    };
              };
        }

    pub can_answer_log : s.commit_status ≡ CommitAdvanceLog → Takes g C L (store s d) (store (logged_now new s) (answered_disk d which)) (superblock_written id)
    can_answer_log e = answers (logged_now new s) (λ f. ruin (cc)) (λ f. refl)

    pub can_answer_location : s.commit_status ≡ CommitAdvanceLocation → Takes g C L (store s d) (store (located_now new s) (answered_disk d which)) (superblock_written id)
    can_answer_location e = answers (located_now new s) (λ f. refl) (λ f. ruin (cc))

-- what a day's refused calls break
module _ {g : Geometry} {C : Codec} {L : Limits} {s : M.ReadyVariables} {d : D.Variables} (t : Y.Variables) (id : ReqId) where
  location_needs : (e : Event) → Tied (commit_location id) e → Allowed g C L (store s d) t e → s.frozenLoc ≡ none → ⊥
  location_needs e tied_location a q = none_some q a.step.machine.source.received

  -- a location commit before a location was received
  pub no_location : s.frozenLoc ≡ none → Takes g C L (store s d) t (commit_location id) → ⊥
  no_location q h = location_needs h.event h.tied h.allowed q

  log_needs : (e : Event) → Tied (commit_log id) e → Allowed g C L (store s d) t e → s.outstanding_journal_writes ≡ empty_ids
  log_needs e tied_log a = a.step.machine.source.all_written

  -- a log commit with a journal write outstanding
  pub no_log : (k : ReqId) → s.outstanding_journal_writes k ≡ true → Takes g C L (store s d) t (commit_log id) → ⊥
  no_log k q h = true_false (sym q ∙ ap (λ (x : Ids). x k) (log_needs h.event h.tied h.allowed))
