-- Each call that is taken leaves what is known of the sync requests, and all entries on their way.
use Rattle.std.specs.Prelude.{ℕ, Bool, ◌≡◌}
use Rattle.std.proofs.Math.Bool.{not}
use Rattle.std.proofs.Math.Path.{refl, sym, ap, subst}
use Rattle.std.proofs.Common.{◌∙◌, ⊎_elim, ne_eqb}
use mathlib.Core.List.{List, [], ◌∷◌, ◌++◌, append-nil, append_assoc}
use Rattle.std.proofs.Math.Option.{Option, none, some}
use Rattle.laws.specs.Choice.{split_eq}
use Rattle.laws.specs.Sets.{Map, no_keys, none_some, same_value, bind, unbind, bind_here, bind_there, unbind_here, unbind_there}
use Rattle.layout.specs.declared.Geometry.{Geometry}
use Rattle.layout.specs.declared.Location.{Location}
use Rattle.codec.specs.Codec.{JournalEntry, Codec}
use Rattle.source.specs.JournalDisk as D
use Rattle.source.specs.JournalDisk.{DiskOp}
use Rattle.source.specs.JournalCache as M
use Rattle.source.specs.JournalCache.{SyncReqStatus, State3, sync_reqs_of, sync_reqs3to2, sync_reqs2to1, with_sync_reqs, if_none}
use Rattle.source.specs.JournalSystem as Y
use Rattle.source.specs.Limits.{Limits}
use Rattle.source.specs.Departures.{idle_sync, Event, Allowed}
use Rattle.source.proofs.Laws.Cases.{by_ready, by_other, by_superblock}
use Rattle.source.proofs.Laws.Sync.{event_sync_is}
use Rattle.history.specs.Ledger.{Call, push_sync, pop_sync, Draft, Commit, log, location, Request, Ledger, tell, written_of, asked}
use Rattle.history.specs.Statement.{Tied, tied_write, tied_written, unawaited_written, tied_log, tied_location, tied_committed, unawaited_committed, tied_page, tied_paged, tied_damaged, unawaited_paged, unawaited_damaged, tied_read, tied_superblock, tied_corrupt, unawaited_superblock, unawaited_corrupt, tied_finish_superblocks, tied_finish_other, tied_freeze, tied_receive, tied_add, tied_replay, tied_push, tied_pop, tied_no_op, tied_again, tied_land, tied_crash, Takes}
use Rattle.history.specs.Coverage.{Said, yes, settled, Page, turn, pages, enter, before_here, leaves, Leaves}
use Rattle.history.proofs.Simulation.Relation.{Phase, quiet, waits, done, flight_of, Sim}
use Rattle.history.proofs.Simulation.Answering.{answered_early}
use Rattle.history.proofs.Covering.Lists.{pages_one, since_push}
use Rattle.history.proofs.Covering.Flow.{set, all, all_added, set_frozen, all_frozen, set_written, all_written, set_wrote, all_wrote, all_fresh}
use Rattle.history.proofs.Covering.Known.{flying, Landed, Known, AllKnown, Carries, carries_same, carry, known_same, known_moved, known_answered, known_landed, all_kept}

-- a machine at Ready, from a predicate that names it
pub ready_is : (m : M.Variables) (P : M.ReadyVariables → Type 0) → M.IsReady m P → (r : M.ReadyVariables) × (m ≡ M.Variables.Ready r) × P r
ready_is (M.Variables.Ready s) P h = (s, refl, h)
ready_is (M.Variables.LoadingOther s) P h = absurd h
ready_is (M.Variables.LoadingSuperblock s) P h = absurd h

pub flying_with : (x : Map SyncReqStatus) (m : M.Variables) → flying (with_sync_reqs x m) ≡ flying m
flying_with x (M.Variables.Ready s) = refl
flying_with x (M.Variables.LoadingOther s) = refl
flying_with x (M.Variables.LoadingSuperblock s) = refl

-- an answer that is taken is of a commit that landed
answer_landed : (g : Geometry) (C : Codec) (par : ℕ) (r : M.ReadyVariables) (m' : M.Variables) (d d' : D.Variables) (l : Ledger) (dop : DiskOp) (z : Sim g C par (M.Variables.Ready r) d l)
    → (h : M.WriteBackSuperblockRespClauses r m' dop) → D.Next g d d' dop → l.request ≡ none
answer_landed g C par r m' d d' l dop z h hd = go z.runs.phase
  where
    go : Phase g C (flight_of r) r.superblock r.whichSuperblock r.writtenJournalLen r.frozenJournalPosition d.req_write_superblocks d.req_write_journals d.journal
        l.request l.kept l.draft.before l.draft.after z.slot → l.request ≡ none
    go (quiet q st) = q.request_is
    go (waits a st) = absurd (answered_early g C par r m' d d' l dop z h (subst (D.Next g d d') h.op hd) a)
    go (done a) = a.request_is

-- what is known of a state: its page, all entries on their way, each sync request
pub record Knows (g : Geometry) (C : Codec) (p₀ : Page) (m : M.Variables) (xs : List Said) (p : Page) : Type 0 where
  pub page_is : pages g C p₀ xs ≡ p
  pub flow : all p ≡ before_here p
  pub known : AllKnown g C p₀ xs p m

module _ (g : Geometry) (C : Codec) (L : Limits) (par : ℕ) (p₀ : Page) (s t : Y.Variables) (xs : List Said) (p : Page) (z : Sim g C par s.machine s.disk p.ledger)
    (k : Knows g C p₀ s.machine xs p) where
  abbrev After : Call → Page → Type 0
  After x p' = Knows g C p₀ t.machine (xs ++ yes x ∷ []) p'

  page_after : (x : Call) → pages g C p₀ (xs ++ yes x ∷ []) ≡ turn g C (yes x) p
  page_after x = pages_one g C p₀ xs (yes x) ∙ ap (turn g C (yes x)) k.page_is

  -- a call that leaves ledger, account, sync requests and the commit in flight
  plain : (x : Call) → turn g C (yes x) p ≡ p → ((id : ℕ) → Leaves id (yes x)) → sync_reqs_of t.machine ≡ sync_reqs_of s.machine → flying t.machine ≡ flying s.machine
      → After x (turn g C (yes x) p)
  plain x e f q y =
      subst (After x) (sym e)
      (record {
        page_is = page_after x ∙ e;
        flow = k.flow;
        known = known_same g C p₀ xs (yes x) p p s.machine t.machine (carries_same g C p₀ p s.machine t.machine y) k.known f q;
      })

  -- the commit in flight is as it was, by the clauses of a step that names its kind
  from_ready : (P : M.ReadyVariables → Type 0) → ((r : M.ReadyVariables) → P r → flying t.machine ≡ r.superblock_write) → M.IsReady s.machine P → flying t.machine ≡ flying s.machine
  from_ready P f h = by_ready (λ m. flying t.machine ≡ flying m) s.machine P f h

  from_other : (P : M.LoadingOtherVariables → Type 0) → ((r : M.LoadingOtherVariables) → P r → flying t.machine ≡ none) → M.IsLoadingOther s.machine P → flying t.machine ≡ flying s.machine
  from_other P f h = by_other (λ m. flying t.machine ≡ flying m) s.machine P f h

  from_superblock : (P : M.LoadingSuperblockVariables → Type 0) → ((r : M.LoadingSuperblockVariables) → P r → flying t.machine ≡ none) → M.IsLoadingSuperblock s.machine P
      → flying t.machine ≡ flying s.machine
  from_superblock P f h = by_superblock (λ m. flying t.machine ≡ flying m) s.machine P f h

  -- no commit is in flight
  none_flying : (p' : Page) → flying t.machine ≡ none → Landed g C p₀ t.machine p' → ⊥
  none_flying p' e h = none_some e h.flies

  -- the present draft and what was dropped
  abbrev draft : Draft
  draft = p.ledger.draft

  abbrev gone : List JournalEntry
  gone = p.account.dropped

  nothing : {xs ys : List JournalEntry} → xs ≡ ys → xs ≡ ys ++ []
  nothing {ys = ys} e = e ∙ sym (append-nil ys)

  -- the machine at Ready, with the relation
  sim_ready : (r : M.ReadyVariables) → s.machine ≡ M.Variables.Ready r → Sim g C par (M.Variables.Ready r) s.disk p.ledger
  sim_ready r e = subst (λ (m : M.Variables). Sim g C par m s.disk p.ledger) e z

  knows_add : (es : List JournalEntry) (h : M.Advance s.machine t.machine D.DiskOp.NoDiskOp es) → sync_reqs_of t.machine ≡ sync_reqs_of s.machine → After (Call.add es) (turn g C (yes (Call.add es)) p)
  unfolding tell enter leaves
  knows_add es h q =
      record {
        page_is = page_after (Call.add es);
        flow = all_added gone draft es ∙ ap (λ (x : List JournalEntry). x ++ es) k.flow ∙ append_assoc p.account.loaded p.account.added es;
        known =
            known_same g C p₀ xs (yes (Call.add es)) p (turn g C (yes (Call.add es)) p) s.machine t.machine
            (record {
              all_more = es;
              all_is = all_added gone draft es;
              set_more = [];
              set_is = nothing refl;
              no_landing = λ l. record { id = l.id; flies = sym (from_ready (λ r. M.AdvanceClauses r t.machine D.DiskOp.NoDiskOp es) (λ r c. ap flying c.next) h) ∙ l.flies; none_asked = l.none_asked };
            })
            k.known (λ id e. refl) q;
      }

  knows_freeze : M.Freeze s.machine t.machine D.DiskOp.NoDiskOp → sync_reqs_of t.machine ≡ sync_reqs3to2 (sync_reqs_of s.machine) → After Call.freeze (turn g C (yes Call.freeze) p)
  unfolding tell enter leaves
  knows_freeze h q =
      record {
        page_is = page_after Call.freeze;
        flow = all_frozen gone draft ∙ k.flow;
        known =
            known_moved g C p₀ xs (yes Call.freeze) p (turn g C (yes Call.freeze) p) s.machine t.machine
            (record {
              all_more = [];
              all_is = nothing (all_frozen gone draft);
              set_more = draft.memory;
              set_is = set_frozen gone draft;
              no_landing = λ l. absurd (none_flying (turn g C (yes Call.freeze) p) calm l);
            })
            k.known (λ id e. refl) [] (nothing (set_frozen gone draft)) (none_flying (turn g C (yes Call.freeze) p) calm) q;
      }
    where
      r : (r : M.ReadyVariables) × (s.machine ≡ M.Variables.Ready r) × M.FreezeClauses r t.machine D.DiskOp.NoDiskOp
      r = ready_is s.machine (λ r. M.FreezeClauses r t.machine D.DiskOp.NoDiskOp) h

      calm : flying t.machine ≡ none
      calm = ap flying r.2.next ∙ r.2.no_write

  -- a write: of the frozen ones, else of those in memory
  module _ (x : Call) (turned : turn g C (yes x) p ≡ record { ledger = record { kept = p.ledger.kept; draft = written_of draft.frozen draft; request = p.ledger.request }; account = p.account })
      (f : (id : ℕ) → Leaves id (yes x)) (r : M.ReadyVariables) (ready : s.machine ≡ M.Variables.Ready r) (calm : flying t.machine ≡ none)
      (syncs : sync_reqs_of t.machine ≡ if_none r.in_memory_journal_frozen (sync_reqs3to2 r.sync_reqs) r.sync_reqs) where
    abbrev wrote : List JournalEntry → Page
    wrote es = record { ledger = record { kept = p.ledger.kept; draft = written_of es draft; request = p.ledger.request }; account = p.account }

    knows_wrote : (es : List JournalEntry) → draft.frozen ≡ es → After x (wrote es)
    knows_wrote [] e =
        record {
          page_is = page_after x ∙ turned ∙ ap wrote e;
          flow = all_written gone draft e ∙ k.flow;
          known =
              known_moved g C p₀ xs (yes x) p (wrote []) s.machine t.machine
              (record {
                all_more = [];
                all_is = nothing (all_written gone draft e);
                set_more = draft.memory;
                set_is = set_written gone draft e;
                no_landing = λ l. absurd (none_flying (wrote []) calm l);
              })
              k.known f [] (nothing (set_written gone draft e)) (none_flying (wrote []) calm)
              (syncs ∙ ap (λ (es : List JournalEntry). if_none es (sync_reqs3to2 r.sync_reqs) r.sync_reqs) ((sim_ready r ready).runs.frozen_is ∙ e) ∙ ap (λ (m : M.Variables). sync_reqs3to2 (sync_reqs_of m)) (sym ready));
        }
    knows_wrote (y ∷ ys) e =
        record {
          page_is = page_after x ∙ turned ∙ ap wrote e;
          flow = all_wrote gone draft y ys e ∙ k.flow;
          known =
              known_same g C p₀ xs (yes x) p (wrote (y ∷ ys)) s.machine t.machine
              (record {
                all_more = [];
                all_is = nothing (all_wrote gone draft y ys e);
                set_more = [];
                set_is = nothing (set_wrote gone draft y ys e);
                no_landing = λ l. absurd (none_flying (wrote (y ∷ ys)) calm l);
              })
              k.known f
              (syncs ∙ ap (λ (es : List JournalEntry). if_none es (sync_reqs3to2 r.sync_reqs) r.sync_reqs) ((sim_ready r ready).runs.frozen_is ∙ e) ∙ ap sync_reqs_of (sym ready));
        }

    pub knows_write : After x (turn g C (yes x) p)
    knows_write = subst (After x) (sym turned) (knows_wrote draft.frozen refl)

  -- a commit request: with none in memory, sync requests at State3 go to State2
  module _ (x : Call) (c : Commit) (turned : turn g C (yes x) p ≡ record { ledger = asked c p.ledger; account = p.account }) (f : (id : ℕ) → Leaves id (yes x))
      (r : M.ReadyVariables) (ready : s.machine ≡ M.Variables.Ready r) (none_frozen_is : r.in_memory_journal_frozen ≡ []) (syncs : sync_reqs_of t.machine ≡ idle_sync s.machine) where
    abbrev asked_page : Page
    asked_page = record { ledger = asked c p.ledger; account = p.account }

    not_landed : Landed g C p₀ t.machine asked_page → ⊥
    not_landed l = none_some l.none_asked refl

    asked_carries : Carries g C p₀ p asked_page s.machine t.machine
    asked_carries = record { all_more = []; all_is = nothing refl; set_more = []; set_is = nothing refl; no_landing = λ l. absurd (not_landed l) }

    knows_idle : (es : List JournalEntry) → r.in_memory_journal ≡ es → AllKnown g C p₀ (xs ++ yes x ∷ []) asked_page t.machine
    knows_idle [] e =
        known_moved g C p₀ xs (yes x) p asked_page s.machine t.machine asked_carries k.known f []
        (nothing (sym (append-nil (set p)) ∙ ap (λ (es : List JournalEntry). set p ++ es) (sym (sym (sim_ready r ready).runs.memory_is ∙ e))))
        not_landed
        (syncs ∙ ap idle_sync ready ∙ ap (λ (es : List JournalEntry). if_none es (sync_reqs3to2 r.sync_reqs) r.sync_reqs) e ∙ ap (λ (m : M.Variables). sync_reqs3to2 (sync_reqs_of m)) (sym ready))
    knows_idle (y ∷ ys) e =
        known_same g C p₀ xs (yes x) p asked_page s.machine t.machine asked_carries k.known f
        (syncs ∙ ap idle_sync ready ∙ ap (λ (es : List JournalEntry). if_none es (sync_reqs3to2 r.sync_reqs) r.sync_reqs) e ∙ ap sync_reqs_of (sym ready))

    pub knows_commit : After x (turn g C (yes x) p)
    knows_commit = subst (After x) (sym turned) (record { page_is = page_after x ∙ turned; flow = k.flow; known = knows_idle r.in_memory_journal refl })

  -- the answer to a commit
  knows_answer : (x : Call) → turn g C (yes x) p ≡ p → ((id : ℕ) → Leaves id (yes x)) → (dop : DiskOp) → M.WriteBackSuperblockResp s.machine t.machine dop → D.Next g s.disk t.disk dop
      → sync_reqs_of t.machine ≡ sync_reqs2to1 (sync_reqs_of s.machine) → flying t.machine ≡ none → After x (turn g C (yes x) p)
  knows_answer x e f dop h hd q calm =
      subst (After x) (sym e)
      (record {
        page_is = page_after x ∙ e;
        flow = k.flow;
        known =
            known_answered g C p₀ xs (yes x) p p s.machine t.machine
            (record { all_more = []; all_is = nothing refl; set_more = []; set_is = nothing refl; no_landing = λ l. absurd (none_flying p calm l) })
            k.known f
            (record {
              id = r.2.id;
              flies = ap flying r.1 ∙ sym r.2.waiting;
              none_asked = answer_landed g C par r.0 t.machine s.disk t.disk p.ledger dop (sim_ready r.0 r.1) r.2 hd;
            })
            q;
      })
    where
      r : (r : M.ReadyVariables) × (s.machine ≡ M.Variables.Ready r) × M.WriteBackSuperblockRespClauses r t.machine dop
      r = ready_is s.machine (λ r. M.WriteBackSuperblockRespClauses r t.machine dop) h

  -- a push or a pop leaves the other requests
  knows_other : (x : Call) (i : ℕ) (v : SyncReqStatus) → Leaves i (yes x) → flying t.machine ≡ flying s.machine → sync_reqs_of s.machine i ≡ some v → Known g C p₀ (xs ++ yes x ∷ []) p t.machine i v
  knows_other x i v f y e = carry g C p₀ xs (yes x) p p s.machine t.machine (carries_same g C p₀ p s.machine t.machine y) i f v (k.known i v e)

  -- a push: its request has before it all that was added
  knows_push : (id : ℕ) → sync_reqs_of t.machine ≡ bind (sync_reqs_of s.machine) id State3 → flying t.machine ≡ flying s.machine → After (push_sync id) (turn g C (yes (push_sync id)) p)
  unfolding tell enter leaves
  knows_push id q y =
      record {
        page_is = page_after (push_sync id);
        flow = k.flow;
        known = λ i v e.
            split_eq id i (λ u. own i v u (sym (λ n. q n i) ∙ e))
            (λ u. knows_other (push_sync id) i v (λ w. ap not (ne_eqb id i u)) y (sym (bind_there (sync_reqs_of s.machine) id i State3 u) ∙ sym (λ n. q n i) ∙ e));
      }
    where
      own : (i : ℕ) (v : SyncReqStatus) → id ≡ i → bind (sync_reqs_of s.machine) id State3 i ≡ some v → Known g C p₀ (xs ++ yes (push_sync id) ∷ []) p t.machine i v
      own i v u e =
          subst (λ (n : ℕ). Known g C p₀ (xs ++ yes (push_sync id) ∷ []) p t.machine n v) u
          (subst (Known g C p₀ (xs ++ yes (push_sync id) ∷ []) p t.machine id)
          (same_value (bind_here (sync_reqs_of s.machine) id State3) (ap (bind (sync_reqs_of s.machine) id State3) u ∙ e))
          (since_push g C p₀ xs id (all p) (k.flow ∙ ap before_here (sym k.page_is))))

  knows_pop : (id : ℕ) → sync_reqs_of t.machine ≡ unbind (sync_reqs_of s.machine) id → flying t.machine ≡ flying s.machine → After (pop_sync id) (turn g C (yes (pop_sync id)) p)
  unfolding tell enter leaves
  knows_pop id q y =
      record {
        page_is = page_after (pop_sync id);
        flow = k.flow;
        known = λ i v e.
            split_eq id i
            (λ u. none_some (unbind_here (sync_reqs_of s.machine) id) (ap (unbind (sync_reqs_of s.machine) id) u ∙ sym (λ n. q n i) ∙ e))
            (λ u. knows_other (pop_sync id) i v (λ w. ap not (ne_eqb id i u)) y (sym (unbind_there (sync_reqs_of s.machine) id i u) ∙ sym (λ n. q n i) ∙ e));
      }

  knows_crash : sync_reqs_of t.machine ≡ no_keys → After Call.crash (turn g C (yes Call.crash) p)
  unfolding tell enter leaves
  knows_crash q = record { page_is = page_after Call.crash; flow = all_fresh p.ledger.kept; known = λ id v e. none_some (λ n. q n id) e }

  -- a landing leaves the machine
  knows_land : (which : Bool) → s.machine ≡ t.machine → M.Inv g s.machine → D.ProcessWriteSuperblock s.disk t.disk which → After (Call.land which) (turn g C (yes (Call.land which)) p)
  unfolding tell enter leaves
  knows_land which e inv h =
      record {
        page_is = page_after (Call.land which);
        flow = all_kept g C p₀ par xs p k.page_is which (page_after (Call.land which)) s.machine s.disk h.write z h.waiting ∙ k.flow ∙ same p.ledger.request;
        known =
            subst (AllKnown g C p₀ (xs ++ yes (Call.land which) ∷ []) (turn g C (yes (Call.land which)) p)) e
            (known_landed g C p₀ par xs p k.page_is which (page_after (Call.land which)) s.machine s.disk h.write z inv h.waiting k.known);
      }
    where
      same : (o : Option Request) → before_here p ≡ before_here (record { ledger = p.ledger; account = settled o p.account })
      same none = refl
      same (some q) = refl

  knows_receive : (loc : Location) → flying t.machine ≡ flying s.machine → sync_reqs_of t.machine ≡ sync_reqs_of s.machine → After (Call.receive loc) (turn g C (yes (Call.receive loc)) p)
  unfolding tell enter leaves
  knows_receive loc y q =
      record {
        page_is = page_after (Call.receive loc);
        flow = k.flow;
        known =
            known_same g C p₀ xs (yes (Call.receive loc)) p (turn g C (yes (Call.receive loc)) p) s.machine t.machine
            (record {
              all_more = [];
              all_is = nothing refl;
              set_more = [];
              set_is = nothing refl;
              no_landing = λ l. record { id = l.id; flies = sym y ∙ l.flies; none_asked = l.none_asked };
            })
            k.known (λ id e. refl) q;
      }

  -- a replay leaves the commit in flight
  replay_flying : (m m' : M.Variables) (dop : DiskOp) (es : List JournalEntry) → M.Replay m m' dop es → flying m' ≡ flying m
  replay_flying (M.Variables.Ready r) (M.Variables.Ready r') dop es h = ap (λ (x : M.ReadyVariables). x.superblock_write) h.next
  replay_flying (M.Variables.Ready r) (M.Variables.LoadingOther r') dop es h = absurd h
  replay_flying (M.Variables.Ready r) (M.Variables.LoadingSuperblock r') dop es h = absurd h
  replay_flying (M.Variables.LoadingOther r) m' dop es h = absurd h
  replay_flying (M.Variables.LoadingSuperblock r) m' dop es h = absurd h

  finish_flying : (m m' : M.Variables) (dop : DiskOp) → M.FinishLoadingOtherPhase g C m m' dop → flying m' ≡ flying m
  finish_flying (M.Variables.LoadingOther r) (M.Variables.Ready r') dop h = h.superblock_write_is
  finish_flying (M.Variables.LoadingOther r) (M.Variables.LoadingOther r') dop h = absurd h
  finish_flying (M.Variables.LoadingOther r) (M.Variables.LoadingSuperblock r') dop h = absurd h
  finish_flying (M.Variables.Ready r) m' dop h = absurd h
  finish_flying (M.Variables.LoadingSuperblock r) m' dop h = absurd h

  answer_flying : (m m' : M.Variables) (dop : DiskOp) → M.Inv g m → M.WriteBackSuperblockResp m m' dop → flying m' ≡ none
  answer_flying (M.Variables.Ready r) m' dop inv h = ⊎_elim (λ e. ap flying (h.advance_log_is e)) (λ e. ap flying (h.advance_location_is e)) (inv.if_new h.new h.new_is).commit
  answer_flying (M.Variables.LoadingOther r) m' dop inv h = absurd h
  answer_flying (M.Variables.LoadingSuperblock r) m' dop inv h = absurd h

  knows_tied : (x : Call) (e : Event) → Tied x e → Allowed g C L s t e → After x (turn g C (yes x) p)
  unfolding tell enter leaves
  knows_tied x e (tied_write {id1 = id1} {id2 = id2} {jr = jr}) a =
      let r = ready_is s.machine (λ r. M.WriteBackJournalReqClauses g C r t.machine _ jr) a.step.machine.source in
      knows_write (Call.write_journal id1 id2) refl (λ id w. refl) r.0 r.1 (ap flying r.2.next ∙ r.2.no_write) (ap sync_reqs_of r.2.next)
  knows_tied x e tied_written a = plain x refl (λ id w. refl) (event_sync_is g C L s t e a) (from_ready _ (λ r c. ap flying c.next) a.step.machine)
  knows_tied x e unawaited_written a = plain x refl (λ id w. refl) (event_sync_is g C L s t e a) (ap flying a.step.machine.source.next)
  knows_tied x e (tied_log {id = id}) a =
      let r = ready_is s.machine (λ r. M.WriteBackSuperblockReq-AdvanceLogClauses g r a.step.machine.asked _) a.step.machine.source in
      knows_commit (Call.commit_log id) log refl (λ id w. refl) r.0 r.1 r.2.none_frozen_is (event_sync_is g C L s t e a)
  knows_tied x e (tied_location {id = id}) a =
      let r = ready_is s.machine (λ r. M.WriteBackSuperblockReq-AdvanceLocationClauses g r a.step.machine.asked _) a.step.machine.source in
      knows_commit (Call.commit_location id) location refl (λ id w. refl) r.0 r.1 r.2.none_frozen_is (event_sync_is g C L s t e a)
  knows_tied x e tied_committed a =
      knows_answer x refl (λ id w. refl) _ a.step.machine a.step.disk (event_sync_is g C L s t e a) (answer_flying s.machine t.machine _ a.meets.machine.inv a.step.machine)
  knows_tied x e unawaited_committed a = plain x refl (λ id w. refl) (event_sync_is g C L s t e a) (ap flying a.step.machine.source.next)
  knows_tied x e tied_page a = plain x refl (λ id w. refl) (event_sync_is g C L s t e a) (from_other _ (λ r c. ap flying c.next) a.step.machine)
  knows_tied x e tied_paged a = plain x refl (λ id w. refl) (event_sync_is g C L s t e a) (from_other _ (λ r c. ap flying c.next) a.step.machine.1)
  knows_tied x e tied_damaged a = plain x refl (λ id w. refl) (event_sync_is g C L s t e a) (from_other _ (λ r c. ap flying c.next) a.step.machine)
  knows_tied x e unawaited_paged a = plain x refl (λ id w. refl) (event_sync_is g C L s t e a) (ap flying a.step.machine.source.next)
  knows_tied x e unawaited_damaged a = plain x refl (λ id w. refl) (event_sync_is g C L s t e a) (ap flying a.step.machine.source.next)
  knows_tied x e tied_read a = plain x refl (λ id w. refl) (event_sync_is g C L s t e a) (from_superblock _ (λ r c. ap flying c.next) a.step.machine.source)
  knows_tied x e tied_superblock a = plain x refl (λ id w. refl) (event_sync_is g C L s t e a) (from_superblock _ (λ r c. ap flying c.next) a.step.machine)
  knows_tied x e tied_corrupt a = plain x refl (λ id w. refl) (event_sync_is g C L s t e a) (from_superblock _ (λ r c. ap flying c.next) a.step.machine)
  knows_tied x e unawaited_superblock a = plain x refl (λ id w. refl) (event_sync_is g C L s t e a) (ap flying a.step.machine.source.next)
  knows_tied x e unawaited_corrupt a = plain x refl (λ id w. refl) (event_sync_is g C L s t e a) (ap flying a.step.machine.source.next)
  knows_tied x e tied_finish_superblocks a = plain x refl (λ id w. refl) (event_sync_is g C L s t e a) (from_superblock _ (λ r c. ap flying c.next) a.step.machine)
  knows_tied x e tied_finish_other a = plain x refl (λ id w. refl) (event_sync_is g C L s t e a) (finish_flying s.machine t.machine _ a.step.machine.source)
  knows_tied x e tied_freeze a = knows_freeze a.step.machine (event_sync_is g C L s t e a)
  knows_tied x e (tied_receive {loc = loc}) a = knows_receive loc (from_ready _ (λ r c. ap flying c.next) a.step.machine) (event_sync_is g C L s t e a)
  knows_tied x e (tied_add {es = es}) a = knows_add es a.step.machine.source (event_sync_is g C L s t e a)
  knows_tied x e (tied_replay {es = es}) a = plain x refl (λ id w. refl) (event_sync_is g C L s t e a) (replay_flying s.machine t.machine _ es a.step.machine)
  knows_tied x e (tied_push {id = id}) a = knows_push id (event_sync_is g C L s t e a) (ap flying a.step.machine.next ∙ flying_with (bind (sync_reqs_of s.machine) id State3) s.machine)
  knows_tied x e (tied_pop {id = id}) a = knows_pop id (event_sync_is g C L s t e a) (ap flying a.step.machine.next ∙ flying_with (unbind (sync_reqs_of s.machine) id) s.machine)
  knows_tied x e tied_no_op a = plain x refl (λ id w. refl) (event_sync_is g C L s t e a) (ap flying a.step.machine.source.next)
  knows_tied x e tied_again a = plain x refl (λ id w. refl) (event_sync_is g C L s t e a) (from_superblock _ (λ r c. ap flying c.next) a.step.machine)
  knows_tied x e (tied_land {which = which}) a = knows_land which a.step.machine a.meets.machine.inv a.step.disk
  knows_tied x e tied_crash a = knows_crash (event_sync_is g C L s t e a)

  pub knows_step : (x : Call) → Takes g C L s t x → After x (turn g C (yes x) p)
  knows_step x h = knows_tied x h.event h.tied h.allowed
