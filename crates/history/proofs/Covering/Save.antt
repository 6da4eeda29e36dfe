-- A save with nothing new entered: from any idle store that question 2 passes, handed ones too, a log commit, its landing and its answer are taken,
-- whatever the commit's id; and wherever they are, every sync request that was there is at State1.
use Rattle.std.specs.Prelude.{ℕ, Bool, true, false, not, ◌≡◌, refl, List, [], ◌∷◌}
use Rattle.std.proofs.Common.{sym, ◌∙◌, ap, subst, arith}
use Rattle.std.proofs.Math.Option.{Option, none, some, map}
use Rattle.laws.specs.Sets.{empty_ids, Map, no_keys, bind, keys, AtMost, Two, both, at, put, none_some, bind_here, at_put, put_put}
use Rattle.laws.specs.Maps.{no_keys_some, no_keys_of, keys_each}
use Rattle.layout.specs.declared.Geometry.{Geometry}
use Rattle.layout.specs.Geometry.{ValidGeometry}
use Rattle.superblock.specs.declared.Superblock.{Superblock}
use Rattle.superblock.specs.Laws.{WFSuperblock}
use Rattle.codec.specs.Codec.{JournalEntry, Codec}
use Rattle.source.specs.JournalDisk as D
use Rattle.source.specs.JournalDisk.{ReqId, ReqWriteSuperblock, ReqWriteSuperblockId, ReqWriteSuperblockOp}
use Rattle.source.specs.JournalCache as M
use Rattle.source.specs.JournalCache.{SyncReqStatus, State1, State2, State3, CommitAdvanceLog, status3to2, status2to1, sync_reqs_of, sync_reqs3to2, sync_reqs2to1, with_sync_reqs, if_none, IsReady, advanced_log}
use Rattle.source.specs.JournalSystem as Y
use Rattle.source.specs.JournalSystem.{WFDisk}
use Rattle.source.specs.Limits.{Limits, ReadyCounts, MachineCounts, DiskCounts, Fitting}
use Rattle.source.specs.Meets.{SystemMeets, Joined, awaited_superblock_writes, new_write}
use Rattle.source.specs.Departures.{idle_sync, Event, Allowed}
use Rattle.source.specs.Within.{EventArguments}
use Rattle.source.proofs.Laws.Kept.{halves_kept}
use Rattle.source.proofs.Laws.Sync.{event_sync_is}
use Rattle.history.specs.Ledger.{Call, commit_log, superblock_written, push_sync, land}
use Rattle.history.specs.Statement.{Tied, tied_log, tied_committed, unawaited_committed, tied_push, tied_land, Takes, Trace}
use Rattle.history.specs.Coverage.{Idle, saving, Saved}
use Rattle.history.proofs.Calls.Can.{store, asked_now, asked_disk, logged_now, answered_disk, can_log, can_land, can_answer_log}
use Rattle.history.proofs.Simulation.Commits.{none_there}
use Rattle.history.proofs.Covering.Known.{flying}
use Rattle.history.proofs.Covering.Steps.{flying_with}

-- What the three calls do to the sync requests

-- State3 goes to State2 and State2 to State1
moved_on : (v : SyncReqStatus) → status2to1 (status3to2 v) ≡ State1
moved_on State1 = refl
moved_on State2 = refl
moved_on State3 = refl

-- no entry in memory: the commit request moves them
idle_moves : (m : M.Variables) (r : M.ReadyVariables) → m ≡ M.Variables.Ready r → r.in_memory_journal ≡ [] → idle_sync m ≡ sync_reqs3to2 (sync_reqs_of m)
idle_moves m r e q =
    ap idle_sync e ∙ ap (λ (es : List JournalEntry). if_none es (sync_reqs3to2 r.sync_reqs) r.sync_reqs) q ∙ ap (λ (x : M.Variables). sync_reqs3to2 (sync_reqs_of x)) (sym e)

-- the commit request's id is in flight
log_flies : (g : Geometry) (m m' : M.Variables) (k : ReqId) (which : Bool) (req : ReqWriteSuperblock) → M.WriteBackSuperblockReqAdvanceLog g m m' (ReqWriteSuperblockOp k which req) → flying m' ≡ some k
log_flies g (M.Variables.Ready s) m' k which req h = ap flying h.next ∙ (λ i. some (same h.id h.which h.req h.op i))
  where
    same : (i : ReqId) (w : Bool) (q : ReqWriteSuperblock) → ReqWriteSuperblockOp k which req ≡ ReqWriteSuperblockOp i w q → i ≡ k
    same i w q e = cc
log_flies g (M.Variables.LoadingOther s) m' k which req h = absurd h
log_flies g (M.Variables.LoadingSuperblock s) m' k which req h = absurd h

awaits : (m : M.Variables) (k : ReqId) → flying m ≡ some k → IsReady m (λ s. s.superblock_write ≡ some k)
awaits (M.Variables.Ready s) k e = e
awaits (M.Variables.LoadingOther s) k e = none_some refl e
awaits (M.Variables.LoadingSuperblock s) k e = none_some refl e

module _ (g : Geometry) (C : Codec) (L : Limits) where
  logged : (s t : Y.Variables) (k : ReqId) (e : Event) → Tied (commit_log k) e → Allowed g C L s t e → (sync_reqs_of t.machine ≡ idle_sync s.machine) × (flying t.machine ≡ some k)
  logged s t k e (tied_log {which = which} {req = req}) a = (
    event_sync_is g C L s t e a,
    ap flying a.step.machine.next ∙ flying_with (idle_sync s.machine) a.step.machine.asked ∙ log_flies g s.machine a.step.machine.asked k which req a.step.machine.source,
  )

  landed : (s t : Y.Variables) (which : Bool) (e : Event) → Tied (land which) e → Allowed g C L s t e → t.machine ≡ s.machine
  landed s t which e tied_land a = sym a.step.machine

  answered : (s t : Y.Variables) (k : ReqId) → flying s.machine ≡ some k → (e : Event) → Tied (superblock_written k) e → Allowed g C L s t e → sync_reqs_of t.machine ≡ sync_reqs2to1 (sync_reqs_of s.machine)
  answered s t k f e tied_committed a = event_sync_is g C L s t e a
  answered s t k f e unawaited_committed a = absurd (a.step.machine.unawaited (awaits s.machine k f))

  -- a log commit with no entry in memory, its landing and its answer
  saved_sync : (s t : Y.Variables) (r : M.ReadyVariables) → s.machine ≡ M.Variables.Ready r → r.in_memory_journal ≡ [] → (k : ReqId) (which : Bool)
      → Trace g C L s (saving k which) (true ∷ true ∷ true ∷ []) t → sync_reqs_of t.machine ≡ sync_reqs2to1 (sync_reqs3to2 (sync_reqs_of s.machine))
  saved_sync s t r e q k which h =
      let a = logged s h.0 k h.1.event h.1.tied h.1.allowed in
      let u = h.2 in
      let b = landed h.0 u.0 which u.1.event u.1.tied u.1.allowed in
      let v = u.2 in
      ap (λ (x : Y.Variables). sync_reqs_of x.machine) v.2
      ∙ answered u.0 v.0 k (ap flying b ∙ a.1) v.1.event v.1.tied v.1.allowed
      ∙ ap (λ (x : M.Variables). sync_reqs2to1 (sync_reqs_of x)) b
      ∙ ap sync_reqs2to1 (a.0 ∙ idle_moves s.machine r e q)

  saved_done : (s t : Y.Variables) → sync_reqs_of t.machine ≡ sync_reqs2to1 (sync_reqs3to2 (sync_reqs_of s.machine)) → (id : ℕ) (v : SyncReqStatus) → sync_reqs_of s.machine id ≡ some v
      → sync_reqs_of t.machine id ≡ some State1
  saved_done s t e id v q = (λ i. e i id) ∙ ap (λ (o : Option SyncReqStatus). map status2to1 (map status3to2 o)) q ∙ (λ i. some (moved_on v i))

  pushed : (s t : Y.Variables) (id : ℕ) (e : Event) → Tied (push_sync id) e → Allowed g C L s t e → t.machine ≡ with_sync_reqs (bind (sync_reqs_of s.machine) id State3) s.machine
  pushed s t id e tied_push a = a.step.machine.next

  -- a push on an idle store, and a save
  pub idle_saved : (s t : Y.Variables) (r : M.ReadyVariables) → s.machine ≡ M.Variables.Ready r → Idle r → (id : ℕ) (k : ReqId) (which : Bool)
      → Trace g C L s (push_sync id ∷ saving k which) (true ∷ true ∷ true ∷ true ∷ []) t → sync_reqs_of t.machine id ≡ some State1
  idle_saved s t r e idle id k which h =
      let p = pushed s h.0 id h.1.event h.1.tied h.1.allowed ∙ ap (λ (x : M.Variables). with_sync_reqs (bind (sync_reqs_of x) id State3) x) e in
      saved_done h.0 t (saved_sync h.0 t (M.to_sync_reqs (bind r.sync_reqs id State3) r) p idle.none_in_memory_is k which h.2) id State3
      (ap (λ (x : M.Variables). sync_reqs_of x id) p ∙ bind_here r.sync_reqs id State3)

-- Question 2 after each of them

-- slots as they were, and with a new superblock in one
same_slots : (g : Geometry) (d e : D.Variables) → e.superblocks ≡ d.superblocks → WFDisk g d → WFDisk g e
same_slots g d e q h =
    record {
      first = record { value = h.first.value; holds = ap (λ (x : Two (Option Superblock)). at x false) q ∙ h.first.holds; wf = h.first.wf };
      second = record { value = h.second.value; holds = ap (λ (x : Two (Option Superblock)). at x true) q ∙ h.second.holds; wf = h.second.wf };
    }

new_slot : (g : Geometry) (d : D.Variables) (which : Bool) (new : Superblock) → WFSuperblock g new → WFDisk g d → WFDisk g (D.to_superblocks (put d.superblocks which (some new)) d)
new_slot g d false new w h =
    record { first = record { value = new; holds = refl; wf = w }; second = record { value = h.second.value; holds = h.second.holds; wf = h.second.wf } }
new_slot g d true new w h =
    record { first = record { value = h.first.value; holds = h.first.holds; wf = h.first.wf }; second = record { value = new; holds = refl; wf = w } }

-- with nothing read and no journal write in flight
joined_at : (g : Geometry) (r : M.ReadyVariables) (d : D.Variables) → WFDisk g d → d.req_read_superblocks ≡ both empty_ids → d.req_read_journals ≡ no_keys
    → d.req_write_superblocks ≡ awaited_superblock_writes (M.Variables.Ready r) → d.req_write_journals ≡ no_keys → r.outstanding_journal_writes ≡ empty_ids → Joined g (store r d)
joined_at g r d wf reads pages writes none_written none_outstanding_is =
    record {
      wf = wf;
      superblock_reads_is = reads;
      journal_reads_is = pages;
      superblock_writes = writes;
      journal_writes_is = ap keys none_written ∙ sym none_outstanding_is;
      writes_apart = λ id1 id2 v1 v2 a b o. no_keys_some d.req_write_journals id1 v1 none_written a;
      writes_clear_is = λ id v a. no_keys_some d.req_write_journals id v none_written a;
    }

-- none in either slot
put_none : (which : Bool) → put (both {A = Option ReqWriteSuperblockId} none) which none ≡ both none
put_none false = refl
put_none true = refl

-- the three calls bring nothing
log_in_range : (g : Geometry) (L : Limits) (k : ReqId) (e : Event) → Tied (commit_log k) e → EventArguments g L e
log_in_range g L k e tied_log = record { few = omega arith; fit = tt }

land_in_range : (g : Geometry) (L : Limits) (which : Bool) (e : Event) → Tied (land which) e → EventArguments g L e
land_in_range g L which e tied_land = tt

answer_in_range : (g : Geometry) (L : Limits) (k : ReqId) (e : Event) → Tied (superblock_written k) e → EventArguments g L e
answer_in_range g L k e tied_committed = record { few = omega arith; fit = tt }
answer_in_range g L k e unawaited_committed = record { few = omega arith; fit = tt }

module _ (g : Geometry) (C : Codec) (L : Limits) (fits : Fitting C L) (valid : ValidGeometry g) (r : M.ReadyVariables) (d : D.Variables) (idle : Idle r) (q : SystemMeets g L (store r d)) (k : ReqId) where
  abbrev which : Bool
  which = not r.whichSuperblock

  abbrev new : Superblock
  new = advanced_log r

  abbrev write : ReqWriteSuperblockId
  write = record { id = k; req = record { superblock = new } }

  -- asked for, landed, answered
  abbrev asked : M.ReadyVariables
  asked = asked_now CommitAdvanceLog k new r

  abbrev disk1 : D.Variables
  disk1 = asked_disk r d k new

  abbrev disk2 : D.Variables
  disk2 = D.to_superblocks (put d.superblocks which (some new)) disk1

  abbrev done : M.ReadyVariables
  done = logged_now new asked

  abbrev disk3 : D.Variables
  disk3 = answered_disk disk2 which

  -- question 2 after a call, of both halves by what every step keeps
  kept : (s t : Y.Variables) (x : Call) (h : Takes g C L s t x) → EventArguments g L h.event → MachineCounts L t.machine → DiskCounts L t.disk → Joined g t → SystemMeets g L t
  kept s t x h a machine disk joined =
      let k = halves_kept g C L s t fits h.event h.allowed (record { geometry = valid; arguments = a; machine = machine; disk = disk }) in
      record { machine = k.machine; disk = k.disk; joined = joined }

  none_writing : d.req_write_superblocks ≡ both none
  none_writing = q.joined.superblock_writes ∙ ap (λ (o : Option ReqId). put (both none) which (new_write o r.new_superblock)) idle.no_commit_is ∙ put_none which

  none_written : d.req_write_journals ≡ no_keys
  none_written = no_keys_of d.req_write_journals (q.joined.journal_writes_is ∙ idle.none_outstanding_is)

  -- the counts: what moves is what was there
  sync_few : AtMost L.sync_reqs (keys (idle_sync (M.Variables.Ready r)))
  sync_few =
      subst (λ (x : Map SyncReqStatus). AtMost L.sync_reqs (keys x)) (sym (idle_moves (M.Variables.Ready r) r refl idle.none_in_memory_is))
      (subst (AtMost L.sync_reqs) (sym (keys_each status3to2 r.sync_reqs)) q.machine.counts.sync_few)

  asked_counts : ReadyCounts L asked
  asked_counts =
      record { sync_few = sync_few; writes_few = q.machine.counts.writes_few; pending_few = q.machine.counts.pending_few; pending_small = q.machine.counts.pending_small }

  done_counts : ReadyCounts L done
  done_counts =
      record {
        sync_few = subst (AtMost L.sync_reqs) (sym (keys_each status2to1 (idle_sync (M.Variables.Ready r)))) sync_few;
        writes_few = q.machine.counts.writes_few;
        pending_few = q.machine.counts.pending_few;
        pending_small = q.machine.counts.pending_small;
      }

  disk_counts : (writes : Two (Option ReqWriteSuperblockId)) (slots : Two (Option Superblock)) → DiskCounts L (D.to_req_write_superblocks writes (D.to_superblocks slots d))
  disk_counts writes slots =
      record {
        superblock_reads_few = q.disk.counts.superblock_reads_few;
        journal_reads_few = q.disk.counts.journal_reads_few;
        journal_writes_few = q.disk.counts.journal_writes_few;
      }

  takes_log : Takes g C L (store r d) (store asked disk1) (commit_log k)
  takes_log =
      can_log q (q.machine.inv.write_commit.0 idle.no_commit_is) idle.none_outstanding_is idle.none_frozen_is k
      (λ w e. none_there d.req_write_superblocks false w none_writing e) (λ w e. none_there d.req_write_superblocks true w none_writing e)

  meets1 : SystemMeets g L (store asked disk1)
  meets1 =
      kept (store r d) (store asked disk1) (commit_log k) takes_log (log_in_range g L k takes_log.event takes_log.tied) asked_counts (disk_counts disk1.req_write_superblocks d.superblocks)
      (joined_at g asked disk1 (same_slots g d disk1 refl q.joined.wf) q.joined.superblock_reads_is q.joined.journal_reads_is
      (ap (λ (x : Two (Option ReqWriteSuperblockId)). put x which (some write)) none_writing) none_written idle.none_outstanding_is)

  takes_land : Takes g C L (store asked disk1) (store asked disk2) (land which)
  takes_land = can_land meets1 which write (at_put d.req_write_superblocks which (some write))

  meets2 : SystemMeets g L (store asked disk2)
  meets2 =
      kept (store asked disk1) (store asked disk2) (land which) takes_land (land_in_range g L which takes_land.event takes_land.tied) asked_counts (disk_counts disk2.req_write_superblocks disk2.superblocks)
      (joined_at g asked disk2 (new_slot g disk1 which new (meets1.machine.inv.if_new new refl).new_wf meets1.joined.wf) q.joined.superblock_reads_is q.joined.journal_reads_is
      meets1.joined.superblock_writes none_written idle.none_outstanding_is)

  takes_answer : Takes g C L (store asked disk2) (store done disk3) (superblock_written k)
  takes_answer = can_answer_log meets2 k which new refl refl (at_put d.req_write_superblocks which (some write)) (at_put d.superblocks which (some new)) refl

  meets3 : SystemMeets g L (store done disk3)
  meets3 =
      kept (store asked disk2) (store done disk3) (superblock_written k) takes_answer (answer_in_range g L k takes_answer.event takes_answer.tied) done_counts (disk_counts disk3.req_write_superblocks disk3.superblocks)
      (joined_at g done disk3 (same_slots g disk2 disk3 refl meets2.joined.wf) q.joined.superblock_reads_is q.joined.journal_reads_is
      (put_put d.req_write_superblocks which (some write) none ∙ ap (λ (x : Two (Option ReqWriteSuperblockId)). put x which none) none_writing ∙ put_none which ∙ sym (put_none (not which)))
      none_written idle.none_outstanding_is)

  saves : Saved g C L (store r d) k which
  saves =
      let h : Trace g C L (store r d) (saving k which) (true ∷ true ∷ true ∷ []) (store done disk3) = (store asked disk1, takes_log, (store asked disk2, takes_land, (store done disk3, takes_answer, refl))) in
      record {
        end = store done disk3;
        taken = h;
        meets = meets3;
        done = saved_done g C L (store r d) (store done disk3) (saved_sync g C L (store r d) (store done disk3) r refl idle.none_in_memory_is k which h);
      }

-- a save on an idle store is taken, whatever the commit's id
pub idle_save : (g : Geometry) (C : Codec) (L : Limits) → Fitting C L → ValidGeometry g → (s : Y.Variables) (r : M.ReadyVariables) → s.machine ≡ M.Variables.Ready r → Idle r → SystemMeets g L s → (k : ReqId)
    → Saved g C L s k (not r.whichSuperblock)
idle_save g C L fits valid s r e idle q k =
    let is : s ≡ store r s.disk = (λ i. record { machine = e i; disk = s.disk }) in
    subst (λ (x : Y.Variables). Saved g C L x k (not r.whichSuperblock)) (sym is) (saves g C L fits valid r s.disk idle (subst (SystemMeets g L) is q) k)
