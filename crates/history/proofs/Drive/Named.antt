-- From any state that was reached and loads, the call that the driver names is taken, is within the limits, and leads to a state that was reached and
-- has one less left. Sync requests leave what is left as it is.
use Rattle.std.specs.Prelude.{ℕ, suc, ◌≤◌, Bool, true, false, ◌≡◌, refl, List, [], ◌∷◌, length}
use Rattle.std.proofs.Common.{sym, ◌∙◌, ap, subst, arith}
use Rattle.std.proofs.Math.Option.{Option, none, some}
use Rattle.laws.specs.Choice.{by_eqb, ruin}
use Rattle.layout.specs.declared.Geometry.{Geometry}
use Rattle.layout.specs.Geometry.{ValidGeometry}
use Rattle.interval.specs.declared.JournalInterval.{JournalInterval}
use Rattle.laws.specs.Sets.{Ids, empty_ids, ids_of, Map, no_keys, keys, is_key, bind_there, AtMost, none_few, Two, at, at_both}
use Rattle.laws.specs.Maps.{one_few}
use Rattle.codec.specs.Codec.{Codec}
use Rattle.source.specs.JournalDisk as D
use Rattle.source.specs.JournalDisk.{ReqId}
use Rattle.source.specs.JournalCache as M
use Rattle.source.specs.JournalCache.{journal_interval_of_superblock}
use Rattle.source.specs.JournalSystem as Y
use Rattle.source.specs.Limits.{Limits, limits, Fitting, DiskCounts}
use Rattle.source.specs.Meets.{one_id, bind_read, awaited_superblock_reads, awaited_journal_reads, awaited_journal_writes}
use Rattle.source.specs.Departures.{Event, Allowed}
use Rattle.source.specs.Within.{Within}
use Rattle.history.specs.Ledger.{Call, push_sync, pop_sync, Ledger, tell}
use Rattle.history.specs.Statement.{Tied, tied_push, tied_pop, Takes}
use Rattle.history.proofs.Simulation.Relation.{Sim}
use Rattle.history.proofs.Simulation.Steps.{sim_step}
use Rattle.history.proofs.Reach.Neat.{Neat, sim_journal_writes}
use Rattle.history.proofs.Reach.Reachable.{Reached, neat_tied, reached_step}
use Rattle.history.specs.Driver.{next_call, New, left_at, left}
use Rattle.history.proofs.Drive.Superblocks.{Moves, Driven, superblocks_driven}
use Rattle.history.proofs.Drive.Journal.{journal_driven}

-- one read for each slot, and two of the journal, are within the limits
pub record Rooms (L : Limits) : Type 0 where
  pub superblock_reads_is : 1 ≤ L.superblockReads
  pub journal_reads_is : 2 ≤ L.journalReads

pub limits_rooms : Rooms limits
limits_rooms = record { superblock_reads_is = omega arith; journal_reads_is = omega arith }

one_of : (n : ℕ) (o : Option ReqId) → 1 ≤ n → AtMost n (one_id o)
one_of n none h = none_few n
one_of n (some id) h = one_few n id h

-- the ids of two reads
id_list : Option ReqId → List ℕ → List ℕ
id_list none ks = ks
id_list (some id) ks = id ∷ ks

bound_listed : (o : Option ReqId) (v : Option JournalInterval) (m : Map JournalInterval) (ks : List ℕ) → ((i : ℕ) → keys m i ≡ true → ids_of ks i ≡ true)
    → (i : ℕ) → keys (bind_read o v m) i ≡ true → ids_of (id_list o ks) i ≡ true
unfolding id_list ids_of
bound_listed none v m ks f i e = f i e
bound_listed (some id) none m ks f i e = by_eqb (λ (b : Bool). b ≡ true) id i true (ids_of ks i) (λ h. refl) (λ h. f i e)
bound_listed (some id) (some v) m ks f i e =
    by_eqb (λ (b : Bool). b ≡ true) id i true (ids_of ks i) (λ h. refl) (λ h. f i (sym (ap is_key (bind_there m id i v h)) ∙ e))

length_id_list : (o : Option ReqId) (ks : List ℕ) → length (id_list o ks) ≤ suc (length ks)
unfolding id_list
length_id_list none ks = omega arith
length_id_list (some id) ks = omega arith

module _ (g : Geometry) (C : Codec) (L : Limits) (rooms : Rooms L) where
  superblock_few : (m : M.Variables) (which : Bool) → AtMost L.superblockReads (at (awaited_superblock_reads m) which)
  superblock_few (M.Variables.Ready s) which = subst (AtMost L.superblockReads) (sym (at_both empty_ids which)) (none_few L.superblockReads)
  superblock_few (M.Variables.LoadingOther s) which = subst (AtMost L.superblockReads) (sym (at_both empty_ids which)) (none_few L.superblockReads)
  superblock_few (M.Variables.LoadingSuperblock s) false = one_of L.superblockReads (at s.outstanding_superblock_reads false) rooms.superblock_reads_is
  superblock_few (M.Variables.LoadingSuperblock s) true = one_of L.superblockReads (at s.outstanding_superblock_reads true) rooms.superblock_reads_is

  journal_few : (m : M.Variables) → AtMost L.journalReads (keys (awaited_journal_reads g m))
  journal_few (M.Variables.Ready s) = none_few L.journalReads
  journal_few (M.Variables.LoadingSuperblock s) = none_few L.journalReads
  journal_few (M.Variables.LoadingOther s) =
      let a = length_id_list (at s.journalReads true) [] in
      let b = length_id_list (at s.journalReads false) (id_list (at s.journalReads true) []) in
      record {
        listed = id_list (at s.journalReads false) (id_list (at s.journalReads true) []);
        few = omega (arith, a, b, rooms.journal_reads_is);
        all =
            bound_listed (at s.journalReads false) (journal_interval_of_superblock g false s.superblock) _ _
            (bound_listed (at s.journalReads true) (journal_interval_of_superblock g true s.superblock) no_keys [] (λ i e. ruin (cc)));
      }

  -- a disk that holds what a machine awaits, which writes nothing, is within the limits
  awaited_few : (p : ℕ) (m : M.Variables) (d : D.Variables) (l : Ledger) → Sim g C p m d l → Neat g C m d l.kept → awaited_journal_writes m ≡ empty_ids → DiskCounts L d
  awaited_few p m d l z n u =
      record {
        superblock_reads_few = λ which. subst (λ (r : Two Ids). AtMost L.superblockReads (at r which)) (sym n.reads) (superblock_few m which);
        journal_reads_few = subst (λ (r : Map JournalInterval). AtMost L.journalReads (keys r)) (sym n.pages) (journal_few m);
        journal_writes_few = subst (AtMost L.journalWrites) (sym (sim_journal_writes g C p m d l z ∙ u)) (none_few L.journalWrites);
      }

-- at Ready nothing is left to name
abbrev pub Loading : M.Variables → Type 0
Loading (M.Variables.Ready s) = ⊥
Loading (M.Variables.LoadingOther s) = Unit {0}
Loading (M.Variables.LoadingSuperblock s) = Unit {0}

module _ (g : Geometry) (C : Codec) (L : Limits) (fits : Fitting C L) (rooms : Rooms L) (valid : ValidGeometry g) (p : ℕ) where
  pub record Named (s : Y.Variables) (l : Ledger) (new : ReqId) : Type 0 where
    pub call : Call
    pub named : next_call g s.machine new ≡ some call
    pub next : Y.Variables
    pub takes : Takes g C L s next call
    pub within : Within g L next takes.event
    pub reached : Reached g C L p next (tell g C call l)
    pub one_less : left g s ≡ suc (left g next)

  -- a call that moves on from what was reached is within the limits, and leads to what was reached
  pub moves_on : (s t : Y.Variables) (l : Ledger) (x : Call) → Reached g C L p s l → (h : Moves g C L s t x) → Within g L t h.takes.event × Reached g C L p t (tell g C x l)
  moves_on s t l x r h =
      let k = h.takes in
      let z = sim_step g C L p s t l r.sim x k in
      let n = neat_tied g C L p s t l r.sim r.neat x k.event k.tied k.allowed in
      let w : Within g L t k.event =
      record { geometry = valid; arguments = h.arguments; machine = h.counts; disk = awaited_few g C L rooms p t.machine t.disk (tell g C x l) z n h.unwritten }
      in
      (w, reached_step g C L fits p s t l x r k w)

  by_driven : (s : Y.Variables) (l : Ledger) (new : ReqId) → Reached g C L p s l → (x : Call) → next_call g s.machine new ≡ some x → Driven g C L s x → Named s l new
  by_driven s l new r x e h =
      let on = moves_on s h.next l x r h.moves in
      record { call = x; named = e; next = h.next; takes = h.moves.takes; within = on.0; reached = on.1; one_less = h.one_less }

  pub driver_named : (m : M.Variables) (d : D.Variables) (l : Ledger) (new : ReqId) → Reached g C L p (record { machine = m; disk = d }) l → New d new → Loading m
      → Named (record { machine = m; disk = d }) l new
  driver_named (M.Variables.Ready s) d l new r f h = absurd h
  driver_named (M.Variables.LoadingOther s) d l new r f h =
      let k = journal_driven g C L p s d l r.meets r.sim new f in by_driven _ l new r k.0 k.1 k.2
  driver_named (M.Variables.LoadingSuperblock s) d l new r f h =
      let k = superblocks_driven g C L s d r.meets r.sim.runs.1 new f in by_driven _ l new r k.0 k.1 k.2

-- Sync requests

same_left : (g : Geometry) (m : M.Variables) (d : D.Variables) (x : Map M.SyncReqStatus) → left_at g (M.with_sync_reqs x m) d.superblocks ≡ left_at g m d.superblocks
same_left g (M.Variables.Ready s) d x = refl
same_left g (M.Variables.LoadingOther s) d x = refl
same_left g (M.Variables.LoadingSuperblock s) d x = refl

module _ (g : Geometry) (C : Codec) (L : Limits) (s t : Y.Variables) (id : ℕ) where
  pub push_left : Takes g C L s t (push_sync id) → left g t ≡ left g s
  push_left h = go h.event h.tied h.allowed
    where
      go : (e : Event) → Tied (push_sync id) e → Allowed g C L s t e → left g t ≡ left g s
      go e tied_push a = (λ i. left_at g (a.step.machine.next i) (a.step.disk.next i).superblocks) ∙ same_left g s.machine s.disk _

  pub pop_left : Takes g C L s t (pop_sync id) → left g t ≡ left g s
  pop_left h = go h.event h.tied h.allowed
    where
      go : (e : Event) → Tied (pop_sync id) e → Allowed g C L s t e → left g t ≡ left g s
      go e tied_pop a = (λ i. left_at g (a.step.machine.next i) (a.step.disk.next i).superblocks) ∙ same_left g s.machine s.disk _
