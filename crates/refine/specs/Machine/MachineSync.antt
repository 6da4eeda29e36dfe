-- PushSyncReq, PopSyncReq and NoOp of a whole machine, in every kind. A step here alters the table of sync requests alone.
use Rattle.std.specs.Prelude.{ℕ, ◌≡◌, refl, [], leb, take, Ok}
use Rattle.std.proofs.Math.Bool.{true}
use Rattle.std.proofs.Math.Path.{sym, ap, subst}
use Rattle.std.proofs.Common.{◌∙◌, arith}
use Rattle.std.proofs.Math.Option.{none, some, map}
use borrow.Author.Tests.{leb-true, eqb-true, eq-eqb}
use Rattle.laws.specs.Choice.{and_then_right, and_then_both, ask_yes, ask_holds, also_left, also_right, ruin, split_eq}
use Rattle.laws.specs.Maps.{map_of_none}
use Rattle.laws.specs.Sets.{Ids, Map, bind, unbind, keys, is_key, ids_of, AtMost}
use Rattle.layout.specs.declared.Geometry.{Geometry}
use Rattle.superblock.specs.declared.DiskOp.{DiskOp}
use Rattle.superblock.specs.declared.DiskOp.TheVariants as op
use Rattle.tables.specs.declared.SyncTable.{SyncTable}
use Rattle.tables.specs.SyncTable.{sync_map, state_map, or_zero, ok_state, SizedSyncs, added_sync, removed_sync}
use Rattle.tables.specs.Rows.{place_of}
use Rattle.tables.proofs.Laws.Counts.{add_asked}
use Rattle.tables.proofs.Laws.SyncTables.{known_state, state_known, syncs_keys, syncs_added, syncs_left, few_syncs_add}
use Rattle.codec.specs.Format.{format}
use Rattle.source.specs.JournalDisk as D
use Rattle.source.specs.JournalCache as M
use Rattle.source.specs.JournalCache.{Variables, SyncReqStatus, State1, State3, sync_reqs_of, with_sync_reqs, PushSyncReqStep, PopSyncReqStep, NoOpStep}
use Rattle.source.specs.Limits.{Limits, limits, MachineCounts}
use Rattle.source.specs.Departures.{Source}
use Rattle.source.specs.Within.{MachineAllowed, MachineWithin}
use Rattle.machine.specs.declared.Machine.{Machine}
use Rattle.machine.specs.Machine.{most_sync_reqs, with_sync}
use Rattle.machine.specs.Lent.{Lent}
use Rattle.machine.specs.Questions.{ask_machine}
use Rattle.machine.specs.Sync.{ask_push_sync_req, push_sync_req_machine, ask_pop_sync_req, pop_sync_req_machine}
use Rattle.machine.specs.Whole.{push_sync_req, pop_sync_req, no_op}
use Rattle.refine.specs.Machine.MachineView.{state_of, syncs_of, machine_of, operation_of, SizedMachine, MachineLent, SyncForm, MachineForm}
use Rattle.refine.specs.Machine.MachineMeets.{machine_met, met_machine, form_counted}
use Rattle.refine.specs.Machine.MachineKinds.{by_kind_is}
use Rattle.refine.specs.Machine.MachineCalls.{taken_by, answered_by_is, sound_same, complete_same}

-- the sync requests of any state: told, put, and few where the counts are
requests_put : (x : Map SyncReqStatus) (s : Variables) → sync_reqs_of (with_sync_reqs x s) ≡ x
requests_put x (Variables.Ready s) = refl
requests_put x (Variables.LoadingOther s) = refl
requests_put x (Variables.LoadingSuperblock s) = refl

requests_few : (L : Limits) (s : Variables) → MachineCounts L s → AtMost L.sync_reqs (keys (sync_reqs_of s))
requests_few L (Variables.Ready s) c = c.sync_few
requests_few L (Variables.LoadingOther s) c = c.sync_few
requests_few L (Variables.LoadingSuperblock s) c = c.sync_few

-- State1 is the number 1
state_one : (n : ℕ) → ok_state n ≡ true → state_of n ≡ State1 → n ≡ 1
unfolding ok_state
state_one n e h =
    let low = leb-true 1 n (also_left (leb 1 n) (leb n 3) e) in
    let high = leb-true n 3 (also_right (leb 1 n) (leb n 3) e) in
    split_eq n 3
    (λ q. let p : state_of 3 ≡ State1 = sym (ap state_of q) ∙ h in ruin (cc))
    (λ three.
    split_eq n 2
    (λ q. let p : state_of 2 ≡ State1 = sym (ap state_of q) ∙ h in ruin (cc))
    (λ two. omega arith))

module _ (g : Geometry) (l : Lent) (m : Machine) where
  -- the requests of the view are the table's, and another table alters nothing else
  pub requests_seen : sync_reqs_of (machine_of g l m) ≡ syncs_of m
  requests_seen = by_kind_is (λ x. sync_reqs_of (machine_of g l x) ≡ syncs_of x) m refl refl refl

  table_seen : (t : SyncTable) (x : Map SyncReqStatus) → sync_map state_of t ≡ x → machine_of g l (with_sync m t) ≡ with_sync_reqs x (machine_of g l m)
  table_seen t x e =
      by_kind_is (λ y. machine_of g l (with_sync y t) ≡ with_sync_reqs (sync_map state_of t) (machine_of g l y)) m refl refl refl
      ∙ ap (λ (y : Map SyncReqStatus). with_sync_reqs y (machine_of g l m)) e

  module _ (z : SizedSyncs m.sync) (form : SyncForm m.sync) (id : ℕ) where
    abbrev known : Ids
    known = ids_of (take m.sync.count m.sync.ids)

    -- a new one
    push_next : ask_push_sync_req m.sync id ≡ 0 → syncs_of m id ≡ none → machine_of g l (push_sync_req_machine m id) ≡ with_sync_reqs (bind (sync_reqs_of (machine_of g l m)) id State3) (machine_of g l m)
    unfolding ask_push_sync_req push_sync_req_machine
    push_next e n =
        let a = add_asked most_sync_reqs m.sync.count m.sync.ids id e in
        table_seen (added_sync m.sync id 3) _ (syncs_added m.sync state_of z id 3 a.free n ∙ ap (λ (x : Map SyncReqStatus). bind x id State3) (sym requests_seen))

    pub push_clauses : ask_push_sync_req m.sync id ≡ 0 → M.PushSyncReq (machine_of g l m) (machine_of g l (push_sync_req_machine m id)) D.NoDiskOp id
    unfolding ask_push_sync_req
    push_clauses e =
        let a = add_asked most_sync_reqs m.sync.count m.sync.ids id e in
        let n : syncs_of m id ≡ none =
        ap (map state_of) (map_of_none (take m.sync.count m.sync.ids) (take m.sync.count m.sync.states) id a.new) in
        record { op = refl; new = ap (λ (x : Map SyncReqStatus). x id) requests_seen ∙ n; next = push_next e n }

    pub clauses_push : (s' : Variables) (dop : D.DiskOp) → M.PushSyncReq (machine_of g l m) s' dop id → MachineCounts limits s'
        → (ask_push_sync_req m.sync id ≡ 0) × (machine_of g l (push_sync_req_machine m id) ≡ s') × (dop ≡ D.NoDiskOp)
    unfolding ask_push_sync_req
    clauses_push s' dop h c =
        let n : syncs_of m id ≡ none = ap (λ (x : Map SyncReqStatus). x id) (sym requests_seen) ∙ h.new in
        let few : AtMost 32 (keys (bind (syncs_of m) id State3)) =
        subst (λ (x : Map SyncReqStatus). AtMost 32 (keys x))
        (ap sync_reqs_of h.next ∙ requests_put _ (machine_of g l m) ∙ ap (λ (x : Map SyncReqStatus). bind x id State3) requests_seen)
        (requests_few limits s' c) in
        let e = few_syncs_add m.sync state_of z m.sync.count (form_counted m.sync z form) most_sync_reqs id State3 (omega (arith, z.ids_long)) n few in
        (e, push_next e n ∙ sym h.next, h.op)

    -- one that is done
    pop_next : machine_of g l (pop_sync_req_machine m id) ≡ with_sync_reqs (unbind (sync_reqs_of (machine_of g l m)) id) (machine_of g l m)
    unfolding pop_sync_req_machine
    pop_next =
        table_seen (removed_sync m.sync (place_of id (take m.sync.count m.sync.ids))) _
        (syncs_left m.sync state_of z m.sync.count (form_counted m.sync z form) id ∙ ap (λ (x : Map SyncReqStatus). unbind x id) (sym requests_seen))

    pub pop_clauses : ask_pop_sync_req m.sync id ≡ 0 → M.PopSyncReq (machine_of g l m) (machine_of g l (pop_sync_req_machine m id)) D.NoDiskOp id
    unfolding ask_pop_sync_req
    pop_clauses e =
        let q = eqb-true (or_zero (state_map m.sync id)) 1 (ask_yes 6 _ (omega arith) (and_then_right _ _ e)) in
        record { op = refl; done = ap (λ (x : Map SyncReqStatus). x id) requests_seen ∙ state_known m.sync state_of id 1 (omega arith) q; next = pop_next }

    pub clauses_pop : (s' : Variables) (dop : D.DiskOp) → M.PopSyncReq (machine_of g l m) s' dop id
        → (ask_pop_sync_req m.sync id ≡ 0) × (machine_of g l (pop_sync_req_machine m id) ≡ s') × (dop ≡ D.NoDiskOp)
    unfolding ask_pop_sync_req
    clauses_pop s' dop h =
        let s : syncs_of m id ≡ some State1 = ap (λ (x : Map SyncReqStatus). x id) (sym requests_seen) ∙ h.done in
        let there : known id ≡ true = ap (λ (x : Ids). x id) (sym (syncs_keys m.sync state_of z)) ∙ ap is_key s in
        let one = known_state m.sync state_of id State1 1 form.states state_one s in (
          and_then_both _ _ (ask_holds 5 _ there) (ask_holds 6 _ (eq-eqb (or_zero (state_map m.sync id)) 1 one)),
          pop_next ∙ sym h.next,
          h.op,
        )

-- the whole steps
module _ (g : Geometry) (l : Lent) (m : Machine) (z : SizedMachine m) where
  pub push_sound : (id : ℕ) (o : DiskOp) → (push_sync_req g l m id).answer ≡ Ok o
      → MachineAllowed g format limits (machine_of g l m) (machine_of g l (push_sync_req g l m id).machine) (operation_of o []) (Source (PushSyncReqStep id))
  push_sound id o e =
      sound_same g l m z (ask_push_sync_req m.sync id) op.NoDiskOp (push_sync_req_machine m id) [] (Source (PushSyncReqStep id)) o e
      (λ q r met. push_clauses g l m z.syncs met.form.sync id r)

  pub push_complete : MachineLent g l → MachineForm l m → (id : ℕ) (s' : Variables) (dop : D.DiskOp)
      → MachineAllowed g format limits (machine_of g l m) s' dop (Source (PushSyncReqStep id)) → MachineWithin g limits (machine_of g l m) s' dop (Source (PushSyncReqStep id))
      → ((push_sync_req g l m id).answer ≡ Ok op.NoDiskOp) × (dop ≡ operation_of op.NoDiskOp []) × (machine_of g l (push_sync_req g l m id).machine ≡ s')
  push_complete t form id s' dop a within =
      let c = clauses_push g l m z.syncs form.sync id s' dop a.step within.counts in
      let k = complete_same g l m z (ask_push_sync_req m.sync id) op.NoDiskOp (push_sync_req_machine m id) s' t form a.meets c.0 c.1 in
      (k.0, c.2, k.1)

  pub pop_sound : (id : ℕ) (o : DiskOp) → (pop_sync_req g l m id).answer ≡ Ok o
      → MachineAllowed g format limits (machine_of g l m) (machine_of g l (pop_sync_req g l m id).machine) (operation_of o []) (Source (PopSyncReqStep id))
  pop_sound id o e =
      sound_same g l m z (ask_pop_sync_req m.sync id) op.NoDiskOp (pop_sync_req_machine m id) [] (Source (PopSyncReqStep id)) o e
      (λ q r met. pop_clauses g l m z.syncs met.form.sync id r)

  pub pop_complete : MachineLent g l → MachineForm l m → (id : ℕ) (s' : Variables) (dop : D.DiskOp)
      → MachineAllowed g format limits (machine_of g l m) s' dop (Source (PopSyncReqStep id)) → MachineWithin g limits (machine_of g l m) s' dop (Source (PopSyncReqStep id))
      → ((pop_sync_req g l m id).answer ≡ Ok op.NoDiskOp) × (dop ≡ operation_of op.NoDiskOp []) × (machine_of g l (pop_sync_req g l m id).machine ≡ s')
  pop_complete t form id s' dop a within =
      let c = clauses_pop g l m z.syncs form.sync id s' dop a.step in
      let k = complete_same g l m z (ask_pop_sync_req m.sync id) op.NoDiskOp (pop_sync_req_machine m id) s' t form a.meets c.0 c.1 in
      (k.0, c.2, k.1)

  -- NoOp without a disk operation; an answer that nobody awaits is with the answers
  pub no_op_sound : (o : DiskOp) → (no_op g l m).answer ≡ Ok o
      → MachineAllowed g format limits (machine_of g l m) (machine_of g l (no_op g l m).machine) (operation_of o []) (Source NoOpStep)
  no_op_sound o e =
      taken_by g l m (ask_machine g l m) op.NoDiskOp m l l (λ k. refl) [] (Source NoOpStep) o e
      (λ k. (machine_met g l m z k, record { source = record { op = M.NoOpOp.no_op_is refl; next = refl }; unawaited = λ w. w }))

  pub no_op_complete : MachineLent g l → MachineForm l m → (s' : Variables)
      → MachineAllowed g format limits (machine_of g l m) s' (operation_of op.NoDiskOp []) (Source NoOpStep)
      → ((no_op g l m).answer ≡ Ok op.NoDiskOp) × (machine_of g l (no_op g l m).machine ≡ s')
  no_op_complete t form s' a =
      answered_by_is g l m (ask_machine g l m) op.NoDiskOp m l l (λ k. refl) s'
      (met_machine g l m z (record { lent = t; form = form; meets = a.meets }))
      (sym a.step.source.next)
