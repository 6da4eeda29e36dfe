-- A machine at work: what its kind says of its view, of its form and of its pending memory, so that no step looks at the kind again; and its
-- sync requests, moved on.
use Rattle.std.specs.Prelude.{ℕ, ◌≤◌, ◌≡◌, refl}
use Rattle.std.proofs.Common.{sym, ap, subst, ne_eqb}
use Rattle.laws.specs.Choice.{ruin, split_eq}
use Rattle.layout.specs.declared.Geometry.{Geometry}
use Rattle.tables.specs.declared.SyncTable.{SyncTable}
use Rattle.tables.specs.SyncTable.{sync_map, moved}
use Rattle.tables.proofs.Laws.SyncTables.{syncs_moved}
use Rattle.source.specs.JournalCache.{Variables, ReadyVariables, IsReady, status3to2, status2to1, sync_reqs3to2, sync_reqs2to1}
use Rattle.machine.specs.declared.Kind.{Kind}
use Rattle.machine.specs.declared.Kind.TheVariants as kind
use Rattle.machine.specs.declared.Machine.{Machine}
use Rattle.machine.specs.Machine.{by_kind, ask_ready}
use Rattle.machine.specs.Lent.{Lent}
use Rattle.machine.specs.Questions.{bodies, entry_bodies, bodies_of}
use Rattle.machine.specs.Working.{syncs3to2, syncs2to1}
use Rattle.refine.specs.Machine.ReadyView.{ready_of}
use Rattle.refine.specs.Machine.ReadyForm.{ReadyForm}
use Rattle.refine.specs.Machine.ReadyJournal.{BodiesFound}
use Rattle.refine.specs.Machine.MachineKinds.{of_kind, by_kind_is, asked_ready, seen_ready}
use Rattle.refine.specs.Machine.MachineView.{ready_lent, state_of, syncs_of, machine_of, MachineForm}

-- question 3
module _ (m : Machine) where
  pub work_asked : ask_ready m ≡ 0 → m.kind ≡ kind.Ready
  work_asked e = asked_ready (λ x. x.kind ≡ kind.Ready) m e refl

  pub asks_work : m.kind ≡ kind.Ready → ask_ready m ≡ 0
  asks_work e = ap (λ (k : Kind). by_kind {A = ℕ} k 3 3 0) e

  -- an answer, which is taken in every kind: a machine at work takes it, another stays
  pub by_work : {P : Type 0} → (m.kind ≡ kind.Ready → P) → ((m.kind ≡ kind.Ready → ⊥) → P) → P
  by_work {P} =
      by_kind_is (λ x. (x.kind ≡ kind.Ready → P) → ((x.kind ≡ kind.Ready → ⊥) → P) → P) m
      (λ y n. n (λ e. ruin (cc)))
      (λ y n. n (λ e. ruin (cc)))
      (λ y n. y refl)

  pub work_taken : (x : Machine) → m.kind ≡ kind.Ready → by_kind {A = Machine} m.kind m m x ≡ x
  work_taken x e = ap (λ (k : Kind). by_kind {A = Machine} k m m x) e

  pub work_kept : (x : Machine) → (m.kind ≡ kind.Ready → ⊥) → by_kind {A = Machine} m.kind m m x ≡ m
  work_kept x =
      by_kind_is (λ y. (y.kind ≡ kind.Ready → ⊥) → by_kind {A = Machine} y.kind y y x ≡ y) m
      (λ n. refl)
      (λ n. refl)
      (λ n. absurd (n refl))

-- its view
abbrev pub work_of : Lent → Machine → ReadyVariables
work_of l m = ready_of (ready_lent l) (syncs_of m) m.ready

module _ (g : Geometry) (l : Lent) (m : Machine) where
  pub work_seen : m.kind ≡ kind.Ready → machine_of g l m ≡ Variables.Ready (work_of l m)
  work_seen e = ap (λ (k : Kind). machine_of g l (of_kind m k)) e

  pub work_form : m.kind ≡ kind.Ready → MachineForm l m → ReadyForm (ready_lent l) m.ready
  work_form e f = subst (λ (k : Kind). by_kind k (Unit {0}) (m.other.whichSuperblock ≤ 1) (ReadyForm (ready_lent l) m.ready)) e f.kind

  -- a predicate that names this kind, there and back
  pub work_in : (P : ReadyVariables → Type 0) → m.kind ≡ kind.Ready → P (work_of l m) → IsReady (machine_of g l m) P
  work_in P e h = subst (λ (s : Variables). IsReady s P) (sym (work_seen e)) h

  pub work_out : (P : ReadyVariables → Type 0) → IsReady (machine_of g l m) P → (m.kind ≡ kind.Ready) × P (work_of l m)
  work_out P h = seen_ready (λ x. (x.kind ≡ kind.Ready) × P (work_of l x)) m g l P h (λ q. (refl, q))

-- a step from work to work
pub work_step : (g : Geometry) (l l' : Lent) (m m' : Machine) (P : ReadyVariables → Variables → Type 0) → m.kind ≡ kind.Ready → m'.kind ≡ kind.Ready
    → P (work_of l m) (Variables.Ready (work_of l' m')) → IsReady (machine_of g l m) (λ s. P s (machine_of g l' m'))
work_step g l l' m m' P e e' h = work_in g l m (λ s. P s (machine_of g l' m')) e (subst (P (work_of l m)) (sym (work_seen g l' m' e')) h)

-- what was looked up of its pending memory
pub bodies_found : (l : Lent) (m : Machine) → m.kind ≡ kind.Ready → BodiesFound (ready_lent l) m.ready.entries (bodies_of l.lens m)
unfolding bodies_of
bodies_found l m e =
    record {
      frozen_is = ap (λ (k : Kind). (by_kind k (bodies 0 0) (bodies 0 0) (entry_bodies l.lens m.ready.entries)).frozen) e;
      pending_is = ap (λ (k : Kind). (by_kind k (bodies 0 0) (bodies 0 0) (entry_bodies l.lens m.ready.entries)).pending) e;
    }

-- sync requests that move on
moved_3to2 : (n : ℕ) → state_of (moved 3 2 n) ≡ status3to2 (state_of n)
unfolding moved
moved_3to2 n = split_eq n 3 (λ e. simp e) (λ e. split_eq n 2 (λ h. simp h) (λ h. simp (ne_eqb n 3 e, ne_eqb n 2 h)))

moved_2to1 : (n : ℕ) → state_of (moved 2 1 n) ≡ status2to1 (state_of n)
unfolding moved
moved_2to1 n = split_eq n 3 (λ e. simp e) (λ e. split_eq n 2 (λ h. simp h) (λ h. simp (ne_eqb n 3 e, ne_eqb n 2 h)))

pub syncs_3to2 : (t : SyncTable) → sync_map state_of (syncs3to2 t) ≡ sync_reqs3to2 (sync_map state_of t)
syncs_3to2 t = syncs_moved t state_of 3 2 status3to2 moved_3to2

pub syncs_2to1 : (t : SyncTable) → sync_map state_of (syncs2to1 t) ≡ sync_reqs2to1 (sync_map state_of t)
syncs_2to1 t = syncs_moved t state_of 2 1 status2to1 moved_2to1
