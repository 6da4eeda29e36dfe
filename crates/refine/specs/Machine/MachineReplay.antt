-- Replay of a whole machine. The entries that the step brings are compared with the next ones of replay memory, which stays.
use Rattle.std.specs.Prelude.{ℕ, ◌≡◌, refl, List, [], Ok}
use Rattle.std.proofs.Math.Bool.{true}
use Rattle.std.proofs.Common.{◌∙◌, subst, arith, leb-true}
use Rattle.std.proofs.Math.Path.{ap}
use Rattle.laws.specs.Choice.{and_then_left, and_then_right, and_then_both, also_left, ask_yes, ask_holds}
use Rattle.laws.specs.Fold.{sum, every}
use Rattle.layout.specs.declared.Geometry.{Geometry}
use Rattle.superblock.specs.declared.DiskOp.{DiskOp}
use Rattle.superblock.specs.declared.DiskOp.TheVariants as op
use Rattle.range.specs.Form.{ok_length}
use Rattle.range.specs.Memory.{view}
use Rattle.lengths.specs.Entries.{part_is}
use Rattle.memory.specs.Given.{Memory, memory, count_of, ask_given, given_asked}
use Rattle.memory.specs.Replay.{is_next, next_of_replay}
use Rattle.memory.specs.ReplayLaws.{Left}
use Rattle.memory.specs.ReplayAfter.{next_is, is_next_is}
use Rattle.ready.specs.State.{replay_left}
use Rattle.codec.specs.Codec.{JournalEntry}
use Rattle.codec.specs.Format.{format}
use Rattle.source.specs.JournalDisk as D
use Rattle.source.specs.JournalCache as M
use Rattle.source.specs.JournalCache.{Variables, ReadyVariables, IsReady, ReplayStep, ReplayClauses}
use Rattle.source.specs.Limits.{limits, StepLimits}
use Rattle.source.specs.Meets.{MachineMeets}
use Rattle.source.specs.Departures.{Source}
use Rattle.source.specs.Within.{MachineAllowed, MachineWithin}
use Rattle.source.proofs.Laws.Cases.{by_ready}
use Rattle.machine.specs.declared.Kind.TheVariants as kind
use Rattle.machine.specs.declared.Machine.{Machine}
use Rattle.machine.specs.Lent.{Lent}
use Rattle.machine.specs.Working.{ask_replay_given, ask_replay_step, replay_machine}
use Rattle.machine.specs.Whole.{replay}
use Rattle.refine.specs.Machine.ReadyForm.{Given}
use Rattle.refine.specs.Machine.ReadyMeets.{meets_replay}
use Rattle.refine.specs.Machine.ReadyReplay as R
use Rattle.refine.specs.Machine.MachineEntries.{asked_entries, entries_asked}
use Rattle.refine.specs.Machine.MachineView.{ready_lent, syncs_of, machine_of, operation_of, SizedMachine, MachineLent, MachineForm, MachineMet}
use Rattle.refine.specs.Machine.MachineCalls.{sound_same, complete_same}
use Rattle.refine.specs.Machine.MachineWork.{work_of, work_asked, asks_work, work_seen, work_form, work_out, work_step}

module _ (g : Geometry) (l : Lent) (m : Machine) (brought sizes : List ℕ) (k : ℕ) where
  abbrev es : List JournalEntry
  es = view brought sizes k

  abbrev given : Memory
  given = memory brought sizes k

  abbrev replays : Memory
  replays = memory l.rbytes l.rlens m.ready.entries.replay

  abbrev next : Machine
  next = replay_machine m (count_of given)

  next_kind : m.kind ≡ kind.Ready → next.kind ≡ kind.Ready
  unfolding replay_machine
  next_kind e = e

  -- what is left of the replay, as the comparison takes it
  left_held : m.kind ≡ kind.Ready → MachineForm l m → MachineMeets g limits (machine_of g l m) → Left replays m.ready.entries.taken
  left_held e form meets =
      let f = work_form g l m e form in
      let r = meets_replay g limits (ready_lent l) (syncs_of m) m.ready refl (subst (MachineMeets g limits) (work_seen g l m e) meets) f in
      let same = part_is m.ready.entries.taken.entries m.ready.entries.replay l.rlens f.replay.taken_within in
      record {
        behind = omega (arith, r.fit);
        held =
            record {
              order = f.replay.taken_within;
              there = r.there;
              each = ap (every (ok_length limits.entry_bytes)) same ∙ r.each;
              fit = omega (arith, r.fit, ap sum same);
            };
      }

  pub replay_clauses : MachineMet g l m → ask_replay_step m l.rbytes l.rlens brought sizes k ≡ 0 → M.Replay (machine_of g l m) (machine_of g l next) D.NoDiskOp es
  unfolding ask_replay_step ask_replay_given is_next replay_machine
  replay_clauses met a =
      let e = work_asked m (and_then_left _ _ a) in
      let rest = and_then_right _ _ a in
      let q : ask_given given ≡ 0 = and_then_left _ _ rest in
      let t : next_of_replay replays m.ready.entries.taken given ≡ true = ask_yes 6 _ (omega arith) (and_then_right _ _ rest) in
      let f = work_form g l m e met.form in
      work_step g l l m next (λ s s'. IsReady s' (λ s'. ReplayClauses s s' D.NoDiskOp es)) e (next_kind e)
      (R.replay_sound (ready_lent l) (syncs_of m) m.ready f.replay brought sizes k (asked_entries brought sizes k q)
      (leb-true k (replay_left m.ready.entries) (also_left _ _ t))
      (next_is replays m.ready.entries.taken given (left_held e met.form met.meets) (given_asked given q) t))

  pub clauses_replay : MachineForm l m → MachineMeets g limits (machine_of g l m) → Given brought sizes k → StepLimits limits (ReplayStep es) → (s' : Variables) (dop : D.DiskOp)
      → M.Replay (machine_of g l m) s' dop es
      → (ask_replay_step m l.rbytes l.rlens brought sizes k ≡ 0) × (machine_of g l next ≡ s') × (dop ≡ D.NoDiskOp)
  unfolding ask_replay_step ask_replay_given replay_machine
  clauses_replay form meets held step s' dop h =
      let w = work_out g l m (λ s. IsReady s' (λ s'. ReplayClauses s s' dop es)) h in
      by_ready
      (λ v. (ask_replay_step m l.rbytes l.rlens brought sizes k ≡ 0) × (machine_of g l next ≡ v) × (dop ≡ D.NoDiskOp)) s' (λ r. ReplayClauses (work_of l m) r dop es)
      (λ r c. shown w.0 r c)
      w.1
    where
      shown : m.kind ≡ kind.Ready → (r : ReadyVariables) → ReplayClauses (work_of l m) r dop es
          → (ask_replay_step m l.rbytes l.rlens brought sizes k ≡ 0) × (machine_of g l next ≡ Variables.Ready r) × (dop ≡ D.NoDiskOp)
      shown e r c =
          let f = work_form g l m e form in
          let q = entries_asked brought sizes k held step.few step.fit in
          let d = R.replay_complete (ready_lent l) (syncs_of m) m.ready f.replay brought sizes k held r dop c in (
            and_then_both _ _ (asks_work m e)
                (and_then_both _ _ q (ask_holds 6 _ (is_next_is replays m.ready.entries.taken given (left_held e form meets) (given_asked given q) d.0 d.1))),
            work_seen g l next (next_kind e) ∙ ap Variables.Ready d.2,
            d.3,
          )

-- the whole step
module _ (g : Geometry) (l : Lent) (m : Machine) (z : SizedMachine m) (brought sizes : List ℕ) (k : ℕ) where
  pub replay_sound : (o : DiskOp) → (replay g l m brought sizes k).answer ≡ Ok o
      → MachineAllowed g format limits (machine_of g l m) (machine_of g l (replay g l m brought sizes k).machine) (operation_of o []) (Source (ReplayStep (view brought sizes k)))
  replay_sound o e =
      sound_same g l m z (ask_replay_step m l.rbytes l.rlens brought sizes k) op.NoDiskOp (next g l m brought sizes k) [] (Source (ReplayStep (view brought sizes k))) o e
      (λ q r met. replay_clauses g l m brought sizes k met r)

  pub replay_complete : MachineLent g l → MachineForm l m → Given brought sizes k → (s' : Variables) (dop : D.DiskOp)
      → MachineAllowed g format limits (machine_of g l m) s' dop (Source (ReplayStep (view brought sizes k)))
      → MachineWithin g limits (machine_of g l m) s' dop (Source (ReplayStep (view brought sizes k)))
      → ((replay g l m brought sizes k).answer ≡ Ok op.NoDiskOp)
      × (dop ≡ operation_of op.NoDiskOp [])
      × (machine_of g l (replay g l m brought sizes k).machine ≡ s')
  replay_complete t form held s' dop a within =
      let c = clauses_replay g l m brought sizes k form a.meets held within.arguments s' dop a.step in
      let r =
      complete_same g l m z (ask_replay_step m l.rbytes l.rlens brought sizes k) op.NoDiskOp (next g l m brought sizes k) s' t form a.meets c.0 c.1 in
      (r.0, c.2, r.1)
