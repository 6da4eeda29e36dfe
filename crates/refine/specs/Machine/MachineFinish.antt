-- FinishLoadingOtherPhase, whole: the loaded blocks parse in the code's words (question 7) exactly where they do in the source's, and the replay
-- entries that are seen in lent memory after it are the parsed ones.
use Rattle.std.specs.Prelude.{ℕ, ◌*◌, true, ◌≡◌, length, take, Ok}
use Rattle.std.proofs.Math.Path.{refl, ap}
use Rattle.std.proofs.Common.{sym, ◌∙◌, subst, arith, length-take}
use mathlib.Core.List.{List, []}
use Rattle.std.proofs.Math.Option.{some}
use Rattle.laws.specs.Choice.{and_then_left, and_then_right, and_then_both, ask_holds, unless_done}
use Rattle.laws.specs.Cut.{flat, lengths}
use Rattle.laws.specs.Splice.{splice}
use Rattle.laws.specs.Sets.{Map}
use Rattle.layout.specs.declared.Geometry.{Geometry}
use Rattle.superblock.specs.declared.DiskOp.{DiskOp}
use Rattle.superblock.specs.declared.DiskOp.TheVariants as op
use Rattle.range.specs.Form.{length_width, most_entry_length, all_entries, all_parse}
use Rattle.range.specs.Form as Form
use Rattle.range.specs.Ranges.{parse_all_parses, parse_all_entries, parse_all_some, all_entries_count, all_entries_bytes, all_entries_each}
use Rattle.unpacker.specs.Unpack.{ask_unpack, Room, unpack_asked, lent}
use Rattle.memory.specs.ReplayAfter.{filled_entries}
use Rattle.codec.specs.Format.{parse_blocks, format}
use Rattle.loading.specs.declared.LoadingOther.{LoadingOther}
use Rattle.loading.specs.Other.{loading_other_ok, ask_finish_loading_other_phase, loaded_blocks}
use Rattle.ready.specs.State.{loaded}
use Rattle.source.specs.JournalDisk as D
use Rattle.source.specs.JournalCache as M
use Rattle.source.specs.JournalCache.{SyncReqStatus, Variables, LoadingOtherVariables, ReadyVariables, FinishLoadingOtherPhaseStep}
use Rattle.source.specs.Limits.{limits}
use Rattle.source.specs.Departures.{Source, FinishLoadingOtherPhase⁺}
use Rattle.source.specs.Within.{MachineAllowed, MachineWithin}
use Rattle.machine.specs.declared.Machine.{Machine}
use Rattle.machine.specs.Lent.{Lent}
use Rattle.machine.specs.Questions.{ask_machine}
use Rattle.machine.specs.Loading.{ask_finish_loading_other_phase_step, ask_loaded, loaded_machine, finish_loading_other_phase_machine, loaded_replay_bytes, loaded_replay_lens}
use Rattle.machine.specs.Whole.{ask_finish, finish_loading_other_phase, finished_bytes, finished_lens}
use Rattle.refine.specs.Machine.LoadingView.{loading_other_of, other_seen}
use Rattle.refine.specs.Machine.LoadingFinish as L
use Rattle.refine.specs.Machine.ReadyView.{ReadyLent, ready_of}
use Rattle.source.proofs.Laws.Loaded.{loaded_state, loaded_clauses, clauses_loaded}
use Rattle.refine.specs.Machine.ReadyLoaded.{loaded_view}
use Rattle.refine.specs.Machine.MachineView.{syncs_of, machine_of, operation_of, SizedMachine, MachineLent, MachineForm}
use Rattle.refine.specs.Machine.MachineMeets.{KindOk, machine_kind_ok, met_machine}
use Rattle.refine.specs.Machine.MachineCalls.{sound_by, complete_by}
use Rattle.refine.specs.Machine.MachineKinds.{by_kind_is, asked_other_is}

-- Of the two records

module _ (g : Geometry) (l : Lent) (s : LoadingOther) (y : Map SyncReqStatus) where
  abbrev seen : LoadingOtherVariables
  seen = loading_other_of g l.pieces s y

  -- the loaded bytes, and replay memory with their entries
  abbrev bytes : List ℕ
  bytes = take (loaded_blocks s * 4096) l.pieces

  abbrev replayed : ReadyLent
  replayed = record { bytes = l.bytes; lens = l.lens; rbytes = splice l.rbytes 0 (flat (all_entries bytes)); rlens = splice l.rlens 0 (lengths (all_entries bytes)) }

  -- the record after the phase, as it is seen there
  loaded_seen : Room bytes l.rbytes l.rlens → ready_of replayed y (loaded s.superblock s.whichSuperblock (length (all_entries bytes))) ≡ loaded_state seen (all_entries bytes)
  loaded_seen r =
      let few = all_entries_count length_width most_entry_length bytes r.parse in
      let small = all_entries_bytes length_width most_entry_length bytes r.parse in
      loaded_view replayed seen s.superblock s.whichSuperblock (length (all_entries bytes)) refl refl
      ∙ ap (loaded_state seen)
      (filled_entries l.rbytes l.rlens (all_entries bytes) (all_entries_each length_width most_entry_length bytes r.parse)
      (omega (arith, small, r.for_bytes)) (omega (arith, few, r.for_lens)))

  module _ (k : loading_other_ok g s ≡ true) (e : ask_finish_loading_other_phase g s ≡ 0) where
    -- the source's parse is the code's
    parses_is : parse_blocks (M.loaded g seen) ≡ Form.parse_journal_range bytes
    unfolding parse_blocks
    parses_is = ap Form.parse_journal_range (L.finish_loading_other_phase_bytes g l.pieces s y k e)

    phase_sound : Room bytes l.rbytes l.rlens
        → FinishLoadingOtherPhase⁺ g format (other_seen g l.pieces s y)
        (Variables.Ready (ready_of replayed y (loaded s.superblock s.whichSuperblock (length (all_entries bytes))))) D.NoDiskOp
    phase_sound r =
        let c = L.finish_loading_other_phase_sound g l.pieces s y k e in
        subst (λ (v : ReadyVariables). FinishLoadingOtherPhase⁺ g format (other_seen g l.pieces s y) (Variables.Ready v) D.NoDiskOp) (sym (loaded_seen r))
        (record {
          source =
              loaded_clauses g format seen (all_entries bytes)
              (record {
                start_in = c.start_in;
                len_in = c.len_in;
                front_in_is = c.front_in_is;
                back_in_is = c.back_in_is;
                parses = parses_is ∙ parse_all_some length_width most_entry_length bytes r.parse;
              });
          position_is = refl;
        })

  -- the loaded blocks are no more than replay memory holds
  room_for : MachineLent g l → all_parse bytes ≡ true → Room bytes l.rbytes l.rlens
  room_for t p =
      let long = length-take (loaded_blocks s * 4096) l.pieces in
      record { parse = p; for_bytes = omega (arith, long, t.pieces_lent, t.rbytes_lent); for_lens = omega (arith, long, t.pieces_lent, t.rlens_lent) }

  phase_complete : MachineLent g l → loading_other_ok g s ≡ true → (s' : Variables) (dop : D.DiskOp) → FinishLoadingOtherPhase⁺ g format (other_seen g l.pieces s y) s' dop
      → (ask_finish_loading_other_phase g s ≡ 0)
      × (ask_unpack bytes l.rbytes l.rlens ≡ 0)
      × (dop ≡ D.NoDiskOp)
      × (Variables.Ready (ready_of replayed y (loaded s.superblock s.whichSuperblock (length (all_entries bytes)))) ≡ s')
  phase_complete t k (Variables.Ready v) dop h =
      let e = L.finish_loading_other_phase_complete g l.pieces s y format v dop h.source in
      let c = clauses_loaded g format seen v dop h.source h.position_is in
      let p : Form.parse_journal_range bytes ≡ some v.replay_journal = sym (parses_is k e) ∙ c.0.parses in
      let r = room_for t (parse_all_parses length_width most_entry_length bytes v.replay_journal p) in (
        e,
        lent bytes l.rbytes l.rlens r.for_bytes r.for_lens ∙ ask_holds 7 (all_parse bytes) r.parse,
        c.2,
        ap Variables.Ready
            (loaded_seen r ∙ ap (loaded_state seen) (parse_all_entries length_width most_entry_length bytes v.replay_journal p) ∙ c.1),
      )
  phase_complete t k (Variables.LoadingOther v) dop h = absurd h.source
  phase_complete t k (Variables.LoadingSuperblock v) dop h = absurd h.source

-- Of the whole machine

-- lent memory with other replay memory
abbrev pub with_replay : Lent → List ℕ → List ℕ → Lent
with_replay l rbytes rlens = record { bytes = l.bytes; lens = l.lens; pieces = l.pieces; rbytes = rbytes; rlens = rlens }

-- lent memory after the step; what it is where the step is taken, and the view then
abbrev pub finished_lent : Geometry → Lent → Machine → Lent
finished_lent g l m = with_replay l (finished_bytes g l m) (finished_lens g l m)

abbrev pub after : Lent → Machine → Lent
after l m = with_replay l (loaded_replay_bytes m l.pieces l.rbytes) (loaded_replay_lens m l.pieces l.rlens)

abbrev pub seen_after : Geometry → Lent → Machine → Variables
seen_after g l m = machine_of g (after l m) (finish_loading_other_phase_machine m l.pieces)

module _ (g : Geometry) (l : Lent) (m : Machine) where
  same_lent : ask_finish g l m ≡ 0 → finished_lent g l m ≡ after l m
  same_lent e =
      λ i.
      with_replay l (unless_done (ask_finish g l m) l.rbytes (loaded_replay_bytes m l.pieces l.rbytes) e i)
      (unless_done (ask_finish g l m) l.rlens (loaded_replay_lens m l.pieces l.rlens) e i)

  pub finish_loading_other_phase_clauses : ask_machine g l m ≡ 0 → ask_loaded g m l.pieces l.rbytes l.rlens ≡ 0
      → FinishLoadingOtherPhase⁺ g format (machine_of g l m) (seen_after g l m) D.NoDiskOp
  unfolding ask_loaded ask_finish_loading_other_phase_step loaded_machine
  finish_loading_other_phase_clauses a e =
      asked_other_is
      (λ m.
      KindOk g m
      → FinishLoadingOtherPhase⁺ g format (machine_of g l m) (seen_after g l m) D.NoDiskOp)
      m (and_then_left _ _ (and_then_left _ _ e))
      (λ k. phase_sound g l m.other (syncs_of m) k (and_then_right _ _ (and_then_left _ _ e)) (unpack_asked _ _ _ (and_then_right _ _ e)))
      (machine_kind_ok g l m a)

  pub clauses_finish_loading_other_phase : MachineLent g l → KindOk g m → (s' : Variables) (dop : D.DiskOp) → FinishLoadingOtherPhase⁺ g format (machine_of g l m) s' dop
      → (ask_loaded g m l.pieces l.rbytes l.rlens ≡ 0)
      × (dop ≡ D.NoDiskOp)
      × (seen_after g l m ≡ s')
  unfolding ask_loaded ask_finish_loading_other_phase_step loaded_machine
  clauses_finish_loading_other_phase t k s' dop =
      by_kind_is
      (λ m.
      KindOk g m → FinishLoadingOtherPhase⁺ g format (machine_of g l m) s' dop
      → (ask_loaded g m l.pieces l.rbytes l.rlens ≡ 0)
      × (dop ≡ D.NoDiskOp)
      × (seen_after g l m ≡ s'))
      m
      (λ k h. absurd h.source)
      (λ k h.
      let c = phase_complete g l m.other (syncs_of m) t k s' dop h in
      (and_then_both _ _ (and_then_both 0 _ refl c.0) c.1, c.2, c.3))
      (λ k h. absurd h.source)
      k

  module _ (z : SizedMachine m) where
    pub finish_loading_other_phase_sound : (o : DiskOp) → (finish_loading_other_phase g l m).answer ≡ Ok o
        → MachineAllowed g format limits (machine_of g l m) (machine_of g (finished_lent g l m) (finish_loading_other_phase g l m).machine) (operation_of o []) (Source FinishLoadingOtherPhaseStep)
    unfolding ask_finish
    finish_loading_other_phase_sound o e =
        sound_by g l m z (ask_loaded g m l.pieces l.rbytes l.rlens) op.NoDiskOp (finish_loading_other_phase_machine m l.pieces) (finished_lent g l m) (after l m) same_lent
        [] (Source FinishLoadingOtherPhaseStep) o e
        (λ a r h. finish_loading_other_phase_clauses a r)

    pub finish_loading_other_phase_complete : MachineLent g l → MachineForm l m → (s' : Variables) (dop : D.DiskOp)
        → MachineAllowed g format limits (machine_of g l m) s' dop (Source FinishLoadingOtherPhaseStep)
        → MachineWithin g limits (machine_of g l m) s' dop (Source FinishLoadingOtherPhaseStep)
        → ((finish_loading_other_phase g l m).answer ≡ Ok op.NoDiskOp)
        × (dop ≡ operation_of op.NoDiskOp [])
        × (machine_of g (finished_lent g l m) (finish_loading_other_phase g l m).machine ≡ s')
    unfolding ask_finish
    finish_loading_other_phase_complete t f s' dop h i =
        let q = met_machine g l m z (record { lent = t; form = f; meets = h.meets }) in
        let c = clauses_finish_loading_other_phase t (machine_kind_ok g l m q) s' dop h.step in
        let a =
        complete_by g l m z (ask_loaded g m l.pieces l.rbytes l.rlens) op.NoDiskOp (finish_loading_other_phase_machine m l.pieces) (finished_lent g l m) (after l m) same_lent
        s' t f h.meets c.0 c.2 in
        (a.0, c.1, a.1)
