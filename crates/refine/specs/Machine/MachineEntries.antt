-- The entries that a step brings, the first k of what the caller lends, `view brought sizes k`: question 4 of them, and Advance of a whole machine.
use Rattle.std.specs.Prelude.{ℕ, ◌+◌, ◌≤◌, ◌≡◌, length, take, Ok}
use Rattle.std.proofs.Math.Path.{sym, subst}
use Rattle.std.proofs.Common.{◌∙◌, ap, arith, length-take-le, take_all}
use mathlib.Core.List.{List, [], append-nil}
use Rattle.laws.specs.Choice.{and_then_left, and_then_right, and_then_both, unless_done}
use Rattle.laws.specs.Fold.{sum}
use Rattle.laws.specs.Cut.{cut, flat, lengths, length_lengths, length_flat, cut_flat}
use Rattle.laws.specs.Splice.{splice, clipped, clipped_fits}
use Rattle.layout.specs.declared.Geometry.{Geometry}
use Rattle.superblock.specs.declared.DiskOp.{DiskOp}
use Rattle.superblock.specs.declared.DiskOp.TheVariants as op
use Rattle.range.specs.Memory.{view, total, length_view, lengths_view}
use Rattle.memory.specs.Limits.{store_limits}
use Rattle.memory.specs.Given.{memory, count_of, ask_given, ask_added, given_asked, asked_given, added_asked, asked_added}
use Rattle.ready.specs.State.{count}
use Rattle.ready.specs.EntrySteps.{ask_advance, advance_next}
use Rattle.ready.specs.Laws.Asked.{advance_asked}
use Rattle.codec.specs.Codec.{JournalEntry, EntriesFit}
use Rattle.codec.specs.Format.{format}
use Rattle.source.specs.JournalDisk as D
use Rattle.source.specs.JournalCache.{Variables, AdvanceStep, AdvanceClauses}
use Rattle.source.specs.Limits.{limits, MachineCounts, StepLimits}
use Rattle.source.specs.Departures.{Advance⁺, Source}
use Rattle.source.specs.Within.{MachineAllowed, MachineWithin}
use Rattle.machine.specs.declared.Kind.TheVariants as kind
use Rattle.machine.specs.declared.Machine.{Machine}
use Rattle.machine.specs.Lent.{Lent}
use Rattle.machine.specs.Questions.{bodies_of}
use Rattle.machine.specs.Working.{count_in, given_of, ask_advance_step, advance_machine, appended_bytes, appended_lens}
use Rattle.machine.specs.Whole.{ask_add, advance, advanced_bytes, advanced_lens}
use Rattle.machine.specs.Laws.Entries.{given_number, given_count}
use Rattle.refine.specs.Machine.ReadyView.{ready_of}
use Rattle.refine.specs.Machine.ReadyForm.{Given, fit_each}
use Rattle.refine.specs.Machine.ReadyAdvance as A
use Rattle.refine.specs.Machine.ReadyAdvance.{appended_lent}
use Rattle.refine.specs.Machine.MachineView.{ready_lent, syncs_of, machine_of, operation_of, SizedMachine, MachineLent, MachineForm, MachineMet}
use Rattle.refine.specs.Machine.MachineCalls.{sound_by, complete_by}
use Rattle.refine.specs.Machine.MachineWork.{bodies_found, work_of, work_asked, asks_work, work_seen, work_form, work_out, work_step}

module _ (brought sizes : List ℕ) (k : ℕ) where
  -- question 4
  pub asked_entries : ask_given (memory brought sizes k) ≡ 0 → Given brought sizes k
  asked_entries q = let g = given_asked (memory brought sizes k) q in record { there = g.held.there; fit = g.held.fit }

  pub entries_asked : Given brought sizes k → length (view brought sizes k) ≤ limits.step_entries → EntriesFit limits.entry_bytes (view brought sizes k)
      → ask_given (memory brought sizes k) ≡ 0
  entries_asked g few fit =
      asked_given (memory brought sizes k)
      (record {
        few = omega (arith, few, length_view brought sizes k g.there);
        held =
            record {
              order = omega arith;
              there = g.there;
              each = fit_each limits.entry_bytes (view brought sizes k) (take k sizes) (lengths_view brought sizes k g.fit) fit;
              fit = g.fit;
            };
      })

-- any entries can be lent: their bytes, their lengths and their number
pub brought_view : (es : List JournalEntry) → view (flat es) (lengths es) (length es) ≡ es
unfolding view
brought_view es =
    ap (λ (ns : List ℕ). cut ns (flat es)) (take_all (length es) (lengths es) (omega (arith, length_lengths es)))
    ∙ ap (cut (lengths es)) (sym (append-nil (flat es)))
    ∙ cut_flat es []

pub brought_given : (es : List JournalEntry) → Given (flat es) (lengths es) (length es)
brought_given es =
    record {
      there = omega (arith, length_lengths es);
      fit = omega (arith, length_flat es, ap sum (take_all (length es) (lengths es) (omega (arith, length_lengths es))));
    }

module _ (g : Geometry) (l : Lent) (m : Machine) (brought sizes : List ℕ) (k : ℕ) where
  abbrev es : List JournalEntry
  es = view brought sizes k

  abbrev n : ℕ
  n = m.ready.entries.pending

  abbrev held : ℕ
  held = total l.lens n

  -- pending memory with the new entries
  abbrev appended : Lent
  appended =
      record {
        bytes = appended_bytes (bodies_of l.lens m) (count_of (memory brought sizes k)) brought l.bytes;
        lens = appended_lens m (count_of (memory brought sizes k)) sizes l.lens;
        pieces = l.pieces;
        rbytes = l.rbytes;
        rlens = l.rlens;
      }

  abbrev next : Machine
  next = advance_machine m (bodies_of l.lens m) (given_of brought sizes k)

  next_kind : m.kind ≡ kind.Ready → next.kind ≡ kind.Ready
  unfolding advance_machine
  next_kind e = e

  -- questions 6 and 8, over what was looked up and over the numbers of the view
  room_is : m.kind ≡ kind.Ready → ask_added (memory brought sizes k) ≡ 0
      → ask_advance store_limits m.ready (bodies_of l.lens m).pending (count_in (given_of brought sizes k)) ≡ ask_advance store_limits m.ready held (count k (total sizes k))
  room_is e q = λ i. ask_advance store_limits m.ready ((bodies_found l m e).pending_is i) (given_count brought sizes k q i)

  -- the view of the next machine over the memory that it leaves
  module _ (e : m.kind ≡ kind.Ready) (t : MachineLent g l) (q : ask_added (memory brought sizes k) ≡ 0)
      (room : ask_advance store_limits m.ready held (count k (total sizes k)) ≡ 0) where
    bytes_after : clipped l.bytes (bodies_of l.lens m).pending (take (total sizes k) brought) ≡ splice l.bytes held (take (total sizes k) brought)
    bytes_after =
        let may = advance_asked store_limits m.ready held (count k (total sizes k)) room in
        let long = length-take-le (total sizes k) brought (asked_entries brought sizes k (added_asked (memory brought sizes k) q).0).fit in
        ap (λ (at : ℕ). clipped l.bytes at (take (total sizes k) brought)) (bodies_found l m e).pending_is
        ∙ clipped_fits l.bytes held (take (total sizes k) brought) (omega (arith, may.bytes_fit, long, t.bytes_lent))

    lens_after : clipped l.lens n (take k sizes) ≡ splice l.lens n (take k sizes)
    lens_after =
        let may = advance_asked store_limits m.ready held (count k (total sizes k)) room in
        let long = length-take-le k sizes (asked_entries brought sizes k (added_asked (memory brought sizes k) q).0).there in
        clipped_fits l.lens n (take k sizes) (omega (arith, may.entries_fit, long, t.lens_lent))

    advance_view : Variables.Ready (ready_of (appended_lent (ready_lent l) n held brought sizes k) (syncs_of m) (advance_next m.ready (n + k))) ≡ Variables.Ready (work_of appended next)
    unfolding advance_machine
    advance_view =
        λ i.
        Variables.Ready
        (ready_of (record { bytes = sym bytes_after i; lens = sym lens_after i; rbytes = l.rbytes; rlens = l.rlens }) (syncs_of m)
        (advance_next m.ready (n + (sym (given_count brought sizes k q) i).entries)))

  pub advance_clauses : MachineMet g l m → ask_advance_step m (bodies_of l.lens m) (given_of brought sizes k) ≡ 0
      → Advance⁺ (machine_of g l m) (machine_of g appended next) D.NoDiskOp es
  unfolding ask_advance_step
  advance_clauses met a =
      let e = work_asked m (and_then_left _ _ a) in
      let rest = and_then_right _ _ a in
      let q : ask_added (memory brought sizes k) ≡ 0 = sym (given_number brought sizes k) ∙ and_then_left _ _ rest in
      let room = sym (room_is e q) ∙ and_then_right _ _ rest in
      let f = work_form g l m e met.form in
      record {
        source =
            work_step g l appended m next (λ s s'. AdvanceClauses s s' D.NoDiskOp es) e (next_kind e)
            (subst (λ (s' : Variables). AdvanceClauses (work_of l m) s' D.NoDiskOp es) (advance_view e met.lent q room)
            (A.advance_sound (ready_lent l) (syncs_of m) m.ready f.pending brought sizes k (asked_entries brought sizes k (added_asked (memory brought sizes k) q).0) store_limits f.replay room));
        none_blank_is = (added_asked (memory brought sizes k) q).1;
      }

  pub clauses_advance : MachineLent g l → MachineForm l m → Given brought sizes k → StepLimits limits (AdvanceStep es) → (s' : Variables) (dop : D.DiskOp)
      → Advance⁺ (machine_of g l m) s' dop es → MachineCounts limits s'
      → (ask_advance_step m (bodies_of l.lens m) (given_of brought sizes k) ≡ 0) × (machine_of g appended next ≡ s') × (dop ≡ D.NoDiskOp)
  unfolding ask_advance_step
  clauses_advance t form given step s' dop h counts =
      let w = work_out g l m (λ s. AdvanceClauses s s' dop es) h.source in
      let f = work_form g l m w.0 form in
      let few = subst (MachineCounts limits) w.1.next counts in
      let q = asked_added (memory brought sizes k) (entries_asked brought sizes k given step.few step.fit) h.none_blank_is in
      let c = A.advance_complete (ready_lent l) (syncs_of m) m.ready f.pending brought sizes k given store_limits f.replay s' dop w.1 few.pending_few few.pending_small in (
        and_then_both _ _ (asks_work m w.0) (and_then_both _ _ (given_number brought sizes k ∙ q) (room_is w.0 q ∙ c.0)),
        work_seen g appended next (next_kind w.0) ∙ sym (advance_view w.0 t q c.0) ∙ c.1,
        c.2,
      )

-- the whole step: what it leaves of pending memory, too
module _ (g : Geometry) (l : Lent) (m : Machine) (z : SizedMachine m) (brought sizes : List ℕ) (k : ℕ) where
  abbrev pub advanced_lent : Lent
  advanced_lent =
      record { bytes = advanced_bytes g l m brought sizes k; lens = advanced_lens g l m brought sizes k; pieces = l.pieces; rbytes = l.rbytes; rlens = l.rlens }

  lent_advanced : ask_add g l m brought sizes k ≡ 0 → advanced_lent ≡ appended g l m brought sizes k
  lent_advanced q =
      λ i.
      record {
        bytes = unless_done (ask_add g l m brought sizes k) l.bytes (appended g l m brought sizes k).bytes q i;
        lens = unless_done (ask_add g l m brought sizes k) l.lens (appended g l m brought sizes k).lens q i;
        pieces = l.pieces;
        rbytes = l.rbytes;
        rlens = l.rlens;
      }

  pub advance_sound : (o : DiskOp) → (advance g l m brought sizes k).answer ≡ Ok o
      → MachineAllowed g format limits (machine_of g l m) (machine_of g advanced_lent (advance g l m brought sizes k).machine) (operation_of o []) (Source (AdvanceStep (view brought sizes k)))
  unfolding ask_add
  advance_sound o e =
      sound_by g l m z (ask_advance_step m (bodies_of l.lens m) (given_of brought sizes k)) op.NoDiskOp (next g l m brought sizes k) advanced_lent (appended g l m brought sizes k) lent_advanced
      [] (Source (AdvanceStep (view brought sizes k))) o e
      (λ q r met. advance_clauses g l m brought sizes k met r)

  pub advance_complete : MachineLent g l → MachineForm l m → Given brought sizes k → (s' : Variables) (dop : D.DiskOp)
      → MachineAllowed g format limits (machine_of g l m) s' dop (Source (AdvanceStep (view brought sizes k)))
      → MachineWithin g limits (machine_of g l m) s' dop (Source (AdvanceStep (view brought sizes k)))
      → ((advance g l m brought sizes k).answer ≡ Ok op.NoDiskOp)
      × (dop ≡ operation_of op.NoDiskOp [])
      × (machine_of g advanced_lent (advance g l m brought sizes k).machine ≡ s')
  unfolding ask_add
  advance_complete t form given s' dop a within =
      let c = clauses_advance g l m brought sizes k t form given within.arguments s' dop a.step within.counts in
      let r =
      complete_by g l m z (ask_advance_step m (bodies_of l.lens m) (given_of brought sizes k)) op.NoDiskOp (next g l m brought sizes k) advanced_lent (appended g l m brought sizes k) lent_advanced
      s' t form a.meets c.0 c.1 in
      (r.0, c.2, r.1)
