use Rattle.std.specs.Prelude.{ℕ, ◌≡◌, Ok}
use Rattle.std.proofs.Common.{◌∙◌, ap}
use Rattle.laws.specs.Choice.{and_then, and_then_left}
use Rattle.journal.specs.Memory.{ask_marks}
use Rattle.image.specs.Image.{Lent, lent, chosen, choice_of, ask_lent, marked, of_slot}
use Rattle.image.proofs.FoundLaws.{marked_number, choice_refused, marked_refused, record_taken, lent_taken, marks_refused, marks_taken, taken_may}
use Rattle.image.proofs.recording.record_marked.Goals as goal
use Rattle.image.proofs.recording.record_marked.Goals.{In_ok-c, In_ok-of_slot}

-- what is lent, and the choice before question 6, of what question 1 comes to
abbrev before : (c : In_ok-c) → Lent
before c = lent c.args.pieces.now c.args.rbytes.now c.args.rlens.now

taken : (c : In_ok-c) → Ok c.in_ok-c.c ≡ choice_of (chosen c.args.g c.args.disk.now (and_then (ask_lent c.args.g c.args.disk.now (before c)) (ask_marks c.args.g c.args.marks.now)))
taken c = c.in_ok-c.ensures ∙ ap (λ (q : ℕ). choice_of (chosen c.args.g c.args.disk.now q)) (marked_number _ _ _ _ _ _ _ c.ask_marked-lent.ensures)

pub returns-in_err-c : goal.returns-in_err-c
returns-in_err-c c =
    let a = c.args in
    let h = c.in_err-c.ensures ∙ ap (λ (q : ℕ). choice_of (chosen a.g a.disk.now q)) (marked_number _ _ _ _ _ _ _ c.ask_marked-lent.ensures) in
    let r = marked_refused a.g a.disk.now (lent a.pieces.now a.rbytes.now a.rlens.now) _ a.marks.now _ _ h c.from_residual.ensures.1 in record { value = r.0; lent_after = r.1 }

pub returns-in_err-of_slot : goal.returns-in_err-of_slot
returns-in_err-of_slot c =
    let a = c.args in
    let l = lent a.pieces.now a.rbytes.now a.rlens.now in
    let d = goal.at.returns-in_err-of_slot c in
    let h = marks_refused a.g a.disk.now l _ _ (taken d.In_ok-c) a.marks.now _ c.ask_readable.ensures _ c.in_err-of_slot.ensures in
    let r = choice_refused a.g a.disk.now l _ _ _ h c.from_residual-in_err-of_slot.ensures.1 in record { value = r.0; lent_after = r.1 }

pub record_chosen-requires : goal.record_chosen-requires
record_chosen-requires c =
    let a = c.args in
    taken_may a.g a.disk.now (lent a.pieces.now a.rbytes.now a.rlens.now) _ _ (λ e. and_then_left _ _ e) (taken (goal.at.record_chosen-requires c).In_ok-c)

pub returns : goal.returns
returns c =
    let a = c.args in
    let l = lent a.pieces.now a.rbytes.now a.rlens.now in
    let h = marks_taken a.g a.disk.now l _ _ (taken (goal.at.returns c).In_ok-c) a.marks.now _ c.ask_readable.ensures _ c.in_ok-of_slot.ensures in record {
      value = record_taken a.g a.disk.now l _ _ h _ c.record_chosen.ensures.value;
      lent_after = lent_taken a.g a.disk.now l _ _ h _ c.record_chosen.ensures.lent_after;
    }
