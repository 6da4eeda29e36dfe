use Rattle.std.specs.Prelude.{ℕ, ◌≡◌, Ok}
use Rattle.std.proofs.Common.{◌∙◌, ap}
use Rattle.image.specs.Image.{lent, chosen, choice_of, unmarked}
use Rattle.image.proofs.FoundLaws.{image_number, choice_refused, record_taken, lent_taken, taken_may}
use Rattle.image.proofs.recording.record.Goals as goal
use Rattle.image.proofs.recording.record.Goals.{In_ok-c}

-- the choice that was taken, of what question 1 comes to
taken : (c : In_ok-c) → Ok c.in_ok-c.c ≡ choice_of (unmarked c.args.g c.args.disk.now (lent c.args.pieces.now c.args.rbytes.now c.args.rlens.now))
taken c = c.in_ok-c.ensures ∙ ap (λ (q : ℕ). choice_of (chosen c.args.g c.args.disk.now q)) (image_number _ _ _ _ _ _ c.ask_image-lent.ensures)

pub returns-in_err-c : goal.returns-in_err-c
returns-in_err-c c =
    let a = c.args in
    let h = c.in_err-c.ensures ∙ ap (λ (q : ℕ). choice_of (chosen a.g a.disk.now q)) (image_number _ _ _ _ _ _ c.ask_image-lent.ensures) in
    let r = choice_refused a.g a.disk.now (lent a.pieces.now a.rbytes.now a.rlens.now) _ _ _ h c.from_residual.ensures.1 in record { value = r.0; lent_after = r.1 }

pub record_chosen-requires : goal.record_chosen-requires
record_chosen-requires c =
    let a = c.args in
    taken_may a.g a.disk.now (lent a.pieces.now a.rbytes.now a.rlens.now) _ _ (λ e. e) (taken (goal.at.record_chosen-requires c).In_ok-c)

pub returns : goal.returns
returns c =
    let a = c.args in
    let l = lent a.pieces.now a.rbytes.now a.rlens.now in
    let h = taken (goal.at.returns c).In_ok-c in record {
      value = record_taken a.g a.disk.now l _ _ h _ c.record_chosen.ensures.value;
      lent_after = lent_taken a.g a.disk.now l _ _ h _ c.record_chosen.ensures.lent_after;
    }
