use Rattle.std.specs.Prelude.{◌≡◌, Result, Ok}
use Rattle.std.proofs.Common.{◌∙◌, ap, refl}
use Rattle.refusal.specs.declared.Refusal.{Refusal}
use Rattle.superblock.specs.declared.Superblock.{Superblock}
use Rattle.image.specs.Image.{of_slot, slot_read}
use Rattle.sector.specs.Sector.{sector_size}
use Rattle.image.proofs.ChoosingLaws.{first_refused, second_refused, lent_refused, first_formless, second_formless, chosen_yes}
use Rattle.image.proofs.choosing.choose.Goals as goal
use Rattle.image.proofs.choosing.choose.Goals.{In_ok-s, In_ok-t}

one : (c : In_ok-s) → Ok c.in_ok-s.s ≡ of_slot (slot_read c.args.disk.now 0) 1
one c = c.in_ok-s.ensures ∙ ap (λ (r : Result Superblock Refusal). of_slot r 1) c.read_slot.ensures

two : (c : In_ok-t) → Ok c.in_ok-t.t ≡ of_slot (slot_read c.args.disk.now sector_size) 2
two c = c.in_ok-t.ensures ∙ ap (λ (r : Result Superblock Refusal). of_slot r 2) c.read_slot-2.ensures

pub returns-in_err-s : goal.returns-in_err-s
returns-in_err-s c = first_refused _ _ _ _ _ (c.in_err-s.ensures ∙ ap (λ (r : Result Superblock Refusal). of_slot r 1) c.read_slot.ensures) c.from_residual.ensures.1

pub returns-in_err-t : goal.returns-in_err-t
returns-in_err-t c =
    second_refused _ _ _ _ (one (goal.at.returns-in_err-t c).In_ok-s) _ _
    (c.in_err-t.ensures ∙ ap (λ (r : Result Superblock Refusal). of_slot r 2) c.read_slot-2.ensures) c.from_residual-in_err-t.ensures.1

pub returns-in_err-of_slot : goal.returns-in_err-of_slot
returns-in_err-of_slot c =
    let d = goal.at.returns-in_err-of_slot c in
    lent_refused _ _ _ _ (one d.In_ok-s) _ (two d.In_ok-t) c.args.lent refl _ _ c.in_err-of_slot.ensures c.from_residual-in_err-of_slot.ensures.1

pub returns-in_err-of_slot-2 : goal.returns-in_err-of_slot-2
returns-in_err-of_slot-2 c =
    let d = goal.at.returns-in_err-of_slot-2 c in
    first_formless _ _ _ _ (one d.In_ok-s) _ (two d.In_ok-t) c.args.lent refl _ c.in_ok-of_slot.ensures _ c.ask_formed.ensures _ _ c.in_err-of_slot-2.ensures
    c.from_residual-in_err-of_slot-2.ensures.1

pub returns-in_err-of_slot-3 : goal.returns-in_err-of_slot-3
returns-in_err-of_slot-3 c =
    let d = goal.at.returns-in_err-of_slot-3 c in
    second_formless _ _ _ _ (one d.In_ok-s) _ (two d.In_ok-t) c.args.lent refl _ c.in_ok-of_slot.ensures _ c.ask_formed.ensures _ c.in_ok-of_slot-2.ensures _ c.ask_formed-2.ensures
    _ _ c.in_err-of_slot-3.ensures c.from_residual-in_err-of_slot-3.ensures.1

pub returns : goal.returns
returns c =
    let d = goal.at.returns c in
    chosen_yes _ _ _ _ (one d.In_ok-s) _ (two d.In_ok-t) c.args.lent refl _ c.in_ok-of_slot.ensures _ c.ask_formed.ensures _ c.in_ok-of_slot-2.ensures _ c.ask_formed-2.ensures
    _ c.in_ok-of_slot-3.ensures _ _ c.select_superblock_index-which.ensures c.select_superblock-superblock.ensures
