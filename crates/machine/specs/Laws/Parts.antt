-- A location commit's superblock, by the location last received. The code's proofs cite it.
use Rattle.std.specs.Prelude.{ℕ, ◌≡◌, refl, Result, Ok, Err}
use Rattle.std.proofs.Common.{sym, ◌∙◌, ap}
use Rattle.layout.specs.declared.Geometry.{Geometry}
use Rattle.refusal.specs.declared.Refusal.{Refusal}
use Rattle.refusal.specs.Refusal.{ok_unless, unless_ok, unless_err}
use Rattle.superblock.specs.declared.Superblock.{Superblock}
use Rattle.ready.specs.CommitSteps.{ask_advance_location, advanced_location, advance_location}
use Rattle.ready.specs.Laws.Sends.{location_refused, location_sent}
use Rattle.machine.specs.declared.Machine.{Machine}
use Rattle.machine.specs.Working.{new_location, received_or}

pub located : (g : Geometry) (m : Machine) → advance_location g m.ready ≡ ok_unless (ask_advance_location g m.ready) (advanced_location g m.ready (new_location m))
located g m = go (advance_location g m.ready) refl
  where
    sent : Superblock
    sent = advanced_location g m.ready (new_location m)

    asks : ℕ
    asks = ask_advance_location g m.ready

    go : (w : Result Superblock Refusal) → advance_location g m.ready ≡ w → w ≡ ok_unless (ask_advance_location g m.ready) (advanced_location g m.ready (new_location m))
    go (Ok s) h =
        let f = location_sent g m.ready (advance_location g m.ready) refl s h in
        let loc_is : f.1.0 ≡ new_location m = sym (ap (λ l. received_or l m.ready.superblock.indirectionTableLoc) f.1.1) in
        ap Ok (f.1.2 ∙ ap (advanced_location g m.ready) loc_is) ∙ sym (unless_ok asks sent f.0)
    go (Err e) h =
        let f = location_refused g m.ready (advance_location g m.ready) refl e h in
        ap Err f.1 ∙ sym (unless_err asks sent f.0)
