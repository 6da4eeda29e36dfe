-- What a commit sends tells the number of its questions, and what it is made of.
use Rattle.std.specs.Prelude.{None, Some, Result, Ok, Err}
use Rattle.std.specs.declared.option.Option as code
use Rattle.std.specs.Prelude.{ℕ, Bool, true, false, ◌≡◌, refl}
use Rattle.std.proofs.Common.{sym, ◌∙◌, ap}
use Rattle.laws.specs.Choice.{ask_fails, also_left, not_so, false_true, ruin}
use Rattle.layout.specs.declared.Geometry.{Geometry}
use Rattle.layout.specs.declared.Location.{Location}
use Rattle.superblock.specs.declared.Superblock.{Superblock}
use Rattle.ready.specs.declared.Ready.{Ready}
use Rattle.refusal.specs.declared.Refusal.{Refusal}
use Rattle.refusal.specs.declared.Refusal.TheVariants as no
use Rattle.refusal.specs.Refusal.{refusal, ok_unless, unless_yes, unless_no}
use Rattle.ready.specs.State.{is_received}
use Rattle.ready.specs.CommitSteps.{ask_advance_location, advanced_location, to_location, advance_location}

-- a commit's superblock
module _ (q : ℕ) (superblock : Superblock) (w : Result Superblock Refusal) (e : w ≡ ok_unless q superblock) where
  new_refused : (n : Refusal) → w ≡ Err n → (q ≡ 0 → ⊥) × (n ≡ refusal q)
  new_refused n h = let p = unless_no q superblock n (sym e ∙ h) in (p.0, sym p.1)

  new_sent : (s : Superblock) → w ≡ Ok s → (q ≡ 0) × (s ≡ superblock)
  new_sent s h = let p = unless_yes q superblock s (sym e ∙ h) in (p.0, sym p.1)

-- and a location commit's, by the location last received
unreceived : (g : Geometry) (r : Ready) → is_received r.frozen.frozenLoc ≡ false → ask_advance_location g r ≡ 6
unfolding ask_advance_location
unreceived g r e = ask_fails 6 _ (not_so _ (λ t. false_true (sym e ∙ also_left _ _ (also_left _ _ (also_left _ _ (also_left _ _ t))))))

module _ (g : Geometry) (r : Ready) (w : Result Superblock Refusal) where
  location_refused_by : (x : code.Option Location) → (is_received x ≡ false → ask_advance_location g r ≡ 6) → w ≡ to_location g r x → (n : Refusal) → w ≡ Err n
      → (ask_advance_location g r ≡ 0 → ⊥) × (n ≡ refusal (ask_advance_location g r))
  location_refused_by None f e n h =
      let k = f refl in
      let c : no.Condition ≡ refusal (ask_advance_location g r) = sym (ap refusal k) in (λ z. ruin (cc), cc)
  location_refused_by (Some loc) f e n h = new_refused (ask_advance_location g r) (advanced_location g r loc) w e n h

  pub location_refused : w ≡ advance_location g r → (n : Refusal) → w ≡ Err n → (ask_advance_location g r ≡ 0 → ⊥) × (n ≡ refusal (ask_advance_location g r))
  unfolding advance_location
  location_refused e n h = location_refused_by r.frozen.frozenLoc (unreceived g r) e n h

  location_sent_by : (x : code.Option Location) → w ≡ to_location g r x → (s : Superblock) → w ≡ Ok s
      → (ask_advance_location g r ≡ 0) × ((loc : Location) × (x ≡ Some loc) × (s ≡ advanced_location g r loc))
  location_sent_by None e s h = ruin (cc)
  location_sent_by (Some loc) e s h =
      let k = new_sent (ask_advance_location g r) (advanced_location g r loc) w e s h in (k.0, (loc, refl, k.1))

  pub location_sent : w ≡ advance_location g r → (s : Superblock) → w ≡ Ok s
      → (ask_advance_location g r ≡ 0) × ((loc : Location) × (r.frozen.frozenLoc ≡ Some loc) × (s ≡ advanced_location g r loc))
  unfolding advance_location
  location_sent e s h = location_sent_by r.frozen.frozenLoc e s h
