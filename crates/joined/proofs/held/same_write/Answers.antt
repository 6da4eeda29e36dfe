use Rattle.std.specs.Option.{option_eq}
use Rattle.std.proofs.Common.{◌≡◌, ◌∙◌}
use Rattle.std.specs.Prelude.{None, Some, Bool, refl, eqb}
use Rattle.std.specs.declared.option.Option as code
use Rattle.laws.specs.Choice.{also}
use Rattle.layout.specs.Location.{same_location}
use Rattle.superblock.specs.Superblock.{same_superblock}
use Rattle.requests.specs.declared.SuperblockWrite.{SuperblockWrite}
use Rattle.joined.specs.Held.{same_write}
use Rattle.joined.proofs.held.same_write.Goals as goal

-- two that may be missing are equal by the equality of what is there
by_parts : (same : SuperblockWrite → SuperblockWrite → Bool)
    → ((a b : SuperblockWrite) → same a b ≡ also (eqb a.id b.id) (same_superblock a.superblock b.superblock))
    → (a b : code.Option SuperblockWrite) → option_eq same a b ≡ same_write a b
by_parts same h None None = refl
by_parts same h None (Some b) = refl
by_parts same h (Some a) None = refl
by_parts same h (Some a) (Some b) = h a b

pub returns : goal.returns
unfolding same_superblock also same_location
returns c = c.eq.ensures ∙ by_parts _ (λ a b. search) c.args.awaited c.args.held
