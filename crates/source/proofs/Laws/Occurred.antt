-- 004's predicates of a commit that has landed and is not answered agree with the tests by which its functions decide.
use Rattle.std.specs.Prelude.{true, false, not, ◌≡◌, refl}
use Rattle.std.proofs.Common.{ap}
use Rattle.std.proofs.Math.Option.{Option, none, some, some-injective, none-ne-some}
use Rattle.laws.specs.Choice.{also_left, also_right, also_both, false_true}
use Rattle.superblock.specs.declared.Superblock.{Superblock}
use Rattle.superblock.specs.Laws.{same_superblock_is, superblock_same}
use Rattle.laws.specs.Sets.{at}
use Rattle.source.specs.JournalDisk as D
use Rattle.source.specs.JournalCache as M
use Rattle.source.specs.JournalSystem.{Variables, on_ready, holds_new, is_advance_location, has_update_occurred_unacked, has_location_update_occurred_unacked, HasUpdateOccurredUnackedClauses, HasUpdateOccurredUnacked, HasLocationUpdateOccurredUnacked}

holds_new_is : (slot o : Option Superblock) → holds_new slot o ≡ true → (new : Superblock) × (o ≡ some new) × (slot ≡ o)
holds_new_is none none e = false_true e
holds_new_is (some v) none e = false_true e
holds_new_is none (some new) e = false_true e
holds_new_is (some v) (some new) e = (new, refl, ap (λ (x : Superblock). some x) (same_superblock_is v new e))

new_holds : (slot o : Option Superblock) (new : Superblock) → o ≡ some new → slot ≡ o → holds_new slot o ≡ true
new_holds none none new p q = absurd (none-ne-some new p)
new_holds (some v) none new p q = absurd (none-ne-some new p)
new_holds none (some w) new p q = absurd (none-ne-some w q)
new_holds (some v) (some w) new p q = superblock_same v w (some-injective v w q)

pub update_occurred : (s : Variables) → has_update_occurred_unacked s ≡ true → HasUpdateOccurredUnacked s
update_occurred s = go s.machine
  where
    go : (m : M.Variables) → on_ready m (λ r. holds_new (at s.disk.superblocks (not r.whichSuperblock)) r.new_superblock) false ≡ true
        → M.IsReady m (λ r. HasUpdateOccurredUnackedClauses r s.disk)
    go (M.Variables.Ready r) e =
        let h = holds_new_is (at s.disk.superblocks (not r.whichSuperblock)) r.new_superblock e in
        record { new = h.0; new_is = h.1; landed = h.2 }
    go (M.Variables.LoadingOther r) e = false_true e
    go (M.Variables.LoadingSuperblock r) e = false_true e

pub occurred_update : (s : Variables) → HasUpdateOccurredUnacked s → has_update_occurred_unacked s ≡ true
occurred_update s = go s.machine
  where
    go : (m : M.Variables) → M.IsReady m (λ r. HasUpdateOccurredUnackedClauses r s.disk)
        → on_ready m (λ r. holds_new (at s.disk.superblocks (not r.whichSuperblock)) r.new_superblock) false ≡ true
    go (M.Variables.Ready r) h = new_holds (at s.disk.superblocks (not r.whichSuperblock)) r.new_superblock h.new h.new_is h.landed
    go (M.Variables.LoadingOther r) h = absurd h
    go (M.Variables.LoadingSuperblock r) h = absurd h

is_location_is : (c : M.CommitStatus) → is_advance_location c ≡ true → c ≡ M.CommitStatus.CommitAdvanceLocation
is_location_is M.CommitStatus.CommitNone e = false_true e
is_location_is M.CommitStatus.CommitAdvanceLog e = false_true e
is_location_is M.CommitStatus.CommitAdvanceLocation e = refl

pub location_update_occurred : (s : Variables) → has_location_update_occurred_unacked s ≡ true → HasLocationUpdateOccurredUnacked s
location_update_occurred s e = (update_occurred s (also_left _ _ e), go s.machine (also_right _ _ e))
  where
    go : (m : M.Variables) → on_ready m (λ r. is_advance_location r.commit_status) false ≡ true → M.IsReady m (λ r. r.commit_status ≡ M.CommitStatus.CommitAdvanceLocation)
    go (M.Variables.Ready r) e = is_location_is r.commit_status e
    go (M.Variables.LoadingOther r) e = false_true e
    go (M.Variables.LoadingSuperblock r) e = false_true e

pub occurred_location_update : (s : Variables) → HasLocationUpdateOccurredUnacked s → has_location_update_occurred_unacked s ≡ true
occurred_location_update s h = also_both _ _ (occurred_update s h.0) (go s.machine h.1)
  where
    go : (m : M.Variables) → M.IsReady m (λ r. r.commit_status ≡ M.CommitStatus.CommitAdvanceLocation) → on_ready m (λ r. is_advance_location r.commit_status) false ≡ true
    go (M.Variables.Ready r) e = ap is_advance_location e
    go (M.Variables.LoadingOther r) e = absurd e
    go (M.Variables.LoadingSuperblock r) e = absurd e
