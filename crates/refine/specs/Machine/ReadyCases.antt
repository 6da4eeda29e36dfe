-- The enums of a machine at work, case by case, in the record and in the view.
use Rattle.std.specs.Prelude.{ℕ, ◌≤◌, true, false, cond, not, ◌≡◌, refl, ◌↔◌, eqb, None, Some}
use Rattle.std.specs.declared.option.Option as code
use Rattle.std.proofs.Common.{sym, ◌∙◌, ap, arith, eqb-true, eq-eqb}
use Rattle.std.proofs.Math.Option.{none, some, some-injective}
use Rattle.laws.specs.Choice.{ruin, split_eq, not_so, true_false}
use Rattle.laws.specs.Sets.{none_some}
use Rattle.laws.specs.Optional.{option_of, option_same}
use Rattle.layout.specs.declared.Location.{Location}
use Rattle.loading.specs.Which.{is_second}
use Rattle.ready.specs.declared.Commit.{Commit}
use Rattle.ready.specs.declared.Commit.TheVariants as commit
use Rattle.ready.specs.State.{is_received, is_location, no_commit, awaits_id}
use Rattle.ready.specs.Laws.Facts.{received_is, is_received_is}
use Rattle.source.specs.JournalCache as M
use Rattle.source.specs.JournalCache.{CommitNone}
use Rattle.refine.specs.Machine.ReadyView.{write_of, status_of, new_of}

-- a received location
pub received_seen : (m : code.Option Location) → is_received m ≡ true → M.Some (option_of m)
received_seen None e = ruin (cc)
received_seen (Some loc) e = (loc, refl)

pub seen_received : (m : code.Option Location) → M.Some (option_of m) → is_received m ≡ true
seen_received None s = none_some refl s.1
seen_received (Some loc) s = refl

pub none_seen : (m : code.Option Location) → is_received m ≡ false → option_of m ≡ none
none_seen None e = refl
none_seen (Some loc) e = true_false e

pub seen_none : (m : code.Option Location) → option_of m ≡ none → is_received m ≡ false
seen_none None e = refl
seen_none (Some loc) e = ruin (cc)

pub other_seen_is : (m : code.Option Location) (loc : Location) → is_location m loc ≡ false → option_of m ≡ some loc → ⊥
other_seen_is m loc e h = true_false (sym (is_received_is m loc (option_same m (Some loc) h)) ∙ e)

pub seen_other : (m : code.Option Location) (loc : Location) → (option_of m ≡ some loc → ⊥) → is_location m loc ≡ false
seen_other m loc f = not_so (is_location m loc) (λ e. f (ap option_of (received_is m loc e)))

-- a commit in flight: its id, its status and its superblock go together by the type
pub commit_new : (c : Commit) → M.Some (write_of c) ↔ M.Some (new_of c)
commit_new commit.CommitNone = (λ s. none_some refl s.1, λ s. none_some refl s.1)
commit_new (commit.CommitAdvanceLog id new) = (λ s. (new, refl), λ s. (id, refl))
commit_new (commit.CommitAdvanceLocation id new) = (λ s. (new, refl), λ s. (id, refl))

pub commit_status_is : (c : Commit) → (write_of c ≡ none) ↔ (status_of c ≡ CommitNone)
commit_status_is commit.CommitNone = (λ e. refl, λ e. refl)
commit_status_is (commit.CommitAdvanceLog id new) = (λ e. ruin (cc), λ e. ruin (cc))
commit_status_is (commit.CommitAdvanceLocation id new) = (λ e. ruin (cc), λ e. ruin (cc))

pub none_flight : (c : Commit) → no_commit c ≡ true → write_of c ≡ none
none_flight commit.CommitNone e = refl
none_flight (commit.CommitAdvanceLog id new) e = ruin (cc)
none_flight (commit.CommitAdvanceLocation id new) e = ruin (cc)

pub flight_none : (c : Commit) → write_of c ≡ none → no_commit c ≡ true
flight_none commit.CommitNone e = refl
flight_none (commit.CommitAdvanceLog id new) e = ruin (cc)
flight_none (commit.CommitAdvanceLocation id new) e = ruin (cc)

-- the other slot
pub slot_other : (which : ℕ) → which ≤ 1 → is_second (cond (eqb which 0) 1 0) ≡ not (is_second which)
slot_other which h =
    split_eq which 0
    (λ z. simp z)
    (λ n. let o : which ≡ 1 = omega arith in simp o)

-- the id that a commit in flight awaits
pub awaits_seen : (c : Commit) (id : ℕ) → awaits_id c id ≡ true → write_of c ≡ some id
awaits_seen commit.CommitNone id e = ruin (cc)
awaits_seen (commit.CommitAdvanceLog k new) id e = ap some (eqb-true k id e)
awaits_seen (commit.CommitAdvanceLocation k new) id e = ap some (eqb-true k id e)

pub seen_awaits : (c : Commit) (id : ℕ) → write_of c ≡ some id → awaits_id c id ≡ true
seen_awaits commit.CommitNone id e = none_some refl e
seen_awaits (commit.CommitAdvanceLog k new) id e = eq-eqb k id (some-injective k id e)
seen_awaits (commit.CommitAdvanceLocation k new) id e = eq-eqb k id (some-injective k id e)
