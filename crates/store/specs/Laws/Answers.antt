-- Laws of answers: a step's answer from the machine's and the disk's, and lent memory from the number that decides. The code's proofs cite them.
use Rattle.std.specs.Prelude.{ℕ, ◌≡◌, refl, ◌⊎◌, Ok, Err}
use Rattle.std.proofs.Math.Path.{sym, ap}
use Rattle.std.proofs.Common.{◌∙◌}
use Rattle.std.proofs.Math.Logic.{inl, inr, ⊎_elim}
use Rattle.laws.specs.Choice.{and_then, and_then_first, and_then_done, asked_yes, asked_no, asked_either, split_eq, ruin}
use Rattle.refusal.specs.declared.Refusal.{Refusal}
use Rattle.refusal.specs.Refusal.{refusal}
use Rattle.layout.specs.declared.Geometry.{Geometry}
use Rattle.superblock.specs.declared.DiskOp.{DiskOp}
use Rattle.machine.specs.declared.Machine.{Machine}
use Rattle.machine.specs.Machine as M
use Rattle.machine.specs.Laws.Answers as machineAnswers
use Rattle.disk.specs.Operation.{ask_decision, operation_next}
use Rattle.store.specs.declared.Store.{Store}
use Rattle.store.specs.Store.{StoreStepped}
use Rattle.store.specs.Store.{store, refused, accepted, answered}
use Rattle.store.specs.Steps.{ask_both, both, both_by}

-- one number: a no, and a yes
pub answered_not : (q : ℕ) (n : Refusal) (op : DiskOp) (next s : Store) → (q ≡ 0 → ⊥) × (n ≡ refusal q) → refused s n ≡ answered q op next s
unfolding answered
answered_not q n op next s f = ap (refused s) f.1 ∙ sym (asked_no q (accepted op next) (refused s (refusal q)) f.0)

pub answered_is : (q : ℕ) (o op : DiskOp) (x next s : Store) → q ≡ 0 → o ≡ op → x ≡ next → accepted o x ≡ answered q op next s
unfolding answered
answered_is q o op x next s h p k = (λ i. accepted (p i) (k i)) ∙ sym (asked_yes q (accepted op next) (refused s (refusal q)) h)

-- the answer tells the number
module _ (q : ℕ) (op : DiskOp) (next s : Store) where
  pub asked_next : q ≡ 0 → answered q op next s ≡ accepted op next
  unfolding answered
  asked_next h = asked_yes q (accepted op next) (refused s (refusal q)) h

  pub asked_refused : (q ≡ 0 → ⊥) → answered q op next s ≡ refused s (refusal q)
  unfolding answered
  asked_refused h = asked_no q (accepted op next) (refused s (refusal q)) h

  pub next_asked : (o : DiskOp) → (answered q op next s).answer ≡ Ok o → (q ≡ 0) × (o ≡ op)
  unfolding answered
  next_asked o e =
      ⊎_elim
      (λ y. let p = y.1 in (y.0, cc))
      (λ n. let p = n.1 in ruin (cc))
      (asked_either q (accepted op next) (refused s (refusal q)) (answered q op next s) refl)

  pub refused_asked : (n : Refusal) → (answered q op next s).answer ≡ Err n → q ≡ 0 → ⊥
  refused_asked n e h = let p = asked_next h in ruin (cc)

  pub refused_same : (n : Refusal) → (answered q op next s).answer ≡ Err n → (answered q op next s).store ≡ s
  refused_same n e = ap (λ (r : StoreStepped). r.store) (asked_refused (refused_asked n e))

-- the machine's answer goes to the disk: from the number that decides at the machine
module _ (g : Geometry) (s : Store) where
  pub both_is : (q : ℕ) (op : DiskOp) (next m : Machine) → both_by g s (M.answered q op next m) ≡ both g s q op next
  unfolding both ask_both both_by
  both_is q op next m =
      ⊎_elim
      (λ y. ap (both_by g s) (sym y.1) ∙ by_yes y.0)
      (λ x. ap (both_by g s) (sym x.1) ∙ by_no x.0)
      (cases q)
    where
      cases : (n : ℕ) → ((n ≡ 0) × (M.accepted op next ≡ M.answered n op next m)) ⊎ ((n ≡ 0 → ⊥) × (M.refused m (refusal n) ≡ M.answered n op next m))
      cases n =
          split_eq n 0
          (λ h. inl (h, sym (machineAnswers.asked_next n op next m h)))
          (λ h. inr (h, sym (machineAnswers.asked_refused n op next m h)))

      by_yes : q ≡ 0 → both_by g s (M.accepted op next) ≡ answered (and_then q (ask_decision g s.disk op)) op (store next (operation_next g s.disk op)) s
      by_yes h = ap (λ (n : ℕ). answered n op (store next (operation_next g s.disk op)) s) (sym (and_then_done q (ask_decision g s.disk op) h))

      by_no : (q ≡ 0 → ⊥) → both_by g s (M.refused m (refusal q)) ≡ answered (and_then q (ask_decision g s.disk op)) op (store next (operation_next g s.disk op)) s
      by_no h =
          let f = and_then_first q (ask_decision g s.disk op) h in
          answered_not (and_then q (ask_decision g s.disk op)) (refusal q) op (store next (operation_next g s.disk op)) s ((λ z. h (sym f ∙ z)), ap refusal (sym f))

  pub both_zero : (op : DiskOp) (next : Machine) → both_by g s (M.accepted op next) ≡ both g s 0 op next
  unfolding both ask_both both_by
  both_zero op next = ap (λ (n : ℕ). answered n op (store next (operation_next g s.disk op)) s) (sym (and_then_done 0 (ask_decision g s.disk op) refl))
