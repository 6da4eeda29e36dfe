-- Laws of answers: how a step's answer and its lent memory follow from the numbers of its questions. The code's proofs cite them.
use Rattle.std.specs.Prelude.{ℕ, ◌≡◌, refl, List, Ok, Err}
use Rattle.std.proofs.Math.Path.{sym, ap}
use Rattle.std.proofs.Common.{◌∙◌}
use Rattle.std.proofs.Math.Logic.{⊎_elim}
use Rattle.laws.specs.Choice.{and_then, and_then_first, and_then_done, unless, unless_kept, unless_done, refused_said, asked_yes, asked_no, asked_either, ruin}
use Rattle.refusal.specs.declared.Refusal.{Refusal}
use Rattle.refusal.specs.Refusal.{refusal}
use Rattle.superblock.specs.declared.DiskOp.{DiskOp}
use Rattle.machine.specs.declared.Machine.{Machine}
use Rattle.machine.specs.declared.MachineStepped.{MachineStepped}
use Rattle.machine.specs.Machine.{refused, accepted, answered}

-- one question: a no, and a yes
module _ (k q : ℕ) (e : k ≡ q) where
  pub answered_no : (op : DiskOp) (next m : Machine) → (k ≡ 0 → ⊥) → refused m (refusal k) ≡ answered q op next m
  unfolding answered
  answered_no op next m h = refused_said k q (accepted op next) (λ (n : ℕ). refused m (refusal n)) e h

  pub answered_yes : (op : DiskOp) (x next m : Machine) → k ≡ 0 → x ≡ next → accepted op x ≡ answered q op next m
  unfolding answered
  answered_yes op x next m h p = ap (accepted op) p ∙ sym (asked_yes q (accepted op next) (refused m (refusal q)) (sym e ∙ h))

  pub kept : (old new : List ℕ) → (k ≡ 0 → ⊥) → old ≡ unless q old new
  kept old new h = sym (unless_kept q old new (λ z. h (e ∙ z)))

  pub changed : (x old new : List ℕ) → k ≡ 0 → x ≡ new → x ≡ unless q old new
  changed x old new h p = p ∙ sym (unless_done q old new (sym e ∙ h))

-- two questions in a row: a no to the first, and a yes
module _ (k q r : ℕ) (e : k ≡ q) where
  pub first_is : (k ≡ 0 → ⊥) → k ≡ and_then q r
  first_is h = e ∙ sym (and_then_first q r (λ z. h (e ∙ z)))

  pub next_is : k ≡ 0 → r ≡ and_then q r
  next_is h = sym (and_then_done q r (sym e ∙ h))

  pub refused_first : (op : DiskOp) (next m : Machine) → (k ≡ 0 → ⊥) → refused m (refusal k) ≡ answered (and_then q r) op next m
  refused_first op next m h = answered_no k (and_then q r) (first_is h) op next m h

  pub answered_next : (op : DiskOp) (next m : Machine) (x : MachineStepped) → k ≡ 0 → x ≡ answered r op next m → x ≡ answered (and_then q r) op next m
  answered_next op next m x h p = p ∙ ap (λ (n : ℕ). answered n op next m) (next_is h)

  -- lent memory
  pub kept_first : (old new : List ℕ) → (k ≡ 0 → ⊥) → old ≡ unless (and_then q r) old new
  kept_first old new h = kept k (and_then q r) (first_is h) old new h

  pub kept_next : (x old new : List ℕ) → k ≡ 0 → x ≡ unless r old new → x ≡ unless (and_then q r) old new
  kept_next x old new h p = p ∙ ap (λ (n : ℕ). unless n old new) (next_is h)

-- the answer tells the number: the next machine with its operation, and refused
module _ (q : ℕ) (op : DiskOp) (next m : Machine) where
  pub asked_next : q ≡ 0 → answered q op next m ≡ accepted op next
  unfolding answered
  asked_next h = asked_yes q (accepted op next) (refused m (refusal q)) h

  pub asked_refused : (q ≡ 0 → ⊥) → answered q op next m ≡ refused m (refusal q)
  unfolding answered
  asked_refused h = asked_no q (accepted op next) (refused m (refusal q)) h

  pub next_asked : (o : DiskOp) → (answered q op next m).answer ≡ Ok o → (q ≡ 0) × (o ≡ op)
  unfolding answered
  next_asked o e =
      ⊎_elim
      (λ y. let p = y.1 in (y.0, cc))
      (λ n. let p = n.1 in ruin (cc))
      (asked_either q (accepted op next) (refused m (refusal q)) (answered q op next m) refl)

  pub refused_asked : (n : Refusal) → (answered q op next m).answer ≡ Err n → q ≡ 0 → ⊥
  refused_asked n e h = let p = asked_next h in ruin (cc)

  pub refused_number : (n : Refusal) → (answered q op next m).answer ≡ Err n → refusal q ≡ n
  refused_number n e = let p = asked_refused (refused_asked n e) in cc

  pub refused_same : (n : Refusal) → (answered q op next m).answer ≡ Err n → (answered q op next m).machine ≡ m
  refused_same n e = ap (λ (r : MachineStepped). r.machine) (asked_refused (refused_asked n e))

-- and lent memory after a step that has answered
module _ (q : ℕ) (op : DiskOp) (next m : Machine) (r : MachineStepped) (e : r ≡ answered q op next m) where
  pub answer_no : (n : Refusal) → r.answer ≡ Err n → q ≡ 0 → ⊥
  answer_no n h = refused_asked q op next m n (sym (ap (λ (x : MachineStepped). x.answer) e) ∙ h)

  pub answer_yes : (o : DiskOp) → r.answer ≡ Ok o → q ≡ 0
  answer_yes o h = (next_asked q op next m o (sym (ap (λ (x : MachineStepped). x.answer) e) ∙ h)).0

  pub answer_kept : (n : Refusal) (old new : List ℕ) → r.answer ≡ Err n → old ≡ unless q old new
  answer_kept n old new h = sym (unless_kept q old new (answer_no n h))

  pub answer_changed : (o : DiskOp) (x old new : List ℕ) → r.answer ≡ Ok o → x ≡ new → x ≡ unless q old new
  answer_changed o x old new h p = p ∙ sym (unless_done q old new (answer_yes o h))
