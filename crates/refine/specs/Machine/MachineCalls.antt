-- What is alike in every step of a machine: from the answer to a yes to its questions, and from the yes to the answer; and that a refusal alters
-- nothing. One number decides: questions 1 and 2, then the step's own (r). Lent memory after a step is any record: what the step makes of it is
-- said by an equation that needs the yes.
use Rattle.std.specs.Prelude.{ℕ, ◌≤◌, ◌≡◌, refl, List, Ok, Err}
use Rattle.std.proofs.Common.{sym, ◌∙◌, ap, subst, arith}
use Rattle.laws.specs.Choice.{and_then, and_then_left, and_then_right, and_then_both, unless, unless_kept}
use Rattle.refusal.specs.declared.Refusal.{Refusal}
use Rattle.refusal.specs.Refusal.{number, refusal, number_refusal}
use Rattle.layout.specs.declared.Geometry.{Geometry}
use Rattle.superblock.specs.declared.DiskOp.{DiskOp}
use Rattle.codec.specs.Codec.{JournalRange}
use Rattle.codec.specs.Format.{format}
use Rattle.source.specs.JournalCache.{Variables}
use Rattle.source.specs.Limits.{limits}
use Rattle.source.specs.Meets.{MachineMeets}
use Rattle.source.specs.Departures.{Step⁺, NextStep⁺}
use Rattle.source.specs.Within.{MachineAllowed}
use Rattle.machine.specs.declared.Machine.{Machine}
use Rattle.machine.specs.declared.MachineStepped.{MachineStepped}
use Rattle.machine.specs.Machine.{answered}
use Rattle.machine.specs.Lent.{Lent}
use Rattle.machine.specs.Questions.{ask_machine}
use Rattle.machine.specs.Laws.Answers.{asked_next, next_asked, refused_asked, refused_number, refused_same}
use Rattle.refine.specs.Machine.MachineView.{machine_of, operation_of, SizedMachine, MachineLent, MachineForm, MachineMet}
use Rattle.refine.specs.Machine.MachineMeets.{machine_met, met_machine}

-- Any number q that decides a step

module _ (g : Geometry) (l : Lent) (m : Machine) (q : ℕ) (op : DiskOp) (next : Machine) (l' after : Lent) (same : q ≡ 0 → l' ≡ after) where
  -- what the view of the machine after it is, where the answer is a yes
  pub seen_next : q ≡ 0 → machine_of g l' (answered q op next m).machine ≡ machine_of g after next
  seen_next e = let p = asked_next q op next m e in λ i. machine_of g (same e i) (p i).machine

  pub taken_by : (jr : JournalRange) (step : Step⁺) (o : DiskOp) → (answered q op next m).answer ≡ Ok o
      → (q ≡ 0 → MachineMet g l m × NextStep⁺ g format (machine_of g l m) (machine_of g after next) (operation_of op jr) step)
      → MachineAllowed g format limits (machine_of g l m) (machine_of g l' (answered q op next m).machine) (operation_of o jr) step
  taken_by jr step o e f =
      let k = next_asked q op next m o e in
      record {
        meets = (f k.0).0.meets;
        step =
            subst (λ (v : Variables). NextStep⁺ g format (machine_of g l m) v (operation_of o jr) step) (sym (seen_next k.0))
            (subst (λ (x : DiskOp). NextStep⁺ g format (machine_of g l m) (machine_of g after next) (operation_of x jr) step) (sym k.1) (f k.0).1);
      }

  pub answered_by_is : (s' : Variables) → q ≡ 0 → machine_of g after next ≡ s'
      → ((answered q op next m).answer ≡ Ok op) × (machine_of g l' (answered q op next m).machine ≡ s')
  answered_by_is s' e p = (ap (λ (x : MachineStepped). x.answer) (asked_next q op next m e), seen_next e ∙ p)

-- A step that asks questions 1 and 2 first, then its own

module _ (g : Geometry) (l : Lent) (m : Machine) (z : SizedMachine m) (r : ℕ) where
  abbrev asks : ℕ
  asks = and_then (ask_machine g l m) r

  pub asks_met : and_then (ask_machine g l m) r ≡ 0 → MachineMet g l m
  asks_met e = machine_met g l m z (and_then_left (ask_machine g l m) r e)

  pub met_asks : MachineLent g l → MachineForm l m → MachineMeets g limits (machine_of g l m) → r ≡ 0 → and_then (ask_machine g l m) r ≡ 0
  met_asks t f h e = and_then_both (ask_machine g l m) r (met_machine g l m z (record { lent = t; form = f; meets = h })) e

  module _ (op : DiskOp) (next : Machine) where
    -- lent memory is altered
    module _ (l' after : Lent) (same : and_then (ask_machine g l m) r ≡ 0 → l' ≡ after) where
      pub sound_by : (jr : JournalRange) (step : Step⁺) (o : DiskOp) → (answered (and_then (ask_machine g l m) r) op next m).answer ≡ Ok o
          → (ask_machine g l m ≡ 0 → r ≡ 0 → MachineMet g l m → NextStep⁺ g format (machine_of g l m) (machine_of g after next) (operation_of op jr) step)
          → MachineAllowed g format limits (machine_of g l m) (machine_of g l' (answered (and_then (ask_machine g l m) r) op next m).machine) (operation_of o jr) step
      sound_by jr step o e f =
          taken_by g l m asks op next l' after same jr step o e
          (λ k. (asks_met k, f (and_then_left (ask_machine g l m) r k) (and_then_right (ask_machine g l m) r k) (asks_met k)))

      pub complete_by : (s' : Variables) → MachineLent g l → MachineForm l m → MachineMeets g limits (machine_of g l m) → r ≡ 0 → machine_of g after next ≡ s'
          → ((answered (and_then (ask_machine g l m) r) op next m).answer ≡ Ok op)
          × (machine_of g l' (answered (and_then (ask_machine g l m) r) op next m).machine ≡ s')
      complete_by s' t f h e p = answered_by_is g l m asks op next l' after same s' (met_asks t f h e) p

    -- lent memory stays
    pub sound_same : (jr : JournalRange) (step : Step⁺) (o : DiskOp) → (answered (and_then (ask_machine g l m) r) op next m).answer ≡ Ok o
        → (ask_machine g l m ≡ 0 → r ≡ 0 → MachineMet g l m → NextStep⁺ g format (machine_of g l m) (machine_of g l next) (operation_of op jr) step)
        → MachineAllowed g format limits (machine_of g l m) (machine_of g l (answered (and_then (ask_machine g l m) r) op next m).machine) (operation_of o jr) step
    sound_same = sound_by l l (λ k. refl)

    pub complete_same : (s' : Variables) → MachineLent g l → MachineForm l m → MachineMeets g limits (machine_of g l m) → r ≡ 0 → machine_of g l next ≡ s'
        → ((answered (and_then (ask_machine g l m) r) op next m).answer ≡ Ok op)
        × (machine_of g l (answered (and_then (ask_machine g l m) r) op next m).machine ≡ s')
    complete_same = complete_by l l (λ k. refl)

-- A refusal, of any step: it is the first no, by its number too (the questions have 1 to 13), the machine stays, and so does every lent memory that
-- the step would write

pub record RefusedSame (q : ℕ) (n : Refusal) (op : DiskOp) (next m : Machine) : Type 0 where
  pub some_no : q ≡ 0 → ⊥
  pub no_is : refusal q ≡ n
  pub number_is : q ≤ 13 → q ≡ number n
  pub machine_kept : (answered q op next m).machine ≡ m
  pub memory_kept : (old new : List ℕ) → unless q old new ≡ old

no_number : (q : ℕ) (n : Refusal) → (q ≡ 0 → ⊥) → refusal q ≡ n → q ≤ 13 → q ≡ number n
no_number q n h e small = sym (ap number (sym e) ∙ number_refusal q (omega (arith, h)) small)

pub refused_keeps : (q : ℕ) (n : Refusal) (op : DiskOp) (next m : Machine) → (answered q op next m).answer ≡ Err n → RefusedSame q n op next m
refused_keeps q n op next m e =
    record {
      some_no = refused_asked q op next m n e;
      no_is = refused_number q op next m n e;
      number_is = no_number q n (refused_asked q op next m n e) (refused_number q op next m n e);
      machine_kept = refused_same q op next m n e;
      memory_kept = λ old new. unless_kept q old new (refused_asked q op next m n e);
    }

-- and the view stays
pub refused_view : (g : Geometry) (l l' : Lent) (q : ℕ) (n : Refusal) (op : DiskOp) (next m : Machine) → ((q ≡ 0 → ⊥) → l' ≡ l) → (answered q op next m).answer ≡ Err n
    → machine_of g l' (answered q op next m).machine ≡ machine_of g l m
refused_view g l l' q n op next m same e = let k = refused_keeps q n op next m e in λ i. machine_of g (same k.some_no i) (k.machine_kept i)
