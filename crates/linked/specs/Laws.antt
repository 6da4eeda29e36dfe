-- Laws of the steps over 16 numbers: from what the machine answered to a refusal number, the numbers set and the lent memory. Assumes nothing.
use Rattle.std.specs.declared.option.Option as code
use Rattle.std.specs.Prelude.{ℕ, ◌<◌, ◌≤◌, Bool, cond, ◌≡◌, List, length, Ok, Err}
use Rattle.std.proofs.Math.Bool.{true, false}
use Rattle.std.proofs.Math.Path.{refl, sym, ap}
use Rattle.std.proofs.Common.{◌∙◌, arith, length-set}
use Rattle.std.proofs.Math.ListN.{set}
use Rattle.std.proofs.Math.Dec.{eqb}
use borrow.Author.Tests.{eqb-true, eqb-false}
use Rattle.laws.specs.Choice.{ask, ask_yes, and_then, and_then_first, and_then_done, unless, unless_kept, unless_done, ruin}
use Rattle.refusal.specs.declared.Refusal.{Refusal}
use Rattle.refusal.specs.Refusal.{number, refusal, asked, number_no, number_refusal}
use Rattle.layout.specs.declared.Geometry.{Geometry}
use Rattle.superblock.specs.declared.DiskOp.{DiskOp}
use Rattle.superblock.specs.declared.DiskOp.TheVariants as op
use Rattle.machine.specs.declared.Machine.{Machine}
use Rattle.machine.specs.declared.MachineStepped.{MachineStepped}
use Rattle.machine.specs.Machine.{refused, accepted, answered}
use Rattle.machine.specs.Lent.{Lent}
use Rattle.machine.specs.Questions.{ask_machine, bodies_of}
use Rattle.machine.specs.Working.{ask_replay_step, write_back_journal_req_op}
use Rattle.machine.specs.Whole.{ask_add, advance, advanced_bytes, advanced_lens, ask_write, write_back_journal_req, written_out, written_bytes, written_lens, replay}
use Rattle.linked.specs.State.{ask_numbers, geometry_at, machine_of}
use Rattle.linked.specs.Bounds.{small_numbers, small_add_of, small_replay_of, small_write_of}
use Rattle.linked.specs.Steps.{ask_add_of, added, added_numbers, ask_replay_of, replayed_to, replayed_numbers, ask_write_of, written_to, with_written, written_numbers}

-- all 16 numbers are there
pub numbers_there : (p n : ℕ) → p ≡ ask 1 (eqb n 16) → p ≡ 0 → n ≡ 16
numbers_there p n e h = eqb-true n 16 (ask_yes 1 (eqb n 16) (omega arith) (sym e ∙ h))

-- and stay so; a place of them is one
pub still_there : (xs : List ℕ) (i v : ℕ) → length xs ≡ 16 → length (set xs i v) ≡ 16
still_there xs i v h = length-set xs i v ∙ h

pub place_there : (xs : List ℕ) (i : ℕ) → length xs ≡ 16 → i < 16 → i < length xs
place_there xs i h k = omega arith

-- a no of theirs, as its number
pub numbers_no : (xs : List ℕ) (e : Refusal) → Err e ≡ asked (ask_numbers xs) → (number e ≡ ask_numbers xs) × (number e ≡ 0 → ⊥)
numbers_no xs e h =
    let w = number_no (ask_numbers xs) _ e h (small_numbers _) in
    (w.0, λ z. w.1 (sym w.0 ∙ z))

-- a machine's answer, taken apart: a no, and a yes
module _ (q : ℕ) (o : DiskOp) (next m : Machine) (r : MachineStepped) where
  pub answered_refused : (n : Refusal) → r ≡ answered q o next m → r.answer ≡ Err n → (n ≡ refusal q) × (q ≡ 0 → ⊥)
  unfolding answered
  answered_refused n e h = go (eqb q 0) refl (sym h ∙ ap (λ (x : MachineStepped). x.answer) e)
    where
      go : (b : Bool) → eqb q 0 ≡ b → Err n ≡ (cond b (accepted o next) (refused m (refusal q))).answer → (n ≡ refusal q) × (q ≡ 0 → ⊥)
      go true t k = ruin (cc)
      go false t k = (cc, eqb-false q 0 t)

  pub answered_number : (n : Refusal) → r ≡ answered q o next m → r.answer ≡ Err n → q ≤ 13 → (number n ≡ q) × (q ≡ 0 → ⊥)
  answered_number n e h small =
      let f = answered_refused n e h in
      let w : (q ≡ 0 → ⊥) = f.1 in
      (ap number f.0 ∙ number_refusal q (omega (arith, w)) small, w)

  pub answered_next : (d : DiskOp) → r ≡ answered q o next m → r.answer ≡ Ok d → (q ≡ 0) × (r.machine ≡ next)
  unfolding answered
  answered_next d e h = go (eqb q 0) refl (sym h ∙ ap (λ (x : MachineStepped). x.answer) e) (ap (λ (x : MachineStepped). x.machine) e)
    where
      go : (b : Bool) → eqb q 0 ≡ b → Ok d ≡ (cond b (accepted o next) (refused m (refusal q))).answer → r.machine ≡ (cond b (accepted o next) (refused m (refusal q))).machine → (q ≡ 0) × (r.machine ≡ next)
      go true t k w = (eqb-true q 0 t, w)
      go false t k w = ruin (cc)

-- an add
module _ (xs : List ℕ) (l : Lent) (brought sizes : List ℕ) (k : ℕ) where
  pub add_no : (p : ℕ) → p ≡ ask_numbers xs → (p ≡ 0 → ⊥) → (p ≡ ask_add_of xs l brought sizes k) × (xs ≡ added_numbers xs l brought sizes k)
  unfolding ask_add_of added_numbers
  add_no p e h =
      let n : ask_numbers xs ≡ 0 → ⊥ = λ z. h (e ∙ z) in
      let f : and_then (ask_numbers xs) (ask_add (geometry_at xs) l (machine_of xs) brought sizes k) ≡ ask_numbers xs = and_then_first _ _ n in
      (e ∙ sym f, sym (unless_kept _ _ _ (λ z. n (sym f ∙ z))))

  module _ (g : Geometry) (m : Machine) (r : MachineStepped) (p : ask_numbers xs ≡ 0) (eg : g ≡ geometry_at xs) (em : m ≡ machine_of xs) (er : r ≡ advance g l m brought sizes k) where
    add_is : r ≡ answered (ask_add_of xs l brought sizes k) op.NoDiskOp (added xs l brought sizes k) (machine_of xs)
    unfolding ask_add_of
    add_is =
        er ∙ (λ i. advance (eg i) l (em i) brought sizes k)
        ∙ ap (λ (q : ℕ). answered q op.NoDiskOp (added xs l brought sizes k) (machine_of xs)) (sym (and_then_done _ _ p))

    pub add_bytes : (x : List ℕ) → x ≡ advanced_bytes g l m brought sizes k → x ≡ unless (ask_numbers xs) l.bytes (advanced_bytes (geometry_at xs) l (machine_of xs) brought sizes k)
    add_bytes x e = e ∙ (λ i. advanced_bytes (eg i) l (em i) brought sizes k) ∙ sym (unless_done _ _ _ p)

    pub add_lens : (x : List ℕ) → x ≡ advanced_lens g l m brought sizes k → x ≡ unless (ask_numbers xs) l.lens (advanced_lens (geometry_at xs) l (machine_of xs) brought sizes k)
    add_lens x e = e ∙ (λ i. advanced_lens (eg i) l (em i) brought sizes k) ∙ sym (unless_done _ _ _ p)

    pub add_refused : (n : Refusal) → r.answer ≡ Err n → (number n ≡ ask_add_of xs l brought sizes k) × (xs ≡ added_numbers xs l brought sizes k)
    unfolding added_numbers
    add_refused n h =
        let f = answered_number _ _ _ _ r n add_is h (small_add_of xs l brought sizes k) in
        (f.0, sym (unless_kept _ _ _ f.1))

    pub add_done : (d : DiskOp) → r.answer ≡ Ok d → (0 ≡ ask_add_of xs l brought sizes k) × (set xs 11 r.machine.ready.entries.pending ≡ added_numbers xs l brought sizes k)
    unfolding added_numbers
    add_done d h =
        let f = answered_next _ _ _ _ r d add_is h in
        (sym f.0, ap (λ (x : Machine). set xs 11 x.ready.entries.pending) f.1 ∙ sym (unless_done _ _ _ f.0))

-- a replay
module _ (xs : List ℕ) (l : Lent) (brought sizes : List ℕ) (k : ℕ) where
  pub replay_no : (p : ℕ) → p ≡ ask_numbers xs → (p ≡ 0 → ⊥) → (p ≡ ask_replay_of xs l brought sizes k) × (xs ≡ replayed_numbers xs l brought sizes k)
  unfolding ask_replay_of replayed_numbers
  replay_no p e h =
      let n : ask_numbers xs ≡ 0 → ⊥ = λ z. h (e ∙ z) in
      let f : and_then (ask_numbers xs) (and_then (ask_machine (geometry_at xs) l (machine_of xs)) (ask_replay_step (machine_of xs) l.rbytes l.rlens brought sizes k)) ≡ ask_numbers xs = and_then_first _ _ n in
      (e ∙ sym f, sym (unless_kept _ _ _ (λ z. n (sym f ∙ z))))

  module _ (g : Geometry) (m : Machine) (r : MachineStepped) (p : ask_numbers xs ≡ 0) (eg : g ≡ geometry_at xs) (em : m ≡ machine_of xs) (er : r ≡ replay g l m brought sizes k) where
    replay_is : r ≡ answered (ask_replay_of xs l brought sizes k) op.NoDiskOp (replayed_to xs brought sizes k) (machine_of xs)
    unfolding ask_replay_of
    replay_is =
        er ∙ (λ i. replay (eg i) l (em i) brought sizes k)
        ∙ ap (λ (q : ℕ). answered q op.NoDiskOp (replayed_to xs brought sizes k) (machine_of xs)) (sym (and_then_done _ _ p))

    pub replay_refused : (n : Refusal) → r.answer ≡ Err n → (number n ≡ ask_replay_of xs l brought sizes k) × (xs ≡ replayed_numbers xs l brought sizes k)
    unfolding replayed_numbers
    replay_refused n h =
        let f = answered_number _ _ _ _ r n replay_is h (small_replay_of xs l brought sizes k) in
        (f.0, sym (unless_kept _ _ _ f.1))

    pub replay_done : (d : DiskOp) → r.answer ≡ Ok d
        → (0 ≡ ask_replay_of xs l brought sizes k)
        × (set (set xs 14 r.machine.ready.entries.taken.entries) 15 r.machine.ready.entries.taken.bytes ≡ replayed_numbers xs l brought sizes k)
    unfolding replayed_numbers
    replay_done d h =
        let f = answered_next _ _ _ _ r d replay_is h in
        (sym f.0, ap (λ (x : Machine). set (set xs 14 x.ready.entries.taken.entries) 15 x.ready.entries.taken.bytes) f.1 ∙ sym (unless_done _ _ _ f.0))

-- a journal write
module _ (xs : List ℕ) (l : Lent) (id1 : ℕ) (id2 : code.Option ℕ) (out : List ℕ) where
  pub write_no : (p : ℕ) → p ≡ ask_numbers xs → (p ≡ 0 → ⊥) → (p ≡ ask_write_of xs l id1 id2 out) × (xs ≡ written_numbers xs l id1 id2 out)
  unfolding ask_write_of written_numbers
  write_no p e h =
      let n : ask_numbers xs ≡ 0 → ⊥ = λ z. h (e ∙ z) in
      let f : and_then (ask_numbers xs) (ask_write (geometry_at xs) l (machine_of xs) id1 id2 out) ≡ ask_numbers xs = and_then_first _ _ n in
      (e ∙ sym f, sym (unless_kept _ _ _ (λ z. n (sym f ∙ z))))

  module _ (g : Geometry) (m : Machine) (j : code.Option ℕ) (r : MachineStepped) (p : ask_numbers xs ≡ 0) (eg : g ≡ geometry_at xs) (em : m ≡ machine_of xs) (ej : j ≡ id2) (er : r ≡ write_back_journal_req g l m id1 j out) where
    write_is : r ≡ answered (ask_write_of xs l id1 id2 out) (write_back_journal_req_op (geometry_at xs) (machine_of xs) id1 id2 (bodies_of l.lens (machine_of xs))) (written_to xs l id1 id2) (machine_of xs)
    unfolding ask_write_of
    write_is =
        er ∙ (λ i. write_back_journal_req (eg i) l (em i) id1 (ej i) out)
        ∙ ap (λ (q : ℕ). answered q (write_back_journal_req_op (geometry_at xs) (machine_of xs) id1 id2 (bodies_of l.lens (machine_of xs))) (written_to xs l id1 id2) (machine_of xs)) (sym (and_then_done _ _ p))

    pub write_out : (x : List ℕ) → x ≡ written_out g l m id1 j out → x ≡ unless (ask_numbers xs) out (written_out (geometry_at xs) l (machine_of xs) id1 id2 out)
    write_out x e = e ∙ (λ i. written_out (eg i) l (em i) id1 (ej i) out) ∙ sym (unless_done _ _ _ p)

    pub write_bytes : (x : List ℕ) → x ≡ written_bytes g l m id1 j out → x ≡ unless (ask_numbers xs) l.bytes (written_bytes (geometry_at xs) l (machine_of xs) id1 id2 out)
    write_bytes x e = e ∙ (λ i. written_bytes (eg i) l (em i) id1 (ej i) out) ∙ sym (unless_done _ _ _ p)

    pub write_lens : (x : List ℕ) → x ≡ written_lens g l m id1 j out → x ≡ unless (ask_numbers xs) l.lens (written_lens (geometry_at xs) l (machine_of xs) id1 id2 out)
    write_lens x e = e ∙ (λ i. written_lens (eg i) l (em i) id1 (ej i) out) ∙ sym (unless_done _ _ _ p)

    pub write_refused : (n : Refusal) → r.answer ≡ Err n → (number n ≡ ask_write_of xs l id1 id2 out) × (xs ≡ written_numbers xs l id1 id2 out)
    unfolding written_numbers
    write_refused n h =
        let f = answered_number _ _ _ _ r n write_is h (small_write_of xs l id1 id2 out) in
        (f.0, sym (unless_kept _ _ _ f.1))

    pub write_done : (d : DiskOp) → r.answer ≡ Ok d → (0 ≡ ask_write_of xs l id1 id2 out) × (with_written xs r.machine ≡ written_numbers xs l id1 id2 out)
    unfolding written_numbers
    write_done d h =
        let f = answered_next _ _ _ _ r d write_is h in
        (sym f.0, ap (with_written xs) f.1 ∙ sym (unless_done _ _ _ f.0))
