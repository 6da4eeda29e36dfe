-- The questions of a store and of its steps have the numbers of refusals, so a no's number is its question's. Assumes nothing.
use Rattle.std.specs.declared.option.Option as code
use Rattle.std.specs.Prelude.{ℕ, ◌≡◌, ◌≤◌, Bool, List, Result, Err}
use Rattle.std.proofs.Common.{ap, ◌∙◌, rules, arith}
use Rattle.refusal.specs.declared.Refusal.{Refusal}
use Rattle.refusal.specs.Refusal.{number, refusal, small_ask, small_then, number_refusal}
use Rattle.layout.specs.declared.Geometry.{Geometry}
use Rattle.superblock.specs.declared.DiskOp.{DiskOp}
use Rattle.journal.specs.Bounds.{small_journal}
use Rattle.ready.specs.declared.Bodies.{Bodies}
use Rattle.machine.specs.Bounds.{small_machine, small_write_back_journal_req}
use Rattle.requests.specs.Bounds.{small_ack_read_journal}
use Rattle.disk.specs.Bounds.{small_state, small_decision}
use Rattle.store.specs.declared.Store.{Store}
use Rattle.store.specs.Store.{StoreStepped, answered}
use Rattle.store.specs.Lent.{Lent, ask_rest, ask_store}
use Rattle.store.specs.Steps.{ask_both, ask_write_journal, ask_journal_read}
use Rattle.store.specs.Whole.{ask_crash}
use Rattle.store.specs.Laws.Answers.{asked_refused, refused_asked}

-- questions 1 and 2
pub small_rest : (g : Geometry) (s : Store) → ask_rest g s ≤ 13
unfolding ask_rest
small_rest g s = search (rules, small_then, small_ask, small_state)

pub small_store : (g : Geometry) (l : Lent) (s : Store) → ask_store g l s ≤ 13
unfolding ask_store
small_store g l s = search (rules, small_then, small_journal, small_machine, small_rest)

pub small_crash : (g : Geometry) (l : Lent) (s : Store) (picture pictured : List ℕ) → ask_crash g l s picture pictured ≤ 13
unfolding ask_crash
small_crash g l s picture pictured = search (rules, small_then, small_journal, small_store)

-- of a step: the machine's, then the disk's
pub small_both : (g : Geometry) (s : Store) (q : ℕ) (o : DiskOp) → q ≤ 13 → ask_both g s q o ≤ 13
unfolding ask_both
small_both g s q o h = small_then q _ h (small_decision _ _ _)

pub small_write_journal : (g : Geometry) (s : Store) (id1 : ℕ) (id2 : code.Option ℕ) (b : Bodies) → ask_write_journal g s id1 id2 b ≤ 13
unfolding ask_write_journal
small_write_journal g s id1 id2 b = small_both g s _ _ (small_write_back_journal_req _ _ _ _ _)

pub small_journal_read : (s : Store) (id : ℕ) (whole : Bool) (marks : List ℕ) → ask_journal_read s id whole marks ≤ 13
unfolding ask_journal_read
small_journal_read s id whole marks = small_ack_read_journal _ _ _ _

-- the number of a no is the number that decided
pub answer_number : (q : ℕ) (o : DiskOp) (next s : Store) (n : Refusal) → q ≤ 13 → (answered q o next s).answer ≡ Err n → number n ≡ q
answer_number q o next s n small e =
    let f = refused_asked q o next s n e in
    let p = ap (λ (x : StoreStepped). x.answer) (asked_refused q o next s f) in
    ap number (told (answered q o next s).answer e p) ∙ number_refusal q (omega (arith, f)) small
  where
    told : (x : Result DiskOp Refusal) → x ≡ Err n → x ≡ Err (refusal q) → n ≡ refusal q
    told x a b = cc
