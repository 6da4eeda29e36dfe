-- Laws of answers: how a call's answer and its lent memory follow from the numbers of its questions. The code's proofs cite them.
use Rattle.std.specs.Prelude.{ℕ, ⊤, Bool, true, false, cond, ◌≡◌, refl, List, eqb, Result, Ok, Err}
use Rattle.std.proofs.Math.Path.{sym, ap}
use Rattle.std.proofs.Common.{◌∙◌}
use Rattle.std.proofs.Math.Logic.{⊎_elim}
use Rattle.laws.specs.Choice.{and_then, and_then_first, and_then_done, unless, unless_kept, unless_done, asked_yes, asked_no, asked_either, ruin}
use Rattle.refusal.specs.declared.Refusal.{Refusal}
use Rattle.refusal.specs.Refusal.{refusal, ok_unless, unless_no, yes}
use Rattle.interval.specs.declared.JournalInterval.{JournalInterval}
use Rattle.superblock.specs.declared.JournalRead.{JournalRead}
use Rattle.tables.specs.declared.IntervalTable.{IntervalTable}
use Rattle.disk.specs.declared.Disk.{Disk}
use Rattle.disk.specs.declared.Stepped.{Stepped}
use Rattle.disk.specs.Disk.{DiskStepped, JournalAcked, refused, done, answered_with, answered}
use Rattle.requests.specs.Acknowledge.{held_interval, ask_ack_read_journal}
use Rattle.disk.specs.Memory.{read_out}
use Rattle.disk.specs.Operation.{is_whole, as_stepped}

-- the answer tells the number, and the value
module _ {A : Type 0} (q : ℕ) (v : A) (next d : Disk) where
  pub read_asked : (u : A) → (answered_with q v next d).answer ≡ Ok u → (q ≡ 0) × (u ≡ v)
  unfolding answered_with
  read_asked u e =
      ⊎_elim
      (λ y. let p = y.1 in (y.0, cc))
      (λ n. let p = n.1 in ruin (cc))
      (asked_either q (done v next) (refused d (refusal q)) (answered_with q v next d) refl)

  pub asked_read : q ≡ 0 → answered_with q v next d ≡ done v next
  unfolding answered_with
  asked_read h = asked_yes q (done v next) (refused d (refusal q)) h

  pub asked_unread : (q ≡ 0 → ⊥) → answered_with q v next d ≡ refused d (refusal q)
  unfolding answered_with
  asked_unread h = asked_no q (done v next) (refused d (refusal q)) h

  pub unread_asked : (why : Refusal) → (answered_with q v next d).answer ≡ Err why → q ≡ 0 → ⊥
  unread_asked why e h = let p = asked_read h in ruin (cc)

  pub read_same : (why : Refusal) → (answered_with q v next d).answer ≡ Err why → (answered_with q v next d).disk ≡ d
  read_same why e = ap (λ (r : Stepped A Refusal). r.disk) (asked_unread (unread_asked why e))

-- the same where there is no value
module _ (q : ℕ) (next d : Disk) where
  pub done_asked : (answered q next d).answer ≡ Ok record {} → q ≡ 0
  done_asked e = (read_asked q _ next d _ e).0

  pub asked_done : q ≡ 0 → answered q next d ≡ done record {} next
  asked_done h = asked_read q _ next d h

  pub asked_refused : (q ≡ 0 → ⊥) → answered q next d ≡ refused d (refusal q)
  asked_refused h = asked_unread q _ next d h

  pub refused_asked : (why : Refusal) → (answered q next d).answer ≡ Err why → q ≡ 0 → ⊥
  refused_asked why e = unread_asked q _ next d why e

  pub refused_same : (why : Refusal) → (answered q next d).answer ≡ Err why → (answered q next d).disk ≡ d
  refused_same why e = read_same q _ next d why e

-- what was asked, and said no or yes, by itself and as the first of two questions: the answer
module _ {A B : Type 0} (q : ℕ) (w : A) (v : B) (next d : Disk) where
  pub answered_no : (why : Refusal) → Err why ≡ ok_unless q w → refused d why ≡ answered_with q v next d
  answered_no why e =
      let n = unless_no q w why (sym e) in
      ap (refused d) (sym n.1) ∙ sym (asked_unread q v next d n.0)

  pub answered_yes : (u : A) → Ok u ≡ ok_unless q w → done v next ≡ answered_with q v next d
  answered_yes u e = sym (asked_read q v next d (yes q u w e))

  pub answered_first : (r : ℕ) (why : Refusal) → Err why ≡ ok_unless q w → refused d why ≡ answered_with (and_then q r) v next d
  answered_first r why e = answered_no why e ∙ ap (λ (n : ℕ). answered_with n v next d) (sym (and_then_first q r (unless_no q w why (sym e)).0))

  pub answered_next : (r : ℕ) (u : A) (x : Stepped B Refusal) → Ok u ≡ ok_unless q w → x ≡ answered_with r v next d → x ≡ answered_with (and_then q r) v next d
  answered_next r u x e p = p ∙ ap (λ (n : ℕ). answered_with n v next d) (sym (and_then_done q r (yes q u w e)))

-- and lent memory
module _ {A : Type 0} (q : ℕ) (w : A) (old new : List ℕ) where
  pub kept : (why : Refusal) → Err why ≡ ok_unless q w → old ≡ unless q old new
  kept why e = sym (unless_kept q old new (unless_no q w why (sym e)).0)

  pub changed : (u : A) (x : List ℕ) → Ok u ≡ ok_unless q w → x ≡ new → x ≡ unless q old new
  changed u x e p = p ∙ sym (unless_done q old new (yes q u w e))

  pub kept_first : (r : ℕ) (why : Refusal) → Err why ≡ ok_unless q w → old ≡ unless (and_then q r) old new
  kept_first r why e = kept why e ∙ ap (λ (n : ℕ). unless n old new) (sym (and_then_first q r (unless_no q w why (sym e)).0))

  pub kept_next : (r : ℕ) (u : A) (x : List ℕ) → Ok u ≡ ok_unless q w → x ≡ unless r old new → x ≡ unless (and_then q r) old new
  kept_next r u x e p = p ∙ ap (λ (n : ℕ). unless n old new) (sym (and_then_done q r (yes q u w e)))

-- the answer of a journal read tells the number too, and the interval
module _ (q : ℕ) (v : JournalInterval) (next d : Disk) (r : JournalAcked) (e : r ≡ answered_with q v next d) where
  pub journal_refused_is : (why : Refusal) → r.answer ≡ Err why → q ≡ 0 → ⊥
  journal_refused_is why h = unread_asked q v next d why (sym (ap (λ (x : JournalAcked). x.answer) e) ∙ h)

  pub journal_read_is : (u : JournalInterval) → r.answer ≡ Ok u → (q ≡ 0) × (u ≡ v)
  journal_read_is u h = read_asked q v next d u (sym (ap (λ (x : JournalAcked). x.answer) e) ∙ h)

  pub copied : (u : JournalInterval) (whole : Bool) (x blocks out : List ℕ) → r.answer ≡ Ok u → x ≡ read_out whole u blocks out
      → x ≡ unless q out (read_out whole v blocks out)
  copied u whole x blocks out h p =
      let k = journal_read_is u h in
      p ∙ ap (λ (w : JournalInterval). read_out whole w blocks out) k.1 ∙ sym (unless_done q out (read_out whole v blocks out) k.0)

-- the same as an operation's
stepped_as : (q : ℕ) (v : JournalInterval) (next d : Disk) → as_stepped (answered_with q v next d) ≡ answered q next d
unfolding answered_with
stepped_as q v next d = go (eqb q 0)
  where
    go : (b : Bool) → as_stepped (cond b (done v next) (refused d (refusal q))) ≡ cond b (done record {} next) (refused d (refusal q))
    go true = refl
    go false = refl

module _ (t : IntervalTable) (id : ℕ) (marks : List ℕ) (w : Bool) (read : JournalRead) (e : w ≡ is_whole read) where
  pub read_answered : (next d : Disk) (r : JournalAcked) (s : DiskStepped) → r ≡ answered_with (ask_ack_read_journal t id w marks) (held_interval t id) next d → s ≡ as_stepped r
      → s ≡ answered (ask_ack_read_journal t id (is_whole read) marks) next d
  read_answered next d r s p h =
      h
      ∙ ap as_stepped p
      ∙ stepped_as (ask_ack_read_journal t id w marks) (held_interval t id) next d
      ∙ ap (λ (b : Bool). answered (ask_ack_read_journal t id b marks) next d) e

  pub read_copied : (x blocks out : List ℕ) → x ≡ unless (ask_ack_read_journal t id w marks) out (read_out w (held_interval t id) blocks out)
      → x ≡ unless (ask_ack_read_journal t id (is_whole read) marks) out (read_out (is_whole read) (held_interval t id) blocks out)
  read_copied x blocks out p = p ∙ ap (λ (b : Bool). unless (ask_ack_read_journal t id b marks) out (read_out b (held_interval t id) blocks out)) e
