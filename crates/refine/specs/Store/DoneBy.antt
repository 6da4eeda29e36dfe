-- What is alike in the calls that take an allowed step: questions 1 and 2 are answered yes, the step's own number is 0, and the next store over the
-- lent memory that it leaves is seen as the next state.
use Rattle.std.specs.Prelude.{ℕ, ◌≡◌}
use Rattle.std.proofs.Common.{sym, ◌∙◌, subst}
use Rattle.std.proofs.Math.Path.{ap}
use Rattle.laws.specs.Choice.{and_then_both, asked_yes, unless_done}
use Rattle.refusal.specs.Refusal.{refusal}
use Rattle.layout.specs.declared.Geometry.{Geometry}
use Rattle.superblock.specs.declared.DiskOp.{DiskOp}
use Rattle.source.specs.JournalDisk as D
use Rattle.source.specs.JournalSystem as Y
use Rattle.source.specs.Limits.{limits}
use Rattle.source.specs.Meets.{SystemMeets}
use Rattle.source.specs.Departures.{Event}
use Rattle.history.specs.Statement.{Tied}
use Rattle.store.specs.declared.Store.{Store}
use Rattle.store.specs.Store.{StoreStepped}
use Rattle.store.specs.Whole.{asked}
use Rattle.store.specs.Store.{refused, accepted, answered}
use Rattle.store.specs.Lent.{Lent}
use Rattle.store.specs.Laws.Answers.{asked_next}
use Rattle.calls.specs.declared.calls.Step.{Step}
use Rattle.calls.specs.Given.{Given}
use Rattle.calls.specs.Step.{step_answer, step_lent, ask_picture, ask_step, stepped, stepped_lent}
use Rattle.refine.specs.Store.Seen.{seen, SizedStore, call_of}
use Rattle.refine.specs.Store.Done.{StoreForm, form_asks, TakenTo, Done}

module _ (g : Geometry) (l : Lent) (s : Store) (z : SizedStore s) (f : StoreForm g l s) (m : SystemMeets g limits (seen g l s)) where
  module _ (t : Y.Variables) (x : Step) (v : Given) (op : DiskOp) (next : Store) (after : Lent) where
    pub taken_by : ask_picture g v.picture v.pictured x ≡ 0 → step_answer g l v s x ≡ accepted op next → step_lent g l v s x ≡ after → seen g after next ≡ t → TakenTo g l v s x t
    unfolding ask_step stepped stepped_lent asked
    taken_by p a b e =
        let q : ask_step g l v s x ≡ 0 = and_then_both _ _ p (form_asks g l s z f m) in
        let r : stepped g l v s x ≡ accepted op next = asked_yes (ask_step g l v s x) (step_answer g l v s x) (refused s (refusal (ask_step g l v s x))) q ∙ a in
        let k : stepped_lent g l v s x ≡ after = unless_done (ask_step g l v s x) l (step_lent g l v s x) q ∙ b in
        record { op = op; taken = ap (λ (y : StoreStepped). y.answer) r; next = (λ i. seen g (k i) (r i).store) ∙ e }

    -- where one number decides
    pub taken_asked : ask_picture g v.picture v.pictured x ≡ 0 → (q : ℕ) → q ≡ 0 → step_answer g l v s x ≡ answered q op next s → step_lent g l v s x ≡ after → seen g after next ≡ t
        → TakenTo g l v s x t
    taken_asked p q h a b e = taken_by p (a ∙ asked_next q op next s h) b e

  module _ (t : Y.Variables) (event : Event) (x : Step) (v : Given) (op : DiskOp) (next : Store) (after : Lent) (tied : Tied (call_of v x) event) where
    pub done_by : ask_picture g v.picture v.pictured x ≡ 0 → step_answer g l v s x ≡ accepted op next → step_lent g l v s x ≡ after → seen g after next ≡ t → Done g l s t event
    done_by p a b e = record { call = x; given = v; tied = tied; to = taken_by t x v op next after p a b e }

    pub done_asked : ask_picture g v.picture v.pictured x ≡ 0 → (q : ℕ) → q ≡ 0 → step_answer g l v s x ≡ answered q op next s → step_lent g l v s x ≡ after → seen g after next ≡ t
        → Done g l s t event
    done_asked p q h a b e = done_by p (a ∙ asked_next q op next s h) b e

-- a step that asks nothing of the disk leaves it
pub disk_same : (g : Geometry) (d d' : D.Variables) (dop : D.DiskOp) → dop ≡ D.NoDiskOp → D.Next g d d' dop → d ≡ d'
disk_same g d d' dop e h = sym (subst (D.Next g d d') e h).next
