-- The step over all calls, from what was asked and from the step's part. The code's proofs cite them.
use Rattle.std.specs.Prelude.{◌≡◌, Ok, Err}
use Rattle.std.proofs.Common.{sym, ◌∙◌, ap}
use Rattle.layout.specs.declared.Geometry.{Geometry}
use Rattle.ready.specs.declared.Bodies.{Bodies}
use Rattle.refusal.specs.declared.Refusal.{Refusal}
use Rattle.refusal.specs.Refusal.{ok_unless}
use Rattle.store.specs.declared.Store.{Store}
use Rattle.store.specs.Store.{StoreStepped}
use Rattle.store.specs.Store.{refused}
use Rattle.store.specs.Lent.{Lent}
use Rattle.store.specs.Whole.{bodies}
use Rattle.store.specs.Laws.Whole as whole
use Rattle.calls.specs.declared.calls.Step.{Step}
use Rattle.calls.specs.Given.{Given}
use Rattle.calls.specs.Step.{ask_step, step_answer_with, step_lent_with, step_answer, step_lent, stepped, stepped_lent}

-- the code asks by the slices that it looks at: they hold what is lent
module _ (g : Geometry) (l : Lent) (v : Given) (s : Store) (x : Step) (k : Lent) (e : k ≡ l) where
  -- a no to question 1 of a crash's picture, or to questions 1 and 2
  pub no_step : (n : Refusal) (r : StoreStepped) → ok_unless (ask_step g k v s x) (bodies k s) ≡ Err n → r ≡ refused s n → (r ≡ stepped g l v s x) × (l ≡ stepped_lent g l v s x)
  unfolding stepped stepped_lent
  no_step n r t p =
      let f = whole.kept_first (ask_step g l v s x) (bodies l s) s n (step_answer g l v s x) l (step_lent g l v s x)
      (ap (λ (h : Lent). ok_unless (ask_step g h v s x) (bodies h s)) (sym e) ∙ t) in
      (p ∙ f.0, f.1)

  -- a yes, with what was found
  pub step_taken : (b : Bodies) (r : StoreStepped) (m : Lent) → ok_unless (ask_step g k v s x) (bodies k s) ≡ Ok b
      → r ≡ step_answer_with g l v s x b → m ≡ step_lent_with g l v s x b → (r ≡ stepped g l v s x) × (m ≡ stepped_lent g l v s x)
  unfolding stepped stepped_lent
  step_taken b r m t p w =
      whole.found_then (ask_step g l v s x) (bodies l s) s b (step_answer_with g l v s x) l (step_lent_with g l v s x) r m
      (ap (λ (h : Lent). ok_unless (ask_step g h v s x) (bodies h s)) (sym e) ∙ t) p w
