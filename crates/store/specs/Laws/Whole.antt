-- A step whole, from what questions 1 and 2 answered and from its part: the answer, and the lent memory after it. The code's proofs cite them.
use Rattle.std.specs.Prelude.{ℕ, ◌≡◌, Ok, Err}
use Rattle.std.proofs.Common.{sym, ◌∙◌, ap}
use Rattle.laws.specs.Choice.{unless, unless_kept, unless_done, asked_yes, asked_no}
use Rattle.refusal.specs.declared.Refusal.{Refusal}
use Rattle.refusal.specs.Refusal.{refusal, ok_unless, unless_no, unless_yes}
use Rattle.store.specs.declared.Store.{Store}
use Rattle.store.specs.Store.{StoreStepped}
use Rattle.store.specs.Store.{refused}
use Rattle.store.specs.Lent.{Lent}
use Rattle.store.specs.Whole.{asked}

-- by what was asked: a no, and a yes
module _ {A : Type 0} (q : ℕ) (b : A) (s : Store) where
  pub asked_first : (n : Refusal) (r : StoreStepped) → ok_unless q b ≡ Err n → refused s n ≡ asked q r s
  unfolding asked
  asked_first n r h = let f = unless_no q b n h in ap (refused s) (sym f.1) ∙ sym (asked_no q r (refused s (refusal q)) f.0)

  pub asked_then : (v : A) (r x : StoreStepped) → ok_unless q b ≡ Ok v → x ≡ r → x ≡ asked q r s
  unfolding asked
  asked_then v r x h p = p ∙ sym (asked_yes q r (refused s (refusal q)) (unless_yes q b v h).0)

  -- with lent memory
  pub kept_first : (n : Refusal) (r : StoreStepped) (l after : Lent) → ok_unless q b ≡ Err n → (refused s n ≡ asked q r s) × (l ≡ unless q l after)
  kept_first n r l after h = (asked_first n r h, sym (unless_kept q l after (unless_no q b n h).0))

  -- and with what was found in pending memory: b stands in the definitions, v was found
  pub found_then : (v : A) (r : A → StoreStepped) (l : Lent) (after : A → Lent) (x : StoreStepped) (y : Lent) → ok_unless q b ≡ Ok v → x ≡ r v → y ≡ after v
      → (x ≡ asked q (r b) s) × (y ≡ unless q l (after b))
  found_then v r l after x y h p w =
      let f = unless_yes q b v h in
      (asked_then v (r b) x h (p ∙ ap r (sym f.1)), w ∙ ap after (sym f.1) ∙ sym (unless_done q l (after b) f.0))
