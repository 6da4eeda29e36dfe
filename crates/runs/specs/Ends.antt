-- Ends of a run, which are left where parts of one size come off its front. Assumes nothing.
use Rattle.std.specs.Prelude.{ℕ, ◌+◌, ◌-◌, ◌≤◌, ◌≡◌, List, ◌++◌, length, drop}
use Rattle.std.proofs.Common.{sym, ap, ◌∙◌, arith, drop-drop, length-append}
use Rattle.std.proofs.Math.Seq.{drop-append_seam}

-- a part came off the front of an end of a run: what is left is an end of it
module _ {A : Type 0} (xs : List A) where
  pub further : (s part rest : List A) → s ≡ part ++ rest → s ≡ drop (length xs - length s) xs → length s ≤ length xs → rest ≡ drop (length xs - length rest) xs
  further s part rest e k h =
      let l : length s ≡ length part + length rest = ap length e ∙ length-append part rest in
      let n : length xs - length s + length part ≡ length xs - length rest = omega (arith, l, h) in
      sym (drop-append_seam part rest)
      ∙ ap (drop (length part)) (sym e ∙ k)
      ∙ drop-drop (length part) (length xs - length s) xs
      ∙ ap (λ (m : ℕ). drop m xs) n

  -- the whole run is an end of it, and two ends of one length are the same
  pub all_rest : (s : List A) → s ≡ xs → s ≡ drop (length xs - length s) xs
  all_rest s e =
      let n : length xs - length s ≡ 0 = omega (arith, ap length e) in
      e ∙ sym (ap (λ (m : ℕ). drop m xs) n)

  pub same_rest : (s rest : List A) (n : ℕ) → s ≡ drop (length xs - length s) xs → length s ≡ n → rest ≡ drop (length xs - n) xs → s ≡ rest
  same_rest s rest n e l k = e ∙ ap (λ (m : ℕ). drop (length xs - m) xs) l ∙ sym k
