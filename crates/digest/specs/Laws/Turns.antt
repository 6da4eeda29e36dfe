-- Turns of the loops that take bytes, lengths and blocks: what was left is taken by what the turn has made; and each loop's end.
use Prim.Native.Nat.{ℕ, ◌+◌, ◌*◌, ◌≤◌, ◌<◌, min}
use Rattle.std.specs.Prelude.{◌≡◌, length, get_or}
use Rattle.std.proofs.Math.Path.{refl, sym, ap}
use Rattle.std.proofs.Common.{◌∙◌, drop-drop}
use mathlib.Core.List.{List}
use native.Mathlib.Omega.{arith}
use Rattle.std.proofs.Math.ListN.{drop}
use Rattle.laws.specs.Part.{drop_step, drop_end, drop_min}
use Rattle.laws.specs.LowFirst.{low_first, each_low}
use Rattle.digest.specs.Take.{take_byte, takes}
use Rattle.digest.specs.Visible.{marked_bytes, journal_bytes}
use Rattle.digest.specs.Laws.Takes.{takes_append}

-- bytes, one a turn and three a turn
module _ (xs : List ℕ) {n : ℕ} where
  pub byte_turn : (i v w : ℕ) → i < length xs → takes v (drop i xs) ≡ n → w ≡ take_byte v (get_or xs i 0) → takes w (drop (i + 1) xs) ≡ n
  unfolding takes
  byte_turn i v w h e q = ap (λ (m : ℕ). takes m (drop (i + 1) xs)) q ∙ sym (ap (takes v) (drop_step xs i 0 h)) ∙ e

  pub three_turn : (i v w : ℕ) → i + 2 < length xs → takes v (drop i xs) ≡ n
      → w ≡ take_byte (take_byte (take_byte v (get_or xs i 0)) (get_or xs (i + 1) 0)) (get_or xs (i + 2) 0) → takes w (drop (i + 3) xs) ≡ n
  three_turn i v w h e q =
      let v1 = take_byte v (get_or xs i 0) in
      let v2 = take_byte v1 (get_or xs (i + 1) 0) in
      let k : i + 1 + 1 ≡ i + 2 = omega arith in
      let l : i + 2 + 1 ≡ i + 3 = omega arith in
      let e2 = byte_turn (i + 1) v1 v2 (omega arith) (byte_turn i v v1 (omega arith) e refl) refl in
      sym (ap (λ (m : ℕ). takes w (drop m xs)) l)
      ∙ byte_turn (i + 2) v2 w h (sym (ap (λ (m : ℕ). takes v2 (drop m xs)) k) ∙ e2) q

  pub byte_end : (i v : ℕ) → length xs ≤ i → takes v (drop i xs) ≡ n → v ≡ n
  unfolding takes
  byte_end i v h e = sym (ap (takes v) (drop_end xs i h)) ∙ e

-- lengths
module _ (xs : List ℕ) {n : ℕ} where
  pub length_turn : (i v w : ℕ) → i < length xs → takes v (each_low 2 (drop i xs)) ≡ n → w ≡ takes v (low_first 2 (get_or xs i 0))
      → takes w (each_low 2 (drop (i + 1) xs)) ≡ n
  unfolding each_low
  length_turn i v w h e q =
      ap (λ (m : ℕ). takes m (each_low 2 (drop (i + 1) xs))) q
      ∙ sym (takes_append v (low_first 2 (get_or xs i 0)) (each_low 2 (drop (i + 1) xs)))
      ∙ sym (ap (λ (ys : List ℕ). takes v (each_low 2 ys)) (drop_step xs i 0 h))
      ∙ e

  pub length_end : (i v : ℕ) → length xs ≤ i → takes v (each_low 2 (drop i xs)) ≡ n → v ≡ n
  unfolding takes each_low
  length_end i v h e = sym (ap (λ (ys : List ℕ). takes v (each_low 2 ys)) (drop_end xs i h)) ∙ e

-- blocks: the next lie one block further, or none are left
module _ (blocks marks : List ℕ) {n : ℕ} where
  pub block_turn : (i at next v w : ℕ) → i < length marks → takes v (journal_bytes (drop at blocks) (drop i marks)) ≡ n
      → w ≡ takes v (marked_bytes (get_or marks i 0) (drop at blocks)) → next ≡ min (at + 4096) (length blocks)
      → takes w (journal_bytes (drop next blocks) (drop (i + 1) marks)) ≡ n
  unfolding journal_bytes
  block_turn i at next v w h e q k =
      let further : drop next blocks ≡ drop 4096 (drop at blocks) =
      ap (λ (m : ℕ). drop m blocks) k ∙ drop_min blocks (at + 4096) (length blocks) refl ∙ sym (drop-drop 4096 at blocks) in
      (λ j. takes (q j) (journal_bytes (further j) (drop (i + 1) marks)))
      ∙ sym (takes_append v (marked_bytes (get_or marks i 0) (drop at blocks)) (journal_bytes (drop 4096 (drop at blocks)) (drop (i + 1) marks)))
      ∙ sym (ap (λ (ys : List ℕ). takes v (journal_bytes (drop at blocks) ys)) (drop_step marks i 0 h))
      ∙ e

  pub block_end : (i at v : ℕ) → length marks ≤ i → takes v (journal_bytes (drop at blocks) (drop i marks)) ≡ n → v ≡ n
  unfolding takes journal_bytes
  block_end i at v h e = sym (ap (λ (ys : List ℕ). takes v (journal_bytes (drop at blocks) ys)) (drop_end marks i h)) ∙ e

  -- the same from the place of mark i on
  pub mark_turn : (i at v w : ℕ) → i < length marks → takes v (journal_bytes (drop (i * 4096) blocks) (drop i marks)) ≡ n
      → at ≡ min (i * 4096) (length blocks) → w ≡ takes v (marked_bytes (get_or marks i 0) (drop at blocks))
      → takes w (journal_bytes (drop ((i + 1) * 4096) blocks) (drop (i + 1) marks)) ≡ n
  unfolding journal_bytes
  mark_turn i at v w h e k q =
      let here : drop at blocks ≡ drop (i * 4096) blocks = ap (λ (m : ℕ). drop m blocks) k ∙ drop_min blocks (i * 4096) (length blocks) refl in
      let place : (i + 1) * 4096 ≡ i * 4096 + 4096 = omega arith in
      let further : drop ((i + 1) * 4096) blocks ≡ drop 4096 (drop (i * 4096) blocks) =
      ap (λ (m : ℕ). drop m blocks) place ∙ sym (drop-drop 4096 (i * 4096) blocks) in
      (λ j. takes ((q ∙ ap (λ (ys : List ℕ). takes v (marked_bytes (get_or marks i 0) ys)) here) j) (journal_bytes (further j) (drop (i + 1) marks)))
      ∙ sym (takes_append v (marked_bytes (get_or marks i 0) (drop (i * 4096) blocks)) (journal_bytes (drop 4096 (drop (i * 4096) blocks)) (drop (i + 1) marks)))
      ∙ sym (ap (λ (ys : List ℕ). takes v (journal_bytes (drop (i * 4096) blocks) ys)) (drop_step marks i 0 h))
      ∙ e

  pub mark_end : (i v : ℕ) → length marks ≤ i → takes v (journal_bytes (drop (i * 4096) blocks) (drop i marks)) ≡ n → v ≡ n
  unfolding takes journal_bytes
  mark_end i v h e = sym (ap (λ (ys : List ℕ). takes v (journal_bytes (drop (i * 4096) blocks) ys)) (drop_end marks i h)) ∙ e
