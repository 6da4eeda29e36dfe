-- Bytes in hexadecimal: two digits of either case for each byte, the high one first. Assumes nothing.
use Rattle.std.specs.Prelude.{None, Some}
use Rattle.std.specs.declared.option.Option as code
use Rattle.std.specs.Prelude.{ℕ, zero, suc, ◌+◌, ◌-◌, ◌*◌, ◌/◌, ◌%◌, ◌≤◌, ◌<◌, Bool, true, false, cond, ◌&&◌, ◌≡◌, refl, List, [], ◌∷◌, leb, ltb, eqb, length, take, get_or, set}
use Rattle.std.proofs.Math.Path.{sym}
use Rattle.std.proofs.Common.{◌∙◌, ap, arith, take_all, eqb-true, leb-true, ltb-true, le-leb}
use Rattle.laws.specs.Choice.{also, also_left, also_right, also_both, also_assoc, and_also, not_so}
use Rattle.laws.specs.Fold.{every}
use Rattle.laws.specs.Splice.{splice, copy_turn}
use Rattle.words.specs.Line.{lies, bytes_of}
use Rattle.words.specs.declared.Word.{Word}

-- from one number to another
unfoldable pub between : ℕ → ℕ → ℕ → Bool
between a b c = also (leb a c) (leb c b)

-- the value of a digit, 0 to 9, A to F, a to f; 16 where it isn't one
unfoldable pub nibble_of : ℕ → ℕ
nibble_of c = cond (between 48 57 c) (c - 48) (cond (between 65 70 c) (c - 55) (cond (between 97 102 c) (c - 87) 16))

unfoldable pub is_hex : ℕ → Bool
is_hex c = ltb (nibble_of c) 16

-- the byte of each two digits
unfoldable pub bytes : List ℕ → List ℕ
bytes [] = []
bytes (c ∷ []) = []
bytes (c ∷ d ∷ cs) = (nibble_of c * 16 + nibble_of d) ∷ bytes cs

-- digits alone, in pairs, and memory of n bytes has room for their bytes from a place on
unfoldable pub fits : List ℕ → ℕ → ℕ → Bool
fits cs n at = also (eqb (length cs % 2) 0) (also (leb (at + length cs / 2) n) (every is_hex cs))

-- how many bytes they are
unfoldable pub count_of : List ℕ → ℕ → ℕ → code.Option ℕ
count_of cs n at = cond (fits cs n at) (Some (length cs / 2)) None

-- and the memory with them
unfoldable pub written : List ℕ → List ℕ → ℕ → List ℕ
written cs out at = cond (fits cs (length out) at) (splice out at (bytes cs)) out

-- of a word of a line
unfoldable pub hex_count : List ℕ → Word → ℕ → ℕ → code.Option ℕ
hex_count line w n at = cond (lies w (length line)) (count_of (bytes_of line w) n at) None

unfoldable pub hex_written : List ℕ → Word → List ℕ → ℕ → List ℕ
hex_written line w out at = cond (lies w (length line)) (written (bytes_of line w) out at) out

-- what it means to fit
pub record Fits (cs : List ℕ) (n at : ℕ) : Type 0 where
  pub even : length cs % 2 ≡ 0
  pub room : at + length cs / 2 ≤ n
  pub digits : every is_hex cs ≡ true

pub fits_facts : (cs : List ℕ) (n at : ℕ) {b : Bool} → b ≡ fits cs n at → b ≡ true → Fits cs n at
unfolding fits
fits_facts cs n at e h =
    let all : fits cs n at ≡ true = sym e ∙ h in
    let rest : also (leb (at + length cs / 2) n) (every is_hex cs) ≡ true = also_right (eqb (length cs % 2) 0) (also (leb (at + length cs / 2) n) (every is_hex cs)) all in
    record {
      even = eqb-true (length cs % 2) 0 (also_left (eqb (length cs % 2) 0) (also (leb (at + length cs / 2) n) (every is_hex cs)) all);
      room = leb-true (at + length cs / 2) n (also_left (leb (at + length cs / 2) n) (every is_hex cs) rest);
      digits = also_right (leb (at + length cs / 2) n) (every is_hex cs) rest;
    }

-- three tests as the code joins them
pub fits_joined : (cs : List ℕ) (n at : ℕ) (p q r : Bool) → p ≡ eqb (length cs % 2) 0 → q ≡ leb (at + length cs / 2) n → r ≡ every is_hex cs → (p && q) && r ≡ fits cs n at
unfolding fits
fits_joined cs n at p q r hp hq hr =
    and_also (p && q) r
    ∙ ap (λ (x : Bool). also x r) (and_also p q)
    ∙ also_assoc p q r
    ∙ (λ i. also (hp i) (also (hq i) (hr i)))

-- the value of each kind of digit
between_yes : (a b c : ℕ) → a ≤ c → c ≤ b → between a b c ≡ true
unfolding between
between_yes a b c h k = also_both (leb a c) (leb c b) (le-leb a c h) (le-leb c b k)

between_no : (a b c : ℕ) → (a ≤ c → c ≤ b → ⊥) → between a b c ≡ false
unfolding between
between_no a b c f =
    not_so (also (leb a c) (leb c b)) (λ e. f (leb-true a c (also_left (leb a c) (leb c b) e)) (leb-true c b (also_right (leb a c) (leb c b) e)))

module _ (c : ℕ) where
  pub nibble_digit : 48 ≤ c → c ≤ 57 → c - 48 ≡ nibble_of c
  unfolding nibble_of
  nibble_digit h k = sym (simp (between_yes 48 57 c h k))

  pub nibble_upper : 65 ≤ c → c ≤ 70 → c - 55 ≡ nibble_of c
  unfolding nibble_of
  nibble_upper h k = sym (simp (between_no 48 57 c (omega arith), between_yes 65 70 c h k))

  pub nibble_lower : 97 ≤ c → c ≤ 102 → c - 87 ≡ nibble_of c
  unfolding nibble_of
  nibble_lower h k = sym (simp (between_no 48 57 c (omega arith), between_no 65 70 c (omega arith), between_yes 97 102 c h k))

  pub nibble_none : (48 ≤ c → c ≤ 57 → ⊥) → (65 ≤ c → c ≤ 70 → ⊥) → (97 ≤ c → c ≤ 102 → ⊥) → 16 ≡ nibble_of c
  unfolding nibble_of
  nibble_none f g h = sym (simp (between_no 48 57 c f, between_no 65 70 c g, between_no 97 102 c h))

-- a digit's value is below 16
pub nibble_small : (c : ℕ) → is_hex c ≡ true → nibble_of c < 16
unfolding is_hex
nibble_small c e = ltb-true (nibble_of c) 16 e

-- how many bytes there are, and the byte at a place
pub length_bytes : (cs : List ℕ) → length (bytes cs) ≡ length cs / 2
unfolding bytes
length_bytes [] = omega arith
length_bytes (c ∷ []) = omega arith
length_bytes (c ∷ d ∷ cs) = omega (arith, length_bytes cs)

pub bytes_at : (cs : List ℕ) (j : ℕ) → j * 2 + 1 < length cs → nibble_of (get_or cs (j * 2) 0) * 16 + nibble_of (get_or cs (j * 2 + 1) 0) ≡ get_or (bytes cs) j 0
unfolding bytes
bytes_at [] j h = absurd (omega arith)
bytes_at (c ∷ []) j h = absurd (omega arith)
bytes_at (c ∷ d ∷ cs) zero h = refl
bytes_at (c ∷ d ∷ cs) (suc j) h =
    let e : suc j * 2 ≡ suc (suc (j * 2)) = omega arith in
    let f : suc j * 2 + 1 ≡ suc (suc (j * 2 + 1)) = omega arith in
    (λ i. nibble_of (get_or (c ∷ d ∷ cs) (e i) 0) * 16 + nibble_of (get_or (c ∷ d ∷ cs) (f i) 0))
    ∙ bytes_at cs j (omega arith)

-- a turn of the loop that writes them, and its end
module _ (x out cs : List ℕ) (at j : ℕ) (e : x ≡ splice out at (take j (bytes cs))) where
  pub bytes_turn : (b : ℕ) → b ≡ nibble_of (get_or cs (j * 2) 0) * 16 + nibble_of (get_or cs (j * 2 + 1) 0) → j < length cs / 2 → at + j < length out
      → set x (at + j) b ≡ splice out at (take (j + 1) (bytes cs))
  bytes_turn b q h k =
      ap (set x (at + j)) (q ∙ bytes_at cs j (omega arith))
      ∙ copy_turn x out at (bytes cs) j 0 e (omega (arith, length_bytes cs)) k

  pub bytes_end : length cs / 2 ≤ j → x ≡ splice out at (bytes cs)
  bytes_end h = e ∙ ap (splice out at) (take_all j (bytes cs) (omega (arith, length_bytes cs)))

-- digits that fit are written, others aren't
module _ (cs : List ℕ) (n at : ℕ) {b : Bool} (e : b ≡ fits cs n at) where
  pub count_yes : b ≡ true → Some (length cs / 2) ≡ count_of cs n at
  unfolding count_of
  count_yes h = sym (simp (sym e ∙ h))

  pub count_no : b ≡ false → None ≡ count_of cs n at
  unfolding count_of
  count_no h = sym (simp (sym e ∙ h))

module _ (cs out : List ℕ) (at : ℕ) {b : Bool} (e : b ≡ fits cs (length out) at) where
  pub written_yes : {x : List ℕ} → b ≡ true → x ≡ splice out at (bytes cs) → x ≡ written cs out at
  unfolding written
  written_yes h q = q ∙ sym (simp (sym e ∙ h))

  pub written_no : b ≡ false → out ≡ written cs out at
  unfolding written
  written_no h = sym (simp (sym e ∙ h))

-- a word that lies in the line, and one that doesn't
module _ (line : List ℕ) (w : Word) {b : Bool} (e : b ≡ lies w (length line)) where
  pub hex_in : (n at : ℕ) {r : code.Option ℕ} → b ≡ true → r ≡ count_of (bytes_of line w) n at → r ≡ hex_count line w n at
  unfolding hex_count
  hex_in n at h q = q ∙ sym (simp (sym e ∙ h))

  pub hex_out : (n at : ℕ) → b ≡ false → None ≡ hex_count line w n at
  unfolding hex_count
  hex_out n at h = sym (simp (sym e ∙ h))

  pub hex_written_is : (out : List ℕ) (at : ℕ) {x : List ℕ} → b ≡ true → x ≡ written (bytes_of line w) out at → x ≡ hex_written line w out at
  unfolding hex_written
  hex_written_is out at h q = q ∙ sym (simp (sym e ∙ h))

  pub hex_kept : (out : List ℕ) (at : ℕ) → b ≡ false → out ≡ hex_written line w out at
  unfolding hex_written
  hex_kept out at h = sym (simp (sym e ∙ h))
