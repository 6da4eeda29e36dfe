-- Words of a line: where the next one lies, whether a word lies in its line, and its bytes. Assumes nothing.
use Rattle.std.specs.Prelude.{ℕ, ◌-◌, ◌≤◌, Bool, true, false, ◌≡◌, List, leb, length, take, drop, MatchOption, None, Some}
use Rattle.std.specs.declared.option.Option as code
use Rattle.std.specs.List.{PartBy}
use Rattle.std.proofs.Common.{sym, ◌∙◌, ap, leb-true, le-leb, ⊎_elim}
use Rattle.std.proofs.lemmas.Bool.{lt-leb}
use denote.Ref.{Bor}
use Rattle.laws.specs.Choice.{also, also_left, also_right, also_both, also_false}
use Rattle.laws.specs.Fold.{same}
use Rattle.words.specs.Place.{place, is_blank, not_blank}
use Rattle.words.specs.declared.Word.{Word}

-- the next word from a place on: it begins at the first byte that isn't blank and ends at the next blank, or at the line's end
unfoldable pub word_from : List ℕ → ℕ → Word
word_from line from = record { from = from; to = place is_blank line from (length line) }

unfoldable pub word_at : List ℕ → ℕ → Word
word_at line at = word_from line (place not_blank line at (length line))

-- it has no bytes
unfoldable pub is_none : Word → Bool
is_none w = leb w.to w.from

-- it lies in a line of n bytes
unfoldable pub lies : Word → ℕ → Bool
lies w n = also (leb w.from w.to) (leb w.to n)

-- its bytes
unfoldable pub bytes_of : List ℕ → Word → List ℕ
bytes_of line w = take (w.to - w.from) (drop w.from line)

-- it lies in the line, and its bytes are these
unfoldable pub says : List ℕ → Word → List ℕ → Bool
says line w word = also (lies w (length line)) (same (bytes_of line w) word)

-- what it means to lie in a line
pub record Lies (w : Word) (n : ℕ) : Type 0 where
  pub ordered : w.from ≤ w.to
  pub within : w.to ≤ n

pub lies_facts : (w : Word) (n : ℕ) {b : Bool} → b ≡ lies w n → b ≡ true → Lies w n
unfolding lies
lies_facts w n e h = record {
  ordered = leb-true w.from w.to (also_left (leb w.from w.to) (leb w.to n) (sym e ∙ h));
  within = leb-true w.to n (also_right (leb w.from w.to) (leb w.to n) (sym e ∙ h));
}

-- a word that lies in the line says what its bytes are; another says nothing
pub says_in : (line word : List ℕ) (w : Word) {b r : Bool} → b ≡ lies w (length line) → b ≡ true → r ≡ same (bytes_of line w) word → r ≡ says line w word
unfolding says also
says_in line word w e h q = q ∙ ap (λ (x : Bool). also x (same (bytes_of line w) word)) (sym h ∙ e)

pub says_out : (line word : List ℕ) (w : Word) {b : Bool} → b ≡ lies w (length line) → b ≡ false → false ≡ says line w word
unfolding says also
says_out line word w e h = ap (λ (x : Bool). also x (same (bytes_of line w) word)) (sym h ∙ e)

-- what the library lends of the line from one place up to another: its bytes, where it lies there
pub bytes_lent : (line : List ℕ) (w : Word) (r : code.Option (Bor (List ℕ))) → PartBy (λ (b : Bor (List ℕ)). b.now) line w.from w.to r
    → MatchOption r (lies w (length line) ≡ false) (λ (b : Bor (List ℕ)). (lies w (length line) ≡ true) × (b.now ≡ bytes_of line w))
unfolding lies bytes_of also
bytes_lent line w None p =
    ⊎_elim
    (λ h. ap (λ (b : Bool). also b (leb w.to (length line))) (lt-leb w.from w.to h))
    (λ h. ap (also (leb w.from w.to)) (lt-leb w.to (length line) h) ∙ also_false (leb w.from w.to))
    p.0
bytes_lent line w (Some b) p =
    (also_both _ _ (le-leb w.from w.to p.0.0) (le-leb w.to (length line) p.0.1), p.0.2)
