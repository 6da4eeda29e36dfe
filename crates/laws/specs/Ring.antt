-- Positions on a ring of S places: a position is below S, and an offset from a position is counted going round. Every law holds for every
-- S: facts go by the two cases of each conditional. Assumes nothing.
use Rattle.std.specs.Prelude.{ℕ, ◌+◌, ◌-◌, ◌%◌, ◌*◌, ◌≤◌, ◌<◌, cond, ◌≡◌, refl, leb}
use Rattle.std.proofs.Common.{sym, ◌∙◌, ap, add_assoc, mod-eq_of_lt, arith, le-leb}
use Rattle.std.proofs.Math.Nat.{mod-eq-sub-mod}
use Rattle.std.proofs.lemmas.Bool.{lt-leb}
use Rattle.laws.specs.Choice.{by_leb}

-- the position of x on a ring of S places, for x below 2 S
unfoldable pub wrap : ℕ → ℕ → ℕ
wrap S x = cond (leb S x) (x - S) x

-- how far i lies after p, going round
unfoldable pub off : ℕ → ℕ → ℕ → ℕ
off S p i = cond (leb p i) (i - p) (i + S - p)

pub by_wrap {κ} : (P : ℕ → Type κ) (S x : ℕ) → (S ≤ x → P (x - S)) → (x < S → P x) → P (wrap S x)
unfolding wrap
by_wrap P S x f g = by_leb P S x (x - S) x f g

pub by_off {κ} : (P : ℕ → Type κ) (S p i : ℕ) → (p ≤ i → P (i - p)) → (i < p → P (i + S - p)) → P (off S p i)
unfolding off
by_off P S p i f g = by_leb P p i (i - p) (i + S - p) f g

-- below the end nothing wraps; at the end and past it S goes off
pub wrap_below : (S x : ℕ) → x < S → wrap S x ≡ x
unfolding wrap
wrap_below S x h = simp (lt-leb S x h)

pub wrap_past : (S x : ℕ) → S ≤ x → wrap S x ≡ x - S
unfolding wrap
wrap_past S x h = simp (le-leb S x h)

pub wrap_in : (S x : ℕ) → x < S + S → wrap S x < S
wrap_in S x h = by_wrap (λ (w : ℕ). w < S) S x (λ l. omega arith) (λ l. l)

-- it is the remainder, and this the only law that names one: proofs go by the two cases
pub wrap_mod : (S x : ℕ) → x < S + S → wrap S x ≡ x % S
wrap_mod S x h =
    by_wrap (λ (w : ℕ). w ≡ x % S) S x
    (λ m. sym (mod-eq-sub-mod m ∙ mod-eq_of_lt (omega arith)))
    (λ m. sym (mod-eq_of_lt m))

pub off_in : (S p i : ℕ) → p < S → i < S → off S p i < S
off_in S p i h k = by_off (λ (o : ℕ). o < S) S p i (λ l. omega arith) (λ l. omega arith)

-- moving on by a and then by b is moving on by both
pub wrap_add : (S s a b : ℕ) → s < S → a + b ≤ S → wrap S (wrap S (s + a) + b) ≡ wrap S (s + (a + b))
wrap_add S s a b h k =
    by_wrap (λ (w : ℕ). wrap S (w + b) ≡ wrap S (s + (a + b))) S (s + a)
    (λ l.
    by_wrap (λ (w : ℕ). w ≡ wrap S (s + (a + b))) S (s + a - S + b)
    (λ m. absurd_le l m)
    (λ m. by_wrap (λ (w : ℕ). s + a - S + b ≡ w) S (s + (a + b)) (λ n. omega arith) (λ n. absurd (omega arith))))
    (λ l. ap (wrap S) (add_assoc s a b))
  where
    absurd_le : S ≤ s + a → S ≤ s + a - S + b → s + a - S + b - S ≡ wrap S (s + (a + b))
    absurd_le l m = by_wrap (λ (w : ℕ). s + a - S + b - S ≡ w) S (s + (a + b)) (λ n. omega arith) (λ n. omega arith)

-- a place is its offset from p, and the place at offset t from p has offset t
pub wrap_off : (S p i : ℕ) → p < S → i < S → wrap S (p + off S p i) ≡ i
wrap_off S p i h k =
    by_off (λ (o : ℕ). wrap S (p + o) ≡ i) S p i
    (λ l. by_wrap (λ (w : ℕ). w ≡ i) S (p + (i - p)) (λ m. omega arith) (λ m. omega arith))
    (λ l. by_wrap (λ (w : ℕ). w ≡ i) S (p + (i + S - p)) (λ m. omega arith) (λ m. omega arith))

pub off_wrap : (S p t : ℕ) → p < S → t < S → off S p (wrap S (p + t)) ≡ t
off_wrap S p t h k =
    by_wrap (λ (w : ℕ). off S p w ≡ t) S (p + t)
    (λ l. by_off (λ (o : ℕ). o ≡ t) S p (p + t - S) (λ m. omega arith) (λ m. omega arith))
    (λ l. by_off (λ (o : ℕ). o ≡ t) S p (p + t) (λ m. omega arith) (λ m. omega arith))

-- seen from the start s, a place at offset i lies after the place at offset a as i lies after a
pub off_shift : (S s a i : ℕ) → s < S → a < S → i < S → off S (wrap S (s + a)) (wrap S (s + i)) ≡ off S a i
off_shift S s a i h ha hi =
    by_off (λ (o : ℕ). off S (wrap S (s + a)) (wrap S (s + i)) ≡ o) S a i
    (λ l.
    by_wrap (λ (w : ℕ). off S w (wrap S (s + i)) ≡ i - a) S (s + a)
    (λ m.
    by_wrap (λ (v : ℕ). off S (s + a - S) v ≡ i - a) S (s + i)
    (λ n. by_off (λ (o : ℕ). o ≡ i - a) S (s + a - S) (s + i - S) (λ q. omega arith) (λ q. omega arith))
    (λ n. by_off (λ (o : ℕ). o ≡ i - a) S (s + a - S) (s + i) (λ q. omega arith) (λ q. omega arith)))
    (λ m.
    by_wrap (λ (v : ℕ). off S (s + a) v ≡ i - a) S (s + i)
    (λ n. by_off (λ (o : ℕ). o ≡ i - a) S (s + a) (s + i - S) (λ q. omega arith) (λ q. omega arith))
    (λ n. by_off (λ (o : ℕ). o ≡ i - a) S (s + a) (s + i) (λ q. omega arith) (λ q. omega arith))))
    (λ l.
    by_wrap (λ (w : ℕ). off S w (wrap S (s + i)) ≡ i + S - a) S (s + a)
    (λ m.
    by_wrap (λ (v : ℕ). off S (s + a - S) v ≡ i + S - a) S (s + i)
    (λ n. by_off (λ (o : ℕ). o ≡ i + S - a) S (s + a - S) (s + i - S) (λ q. omega arith) (λ q. omega arith))
    (λ n. by_off (λ (o : ℕ). o ≡ i + S - a) S (s + a - S) (s + i) (λ q. omega arith) (λ q. omega arith)))
    (λ m.
    by_wrap (λ (v : ℕ). off S (s + a) v ≡ i + S - a) S (s + i)
    (λ n. by_off (λ (o : ℕ). o ≡ i + S - a) S (s + a) (s + i - S) (λ q. omega arith) (λ q. omega arith))
    (λ n. by_off (λ (o : ℕ). o ≡ i + S - a) S (s + a) (s + i) (λ q. omega arith) (λ q. omega arith))))

-- a ring of blocks of 4,096 elements: an element's offset and position go by its block's
pub off_scaled : (S p i r : ℕ) → p < S → i < S → r < 4096 → off (S * 4096) (p * 4096) (i * 4096 + r) ≡ off S p i * 4096 + r
off_scaled S p i r h k l =
    by_off (λ (o : ℕ). off (S * 4096) (p * 4096) (i * 4096 + r) ≡ o * 4096 + r) S p i
    (λ m. by_off (λ (o : ℕ). o ≡ (i - p) * 4096 + r) (S * 4096) (p * 4096) (i * 4096 + r) (λ n. omega arith) (λ n. absurd (omega arith)))
    (λ m. by_off (λ (o : ℕ). o ≡ (i + S - p) * 4096 + r) (S * 4096) (p * 4096) (i * 4096 + r) (λ n. absurd (omega arith)) (λ n. omega arith))

pub wrap_scaled : (S x r : ℕ) → r < 4096 → wrap (S * 4096) (x * 4096 + r) ≡ wrap S x * 4096 + r
wrap_scaled S x r l =
    by_wrap (λ (w : ℕ). wrap (S * 4096) (x * 4096 + r) ≡ w * 4096 + r) S x
    (λ m. by_wrap (λ (w : ℕ). w ≡ (x - S) * 4096 + r) (S * 4096) (x * 4096 + r) (λ n. omega arith) (λ n. absurd (omega arith)))
    (λ m. by_wrap (λ (w : ℕ). w ≡ x * 4096 + r) (S * 4096) (x * 4096 + r) (λ n. absurd (omega arith)) (λ n. refl))
