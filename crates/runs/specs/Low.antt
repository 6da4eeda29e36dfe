-- Numbers as single bytes: the low byte of each.
use Rattle.std.specs.Prelude.{ℕ, ◌%◌, ◌≡◌, List, map, length, take, drop}
use Rattle.std.proofs.lemmas.List.{length-map}
use Rattle.laws.specs.Part.{map_take, map_drop}

unfoldable pub low_bytes : List ℕ → List ℕ
low_bytes ns = map (λ (n : ℕ). n % 256) ns

pub length_low_bytes : (ns : List ℕ) → length (low_bytes ns) ≡ length ns
unfolding low_bytes
length_low_bytes ns = length-map ns (λ (n : ℕ). n % 256)

-- of a part
pub low_bytes_part : (a k : ℕ) (ns : List ℕ) → low_bytes (take k (drop a ns)) ≡ take k (drop a (low_bytes ns))
unfolding low_bytes
low_bytes_part a k ns = rw (map_take (λ (n : ℕ). n % 256) k (drop a ns), map_drop (λ (n : ℕ). n % 256) a ns)
