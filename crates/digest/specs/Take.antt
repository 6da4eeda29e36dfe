-- The check number of bytes: it takes one after another.
use Rattle.std.specs.Prelude.{ℕ, ◌+◌, ◌*◌, ◌%◌, List, [], ◌∷◌}

unfoldable pub take_byte : ℕ → ℕ → ℕ
take_byte h b = (h * 257 + b + 1) % 4294967291

unfoldable pub takes : ℕ → List ℕ → ℕ
takes h [] = h
takes h (b ∷ bs) = takes (take_byte h b) bs
