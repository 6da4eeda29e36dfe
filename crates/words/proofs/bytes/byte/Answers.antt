use native.Mathlib.Omega.{arith}
use Rattle.words.specs.Hex.{nibble_small}
use Rattle.words.proofs.bytes.byte.Goals as goal

pub overflow_mul-result : goal.overflow_mul-result
overflow_mul-result c = let a = c.args in omega (arith, nibble_small a.high c.requires.0)

pub overflow_add-result : goal.overflow_add-result
overflow_add-result c = let a = c.args in omega (arith, nibble_small a.high c.requires.0, nibble_small a.low c.requires.1)
