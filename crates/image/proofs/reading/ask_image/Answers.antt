use native.Mathlib.Omega.{arith}
use Rattle.layout.specs.Geometry.{geometry_asked}
use Rattle.refusal.specs.Refusal.{yes}
use Rattle.image.proofs.reading.ask_image.Goals as goal

pub overflow_mul-size : goal.overflow_mul-size
overflow_mul-size c = let v = geometry_asked _ (yes _ _ _ c.in_ok-ask.ensures) in omega arith

pub overflow_add-size : goal.overflow_add-size
overflow_add-size c = let v = geometry_asked _ (yes _ _ _ c.in_ok-ask.ensures) in omega arith
