use native.Mathlib.Omega.{arith}
use mathlib.Core.Path.{◌≡◌, ◌∙◌, ap}
use Rattle.std.specs.Prelude.{ℕ, ◌*◌, ◌+◌, drop}
use Rattle.digest.specs.Take.{takes}
use Rattle.digest.specs.Laws.Turns.{three_turn}
use Rattle.digest.proofs.bytes.Taken.threes.Goals as goal

pub loop-i-preserved : goal.loop-i-preserved
loop-i-preserved c =
    let further : 3 * (c.loop-i.i + 1) ≡ 3 * c.loop-i.i + 3 = omega arith in
    ap (λ (n : ℕ). takes c.three-v.result.number (drop n c.args.s.now)) further
    ∙ three_turn c.args.s.now (3 * c.loop-i.i) _ _ (omega arith) c.loop-i.invariant c.three-v.ensures
