use Rattle.std.proofs.Common.{rules, arith, ◌<◌, ◌∙◌, ap, refl, length}
use Rattle.text.specs.Laws.{length_hex, hex_start, hex_turn}
use Rattle.text.proofs.digits.put_hex.Goals as goal

pub loop-b-init : goal.loop-b-init
loop-b-init c = let a = c.args in (refl, omega (arith, c.min-place.ensures), hex_start a.text.now a.at)

pub loop-b-preserved : goal.loop-b-preserved
loop-b-preserved c =
    let a = c.args in
    let i = c.loop-b in
    let r = c.put-place in
    let n = ap length c.pair-two.ensures in
    let l : i.b-index < length a.bytes.now = search rules in (
      r.auto.text ∙ i.invariant.0,
      omega (arith, r.ensures.value, i.invariant.0, i.invariant.1, n),
      hex_turn i.text a.text.now a.bytes.now a.at i.b-index i.place i.invariant.2 i.invariant.1 r.new.text c.pair-two.result l c.pair-two.ensures r.ensures.text_after,
    )

pub returns-clause-value : goal.returns-clause-value
returns-clause-value c = omega (arith, c.loop-b.invariant.1, length_hex c.args.bytes.now)
