use Rattle.std.proofs.Common.{rules, arith, ℕ, ◌≡◌, ◌+◌, ◌-◌, ◌≤◌, ◌<◌, ◌∙◌, refl, sym, ap, Bool, List, [], length, take, drop, get_or}
use Rattle.std.specs.Prelude.{not}
use Rattle.laws.specs.Choice.{also, and_also, true_also}
use Rattle.laws.specs.Cut.{cut, length_cut, cut_at}
use Rattle.laws.specs.Fold.{sum, sum_split, sum_take_step, flag_turn, flag_end}
use Rattle.range.specs.Blank.{blank, some_byte, none_blank}
use Rattle.memory.proofs.blank.none_blank.Goals as goal

-- an entry of the walk lies in the bytes
fits : (ns bs : List ℕ) (i : ℕ) → sum ns ≤ length bs → i < length ns → sum (take i ns) + get_or ns i 0 ≤ length bs
fits ns bs i h k =
    let step = sum_take_step ns i k in
    let rest = sum_split (i + 1) ns in
    omega (arith, step, rest, h)

pub loop-size-init : goal.loop-size-init
unfolding sum
loop-size-init c = (refl, true_also _)

pub overflow_add-end : goal.overflow_add-end
overflow_add-end c =
    let k : c.loop-size.size-index < length c.args.sizes.now = search rules in
    let room = fits c.args.sizes.now c.args.bodies.now c.loop-size.size-index c.requires k in
    let n = c.from.ensures in
    let bytes : length c.args.bodies.now ≤ 18446744073709551615 = search rules in
    omega (arith, room, n, c.loop-size.invariant.0, bytes)

pub slice_bounds-is_blank-end : goal.slice_bounds-is_blank-end
slice_bounds-is_blank-end c =
    let k : c.loop-size.size-index < length c.args.sizes.now = search rules in
    let room = fits c.args.sizes.now c.args.bodies.now c.loop-size.size-index c.requires k in
    let n = c.from.ensures in
    omega (arith, room, n, c.loop-size.invariant.0)

pub loop-size-preserved : goal.loop-size-preserved
loop-size-preserved c =
    let ns = c.args.sizes.now in
    let bs = c.args.bodies.now in
    let i = c.loop-size.size-index in
    let k : i < length ns = search rules in
    let step = sum_take_step ns i k in
    let size : c.from.result ≡ get_or ns i 0 = c.from.ensures in
    let part : c.loop-size.at + c.from.result - c.loop-size.at ≡ get_or ns i 0 = omega arith in
    let entry : take (c.loop-size.at + c.from.result - c.loop-size.at) (drop c.loop-size.at bs) ≡ get_or (cut ns bs) i [] =
    (λ j. take (part j) (drop (c.loop-size.invariant.0 j) bs)) ∙ sym (cut_at ns bs i k) in (
      omega (arith, step, size, c.loop-size.invariant.0),
      flag_turn some_byte (cut ns bs) i [] _ _ (omega (arith, length_cut ns bs)) c.loop-size.invariant.1
          (and_also _ _ ∙ ap (λ (z : Bool). also c.loop-size.ok (not z)) (c.is_blank.ensures ∙ ap blank entry)),
    )

pub returns : goal.returns
unfolding none_blank
returns c =
    let ns = c.args.sizes.now in
    let bs = c.args.bodies.now in
    let e : length ns ≤ c.loop-size.size-index = search rules in
    flag_end some_byte (cut ns bs) c.loop-size.size-index _ (omega (arith, length_cut ns bs)) c.loop-size.invariant.1
