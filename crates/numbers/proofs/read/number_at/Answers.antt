use Rattle.std.proofs.Common.{rules, arith, ◌<◌}
use Rattle.laws.specs.Bytes.{bytes_all}
use Rattle.numbers.specs.Laws.{read_none, read_turn, read_small}
use Rattle.numbers.proofs.read.number_at.Goals as goal

pub loop-j-init : goal.loop-j-init
loop-j-init c = read_none c.args.src.now c.min-start.result c.min-count.result (omega arith)

pub overflow_mul-n : goal.overflow_mul-n
overflow_mul-n c =
    let h = read_small c.args.src.now c.min-start.result c.min-count.result (omega arith)
    (bytes_all c.args.src.now (λ k h. search rules))
    (omega arith) c.loop-j.j c.loop-j.n (omega arith) c.loop-j.invariant in
    omega arith

pub overflow_add-n : goal.overflow_add-n
overflow_add-n c =
    let h = read_small c.args.src.now c.min-start.result c.min-count.result (omega arith)
    (bytes_all c.args.src.now (λ k h. search rules))
    (omega arith) c.loop-j.j c.loop-j.n (omega arith) c.loop-j.invariant in
    let b : c.from.result < 256 = search rules in
    omega arith

pub loop-j-preserved : goal.loop-j-preserved
loop-j-preserved c =
    read_turn c.args.src.now c.min-start.result c.min-count.result (omega arith) c.loop-j.j c.loop-j.n c.from.result
    (omega arith) (omega arith) c.loop-j.invariant c.from.ensures
