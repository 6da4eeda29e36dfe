use Rattle.std.proofs.Common.{arith}
use Rattle.machine.specs.Laws.Entries.{replay_sums}
use Rattle.machine.proofs.entry_steps.replay_given.Goals as goal

pub overflow_add-entries : goal.overflow_add-entries
overflow_add-entries c =
    let s = replay_sums c.args.e _ _ _ _ _ _ c.in_ok-new.ensures _ c.replay_left-left.ensures _ c.is_next-next.ensures c.if-not-next.false 18446744073709551615
    (omega arith) (omega arith) (omega arith) (omega arith) in
    omega (arith, s.0)

pub overflow_add-bytes : goal.overflow_add-bytes
overflow_add-bytes c =
    let s = replay_sums c.args.e _ _ _ _ _ _ c.in_ok-new.ensures _ c.replay_left-left.ensures _ c.is_next-next.ensures c.if-not-next.false 18446744073709551615
    (omega arith) (omega arith) (omega arith) (omega arith) in
    omega (arith, s.1)
