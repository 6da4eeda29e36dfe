use Prim.Native.Nat.{◌+◌, ◌*◌, ◌-◌, ◌<◌}
use native.Mathlib.Omega.{arith}
use Rattle.unpacker.specs.Unpack.{unpacked_none, turn_front, turn_some, turn_next, unpacked_bytes, unpacked_lens}
use Rattle.unpacker.specs.Walked.{Walked}
use Rattle.unpacker.proofs.replay.unpack_all.Goals as goal
use Rattle.unpacker.proofs.replay.unpack_all.Goals.{After-unpack_range-c}

some : (c : After-unpack_range-c) → 0 < c.unpack_range-c.result.blocks
some c =
    let l = c in
    turn_some _ _ _ c.requires _ _ _ _ _ c.loop-at.invariant c.loop-at-test.true _ c.unpack_range-c.ensures.value

next : (c : After-unpack_range-c)
    → Walked c.args.s.now (c.loop-at.at + c.unpack_range-c.result.blocks * 4096) (c.loop-at.n + c.unpack_range-c.result.entries) (c.loop-at.t + c.unpack_range-c.result.bytes)
next c =
    let l = c in
    (turn_next _ _ _ c.requires _ _ _ _ _ c.loop-at.invariant c.loop-at-test.true _ c.unpack_range-c.ensures.value _ _ c.unpack_range-c.ensures.bytes_after c.unpack_range-c.ensures.lens_after).walked

pub loop-at-init : goal.loop-at-init
loop-at-init c = unpacked_none _ _ _

pub unpack_range-c-requires : goal.unpack_range-c-requires
unpack_range-c-requires c =
    let l = c in
    turn_front _ _ _ c.requires _ _ _ _ _ c.loop-at.invariant c.loop-at-test.true

pub overflow_mul-at : goal.overflow_mul-at
overflow_mul-at c = let w = next (goal.at.overflow_mul-at c).After-unpack_range-c in omega arith

pub overflow_add-at : goal.overflow_add-at
overflow_add-at c = let w = next (goal.at.overflow_add-at c).After-unpack_range-c in omega arith

pub overflow_add-n : goal.overflow_add-n
overflow_add-n c = let w = next (goal.at.overflow_add-n c).After-unpack_range-c in omega arith

pub overflow_add-t : goal.overflow_add-t
overflow_add-t c = let w = next (goal.at.overflow_add-t c).After-unpack_range-c in omega arith

pub loop-at-smaller : goal.loop-at-smaller
loop-at-smaller c = let w = next (goal.at.loop-at-smaller c).After-unpack_range-c in omega (arith, some (goal.at.loop-at-smaller c).After-unpack_range-c)

pub loop-at-preserved : goal.loop-at-preserved
loop-at-preserved c =
    let q = c in
    let l = c in
    turn_next _ _ _ c.requires _ _ _ _ _ c.loop-at.invariant c.loop-at-test.true _ c.unpack_range-c.ensures.value _ _ c.unpack_range-c.ensures.bytes_after c.unpack_range-c.ensures.lens_after

pub returns : goal.returns
returns c =
    let l = c in record { bytes_after = unpacked_bytes _ _ _ c.requires _ _ _ _ _ c.loop-at.invariant c.loop-at-test.false; lens_after = unpacked_lens _ _ _ c.requires _ _ _ _ _ c.loop-at.invariant c.loop-at-test.false }
