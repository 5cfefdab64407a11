use Rattle.std.proofs.Common.{rules, w32, arith}
use Rattle.std.proofs.lemmas.Int.{ints, to_z-of_z}
use lib.IntN.{pos, ◌+ℤ◌}
use Rattle.mill_push.proofs.Halving.{paid_first, paid_half, paid_last}
use Rattle.mill_push.proofs.Probing.{cut_half, left_ends}
use Rattle.mill_push.proofs.stretch.Pusher.halved.Goals as goal

pub loop-left-init : goal.loop-left-init
loop-left-init g c = record { left = c.requires.rest_ok; cost = λ n h. paid_first 1 _ c.args.steps.now n h }

pub loop-left-preserved : goal.loop-left-preserved
loop-left-preserved g c =
    let held = to_z-of_z w32 c.loop-left.left.held (search rules) in
    let free = to_z-of_z w32 c.loop-left.left.free (search rules) in
    let next = to_z-of_z w32 (c.loop-left.left.held +ℤ pos 1) (search rules) in
    let at = to_z-of_z w32 c.middle-at.result (search rules) in
    let m = rw (held, next, free) at c.middle-at.ensures in
    let half = cut_half c.loop-left.left c.probe-left.result c.middle-at.result m.from m.to m.before m.after (rw at at c.probe-left.ensures.cut) in
    record { left = c.probe-left.ensures.left; cost = λ n h. paid_half (omega arith) half.0 half.1 c.probe-left.ensures.step (c.loop-left.invariant.cost n h) }

pub loop-left-smaller : goal.loop-left-smaller
loop-left-smaller g c =
    let held = to_z-of_z w32 c.loop-left.left.held (search rules) in
    let free = to_z-of_z w32 c.loop-left.left.free (search rules) in
    let next = to_z-of_z w32 (c.loop-left.left.held +ℤ pos 1) (search rules) in
    let at = to_z-of_z w32 c.middle-at.result (search rules) in
    let m = rw (held, next, free) at c.middle-at.ensures in
    let half = cut_half c.loop-left.left c.probe-left.result c.middle-at.result m.from m.to m.before m.after (rw at at c.probe-left.ensures.cut) in
    omega (half.0, half.1, arith)

pub returns-clause-end : goal.returns-clause-end
returns-clause-end g c =
    let held = to_z-of_z w32 c.loop-left.left.held (search rules) in
    let free = to_z-of_z w32 c.loop-left.left.free (search rules) in
    let test = rw (held, free) at c.loop-left-test.false in
    rw held (left_ends c.args.self.cutter c.args.tri.now c.args.self.fiber c.args.search c.loop-left.left (omega (test, arith, ints)) c.loop-left.invariant.left)

pub returns-clause-cost : goal.returns-clause-cost
returns-clause-cost g c n h = let p = paid_last (c.loop-left.invariant.cost n h) in omega arith
