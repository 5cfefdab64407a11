use Rattle.std.proofs.Common.{◌<◌, length, rules, arith}
use Rattle.mill_dexel.proofs.RunLaws.{run_more, run_none, run_stopped, run_ended, turn_cuts}
use Rattle.mill_dexel.proofs.turns.run_on.Goals as goal

pub loop-t-init : goal.loop-t-init
loop-t-init c = (rw c.done-t.ensures (run_none c.args.job.now.fields c.args.moves.now c.args.row.now c.requires.unfailed c.requires.row), tt)

pub loop-t-preserved : goal.loop-t-preserved
loop-t-preserved c =
    let there : c.loop-t.t < length c.args.moves.now = omega (arith, c.loop-t-test.true, c.requires.there) in
    (run_more c.args.job.now.fields c.args.moves.now c.args.row.now c.loop-t.row c.turn_after.new.self c.loop-t.t there c.loop-t.invariant.0 (c.turn_after.ensures.clears (search rules)) (c.turn_after.ensures.cut (search rules)) c.turn_after.ensures.row, turn_cuts c.args.job.now.fields c.args.moves.now c.loop-t.row c.turn_after.new.self c.loop-t.t _ there (c.turn_after.ensures.cut (search rules)))

pub returns : goal.returns
returns c = run_ended c.args.job.now.fields c.args.moves.now c.args.«end» c.args.row.now c.loop-t.row c.loop-t.t (omega (arith, c.loop-t-test.false)) c.loop-t.invariant.0

pub returns-then-not-turn_after : goal.returns-then-not-turn_after
returns-then-not-turn_after c =
    run_stopped c.args.job.now.fields c.args.moves.now c.args.«end» c.args.row.now c.loop-t.row c.turn_after.new.self c.loop-t.t (omega (arith, c.loop-t-test.true, c.requires.there)) c.loop-t.invariant.0
    (c.turn_after.ensures.stopped (search rules))
