use Rattle.std.proofs.Common.{arith}
use Rattle.mill_verify.proofs.Counted.{bound_more, moves_all, moves_fit, moves_more}
use Rattle.mill_verify.proofs.file.moves_of.Goals as goal

pub overflow_add-moves : goal.overflow_add-moves
overflow_add-moves c =
    omega (arith, moves_fit c.args.files.now c.loop-number.number c.loop-number.moves c.moves.result.now c.index-files-number.result c.loop-number-test.true c.index-files-number.is c.moves.ensures c.requires.few_moves c.requires.few c.loop-number.invariant.1)

pub loop-number-preserved : goal.loop-number-preserved
loop-number-preserved c = (
  moves_more c.args.files.now c.loop-number.number c.loop-number.moves c.moves.result.now c.index-files-number.result c.loop-number-test.true c.index-files-number.is c.moves.ensures c.loop-number.invariant.0,
  bound_more c.args.files.now c.loop-number.number c.loop-number.moves c.moves.result.now c.index-files-number.result c.loop-number-test.true c.index-files-number.is c.moves.ensures c.requires.few_moves c.loop-number.invariant.1,
)

pub returns : goal.returns
returns c = moves_all c.args.files.now c.loop-number.number c.loop-number.moves c.loop-number-test.false c.loop-number.invariant.0
