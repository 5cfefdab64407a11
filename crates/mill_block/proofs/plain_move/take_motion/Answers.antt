use Rattle.std.proofs.Common.{arith, rules}
use Rattle.mill_block.proofs.PlainLemmas.{rapid, feed}
use Rattle.mill_block.proofs.plain_move.take_motion.Goals as goal

pub returns-then-num-eq0-clause-kind : goal.returns-then-num-eq0-clause-kind
returns-then-num-eq0-clause-kind c taken = rapid c.args.num (omega (arith, c.if-num-ne0.false)) (search rules) (omega (arith, c.if-num-eq0.true))

pub returns-else-num-eq0-clause-kind : goal.returns-else-num-eq0-clause-kind
returns-else-num-eq0-clause-kind c taken = feed c.args.num (omega (arith, c.if-num-ne0.false)) (search rules) (omega (arith, c.if-num-gt1.false, c.if-num-eq0.false))
