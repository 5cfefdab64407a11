use Rattle.std.proofs.Common.{arith, ◌+◌, length}
use Rattle.mill_decimal.proofs.Powers.{ten}
use Rattle.mill_decimal.proofs.short.joined.Goals as goal

pub returns-clause-bound : goal.returns-clause-bound
returns-clause-bound c = omega (arith, ten (length c.args.whole.now + length c.args.fraction.now) 16 c.requires.few)
