use Rattle.std.proofs.Common.{arith, ◌+◌, length}
use Rattle.mill_decimal.proofs.DigitRuns.{digits_value-append}
use Rattle.mill_decimal.proofs.Powers.{ten}
use Rattle.mill_decimal.proofs.scaled.mantissa_of.Goals as goal

pub returns-clause-value : goal.returns-clause-value
returns-clause-value c = let joined = digits_value-append c.args.whole.now c.args.fraction.now in cc

pub returns-clause-bound : goal.returns-clause-bound
returns-clause-bound c = omega (arith, ten (length c.args.whole.now + length c.args.fraction.now) 24 c.requires.few)
