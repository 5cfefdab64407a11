use Rattle.std.proofs.Common.{arith}
use Rattle.mill_decimal.proofs.Powers.{too_high}
use Rattle.mill_decimal.proofs.rounding.multiplied.Goals as goal

pub returns-then-zeros-gt5-clause-value : goal.returns-then-zeros-gt5-clause-value
returns-then-zeros-gt5-clause-value c = too_high c.args.unit c.args.mantissa c.args.zeros (omega arith) c.if-zeros-gt5.true
