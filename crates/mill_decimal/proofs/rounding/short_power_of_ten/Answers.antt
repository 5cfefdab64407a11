use Rattle.std.proofs.Common.{arith}
use Rattle.std.proofs.Math.Nat.{one-le-pow}
use Rattle.mill_decimal.proofs.Powers.{ten}
use Rattle.mill_decimal.proofs.rounding.short_power_of_ten.Goals as goal

pub pow-requires : goal.pow-requires
pow-requires c = omega (arith, ten c.args.exponent 14 c.requires)

pub returns-clause-low : goal.returns-clause-low
returns-clause-low c = omega (arith, one-le-pow c.args.exponent 10 (omega arith))

pub returns-clause-high : goal.returns-clause-high
returns-clause-high c = omega (arith, ten c.args.exponent 14 c.requires)
