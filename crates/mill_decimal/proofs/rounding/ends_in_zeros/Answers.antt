use Rattle.std.proofs.Common.{refl}
use Rattle.mill_decimal.proofs.Powers.{far_rest}
use Rattle.mill_decimal.proofs.rounding.ends_in_zeros.Goals as goal

pub returns-then-zeros-gt26 : goal.returns-then-zeros-gt26
returns-then-zeros-gt26 c = rw (far_rest c.args.mantissa c.args.zeros c.requires c.if-zeros-gt26.true) refl
