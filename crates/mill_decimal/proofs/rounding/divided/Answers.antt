use Rattle.std.proofs.Common.{sym, arith}
use Rattle.mill_decimal.proofs.Powers.{far_nearest, in_range-taken}
use Rattle.mill_decimal.proofs.rounding.divided.Goals as goal

pub returns-then-places-gt26-clause-value : goal.returns-then-places-gt26-clause-value
returns-then-places-gt26-clause-value c = rw (far_nearest c.args.mantissa c.args.places c.requires c.if-places-gt26.true) (sym (in_range-taken c.args.unit 0 (omega arith)))
