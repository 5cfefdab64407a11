use Rattle.std.proofs.Common.{arith}
use Rattle.std.proofs.lemmas.Int.{ints}
use Rattle.mill_base.proofs.Ranges.{greatest_of-le}
use Rattle.mill_control.proofs.hole.narrow.Goals as goal

pub overflow_cast-result : goal.overflow_cast-result
overflow_cast-result c = omega (arith, ints, greatest_of-le c.args.hole.unit, c.requires.within)
