use Rattle.std.proofs.Common.{arith}
use Rattle.std.proofs.lemmas.Int.{ints}
use Rattle.mill_dexel.proofs.Splits.{multiple_test}
use Rattle.mill_dexel.proofs.sample.is_whole.Goals as goal

pub returns : goal.returns
returns c = multiple_test c.args.end c.unsigned_abs.result c.args.d c.power_of_two.result (omega (arith, ints)) c.power_of_two.ensures
