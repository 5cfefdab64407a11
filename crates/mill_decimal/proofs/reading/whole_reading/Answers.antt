use Rattle.std.proofs.Common.{arith}
use Rattle.mill_decimal.proofs.ShortForms.{units_of_whole}
use Rattle.mill_decimal.proofs.reading.whole_reading.Goals as goal

pub returns-in-Some-clause-units : goal.returns-in-Some-clause-units
returns-in-Some-clause-units c = λ snap. grind (arith, units_of_whole snap c.args.unit c.args.short c.requires.places)
