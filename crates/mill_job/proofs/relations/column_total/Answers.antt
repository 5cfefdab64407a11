use Rattle.std.proofs.Common.{arith}
use Rattle.std.proofs.lemmas.Int.{ints}
use Rattle.mill_base.proofs.Ranges.{greatest_of-le}
use Rattle.mill_job.proofs.relations.column_total.Goals as goal

pub count-rows-requires-clause-first_ok : goal.count-rows-requires-clause-first_ok
count-rows-requires-clause-first_ok c = record { within = omega (arith, ints, greatest_of-le c.args.job.now.unit, c.requires.area_ok.y0_ok) }

pub count-rows-requires-clause-last_ok : goal.count-rows-requires-clause-last_ok
count-rows-requires-clause-last_ok c = record { within = omega (arith, ints, greatest_of-le c.args.job.now.unit, c.requires.area_ok.y1_ok) }

pub count-columns-requires-clause-first_ok : goal.count-columns-requires-clause-first_ok
count-columns-requires-clause-first_ok c = record { within = omega (arith, ints, greatest_of-le c.args.job.now.unit, c.requires.area_ok.x0_ok) }

pub count-columns-requires-clause-last_ok : goal.count-columns-requires-clause-last_ok
count-columns-requires-clause-last_ok c = record { within = omega (arith, ints, greatest_of-le c.args.job.now.unit, c.requires.area_ok.x1_ok) }
