use Rattle.std.proofs.Common.{arith}
use Rattle.std.proofs.lemmas.Int.{ints}
use Rattle.mill_base.proofs.Ranges.{greatest_of-le}
use Rattle.mill_job.proofs.job.Job.columns.Goals as goal

pub count-requires-clause-first_ok : goal.count-requires-clause-first_ok
count-requires-clause-first_ok c = record { within = omega (arith, ints, greatest_of-le c.args.self.now.fields.unit, c.args.self.now.is_job.x0_ok) }

pub count-requires-clause-last_ok : goal.count-requires-clause-last_ok
count-requires-clause-last_ok c = record { within = omega (arith, ints, greatest_of-le c.args.self.now.fields.unit, c.args.self.now.is_job.x1_ok) }
