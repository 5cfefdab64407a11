use Rattle.std.proofs.Common.{arith}
use Rattle.std.proofs.lemmas.Int.{ints}
use Rattle.mill_base.proofs.Ranges.{greatest_of-le}
use Rattle.mill_job.proofs.job.Job.column_x.Goals as goal

pub position-requires-clause-first_ok : goal.position-requires-clause-first_ok
position-requires-clause-first_ok c = record { within = omega (arith, ints, greatest_of-le c.args.self.now.fields.unit, c.args.self.now.is_job.x0_ok) }

pub position-requires-clause-last_ok : goal.position-requires-clause-last_ok
position-requires-clause-last_ok c = record { within = omega (arith, ints, greatest_of-le c.args.self.now.fields.unit, c.args.self.now.is_job.x1_ok) }

-- It lies between the ends of its area, which are in range.
pub returns-clause-in_range : goal.returns-clause-in_range
returns-clause-in_range c = record { within = omega (arith, ints, greatest_of-le c.args.self.now.fields.unit, c.args.self.now.is_job.x0_ok, c.args.self.now.is_job.x1_ok) }
