use Rattle.mill_job.proofs.Boxes.{are_none}
use Rattle.mill_job.proofs.keep_out.keep_out.Goals as goal

pub returns-in_default-clause-in_range : goal.returns-in_default-clause-in_range
returns-in_default-clause-in_range c = are_none c.args.unit
