use Rattle.mill_job.proofs.NoUnit.{means_without, is_in_hundredths}
use Rattle.mill_job.proofs.laws.unit_left_out.Goals as goal

pub returns-clause-same : goal.returns-clause-same
returns-clause-same c = means_without

pub returns-clause-unit : goal.returns-clause-unit
returns-clause-unit c = is_in_hundredths
