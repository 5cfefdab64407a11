use Rattle.std.proofs.Common.{◌∙◌}
use Rattle.mill_job.proofs.Holding.{is_there}
use Rattle.mill_job.proofs.holder.has.Goals as goal

pub returns : goal.returns
returns c = c.is_some.ensures ∙ is_there _ c.find.result _ c.find.ensures
