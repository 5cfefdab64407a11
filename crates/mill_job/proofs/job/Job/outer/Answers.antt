use Rattle.std.proofs.Common.{ap}
use Rattle.mill_job.specs.Solids.{solids_of}
use Rattle.mill_job.specs.declared.solids.Solids.{Solids}
use Rattle.mill_job.proofs.job.Job.outer.Goals as goal

pub returns : goal.returns
unfolding solids_of
returns c = ap (λ (s : Solids). s.outer) c.args.self.now.are_solids
