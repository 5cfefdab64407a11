use Rattle.mill_run.proofs.SampleParts.{sample_ready}
use Rattle.mill_run.proofs.sample_part.sample_setup.Goals as goal

pub returns : goal.returns
returns c =
    sample_ready c.args.size c.sample_job.result.fields c.in_ok-sample_part.field-0 c.requires c.sample_job.ensures c.in_ok-sample_part.ensures
