use Rattle.mill_ffi.proofs.Setups.{setup_stops}
use Rattle.mill_ffi.proofs.setup.setup_from.Goals as goal

pub returns-clause-cause : goal.returns-clause-cause
returns-clause-cause c =
    setup_stops c.args.job_text.now c.args.part_text.now c.in_ok-job.job.fields c.setup_for.result c.in_ok-job.ensures.reads c.setup_for.ensures.cause
