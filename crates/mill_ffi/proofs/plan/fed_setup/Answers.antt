use Rattle.std.proofs.Common.{inl}
use Rattle.mill_ffi.proofs.Setups.{unread_job, unread_part}
use Rattle.mill_ffi.proofs.plan.fed_setup.Goals as goal

pub returns-in-Err-clause-cause : goal.returns-in-Err-clause-cause
returns-in-Err-clause-cause c =
    let stop = c.in-Err.stop in
    inl (rw c.unread.ensures (unread_job c.args.job.now c.args.part.now stop.told stop.fault c.in-Err.ensures.cause))

pub returns-in-Err-setup_for-clause-cause : goal.returns-in-Err-setup_for-clause-cause
returns-in-Err-setup_for-clause-cause c =
    let stop = c.in-Err-setup_for.stop in
    inl (rw c.unread-in-Err-setup_for.ensures (unread_part c.args.job.now c.args.part.now stop.told stop.fault c.in-Ok.job.fields c.in-Ok.ensures.reads c.if-job.false c.in-Err-setup_for.ensures.cause))
