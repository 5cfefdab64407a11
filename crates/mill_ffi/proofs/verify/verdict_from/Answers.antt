use Rattle.std.proofs.Common.{◌≡◌, Err, refl}
use Rattle.std.proofs.lemmas.Result.{err_from_is_err_and}
use Rattle.mill_ffi.proofs.Setups.{program_stops}
use Rattle.mill_ffi.proofs.verify.verdict_from.Goals as goal

pub returns-in_err-moves-clause-cause : goal.returns-in_err-moves-clause-cause
returns-in_err-moves-clause-cause c =
    let p = err_from_is_err_and c.from_residual-in_err-moves.result c.from_residual-in_err-moves.ensures.1 in
    let is : c.from_residual-in_err-moves.result ≡ Err c.in_err-moves.field-0.0 = rw (p.1, p.2) refl in
    let stop = c.in_err-moves.field-0.0 in
    rw is (program_stops c.args.job.now c.args.part.now stop.told stop.fault c.args.program.now c.in_ok-setup.setup.job.fields c.in_ok-setup.setup.part c.in_ok-setup.ensures.reads c.in_err-moves.ensures.cause)
