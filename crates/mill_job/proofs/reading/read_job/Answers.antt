use Rattle.std.proofs.lemmas.Result.{err_from_is_err_and}
use Rattle.mill_job.specs.Answered.{fields_of}
use Rattle.mill_job.proofs.reading.read_job.Goals as goal

pub returns-in_err-fields : goal.returns-in_err-fields
unfolding fields_of
returns-in_err-fields c =
    let answer = err_from_is_err_and c.from_residual.result c.from_residual.ensures.1 in
    rw (answer.1, answer.2) c.in_err-fields.ensures.gives

pub returns : goal.returns
unfolding fields_of
returns c = rw c.new.ensures c.in_ok-fields.ensures.gives
