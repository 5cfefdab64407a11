use Rattle.std.proofs.Common.{map, string_bytes, refl}
use Rattle.mill_report_run.specs.Words.{request_of}
use Rattle.mill_report_run.proofs.Taken.{no_request}
use Rattle.mill_report_run.proofs.Telling.{refused_outcome, served_outcome}
use Rattle.mill_report_run.proofs.program.work.Goals as goal

pub returns-in-Ok-clause-outcome : goal.returns-in-Ok-clause-outcome
returns-in-Ok-clause-outcome g c = served_outcome _ _ (request_of c.in-Ok.asked) c.in-Ok.ensures.reads c.serve.ensures

pub returns-in-Ok-clause-untouched : goal.returns-in-Ok-clause-untouched
returns-in-Ok-clause-untouched g c = λ untaken. absurd (no_request (map string_bytes c.args.words.now) (request_of c.in-Ok.asked) untaken c.in-Ok.ensures.reads)

pub returns-in-Err-clause-outcome : goal.returns-in-Err-clause-outcome
returns-in-Err-clause-outcome g c = refused_outcome _ _ c.in-Err.refusal c.in-Err.ensures.reads refl c.tell_refusal.ensures
