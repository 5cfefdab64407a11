use Rattle.std.proofs.Common.{map, string_bytes, refl}
use Rattle.mill_command.specs.Requests.{request_of}
use Rattle.mill_run.proofs.Serving.{served_outcome, refused_outcome}
use Rattle.mill_run.proofs.Taken.{asks_sample}
use Rattle.mill_run.proofs.commands.work.Goals as goal

pub returns-in-Ok-clause-outcome : goal.returns-in-Ok-clause-outcome
returns-in-Ok-clause-outcome g c = served_outcome _ (request_of c.in-Ok.command) _ c.in-Ok.ensures.reads c.serve.ensures.served

pub returns-in-Ok-clause-untouched : goal.returns-in-Ok-clause-untouched
returns-in-Ok-clause-untouched g c = λ none.
    let asked = asks_sample (map string_bytes c.args.words.now) (request_of c.in-Ok.command) none c.in-Ok.ensures.reads in
    c.serve.ensures.untouched asked.0 asked.1 asked.2

pub returns-in-Err-clause-outcome : goal.returns-in-Err-clause-outcome
returns-in-Err-clause-outcome g c = refused_outcome _ _ c.in-Err.refusal c.in-Err.ensures.reads refl c.tell_refusal.ensures
