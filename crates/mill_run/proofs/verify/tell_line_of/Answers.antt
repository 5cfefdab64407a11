use Rattle.std.proofs.Common.{sym}
use Rattle.mill_run.specs.Answers.{judged}
use Rattle.mill_run.proofs.Serving.{made_prints}
use Rattle.mill_run.proofs.verify.tell_line_of.Goals as goal

pub returns : goal.returns
returns g c =
    let loaded = c.args.loaded.now in
    made_prints c.line_of_verdict-line.result (judged loaded.job.fields loaded.part loaded.moves.items c.args.verdict) _ _ _ _ (sym c.status_of_verdict.ensures)
    (rw c.deref.ensures.value at c.line_of_verdict-line.ensures) c.tell_made.ensures
