use Rattle.std.proofs.Common.{sym}
use Rattle.mill_run.specs.Answers.{judged_files}
use Rattle.mill_run.proofs.Serving.{made_prints}
use Rattle.mill_run.proofs.rest.tell_line_of_list.Goals as goal

pub returns : goal.returns
returns g c =
    let listed = c.args.listed.now in
    made_prints c.line_of_list_verdict-line.result (judged_files listed.job.fields listed.part listed.steps.items listed.files.items c.args.verdict) _ _ _ _ (sym c.status_of.ensures)
    (rw c.deref.ensures.value at c.line_of_list_verdict-line.ensures) c.tell_made.ensures
