use Rattle.std.proofs.Common.{◌∙◌, rules, w32}
use Rattle.std.specs.Prelude.{FitsSigned}
use Rattle.std.proofs.lemmas.Int.{to_z-of_z}
use Rattle.std.proofs.lemmas.Result.{IfOk-weaker}
use Rattle.mill_run.proofs.Rests.{accepted_line}
use Rattle.mill_run.proofs.rest.line_of_acceptance.Goals as goal

pub returns : goal.returns
returns c =
    let job = c.args.job.now.fields in
    let left_fits : FitsSigned w32 c.args.most_left = search rules in
    let overcut_fits : FitsSigned w32 job.overcut = search rules in
    let slack_fits : FitsSigned w32 job.slack = search rules in
    IfOk-weaker c.line_with_margins.result _ _
    (λ made is. is ∙ accepted_line job c.args.files c.args.moves c.args.columns _ c.args.most_left _ _ _ c.from.ensures (to_z-of_z w32 c.args.most_left left_fits)
    (to_z-of_z w32 job.overcut overcut_fits) (to_z-of_z w32 job.slack slack_fits))
    c.line_with_margins.ensures
