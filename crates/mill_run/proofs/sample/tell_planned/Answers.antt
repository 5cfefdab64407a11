use Rattle.std.proofs.Common.{◌≡◌, ◌∙◌, [], rules, sym, w32}
use Rattle.std.specs.Prelude.{FitsSigned, IfOk}
use Rattle.std.proofs.lemmas.Int.{to_z-of_z}
use Rattle.mill_plan.specs.Plans.{done}
use Rattle.mill_run.specs.Sample.{sample_line}
use Rattle.mill_run.proofs.Samples.{sample_still, verdict_tries}
use Rattle.mill_run.proofs.sample.tell_planned.Goals as goal

pub returns-in-Ok-Accept : goal.returns-in-Ok-Accept
returns-in-Ok-Accept g c =
    let told = c.in-Ok-Accept in
    let left_fits : FitsSigned w32 told.most_left = search rules in
    let line : IfOk c.line_of_sample-line.result (λ line. line.items ≡ sample_line c.args.size (done [] told.moves told.columns told.most_left)) =
    simp to_z-of_z at c.line_of_sample-line.ensures in
    verdict_tries c.args.size _ _ _ c.args.job.now.fields c.args.part.now c.args.planned.now told.moves told.columns told.most_left c.line_of_sample-line.result c.requires.sample_ok c.requires.planned_ok
    (sym told.field-0-is ∙ told.ensures) line c.tell_made.ensures

pub verified-requires-clause-still : goal.verified-requires-clause-still
verified-requires-clause-still g c κs within = sample_still c.args.size c.args.job.now.fields c.args.part.now c.requires.sample_ok
