use Rattle.std.proofs.Common.{Err, rules, w32}
use Rattle.std.specs.Prelude.{FitsSigned}
use Rattle.std.proofs.lemmas.Int.{to_z-of_z}
use Rattle.mill_load.specs.declared.load.LoadFault.TheVariants.{Unfit}
use Rattle.mill_load.specs.declared.load.Unfit.TheVariants.{PartTop}
use Rattle.mill_load.specs.Loads.{JoinsPart}
use Rattle.mill_load.proofs.Reading.{high_joined}
use Rattle.mill_load.proofs.load.setup_from.Goals as goal

pub returns-in-Some-clause-told : goal.returns-in-Some-clause-told
returns-in-Some-clause-told c =
    let height_fits : FitsSigned w32 c.in-Some.height = search rules in
    let top_fits : FitsSigned w32 c.args.job.fields.top = search rules in
    let high : JoinsPart c.args.job.fields c.args.part (Err (Unfit (PartTop c.in-Some.height c.args.job.fields.top c.args.job.fields.unit))) = high_joined c.args.job.fields c.args.part c.in-Some.height c.in-Some.ensures in
    simp to_z-of_z high
