use Rattle.std.proofs.Common.{w32, rules}
use Rattle.std.specs.Prelude.{FitsSigned}
use Rattle.std.proofs.lemmas.Int.{to_z-of_z}
use Rattle.mill_run.proofs.plan.line_of_plan.Goals as goal

pub returns : goal.returns
returns c =
    let left_fits : FitsSigned w32 c.args.planned.now.most_left = search rules in
    simp to_z-of_z at c.line_of.ensures
