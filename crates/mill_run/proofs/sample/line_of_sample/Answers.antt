use Rattle.std.proofs.Common.{w32, rules}
use Rattle.std.specs.Prelude.{FitsSigned}
use Rattle.std.proofs.lemmas.Int.{to_z-of_z}
use Rattle.mill_run.proofs.sample.line_of_sample.Goals as goal

pub returns : goal.returns
returns c =
    let left_fits : FitsSigned w32 c.args.most_left = search rules in
    simp (c.from.ensures, c.from-2.ensures, to_z-of_z) at c.line_of.ensures
