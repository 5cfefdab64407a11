use Rattle.std.proofs.Common.{w32, rules, sym, ◌∙◌}
use Rattle.std.specs.Prelude.{FitsSigned}
use Rattle.std.proofs.lemmas.Int.{to_z-of_z}
use Rattle.mill_answer.proofs.Margins.{no_margins, some_margins}
use Rattle.mill_answer.proofs.print.line_with_margins.Goals as goal

pub returns-then-has_no_margin : goal.returns-then-has_no_margin
returns-then-has_no_margin c =
    let overcut_fits : FitsSigned w32 c.args.overcut = search rules in
    let slack_fits : FitsSigned w32 c.args.slack = search rules in
    let exact = simp to_z-of_z at (sym c.has_no_margin.ensures ∙ c.if-has_no_margin.true) in
    rw (no_margins c.args.unit c.args.overcut c.args.slack exact) c.line_of.ensures

pub returns : goal.returns
returns c =
    let overcut_fits : FitsSigned w32 c.args.overcut = search rules in
    let slack_fits : FitsSigned w32 c.args.slack = search rules in
    let told = simp to_z-of_z at (sym c.has_no_margin.ensures ∙ c.if-has_no_margin.false) in
    rw (some_margins c.args.unit c.args.overcut c.args.slack told) (simp to_z-of_z at c.line_of-2.ensures)
