use Rattle.std.proofs.Common.{arith}
use Rattle.std.proofs.lemmas.Grind.{common_steps}
use Rattle.mill_dexel.proofs.RowLaws.{turned_is_row}
use Rattle.mill_dexel.proofs.row.Row.cut_after.Goals as goal

pub returns-clause-row : goal.returns-clause-row
returns-clause-row c = turned_is_row c.args.job.now.fields c.args.self.now _ c.args.step.now (grind (arith, common_steps)) c.requires.row
