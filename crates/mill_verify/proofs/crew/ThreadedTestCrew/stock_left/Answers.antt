use Rattle.mill_verify.proofs.SameTests.{rows_told}
use Rattle.mill_verify.proofs.crew.ThreadedTestCrew.stock_left.Goals as goal

pub returns : goal.returns
returns g c = rows_told c.args.job.now.fields c.args.part.now c.args.rows.now c.rows_left.result c.requires.rows_ok c.rows_left.ensures
