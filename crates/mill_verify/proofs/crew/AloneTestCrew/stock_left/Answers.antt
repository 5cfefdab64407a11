use Rattle.mill_verify.proofs.SameTests.{rows_told}
use Rattle.mill_verify.proofs.crew.AloneTestCrew.stock_left.Goals as goal

pub returns : goal.returns
returns c = rows_told c.args.job.now.fields c.args.part.now c.args.rows.now c.scan_rows.result c.requires.rows_ok c.scan_rows.ensures
