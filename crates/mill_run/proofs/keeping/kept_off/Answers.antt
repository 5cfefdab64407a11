use Rattle.std.proofs.Common.{sym}
use Rattle.mill_run.proofs.Fixtures.{no_fixture}
use Rattle.mill_run.proofs.keeping.kept_off.Goals as goal

pub returns-then-is_empty : goal.returns-then-is_empty
returns-then-is_empty c =
    let fields = c.args.job.now.fields in
    sym (c.no_fixtures_no_more.ensures fields c.args.part (no_fixture fields.keep_out c.fixtures.result.now c.is_empty.result c.fixtures.ensures.list c.is_empty.ensures c.if-is_empty.true))
