use Rattle.std.proofs.Common.{◌+◌, arith}
use Rattle.mill_dexel.specs.Stocks.{shown_by}
use Rattle.mill_verify.proofs.Ranges.{rows_few}
use Rattle.mill_verify.proofs.Remaining.{both_told}
use Rattle.mill_verify.proofs.left.+fn-rows_left-join+arg2+fn-rows_left-join+arg3+rows_left.Goals as goal

pub share-requires-clause-count_ok : goal.share-requires-clause-count_ok
share-requires-clause-count_ok g t c = omega (arith, rows_few c.args.job.now.is_job, c.requires.ready.rows_ok.shows.count)

pub returns : goal.returns
returns g t c =
    both_told c.args.job.now.fields c.args.part.now (shown_by c.args.rows.now) c.args.start (c.args.start + c.share.result) c.args.«end» c.join-left.result.0 c.join-left.result.1 c.both.result (omega arith) (omega arith)
    c.join-left.ensures.first c.join-left.ensures.second c.both.ensures
