use Rattle.mill_dexel.specs.Tops.{stock_after, uncut}
use Rattle.mill_verify.proofs.Accepted.{accepted_is_safe}
use Rattle.mill_verify.proofs.Starts.{job_rows}
use Rattle.mill_verify.proofs.program.verdict_on_stock.Goals as goal

pub stock_left-requires-clause-rows_ok : goal.stock_left-requires-clause-rows_ok
stock_left-requires-clause-rows_ok g c = job_rows c.args.job.now.fields c.args.moves.now c.args.rows.now c.args.job.now.is_job c.requires.rows_ok

pub returns-clause-verdict : goal.returns-clause-verdict
returns-clause-verdict g c =
    c.last_verdict.ensures.verdict c.args.part.now c.requires.good (c.stock_left.ensures (stock_after c.args.job.now.fields (uncut c.args.job.now.fields) c.args.moves.now) c.requires.rows_ok)

pub returns-clause-safe : goal.returns-clause-safe
returns-clause-safe g c = λ count columns left e.
    let verdict = c.last_verdict.ensures.verdict c.args.part.now c.requires.good (c.stock_left.ensures (stock_after c.args.job.now.fields (uncut c.args.job.now.fields) c.args.moves.now) c.requires.rows_ok) in
    accepted_is_safe c.args.job.now.fields c.args.part.now c.args.moves.now c.last_verdict.result c.args.job.now.is_job c.requires.moves_ok verdict count columns left e
