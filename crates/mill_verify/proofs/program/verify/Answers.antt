use Rattle.std.proofs.Common.{◌≡◌, subst}
use Rattle.mill_dexel.specs.Tops.{stock_after, uncut}
use Rattle.mill_verify.specs.Verdicts.{NamesLeaf}
use Rattle.mill_verify.specs.declared.verdict.Reason.{Reason}
use Rattle.mill_verify.specs.declared.verdict.Verdict.TheVariants.{Accept, Reject}
use Rattle.mill_verify.proofs.Accepted.{accepted_is_safe}
use Rattle.mill_verify.proofs.Starts.{job_rows}
use Rattle.mill_verify.proofs.program.verify.Goals as goal

pub stock_left-left-requires-clause-rows_ok : goal.stock_left-left-requires-clause-rows_ok
stock_left-left-requires-clause-rows_ok g c =
    let passed = rw c.in-Ok.is at c.in_ok-rows.ensures in
    rw c.deref.ensures.value (job_rows c.args.job.now.fields c.args.moves.now c.in-Ok.rows.items c.args.job.now.is_job passed.shows)

pub returns-in-Ok-clause-verdict : goal.returns-in-Ok-clause-verdict
returns-in-Ok-clause-verdict g c =
    let passed = rw c.in-Ok.is at c.in_ok-rows.ensures in
    c.last_verdict.ensures.verdict c.args.part.now passed.good (c.stock_left-left.ensures (stock_after c.args.job.now.fields (uncut c.args.job.now.fields) c.args.moves.now) (rw c.deref.ensures.value passed.shows))

pub returns-in-Ok-clause-safe : goal.returns-in-Ok-clause-safe
returns-in-Ok-clause-safe g c = λ count columns left e.
    let passed = rw c.in-Ok.is at c.in_ok-rows.ensures in
    let verdict = c.last_verdict.ensures.verdict c.args.part.now passed.good (c.stock_left-left.ensures (stock_after c.args.job.now.fields (uncut c.args.job.now.fields) c.args.moves.now) (rw c.deref.ensures.value passed.shows)) in
    let same : c.last_verdict.result ≡ Accept count columns left = cc in
    accepted_is_safe c.args.job.now.fields c.args.part.now c.args.moves.now c.last_verdict.result c.args.job.now.is_job c.requires.moves_ok verdict count columns left same

pub returns-in-Ok-clause-blocked : goal.returns-in-Ok-clause-blocked
returns-in-Ok-clause-blocked g c = λ reason e.
    let same : c.last_verdict.result ≡ Reject reason = cc in
    c.last_verdict.ensures.blocked c.args.part.now reason same

pub returns-clause-blocked : goal.returns-clause-blocked
returns-clause-blocked g c = λ reason e.
    let stopped = rw c.in-Err.is at c.in_ok-rows.ensures in
    let same : c.in-Err.reason ≡ reason = cc in
    subst (λ (r : Reason). NamesLeaf c.args.job.now.fields c.args.part.now (uncut c.args.job.now.fields) c.args.moves.now r) same stopped.names
