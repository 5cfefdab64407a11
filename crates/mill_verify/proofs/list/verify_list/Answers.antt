use Rattle.std.proofs.Common.{◌≡◌}
use Rattle.mill_verify.specs.Files.{file_at, job_of, stock_before}
use Rattle.mill_verify.specs.Verdicts.{NamesLeaf}
use Rattle.mill_verify.specs.declared.list.ListVerdict.TheVariants.{Accept, Reject}
use Rattle.mill_verify.proofs.Listing.{as_rejected}
use Rattle.mill_verify.proofs.SafeFiles.{accepted_are_safe}
use Rattle.mill_verify.proofs.list.verify_list.Goals as goal

pub returns-in-Ok-clause-safe : goal.returns-in-Ok-clause-safe
returns-in-Ok-clause-safe g c count moves columns left e =
    let same : c.last_verdict.result ≡ Accept count moves columns left = cc in
    accepted_are_safe c.args.job.now.fields c.args.part.now c.args.files.now c.args.job.now.is_job c.requires.files_ok c.last_verdict.result c.last_verdict.ensures.verdict count moves columns left same

pub returns-in-Ok-clause-blocked : goal.returns-in-Ok-clause-blocked
returns-in-Ok-clause-blocked g c file reason e =
    let same : c.last_verdict.result ≡ Reject file reason = cc in
    absurd (c.last_verdict.ensures.not_rejected file reason same)

pub returns-in-Err-clause-blocked : goal.returns-in-Err-clause-blocked
returns-in-Err-clause-blocked g c file reason e =
    let stopped = rw c.in-Err.is at c.in_ok-rows.ensures in
    let same : Reject c.in-Err.stop.file c.in-Err.stop.reason ≡ Reject file reason = cc in
    as_rejected (λ f r. NamesLeaf (job_of c.args.job.now.fields (file_at c.args.files.now f)) c.args.part.now (stock_before c.args.job.now.fields c.args.files.now f) (file_at c.args.files.now f).moves r)
    c.in-Err.stop.file file c.in-Err.stop.reason reason same stopped.stops.names
