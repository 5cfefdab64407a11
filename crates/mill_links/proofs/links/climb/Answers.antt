use Rattle.std.proofs.Common.{arith}
use Rattle.std.proofs.lemmas.Int.{ints}
use Rattle.mill_links.specs.Links.{climb}
use Rattle.mill_links.proofs.Stages.{no_climb, none_added}
use Rattle.mill_links.proofs.links.climb.Goals as goal

pub returns-then-from-job-clause-ok : goal.returns-then-from-job-clause-ok
returns-then-from-job-clause-ok c =
    none_added c.args.out.now.items (climb c.args.job.now.fields c.args.from) (no_climb c.args.job.now.fields c.args.from (omega (c.if-from-job.true, arith, ints)))
