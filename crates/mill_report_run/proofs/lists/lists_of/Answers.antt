use Rattle.mill_report_run.proofs.Nothing.{nothing_listed}
use Rattle.mill_report_run.specs.inner.Sources.{texts_of_sources}
use Rattle.mill_report_run.proofs.lists.lists_of.Goals as goal

pub returns-in-Accept : goal.returns-in-Accept
returns-in-Accept c =
    rw c.in-Accept.is
    (nothing_listed c.args.job.now.fields c.args.part.now c.args.moves.now c.in-Accept.moves c.in-Accept.columns c.in-Accept.most_left (rw c.in-Accept.is at c.requires.verdict) (texts_of_sources c.args.sources.now)
    c.no_lists.result c.no_lists.ensures.failing c.no_lists.ensures.left c.no_lists.ensures.too_high)
